-- What a flush leaves.
use Rattle.std.proofs.Common.{◌≡◌, ◌+◌, ◌≤◌, [], length, true, refl, ◌∙◌, ap, inl, inr, arith}
use Rattle.std.specs.Prelude.{◌==◌}
use Rattle.std.proofs.lemmas.Bool.Decides.{nat_tests}
use Rattle.std.proofs.lemmas.List.{nil_from_length}
use Rattle.desk.specs.Batches.{Batch, Batches, is_empty, flush, nothing}
use Rattle.desk.proofs.Cases.{bool_cases, both_of}

empty_batch : (b : Batch) → is_empty b ≡ true → b ≡ nothing
empty_batch b is =
    let tests = both_of (length b.sends == 0) (length b.frames == 0) is in
    let sends : b.sends ≡ [] = nil_from_length b.sends (grind (arith, nat_tests, tests.0)) in
    let frames : b.frames ≡ [] = nil_from_length b.frames (grind (arith, nat_tests, tests.1)) in
    ap (λ s. record { sends = s; frames = b.frames }) sends ∙ ap (λ f. record { sends = []; frames = f }) frames

pub flushed : (b : Batches) → (flush b).batch ≡ nothing
flushed b = elim (bool_cases (is_empty b.batch)) [
  | inl empty ↦ rw empty (empty_batch b.batch empty)
  | inr some ↦ rw some refl
]

pub flushed_twice : (b : Batches) → flush (flush b) ≡ flush b
flushed_twice b = elim (bool_cases (is_empty b.batch)) [
  | inl empty ↦ let once : flush b ≡ b = rw empty refl in ap flush once
  | inr some ↦ rw some refl
]

pub one_turn : (b : Batches) → length (flush b).made ≤ length b.made + 1
one_turn b = elim (bool_cases (is_empty b.batch)) [
  | inl empty ↦ rw empty (omega arith)
  | inr some ↦ rw some (omega arith)
]
