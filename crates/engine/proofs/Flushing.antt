-- The turns of one open batch after another.
use Rattle.std.proofs.Common.{◌≡◌, ◌≢◌, ℕ, ◌+◌, ◌<◌, ◌≤◌, List, Option, refl, sym, ◌∙◌, subst, inl, inr, arith}
use Rattle.seal_core.specs.Sealing.{Sealer}
use Rattle.desk.specs.Batches.{flush}
use Rattle.desk.specs.Views.{DeskView}
use Rattle.desk.specs.Desks.{same}
use Rattle.engine.specs.inside.Standing.{desk_at, SlotMoves, SlotOpen}
use Rattle.engine.proofs.Cases.{nat_cases}

abbrev pub SlotFlushed : Sealer → Option DeskView → Option DeskView → Type 0
SlotFlushed sealed old new = SlotMoves sealed same flush old new

-- the desks below one slot are flushed, and the others are as they were
pub record FlushedBelow (sealed : Sealer) (n : ℕ) (old new : List (Option DeskView)) : Type 0 where
  pub moves : (k : ℕ) → k < n → SlotFlushed sealed (desk_at old k) (desk_at new k)
  pub idle : (k : ℕ) → k < n → SlotOpen (desk_at new k)
  pub others : (k : ℕ) → n ≤ k → desk_at new k ≡ desk_at old k

pub none_flushed : (sealed : Sealer) (old : List (Option DeskView)) → FlushedBelow sealed 0 old old
none_flushed sealed old = record {
  moves = λ k lt. absurd (omega (arith, lt));
  idle = λ k lt. absurd (omega (arith, lt));
  others = λ k le. refl;
}

-- one more
pub one_flushed : (sealed : Sealer) (n : ℕ) (old mid new : List (Option DeskView))
    → FlushedBelow sealed n old mid → SlotFlushed sealed (desk_at mid n) (desk_at new n)
    → SlotOpen (desk_at new n) → ((k : ℕ) → k ≢ n → desk_at new k ≡ desk_at mid k)
    → FlushedBelow sealed (n + 1) old new
one_flushed sealed n old mid new before here opened others = record {
  moves = λ k lt. elim (nat_cases k n) [
    | inl last ↦ subst (λ i. SlotFlushed sealed (desk_at old i) (desk_at new i)) (sym last)
        (subst (λ o. SlotFlushed sealed o (desk_at new n)) (before.others n (omega arith)) here)
    | inr earlier ↦ subst (SlotFlushed sealed (desk_at old k)) (sym (others k earlier))
        (before.moves k (omega (arith, lt, earlier)))
  ];
  idle = λ k lt. elim (nat_cases k n) [
    | inl last ↦ subst (λ i. SlotOpen (desk_at new i)) (sym last) opened
    | inr earlier ↦ subst SlotOpen (sym (others k earlier))
        (before.idle k (omega (arith, lt, earlier)))
  ];
  others = λ k le. others k (λ e. absurd (omega (arith, le, e)))
      ∙ before.others k (omega (arith, le));
}
