-- The questions that the store was asked follow the calls, as far as 64 bits count.
use Rattle.std.proofs.Common.{◌≡◌, ℕ, ◌+◌, ◌<◌, ◌≤◌, List, [], ◌∷◌, length, Bool, Option, None, Some, sym, ◌∙◌, ap, inl, inr, arith}
use Rattle.std.specs.Prelude.{if◌then◌else◌, ◌==◌, ◌&&◌, ◌-◌, ◌^◌, min, nat_le, is_some, filter, slice_get, unwrap_or}
use Rattle.std.proofs.lemmas.List.{length-map}
use Rattle.std.proofs.lemmas.Option.{slice_get_past}
use Rattle.std.proofs.lemmas.Bool.Decides.{nat_tests}
use Rattle.levels.specs.declared.level.Party.{Party}
use Rattle.levels.specs.Rosters.{RosterView}
use Rattle.untrusted_store.specs.declared.plan.StoreAction.{StoreAction}
use Rattle.untrusted_store.specs.declared.plan.StoreAction.TheVariants.{Honest}
use Rattle.untrusted_store.specs.declared.plan.PlanRow.{PlanRow}
use Rattle.untrusted_store.specs.Planned.{actions, action_at}
use Rattle.untrusted_store.specs.Telling.{one_more}
use Rattle.file_calls.specs.Spelling.{call_of}
use Rattle.machine.specs.Files.{CallRow}
use Rattle.machine.specs.Replies.{Question, sight, question_by}
use Rattle.machine.specs.Plan.{question_count}
use Rattle.file_manager.specs.Effects.{asked_after}
use Rattle.planned_files.proofs.Options.{bool_cases, and_false, and_true}

-- the greatest number of 64 bits
abbrev most : ℕ
most = 2 ^ 64 - 1

one_more_of : (n : ℕ) → one_more (min n most) ≡ min (n + 1) most
one_more_of n = omega arith

asked_by_one : (p q n : ℕ) (o : Option Question) (new old : ℕ → ℕ)
    → Some new ≡ asked_after p o (Some old) → old q ≡ min n most
    → new q ≡ min (if p == q && is_some o then n + 1 else n) most
asked_by_one p q n None new old told kept =
    let same : new ≡ old = cc in
    ap (λ (f : ℕ → ℕ). f q) same ∙ kept
    ∙ sym (ap (λ b. min (if b then n + 1 else n) most) (and_false (p == q)))
asked_by_one p q n (Some question) new old told kept =
    let asked : ℕ → ℕ = λ other. if p == other then one_more (old other) else old other in
    let same : new ≡ asked = cc in
    let now : new q ≡ asked q = ap (λ (f : ℕ → ℕ). f q) same in
    let both = ap (λ b. min (if b then n + 1 else n) most) (and_true (p == q)) in
    elim (bool_cases (p == q)) [
      | inl here ↦
          now ∙ ap (λ b. if b then one_more (old q) else old q) here ∙ ap one_more kept ∙ one_more_of n
          ∙ sym (both ∙ ap (λ b. min (if b then n + 1 else n) most) here)
      | inr other ↦
          now ∙ ap (λ b. if b then one_more (old q) else old q) other ∙ kept
          ∙ sym (both ∙ ap (λ b. min (if b then n + 1 else n) most) other)
    ]

-- also after one call more
pub asked_after_call : (roster : RosterView) (calls : List CallRow) (caller : Party) (p : ℕ) (message : List ℕ)
    (new old : ℕ → ℕ)
    → Some new ≡ asked_after p (question_by (sight roster p calls) (call_of message)) (Some old)
    → ((q : ℕ) → old q ≡ min (question_count roster q calls) (2 ^ 64 - 1))
    → (q : ℕ)
    → new q
    ≡ min (question_count roster q (record { caller = caller; level = p; message = message } ∷ calls)) (2 ^ 64 - 1)
asked_after_call roster calls caller p message new old told kept q =
    asked_by_one p q (question_count roster q calls) (question_by (sight roster p calls) (call_of message)) new old
    told (kept q)

-- ---- the action for the next question

few_kept : (test : PlanRow → Bool) (rows : List PlanRow) → length (filter test rows) ≤ length rows
few_kept test [] = omega arith
few_kept test (row ∷ rows) = elim (bool_cases (test row)) [
  | inl kept ↦ rw kept (let rest = few_kept test rows in omega (arith, rest))
  | inr out ↦ rw out (let rest = few_kept test rows in omega (arith, rest))
]

few_actions : (rows : List PlanRow) (p : ℕ) → length (actions rows p) ≤ length rows
few_actions rows p =
    let own : List PlanRow = filter (λ row. row.reader.0 == p) rows in
    let same = length-map own (λ (row : PlanRow). row.action) in
    let few = few_kept (λ row. row.reader.0 == p) rows in
    omega (arith, same, few)

-- past the end of a plan it makes no difference how far
past_end : (xs : List StoreAction) (n : ℕ) → length xs ≤ most → most < n
    → unwrap_or (slice_get xs (min n most)) Honest ≡ unwrap_or (slice_get xs n) Honest
past_end xs n few over =
    ap (λ o. unwrap_or o Honest)
    (slice_get_past xs (min n most) (omega arith) ∙ sym (slice_get_past xs n (omega arith)))

pub same_action : (rows : List PlanRow) (p n : ℕ) → length rows < 2 ^ 64
    → action_at rows p (min n (2 ^ 64 - 1)) ≡ action_at rows p n
same_action rows p n few = elim (bool_cases (nat_le n most)) [
  | inl within ↦
      (let below : n ≤ most = grind (arith, nat_tests, within) in
      let same : min n most ≡ n = omega (arith, below) in
      ap (action_at rows p) same)
  | inr past ↦
      (let over : most < n = grind (arith, nat_tests, past) in
      let room = few_actions rows p in
      past_end (actions rows p) n (omega (arith, room, few)) over)
]
