-- A reply depends only on the calls and the plan rows at or below the caller's level.
use Rattle.std.proofs.Common.{◌≡◌, ℕ, List, [], ◌∷◌, length, Bool, true, false, Option, Some, None, refl, ap, ap₂, ◌∙◌, inl, inr, arith}
use Rattle.std.specs.Prelude.{filter, ◌==◌, if◌then◌else◌, slice_get, unwrap_or}
use Rattle.std.specs.Option.{option_map}
use Rattle.std.proofs.lemmas.Bool.Decides.{nat_tests}
use Rattle.levels.specs.declared.level.Level.{Level}
use Rattle.levels.specs.declared.level.Party.TheVariants.{Manager}
use Rattle.levels.specs.Rosters.{RosterView}
use Rattle.file_calls.specs.Spelling.{call_of}
use Rattle.untrusted_store.specs.declared.plan.StoreAction.{StoreAction}
use Rattle.untrusted_store.specs.declared.plan.StoreAction.TheVariants.{Honest}
use Rattle.untrusted_store.specs.declared.plan.PlanRow.{PlanRow}
use Rattle.untrusted_store.specs.Planned.{actions}
use Rattle.machine.specs.Setup.{Setup}
use Rattle.machine.specs.Low.{is_low, low_rows}
use Rattle.machine.specs.Files.{CallRow, Directory, Files, written, next_version, files}
use Rattle.machine.specs.Replies.{Question, Sight, sight, is_below, question_by, reply_with}
use Rattle.machine.specs.Plan.{question_of, question_count, next_action, is_intact, intact_content, reply}
use Rattle.machine.proofs.Basics.{bool_cases}
use Rattle.machine.proofs.Levels.{below_low}
use Rattle.machine.proofs.Questions.{asked_below}

abbrev pub is_low_at : RosterView → Level → ℕ → Bool
is_low_at roster level p = is_low roster level (Manager (record { 0 = p }))

abbrev pub is_low_call : RosterView → Level → CallRow → Bool
is_low_call roster level c = is_low_at roster level c.level

abbrev pub low_calls : RosterView → Level → List CallRow → List CallRow
low_calls roster level cs = filter (is_low_call roster level) cs

-- the setup of the low part
abbrev pub low_setup : Level → Setup → Setup
low_setup level m = record {
  roster = m.roster;
  keys = m.keys;
  guard = m.guard;
  sealed = m.sealed;
  rows = low_rows m.roster level m.rows;
  ahead = m.ahead;
}

other_level : (roster : RosterView) (level : Level) (p q : ℕ) → is_low_at roster level q ≡ true
    → is_low_at roster level p ≡ false → (p == q) ≡ false
other_level roster level p q low high = elim (bool_cases (p == q)) [
  | inl here ↦ (let same : p ≡ q = grind (arith, nat_tests) in let clash : is_low_at roster level p ≡ true =
      ap (is_low_at roster level) same ∙ low in cc)
  | inr other ↦ other
]

files_low : (roster : RosterView) (level : Level) (q : ℕ) (cs : List CallRow) → is_low_at roster level q ≡ true
    → files q (low_calls roster level cs) ≡ files q cs
files_low roster level q [] low = refl
files_low roster level q (c ∷ before) low = elim (bool_cases (is_low_call roster level c)) [
  | inl kept ↦ rw (kept, files_low roster level q before low)
  | inr lost ↦ rw (lost, other_level roster level c.level q low lost) (files_low roster level q before low)
]

names_low : (roster : RosterView) (level : Level) (p : ℕ) (cs : List CallRow) → is_low_at roster level p ≡ true
    → (q : ℕ) → (sight roster p (low_calls roster level cs)).below q ≡ (sight roster p cs).below q
names_low roster level p cs low q = elim (bool_cases (is_below roster q p)) [
  | inl below ↦ rw (below, files_low roster level q cs (below_low roster level q p below low))
  | inr above ↦ rw above
]

abbrev seen : Files → (ℕ → Option Directory) → Sight
seen own below = record { own = own.names; next = next_version (length own.writes); below = below }

sight_low : (roster : RosterView) (level : Level) (p : ℕ) (cs : List CallRow) → is_low_at roster level p ≡ true
    → sight roster p (low_calls roster level cs) ≡ sight roster p cs
sight_low roster level p cs low =
    let names : (sight roster p (low_calls roster level cs)).below ≡ (sight roster p cs).below =
    λ i q. names_low roster level p cs low q i in
    ap₂ seen (files_low roster level p cs low) names

asked_low : (roster : RosterView) (level : Level) (cs : List CallRow) (c : CallRow)
    → is_low_call roster level c ≡ true
    → question_of roster (low_calls roster level cs) c ≡ question_of roster cs c
asked_low roster level cs c low =
    ap (λ s. question_by s (call_of c.message)) (sight_low roster level c.level cs low)

questions_low : (roster : RosterView) (level : Level) (p : ℕ) (cs : List CallRow)
    → is_low_at roster level p ≡ true
    → question_count roster p (low_calls roster level cs) ≡ question_count roster p cs
questions_low roster level p [] low = refl
questions_low roster level p (c ∷ before) low = elim (bool_cases (is_low_call roster level c)) [
  | inl kept ↦ rw (kept, questions_low roster level p before low, asked_low roster level before c kept)
  | inr lost ↦ rw (lost, other_level roster level c.level p low lost) (questions_low roster level p before low)
]

actions_low : (roster : RosterView) (level : Level) (p : ℕ) (rows : List PlanRow)
    → is_low_at roster level p ≡ true → actions (low_rows roster level rows) p ≡ actions rows p
actions_low roster level p [] low = refl
actions_low roster level p (row ∷ rows) low = elim (bool_cases (is_low roster level (Manager row.reader))) [
  | inl kept ↦ elim (bool_cases (row.reader.0 == p)) [
    | inl own ↦ rw (kept, own, actions_low roster level p rows low)
    | inr other ↦ rw (kept, other, actions_low roster level p rows low)
  ]
  | inr lost ↦ rw (lost, other_level roster level row.reader.0 p low lost) (actions_low roster level p rows low)
]

action_low : (m : Setup) (level : Level) (p : ℕ) (cs : List CallRow) → is_low_at m.roster level p ≡ true
    → next_action (low_setup level m) (low_calls m.roster level cs) p ≡ next_action m cs p
unfolding next_action
action_low m level p cs low =
    ap₂ (λ (xs : List StoreAction) (k : ℕ). unwrap_or (slice_get xs k) Honest)
    (actions_low m.roster level p m.rows low) (questions_low m.roster level p cs low)

content_low : (roster : RosterView) (level : Level) (action : StoreAction) (cs : List CallRow) (c : CallRow)
    (o : Option Question) → question_of roster cs c ≡ o → is_low_call roster level c ≡ true
    → intact_content action (low_calls roster level cs) o ≡ intact_content action cs o
content_low roster level action cs c None is low = refl
content_low roster level action cs c (Some b) is low =
    ap (λ (fs : Files). if is_intact action b then option_map (λ w. w.content) (written fs.writes b.version)
    else None)
    (files_low roster level b.level cs
    (below_low roster level b.level c.level (asked_below roster cs c b is) low))

pub reply_low : (m : Setup) (level : Level) (cs : List CallRow) (c : CallRow)
    → is_low_call m.roster level c ≡ true → reply (low_setup level m) (low_calls m.roster level cs) c
    ≡ reply m cs c
unfolding reply
reply_low m level cs c low =
    let action = action_low m level c.level cs low in
    let block = asked_low m.roster level cs c low in
    ap₂ (λ (s : Sight) (opened : Option (List ℕ)). reply_with s opened (call_of c.message))
    (sight_low m.roster level c.level cs low)
    (ap₂ (λ (a : StoreAction) (o : Option Question). intact_content a (low_calls m.roster level cs) o) action
    block
    ∙ content_low m.roster level (next_action m cs c.level) cs c (question_of m.roster cs c) refl low)
