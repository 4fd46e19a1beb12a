-- Lines that nothing is against, and what stands behind lines.
use Rattle.std.proofs.Common.{◌≡◌, List, [], ◌∷◌, ◌++◌, Bool, true, false, cond, not, Option, Some, None, refl, sym, ap, subst, ◌∙◌, inl, inr, append_assoc, ◌⊎◌, ℕ}
use Rattle.std.specs.List.{AllByRecursion, flat_map}
use Rattle.std.proofs.lemmas.List.Concat.{flat_map-append}
use Rattle.std.proofs.lemmas.List.{append-nil}
use Rattle.script.specs.declared.refusal.Reason.{Reason}
use Rattle.script.specs.declared.refusal.Reason.TheVariants as why
use Rattle.script.specs.Lines.{Line}
use Rattle.script.specs.Spelling.{line_text, ended_text}
use Rattle.script.specs.Ranges.{HasRanges}
use Rattle.script.specs.Facts.{kind_of, Facts, facts}
use Rattle.script.specs.Reasons.{may_follow, has_names, is_new, has_room, has_good_keys, against, AreFree, BeginsWith, Spells}
use Rattle.script.proofs.Tools.{some_same}
use Rattle.script.proofs.Order.{Stand, stand_first, stand_push}

-- ---- no line, one more line

no_lines : (above : List Line) (next : Line) (below : List Line) → [] ≡ above ++ next ∷ below → ⊥
no_lines [] next below e = absurd cc
no_lines (a ∷ above) next below e = absurd cc

pub free_none : AreFree []
free_none above next below e = absurd (no_lines above next below e)

-- where one of some lines and one more stands: it is the last, or one of the others
last_or_before : (lines : List Line) (last : Line) (above : List Line) (next : Line)
    (below : List Line)
    → lines ++ last ∷ [] ≡ above ++ next ∷ below
    → ((lines ≡ above) × (last ≡ next)) ⊎ ((less : List Line) × (lines ≡ above ++ next ∷ less))
last_or_before [] last [] next below e = inl (refl, cc)
last_or_before [] last (a ∷ above) next below e = absurd (no_lines above next below cc)
last_or_before (x ∷ lines) last [] next below e =
    let same : x ≡ next = cc in
    inr (lines, ap (λ (y : Line). y ∷ lines) same)
last_or_before (x ∷ lines) last (a ∷ above) next below e =
    let same : x ≡ a = cc in
    let more : lines ++ last ∷ [] ≡ above ++ next ∷ below = cc in
    elim (last_or_before lines last above next below more) [
      | inl is ↦ inl (cc (is.0, same), is.1)
      | inr before ↦ inr (before.0, cc (before.1, same))
    ]

pub free_push : (lines : List Line) (last : Line) → AreFree lines
    → against (facts lines) last ≡ None → AreFree (lines ++ last ∷ [])
free_push lines last free now above next below e =
    elim (last_or_before lines last above next below e) [
      | inl is ↦ rw (← is.0, ← is.1) now
      | inr before ↦ free above next before.0 before.1
    ]

pub all_push : {X : Type 0} (P : X → Type 0) (xs : List X) (x : X) → AllByRecursion P xs → P x
    → AllByRecursion P (xs ++ x ∷ [])
all_push P [] x all now = (now, tt)
all_push P (y ∷ ys) x all now = (all.0, all_push P ys x all.1 now)

pub begins_none : (bytes : List ℕ) → BeginsWith bytes [] bytes
begins_none bytes = record { spelled = refl; ranges = tt; free = free_none }

-- a text begins with one line more
pub begins_push : (bytes : List ℕ) (lines : List Line) (rest text behind : List ℕ) (read : Line)
    → BeginsWith bytes lines rest
    → rest ≡ text ++ 10 ∷ behind → Spells text read → against (facts lines) read ≡ None
    → BeginsWith bytes (lines ++ read ∷ []) behind
begins_push bytes lines rest text behind read begins cut spells free =
    let said = flat_map ended_text lines in
    let one : flat_map ended_text (read ∷ []) ≡ ended_text read = append-nil (ended_text read) in
    let next : rest ≡ ended_text read ++ behind =
    cut ∙ ap (λ (t : List ℕ). t ++ 10 ∷ behind) spells.0
    ∙ sym (append_assoc (line_text read) (10 ∷ []) behind) in
    let all : flat_map ended_text (lines ++ read ∷ []) ≡ said ++ ended_text read =
    flat_map-append ended_text lines (read ∷ []) ∙ ap (λ (t : List ℕ). said ++ t) one in
    record {
      spelled =
          begins.spelled ∙ ap (λ (t : List ℕ). said ++ t) next
          ∙ sym (append_assoc said (ended_text read) behind)
          ∙ ap (λ (t : List ℕ). t ++ behind) (sym all);
      ranges = all_push HasRanges lines read begins.ranges spells.1;
      free = free_push lines read begins.free free;
    }

-- ---- what nothing being against a line says

-- where nothing is against a line, it may stand there and what it names is known
pub allowed : (said : Facts) (next : Line) → against said next ≡ None
    → (may_follow said.roster said.last (kind_of next) ≡ true) × (has_names said next ≡ true)
unfolding against
allowed said next e =
    by_tests (may_follow said.roster said.last (kind_of next)) (has_names said next) _ e
  where
    by_tests : (may known : Bool) (rest : Option Reason)
        → cond (not may) (Some why.Place) (cond (not known) (Some why.Name) rest) ≡ None
        → (may ≡ true) × (known ≡ true)
    by_tests true true rest e = (refl, refl)
    by_tests true false rest e = absurd cc
    by_tests false known rest e = absurd cc

-- no line is refused as `form` or `end` by what stands above it
abbrev pub IsOfLines : Reason → Type 0
IsOfLines why.Form = ⊥
IsOfLines why.End = ⊥
IsOfLines reason = Unit {0}

-- where a test fails, its reason is the first
else_reason : (test : Bool) (first reason : Reason) (rest : Option Reason) → IsOfLines first
    → ((reason : Reason) → rest ≡ Some reason → IsOfLines reason)
    → cond (not test) (Some first) rest ≡ Some reason → IsOfLines reason
else_reason true first reason rest of more e = more reason e
else_reason false first reason rest of more e = subst IsOfLines (some_same first reason e) of

no_reason : (reason : Reason) → None ≡ Some reason → IsOfLines reason
no_reason reason e = absurd cc

pub of_lines : (said : Facts) (next : Line) (reason : Reason) → against said next ≡ Some reason
    → IsOfLines reason
unfolding against
of_lines said next reason e =
    else_reason (may_follow said.roster said.last (kind_of next)) why.Place reason _ tt
    (λ r. else_reason (has_names said next) why.Name r _ tt
    (λ r. else_reason (is_new said next) why.Twice r _ tt
    (λ r. else_reason (has_room said next) why.Many r _ tt
    (λ r. else_reason (has_good_keys said next) why.Key r _ tt no_reason)))) e

-- ---- free lines stand in order

-- what lines say that nothing is against, read on behind others
stand_on : (above more : List Line) → Stand above (facts above) → AreFree (above ++ more)
    → Stand (above ++ more) (facts (above ++ more))
stand_on above [] stand free = rw (append-nil above) stand
stand_on above (next ∷ more) stand free =
    let now = free above next more refl in
    let allows = allowed (facts above) next now in
    let pushed = stand_push above (facts above) next stand allows.0 allows.1 in
    let on : Stand (above ++ next ∷ []) (facts (above ++ next ∷ [])) = rw pushed.says pushed in
    let group : (above ++ next ∷ []) ++ more ≡ above ++ next ∷ more =
    append_assoc above (next ∷ []) more in
    rw (← group) (stand_on (above ++ next ∷ []) more on (rw group free))

pub free_stand : (lines : List Line) → AreFree lines → Stand lines (facts lines)
free_stand lines free = stand_on [] lines stand_first free
