-- How many turns units made, where a number stays at its greatest value.
use Rattle.std.proofs.Common.{◌≡◌, ℕ, ◌+◌, ◌-◌, ◌^◌, ◌<◌, ◌≤◌, List, length, map, take, get_or, min, Option, None, arith, refl, sym, ap, ◌∙◌}
use Rattle.std.specs.Prelude.{sum}
use Rattle.std.specs.List.{sum_by}
use Rattle.std.proofs.lemmas.List.{take_all}
use Rattle.std.proofs.lemmas.List.Folds.{fold-map}
use Rattle.std.proofs.lemmas.List.Sums.{sum_by_more}
use Rattle.unit_core.specs.Views.{TallyView}
use Rattle.unit_core.specs.Tallies.{capped}
use Rattle.engine.specs.inside.Kept.{counted_by}

abbrev pub turns_counted : Option TallyView → ℕ
turns_counted tally = (counted_by tally).turns

-- the turns of the first i slots
abbrev pub turns_in : ℕ → List (Option TallyView) → ℕ
turns_in i tallies = sum_by turns_counted (take i tallies)

pub no_turns : 0 ≡ capped 0
unfolding capped
no_turns = refl

min_more : (x y most : ℕ) → min (min x most + y) most ≡ min (x + y) most
min_more x y most = omega arith

capped_more : (x y : ℕ) → min (capped x + y) (2 ^ 64 - 1) ≡ capped (x + y)
unfolding capped
capped_more x y = min_more x y (2 ^ 64 - 1)

turns_more : (i : ℕ) (tallies : List (Option TallyView)) (tally : Option TallyView)
    → i < length tallies → tally ≡ get_or tallies i tally
    → turns_in (i + 1) tallies ≡ turns_in i tallies + turns_counted tally
turns_more i tallies tally lt is =
    sum_by_more turns_counted tallies i tally lt
    ∙ ap (λ t. turns_in i tallies + turns_counted t) (sym is)

-- one slot more
pub counts_one : (i : ℕ) (tallies : List (Option TallyView)) (tally : Option TallyView)
    (turns more : ℕ) → i < length tallies → tally ≡ get_or tallies i tally
    → turns ≡ capped (turns_in i tallies) → more ≡ turns_counted tally
    → min (turns + more) (2 ^ 64 - 1) ≡ capped (turns_in (i + 1) tallies)
counts_one i tallies tally turns more lt is before its =
    ap (λ t. min (t + more) (2 ^ 64 - 1)) before
    ∙ capped_more (turns_in i tallies) more
    ∙ ap (λ t. capped (turns_in i tallies + t)) its
    ∙ ap capped (sym (turns_more i tallies tally lt is))

-- a slot without a unit counts nothing
pub counts_none : (i : ℕ) (tallies : List (Option TallyView)) (tally : Option TallyView)
    (turns : ℕ) → i < length tallies → tally ≡ get_or tallies i tally
    → turns ≡ capped (turns_in i tallies) → tally ≡ None
    → turns ≡ capped (turns_in (i + 1) tallies)
counts_none i tallies tally turns lt is before none =
    before ∙ ap capped (sym (turns_more i tallies tally lt is
    ∙ ap (λ t. turns_in i tallies + turns_counted t) none ∙ omega arith))

all_turns : (tallies : List (Option TallyView))
    → sum (map (λ tally. tally.turns) (map counted_by tallies)) ≡ sum_by turns_counted tallies
all_turns tallies =
    fold-map (λ (a x : ℕ). a + x) (λ (tally : TallyView). tally.turns) 0 (map counted_by tallies)
    ∙ fold-map (λ (a : ℕ) (tally : TallyView). a + tally.turns) counted_by 0 tallies

-- all slots
pub counts_all : (i : ℕ) (tallies : List (Option TallyView)) (turns : ℕ) → length tallies ≤ i
    → turns ≡ capped (turns_in i tallies)
    → turns ≡ capped (sum (map (λ tally. tally.turns) (map counted_by tallies)))
counts_all i tallies turns le is =
    is ∙ ap (λ ts. capped (sum_by turns_counted ts)) (take_all i tallies le)
    ∙ ap capped (sym (all_turns tallies))
