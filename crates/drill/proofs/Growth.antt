-- A drill, one step after another.
use Rattle.std.proofs.Common.{◌≡◌, ℕ, zero, suc, ◌+◌, ◌*◌, ◌≤◌, List, [], ◌∷◌, ◌++◌, length, Bool, true, false, refl, ap, sym, ◌∙◌, add-one, add-zero, zero-add, append_assoc, length-append, arith}
use Rattle.std.specs.Prelude.{slice_index, not, if◌then◌else◌, ◌==◌, ◌&&◌}
use Rattle.std.specs.List.{flat_map, range_with_len}
use Rattle.std.proofs.lemmas.Bool.Decides.{nat_tests}
use Rattle.std.proofs.lemmas.List.{append-nil, length-replicate}
use Rattle.std.proofs.lemmas.List.FromFn.{map-range_with_len_more, length-map-range_with_len}
use Rattle.std.proofs.lemmas.List.Sums.{count_by-le-length}
use Rattle.levels.specs.declared.level.Party.{Party}
use Rattle.levels.specs.declared.level.Party.TheVariants.{Host}
use Rattle.events.specs.declared.event.Event.{Event}
use Rattle.events.specs.ScriptView.{ScriptView}
use Rattle.drill.specs.declared.draws.Step.{Step}
use Rattle.drill.specs.Places.{IsHost, neighbour_of}
use Rattle.drill.specs.Steps.{step_at, steps}
use Rattle.drill.specs.Events.{carry, is_send, carries_of, send_events, call_events, events_after, step_events, sends_before, calls_before}
use Rattle.drill.specs.Rosters.{drill_roster}
use Rattle.drill.specs.Drills.{events_at, drill}
use Rattle.drill.specs.inside.Ranges.{IsStep}
use Rattle.drill.specs.inside.Counts.{counted_if, with_events, AreSends, AreCalls}
use Rattle.drill.proofs.Counting.{sends_more, calls_more}

pub steps-more : (seed n : ℕ) → steps seed (n + 1) ≡ steps seed n ++ step_at seed n ∷ []
steps-more seed n = map-range_with_len_more (step_at seed) 0 n n (omega arith)

flat_map-more : (f : ℕ → List Event) (a n : ℕ)
    → flat_map f (range_with_len a (suc n)) ≡ flat_map f (range_with_len a n) ++ f (a + n)
flat_map-more f a zero = rw (append-nil, add-zero) refl
flat_map-more f a (suc n) =
    let on : a + 1 + n ≡ a + suc n = omega arith in
    ap (λ es. f a ++ es) (flat_map-more f (a + 1) n) ∙ rw on
    (sym (append_assoc (f a) (flat_map f (range_with_len (a + 1) n)) (f (a + suc n))))

pub drill-more : (seed n : ℕ) → drill seed (n + 1) ≡ with_events (drill seed n) (events_at seed n)
unfolding drill
drill-more seed n =
    let f : ℕ → List Event = events_at seed in
    let more : flat_map f (range_with_len 0 (n + 1)) ≡ flat_map f (range_with_len 0 n) ++ f n =
    ap (λ k. flat_map f (range_with_len 0 k)) (add-one n) ∙ flat_map-more f 0 n
    ∙ ap (λ k. flat_map f (range_with_len 0 n) ++ f k) (zero-add n) in
    ap (with_events (record { roster = drill_roster; rows = []; events = [] })) more

pub drill-none : (script : ScriptView) (seed : ℕ)
    → script ≡ record { roster = drill_roster; rows = []; events = [] } → script ≡ drill seed 0
unfolding drill
drill-none script seed is = is

pub drill-roster : (seed n : ℕ) → (drill seed n).roster ≡ drill_roster
unfolding drill
drill-roster seed n = refl

-- ---- how many events there are

carries_few : (kind : ℕ) → carries_of kind ≤ 2
carries_few kind = grind (arith, nat_tests)

few_of_either : (b : Bool) (xs ys : List Event) → length xs ≤ 3 → length ys ≤ 3
    → length (if b then xs else ys) ≤ 3
few_of_either true xs ys few other = few
few_of_either false xs ys few other = other

few_of_step : (sends calls : ℕ) (step : Step) → length (events_after sends calls step) ≤ 3
few_of_step sends calls step =
    let to : Party = Host (neighbour_of step.host) in
    few_of_either (is_send step) (send_events sends step) (call_events calls step)
    (omega (arith, carries_few step.kind, length-replicate (carries_of step.kind) (carry (Host step.host) to sends)))
    (omega arith)

no_events : (seed : ℕ) → length (drill seed 0).events ≤ 3 * 0
unfolding drill
no_events seed = omega arith

pub few_events : (seed n : ℕ) → length (drill seed n).events ≤ 3 * n
few_events seed zero = no_events seed
few_events seed (suc n) =
    let on : suc n ≡ n + 1 = omega arith in
    let more : (drill seed (suc n)).events ≡ (drill seed n).events ++ events_at seed n =
    ap (λ k. (drill seed k).events) on ∙ ap (λ script. script.events) (drill-more seed n) in
    let few = few_events seed n in
    let of_step : length (events_at seed n) ≤ 3 = few_of_step _ _ (step_at seed n) in
    omega (arith, ap length more, length-append (drill seed n).events (events_at seed n))

-- ---- how often a host has sent and called

pub few_sends : (seed n host : ℕ) → sends_before (steps seed n) host ≤ n
few_sends seed n host =
    omega (
      arith,
      count_by-le-length (λ step. step.host == host && is_send step) (steps seed n),
      length-map-range_with_len (step_at seed) 0 n,
    )

pub few_calls : (seed n host : ℕ) → calls_before (steps seed n) host ≤ n
few_calls seed n host =
    omega (
      arith,
      count_by-le-length (λ step. step.host == host && not (is_send step)) (steps seed n),
      length-map-range_with_len (step_at seed) 0 n,
    )

-- ---- one step more

pub drill-step : (seed n : ℕ) (step : Step) (sends calls : List ℕ) (old new : ScriptView)
    → old ≡ drill seed n → step ≡ step_at seed n → IsHost step.host
    → AreSends (steps seed n) sends → AreCalls (steps seed n) calls
    → new ≡ with_events old
    (events_after (slice_index sends step.host) (slice_index calls step.host) step)
    → new ≡ drill seed (n + 1)
drill-step seed n step sends calls old new from is at are_sends are_calls adds =
    let behind : events_after (slice_index sends step.host) (slice_index calls step.host) step ≡ events_at seed n =
    rw (are_sends.each step.host at, are_calls.each step.host at) (ap (step_events (steps seed n)) is) in
    adds ∙ ap (λ events. with_events old events) behind
    ∙ ap (λ script. with_events script (events_at seed n)) from ∙ sym (drill-more seed n)

pub sends-step : (seed n : ℕ) (step : Step) (old new : List ℕ) → step ≡ step_at seed n
    → IsStep step → AreSends (steps seed n) old → new ≡ counted_if (is_send step) old step.host
    → AreSends (steps seed (n + 1)) new
sends-step seed n step old new is fits are adds =
    rw (steps-more seed n, ← is, adds) (sends_more (steps seed n) step old fits are)

pub calls-step : (seed n : ℕ) (step : Step) (old new : List ℕ) → step ≡ step_at seed n
    → IsStep step → AreCalls (steps seed n) old → new ≡ counted_if (not (is_send step)) old step.host
    → AreCalls (steps seed (n + 1)) new
calls-step seed n step old new is fits are adds =
    rw (steps-more seed n, ← is, adds) (calls_more (steps seed n) step old fits are)
