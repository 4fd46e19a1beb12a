-- Where the network and the store make up nothing, no false bytes open.
use Rattle.std.proofs.Common.{◌≡◌, ℕ, List, [], ◌∷◌, Some, true, false, replicate, refl, subst}
use Rattle.std.specs.Prelude.{Bool, if◌then◌else◌, slice_get, All}
use Rattle.std.specs.List.{flat_map, range_with_len}
use Rattle.std.proofs.lemmas.List.Elements.{All-nil, All-cons, All-replicate, All-append}
use Rattle.std.proofs.lemmas.Option.{get_or_from_slice_get, slice_get_within}
use Rattle.machine.specs.Setup.{Setup, setup_of}
use Rattle.machine.specs.Files.{CallRow}
use Rattle.machine.specs.Plan.{next_action}
use Rattle.machine.specs.Machine.{State, state_at}
use Rattle.machine.specs.FalseBytes.{IsFalse, GivesFalse, OpensFalse, NoneFalse}
use Rattle.untrusted_store.specs.declared.plan.StoreAction.TheVariants.{Honest}
use Rattle.levels.specs.declared.level.Party.{Party}
use Rattle.levels.specs.declared.level.Party.TheVariants.{Host, Manager}
use Rattle.events.specs.declared.event.Event.{Event}
use Rattle.events.specs.declared.event.Event.TheVariants.{Send, Ask, Arrive, Carry, Forge, Tamper}
use Rattle.events.specs.ScriptView.{ScriptView}
use Rattle.drill.specs.declared.draws.Step.{Step}
use Rattle.drill.specs.Places.{home_of, neighbour_of}
use Rattle.drill.specs.Events.{bytes_of, carries_of, call_of, carry, is_send, send_events, call_events, events_after}
use Rattle.drill.specs.Drills.{events_at, drill}
use Rattle.drill.specs.Honest.{IsGenuine, IsHonest}

genuine_is_true : (m : Setup) (x : State) (e : Event) → IsGenuine e → ¬ IsFalse m x e
genuine_is_true m x (Send from to message) genuine h = h
genuine_is_true m x (Ask from call) genuine h = h
genuine_is_true m x (Arrive stream message piece at) genuine h = h
genuine_is_true m x (Carry stream message at) genuine h = h
genuine_is_true m x (Forge at bytes) genuine h = genuine
genuine_is_true m x (Tamper stream message piece at edits) genuine h = genuine

always_honest : (m : Setup) (before : List CallRow) (p : ℕ) → m.rows ≡ [] → next_action m before p ≡ Honest
unfolding next_action
always_honest m before p none = rw none refl

no_plan_is_true : (m : Setup) (x : State) (e : Event) → m.rows ≡ [] → ¬ GivesFalse m x e
no_plan_is_true m x e none h =
    let damaged = rw (always_honest m x.calls h.call.level none) at h.answer.damaged in cc

genuine_at : (events : List Event) (k : ℕ) (e : Event) → All IsGenuine events → slice_get events k ≡ Some e
    → IsGenuine e
genuine_at events k e all there =
    subst IsGenuine (get_or_from_slice_get events k e e there) (all k e (slice_get_within events k e there))

pub nothing_false : (script : ScriptView) (n : ℕ) → IsHonest script → NoneFalse script n
nothing_false script n honest k e less there opens = elim opens [
  | OpensFalse.false_frame h ↦ genuine_is_true (setup_of script) (state_at script k) e
      (genuine_at script.events k e honest.events there) h
  | OpensFalse.false_record h ↦ no_plan_is_true (setup_of script) (state_at script k) e honest.rows h
]

-- ---- drills

send_genuine : (message : ℕ) (step : Step) → All IsGenuine (send_events message step)
send_genuine message step =
    let to : Party = Host (neighbour_of step.host) in
    let carried : Event = carry (Host step.host) to message in
    All-cons IsGenuine (Send step.host to (bytes_of step.value)) (replicate (carries_of step.kind) carried) tt
    (All-replicate IsGenuine (carries_of step.kind) carried tt)

call_genuine : (message : ℕ) (step : Step) → All IsGenuine (call_events message step)
call_genuine message step =
    let manager : Party = Manager (home_of step.host) in
    let there : Event = carry (Host step.host) manager message in
    let back : Event = carry manager (Host step.host) message in
    All-cons IsGenuine (Ask step.host (call_of step)) (there ∷ back ∷ []) tt
    (All-cons IsGenuine there (back ∷ []) tt (All-cons IsGenuine back [] tt (All-nil IsGenuine)))

either_genuine : (b : Bool) (xs ys : List Event) → All IsGenuine xs → All IsGenuine ys
    → All IsGenuine (if b then xs else ys)
either_genuine true xs ys one other = one
either_genuine false xs ys one other = other

step_genuine : (sends calls : ℕ) (step : Step) → All IsGenuine (events_after sends calls step)
step_genuine sends calls step =
    either_genuine (is_send step) (send_events sends step) (call_events calls step)
    (send_genuine sends step) (call_genuine calls step)

all_genuine : (f : ℕ → List Event) → ((i : ℕ) → All IsGenuine (f i)) → (places : List ℕ)
    → All IsGenuine (flat_map f places)
all_genuine f each [] = All-nil IsGenuine
all_genuine f each (i ∷ places) =
    All-append IsGenuine (f i) (flat_map f places) (each i) (all_genuine f each places)

pub drill_honest : (seed count : ℕ) → IsHonest (drill seed count)
unfolding drill
drill_honest seed count = record {
  rows = refl;
  events = all_genuine (events_at seed) (λ i. step_genuine _ _ _) (range_with_len 0 count);
}
