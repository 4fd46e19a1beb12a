-- The roster of a drill has all that the events of a drill name.
use Rattle.std.proofs.Common.{rules, List, ◌≡◌, ℕ, zero, suc, ◌-◌, ◌/◌, ◌<◌, Bool, true, false, refl, arith}
use Rattle.std.specs.Prelude.{if◌then◌else◌, nat_lt, ◌==◌}
use Rattle.std.proofs.lemmas.Bool.Decides.{nat_tests}
use Rattle.levels.specs.declared.level.Party.{Party}
use Rattle.levels.specs.declared.level.Party.TheVariants.{Host, Manager}
use Rattle.levels.specs.Kept.{IsComplete}
use Rattle.levels.specs.Rosters.{RosterView, is_partner}
use Rattle.file_calls.specs.declared.call.Call.{Call}
use Rattle.file_calls.specs.declared.call.Call.TheVariants.{Get, List as ListNames}
use Rattle.events.specs.declared.event.Event.{Event}
use Rattle.events.specs.declared.event.Event.TheVariants.{Send, Ask}
use Rattle.events.specs.Scripts.{is_known, has_level, is_call_named, is_named}
use Rattle.drill.specs.declared.draws.Step.{Step}
use Rattle.drill.specs.Places.{IsHost, home_of, neighbour_of}
use Rattle.drill.specs.Rosters.{drill_roster}
use Rattle.drill.specs.Events.{file_name, carry, call_of}
use Rattle.drill.specs.inside.Ranges.{IsStep}

host_known_behind : (host : ℕ) → host < 6 → is_known drill_roster (Host (suc host)) ≡ true
unfolding drill_roster
host_known_behind zero h = refl
host_known_behind (suc zero) h = refl
host_known_behind (suc (suc zero)) h = refl
host_known_behind (suc (suc (suc zero))) h = refl
host_known_behind (suc (suc (suc (suc zero)))) h = refl
host_known_behind (suc (suc (suc (suc (suc zero))))) h = refl
host_known_behind (suc (suc (suc (suc (suc (suc host)))))) h = absurd (omega arith)

pub host_known : (host : ℕ) → IsHost host → is_known drill_roster (Host host) ≡ true
host_known zero h = absurd (omega (arith, h.0))
host_known (suc host) h = host_known_behind host (omega (arith, h.1))

level_there : (level : ℕ) → level < 3 → has_level drill_roster level ≡ true
unfolding drill_roster
level_there level h = grind (arith, nat_tests)

pub manager_known : (level : ℕ) → level < 3
    → is_known drill_roster (Manager (record { 0 = level })) ≡ true
unfolding drill_roster
manager_known level h = let there : nat_lt level 3 ≡ true = grind (arith, nat_tests) in rw there refl

home_within : (host : ℕ) → IsHost host → (home_of host).0 < 3
home_within host h = omega (arith, h.1)

pub home_known : (host : ℕ) → IsHost host → is_known drill_roster (Manager (home_of host)) ≡ true
home_known host h = manager_known ((host - 1) / 2) (home_within host h)

named_if : (b : Bool) (x y : Call) → is_call_named drill_roster x ≡ true
    → is_call_named drill_roster y ≡ true
    → is_call_named drill_roster (if b then x else y) ≡ true
named_if true x y first second = first
named_if false x y first second = second

pub call_named : (step : Step) → IsStep step → is_call_named drill_roster (call_of step) ≡ true
call_named step h =
    let at_home : has_level drill_roster (home_of step.host).0 ≡ true =
    level_there (home_of step.host).0 (home_within step.host h.host) in
    let at_lowest : has_level drill_roster 0 ≡ true = level_there 0 (omega arith) in
    named_if (step.kind == 4) _ _ refl
    (named_if (step.kind == 5) (Get (home_of step.host).0 (file_name step.value)) _ at_home
    (named_if (step.kind == 6) (Get 0 (file_name step.value)) (ListNames (home_of step.host).0) at_lowest at_home))

pub ask_named : (roster : RosterView) (step : Step) (call : Call) → roster ≡ drill_roster → IsStep step
    → call ≡ call_of step → is_named roster (Ask step.host call) ≡ true
ask_named roster step call is h asks =
    rw (is, asks, host_known step.host h.host, call_named step h) refl

pub send_named : (roster : RosterView) (host to : ℕ) (message : List ℕ) → roster ≡ drill_roster
    → IsHost host → IsHost to → is_named roster (Send host (Host to) message) ≡ true
send_named roster host to message is h k = rw (is, host_known host h, host_known to k) refl

pub carry_named : (roster : RosterView) (from to : Party) (message : ℕ) (event : Event)
    → event ≡ carry from to message → roster ≡ drill_roster → is_known drill_roster from ≡ true
    → is_known drill_roster to ≡ true → is_named roster event ≡ true
carry_named roster from to message event carries is known there = rw (carries, is, known, there) refl

neighbour_behind : (host : ℕ) → host < 6
    → is_partner drill_roster (Host (suc host)) (Host (neighbour_of (suc host))) ≡ true
unfolding drill_roster
neighbour_behind zero h = refl
neighbour_behind (suc zero) h = refl
neighbour_behind (suc (suc zero)) h = refl
neighbour_behind (suc (suc (suc zero))) h = refl
neighbour_behind (suc (suc (suc (suc zero)))) h = refl
neighbour_behind (suc (suc (suc (suc (suc zero))))) h = refl
neighbour_behind (suc (suc (suc (suc (suc (suc host)))))) h = absurd (omega arith)

pub neighbours_are_partners : (host : ℕ) → IsHost host
    → is_partner drill_roster (Host host) (Host (neighbour_of host)) ≡ true
neighbours_are_partners zero h = absurd (omega (arith, h.0))
neighbours_are_partners (suc host) h = neighbour_behind host (omega (arith, h.1))

manager_behind : (host : ℕ) → host < 6
    → is_partner drill_roster (Host (suc host)) (Manager (home_of (suc host))) ≡ true
unfolding drill_roster
manager_behind zero h = refl
manager_behind (suc zero) h = refl
manager_behind (suc (suc zero)) h = refl
manager_behind (suc (suc (suc zero))) h = refl
manager_behind (suc (suc (suc (suc zero)))) h = refl
manager_behind (suc (suc (suc (suc (suc zero))))) h = refl
manager_behind (suc (suc (suc (suc (suc (suc host)))))) h = absurd (omega arith)

pub managers_are_partners : (host : ℕ) → IsHost host
    → is_partner drill_roster (Host host) (Manager (home_of host)) ≡ true
managers_are_partners zero h = absurd (omega (arith, h.0))
managers_are_partners (suc host) h = manager_behind host (omega (arith, h.1))

pub drill_complete : IsComplete drill_roster
unfolding drill_roster
drill_complete = record { some = omega arith; keys = λ des. record { levels = refl; guard = search rules } }
