-- An Ask is the Send of its call's spelling.
use Rattle.std.proofs.Common.{◌≡◌, ℕ, List, ◌++◌, length, map, Option, Some, None, refl, ap₂, subst, ◌∙◌}
use Rattle.std.specs.Prelude.{filter}
use Rattle.std.specs.Option.{option_map}
use Rattle.std.specs.List.{flat_map, range_with_len}
use Rattle.levels.specs.declared.level.Partition.{Partition}
use Rattle.levels.specs.declared.level.Party.{Party}
use Rattle.levels.specs.declared.level.Party.TheVariants.{Host, Manager}
use Rattle.levels.specs.Rosters.{partition_of}
use Rattle.frame.specs.Pieces.{pieces}
use Rattle.file_calls.specs.declared.call.Call.{Call}
use Rattle.file_calls.specs.Spelling.{call_text, reply_text}
use Rattle.machine.specs.declared.line.OutLine.TheVariants.{From}
use Rattle.events.specs.declared.event.Event.TheVariants.{Send, Ask}
use Rattle.machine.specs.Setup.{Setup}
use Rattle.machine.specs.Sends.{Sending, sending_of, sent_on, answers}
use Rattle.machine.specs.Plan.{reply}
use Rattle.machine.specs.Machine.{State, handed, gives, numbers_given, message_of, calls_to, is_answered_on, after, parties}

ask_sends : (m : Setup) (from : ℕ) (call : Call) (o : Option Partition) (x : Sending)
    → option_map (λ p. record { from = Host from; to = Manager p; message = call_text call }) o ≡ Some x
    → Some x ≡ sending_of m.roster (Send from x.to x.message)
ask_sends m from call None x is = cc
ask_sends m from call (Some p) x is =
    let same : record { from = Host from; to = Manager p; message = call_text call } ≡ x =
    cc in subst (λ (y : Sending). Some y ≡ sending_of m.roster (Send from y.to y.message)) same refl

gives_of_none : (m : Setup) (x : State) (from : ℕ) (call : Call) (to : Party) (message : List ℕ) (s u : Party)
    (j : ℕ) → gives m x (Ask from call) s u j ≡ gives m x (Send from to message) s u j
unfolding gives
gives_of_none m x from call to message s u j = refl

given_of_none : (m : Setup) (x : State) (from : ℕ) (call : Call) (to : Party) (message : List ℕ)
    → numbers_given m x (Ask from call) ≡ numbers_given m x (Send from to message)
given_of_none m x from call to message =
    λ i s u. filter (λ j. gives_of_none m x from call to message s u j i)
    (range_with_len 0 (length (x.sent s u)))

-- the state after an event, by what it sends and gives
abbrev after_these : Setup → State → Party → (Party → Party → List (ℕ × ℕ)) → Option Sending
    → (Party → Party → List ℕ) → State
after_these m x at pieces o numbers =
    (let to = λ (u : Party). flat_map (λ s. map (message_of s (x.sent s u)) (numbers s u)) (parties m.roster) in
    record {
      sent = λ s r. x.sent s r
          ++ (sent_on m.roster o s r
          ++ map (λ c. reply_text (reply m x.calls c))
          (filter (is_answered_on m.roster s r) (calls_to at (to at))));
      arrived = λ s u. pieces s u ++ x.arrived s u;
      given = λ s u. x.given s u ++ numbers s u;
      calls = calls_to at (to at) ++ x.calls;
      told = λ r. x.told r ++ (answers m.roster x.sent o r ++ map (λ l. From l.from l.body) (to r));
    })

pub ask_is_send : (m : Setup) (x : State) (from : ℕ) (call : Call) (y : Sending)
    → sending_of m.roster (Ask from call) ≡ Some y
    → after m (Ask from call) x ≡ after m (Send from y.to y.message) x
ask_is_send m x from call y is =
    ap₂ (after_these m x (Host from) (handed m x (Ask from call))) (is
    ∙ ask_sends m from call (partition_of m.roster (Host from)) y is)
    (given_of_none m x from call y.to y.message)
