-- An event changes nothing but what is at the party where it happens.
use Rattle.std.proofs.Common.{◌≡◌, ℕ, ◌+◌, List, [], ◌∷◌, ◌++◌, ◌&&◌, length, Bool, true, false, Option, Some, None, refl, ap, ap₂, ◌∙◌, inl, inr, append-nil, arith}
use Rattle.std.specs.Prelude.{filter, map}
use Rattle.std.specs.Option.{option_map}
use Rattle.std.specs.List.{range_with_len}
use Rattle.std.specs.Str.{bytes_eq}
use Rattle.std.proofs.lemmas.Bool.Decides.{nat_tests}
use Rattle.levels.specs.declared.level.Partition.{Partition}
use Rattle.levels.specs.declared.level.Party.{Party}
use Rattle.levels.specs.declared.level.Party.TheVariants.{Host, Manager}
use Rattle.levels.specs.Rosters.{RosterView, partition_of, is_same_party}
use Rattle.frame.specs.Pieces.{pieces}
use Rattle.file_calls.specs.declared.call.Call.{Call}
use Rattle.file_calls.specs.Spelling.{call_text, reply_text}
use Rattle.machine.specs.declared.line.OutLine.{OutLine}
use Rattle.machine.specs.declared.line.OutLine.TheVariants.{From}
use Rattle.events.specs.declared.event.Event.{Event}
use Rattle.events.specs.declared.event.Event.TheVariants.{Send, Ask, Arrive, Carry, Forge, Tamper}
use Rattle.machine.specs.Setup.{Setup}
use Rattle.machine.specs.Low.{place_of}
use Rattle.machine.specs.Sends.{Sending, sending_of, sent_on, answers}
use Rattle.machine.specs.Files.{CallRow}
use Rattle.machine.specs.Plan.{reply}
use Rattle.machine.specs.Machine.{State, Message, piece_frame, hands, handed_of, gives, numbers_given, given_to, calls_to, is_answered_on, sent_by, lines_by, after}
use Rattle.machine.specs.Laws.{StaysAt}
use Rattle.machine.proofs.Basics.{bool_cases, none_passes}
use Rattle.machine.proofs.Giving.{gives_what_it_hands}
use Rattle.machine.proofs.OneMessage.{given_none}

clash : (b : Bool) → b ≡ true → b ≡ false → ⊥
clash b t f = cc

false_and : (a b : Bool) → a ≡ false → (a && b) ≡ false
false_and a b h = rw h

not_hands : (m : Setup) (e : Event) (s u : Party) (j : ℕ) (body : List ℕ) (i : ℕ)
    → is_same_party (place_of e) u ≡ false → hands m e s u j body i ≡ false
not_hands m (Arrive stream message piece at) s u j body i other = rw other (grind (arith, nat_tests))
not_hands m (Carry stream message at) s u j body i other = rw other (grind (arith, nat_tests))
not_hands m (Forge at bytes) s u j body i other =
    false_and (is_same_party at u) (bytes_eq bytes (piece_frame m s u j body i)) other
not_hands m (Send from to message) s u j body i other = refl
not_hands m (Ask from call) s u j body i other = refl
not_hands m (Tamper stream message piece at edits) s u j body i other = refl

pub none_handed : (m : Setup) (e : Event) (s u : Party) (j : ℕ) (messages : List (List ℕ))
    → is_same_party (place_of e) u ≡ false → handed_of m e s u j messages ≡ []
none_handed m e s u j [] other = refl
none_handed m e s u j (body ∷ messages) other =
    rw (none_passes (hands m e s u j body) (range_with_len 0 (pieces body))
    (λ i. not_hands m e s u j body i other)) (none_handed m e s u (j + 1) messages other)

not_gives : (m : Setup) (x : State) (e : Event) (s u : Party) (j : ℕ) → is_same_party (place_of e) u ≡ false
    → gives m x e s u j ≡ false
not_gives m x e s u j other = elim (bool_cases (gives m x e s u j)) [
  | inl on ↦
      (let t =
      gives_what_it_hands m x e s u j on in
      absurd (clash (hands m e s u j t.1.body t.0) t.1.hands (not_hands m e s u j t.1.body t.0 other)))
  | inr off ↦ off
]

pub none_given : (m : Setup) (x : State) (e : Event) (s u : Party) → is_same_party (place_of e) u ≡ false
    → numbers_given m x e s u ≡ []
none_given m x e s u other =
    none_passes (gives m x e s u) (range_with_len 0 (length (x.sent s u))) (λ j. not_gives m x e s u j other)

none_to : (m : Setup) (x : State) (e : Event) (u : Party) → is_same_party (place_of e) u ≡ false
    → given_to m x e u ≡ []
none_to m x e u other = given_none m x e u (λ s j. not_gives m x e s u j other)

ask_at : (o : Option Partition) (from : ℕ) (call : Call) (x : Sending)
    → option_map (λ p. record { from = Host from; to = Manager p; message = call_text call }) o ≡ Some x
    → x.from ≡ Host from
ask_at None from call x is = cc
ask_at (Some p) from call x is = cc

-- a send is of the party at which it happens
sends_at : (roster : RosterView) (e : Event) (x : Sending) → sending_of roster e ≡ Some x → x.from ≡ place_of e
sends_at roster (Send from to message) x is = cc
sends_at roster (Ask from call) x is = ask_at (partition_of roster (Host from)) from call x is
sends_at roster (Arrive stream message piece at) x is = cc
sends_at roster (Carry stream message at) x is = cc
sends_at roster (Forge at bytes) x is = cc
sends_at roster (Tamper stream message piece at edits) x is = cc

no_send : (roster : RosterView) (e : Event) (o : Option Sending) (s r : Party) → sending_of roster e ≡ o
    → is_same_party (place_of e) s ≡ false → sent_on roster o s r ≡ []
no_send roster e None s r is other = refl
no_send roster e (Some x) s r is other = rw (ap (λ a. is_same_party a s) (sends_at roster e x is) ∙ other)

no_answer : (roster : RosterView) (sent : Party → Party
    → List (List ℕ)) (e : Event) (o : Option Sending) (r : Party) → sending_of roster e ≡ o
    → is_same_party (place_of e) r ≡ false → answers roster sent o r ≡ []
no_answer roster sent e None r is other = refl
no_answer roster sent e (Some x) r is other = rw (ap (λ a. is_same_party a r) (sends_at roster e x is) ∙ other)

no_reply : (roster : RosterView) (a : Party) (ls : List Message) (s r : Party) → is_same_party a s ≡ false
    → filter (is_answered_on roster s r) (calls_to a ls) ≡ []
no_reply roster (Host address) ls s r other = refl
no_reply roster (Manager p) [] s r other = refl
no_reply roster (Manager p) (l ∷ ls) s r other = rw other (no_reply roster (Manager p) ls s r other)

pub none_sent : (m : Setup) (x : State) (e : Event) (s r : Party) → is_same_party (place_of e) s ≡ false
    → sent_by m x e s r ≡ []
none_sent m x e s r other =
    ap₂ (λ (a : List (List ℕ)) (cs : List CallRow). a
    ++ map (λ c. reply_text (reply m x.calls c)) cs) (no_send m.roster e (sending_of m.roster e) s r refl other)
    (no_reply m.roster (place_of e) (given_to m x e (place_of e)) s r other)

pub none_told : (m : Setup) (x : State) (e : Event) (r : Party) → is_same_party (place_of e) r ≡ false
    → lines_by m x e r ≡ []
none_told m x e r other =
    ap₂ (λ (a : List OutLine) (ls : List Message). a
    ++ map (λ l. From l.from l.body) ls) (no_answer m.roster x.sent e (sending_of m.roster e) r refl other)
    (none_to m x e r other)

pub stays_at : (m : Setup) (e : Event) (x : State) (r : Party) → is_same_party (place_of e) r ≡ false
    → StaysAt r x (after m e x)
stays_at m e x r other = record {
  sent = λ s. ap (λ (t : List (List ℕ)). x.sent r s ++ t) (none_sent m x e r s other) ∙ append-nil (x.sent r s);
  arrived = λ s. ap (λ (t : List (ℕ × ℕ)). t ++ x.arrived s r) (none_handed m e s r 0 (x.sent s r) other);
  given = λ s. ap (λ (t : List ℕ). x.given s r ++ t) (none_given m x e s r other) ∙ append-nil (x.given s r);
  told = ap (λ (t : List OutLine). x.told r ++ t) (none_told m x e r other) ∙ append-nil (x.told r);
}
