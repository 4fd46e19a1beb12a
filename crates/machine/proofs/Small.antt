-- In every state that a script reaches the messages that were sent fit frames.
use Rattle.std.proofs.Common.{◌≡◌, ℕ, zero, suc, ◌*◌, ◌^◌, ◌<◌, ◌≤◌, List, [], ◌∷◌, ◌&&◌, length, map, take, reverse, Bool, true, false, Option, Some, None, refl, sym, subst, ◌⊎◌, inl, inr, arith, length-append}
use Rattle.std.specs.Prelude.{slice_get, filter, if◌then◌else◌}
use Rattle.std.specs.Option.{option_map}
use Rattle.std.specs.List.{AllByRecursion}
use Rattle.std.proofs.lemmas.Bool.Decides.{nat_tests}
use Rattle.std.proofs.lemmas.List.{reverse-append, length-reverse, length-take}
use Rattle.std.proofs.lemmas.Option.{slice_get_within}
use Rattle.levels.specs.declared.level.Partition.{Partition}
use Rattle.levels.specs.declared.level.Party.{Party}
use Rattle.levels.specs.declared.level.Party.TheVariants.{Host, Manager}
use Rattle.levels.specs.Kept.{IsRoster}
use Rattle.levels.specs.Rosters.{RosterView, partition_of, is_same_party, is_partner}
use Rattle.seal_core.specs.Blocks.{AreBytes}
use Rattle.seal_core.specs.Sealing.{IsSealing}
use Rattle.file_calls.specs.declared.call.Call.{Call}
use Rattle.file_calls.specs.Spelling.{call_text, reply_text, is_call}
use Rattle.events.specs.declared.event.Event.{Event}
use Rattle.events.specs.declared.event.Event.TheVariants.{Send, Ask, Arrive, Carry, Forge, Tamper}
use Rattle.events.specs.ScriptView.{ScriptView}
use Rattle.events.specs.Scripts.{EventFits, IsEvent, IsScript}
use Rattle.machine.specs.Setup.{Setup, setup_of}
use Rattle.machine.specs.Low.{place_of}
use Rattle.machine.specs.Sends.{Sending, sending_of, is_short, is_accepted, sent_on}
use Rattle.machine.specs.Files.{CallRow}
use Rattle.machine.specs.Plan.{reply}
use Rattle.machine.specs.Machine.{State, calls_by, is_answered_on, replies, sent_by, after, state, state_at}
use Rattle.machine.specs.Laws.{FramesApart, AreSmall}
use Rattle.machine.proofs.Basics.{bool_cases, both, all_joined}
use Rattle.machine.proofs.PartiesApart.{parties_apart}
use Rattle.machine.proofs.OneMessage.{one_frame}
use Rattle.machine.proofs.OneMessage.{one_call_or_none}
use Rattle.machine.proofs.FramesApart.{PiecesApart, frames_apart, sealer_seals}
use Rattle.machine.proofs.ReplyRange.{reply_in_range}
use Rattle.file_calls.specs.SpellingBytes.{IsShort, call_short, reply_short}

-- what an event sends is bytes
abbrev pub SendsBytes : RosterView → Event → Type 0
SendsBytes roster e = (x : Sending) → sending_of roster e ≡ Some x → AreBytes x.message

-- after so many events
record Small (x : State) (events : ℕ) : Type 0 where
  messages : (s r : Party) → AllByRecursion (IsShort 5632) (x.sent s r)
  few : (s r : Party) → length (x.sent s r) ≤ 2 * events

-- ---- what one event sends

accepted : (roster : RosterView) (x : Sending) (own : Bool) → AreBytes x.message
    → AllByRecursion (IsShort 5632) (if own && is_accepted roster x then x.message ∷ [] else [])
accepted roster x own bytes = elim (bool_cases (own && is_accepted roster x)) [
  | inl on ↦
      (let t = both (is_partner roster x.from x.to) (is_short x.message) (both own (is_accepted roster x) on).1 in
      rw on (record { bytes = bytes; few = grind (arith, nat_tests, t.1) }, tt))
  | inr off ↦ rw off tt
]

send_few : (roster : RosterView) (o : Option Sending) (s r : Party)
    → ((x : Sending) → o ≡ Some x → AreBytes x.message) → AllByRecursion (IsShort 5632) (sent_on roster o s r)
send_few roster None s r bytes = tt
send_few roster (Some x) s r bytes =
    accepted roster x (is_same_party x.from s && is_same_party x.to r) (bytes x refl)

one_at_most : (b : Bool) (message : List ℕ) → length (if b then message ∷ [] else []) ≤ 1
one_at_most true message = omega arith
one_at_most false message = omega arith

send_one : (roster : RosterView) (o : Option Sending) (s r : Party) → length (sent_on roster o s r) ≤ 1
send_one roster None s r = omega arith
send_one roster (Some x) s r =
    one_at_most (is_same_party x.from s && is_same_party x.to r && is_accepted roster x) x.message

replies_few : (m : Setup) (before cs : List CallRow)
    → AllByRecursion (IsShort 5632) (map (λ c. reply_text (reply m before c)) cs)
replies_few m before [] = tt
replies_few m before (c ∷ cs) = (reply_short (reply m before c) (reply_in_range m before c), replies_few m before cs)

one_reply : (m : Setup) (before new : List CallRow) (s r : Party)
    → (new ≡ []) ⊎ ((c : CallRow) × (new ≡ c ∷ []))
    → length (map (λ c. reply_text (reply m before c)) (filter (is_answered_on m.roster s r) new)) ≤ 1
one_reply m before new s r (inl no_call) = rw no_call (omega arith)
one_reply m before new s r (inr one) = rw one.1 (elim (bool_cases (is_answered_on m.roster s r one.0)) [
  | inl on ↦ rw on (omega arith)
  | inr off ↦ rw off (omega arith)
])

small_more : (m : Setup) (x : State) (e : Event) (n : ℕ) → IsRoster m.roster → FramesApart m x
    → SendsBytes m.roster e → Small x n → Small (after m e x) (suc n)
small_more m x e n is apart bytes small = record {
  messages = λ s r.
      all_joined (IsShort 5632) (x.sent s r) (sent_by m x e s r) (small.messages s r)
      (all_joined (IsShort 5632) (sent_on m.roster (sending_of m.roster e) s r) (replies m x e s r)
      (send_few m.roster (sending_of m.roster e) s r bytes)
      (replies_few m x.calls (filter (is_answered_on m.roster s r) (calls_by m x e))));
  few = λ s r.
      (let one = send_one m.roster (sending_of m.roster e) s r in
      let calls = one_call_or_none m x e (place_of e) (one_frame m x e apart) (parties_apart m.roster is) in
      let other = one_reply m x.calls (calls_by m x e) s r calls in
      let new = length-append (sent_on m.roster (sending_of m.roster e) s r) (replies m x e s r) in
      let all = length-append (x.sent s r) (sent_by m x e s r) in
      let old = small.few s r in
      omega (arith, one, other, new, all, old));
}

-- ---- states

message_at : (messages : List (List ℕ)) (j : ℕ) (body : List ℕ) → AllByRecursion (IsShort 5632) messages
    → slice_get messages j ≡ Some body → IsShort 5632 body
message_at [] j body all is = cc
message_at (message ∷ messages) zero body all is =
    let same : message ≡ body = cc in subst (IsShort 5632) same all.0
message_at (message ∷ messages) (suc j) body all is = message_at messages j body all.1 is

are_small : (x : State) (n : ℕ) → n < 2 ^ 31 → Small x n → AreSmall x
are_small x n few small = λ s r j body is.
    (let there = message_at (x.sent s r) j body (small.messages s r) is in
    let within = slice_get_within (x.sent s r) j body is in
    let count = small.few s r in
    record { number = omega (arith, within, count, few); bytes = there.bytes; short = there.few })

reached : PiecesApart → (m : Setup) (past : List Event) → IsSealing m.sealed → IsRoster m.roster → length past < 2 ^ 31
    → AllByRecursion (SendsBytes m.roster) past → Small (state m past) (length past)
reached pieces m [] laws is short all = record { messages = λ s r. tt; few = λ s r. omega arith }
reached pieces m (e ∷ past) laws is short all =
    let fewer : length past < 2 ^ 31 = omega (arith, short) in
    let before = reached pieces m past laws is fewer all.1 in
    small_more m (state m past) e (length past) is
    (frames_apart pieces m past laws is (are_small (state m past) (length past) fewer before)) all.0 before

-- in the states of setups whose events send bytes
pub small_state : PiecesApart → (m : Setup) (past : List Event) → IsSealing m.sealed → IsRoster m.roster
    → length past < 2 ^ 31 → AllByRecursion (SendsBytes m.roster) past → AreSmall (state m past)
small_state pieces m past laws is short all =
    are_small (state m past) (length past) short (reached pieces m past laws is short all)

-- ---- scripts

ask_bytes : (roster : RosterView) (from : ℕ) (call : Call) (o : Option Partition) (x : Sending) → is_call call ≡ true
    → option_map (λ p. record { from = Host from; to = Manager p; message = call_text call }) o ≡ Some x
    → AreBytes x.message
ask_bytes roster from call None x good is = cc
ask_bytes roster from call (Some p) x good is =
    let same : call_text call ≡ x.message = cc in subst AreBytes same (call_short call good).bytes

sends_bytes : (roster : RosterView) (e : Event) → EventFits e → SendsBytes roster e
sends_bytes roster (Send from to message) fits = λ x is.
    (let same : message ≡ x.message = cc in subst AreBytes same fits)
sends_bytes roster (Ask from call) fits = λ x is.
    ask_bytes roster from call (partition_of roster (Host from)) x fits is
sends_bytes roster (Arrive stream message piece at) fits = λ x is. cc
sends_bytes roster (Carry stream message at) fits = λ x is. cc
sends_bytes roster (Forge at bytes) fits = λ x is. cc
sends_bytes roster (Tamper stream message piece at edits) fits = λ x is. cc

all_send : (roster : RosterView) (events : List Event) → AllByRecursion (IsEvent roster) events
    → AllByRecursion (SendsBytes roster) events
all_send roster [] all = tt
all_send roster (e ∷ events) all = (sends_bytes roster e all.0.fits, all_send roster events all.1)

all_taken : {A : Type 0} (P : A → Type 0) (n : ℕ) (xs : List A) → AllByRecursion P xs → AllByRecursion P (take n xs)
all_taken P zero xs all = tt
all_taken P (suc n) [] all = tt
all_taken P (suc n) (x ∷ xs) all = (all.0, all_taken P n xs all.1)

all_reversed : {A : Type 0} (P : A → Type 0) (xs : List A) → AllByRecursion P xs → AllByRecursion P (reverse xs)
all_reversed P [] all = tt
all_reversed P (x ∷ xs) all =
    subst (AllByRecursion P) (sym (reverse-append (x ∷ []) xs))
    (all_joined P (reverse xs) (x ∷ []) (all_reversed P xs all.1) (all.0, tt))

-- in every state of a script that can be held
pub small_at : PiecesApart → (script : ScriptView) (n : ℕ) → IsScript script → AreSmall (state_at script n)
small_at pieces script n is =
    let back = length-reverse (take n script.events) in
    let part = length-take n script.events in
    let room = is.room in
    small_state pieces (setup_of script) (reverse (take n script.events))
    (sealer_seals script.roster.sealing) is.roster
    (omega (arith, back, part, room))
    (all_reversed (SendsBytes script.roster) (take n script.events)
    (all_taken (SendsBytes script.roster) n script.events (all_send script.roster script.events is.events)))

pub apart_at : PiecesApart → (script : ScriptView) (n : ℕ) → IsScript script
    → FramesApart (setup_of script) (state_at script n)
apart_at pieces script n is =
    frames_apart pieces (setup_of script) (reverse (take n script.events))
    (sealer_seals script.roster.sealing) is.roster
    (small_at pieces script n is)

-- a stream has at most twice as many messages as there are events
pub few_at : PiecesApart → (script : ScriptView) (n : ℕ) (s r : Party) → IsScript script
    → length ((state_at script n).sent s r) ≤ 2 * length script.events
few_at pieces script n s r is =
    let back = length-reverse (take n script.events) in
    let part = length-take n script.events in
    let room = is.room in
    let few = (reached pieces (setup_of script) (reverse (take n script.events))
    (sealer_seals script.roster.sealing) is.roster
    (omega (arith, back, part, room))
    (all_reversed (SendsBytes script.roster) (take n script.events)
    (all_taken (SendsBytes script.roster) n script.events
    (all_send script.roster script.events is.events)))).few s r in
    omega (arith, few, back, part)
