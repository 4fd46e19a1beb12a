-- The unit of a manager, where an event happens: it is given a call, or none, and replies.
use Rattle.std.proofs.Common.{◌≡◌, ℕ, ◌≤◌, List, [], ◌∷◌, ◌++◌, ◌&&◌, length, map, true, false, Option, Some, None, refl, sym, ap, ap₂, ◌∙◌, ◌⊎◌, inl, inr, append-nil, arith}
use Rattle.std.specs.Prelude.{filter, if◌then◌else◌}
use Rattle.levels.specs.declared.level.Partition.{Partition}
use Rattle.levels.specs.declared.level.Party.{Party}
use Rattle.levels.specs.declared.level.Party.TheVariants.{Manager}
use Rattle.levels.specs.Rosters.{RosterView, is_same_party, is_partner}
use Rattle.file_calls.specs.Spelling.{reply_text}
use Rattle.events.specs.declared.event.Event.{Event}
use Rattle.machine.specs.declared.line.OutLine.{OutLine}
use Rattle.machine.specs.declared.line.OutLine.TheVariants.{Sent}
use Rattle.machine.specs.Setup.{Setup}
use Rattle.machine.specs.Low.{place_of}
use Rattle.machine.specs.Sends.{Sending, sending_of, sent_on}
use Rattle.machine.specs.Files.{CallRow}
use Rattle.machine.specs.Plan.{reply}
use Rattle.machine.specs.Machine.{State, Message, call_row, calls_to, calls_by, is_answered_on, given_to, sent_by, after, state}
use Rattle.machine.specs.Wire.{frames_of, frames_from, wire}
use Rattle.desk.specs.Deeds.{DeskState, says, did}
use Rattle.desk.specs.Desks.{told_nothing}
use Rattle.engine.specs.Handed.{frames_if}
use Rattle.engine.specs.States.{StateIs, frames_by, Stands}
use Rattle.engine.proofs.Cases.{bool_cases, own_party, same_party, two_parties, other_party}
use Rattle.engine.specs.inside.Facts.{Laws, Fits}
use Rattle.engine.specs.inside.Arrivals.{came, lines_given}
use Rattle.engine.proofs.Stepping.{state_on, told_as, sent_here, frames_own}
use Rattle.engine.proofs.Streams.{with_sent}
use Rattle.engine.proofs.Saying.{said_accepted}

-- a desk that keeps no lines
no_lines : (m : Setup) (x : State) (lines : List OutLine) (sent : List (List ℕ)) (u : Party)
    (st : DeskState) → StateIs m x lines sent u st → StateIs m x [] sent u (told_nothing st)
no_lines m x lines sent u st is = record {
  address = is.address;
  partition = is.partition;
  frame = is.frame;
  next = is.next;
  told = refl;
  wires = is.wires;
  ours = is.ours;
  given = is.given;
  genuine = is.genuine;
}

-- the calls that are given at the manager unit of p
calls_at : (m : Setup) (x : State) (e : Event) (p : Partition) → place_of e ≡ Manager p
    → calls_by m x e ≡ map (call_row p.0) (given_to m x e (Manager p))
calls_at m x e p place = ap (λ u. calls_to u (given_to m x e u)) place

pub sent_with : (m : Setup) (x : State) (e : Event) (p : Partition) (s r : Party)
    (given : List Message) → sending_of m.roster e ≡ None → place_of e ≡ Manager p
    → given_to m x e (Manager p) ≡ given
    → sent_by m x e s r ≡ map (λ c. reply_text (reply m x.calls c))
    (filter (is_answered_on m.roster s r) (map (call_row p.0) given))
sent_with m x e p s r given none place is =
    ap₂ (λ (o : Option Sending) (cs : List CallRow). sent_on m.roster o s r
    ++ map (λ c. reply_text (reply m x.calls c)) (filter (is_answered_on m.roster s r) cs)) none
    (calls_at m x e p place ∙ ap (map (call_row p.0)) is)

-- no call is given
pub manager_idles : Laws → (m : Setup) (past : List Event) (e : Event) (p : Partition)
    (st : DeskState) → sending_of m.roster e ≡ None → place_of e ≡ Manager p
    → given_to m (state m past) e (Manager p) ≡ []
    → StateIs m (came m e (state m past)) (lines_given (given_to m (state m past) e (Manager p)))
    (frames_by (Manager p) (wire m past)) (Manager p) st
    → Stands m (e ∷ past) (state m (e ∷ past)) (Manager p) (told_nothing st)
manager_idles laws m past e p st none place given is =
    let x = state m past in
    let u = Manager p in
    let sent_none : (s r : Party) → sent_by m x e s r ≡ [] =
    λ s r. sent_with m x e p s r [] none place given in
    told_as m (after m e x) [] [] (frames_by u (wire m past)) (frames_by u (wire m (e ∷ past))) u
    (told_nothing st) refl
    (sym (append-nil (frames_by u (wire m past)))
    ∙ ap (λ rows. frames_by u (wire m past) ++ frames_by u rows)
    (sym (laws.no_frames m x e u (λ r. sent_none u r))) ∙ sent_here m past e u place)
    (state_on m (came m e x) (after m e x) [] (frames_by u (wire m past)) u (told_nothing st)
    (λ r. ap (λ more. x.sent u r ++ more) (sent_none u r) ∙ append-nil (x.sent u r))
    (λ s. (sent_by m x e s u, refl)) (λ s. refl) (λ s. refl)
    (no_lines m (came m e x) (lines_given (given_to m x e u)) (frames_by u (wire m past)) u st is))

-- the stream from u to `to` gets this message
abbrev pub joins : Party → Party → List ℕ → Party → Party → List (List ℕ)
joins u to message s r =
    if is_same_party u s && is_same_party to r then message ∷ [] else []

-- the one call of a message is answered to its sender
one_answer : (roster : RosterView) (p : Partition) (l : Message) (s r : Party) (text : List ℕ)
    (f : CallRow → List ℕ) → is_partner roster (Manager p) l.from ≡ true
    → f (call_row p.0 l) ≡ text
    → map f (filter (is_answered_on roster s r) (map (call_row p.0) (l ∷ [])))
    ≡ joins (Manager p) l.from text s r
one_answer roster p l s r text f partner is =
    by (bool_cases (is_same_party (Manager p) s)) (bool_cases (is_same_party l.from r))
  where
    by : (is_same_party (Manager p) s ≡ true) ⊎ (is_same_party (Manager p) s ≡ false)
        → (is_same_party l.from r ≡ true) ⊎ (is_same_party l.from r ≡ false)
        → map f (filter (is_answered_on roster s r) (map (call_row p.0) (l ∷ [])))
        ≡ joins (Manager p) l.from text s r
    by (inl own) (inl to) =
        let both : is_partner roster s r ≡ true =
        ap₂ (is_partner roster) (sym (same_party (Manager p) s own)) (sym (same_party l.from r to))
        ∙ partner in
        rw (own, to, both) (ap (λ t. t ∷ []) is)
    by (inl own) (inr other) = rw (own, other) refl
    by (inr other) to = rw other refl

-- one call is given, and answered by this text: it is what the event makes anybody send
pub replies_one : Laws → (m : Setup) (past : List Event) (e : Event) (p : Partition) (l : Message)
    (text : List ℕ) → sending_of m.roster e ≡ None → place_of e ≡ Manager p
    → is_partner m.roster (Manager p) l.from ≡ true
    → given_to m (state m past) e (Manager p) ≡ l ∷ []
    → text ≡ reply_text (reply m (state m past).calls (call_row p.0 l)) → (s r : Party)
    → sent_by m (state m past) e s r ≡ joins (Manager p) l.from text s r
replies_one laws m past e p l text none place partner given is_reply s r =
    sent_with m (state m past) e p s r (l ∷ []) none place given
    ∙ one_answer m.roster p l s r text (λ c. reply_text (reply m (state m past).calls c)) partner
    (sym is_reply)

-- and these are its frames
pub replies_frames : Laws → (m : Setup) (past : List Event) (e : Event) (p : Partition)
    (l : Message) (text : List ℕ) → Fits m past → sending_of m.roster e ≡ None
    → place_of e ≡ Manager p → is_partner m.roster (Manager p) l.from ≡ true
    → given_to m (state m past) e (Manager p) ≡ l ∷ []
    → text ≡ reply_text (reply m (state m past).calls (call_row p.0 l))
    → frames_from m (state m past) e (Manager p)
    ≡ frames_of m (Manager p) l.from (length ((state m past).sent (Manager p) l.from)) text
replies_frames laws m past e p l text fits none place partner given is_reply =
    let u = Manager p in
    let to = l.from in
    let own_u = own_party u in
    let own_to = own_party to in
    let one = replies_one laws m past e p l text none place partner given is_reply in
    laws.its_frames m (state m past) e u to text fits.roster
    (laws.both_known m.roster u to partner).1 (one u to ∙ rw (own_u, own_to) refl)
    (λ r differ. one u r ∙ other_none u to r differ)
  where
    other_none : (u to r : Party) → is_same_party r to ≡ false → joins u to text u r ≡ []
    other_none u to r differ =
        let back : is_same_party to r ≡ false =
        other_party to r (λ same. two_parties r to differ (sym same)) in
        let own_u = own_party u in
        rw (own_u, back) refl

-- its unit, once it has replied
pub manager_replies : Laws → (m : Setup) (past : List Event) (e : Event) (p : Partition)
    (l : Message) (text : List ℕ) (st : DeskState) → Fits m past → sending_of m.roster e ≡ None
    → place_of e ≡ Manager p → is_partner m.roster (Manager p) l.from ≡ true
    → given_to m (state m past) e (Manager p) ≡ l ∷ []
    → text ≡ reply_text (reply m (state m past).calls (call_row p.0 l)) → length text ≤ 5632
    → StateIs m (came m e (state m past)) (lines_given (given_to m (state m past) e (Manager p)))
    (frames_by (Manager p) (wire m past)) (Manager p) st
    → Stands m (e ∷ past) (state m (e ∷ past)) (Manager p)
    (told_nothing (did st (says l.from text)))
manager_replies laws m past e p l text st fits none place partner given is_reply short is =
    let x = state m past in
    let u = Manager p in
    let to = l.from in
    let n = length (x.sent u to) in
    let few = fits.few u to in
    let said = said_accepted laws m (came m e x) (lines_given (given_to m x e u))
    (frames_by u (wire m past)) u to text st fits.roster partner short (omega (arith, few)) is in
    let sent_one = replies_one laws m past e p l text none place partner given is_reply in
    let its = replies_frames laws m past e p l text fits none place partner given is_reply in
    told_as m (after m e x) [] [] (frames_by u (wire m past) ++ frames_if m u to n (Some text))
    (frames_by u (wire m (e ∷ past))) u (told_nothing (did st (says to text))) refl
    (ap (λ more. frames_by u (wire m past) ++ more)
    (sym (frames_own m u to n text) ∙ ap (frames_by u) (sym its)) ∙ sent_here m past e u place)
    (state_on m (with_sent (came m e x) u to text) (after m e x) []
    (frames_by u (wire m past) ++ frames_if m u to n (Some text)) u
    (told_nothing (did st (says to text)))
    (λ r. ap (λ more. x.sent u r ++ more) (sent_one u r))
    (λ s. (
      [],
      ap (λ more. x.sent s u ++ more) (sent_one s u)
          ∙ sym (append-nil (x.sent s u ++ joins u to text s u)),
    ))
    (λ s. refl) (λ s. refl)
    (no_lines m (with_sent (came m e x) u to text) (lines_given (given_to m x e u) ++ Sent to n ∷ [])
    (frames_by u (wire m past) ++ frames_if m u to n (Some text)) u (did st (says to text)) said))
