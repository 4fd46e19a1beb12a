-- A host sends a message: its desk and the machine say the same.
use Rattle.std.proofs.Common.{◌≡◌, ℕ, ◌<◌, ◌≤◌, List, [], ◌∷◌, ◌++◌, ◌&&◌, length, map, Bool, true, false, Option, Some, refl, sym, ap, ap₂, ◌∙◌, ◌⊎◌, inl, inr, append-nil, arith}
use Rattle.std.specs.Prelude.{filter, if◌then◌else◌}
use Rattle.std.proofs.lemmas.Bool.Decides.{nat_tests}
use Rattle.levels.specs.declared.level.Party.{Party}
use Rattle.levels.specs.declared.level.Party.TheVariants.{Host}
use Rattle.levels.specs.Rosters.{RosterView, is_same_party, is_partner}
use Rattle.frame.specs.declared.refused.SendRefused.TheVariants.{NoPartner, TooLong}
use Rattle.events.specs.declared.event.Event.{Event}
use Rattle.machine.specs.declared.line.OutLine.{OutLine}
use Rattle.machine.specs.declared.line.OutLine.TheVariants.{Sent, Refused, From}
use Rattle.machine.specs.Setup.{Setup}
use Rattle.machine.specs.Sends.{Sending, is_short, sent_on, answer_to, answers}
use Rattle.file_calls.specs.Spelling.{reply_text}
use Rattle.machine.specs.Files.{CallRow}
use Rattle.machine.specs.Plan.{reply}
use Rattle.machine.specs.Machine.{State, Message, given_to, calls_to, is_answered_on, sent_by, lines_by, after, state}
use Rattle.machine.specs.Wire.{frames_of, frames_from, wire}
use Rattle.machine.specs.Laws.{HandsNothing}
use Rattle.desk.specs.Deeds.{DeskState, says, did}
use Rattle.engine.specs.Handed.{frames_if}
use Rattle.engine.specs.States.{StateIs, frames_by, Stands}
use Rattle.engine.specs.inside.Events.{IsSend}
use Rattle.engine.proofs.Cases.{bool_cases, own_party, two_parties, other_party}
use Rattle.engine.specs.inside.Facts.{Laws, Fits}
use Rattle.engine.proofs.Stepping.{state_on, told_as, sent_here, frames_own}
use Rattle.engine.proofs.Streams.{with_sent}
use Rattle.engine.proofs.Saying.{said_accepted, said_to_no_partner, said_too_much}

-- ---- what the machine makes of a send

-- the stream from u to `to` gets this message
abbrev pub joins : Party → Party → List ℕ → Party → Party → List (List ℕ)
joins u to message s r =
    if is_same_party u s && is_same_party to r then message ∷ [] else []

-- and no other stream of u
pub joins_no_other : (u to r : Party) (message : List ℕ) → is_same_party r to ≡ false
    → joins u to message u r ≡ []
joins_no_other u to r message differ =
    let back : is_same_party to r ≡ false =
    other_party to r (λ same. two_parties r to differ (sym same)) in
    let own_u = own_party u in
    rw (own_u, back) refl

pub is_sent : (roster : RosterView) (u to : Party) (message : List ℕ) (s r : Party)
    → is_partner roster u to ≡ true → is_short message ≡ true
    → sent_on roster (Some (record { from = u; to = to; message = message })) s r
    ≡ joins u to message s r
is_sent roster u to message s r partner short = rw (partner, short) (of (is_same_party u s) (is_same_party to r))
  where
    of : (a b : Bool) → (if a && b && (true && true) then message ∷ [] else [])
        ≡ (if a && b then message ∷ [] else [])
    of true true = refl
    of true false = refl
    of false b = refl

pub not_sent : (roster : RosterView) (u to : Party) (message : List ℕ) (s r : Party)
    → (is_partner roster u to && is_short message) ≡ false
    → sent_on roster (Some (record { from = u; to = to; message = message })) s r ≡ []
not_sent roster u to message s r refused = rw refused (of (is_same_party u s) (is_same_party to r))
  where
    of : (a b : Bool) → (if a && b && false then message ∷ [] else []) ≡ []
    of true true = refl
    of true false = refl
    of false b = refl

-- ---- a send event

pub sent_by_it : (m : Setup) (x : State) (e : Event) (a : ℕ) (to : Party) (message : List ℕ)
    (s r : Party) → IsSend m e a to message
    → sent_by m x e s r
    ≡ sent_on m.roster (Some (record { from = Host a; to = to; message = message })) s r
sent_by_it m x e a to message s r is =
    ap₂ (λ (o : Option Sending) (cs : List CallRow). sent_on m.roster o s r
    ++ map (λ c. reply_text (reply m x.calls c)) (filter (is_answered_on m.roster s r) cs)) is.sending
    (ap (λ p. calls_to p (given_to m x e p)) is.place)
    ∙ append-nil (sent_on m.roster (Some (record { from = Host a; to = to; message = message })) s r)

told_by_it : (m : Setup) (x : State) (e : Event) (a : ℕ) (to : Party) (message : List ℕ)
    → IsSend m e a to message → given_to m x e (Host a) ≡ []
    → lines_by m x e (Host a)
    ≡ answer_to m.roster (record { from = Host a; to = to; message = message }) (x.sent (Host a) to)
    ∷ []
told_by_it m x e a to message is none =
    ap₂ (λ (o : Option Sending) (ls : List Message). answers m.roster x.sent o (Host a)
    ++ map (λ l. From l.from l.body) ls) is.sending none
    ∙ (let own = own_party (Host a) in rw own refl)

-- whether a send is accepted, or why it isn't
answer_cases : (roster : RosterView) (u to : Party) (message : List ℕ)
    → ((is_partner roster u to ≡ true) × (is_short message ≡ true))
    ⊎ ((is_partner roster u to ≡ false) ⊎ ((is_partner roster u to ≡ true) × (is_short message ≡ false)))
answer_cases roster u to message = elim (bool_cases (is_partner roster u to)) [
  | inr none ↦ inr (inl none)
  | inl partner ↦ elim (bool_cases (is_short message)) [
    | inl short ↦ inl (partner, short)
    | inr long ↦ inr (inr (partner, long))
  ]
]

same_end : (before more : List OutLine) (line : OutLine) → more ≡ line ∷ []
    → before ++ line ∷ [] ≡ before ++ more
same_end before more line is = ap (λ ls. before ++ ls) (sym is)

pub host_sends : Laws → (m : Setup) (past : List Event) (e : Event) (a : ℕ) (to : Party)
    (message : List ℕ) (st : DeskState) → Fits m past → IsSend m e a to message
    → HandsNothing m (state m past) e (Host a)
    → Stands m past (state m past) (Host a) st
    → Stands m (e ∷ past) (state m (e ∷ past)) (Host a) (did st (says to message))
host_sends laws m past e a to message st fits is none stands =
    by (answer_cases m.roster (Host a) to message)
  where
    refused : (line : OutLine) → lines_by m (state m past) e (Host a) ≡ line ∷ []
        → (is_partner m.roster (Host a) to && is_short message) ≡ false
        → StateIs m (state m past) ((state m past).told (Host a) ++ line ∷ [])
        (frames_by (Host a) (wire m past)) (Host a) (did st (says to message))
        → Stands m (e ∷ past) (state m (e ∷ past)) (Host a) (did st (says to message))
    refused line told refuses said =
        let x = state m past in
        let u = Host a in
        let sent_none : (s r : Party) → sent_by m x e s r ≡ [] =
        λ s r. sent_by_it m x e a to message s r is ∙ not_sent m.roster u to message s r refuses in
        told_as m (after m e x) (x.told u ++ line ∷ []) (x.told u ++ lines_by m x e u)
        (frames_by u (wire m past)) (frames_by u (wire m (e ∷ past))) u (did st (says to message))
        (same_end (x.told u) (lines_by m x e u) line told)
        (sym (append-nil (frames_by u (wire m past)))
        ∙ ap (λ rows. frames_by u (wire m past) ++ frames_by u rows)
        (sym (laws.no_frames m x e u (λ r. sent_none u r))) ∙ sent_here m past e u is.place)
        (state_on m x (after m e x) (x.told u ++ line ∷ []) (frames_by u (wire m past)) u
        (did st (says to message))
        (λ r. ap (λ more. x.sent u r ++ more) (sent_none u r) ∙ append-nil (x.sent u r))
        (λ s. (sent_by m x e s u, refl))
        (λ s. ap (λ new. new ++ x.arrived s u) (none.none s))
        (λ s. ap (λ new. x.given s u ++ new) (none.numbers s) ∙ append-nil (x.given s u)) said)

    by : ((is_partner m.roster (Host a) to ≡ true) × (is_short message ≡ true))
        ⊎ ((is_partner m.roster (Host a) to ≡ false)
        ⊎ ((is_partner m.roster (Host a) to ≡ true) × (is_short message ≡ false)))
        → Stands m (e ∷ past) (state m (e ∷ past)) (Host a) (did st (says to message))
    by (inl ok) =
        let x = state m past in
        let u = Host a in
        let n = length (x.sent u to) in
        let y : Sending = record { from = u; to = to; message = message } in
        let few = fits.few u to in
        let partner = ok.0 in
        let short = ok.1 in
        let le : length message ≤ 5632 = grind (arith, nat_tests) in
        let said = said_accepted laws m x (x.told u) (frames_by u (wire m past)) u to message st
        fits.roster partner le (omega (arith, few)) stands in
        let line : lines_by m x e u ≡ Sent to n ∷ [] =
        told_by_it m x e a to message is none.given ∙ rw (partner, short) refl in
        let sent_one : (s r : Party) → sent_by m x e s r ≡ joins u to message s r =
        λ s r. sent_by_it m x e a to message s r is ∙ is_sent m.roster u to message s r partner short in
        let own_u = own_party u in
        let own_to = own_party to in
        let its : frames_from m x e u ≡ frames_of m u to n message =
        laws.its_frames m x e u to message fits.roster is.known
        (sent_one u to ∙ rw (own_u, own_to) refl)
        (λ r differ. sent_one u r ∙ joins_no_other u to r message differ) in
        told_as m (after m e x) (x.told u ++ Sent to n ∷ []) (x.told u ++ lines_by m x e u)
        (frames_by u (wire m past) ++ frames_if m u to n (Some message))
        (frames_by u (wire m (e ∷ past))) u (did st (says to message))
        (same_end (x.told u) (lines_by m x e u) (Sent to n) line)
        (ap (λ more. frames_by u (wire m past) ++ more)
        (sym (frames_own m u to n message) ∙ ap (frames_by u) (sym its)) ∙ sent_here m past e u is.place)
        (state_on m (with_sent x u to message) (after m e x) (x.told u ++ Sent to n ∷ [])
        (frames_by u (wire m past) ++ frames_if m u to n (Some message)) u (did st (says to message))
        (λ r. ap (λ more. x.sent u r ++ more) (sent_one u r))
        (λ s. (
          [],
          ap (λ more. x.sent s u ++ more) (sent_one s u)
              ∙ sym (append-nil (x.sent s u ++ joins u to message s u)),
        ))
        (λ s. ap (λ new. new ++ x.arrived s u) (none.none s))
        (λ s. ap (λ new. x.given s u ++ new) (none.numbers s) ∙ append-nil (x.given s u)) said)
    by (inr (inl no_partner)) =
        let x = state m past in
        let u = Host a in
        let said = said_to_no_partner laws m x (x.told u) (frames_by u (wire m past)) u to message st
        fits.roster is.known no_partner stands in
        let line : lines_by m x e u ≡ Refused to NoPartner ∷ [] =
        told_by_it m x e a to message is none.given ∙ rw no_partner refl in
        refused (Refused to NoPartner) line (rw no_partner refl) said
    by (inr (inr too_long)) =
        let x = state m past in
        let u = Host a in
        let partner = too_long.0 in
        let long = too_long.1 in
        let more : 5632 < length message = grind (arith, nat_tests) in
        let said = said_too_much laws m x (x.told u) (frames_by u (wire m past)) u to message st
        fits.roster partner more stands in
        let line : lines_by m x e u ≡ Refused to TooLong ∷ [] =
        told_by_it m x e a to message is none.given ∙ rw (partner, long) refl in
        refused (Refused to TooLong) line (rw (partner, long) refl) said
