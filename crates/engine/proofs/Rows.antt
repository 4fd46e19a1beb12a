-- What an event at a host makes it send; no false bytes open at a host's sends and arrivals.
use Rattle.std.proofs.Common.{◌≡◌, ℕ, List, [], ◌∷◌, ◌&&◌, length, Bool, true, false, Option, Some, None, refl, sym, ap, ◌∙◌}
use Rattle.std.specs.Prelude.{slice_get, if◌then◌else◌}
use Rattle.levels.specs.declared.level.Party.{Party}
use Rattle.levels.specs.declared.level.Party.TheVariants.{Host}
use Rattle.levels.specs.Rosters.{RosterView, is_partner}
use Rattle.frame.specs.Pieces.{pieces}
use Rattle.events.specs.declared.event.Event.{Event}
use Rattle.events.specs.declared.event.Event.TheVariants.{Send, Ask, Arrive, Carry, Forge, Tamper}
use Rattle.events.specs.Scripts.{is_known}
use Rattle.planned_files.specs.FilesView.{FilesView}
use Rattle.machine.specs.Setup.{Setup}
use Rattle.machine.specs.Low.{place_of}
use Rattle.machine.specs.Sends.{Sending, is_short, sending_of}
use Rattle.machine.specs.Machine.{State, given_to, calls_to, sent_by, state}
use Rattle.machine.specs.FalseBytes.{IsFalse, GivesFalse, OpensFalse}
use Rattle.machine.specs.Wire.{frames_of, frames_from}
use Rattle.desk.specs.Views.{DeskView}
use Rattle.engine.specs.inside.Facts.{Laws, Fits}
use Rattle.engine.specs.inside.Events.{IsSend}
use Rattle.engine.specs.inside.Standing.{NetworkStands}
use Rattle.engine.specs.inside.Ends.{SendsNothing, Sends, row_said, Passed}
use Rattle.engine.proofs.Cases.{own_party}
use Rattle.engine.proofs.Sending.{joins, joins_no_other, is_sent, not_sent, sent_by_it}
use Rattle.engine.proofs.Stepping.{sends_nothing}

-- ---- false bytes

-- no call is given at a host, so none is answered by a false record
pub no_false_record : (m : Setup) (x : State) (e : Event) (a : ℕ) → place_of e ≡ Host a
    → ¬ GivesFalse m x e
no_false_record m x e a place gives =
    let none : slice_get (calls_to (Host a) (given_to m x e (Host a))) gives.place ≡ Some gives.call =
    ap (λ u. slice_get (calls_to u (given_to m x e u)) gives.place) (sym place) ∙ gives.gives in
    cc

pub clean_at_host : (m : Setup) (x : State) (e : Event) (a : ℕ) → place_of e ≡ Host a
    → ¬ IsFalse m x e → ¬ OpensFalse m x e
clean_at_host m x e a place true_frame (OpensFalse.false_frame is) = true_frame is
clean_at_host m x e a place true_frame (OpensFalse.false_record gives) =
    no_false_record m x e a place gives

-- a send is no frame
sends_no_frame : (roster : RosterView) (m : Setup) (x : State) (e : Event) (y : Sending)
    → sending_of roster e ≡ Some y → ¬ IsFalse m x e
sends_no_frame roster m x (Send from to message) y is = λ f. f
sends_no_frame roster m x (Ask from call) y is = λ f. f
sends_no_frame roster m x (Arrive stream message piece at) y is = λ f. f
sends_no_frame roster m x (Carry stream message at) y is = λ f. f
sends_no_frame roster m x (Forge at bytes) y is = cc
sends_no_frame roster m x (Tamper stream message piece at edits) y is = cc

-- ---- rows

nothing_sent : Laws → (m : Setup) (x : State) (e : Event) (s : Party) → place_of e ≡ s
    → ((s r : Party) → sent_by m x e s r ≡ []) → SendsNothing m x e
nothing_sent laws m x e s place none = record {
  frames = laws.no_frames m x e (place_of e) (λ r. none (place_of e) r);
  none = none;
}

row_sent : Laws → (m : Setup) (past : List Event) (e : Event) (a : ℕ) (to : Party)
    (message : List ℕ) (accepted : Bool) → Fits m past → IsSend m e a to message
    → is_known m.roster (Host a) ≡ true
    → (is_partner m.roster (Host a) to && is_short message) ≡ accepted
    → Sends m (state m past) e
    (if accepted
    then Some (record { stream = record { from = Host a; to = to }; pieces = pieces message })
    else None)
row_sent laws m past e a to message false fits is known refused =
    nothing_sent laws m (state m past) e (Host a) is.place
    (λ s r. sent_by_it m (state m past) e a to message s r is
    ∙ not_sent m.roster (Host a) to message s r refused)
row_sent laws m past e a to message true fits is known accepted =
    let x = state m past in
    let u = Host a in
    let both = two (is_partner m.roster u to) (is_short message) accepted in
    let one : (s r : Party) → sent_by m x e s r ≡ joins u to message s r =
    λ s r. sent_by_it m x e a to message s r is
    ∙ is_sent m.roster u to message s r both.0 both.1 in
    let own_u = own_party u in
    let own_to = own_party to in
    let its : frames_from m x e u ≡ frames_of m u to (length (x.sent u to)) message =
    laws.its_frames m x e u to message fits.roster is.known
    (one u to ∙ rw (own_u, own_to) refl)
    (λ r differ. one u r ∙ joins_no_other u to r message differ) in
    record {
      to = to;
      body = message;
      row_is = ap (λ s. record { stream = record { from = s; to = to }; pieces = pieces message })
          (sym is.place);
      known = ap (is_known m.roster) is.place ∙ known;
      frames = ap (frames_from m x e) is.place ∙ its
          ∙ ap (λ s. frames_of m s to (length (x.sent s to)) message) (sym is.place);
      one = λ s r. one s r ∙ ap (λ p. joins p to message s r) (sym is.place);
    }
  where
    two : (b c : Bool) → (b && c) ≡ true → (b ≡ true) × (c ≡ true)
    two true true h = (refl, refl)
    two true false h = cc
    two false c h = cc

-- ---- events at hosts

-- a send passes
pub send_passes : Laws → (m : Setup) (past : List Event) (e : Event) (a : ℕ) (to : Party)
    (message : List ℕ) (desks : List (Option DeskView)) (files : FilesView) → Fits m past
    → IsSend m e a to message → is_known m.roster (Host a) ≡ true
    → NetworkStands m (e ∷ past) desks files
    → Passed m past e desks files (row_said m.roster (Host a) to message)
send_passes laws m past e a to message desks files fits is known stands = record {
  stands = stands;
  clean = clean_at_host m (state m past) e a is.place
      (sends_no_frame m.roster m (state m past) e
      (record { from = Host a; to = to; message = message }) is.sending);
  sends = row_sent laws m past e a to message
      (is_partner m.roster (Host a) to && is_short message) fits is known refl;
}

-- what the network hands a host passes, if it is no false frame
pub arrival_passes : Laws → (m : Setup) (past : List Event) (e : Event) (a : ℕ)
    (desks : List (Option DeskView)) (files : FilesView) → sending_of m.roster e ≡ None
    → place_of e ≡ Host a → ¬ IsFalse m (state m past) e
    → NetworkStands m (e ∷ past) desks files → Passed m past e desks files None
arrival_passes laws m past e a desks files none place true_frame stands = record {
  stands = stands;
  clean = clean_at_host m (state m past) e a place true_frame;
  sends = nothing_sent laws m (state m past) e (Host a) place
      (λ s r. sends_nothing m (state m past) e a s r none place);
}
