-- One event of a script after another.
use Rattle.std.proofs.Common.{◌≡◌, ℕ, ◌+◌, ◌<◌, List, [], ◌∷◌, ◌++◌, length, take, get_or, reverse, Option, Some, None, Err, suc, refl, sym, ap, subst, ◌∙◌, inl, inr, append-nil, arith}
use Rattle.std.specs.Prelude.{slice_get, option_to_list}
use Rattle.std.proofs.Math.Seq.{take-suc}
use Rattle.std.proofs.lemmas.List.{reverse-append, length-map}
use Rattle.std.proofs.lemmas.Option.{slice_get_read, slice_get_within, get_or_from_slice_get}
use Rattle.seal_core.specs.Sealing.{Sealer}
use Rattle.events.specs.declared.event.Event.{Event}
use Rattle.events.specs.ScriptView.{ScriptView}
use Rattle.events.specs.Scripts.{IsScript}
use Rattle.planned_files.specs.FilesView.{FilesView}
use Rattle.machine.specs.Setup.{Setup, setup_of, sealer}
use Rattle.machine.specs.Low.{place_of}
use Rattle.machine.specs.Machine.{state, state_at}
use Rattle.machine.specs.FalseBytes.{OpensFalse}
use Rattle.desk.specs.Views.{DeskView}
use Rattle.engine.specs.declared.merging.SentRow.{SentRow}
use Rattle.engine.specs.declared.halt.Halt.{Halt}
use Rattle.engine.specs.declared.halt.Halt.TheVariants.{Opened, OutOfMemory}
use Rattle.engine.specs.Reports.{StopsEarly}
use Rattle.engine.specs.inside.Ends.{Sends, Passed, EndsEvent}
use Rattle.engine.specs.inside.Merging.{SentIs}
use Rattle.engine.specs.inside.Scripted.{ScriptLaws, HasRun, stop_at}
use Rattle.engine.specs.inside.Standing.{SetupOf, NetworkStands}
use Rattle.engine.proofs.Cases.{nat_cases}
use Rattle.engine.proofs.Sent.{sent_none, sent_stays, sent_more}

pub same_some : {A : Type 0} (x y : A) → Some x ≡ Some y → x ≡ y
same_some x y same = cc

-- the setup of a script is that of its roster
pub setup_is : ScriptLaws → (script : ScriptView) (sealed : Sealer) → IsScript script
    → sealer script.roster.sealing ≡ sealed → SetupOf (setup_of script) sealed script.roster
setup_is laws script sealed is same = record {
  roster_is = refl;
  sealed_is = same;
  keys = λ p lt. laws.keys script p is lt;
}

-- the event that is read
pub event_there : (events items : List Event) (n : ℕ) (e : Event) → items ≡ events
    → n < length items → e ≡ get_or items n e → slice_get events n ≡ Some e
event_there events items n e same lt is =
    subst (λ xs. slice_get xs n ≡ Some e) same
    (slice_get_read items (length items) n e refl lt is)

-- one more event is the newest
pub past_more : (events : List Event) (n : ℕ) (e : Event) → slice_get events n ≡ Some e
    → reverse (take (n + 1) events) ≡ e ∷ reverse (take n events)
past_more events n e there =
    let one : n + 1 ≡ suc n = omega arith in
    ap (λ k. reverse (take k events)) one
    ∙ ap reverse (take-suc events n e (slice_get_within events n e there))
    ∙ ap (λ x. reverse (take n events ++ x ∷ [])) (get_or_from_slice_get events n e e there)
    ∙ reverse-append (take n events) (e ∷ [])

pub starts : (script : ScriptView) (desks : List (Option DeskView)) (files : FilesView)
    (sent : List SentRow) → sent ≡ [] → NetworkStands (setup_of script) [] desks files
    → HasRun script 0 desks files sent
starts script desks files sent none stands = record {
  stands = stands;
  rows = subst (SentIs (setup_of script) []) (sym none) (sent_none (setup_of script));
  clean = λ k e lt. absurd (omega (arith, lt));
}

rows_on : (m : Setup) (past : List Event) (e : Event) (rows : List SentRow)
    (row : Option SentRow) → Sends m (state m past) e row → SentIs m past rows
    → SentIs m (e ∷ past) (rows ++ option_to_list row)
rows_on m past e rows None sends is =
    subst (SentIs m (e ∷ past)) (sym (append-nil rows))
    (sent_stays m past e rows sends.frames sends.none is)
rows_on m past e rows (Some row) sends is =
    subst (λ r. SentIs m (e ∷ past) (rows ++ r ∷ [])) (sym sends.row_is)
    (sent_more m past e rows (place_of e) sends.to sends.body refl sends.known sends.frames sends.one
    is)

-- an event passed
pub runs_on : (script : ScriptView) (n : ℕ) (e : Event) (desks desks' : List (Option DeskView))
    (files files' : FilesView) (sent sent' : List SentRow) (row : Option SentRow)
    → slice_get script.events n ≡ Some e → HasRun script n desks files sent
    → Passed (setup_of script) (reverse (take n script.events)) e desks' files' row
    → sent' ≡ sent ++ option_to_list row → HasRun script (n + 1) desks' files' sent'
runs_on script n e desks desks' files files' sent sent' row there run passed more =
    let m = setup_of script in
    let past = reverse (take n script.events) in
    let now = sym (past_more script.events n e there) in
    record {
      stands = subst (λ p. NetworkStands m p desks' files') now passed.stands;
      rows = subst (λ p. SentIs m p sent') now
          (subst (SentIs m (e ∷ past)) (sym more) (rows_on m past e sent row passed.sends run.rows));
      clean = λ k e' lt is. elim (nat_cases k n) [
        | inl last ↦ subst (λ f. ¬ OpensFalse m (state_at script k) f)
            (same_some e e' (sym there ∙ ap (slice_get script.events) (sym last) ∙ is))
            (subst (λ j. ¬ OpensFalse m (state_at script j) e) (sym last) passed.clean)
        | inr earlier ↦ run.clean k e' (omega (arith, lt, earlier)) is
      ];
    }

-- false bytes opened at an event, or memory ran out
pub stops : (script : ScriptView) (n : ℕ) (e : Event) (desks desks' : List (Option DeskView))
    (files files' : FilesView) (sent : List SentRow) (halt : Halt)
    → slice_get script.events n ≡ Some e → HasRun script n desks files sent
    → EndsEvent (setup_of script) (reverse (take n script.events)) e desks' files' (Err halt)
    → StopsEarly script (stop_at script n halt)
stops script n e desks desks' files files' sent OutOfMemory there run ends = tt
stops script n e desks desks' files files' sent Opened there run ends = record {
  event = n;
  first = record { event = e; there = there; opens = ends; before = run.clean };
  there = refl;
}

-- files have the levels of the roster
pub levels_are : (m : Setup) (past : List Event) (desks : List (Option DeskView))
    (files : FilesView) → NetworkStands m past desks files
    → length files.manager.levels ≡ length m.roster.levels
levels_are m past desks files stands =
    ap length stands.files_stand.manager.levels ∙ length-map m.roster.levels (λ row. row.level)
