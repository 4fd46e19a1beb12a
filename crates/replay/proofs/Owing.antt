-- The status, the text and the report that are owed.
use Rattle.std.proofs.Common.{◌≡◌, ◌≢◌, ℕ, ◌≤◌, List, length, sym, subst, refl}
use Rattle.std.specs.Prelude.{Err, Option, Some, None}
use Rattle.std.proofs.lemmas.Option.{slice_get_within}
use Rattle.events.specs.ScriptView.{ScriptView}
use Rattle.script.specs.declared.read.TheConstants.{TEXT_LIMIT}
use Rattle.script.specs.Answers.{AnswersText}
use Rattle.script.specs.declared.refusal.Refusal.{Refusal}
use Rattle.script.specs.declared.refusal.ScriptRefused.{ScriptRefused}
use Rattle.script.specs.declared.refusal.ScriptRefused.TheVariants as why
use Rattle.machine.specs.FalseBytes.{NoneFalse}
use Rattle.engine.specs.ReportView.{ReportView}
use Rattle.engine.specs.declared.report.EngineStop.{EngineStop}
use Rattle.engine.specs.declared.report.EngineStop.TheVariants as engine_stop
use Rattle.engine.specs.Reports.{IsReport, StopsAt, EndsRun}
use Rattle.replay.specs.declared.command.Command.{Command}
use Rattle.replay.specs.declared.command.Command.TheVariants.{Check, Run, Twin, Drill}
use Rattle.replay.specs.declared.command.Shown.{Shown}
use Rattle.replay.specs.declared.status.Status.{Status}
use Rattle.replay.specs.declared.status.Status.TheVariants.{Fine, Usage, Refused, ReadFault, WriteFault, Opened, OutOfMemory}
use Rattle.drill.specs.Drills.{drill}
use Rattle.replay.specs.Words.{IsOfOne, Reads}
use Rattle.replay.specs.Lines.{refused_line, check_line, opened_line}
use Rattle.replay.specs.Summary.{drill_text}
use Rattle.replay.specs.Due.{Due, usage, long, refused, checked, opened, run, twins, drilled, shown_text}
use Rattle.replay.specs.Kept.{KeepsReport}
use Rattle.replay.specs.inside.Owing.{IsOwedFor, IsOwedOf, IsOwedAlways, IsStop}

-- the counts of a script
pub counts : (script : ScriptView) (text : List ℕ) → text ≡ check_line script
    → IsOwedOf script Check Fine text None
counts script text is bytes said = record {
  due = subst (λ (t : List ℕ). Due bytes (Some Check) Fine t) (sym is) (checked script said);
  kept = refl;
}

-- what a run shows, and its report
pub shows : (shown : Shown) (report : ReportView) (text : List ℕ) → IsReport report.script report
    → text ≡ shown_text shown report.script → IsOwedOf report.script (Run shown) Fine text (Some report)
shows shown report text reports is bytes said = record {
  due = subst (λ (t : List ℕ). Due bytes (Some (Run shown)) Fine t) (sym is)
      (run shown report.script said reports.clean);
  kept = record { script = report.script; said = said; reports = reports };
}

-- the line at which false bytes opened
stops_for : (shown : Shown) (script : ScriptView) (number : ℕ) → StopsAt script number
    → IsOwedOf script (Run shown) (Opened number) (opened_line number) None
stops_for shown script number stops bytes said = record {
  due = subst (λ (n : ℕ). Due bytes (Some (Run shown)) (Opened n) (opened_line n)) (sym stops.there)
      (opened shown script stops.event said stops.first);
  kept = refl;
}

-- what a run answers where false bytes opened
pub stops_at : (script : ScriptView) (why : EngineStop) (number : ℕ)
    → why ≡ engine_stop.Opened number → EndsRun script (Err why) → StopsAt script number
stops_at script why number is h = subst (λ (w : EngineStop). EndsRun script (Err w)) is h

pub stops : (shown : Shown) (script : ScriptView) (number : ℕ) (status : Status) (text : List ℕ)
    (report : Option ReportView) → StopsAt script number → status ≡ Opened number → text ≡ opened_line number
    → report ≡ None → IsOwedOf script (Run shown) status text report
stops shown script number status text report at is t none =
    subst (λ (s : Status). IsOwedOf script (Run shown) s text report) (sym is)
    (subst (λ (w : List ℕ). IsOwedOf script (Run shown) (Opened number) w report) (sym t)
    (subst (λ (r : Option ReportView). IsOwedOf script (Run shown) (Opened number) (opened_line number) r) (sym none)
    (stops_for shown script number at)))

-- nothing is kept after another status than `Fine`
pub keeps_none : (command : Option Command) (status : Status) (left : Option (List ℕ)) → status ≢ Fine
    → KeepsReport command status left None
keeps_none None status left other = refl
keeps_none (Some Check) status left other = refl
keeps_none (Some (Twin name)) status left other = refl
keeps_none (Some (Run shown)) Fine left other = absurd (other refl)
keeps_none (Some (Run shown)) Usage left other = refl
keeps_none (Some (Run shown)) (Refused refusal) left other = refl
keeps_none (Some (Run shown)) ReadFault left other = refl
keeps_none (Some (Run shown)) WriteFault left other = refl
keeps_none (Some (Run shown)) (Opened line) left other = refl
keeps_none (Some (Run shown)) OutOfMemory left other = refl
keeps_none (Some (Drill seed count)) Fine left other = absurd (other refl)
keeps_none (Some (Drill seed count)) Usage left other = refl
keeps_none (Some (Drill seed count)) (Refused refusal) left other = refl
keeps_none (Some (Drill seed count)) ReadFault left other = refl
keeps_none (Some (Drill seed count)) WriteFault left other = refl
keeps_none (Some (Drill seed count)) (Opened line) left other = refl
keeps_none (Some (Drill seed count)) OutOfMemory left other = refl

-- ---- refusals

-- a refusal that is due is owed, and nothing is kept
pub owes_refusal : (bytes : List ℕ) (command : Command) (refusal : Refusal)
    → Due bytes (Some command) (Refused refusal) (refused_line refusal)
    → IsOwedFor bytes command (Refused refusal) (refused_line refusal) None
owes_refusal bytes command refusal due = record {
  due = due;
  kept = keeps_none (Some command) (Refused refusal) (Some bytes) (λ e. (let k : ⊥ = cc in k));
}

-- where a reading stopped, its refusal is owed
pub owes_stop : (bytes : List ℕ) (command : Command) (stop : ScriptRefused) (status : Status) (text : List ℕ)
    (report : Option ReportView)
    → ((refusal : Refusal) → stop ≡ why.Refused refusal
    → IsOwedFor bytes command (Refused refusal) (refused_line refusal) None)
    → IsStop stop status text report → IsOwedFor bytes command status text report
owes_stop bytes command stop status text report owed h =
    subst (λ (s : Status). IsOwedFor bytes command s text report) (sym h.status)
    (subst (λ (w : List ℕ). IsOwedFor bytes command (Refused h.refusal) w report) (sym h.text)
    (subst (λ (r : Option ReportView). IsOwedFor bytes command (Refused h.refusal) (refused_line h.refusal) r)
    (sym h.report) (owed h.refusal h.why)))

-- the same of one script, by what its reading answers
pub refuses : (bytes : List ℕ) (command : Command) (stop : ScriptRefused) (status : Status) (text : List ℕ)
    (report : Option ReportView) → IsOfOne command → length bytes ≤ TEXT_LIMIT → AnswersText bytes (Err stop)
    → IsStop stop status text report → IsOwedFor bytes command status text report
refuses bytes command stop status text report one short answers h =
    owes_stop bytes command stop status text report
    (λ refusal is. owes_refusal bytes command refusal (refused command refusal one short
    (subst (λ (w : ScriptRefused). AnswersText bytes (Err w)) is answers))) h

-- ---- drills

-- the summary of a drill, and its report
pub drills : (seed count : ℕ) (report : ReportView) (text : List ℕ) → IsReport (drill seed count) report
    → text ≡ drill_text seed count → IsOwedAlways (Drill seed count) Fine text (Some report)
drills seed count report text reports is bytes = record {
  due = subst (λ (t : List ℕ). Due bytes (Some (Drill seed count)) Fine t) (sym is) (drilled seed count);
  kept = reports;
}

-- a run of a drill doesn't stop
pub no_stop : (script made : ScriptView) (why : EngineStop) (number : ℕ) → script ≡ made
    → NoneFalse made (length made.events) → why ≡ engine_stop.Opened number → EndsRun script (Err why) → ⊥
no_stop script made why number same clean is h =
    let at = stops_at made why number is (subst (λ (s : ScriptView). EndsRun s (Err why)) same h) in
    clean at.event at.first.event (slice_get_within made.events at.event at.first.event at.first.there)
    at.first.there at.first.opens

reads_one : (command : Command) → IsOfOne command → Reads (Some command)
reads_one Check one = tt
reads_one (Run shown) one = tt
reads_one (Twin name) one = absurd one
reads_one (Drill seed count) one = absurd one

-- where nothing is read, what is due for one input is due for each
pub due_unread : (bytes other : List ℕ) (command : Option Command) (status : Status) (text : List ℕ)
    → (Reads command → ⊥) → Due bytes command status text → Due other command status text
due_unread bytes other command status text unread usage = usage
due_unread bytes other command status text unread (long own reads more) = absurd (unread reads)
due_unread bytes other command status text unread (refused own refusal one short first) =
    absurd (unread (reads_one own one))
due_unread bytes other command status text unread (checked script said) = absurd (unread tt)
due_unread bytes other command status text unread (opened shown script event said first) = absurd (unread tt)
due_unread bytes other command status text unread (run shown script said none) = absurd (unread tt)
due_unread bytes other command status text unread (twins name first second own written short cut due) =
    absurd (unread tt)
due_unread bytes other command status text unread (drilled seed count) = drilled seed count

-- and what is kept for one is kept for each
pub keeps_unread : (command : Option Command) (status : Status) (left other : Option (List ℕ))
    (report : Option ReportView) → (Reads command → ⊥) → KeepsReport command status left report
    → KeepsReport command status other report
keeps_unread None status left other report unread h = h
keeps_unread (Some Check) status left other report unread h = absurd (unread tt)
keeps_unread (Some (Run shown)) status left other report unread h = absurd (unread tt)
keeps_unread (Some (Twin name)) status left other report unread h = absurd (unread tt)
keeps_unread (Some (Drill seed count)) Fine left other report unread h = h
keeps_unread (Some (Drill seed count)) Usage left other report unread h = h
keeps_unread (Some (Drill seed count)) (Refused refusal) left other report unread h = h
keeps_unread (Some (Drill seed count)) ReadFault left other report unread h = h
keeps_unread (Some (Drill seed count)) WriteFault left other report unread h = h
keeps_unread (Some (Drill seed count)) (Opened line) left other report unread h = h
keeps_unread (Some (Drill seed count)) OutOfMemory left other report unread h = h
