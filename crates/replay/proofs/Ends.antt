-- How a call ends.
use Rattle.std.proofs.Common.{◌≡◌, ℕ, ◌+◌, ◌<◌, List, [], length, Option, Some, None, refl, sym, ◌∙◌, subst, inl, inr, arith, append-nil}
use Rattle.std.specs.Io.KnownBytes.{Appends}
use Rattle.std.specs.Prelude.{Err}
use Rattle.dss_io.specs.Reading.{Takes, TakesAtMost, TakesByAnswer}
use Rattle.dss_io.specs.declared.reading.ReadStop.{ReadStop}
use Rattle.dss_io.specs.declared.reading.ReadStop.TheVariants.{TooMany}
use Rattle.script.specs.declared.read.TheConstants.{TEXT_LIMIT}
use Rattle.replay.specs.declared.command.Command.{Command}
use Rattle.replay.specs.declared.status.Status.{Status}
use Rattle.replay.specs.declared.status.Status.TheVariants.{Fine, Usage, Refused, ReadFault, WriteFault, Opened, OutOfMemory}
use Rattle.replay.specs.Words.{Reads}
use Rattle.replay.specs.Lines.{refused_line, too_long}
use Rattle.events.specs.ScriptView.{ScriptView}
use Rattle.engine.specs.ReportView.{ReportView}
use Rattle.replay.specs.Twins.{line_count, DueForScripts, unnamed, apart, opened_first, opened_second, alike, DueForTwins, first_refused, second_refused, compared}
use Rattle.replay.specs.Due.{Due, usage, long, refused, checked, opened, run, twins, drilled, WritesAll, WritesBeginning, Delivers, IsAnswer}
use Rattle.replay.specs.inside.Owing.{IsOwed, IsOwedFor, GoesAlong}

-- all that is due in one sense is due in another
abbrev pub IsDueToo : (Status → List ℕ → Type 0) → (Status → List ℕ → Type 0) → Type 0
IsDueToo due due' = (status : Status) (text : List ℕ) → due status text → due' status text

all_due : (due due' : Status → List ℕ → Type 0) (status : Status) (old new : Option (List ℕ)) → IsDueToo due due'
    → WritesAll due status old new → WritesAll due' status old new
all_due due due' status old new more h = (h.0, (more status h.0 h.1.0, h.1.1))

beginning_due : (due due' : Status → List ℕ → Type 0) (old new : Option (List ℕ)) → IsDueToo due due'
    → WritesBeginning due old new → WritesBeginning due' old new
beginning_due due due' old new more h = (h.0, (h.1.0, (more h.0 h.1.0 h.1.1.0, h.1.1.1)))

pub delivers_due : (due due' : Status → List ℕ → Type 0) (status : Status) (old new : Option (List ℕ))
    → IsDueToo due due' → Delivers due status old new → Delivers due' status old new
delivers_due due due' Fine old new more h = all_due due due' Fine old new more h
delivers_due due due' Usage old new more h = all_due due due' Usage old new more h
delivers_due due due' (Refused refusal) old new more h = all_due due due' (Refused refusal) old new more h
delivers_due due due' ReadFault old new more h = h
delivers_due due due' WriteFault old new more h = beginning_due due due' old new more h
delivers_due due due' (Opened line) old new more h = all_due due due' (Opened line) old new more h
delivers_due due due' OutOfMemory old new more (inl kept) = inl kept
delivers_due due due' OutOfMemory old new more (inr h) = inr (beginning_due due due' old new more h)

-- what is owed is due
pub owed_is_due : (bytes : List ℕ) (command : Option Command) (status : Status) (text : List ℕ)
    → Due bytes command status text → IsDueToo (IsOwed status text) (Due bytes command)
owed_is_due bytes command status text due status' written h =
    subst (λ (s : Status). Due bytes command s written) (sym h.0)
    (subst (λ (t : List ℕ). Due bytes command status t) (sym h.1) due)

appends_nothing : (told : Option (List ℕ)) → Appends told told []
appends_nothing None = tt
appends_nothing (Some bytes) = sym (append-nil bytes)

-- words that have none of the forms write nothing
pub usage_delivers : (bytes : List ℕ) (told : Option (List ℕ)) → Delivers (Due bytes None) Usage told told
usage_delivers bytes told = ([], (usage, appends_nothing told))

pub takes_just : (left now : Option (List ℕ)) (count : ℕ) → Takes left now count → TakesAtMost left now count
takes_just left now count taken = (count, omega arith, taken)

-- what an input takes that is too long
pub takes_long : (T : Type 0) (limit : ℕ) (left now : Option (List ℕ)) (stop : ReadStop) → stop ≡ TooMany
    → TakesByAnswer {T = T} limit left now (Err stop) → TakesAtMost left now (limit + 1)
takes_long T limit left now stop is taken =
    takes_just left now (limit + 1)
    (subst (λ (s : ReadStop). TakesByAnswer {T = T} limit left now (Err s)) is taken)

-- what is due for an input that is too long
pub long_due : (bytes : List ℕ) (command : Command) → Reads (Some command) → TEXT_LIMIT < length bytes
    → Due bytes (Some command) (Refused too_long) (refused_line too_long)
long_due bytes command reads more = long command reads more

-- ---- what is due is an answer

scripts_answer : (name : List ℕ) (above : ℕ) (a b : ScriptView) (status : Status) (text : List ℕ)
    → DueForScripts name above a b status text → IsAnswer status × (status ≡ Usage → ⊥)
scripts_answer name above a b status text (unnamed none) = (tt, λ e. cc)
scripts_answer name above a b status text (apart level place named at) = (tt, λ e. cc)
scripts_answer name above a b status text (opened_first level event named same first) = (tt, λ e. cc)
scripts_answer name above a b status text (opened_second level event named same none first) = (tt, λ e. cc)
scripts_answer name above a b status text (alike level named same none other) = (tt, λ e. cc)

twins_answer : (name first second : List ℕ) (status : Status) (text : List ℕ)
    → DueForTwins name first second status text → IsAnswer status × (status ≡ Usage → ⊥)
twins_answer name first second status text (first_refused refusal own) = (tt, λ e. cc)
twins_answer name first second status text (second_refused refusal clean own) = (tt, λ e. cc)
twins_answer name first second status text (compared a b own written said other due) =
    scripts_answer name (line_count first) a b status text due

-- what is due is an answer, and `Usage` for words of no form alone
due_answer : (bytes : List ℕ) (command : Option Command) (status : Status) (text : List ℕ)
    → Due bytes command status text → IsAnswer status × (status ≡ Usage → command ≡ None)
due_answer bytes command status text usage = (tt, λ e. refl)
due_answer bytes command status text (long own reads more) = (tt, λ e. absurd cc)
due_answer bytes command status text (refused own refusal one short first) = (tt, λ e. absurd cc)
due_answer bytes command status text (checked script said) = (tt, λ e. absurd cc)
due_answer bytes command status text (opened shown script event said first) = (tt, λ e. absurd cc)
due_answer bytes command status text (run shown script said none) = (tt, λ e. absurd cc)
due_answer bytes command status text (twins name first second own written short cut due) =
    let answer = twins_answer name first second status text due in
    (answer.0, λ e. absurd (answer.1 e))
due_answer bytes command status text (drilled seed count) = (tt, λ e. absurd cc)

pub owed_answers : (bytes : List ℕ) (command : Command) (status : Status) (text : List ℕ)
    (report : Option ReportView) → IsOwedFor bytes command status text report → IsAnswer status
owed_answers bytes command status text report owed = (due_answer bytes (Some command) status text owed.due).0

pub owed_uses : (bytes : List ℕ) (command : Command) (status status' : Status) (text : List ℕ)
    (report report' : Option ReportView) → IsOwedFor bytes command status text report
    → GoesAlong status report status' report' → status' ≡ Usage → ⊥
owed_uses bytes command status status' text report report' owed (inl same) is =
    let none = (due_answer bytes (Some command) status text owed.due).1 (sym same.0 ∙ is) in cc
owed_uses bytes command status status' text report report' owed (inr other) is =
    other.0 (subst IsAnswer (sym is) tt)
