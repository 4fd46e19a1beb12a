-- Want of memory ends an event in no other way.
use Rattle.std.proofs.Common.{◌≡◌, List, Option, Result, Ok, Err}
use Rattle.std.specs.Prelude.{IsErrAnd}
use Rattle.events.specs.declared.event.Event.{Event}
use Rattle.planned_files.specs.FilesView.{FilesView}
use Rattle.machine.specs.Setup.{Setup}
use Rattle.desk.specs.Views.{DeskView}
use Rattle.engine.specs.declared.halt.Halt.{Halt}
use Rattle.engine.specs.declared.halt.Halt.TheVariants.{Opened, OutOfMemory}
use Rattle.engine.specs.declared.merging.SentRow.{SentRow}
use Rattle.engine.specs.inside.Ends.{EndsEvent}

pub ends_for_memory : (m : Setup) (past : List Event) (e : Event) (desks : List (Option DeskView))
    (files : FilesView) (r : Result (Option SentRow) Halt) → IsErrAnd r (λ halt. halt ≡ OutOfMemory)
    → EndsEvent m past e desks files r
ends_for_memory m past e desks files (Ok sent) is = absurd is
ends_for_memory m past e desks files (Err Opened) is = cc
ends_for_memory m past e desks files (Err OutOfMemory) is = tt
