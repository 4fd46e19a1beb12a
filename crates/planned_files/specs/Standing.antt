-- Which calls files stand for.
use Rattle.std.specs.Prelude.{◌≡◌, ℕ, ◌-◌, ◌^◌, min, List}
use Rattle.untrusted_store.specs.declared.slot.Slot.{Slot}
use Rattle.untrusted_store.specs.Planned.{last_in, asked_by}
use Rattle.file_manager.specs.Standing as manager
use Rattle.machine.specs.Setup.{Setup}
use Rattle.machine.specs.Files.{CallRow}
use Rattle.machine.specs.Plan.{question_count, records}
use Rattle.planned_files.specs.FilesView.{FilesView}

-- files stand for a list of calls of a setup where the manager stands for them and has the setup's
-- keys, and the store has its plan, has the records of what was written, and was asked each
-- level's questions, as far as 64 bits count
pub record StandsFor (m : Setup) (files : FilesView) (calls : List CallRow) : Type 0 where
  pub manager : manager.StandsFor m.roster files.manager calls
  pub keys : files.manager.keys ≡ m.guard
  pub rows : files.store.rows ≡ m.rows
  pub last : (slot : Slot) → last_in files.store slot ≡ records m calls slot
  pub asked : (level : ℕ)
      → asked_by files.store level ≡ min (question_count m.roster level calls) (2 ^ 64 - 1)
