-- Files stand for no calls when they are opened, and for one call more once it is answered.
use Rattle.std.proofs.Common.{◌≡◌, ℕ, zero, suc, List, [], ◌∷◌, None, Some, refl, sym, ◌∙◌, ap, replicate}
use Rattle.std.specs.Prelude.{slice_index}
use Rattle.levels.specs.declared.level.Party.{Party}
use Rattle.seal_core.specs.Sealing.{Sealer}
use Rattle.untrusted_store.specs.declared.plan.PlanRow.{PlanRow}
use Rattle.untrusted_store.specs.Planned.{last_in, asked_by}
use Rattle.file_calls.specs.Spelling.{call_of}
use Rattle.machine.specs.Setup.{Setup}
use Rattle.machine.specs.Files.{CallRow}
use Rattle.machine.specs.Replies.{sight, question_by}
use Rattle.machine.specs.Plan.{records}
use Rattle.file_manager.specs.ManagerView.{ManagerView}
use Rattle.file_manager.specs.Standing as manager
use Rattle.file_manager.specs.Effects.{writing_by, last_after, asked_after}
use Rattle.planned_files.specs.FilesView.{FilesView}
use Rattle.planned_files.specs.Standing.{StandsFor}
use Rattle.planned_files.proofs.Writes.{records_after}
use Rattle.planned_files.proofs.Questions.{asked_after_call}

no_records : (m : Setup) (level v : ℕ) → None ≡ records m [] (record { level = level; version = v })
no_records m level zero = refl
no_records m level (suc v) = refl

unasked : (n level : ℕ) → slice_index (replicate n 0) level ≡ 0
unasked zero level = refl
unasked (suc n) zero = refl
unasked (suc n) (suc level) = unasked n level

pub stands_first : (m : Setup) (files : ManagerView) (rows : List PlanRow) → manager.StandsFor m.roster files []
    → files.keys ≡ m.guard → rows ≡ m.rows
    → StandsFor m (record {
      manager = files;
      store = record { rows = rows; records = []; asked = replicate 256 0 };
    }) []
stands_first m files rows stands keys same = record {
  manager = stands;
  keys = keys;
  rows = same;
  last = λ slot. no_records m slot.level slot.version;
  asked = λ level. unasked 256 level;
}

pub stands_next : (sealed : Sealer) (m : Setup) (files next : FilesView) (calls : List CallRow) (caller : Party)
    (p : ℕ) (message : List ℕ) → m.sealed ≡ sealed → StandsFor m files calls
    → next.manager.keys ≡ files.manager.keys
    → manager.StandsFor m.roster next.manager (record { caller = caller; level = p; message = message } ∷ calls)
    → Some next.store.rows ≡ Some files.store.rows
    → Some (last_in next.store)
    ≡ last_after sealed files.manager.keys p (writing_by (sight m.roster p calls) (call_of message))
    (Some (last_in files.store))
    → Some (asked_by next.store)
    ≡ asked_after p (question_by (sight m.roster p calls) (call_of message)) (Some (asked_by files.store))
    → StandsFor m next (record { caller = caller; level = p; message = message } ∷ calls)
stands_next sealed m files next calls caller p message same stands keys after rows last asked =
    let w = writing_by (sight m.roster p calls) (call_of message) in
    let last' : Some (last_in next.store) ≡ last_after m.sealed m.guard p w (Some (last_in files.store)) =
    last ∙ ap (λ s. last_after s files.manager.keys p w (Some (last_in files.store))) (sym same)
    ∙ ap (λ k. last_after m.sealed k p w (Some (last_in files.store))) stands.keys in
    record {
      manager = after;
      keys = keys ∙ stands.keys;
      rows = (let one : next.store.rows ≡ files.store.rows = cc in one ∙ stands.rows);
      last = records_after m calls caller p message (last_in next.store) (last_in files.store) last' stands.last;
      asked = asked_after_call m.roster calls caller p message (asked_by next.store) (asked_by files.store) asked
          stands.asked;
    }
