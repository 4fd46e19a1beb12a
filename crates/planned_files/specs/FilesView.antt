use Rattle.untrusted_store.specs.Planned.{PlannedView}
use Rattle.file_manager.specs.ManagerView.{ManagerView}

-- files over a store that answers by a plan: their manager, and the store
pub record FilesView : Type 0 where
  pub manager : ManagerView
  pub store : PlannedView
