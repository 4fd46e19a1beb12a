use Rattle.std.proofs.Common.{refl}
use Rattle.untrusted_store.proofs.planned.PlannedStore.open.Goals as goal

pub returns : goal.returns
returns c = rw (c.in_ok-rows.ensures.items, c.in_ok-readers.ensures.unasked, c.new.ensures.empty) refl
