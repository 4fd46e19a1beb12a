use Rattle.std.proofs.Common.{Some, ap, ◌∙◌}
use Rattle.untrusted_store.specs.Planned.{last_in}
use Rattle.untrusted_store.specs.inside.Store.{view_of}
use Rattle.untrusted_store.specs.Telling.{with_put}
use Rattle.untrusted_store.proofs.Slots.{lookup-put}
use Rattle.untrusted_store.proofs.planned.PlannedStoreStore.put.Goals as goal

pub returns-clause-ok : goal.returns-clause-ok
returns-clause-ok c =
    ap Some (lookup-put c.self.inside.records.entries c.insert.new.self.entries c.args.slot c.in_ok-record.record
    c.in_ok-insert.ensures.updates.0)
    ∙ ap (λ bytes. Some (with_put c.args.slot bytes (last_in (view_of c.self.inside)))) c.in_ok-record.ensures
    ∙ ap (λ s. Some (with_put c.args.slot c.args.bytes.now (last_in s))) c.self.view_is
