use Rattle.std.proofs.Common.{◌≡◌, ℕ, ◌<◌, length, None, sym, ◌∙◌, subst}
use Rattle.std.specs.Prelude.{List, find, ◌==◌}
use Rattle.levels.specs.declared.rows.HostRow.{HostRow}
use Rattle.levels.proofs.Homes.{indexed_push}
use Rattle.levels.proofs.hosts.Hosts.push.Goals as goal

pub invariant_of-self-2 : goal.invariant_of-self-2
invariant_of-self-2 c =
    let new = subst (λ (hosts : List HostRow). find (λ host. host.address == c.args.row.address) hosts ≡ None)
    (sym c.self.view_is) c.requires in
    let room = subst (λ (i : ℕ). i < length c.make_room.new.partitions.items) c.from-place.ensures
    c.in_ok-make_room.ensures.room in
    let indexed = indexed_push c.self.inside.rows.items c.make_room.new.partitions.items c.args.row
    (λ address. c.make_room.ensures.same address ∙ c.self.invariant address) new room in
    rw (c.from-place.ensures, c.in_ok-push.ensures.items) indexed
