use Rattle.std.proofs.Common.{◌≡◌, ◌+◌, ◌≤◌, length, map, refl, ap, ap₂, sym, subst, ◌∙◌, arith}
use Rattle.std.specs.Global.{Vec}
use Rattle.std.proofs.lemmas.List.{length-map}
use Rattle.ring_link.specs.Links.{pending_towards}
use Rattle.ring_link.specs.declared.gate.Side.TheVariants.{Host, Net}
use Rattle.unit_core.specs.Views.{UnitView, OutView}
use Rattle.unit_core.specs.Turns.{Turned}
use Rattle.unit_core.specs.Tallies.{counted}
use Rattle.unit_core.specs.declared.rows.SendAnswer.{SendAnswer}
use Rattle.unit_core.specs.inside.Messages.{joined, rows_from, renumbered}
use Rattle.unit_core.specs.inside.Outs.{out_of}
use Rattle.unit_core.specs.inside.Units.{unit_of}
use Rattle.unit_core.specs.inside.Sides.{Seals}
use Rattle.unit_core.proofs.Settlings.{pending_still, order_still, same_memory_both}
use Rattle.unit_core.proofs.Turning.{spare_whole, mine_comes, few_seals}
use Rattle.unit_core.proofs.Filled.{turned}
use Rattle.unit_core.proofs.unit.Unit.turn.Goals as goal

pub both_sides-heard-requires-clause-host_room : goal.both_sides-heard-requires-clause-host_room
both_sides-heard-requires-clause-host_room g c κs within = spare_whole Net c.self.inside.link c.self.invariant.1

pub both_sides-heard-requires-clause-net_room : goal.both_sides-heard-requires-clause-net_room
both_sides-heard-requires-clause-net_room g c κs within = spare_whole Host c.self.inside.link c.self.invariant.1

pub hear_rest-requires-clause-mine : goal.hear_rest-requires-clause-mine
hear_rest-requires-clause-mine g c = mine_comes c.both_sides-heard.ensures

pub seal_rest-requires-clause-few : goal.seal_rest-requires-clause-few
seal_rest-requires-clause-few g c = λ order.
    let before = c.both_sides-heard.new.link in
    let after = c.hear_rest.new.link in
    let few = few_seals c.both_sides-heard.ensures (order_still Net before after c.hear_rest.ensures.other order) in
    omega (arith, few, ap length (pending_still Net before after c.hear_rest.ensures.other))

pub returns-clause-turned : goal.returns-clause-turned
returns-clause-turned g c =
    let mid = c.both_sides-heard.new.link in
    let later = c.hear_rest.new.link in
    let old : UnitView = unit_of c.self.inside.host c.self.inside.net c.self.inside.link c.self.inside.tally in
    let new : UnitView = unit_of c.hear_rest.new.host c.self.inside.net c.seal_rest.new.link c.count.new.self in
    let out : OutView = out_of c.renumber.new.self c.seal_rest.new.out in
    let other = c.hear_rest.ensures.other in
    let seals = subst (λ xs. Seals g.S.Seal.sealed_text c.self.inside.net.keys xs c.both_sides-heard.new.net_out
    c.seal_rest.new.out)
    (pending_still Net mid later other) c.seal_rest.ensures.seals in
    let sends = c.deref.ensures.value ∙ c.sends.view_is in
    let list = c.renumber.ensures.messages
    ∙ ap (λ places. map (renumbered places) c.hear_rest.new.messages.list) c.deref-2.ensures.value in
    let sealed_count : c.len.result ≡ length c.seal_rest.new.out.sealed.items =
    omega (arith, c.len.ensures, c.seal_rest.new.out.sealed.ok.0) in
    let ours_count : c.len-2.result ≡ length c.seal_rest.new.out.places.items =
    omega (arith, c.len-2.ensures, c.seal_rest.new.out.places.ok.0) in
    let given_count : c.len-3.result ≡ length c.hear_rest.new.messages.list =
    c.len-3.ensures ∙ ap length list
    ∙ length-map c.hear_rest.new.messages.list (renumbered c.seal_rest.new.out.places.items) in
    let tally = c.count.ensures
    ∙ ap₂ (λ s o. counted c.self.inside.tally s o c.len-3.result) sealed_count ours_count
    ∙ ap (counted c.self.inside.tally (length c.seal_rest.new.out.sealed.items)
    (length c.seal_rest.new.out.places.items)) given_count in
    let turn : Turned g.S.Seal.sealed_text old c.deref.result.now c.args.frames.now new out =
    turned c.both_sides-heard.ensures c.hear_rest.new.host c.hear_rest.new.messages c.seal_rest.new.out
    c.hear_rest.ensures.order (order_still Net mid later other c.seal_rest.ensures.order)
    c.hear_rest.ensures.hears seals
    c.seal_rest.new.link c.self.inside.tally c.count.new.self out
    (same_memory_both mid later c.seal_rest.new.link c.hear_rest.ensures.memory c.seal_rest.ensures.memory)
    (ap (λ (answers : Vec SendAnswer). answers.items) c.renumber.ensures.answers) refl refl (ap (rows_from 0) list)
    (ap joined list) tally in
    subst (λ (unit : UnitView). Turned g.S.Seal.sealed_text unit c.args.sends.now c.args.frames.now new out)
    c.self.view_is
    (subst (λ sends. Turned g.S.Seal.sealed_text old sends c.args.frames.now new out) sends turn)
