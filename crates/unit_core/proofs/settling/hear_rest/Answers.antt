use Rattle.std.proofs.Common.{◌≡◌, ◌∷◌, ◌++◌, Some, sym, ap, ◌∙◌}
use Rattle.std.specs.Prelude.{option_to_list}
use Rattle.ring_link.specs.Links.{pending_towards}
use Rattle.ring_link.specs.declared.gate.Side.TheVariants.{Host, Net}
use Rattle.unit_core.proofs.Settlings.{linked_still, same_link_both, same_memory_both, same_towards_both, hears_on, mine_later}
use Rattle.unit_core.proofs.settling.hear_rest.Goals as goal

pub loop-next-preserved : goal.loop-next-preserved
loop-next-preserved c =
    let was = c.loop-next.invariant in
    let settle = c.settle-next-in-Some.ensures in
    let x = c.in-Some.piece in
    let link = c.loop-next.link in
    let link' = c.settle-next-in-Some.new.self in
    let left = option_to_list c.loop-next.next ++ pending_towards Host link in
    let later = option_to_list c.settle-next-in-Some.result ++ pending_towards Host link' in
    let next : left ≡ x ∷ later =
    ap (λ o. option_to_list o ++ pending_towards Host link) c.in-Some.is ∙ ap (λ xs. x ∷ xs) settle.next in
    record {
      order = was.order;
      hears = hears_on c.args.host.now c.loop-next.host c.hear.new.host c.args.heard c.loop-next.number
          (pending_towards Host c.args.link.now) left later x c.args.messages.now
          c.loop-next.messages c.hear.new.messages
          was.hears next c.hear.ensures;
      few = c.hear.ensures.few c.loop-next.number was.few;
      mine = mine_later c.args.host.now c.loop-next.number left later x next was.mine;
      settled = settle.settled;
      linked = linked_still link link' settle.same was.linked;
      other = same_towards_both Net c.args.link.now link link' was.other settle.other;
      link = same_link_both c.args.link.now link link' was.link settle.same;
      memory = same_memory_both c.args.link.now link link' was.memory
          (record { host = settle.host_memory; net = settle.net_memory });
    }
