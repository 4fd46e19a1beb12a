use Rattle.std.proofs.Common.{◌≡◌, ◌+◌, ◌∷◌, ◌++◌, [], Some, length, map, sym, ap, ◌∙◌, arith, length-append}
use Rattle.std.specs.Prelude.{option_to_list}
use Rattle.frame.specs.Frames.{frame_of}
use Rattle.ring_link.specs.Links.{pending_towards}
use Rattle.ring_link.specs.declared.gate.Side.TheVariants.{Host, Net}
use Rattle.unit_core.proofs.Settlings.{linked_still, same_link_both, same_memory_both, same_towards_both, seals_on}
use Rattle.unit_core.proofs.settling.seal_rest.Goals as goal

pub loop-next-preserved : goal.loop-next-preserved
loop-next-preserved g c =
    let was = c.loop-next.invariant in
    let settle = c.settle-next-in-Some.ensures in
    let x = c.in-Some.piece in
    let link = c.loop-next.link in
    let link' = c.settle-next-in-Some.new.self in
    let left = option_to_list c.loop-next.next ++ pending_towards Net link in
    let later = option_to_list c.settle-next-in-Some.result ++ pending_towards Net link' in
    let next : left ≡ x ∷ later =
    ap (λ o. option_to_list o ++ pending_towards Net link) c.in-Some.is ∙ ap (λ xs. x ∷ xs) settle.next in
    record {
      order = was.order;
      seals = seals_on g.S.Seal.sealed_text c.args.net.now.keys (pending_towards Net c.args.link.now) left later x
          c.args.out.now c.loop-next.out c.seal.new.out was.seals next c.seal.ensures;
      few = omega (
        arith,
        was.few,
        ap length next,
        ap length c.seal.ensures.frames,
        length-append c.loop-next.out.sealed.items (map (frame_of g.S.Seal.sealed_text c.args.net.now.keys) (x ∷ [])),
      );
      settled = settle.settled;
      linked = linked_still link link' settle.same was.linked;
      other = same_towards_both Host c.args.link.now link link' was.other settle.other;
      link = same_link_both c.args.link.now link link' was.link settle.same;
      memory = same_memory_both c.args.link.now link link' was.memory
          (record { host = settle.host_memory; net = settle.net_memory });
    }
