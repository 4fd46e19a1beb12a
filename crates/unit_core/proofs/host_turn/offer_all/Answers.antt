use Rattle.std.proofs.Common.{◌<◌, ◌≤◌, ap, ap₂, ◌∙◌, arith}
use Rattle.frame.specs.Pieces.{pieces, piece_of}
use Rattle.ring_link.specs.Ends.{taken_by}
use Rattle.unit_core.proofs.Offering.{next_in_range, end_of_range, same_both}
use Rattle.unit_core.proofs.host_turn.offer_all.Goals as goal

pub loop-i-preserved : goal.loop-i-preserved
loop-i-preserved g c =
    let was = c.loop-i.invariant in
    let host = c.args.host.now in
    let piece = piece_of host.address c.args.to host.partition c.args.number c.args.message.now in
    let lt : c.loop-i.i < pieces c.args.message.now = omega
    (arith, c.loop-i-test.true, c.pieces-i-end.ensures.count) in
    record {
      taken = next_in_range piece (taken_by c.loop-i.end) _ _ c.cut-piece.result c.loop-i.i _ lt
          (c.cut-piece.ensures
          ∙ ap₂ (λ a p. piece_of a c.args.to p c.args.number c.args.message.now c.loop-i.i) c.address.ensures
          c.partition.ensures)
          c.offer.ensures.taken was.taken;
      received = c.offer.ensures.received ∙ was.received;
      spare = omega (arith, c.offer.ensures.spare, was.spare);
      same = same_both _ _ _ was.same
          (record { end = c.offer.ensures.same; capacity = c.offer.ensures.memory });
    }

pub returns-clause-taken : goal.returns-clause-taken
returns-clause-taken g c =
    let host = c.args.host.now in
    let piece = piece_of host.address c.args.to host.partition c.args.number c.args.message.now in
    let le : pieces c.args.message.now ≤ c.loop-i.i = omega
    (arith, c.loop-i-test.false, c.pieces-i-end.ensures.count) in
    end_of_range piece _ _ c.loop-i.i _ le c.loop-i.invariant.taken
