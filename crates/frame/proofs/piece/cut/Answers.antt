use Rattle.std.proofs.Common.{arith}
use Rattle.frame.proofs.Cutting.{Ranges, cut_is_piece}
use Rattle.frame.proofs.piece.cut.Goals as goal

pub invariant_of-result : goal.invariant_of-result
invariant_of-result c =
    let ranges : Ranges c.args.from c.args.to c.args.partition c.args.message c.args.body.now =
    record {
      from_is = c.ranges.from.fits;
      to_is = c.ranges.to.fits;
      partition_is = c.ranges.partition.fits;
      message_is = c.ranges.message.fits;
      bytes = record { below = λ i. omega (arith, c.type_inv.body i) };
    } in
    rw (c.pieces.ensures.count, c.padded.ensures, c.piece_bytes-bytes.ensures.bytes)
    (cut_is_piece c.args.from c.args.to c.args.partition c.args.message c.args.body.now c.args.i ranges
    c.requires.length c.requires.piece)
