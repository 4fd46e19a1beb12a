use Rattle.std.proofs.Common.{eqb, w8, arith}
use Rattle.std.specs.Simd.Lanes.{chunk}
use Rattle.std.proofs.lemmas.Simd.{bitmask_splat, length-chunk}
use Rattle.script.proofs.search.marks_in_group.Goals as goal

pub returns : goal.returns
returns c =
    bitmask_splat w8 eqb (chunk c.args.at 32 c.args.text.now) 32 c.args.mark
    (length-chunk c.args.at 32 c.args.text.now c.requires) (omega arith)
