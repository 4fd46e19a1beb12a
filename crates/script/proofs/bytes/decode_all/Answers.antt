use Rattle.std.proofs.Common.{arith}
use Rattle.std.proofs.lemmas.Grind.{common_steps}
use Rattle.script.proofs.Sized.{sized_digits, sized_other}
use Rattle.script.proofs.bytes.decode_all.Goals as goal

pub returns-then-are_lower_digits : goal.returns-then-are_lower_digits
returns-then-are_lower_digits c =
    rw (sized_digits _ c.args.word.now c.requires (grind (arith, common_steps)))
    (grind (arith, common_steps))

pub returns-else-are_lower_digits : goal.returns-else-are_lower_digits
returns-else-are_lower_digits c =
    rw (sized_other _ c.args.word.now c.requires (grind (arith, common_steps)))
    (grind (arith, common_steps))
