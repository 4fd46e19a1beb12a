use Rattle.std.proofs.Common.{◌≤◌, length, arith}
use Rattle.std.proofs.lemmas.Bool.{le-leb}
use Rattle.file_calls.specs.ByteLaws.{bytes_pass}
use Rattle.file_calls.proofs.name.Content.new.Goals as goal

pub invariant_of-result : goal.invariant_of-result
invariant_of-result c =
    let few : length c.args.bytes.now ≤ 4096 = omega arith in
    rw (c.in_ok-bytes.ensures.items, le-leb (length c.args.bytes.now) 4096 few)
    (bytes_pass c.args.bytes.now (record { below = λ i. omega (arith, c.type_inv.bytes i) }))
