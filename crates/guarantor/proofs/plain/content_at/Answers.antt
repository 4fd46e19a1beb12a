use Rattle.std.proofs.Common.{◌≡◌, ◌-◌, length, take, drop, sym, ap, ◌∙◌, arith, length-drop, take_all}
use Rattle.guarantor.specs.inside.Parts.{size_at}
use Rattle.guarantor.proofs.plain.content_at.Goals as goal

pub returns-else-size-rest-clause-content : goal.returns-else-size-rest-clause-content
returns-else-size-rest-clause-content c =
    let plain = c.args.plain.now in
    let rest = drop 48 plain in
    let wide = length-drop 48 plain in
    let all : take (length plain - 48) rest ≡ rest = take_all (length plain - 48) rest (omega arith) in
    let size : size_at plain ≡ c.from_be_bytes-size.result = sym c.from_be_bytes-size.ensures in
    all ∙ sym (take_all (size_at plain) rest (omega (arith, size, ap length all, c.if-size-rest.false)))
