use Rattle.std.proofs.Common.{sym, ap, ◌∙◌, arith}
use Rattle.std.proofs.lemmas.Bool.Decides.{Decides-eqb}
use Rattle.des_cbc.specs.Parity.{without_parity}
use Rattle.des_cbc.proofs.Blocks.{read_is}
use Rattle.des_cbc.proofs.ParityWords.{kept, same_without, same_kept}
use Rattle.des_cbc.proofs.parity.same_key.Goals as goal

pub returns : goal.returns
returns c =
    let x = c.from_be_bytes.result in
    let y = c.from_be_bytes-2.result in
    let a = read_is x c.args.a.now c.from_be_bytes.ensures in
    let b = read_is y c.args.b.now c.from_be_bytes-2.ensures in
    let same = Decides-eqb (kept x) (kept y) in (
      λ t. ap without_parity (sym a) ∙ same_without x y (omega arith) (omega arith) (same.0 t) ∙ ap without_parity b,
      λ e. let k = same.1 (same_kept x y (omega arith) (omega arith)
          (ap without_parity a ∙ e ∙ ap without_parity (sym b))) in k,
    )
