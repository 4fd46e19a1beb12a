use Rattle.std.proofs.Common.{◌≡◌, ℕ, ◌+◌, ◌-◌, ◌++◌, List, length, take, ap, ◌∙◌, arith}
use Rattle.std.proofs.lemmas.Slice.{take-put_mid}
use Rattle.des_cbc.proofs.Blocks.{written_is}
use Rattle.des_cbc.proofs.words.store.Goals as goal

pub returns : goal.returns
returns c =
    let written = c.copy_from_slice.new.self in
    let is = c.copy_from_slice.ensures.after ∙ c.to_be_bytes.ensures in
    let eight : length written ≡ 8 = ap length is in
    take-put_mid c.args.at (c.args.at + 8 - c.args.at) c.args.out.now written (c.args.at + 8) (omega arith)
    (omega arith)
    ∙ ap (λ (b : List ℕ). take c.args.at c.args.out.now ++ b) (written_is c.args.block written (omega arith) is)
