use Rattle.std.proofs.Common.{ℕ, ◌/◌, ◌^◌, ap, ◌∙◌, bit_and, arith}
use Rattle.std.specs.Int.Bits.{and_mask}
use Rattle.des_cbc.specs.Bits.{bits}
use Rattle.des_cbc.specs.Cipher.{cipher_function}
use Rattle.des_cbc.specs.inside.Words.{groups}
use Rattle.des_cbc.proofs.SelectionWords.{cipher_function_is}
use Rattle.des_cbc.proofs.rounds.cipher_function.Goals as goal

pub returns : goal.returns
returns c =
    cipher_function_is c.args.right (c.args.key / 2 ^ 32) (bit_and c.args.key 0xffffffff) _ _ _ _ _ _ _ _ (omega arith)
    c.selected.ensures c.selected-2.ensures c.selected-3.ensures c.selected-4.ensures
    c.selected-5.ensures c.selected-6.ensures c.selected-7.ensures c.selected-8.ensures
    ∙ ap (λ (e : ℕ). cipher_function (bits 32 c.args.right) (groups (c.args.key / 2 ^ 32) e)) (and_mask c.args.key 32)
