use Rattle.std.proofs.Common.{◌≡◌, reverse, ap, ◌∙◌, arith, rules, length}
use Rattle.des_cbc.specs.Cipher.{encrypted}
use Rattle.des_cbc.specs.inside.CipherLaws.{encrypted-decrypted}
use Rattle.des_cbc.proofs.Blocks.{decrypted_is}
use Rattle.des_cbc.proofs.schedule.Schedule.decrypt_block.Goals as goal

pub returns-clause-deciphered : goal.returns-clause-deciphered
returns-clause-deciphered c =
    decrypted_is c.args.self.now _ _ _ c.args.block _ c.from_be_bytes.ensures (omega arith) c.encipher.ensures
    c.to_be_bytes.ensures (c.reversed.ensures ∙ ap reverse c.keys.ensures)

pub returns-clause-undone : goal.returns-clause-undone
returns-clause-undone c =
    let eight : length c.args.block ≡ 8 = search rules in
    ap (encrypted c.args.self.now) (decrypted_is c.args.self.now _ _ _ c.args.block _ c.from_be_bytes.ensures
    (omega arith) c.encipher.ensures c.to_be_bytes.ensures (c.reversed.ensures ∙ ap reverse c.keys.ensures))
    ∙ encrypted-decrypted c.args.self.now c.args.block
    (record { len = eight; bytes = record { below = λ i. search rules } })
