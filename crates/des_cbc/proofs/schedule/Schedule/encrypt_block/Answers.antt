use Rattle.std.proofs.Common.{◌≡◌, ap, ◌∙◌, arith, rules, length}
use Rattle.des_cbc.specs.Cipher.{decrypted}
use Rattle.des_cbc.specs.inside.CipherLaws.{decrypted-encrypted}
use Rattle.des_cbc.proofs.Blocks.{encrypted_is}
use Rattle.des_cbc.proofs.schedule.Schedule.encrypt_block.Goals as goal

pub returns-clause-enciphered : goal.returns-clause-enciphered
returns-clause-enciphered c =
    encrypted_is c.args.self.now _ _ _ c.args.block _ c.from_be_bytes.ensures (omega arith) c.encipher.ensures
    c.to_be_bytes.ensures c.keys.ensures

pub returns-clause-undone : goal.returns-clause-undone
returns-clause-undone c =
    let eight : length c.args.block ≡ 8 = search rules in
    ap (decrypted c.args.self.now) (encrypted_is c.args.self.now _ _ _ c.args.block _ c.from_be_bytes.ensures
    (omega arith) c.encipher.ensures c.to_be_bytes.ensures c.keys.ensures)
    ∙ decrypted-encrypted c.args.self.now c.args.block
    (record { len = eight; bytes = record { below = λ i. search rules } })
