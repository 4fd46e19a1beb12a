use Rattle.std.proofs.Common.{◌≡◌, ◌-◌, ◌*◌, ◌/◌, ◌++◌, Bool, List, map, take, length, refl, ap, ap₂, ◌∙◌, arith}
use Rattle.des_cbc.specs.Bits.{block_bits, block_bytes, text_bits, text_bytes}
use Rattle.des_cbc.specs.Chaining.{chain, encrypted_text, decrypted_text}
use Rattle.des_cbc.specs.ChainLaws.{decrypted_text-encrypted_text}
use Rattle.des_cbc.specs.inside.Words.{round_key}
use Rattle.des_cbc.proofs.Blocks.{read_is}
use Rattle.des_cbc.proofs.RoundWalk.{unpermuted_is}
use Rattle.des_cbc.proofs.ChainWalk.{all_bits, no_bits, written_more, written_all, chain-next, chain-none}
use Rattle.des_cbc.proofs.chaining.cbc_encrypt.Goals as goal

pub loop-i-init : goal.loop-i-init
loop-i-init c = refl

pub loop-i-preserved : goal.loop-i-preserved
loop-i-preserved c =
    let ks = map round_key c.keys-keys.result.now in
    let plain = c.args.plain.now in
    let n = length plain / 8 in
    let next = chain-next ks plain n c.loop-i.i c.load.result c.initial_permutation-block.result c.loop-i.before
    c.encipher_permuted-before.result (omega arith) c.load.ensures c.initial_permutation-block.ensures
    c.encipher_permuted-before.ensures in
    let stored = c.store.ensures ∙ ap (λ (b : List Bool). take (8 * c.loop-i.i) c.loop-i.out ++ block_bytes b)
    c.inverse_permutation.ensures in
    written_more c.loop-i.out c.store.new.out _ c.loop-i.i _ _ _ stored c.loop-i.invariant next

enciphered : (c : goal.After-loop-i) → c.loop-i.out ≡ encrypted_text c.args.schedule.now c.args.iv c.args.plain.now
unfolding encrypted_text
enciphered c =
    let ks = map round_key c.keys-keys.result.now in
    let plain = c.args.plain.now in
    let n = length plain / 8 in
    let start = unpermuted_is _ c.initial_permutation-before.result c.initial_permutation-before.ensures
    ∙ read_is _ c.args.iv c.from_be_bytes.ensures in
    written_all c.loop-i.out _ (8 * c.loop-i.i) _ (omega arith) c.loop-i.invariant
    (chain-none ks _ _ (no_bits plain n c.loop-i.i (omega arith)))
    ∙ ap₂ (λ (b : List Bool) (bs : List (List Bool)). text_bytes (chain ks b bs)) start
    (all_bits plain n (n - 0) (8 * 0) refl (omega arith) (omega arith))
    ∙ ap (λ (js : List (List Bool)). text_bytes (chain js (block_bits c.args.iv) (text_bits plain)))
    c.keys-keys.ensures

pub returns-clause-enciphered : goal.returns-clause-enciphered
returns-clause-enciphered c = enciphered c

pub returns-clause-undone : goal.returns-clause-undone
returns-clause-undone c =
    ap (decrypted_text c.args.schedule.now c.args.iv) (enciphered c)
    ∙ decrypted_text-encrypted_text c.args.schedule.now c.args.iv c.args.plain.now c.requires.whole
    (record { below = λ i. omega (arith, c.type_inv.plain i) })
