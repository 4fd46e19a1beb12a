use Rattle.std.proofs.Common.{◌≡◌, ◌-◌, ◌*◌, ◌/◌, Bool, List, map, reverse, length, refl, sym, ap, ap₂, ◌∙◌, arith}
use Rattle.std.proofs.lemmas.List.{reverse-reverse}
use Rattle.des_cbc.specs.Bits.{bits, block_bits, text_bits, text_bytes}
use Rattle.des_cbc.specs.Cipher.{cipher}
use Rattle.des_cbc.specs.Chaining.{unchain, encrypted_text, decrypted_text}
use Rattle.des_cbc.specs.ChainLaws.{encrypted_text-decrypted_text}
use Rattle.des_cbc.specs.inside.Words.{round_key}
use Rattle.des_cbc.proofs.Blocks.{read_is}
use Rattle.des_cbc.proofs.ChainWalk.{all_bits, no_bits, written_more, written_all, unchain-next, unchain-none}
use Rattle.des_cbc.proofs.chaining.cbc_decrypt.Goals as goal

pub loop-i-init : goal.loop-i-init
loop-i-init c = refl

pub loop-i-preserved : goal.loop-i-preserved
loop-i-preserved c =
    let js = map round_key c.reversed-keys.result in
    let sealed = c.args.sealed.now in
    let n = length sealed / 8 in
    let back = c.encipher.ensures ∙ ap (λ (ks : List (List Bool)). cipher ks (bits 64 c.load-block.result))
    (sym (reverse-reverse js)) in
    let next = unchain-next (reverse js) sealed n c.loop-i.i c.load-block.result c.loop-i.before c.encipher.result
    (omega arith) c.load-block.ensures back in
    written_more c.loop-i.out c.store.new.out _ c.loop-i.i _ _ _ c.store.ensures c.loop-i.invariant next

deciphered : (c : goal.After-loop-i) → c.loop-i.out ≡ decrypted_text c.args.schedule.now c.args.iv c.args.sealed.now
unfolding decrypted_text
deciphered c =
    let js = map round_key c.reversed-keys.result in
    let sealed = c.args.sealed.now in
    let n = length sealed / 8 in
    let same : reverse js ≡ c.args.schedule.now = ap reverse c.reversed-keys.ensures ∙ reverse-reverse _
    ∙ c.keys.ensures in
    written_all c.loop-i.out _ (8 * c.loop-i.i) _ (omega arith) c.loop-i.invariant
    (unchain-none (reverse js) _ _ (no_bits sealed n c.loop-i.i (omega arith)))
    ∙ ap₂ (λ (b : List Bool) (bs : List (List Bool)). text_bytes (unchain (reverse js) b bs))
    (read_is _ _ c.from_be_bytes-before.ensures)
    (all_bits sealed n (n - 0) (8 * 0) refl (omega arith) (omega arith))
    ∙ ap (λ (ks : List (List Bool)). text_bytes (unchain ks (block_bits c.args.iv) (text_bits sealed))) same

pub returns-clause-deciphered : goal.returns-clause-deciphered
returns-clause-deciphered c = deciphered c

pub returns-clause-undone : goal.returns-clause-undone
returns-clause-undone c =
    ap (encrypted_text c.args.schedule.now c.args.iv) (deciphered c)
    ∙ encrypted_text-decrypted_text c.args.schedule.now c.args.iv c.args.sealed.now c.requires.whole
    (record { below = λ i. omega (arith, c.type_inv.sealed i) })
