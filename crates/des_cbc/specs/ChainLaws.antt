-- The laws of chains of blocks, and that the DES sealing is a sealing.
use Rattle.std.proofs.Common.{◌≡◌, ℕ, suc, ◌+◌, ◌/◌, ◌%◌, Bool, List, [], ◌∷◌, ◌++◌, length, take, drop, refl, sym, ap, ap₂, ◌∙◌, arith, length-append, take_at, drop_at, reverse}
use Rattle.seal_core.specs.declared.KeyPair.{KeyPair}
use Rattle.seal_core.specs.Blocks.{AreBytes, IsBlock, IsPlain}
use Rattle.seal_core.specs.Sealing.{OpensTo, IsSealing}
use Rattle.seal_core.specs.Parts.{AreBytes-append}
use Rattle.des_cbc.specs.Bits.{xor_bits, block_bits, text_bits, text_bytes}
use Rattle.des_cbc.specs.Cipher.{cipher, decipher, schedule}
use Rattle.des_cbc.specs.Chaining.{chain, unchain, encrypted_text, decrypted_text}
use Rattle.des_cbc.specs.Sealing.{last_output, check_of, sealed_blocks, des_text}
use Rattle.des_cbc.specs.inside.BitLaws.{length-xor_bits, xor_bits-twice, length-block_bits}
use Rattle.des_cbc.specs.inside.CipherLaws.{length-cipher, decipher-cipher, cipher-decipher}
use Rattle.des_cbc.specs.inside.TextLaws.{AreBlocks, AreBlocks-append, AreBlocks-text_bits, length-text_bytes, AreBytes-text_bytes, length-text_bits, text_bits-text_bytes, text_bytes-text_bits}

-- ---- chains

length-decipher : (ks : List (List Bool)) (b : List Bool) → length (decipher ks b) ≡ 64
length-decipher ks b = length-cipher (reverse ks) b

pub unchain-chain : (ks : List (List Bool)) (c : List Bool) (ps : List (List Bool)) → length c ≡ 64
    → AreBlocks ps → unchain ks c (chain ks c ps) ≡ ps
unfolding chain unchain AreBlocks
unchain-chain ks c [] hc hp = refl
unchain-chain ks c (p ∷ ps) hc hp =
    let len : length p ≡ length c = hp.0 ∙ sym hc in
    let mixed : length (xor_bits p c) ≡ 64 = length-xor_bits p c len ∙ hp.0 in
    ap₂ (λ (b : List Bool) (bs : List (List Bool)). b ∷ bs)
    (ap (λ (x : List Bool). xor_bits x c) (decipher-cipher ks (xor_bits p c) mixed)
    ∙ xor_bits-twice p c len)
    (unchain-chain ks (cipher ks (xor_bits p c)) ps (length-cipher ks (xor_bits p c)) hp.1)

pub chain-unchain : (ks : List (List Bool)) (c : List Bool) (xs : List (List Bool)) → length c ≡ 64
    → AreBlocks xs → chain ks c (unchain ks c xs) ≡ xs
unfolding chain unchain AreBlocks
chain-unchain ks c [] hc hx = refl
chain-unchain ks c (x ∷ xs) hc hx =
    let len : length (decipher ks x) ≡ length c = length-decipher ks x ∙ sym hc in
    let here : cipher ks (xor_bits (xor_bits (decipher ks x) c) c) ≡ x =
    ap (cipher ks) (xor_bits-twice (decipher ks x) c len) ∙ cipher-decipher ks x hx.0 in
    ap₂ (λ (b : List Bool) (bs : List (List Bool)). b ∷ bs) here
    (ap (λ (d : List Bool). chain ks d (unchain ks x xs)) here ∙ chain-unchain ks x xs hx.0 hx.1)

pub AreBlocks-chain : (ks : List (List Bool)) (c : List Bool) (ps : List (List Bool))
    → AreBlocks (chain ks c ps)
unfolding chain AreBlocks
AreBlocks-chain ks c [] = tt
AreBlocks-chain ks c (p ∷ ps) = (
  length-cipher ks (xor_bits p c),
  AreBlocks-chain ks (cipher ks (xor_bits p c)) ps,
)

pub AreBlocks-unchain : (ks : List (List Bool)) (c : List Bool) (xs : List (List Bool))
    → length c ≡ 64 → AreBlocks xs → AreBlocks (unchain ks c xs)
unfolding unchain AreBlocks
AreBlocks-unchain ks c [] hc hx = tt
AreBlocks-unchain ks c (x ∷ xs) hc hx = (
  length-xor_bits (decipher ks x) c (length-decipher ks x ∙ sym hc)
      ∙ length-decipher ks x,
  AreBlocks-unchain ks x xs hx.0 hx.1,
)

length-chain : (ks : List (List Bool)) (c : List Bool) (ps : List (List Bool))
    → length (chain ks c ps) ≡ length ps
unfolding chain
length-chain ks c [] = refl
length-chain ks c (p ∷ ps) = ap suc (length-chain ks (cipher ks (xor_bits p c)) ps)

-- ---- texts

pub decrypted_text-encrypted_text : (ks : List (List Bool)) (iv text : List ℕ) → length text % 8 ≡ 0
    → AreBytes text → decrypted_text ks iv (encrypted_text ks iv text) ≡ text
unfolding encrypted_text decrypted_text
decrypted_text-encrypted_text ks iv text h k =
    ap (λ (bs : List (List Bool)). text_bytes (unchain ks (block_bits iv) bs))
    (text_bits-text_bytes (chain ks (block_bits iv) (text_bits text))
    (AreBlocks-chain ks (block_bits iv) (text_bits text)))
    ∙ ap text_bytes (unchain-chain ks (block_bits iv) (text_bits text) (length-block_bits iv)
    (AreBlocks-text_bits text))
    ∙ text_bytes-text_bits text h k

pub encrypted_text-decrypted_text : (ks : List (List Bool)) (iv text : List ℕ) → length text % 8 ≡ 0
    → AreBytes text → encrypted_text ks iv (decrypted_text ks iv text) ≡ text
unfolding encrypted_text decrypted_text
encrypted_text-decrypted_text ks iv text h k =
    ap (λ (bs : List (List Bool)). text_bytes (chain ks (block_bits iv) bs))
    (text_bits-text_bytes (unchain ks (block_bits iv) (text_bits text))
    (AreBlocks-unchain ks (block_bits iv) (text_bits text) (length-block_bits iv)
    (AreBlocks-text_bits text)))
    ∙ ap text_bytes (chain-unchain ks (block_bits iv) (text_bits text) (length-block_bits iv)
    (AreBlocks-text_bits text))
    ∙ text_bytes-text_bits text h k

-- ---- sealed blocks

length-last_output : (ks : List (List Bool)) (c : List Bool) (ps : List (List Bool)) → length c ≡ 64
    → length (last_output ks c ps) ≡ 64
unfolding last_output
length-last_output ks c [] h = h
length-last_output ks c (p ∷ ps) h =
    length-last_output ks (cipher ks (xor_bits p c)) ps (length-cipher ks (xor_bits p c))

pub length-check_of : (ks : List (List Bool)) (n : List Bool) (ps : List (List Bool))
    → length (check_of ks n ps) ≡ 64
length-check_of ks n ps = length-last_output ks (cipher ks n) ps (length-cipher ks n)

pub length-sealed_blocks : (main check : List (List Bool)) (n : List Bool) (ps : List (List Bool))
    → length (sealed_blocks main check n ps) ≡ length ps + 1
length-sealed_blocks main check n ps =
    length-chain main n (ps ++ check_of check n ps ∷ [])
    ∙ length-append ps (check_of check n ps ∷ [])

-- the blocks before the last, and the last
pub same_fronts : (ps qs : List (List Bool)) (x y : List Bool) → ps ++ x ∷ [] ≡ qs ++ y ∷ []
    → (ps ≡ qs) × (x ≡ y)
same_fronts [] [] x y h = (refl, cc)
same_fronts [] (q ∷ []) x y h = absurd cc
same_fronts [] (q ∷ (r ∷ qs)) x y h = absurd cc
same_fronts (p ∷ []) [] x y h = absurd cc
same_fronts (p ∷ (r ∷ ps)) [] x y h = absurd cc
same_fronts (p ∷ ps) (q ∷ qs) x y h =
    let tails : ps ++ x ∷ [] ≡ qs ++ y ∷ [] = cc in
    let rest = same_fronts ps qs x y tails in
    let heads : p ≡ q = cc in
    (ap₂ (λ (b : List Bool) (bs : List (List Bool)). b ∷ bs) heads rest.0, rest.1)

-- what sealed blocks decipher to
pub unchain-sealed_blocks : (main check : List (List Bool)) (n : List Bool) (ps : List (List Bool))
    → length n ≡ 64 → AreBlocks ps
    → unchain main n (sealed_blocks main check n ps) ≡ ps ++ check_of check n ps ∷ []
unfolding AreBlocks
unchain-sealed_blocks main check n ps hn hp =
    unchain-chain main n (ps ++ check_of check n ps ∷ []) hn
    (AreBlocks-append ps (check_of check n ps ∷ []) hp (length-check_of check n ps, tt))

-- blocks whose last is the check block of the others are sealed
pub sealed_if_checked : (main check : List (List Bool)) (n : List Bool) (xs ps : List (List Bool))
    (x : List Bool) → length n ≡ 64 → AreBlocks xs
    → unchain main n xs ≡ ps ++ x ∷ [] → x ≡ check_of check n ps
    → xs ≡ sealed_blocks main check n ps
sealed_if_checked main check n xs ps x hn hx e k =
    sym (chain-unchain main n xs hn hx)
    ∙ ap (chain main n) (e ∙ ap (λ (b : List Bool). ps ++ b ∷ []) k)

-- and only they
pub checked_if_sealed : (main check : List (List Bool)) (n : List Bool)
    (xs ps qs : List (List Bool)) (x : List Bool) → length n ≡ 64 → AreBlocks qs
    → unchain main n xs ≡ ps ++ x ∷ [] → xs ≡ sealed_blocks main check n qs → (ps ≡ qs)
    × (x ≡ check_of check n ps)
checked_if_sealed main check n xs ps qs x hn hq e h =
    let both : ps ++ x ∷ [] ≡ qs ++ check_of check n qs ∷ [] = sym e ∙ ap (unchain main n) h
    ∙ unchain-sealed_blocks main check n qs hn hq in
    let same = same_fronts ps qs _ _ both in
    (same.0, same.1 ∙ ap (check_of check n) (sym same.0))

-- ---- sealed texts

pub length-des_text : (keys : KeyPair) (nonce plain : List ℕ) → length nonce ≡ 8
    → length plain % 8 ≡ 0 → length (des_text keys nonce plain) ≡ length plain + 16
unfolding des_text
length-des_text keys nonce plain hn hp =
    let main = schedule (block_bits keys.main) in
    let check = schedule (block_bits keys.check) in
    let n = block_bits nonce in
    let ps = text_bits plain in
    omega (
      arith,
      length-append nonce (text_bytes (sealed_blocks main check n ps)),
      length-text_bytes (sealed_blocks main check n ps),
      length-sealed_blocks main check n ps,
      length-text_bits plain (length plain / 8) (omega arith),
    )

bytes : (keys : KeyPair) (nonce plain : List ℕ) → IsBlock nonce → IsPlain plain
    → AreBytes (des_text keys nonce plain)
unfolding des_text
bytes keys nonce plain hn hp = AreBytes-append nonce _ hn.bytes (AreBytes-text_bytes _)

-- the parts of a sealed text
pub record HasSealed (keys : KeyPair) (text nonce plain : List ℕ) : Type 0 where
  pub nonce_is : take 8 text ≡ nonce
  pub blocks_are : text_bits (drop 8 text)
      ≡ sealed_blocks (schedule (block_bits keys.main)) (schedule (block_bits keys.check))
      (block_bits nonce) (text_bits plain)

pub des_parts : (keys : KeyPair) (text nonce plain : List ℕ)
    → OpensTo des_text keys text nonce plain → HasSealed keys text nonce plain
unfolding des_text
des_parts keys text nonce plain h =
    let main = schedule (block_bits keys.main) in
    let check = schedule (block_bits keys.check) in
    let bs = sealed_blocks main check (block_bits nonce) (text_bits plain) in
    let rest : drop 8 text ≡ text_bytes bs = ap (drop 8) h.same
    ∙ drop_at nonce (text_bytes bs) 8 h.block.len in
    record {
      nonce_is = ap (take 8) h.same ∙ take_at nonce (text_bytes bs) 8 h.block.len;
      blocks_are = ap text_bits rest ∙ text_bits-text_bytes bs
          (AreBlocks-chain main (block_bits nonce) _);
    }

once : (keys : KeyPair) (text nonce plain nonce' plain' : List ℕ)
    → OpensTo des_text keys text nonce plain → OpensTo des_text keys text nonce' plain'
    → (nonce ≡ nonce') × (plain ≡ plain')
once keys text nonce plain nonce' plain' h k =
    let main = schedule (block_bits keys.main) in
    let check = schedule (block_bits keys.check) in
    let a = des_parts keys text nonce plain h in
    let b = des_parts keys text nonce' plain' k in
    let nonces : nonce ≡ nonce' = sym a.nonce_is ∙ b.nonce_is in
    let n = block_bits nonce in
    let opened = unchain-sealed_blocks main check n (text_bits plain) (length-block_bits nonce)
    (AreBlocks-text_bits plain) in
    let same = checked_if_sealed main check n (sealed_blocks main check n (text_bits plain))
    (text_bits plain) (text_bits plain') _ (length-block_bits nonce)
    (AreBlocks-text_bits plain') opened
    (sym a.blocks_are ∙ b.blocks_are ∙ ap
    (λ (m : List ℕ). sealed_blocks main check (block_bits m) (text_bits plain')) (sym nonces))
    in (
      nonces,
      sym (text_bytes-text_bits plain h.blocks.whole h.blocks.bytes) ∙ ap text_bytes same.0
          ∙ text_bytes-text_bits plain' k.blocks.whole k.blocks.bytes,
    )

pub des_laws : IsSealing des_text
des_laws = record {
  longer = λ keys nonce plain hn hp. length-des_text keys nonce plain hn.len hp.whole;
  bytes = bytes;
  once = once;
}
