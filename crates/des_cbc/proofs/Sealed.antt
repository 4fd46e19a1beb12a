-- What is sealed, and what opens.
use Rattle.std.proofs.Common.{◌≡◌, ℕ, ◌+◌, ◌%◌, ◌<◌, Bool, true, List, ◌++◌, reverse, length, take, drop, sym, ap, ap₂, subst, ◌∙◌, arith, take-append-drop, length-drop}
use Rattle.std.specs.Int.{w64, from_be_bytes}
use Rattle.std.proofs.lemmas.List.{length-take-le, reverse-reverse}
use Rattle.seal_core.specs.declared.KeyPair.{KeyPair}
use Rattle.seal_core.specs.Blocks.{AreBytes, IsPlain}
use Rattle.seal_core.specs.Sealing.{OpensTo}
use Rattle.seal_core.specs.Parts.{AreBytes-take, AreBytes-drop}
use Rattle.des_cbc.specs.Bits.{bits, block_bits, text_bits, text_bytes}
use Rattle.des_cbc.specs.inside.BitLaws.{length-bits}
use Rattle.des_cbc.specs.inside.TextLaws.{AreBlocks-text_bits, text_bytes-text_bits}
use Rattle.des_cbc.specs.Cipher.{schedule}
use Rattle.des_cbc.specs.Sealing.{sealed_blocks, des_text}
use Rattle.des_cbc.specs.ChainLaws.{sealed_if_checked, checked_if_sealed, des_parts}
use Rattle.des_cbc.specs.inside.Words.{IsUnsealed}
use Rattle.des_cbc.proofs.Blocks.{read_is}

-- the words that the code works with are those of the keys and the nonce
pub record AreOf (keys : KeyPair) (nonce : List ℕ) (main check : List (List Bool)) (word : ℕ) : Type 0 where
  pub main_is : main ≡ schedule (block_bits keys.main)
  pub check_is : check ≡ schedule (block_bits keys.check)
  pub word_is : word ≡ from_be_bytes w64 nonce

pub sealed_is : (keys : KeyPair) (nonce plain first rest : List ℕ) (main check : List (List Bool)) (word : ℕ)
    → AreOf keys nonce main check word
    → first ≡ nonce → rest ≡ text_bytes (sealed_blocks main check (bits 64 word) (text_bits plain))
    → first ++ rest ≡ des_text keys nonce plain
unfolding des_text
sealed_is keys nonce plain first rest main check word h hf hr =
    ap₂ (λ (a b : List ℕ). a ++ b) hf
    (hr ∙ ap (λ (n : List Bool). text_bytes (sealed_blocks main check n (text_bits plain)))
    (read_is word nonce h.word_is)
    ∙ ap₂ (λ (m c : List (List Bool)). text_bytes (sealed_blocks m c (block_bits nonce) (text_bits plain))) h.main_is
    h.check_is)

-- the sealed text's parts, and what its chain deciphers to
pub record IsTakenBack (keys : KeyPair) (text first middle : List ℕ) (n : ℕ) (backward check : List (List Bool))
    (word : ℕ) (answer : Bool) : Type 0 where
  pub bytes : AreBytes text
  pub some : 0 < n
  pub whole : n % 8 ≡ 0
  pub text_len : length text ≡ n + 16
  pub middle_len : length middle ≡ n
  pub first_is : first ≡ take 8 text
  pub words : AreOf keys first (reverse backward) check word
  pub unsealed : IsUnsealed backward check (bits 64 word) (drop 8 text) middle answer

pub opens : (keys : KeyPair) (text first middle : List ℕ) (n : ℕ) (backward check : List (List Bool)) (word : ℕ)
    (answer : Bool)
    → IsTakenBack keys text first middle n backward check word answer → AreBytes middle → answer ≡ true
    → OpensTo des_text keys text first middle
opens keys text first middle n backward check word answer h hm t =
    let u = h.unsealed in
    let main = reverse backward in
    let rest_blocks = sealed_if_checked main check (bits 64 word) (text_bits (drop 8 text)) (text_bits middle) u.last
    (length-bits 64 word) (AreBlocks-text_bits (drop 8 text)) u.blocks (u.checked.0 t) in
    let rest = sym (text_bytes-text_bits (drop 8 text) (omega (arith, length-drop 8 text))
    (AreBytes-drop 8 text h.bytes)) ∙ ap text_bytes rest_blocks in
    record {
      block = record {
        len = ap length h.first_is ∙ length-take-le 8 text (omega arith);
        bytes =
            rw h.first_is (AreBytes-take 8 text h.bytes);
      };
      blocks = record { some = omega arith; whole = ap (λ (k : ℕ). k % 8) h.middle_len ∙ h.whole; bytes = hm };
      same = sym (take-append-drop 8 text) ∙ sealed_is keys first middle (take 8 text) (drop 8 text) main check word
          h.words (sym h.first_is) rest;
    }

-- what the text of a nonce and a body is taken back to
pub record IsAlone (keys : KeyPair) (first middle nonce body : List ℕ) (answer : Bool) : Type 0 where
  pub nonce_is : first ≡ nonce
  pub blocks_are : text_bits middle ≡ text_bits body
  pub answer_is : answer ≡ true

pub alone : (keys : KeyPair) (text first middle nonce body : List ℕ) (n : ℕ) (backward check : List (List Bool))
    (word : ℕ) (answer : Bool)
    → IsTakenBack keys text first middle n backward check word answer → OpensTo des_text keys text nonce body
    → IsAlone keys first middle nonce body answer
alone keys text first middle nonce body n backward check word answer h o =
    let u = h.unsealed in
    let main = reverse backward in
    let p = des_parts keys text nonce body o in
    let nonces : first ≡ nonce = h.first_is ∙ p.nonce_is in
    let start : block_bits nonce ≡ bits 64 word = ap block_bits (sym nonces)
    ∙ sym (read_is word first h.words.word_is) in
    let sealed : text_bits (drop 8 text) ≡ sealed_blocks main check (bits 64 word) (text_bits body) =
    p.blocks_are
    ∙ ap₂ (λ (m c : List (List Bool)). sealed_blocks m c (block_bits nonce) (text_bits body)) (sym h.words.main_is)
    (sym h.words.check_is)
    ∙ ap (λ (b : List Bool). sealed_blocks main check b (text_bits body)) start in
    let same = checked_if_sealed main check (bits 64 word) (text_bits (drop 8 text)) (text_bits middle)
    (text_bits body) u.last (length-bits 64 word) (AreBlocks-text_bits body) u.blocks sealed in
    record { nonce_is = nonces; blocks_are = same.0; answer_is = u.checked.1 same.1 }

pub same_body : (middle body : List ℕ) (n : ℕ) → length middle ≡ n → n % 8 ≡ 0 → AreBytes middle → IsPlain body
    → text_bits middle ≡ text_bits body → middle ≡ body
same_body middle body n len whole hm hb e =
    sym (text_bytes-text_bits middle (ap (λ (k : ℕ). k % 8) len ∙ whole) hm) ∙ ap text_bytes e
    ∙ text_bytes-text_bits body hb.whole hb.bytes

pub taken_back : (keys : KeyPair) (text first middle rest : List ℕ) (n : ℕ) (main backward check : List (List Bool))
    (word : ℕ) (answer : Bool)
    → AreBytes text → 0 < n → n % 8 ≡ 0 → length text ≡ n + 16 → length middle ≡ n → first ≡ take 8 text
    → rest ≡ drop 8 text
    → backward ≡ reverse main → main ≡ schedule (block_bits keys.main) → check ≡ schedule (block_bits keys.check)
    → word ≡ from_be_bytes w64 first
    → IsUnsealed backward check (bits 64 word) rest middle answer
    → IsTakenBack keys text first middle n backward check word answer
taken_back keys text first middle rest n main backward check word answer hb some whole len hm hf hr e main_is check_is
    word_is u = record {
      bytes = hb;
      some = some;
      whole = whole;
      text_len = len;
      middle_len = hm;
      first_is = hf;
      words =
          record { main_is = ap reverse e ∙ reverse-reverse main ∙ main_is; check_is = check_is; word_is = word_is };
      unsealed =
          let P : List ℕ → Type 0 = λ t. IsUnsealed backward check (bits 64 word) t middle answer in subst P hr u;
    }
