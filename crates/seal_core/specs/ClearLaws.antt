-- The clear sealing is a sealing.
use Rattle.std.proofs.Common.{◌≡◌, ℕ, ◌+◌, List, ◌++◌, length, take, drop, refl, sym, ap, ◌∙◌, arith, length-append}
use Rattle.seal_core.specs.declared.KeyPair.{KeyPair}
use Rattle.seal_core.specs.Blocks.{AreBytes, IsBlock, IsPlain}
use Rattle.seal_core.specs.Sealing.{OpensTo, IsSealing}
use Rattle.seal_core.specs.Clear.{clear_check, clear_text}
use Rattle.seal_core.specs.Parts.{HasParts, parts, AreBytes-append, AreBytes-word}

pub length-clear_check : (key nonce plain : List ℕ) → length (clear_check key nonce plain) ≡ 8
unfolding clear_check
length-clear_check key nonce plain = refl

pub length-clear_text : (keys : KeyPair) (nonce plain : List ℕ) → length nonce ≡ 8
    → length (clear_text keys nonce plain) ≡ length plain + 16
unfolding clear_text
length-clear_text keys nonce plain h =
    let l = length-append (nonce ++ plain) (clear_check keys.check nonce plain) in
    let m = length-append nonce plain in
    omega (arith, l, m, length-clear_check keys.check nonce plain)

pub clear_parts : (keys : KeyPair) (text nonce plain : List ℕ)
    → OpensTo clear_text keys text nonce plain
    → HasParts text nonce plain (clear_check keys.check nonce plain) (length plain)
unfolding clear_text
clear_parts keys text nonce plain h =
    parts text nonce plain (clear_check keys.check nonce plain) (length plain) h.same h.block.len
    (length-clear_check keys.check nonce plain)
    (ap length h.same ∙ length-clear_text keys nonce plain h.block.len)

bytes : (keys : KeyPair) (nonce plain : List ℕ) → IsBlock nonce → IsPlain plain
    → AreBytes (clear_text keys nonce plain)
unfolding clear_text clear_check
bytes keys nonce plain hn hp = AreBytes-append (nonce ++ plain) _
    (AreBytes-append nonce plain hn.bytes hp.bytes) (AreBytes-word _)

once : (keys : KeyPair) (text nonce plain nonce' plain' : List ℕ)
    → OpensTo clear_text keys text nonce plain → OpensTo clear_text keys text nonce' plain'
    → (nonce ≡ nonce') × (plain ≡ plain')
once keys text nonce plain nonce' plain' h k =
    let lens : length plain ≡ length plain' =
    omega (
      arith,
      sym (ap length h.same ∙ length-clear_text keys nonce plain h.block.len)
          ∙ ap length k.same ∙ length-clear_text keys nonce' plain' k.block.len,
    ) in
    let a = clear_parts keys text nonce plain h in
    let b = clear_parts keys text nonce' plain' k in (
      sym a.first_is ∙ b.first_is,
      sym a.middle_is ∙ ap (λ (n : ℕ). take n (drop 8 text)) lens
          ∙ b.middle_is,
    )

pub clear_laws : IsSealing clear_text
clear_laws = record {
  longer = λ keys nonce plain hn hp. length-clear_text keys nonce plain hn.len;
  bytes = bytes;
  once = once;
}
