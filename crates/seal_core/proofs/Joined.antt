-- A text that is written part by part, and what opens.
use Rattle.std.proofs.Common.{◌≡◌, ℕ, ◌+◌, ◌-◌, ◌%◌, ◌<◌, ◌≤◌, List, [], ◌++◌, length, take, drop, sym, ap, ap₂, ◌∙◌, arith, length-append, take_at, length-drop, append-nil}
use Rattle.std.proofs.lemmas.List.{drop_all, length-take-le}
use Rattle.std.proofs.lemmas.Slice.{take-put_mid}
use borrow.Rule.Slice.PartMut.{put_mid}
use Rattle.seal_core.specs.declared.KeyPair.{KeyPair}
use Rattle.seal_core.specs.Blocks.{AreBytes}
use Rattle.seal_core.specs.Sealing.{OpensTo}
use Rattle.seal_core.specs.Clear.{clear_check, clear_text}
use Rattle.seal_core.specs.ClearLaws.{length-clear_text, clear_parts}
use Rattle.seal_core.specs.Parts.{AreBytes-take, AreBytes-drop, whole_of}

-- a last part over the rest
pub last_part : (a j : ℕ) (xs ys zs : List ℕ) → take a xs ≡ ys → a + j ≡ length xs → put_mid a j xs zs ≡ ys ++ zs
last_part a j xs ys zs e h =
    let none : drop j (drop a xs) ≡ [] = drop_all j (drop a xs) (omega (arith, length-drop a xs)) in
    ap₂ (λ (s t : List ℕ). s ++ (zs ++ t)) e none ∙ ap (λ (t : List ℕ). ys ++ t) (append-nil zs)

-- three parts, one after another
pub joined : (out a b d : List ℕ) (n k j : ℕ) → length out ≡ n + 16 → length a ≡ 8 → length b ≡ n → length d ≡ 8
    → k ≡ n
    → j ≡ length (put_mid 8 k (a ++ drop 8 out) b) - (8 + n)
    → put_mid (8 + n) j (put_mid 8 k (a ++ drop 8 out) b) d ≡ a ++ b ++ d
joined out a b d n k j ho ha hb hd hk hj =
    let x : List ℕ = a ++ drop 8 out in
    let len : length x ≡ n + 16 = length-append a (drop 8 out) ∙ ap₂ (λ (p q : ℕ). p + q) ha (length-drop 8 out)
    ∙ omega arith in
    let front : take (8 + n) (put_mid 8 k x b) ≡ a ++ b =
    take-put_mid 8 k x b (8 + n) (omega arith) (omega arith)
    ∙ ap (λ (s : List ℕ). s ++ b) (take_at a (drop 8 out) 8 ha) in
    let front_len : 8 + n ≤ length (put_mid 8 k x b) =
    omega (
      arith,
      length-append a b,
      length-append (take 8 x) b,
      length-append (take 8 x) (b ++ drop k (drop 8 x)),
      length-append b (drop k (drop 8 x)),
      length-take-le 8 x (omega arith),
    ) in
    last_part (8 + n) j (put_mid 8 k x b) (a ++ b) d front (omega arith)

-- a text whose last part is the check block of the others
pub clear_opens : (keys : KeyPair) (text nonce body last : List ℕ) (n : ℕ) → AreBytes text → 0 < n → n % 8 ≡ 0
    → length text ≡ n + 16
    → nonce ≡ take 8 text → body ≡ take n (drop 8 text) → last ≡ drop (8 + n) text
    → last ≡ clear_check keys.check nonce body
    → OpensTo clear_text keys text nonce body
unfolding clear_text
clear_opens keys text nonce body last n hb some whole len hn hp hl e =
    let body_len : length body ≡ n = ap length hp
    ∙ length-take-le n (drop 8 text) (omega (arith, length-drop 8 text)) in
    record {
      block = record {
        len = ap length hn ∙ length-take-le 8 text (omega arith);
        bytes =
            rw hn (AreBytes-take 8 text hb);
      };
      blocks = record {
        some = omega arith;
        whole = ap (λ (k : ℕ). k % 8) body_len ∙ whole;
        bytes = rw hp (AreBytes-take n (drop 8 text) (AreBytes-drop 8 text hb));
      };
      same = whole_of text nonce body last n hn hp hl ∙ ap (λ (t : List ℕ). nonce ++ body ++ t) e;
    }

-- what the text of a nonce and a body opens to is they
pub clear_alone : (keys : KeyPair) (text first middle last nonce body : List ℕ) (n : ℕ) → length text ≡ n + 16
    → first ≡ take 8 text → middle ≡ take n (drop 8 text) → last ≡ drop (8 + n) text
    → OpensTo clear_text keys text nonce body
    → (first ≡ nonce) × (middle ≡ body) × (last ≡ clear_check keys.check first middle)
clear_alone keys text first middle last nonce body n len hf hm hl h =
    let size : length body ≡ n = omega (arith, ap length h.same ∙ length-clear_text keys nonce body h.block.len) in
    let p = clear_parts keys text nonce body h in
    let f : first ≡ nonce = hf ∙ p.first_is in
    let m : middle ≡ body = hm ∙ ap (λ (k : ℕ). take k (drop 8 text)) (sym size) ∙ p.middle_is in (
      f,
      m,
      hl ∙ ap (λ (k : ℕ). drop (8 + k) text) (sym size) ∙ p.last_is
          ∙ ap₂ (clear_check keys.check) (sym f) (sym m),
    )
