-- The plain text of a piece, and the one piece that it spells.
use Rattle.std.proofs.Common.{◌≡◌, ℕ, zero, suc, ◌+◌, ◌^◌, ◌<◌, ◌≤◌, List, [], ◌∷◌, ◌++◌, length, take, drop, get_or, refl, sym, ap, ap₂, subst, ◌∙◌, arith, take_at, length-drop, append-nil, drop-drop, take-append-drop, take_all}
use Rattle.std.specs.Int.{w32, to_be_bytes, from_be_bytes}
use Rattle.std.proofs.lemmas.List.{drop_all}
use Rattle.std.proofs.Math.Seq.{drop-cons}
use Rattle.std.proofs.lemmas.Nat.{be_bytes_4, from_be_bytes-to_be_bytes_4}
use borrow.Rule.Slice.PartMut.{put_mid}
use Rattle.seal_core.specs.Blocks.{AreBytes}
use Rattle.seal_core.specs.Parts.{AreBytes-drop}
use Rattle.frame.specs.Pieces.{PieceView}
use Rattle.frame.specs.Frames.{plain_of, Spells}
use Rattle.frame.specs.inside.Rules.{KeepsRules}

-- a last part behind a first one
pub last_part : (a j : ℕ) (ys rest zs : List ℕ) → length ys ≡ a → a + j ≡ length (ys ++ rest)
    → put_mid a j (ys ++ rest) zs ≡ ys ++ zs
last_part a j ys rest zs e h =
    let xs : List ℕ = ys ++ rest in
    let none : drop j (drop a xs) ≡ [] = drop_all j (drop a xs) (omega (arith, length-drop a xs)) in
    ap₂ (λ (s t : List ℕ). s ++ (zs ++ t)) (take_at ys rest a e) none ∙ ap (λ (t : List ℕ). ys ++ t) (append-nil zs)

-- ---- a text by its bytes

-- n bytes from the k-th on
bytes_from : ℕ → ℕ → List ℕ → List ℕ
bytes_from k zero xs = []
bytes_from k (suc n) xs = get_or xs k 0 ∷ bytes_from (suc k) n xs

next_bytes : (n k : ℕ) (xs : List ℕ) → k + n ≤ length xs → drop k xs ≡ bytes_from k n xs ++ drop (k + n) xs
unfolding bytes_from
next_bytes zero k xs h = let e : k ≡ k + 0 = omega arith in ap (λ (j : ℕ). drop j xs) e
next_bytes (suc n) k xs h =
    let e : suc k + n ≡ k + suc n = omega arith in
    drop-cons xs k 0 (omega (arith, h))
    ∙ ap (λ (t : List ℕ). get_or xs k 0 ∷ t)
    (next_bytes n (suc k) xs (omega (arith, h)) ∙ ap (λ (j : ℕ). bytes_from (suc k) n xs ++ drop j xs) e)

-- the four bytes of a message number
abbrev pub word : List ℕ → List ℕ
word xs = get_or xs 2 0 ∷ get_or xs 3 0 ∷ get_or xs 4 0 ∷ get_or xs 5 0 ∷ []

-- a text is its first ten bytes, six more, and the rest
first_ten : (xs : List ℕ) → length xs ≡ 104
    → xs ≡ get_or xs 0 0 ∷ get_or xs 1 0 ∷ (word xs
    ++ (get_or xs 6 0 ∷ get_or xs 7 0 ∷ get_or xs 8 0 ∷ get_or xs 9 0 ∷ (take 6 (drop 10 xs) ++ drop 16 xs)))
unfolding bytes_from
first_ten xs len =
    next_bytes 10 0 xs (omega (arith, len))
    ∙ ap (λ (t : List ℕ). bytes_from 0 10 xs ++ t)
    (sym (take-append-drop 6 (drop 10 xs)) ∙ ap (λ (t : List ℕ). take 6 (drop 10 xs) ++ t) (drop-drop 6 10 xs))

-- the piece whose fields stand in a plain text
abbrev pub fields_in : List ℕ → PieceView
fields_in xs = record {
  from = get_or xs 0 0;
  to = get_or xs 1 0;
  message = from_be_bytes w32 (word xs);
  piece = get_or xs 6 0;
  last = get_or xs 7 0;
  used = get_or xs 8 0;
  partition = get_or xs 9 0;
  payload = drop 16 xs;
}

-- the same with a number and a payload that were read
abbrev pub read_in : List ℕ → ℕ → List ℕ → PieceView
read_in xs message payload = record (fields_in xs) { message = message; payload = payload }

pub read_is : (xs : List ℕ) (message : ℕ) (payload : List ℕ) → length xs ≡ 104 → message ≡ from_be_bytes w32 (word xs)
    → payload ≡ take 88 (drop 16 xs) → read_in xs message payload ≡ fields_in xs
read_is xs message payload len number bytes =
    let rest : payload ≡ drop 16 xs = bytes ∙ take_all 88 (drop 16 xs) (omega (arith, len, length-drop 16 xs)) in
    ap₂ (read_in xs) number rest

four_below : (a b c d i : ℕ) → a < 256 → b < 256 → c < 256 → d < 256 → get_or (a ∷ b ∷ c ∷ d ∷ []) i 0 < 256
four_below a b c d zero ha hb hc hd = ha
four_below a b c d (suc zero) ha hb hc hd = hb
four_below a b c d (suc (suc zero)) ha hb hc hd = hc
four_below a b c d (suc (suc (suc zero))) ha hb hc hd = hd
four_below a b c d (suc (suc (suc (suc i)))) ha hb hc hd = omega arith

word_is : (xs : List ℕ) → AreBytes xs → to_be_bytes w32 (from_be_bytes w32 (word xs)) ≡ word xs
word_is xs bytes =
    be_bytes_4 (word xs) (from_be_bytes w32 (word xs)) refl
    (λ i. four_below (get_or xs 2 0) (get_or xs 3 0) (get_or xs 4 0) (get_or xs 5 0) i (bytes.below 2)
    (bytes.below 3) (bytes.below 4) (bytes.below 5)) refl

-- ---- what spells a piece

small_number : (a b c d : ℕ) → a < 256 → b < 256 → c < 256 → d < 256 → from_be_bytes w32 (a ∷ b ∷ c ∷ d ∷ []) < 2 ^ 32
small_number a b c d ha hb hc hd = omega arith

pub spelled : (xs : List ℕ) → length xs ≡ 104 → AreBytes xs → KeepsRules xs → Spells xs (fields_in xs)
unfolding plain_of
spelled xs len bytes rules =
    let fits = rules.fits in
    record {
      piece = record {
        from = bytes.below 0;
        to = bytes.below 1;
        message = small_number (get_or xs 2 0) (get_or xs 3 0) (get_or xs 4 0) (get_or xs 5 0) (bytes.below 2)
            (bytes.below 3) (bytes.below 4) (bytes.below 5);
        partition = bytes.below 9;
        within = fits.within;
        last = fits.last;
        full = fits.full;
        some = fits.some;
        used = fits.used;
        wide = length-drop 16 xs ∙ omega (arith, len);
        bytes = AreBytes-drop 16 xs bytes;
        zeros = drop-drop (get_or xs 8 0) 16 xs ∙ rules.rest;
      };
      same =
          first_ten xs len
          ∙ ap₂ (λ (w z : List ℕ). get_or xs 0 0 ∷ get_or xs 1 0 ∷
          (w ++ (get_or xs 6 0 ∷ get_or xs 7 0 ∷ get_or xs 8 0 ∷ get_or xs 9 0 ∷ (z ++ drop 16 xs))))
          (sym (word_is xs bytes)) rules.six;
    }

pub rules_kept : (xs : List ℕ) (x : PieceView) → Spells xs x → KeepsRules xs
unfolding plain_of
rules_kept xs x spells =
    let p = spells.piece in
    let rules : KeepsRules (plain_of x) =
    record {
      fits = record { within = p.within; last = p.last; full = p.full; some = p.some; used = p.used };
      six = refl;
      rest = sym (drop-drop x.used 16 (plain_of x)) ∙ p.zeros;
    } in
    subst KeepsRules (sym spells.same) rules

number_is : (n : ℕ) → n < 2 ^ 32 → from_be_bytes w32 (to_be_bytes w32 n) ≡ n
number_is n small = from_be_bytes-to_be_bytes_4 n small

-- the fields of a piece are those that its plain text has
fields_are : (x : PieceView) → x.message < 2 ^ 32 → fields_in (plain_of x) ≡ x
unfolding plain_of
fields_are x small = ap (λ (n : ℕ). record x { message = n }) (number_is x.message small)

-- a text spells one piece at most
pub one_piece : (xs : List ℕ) (x y : PieceView) → Spells xs x → Spells xs y → x ≡ y
one_piece xs x y a b =
    sym (fields_are x a.piece.message) ∙ ap fields_in (sym a.same ∙ b.same) ∙ fields_are y b.piece.message
