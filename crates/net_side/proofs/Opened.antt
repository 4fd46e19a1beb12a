-- What bytes hold that open at a unit.
use Rattle.std.proofs.Common.{◌≡◌, ℕ, zero, suc, ◌<◌, ◌%◌, ◌/◌, ◌^◌, List, [], ◌∷◌, length, take, drop, Bool, true, false, refl, sym, ap, ◌∙◌, arith, length-append}
use Rattle.std.specs.Prelude.{slice_index, replicate}
use Rattle.std.specs.Int.{w32, to_be_bytes, byte_at, bytes_high_first}
use Rattle.std.proofs.lemmas.List.{length-take-le}
use Rattle.seal_core.specs.declared.KeyPair.{KeyPair}
use Rattle.seal_core.specs.Blocks.{AreBytes, IsBlock, IsPlain}
use Rattle.seal_core.specs.Sealing.{Sealer}
use Rattle.seal_core.specs.Parts.{AreBytes-append, AreBytes-take}
use Rattle.frame.specs.Pieces.{PieceView, IsPiece}
use Rattle.frame.specs.Frames.{header, plain_of, nonce_of, frame_of, IsFrame, HasHeader, Opens}
use Rattle.net_side.specs.NetView.{NetView}
use Rattle.net_side.specs.Nets.{is_for, IsFrameAt, OpensAt, IsInbound, has_opened}
use Rattle.net_side.specs.declared.inbound.Inbound.{Inbound}
use Rattle.net_side.specs.declared.inbound.Inbound.TheVariants.{Foreign, Closed, Malformed, NotMine, Ours}

-- ---- the plain text of a piece is bytes

one_more : (b : ℕ) (bs : List ℕ) → b < 256 → AreBytes bs → (i : ℕ) → slice_index (b ∷ bs) i < 256
one_more b bs small rest zero = small
one_more b bs small rest (suc i) = rest.below i

AreBytes-cons : (b : ℕ) (bs : List ℕ) → b < 256 → AreBytes bs → AreBytes (b ∷ bs)
AreBytes-cons b bs small rest = record { below = one_more b bs small rest }

none_below : (i : ℕ) → slice_index [] i < 256
none_below i = omega arith

AreBytes-zeros : (n : ℕ) → AreBytes (replicate n 0)
AreBytes-zeros zero = record { below = none_below }
AreBytes-zeros (suc n) = AreBytes-cons 0 (replicate n 0) (omega arith) (AreBytes-zeros n)

high : (n : ℕ) → n % 256 < 256
high n = omega arith

byte_small : (k n : ℕ) → byte_at k n < 256
byte_small zero n = omega arith
byte_small (suc k) n = high (n / 256 ^ suc k)

AreBytes-high : (k n : ℕ) → AreBytes (bytes_high_first k n)
AreBytes-high zero n = AreBytes-zeros 0
AreBytes-high (suc k) n = AreBytes-cons (byte_at k n) (bytes_high_first k n) (byte_small k n) (AreBytes-high k n)

length-plain : (x : PieceView) → IsPiece x → length (plain_of x) ≡ 104
unfolding plain_of
length-plain x is = let wide = is.wide in rw wide refl

AreBytes-plain : (x : PieceView) → IsPiece x → AreBytes (plain_of x)
unfolding plain_of
AreBytes-plain x is =
    let zeros = AreBytes-append (replicate 6 0) x.payload (AreBytes-zeros 6) is.bytes in
    AreBytes-cons x.from _ is.from (AreBytes-cons x.to _ is.to
    (AreBytes-append (to_be_bytes w32 x.message) _ (AreBytes-high 4 x.message)
    (AreBytes-cons x.piece _ (omega (arith, is.within, is.last)) (AreBytes-cons x.last _ (omega (arith, is.last))
    (AreBytes-cons x.used _ (omega (arith, is.used)) (AreBytes-cons x.partition _ is.partition zeros))))))

plain_is : (x : PieceView) → IsPiece x → IsPlain (plain_of x)
plain_is x is =
    let long = length-plain x is in
    record { some = omega (arith, long); whole = ap (λ (n : ℕ). n % 8) long; bytes = AreBytes-plain x is }

nonce_is : (plain : List ℕ) → length plain ≡ 104 → AreBytes plain → IsBlock (nonce_of plain)
unfolding nonce_of
nonce_is plain long bytes = record {
  len = omega (arith, long, length-append (take 7 plain) (0 ∷ []), length-take-le 7 plain (omega (arith, long)));
  bytes = AreBytes-append (take 7 plain) (0 ∷ []) (AreBytes-take 7 plain bytes) (AreBytes-zeros 1);
}

-- ---- a frame opens

begins : (sealed : Sealer) (keys : KeyPair) (p : ℕ) (bytes : List ℕ) (x : PieceView)
    → IsFrame sealed keys p bytes x → HasHeader p bytes
unfolding frame_of header
begins sealed keys p bytes x f = ap (take 8) f.same ∙ ap header f.own

part_opens : (sealed : Sealer) (keys : KeyPair) (p : ℕ) (bytes : List ℕ) (x : PieceView)
    → IsFrame sealed keys p bytes x → Opens sealed keys (drop 8 bytes)
unfolding frame_of header
part_opens sealed keys p bytes x f = record {
  nonce = nonce_of (plain_of x);
  plain = plain_of x;
  opens = record {
    block = nonce_is (plain_of x) (length-plain x f.piece) (AreBytes-plain x f.piece);
    blocks = plain_is x f.piece;
    same = ap (drop 8) f.same;
  };
}

frame_opens : (sealed : Sealer) (net : NetView) (bytes : List ℕ) (x : PieceView) → IsFrameAt sealed net bytes x
    → OpensAt sealed net bytes
frame_opens sealed net bytes x f =
    (begins sealed net.keys net.partition bytes x f, part_opens sealed net.keys net.partition bytes x f)

pub opens_where : (sealed : Sealer) (net : NetView) (bytes : List ℕ) (a : Inbound) → IsInbound sealed net bytes a
    → has_opened a ≡ true → OpensAt sealed net bytes
opens_where sealed net bytes Foreign is open_now = absurd cc
opens_where sealed net bytes Closed is open_now = absurd cc
opens_where sealed net bytes Malformed is open_now = is.0
opens_where sealed net bytes NotMine is open_now = frame_opens sealed net bytes is.0 is.1
opens_where sealed net bytes (Ours x) is open_now = frame_opens sealed net bytes x is.0

pub opened_where : (sealed : Sealer) (net : NetView) (bytes : List ℕ) (a : Inbound) → IsInbound sealed net bytes a
    → OpensAt sealed net bytes → has_opened a ≡ true
opened_where sealed net bytes Foreign is opens = absurd (is opens.0)
opened_where sealed net bytes Closed is opens = absurd (is.1 opens.1)
opened_where sealed net bytes Malformed is opens = refl
opened_where sealed net bytes NotMine is opens = refl
opened_where sealed net bytes (Ours x) is opens = refl

-- ---- bytes are one thing alone

-- different pieces have different frames
abbrev pub Apart : Sealer → Type 0
Apart sealed = (keys : KeyPair) (x y : PieceView) → IsPiece x → IsPiece y
    → frame_of sealed keys x ≡ frame_of sealed keys y → x ≡ y

not_both : (b : Bool) → b ≡ true → b ≡ false → ⊥
not_both b holds fails = cc

module _ (sealed : Sealer) (net : NetView) (bytes : List ℕ) (apart : Apart sealed) where
  abbrev Is : Inbound → Type 0
  Is a = IsInbound sealed net bytes a

  one_piece : (x y : PieceView) → IsFrameAt sealed net bytes x → IsFrameAt sealed net bytes y → x ≡ y
  one_piece x y f g = apart net.keys x y f.piece g.piece (sym f.same ∙ g.same)

  -- bytes that have opened are of no kind that hasn't
  differ : (a b : Inbound) → Is a → Is b → has_opened a ≡ true → has_opened b ≡ false → a ≡ b
  differ a b is is' held shut =
      absurd (not_both (has_opened b)
      (opened_where sealed net bytes b is' (opens_where sealed net bytes a is held)) shut)

  pub one_thing : (a b : Inbound) → Is a → Is b → a ≡ b
  one_thing Malformed Malformed is is' = refl
  one_thing Malformed NotMine is is' = absurd (is.1 is'.0 is'.1)
  one_thing NotMine Malformed is is' = absurd (is'.1 is.0 is.1)
  one_thing Malformed (Ours x) is is' = absurd (is.1 x is'.0)
  one_thing (Ours x) Malformed is is' = absurd (is'.1 x is.0)
  one_thing NotMine NotMine is is' = refl
  one_thing NotMine (Ours y) is is' =
      let same = one_piece is.0 y is.1 is'.0 in
      absurd (not_both (is_for net y) is'.1 (ap (is_for net) (sym same) ∙ is.2))
  one_thing (Ours x) NotMine is is' =
      let same = one_piece is'.0 x is'.1 is.0 in
      absurd (not_both (is_for net x) is.1 (ap (is_for net) (sym same) ∙ is'.2))
  one_thing (Ours x) (Ours y) is is' = ap Ours (one_piece x y is.0 is'.0)
  one_thing Foreign Foreign is is' = refl
  one_thing Closed Closed is is' = refl
  one_thing Foreign Closed is is' = absurd (is is'.0)
  one_thing Closed Foreign is is' = absurd (is' is.0)
  one_thing Foreign Malformed is is' = sym (differ Malformed Foreign is' is refl refl)
  one_thing Malformed Foreign is is' = differ Malformed Foreign is is' refl refl
  one_thing Foreign NotMine is is' = sym (differ NotMine Foreign is' is refl refl)
  one_thing NotMine Foreign is is' = differ NotMine Foreign is is' refl refl
  one_thing Foreign (Ours x) is is' = sym (differ (Ours x) Foreign is' is refl refl)
  one_thing (Ours x) Foreign is is' = differ (Ours x) Foreign is is' refl refl
  one_thing Closed Malformed is is' = sym (differ Malformed Closed is' is refl refl)
  one_thing Malformed Closed is is' = differ Malformed Closed is is' refl refl
  one_thing Closed NotMine is is' = sym (differ NotMine Closed is' is refl refl)
  one_thing NotMine Closed is is' = differ NotMine Closed is is' refl refl
  one_thing Closed (Ours x) is is' = sym (differ (Ours x) Closed is' is refl refl)
  one_thing (Ours x) Closed is is' = differ (Ours x) Closed is is' refl refl
