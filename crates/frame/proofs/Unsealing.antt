-- What the sealed part of a frame opens to.
use Rattle.std.proofs.Common.{◌≡◌, ℕ, ◌%◌, List, [], ◌∷◌, ◌++◌, length, take, drop, refl, sym, ap, ap₂, subst, ◌∙◌, arith, length-append, take-append-drop}
use Rattle.std.specs.Prelude.{◌↔◌, replicate}
use Rattle.std.specs.Int.{w32, to_be_bytes}
use Rattle.std.proofs.lemmas.List.{length-take-le}
use Rattle.seal_core.specs.declared.KeyPair.{KeyPair}
use Rattle.seal_core.specs.Blocks.{AreBytes, IsBlock, IsPlain}
use Rattle.seal_core.specs.Sealing.{Sealer, OpensTo, IsSealing}
use Rattle.seal_core.specs.Parts.{AreBytes-append, AreBytes-take}
use Rattle.frame.specs.Pieces.{PieceView, IsPiece}
use Rattle.frame.specs.Frames.{header, plain_of, nonce_of, frame_of, Spells, IsFrame, HasHeader, Opens}
use Rattle.frame.specs.declared.sealed.Opening.{Opening}
use Rattle.frame.specs.declared.sealed.Opening.TheVariants.{Foreign, Closed, Malformed, Opened}
use Rattle.frame.specs.inside.Openings.{Holds, PartHolds}
use Rattle.frame.proofs.Bytes.{AreBytes-cons, AreBytes-zeros, AreBytes-number}
use Rattle.frame.proofs.Spelling.{one_piece}

-- ---- what is sealed for a piece

length-plain : (x : PieceView) → IsPiece x → length (plain_of x) ≡ 104
unfolding plain_of
length-plain x is = let wide = is.wide in rw wide refl

AreBytes-plain : (x : PieceView) → IsPiece x → AreBytes (plain_of x)
unfolding plain_of
AreBytes-plain x is =
    let zeros = AreBytes-append (replicate 6 0) x.payload (AreBytes-zeros 6) is.bytes in
    AreBytes-cons x.from _ is.from (AreBytes-cons x.to _ is.to
    (AreBytes-append (to_be_bytes w32 x.message) _ (AreBytes-number x.message)
    (AreBytes-cons x.piece _ (omega (arith, is.within, is.last)) (AreBytes-cons x.last _ (omega (arith, is.last))
    (AreBytes-cons x.used _ (omega (arith, is.used)) (AreBytes-cons x.partition _ is.partition zeros))))))

plain_is : (x : PieceView) → IsPiece x → IsPlain (plain_of x)
plain_is x is =
    let long = length-plain x is in
    record { some = omega (arith, long); whole = ap (λ (n : ℕ). n % 8) long; bytes = AreBytes-plain x is }

nonce_is : (plain : List ℕ) → length plain ≡ 104 → AreBytes plain → IsBlock (nonce_of plain)
unfolding nonce_of
nonce_is plain long bytes = record {
  len = omega (arith, long, length-append (take 7 plain) (0 ∷ []), length-take-le 7 plain (omega (arith, long)));
  bytes = AreBytes-append (take 7 plain) (0 ∷ []) (AreBytes-take 7 plain bytes) (AreBytes-zeros 1);
}

block_is : (x : PieceView) → IsPiece x → IsBlock (nonce_of (plain_of x))
block_is x is = nonce_is (plain_of x) (length-plain x is) (AreBytes-plain x is)

length-header : (p : ℕ) → length (header p) ≡ 8
unfolding header
length-header p = refl

pub length-frame : (sealed : Sealer) (keys : KeyPair) (x : PieceView) → IsSealing sealed → IsPiece x
    → length (frame_of sealed keys x) ≡ 128
unfolding frame_of
length-frame sealed keys x laws is =
    let part = laws.longer keys (nonce_of (plain_of x)) (plain_of x) (block_is x is) (plain_is x is) in
    omega (
      arith,
      length-append (header x.partition) (sealed keys (nonce_of (plain_of x)) (plain_of x)),
      length-header x.partition,
      part,
      length-plain x is,
    )

-- ---- a frame is its header, and a sealed part that holds its piece

pub begins : (sealed : Sealer) (keys : KeyPair) (p : ℕ) (bytes : List ℕ) (x : PieceView)
    → IsFrame sealed keys p bytes x → HasHeader p bytes
unfolding frame_of header
begins sealed keys p bytes x f = ap (take 8) f.same ∙ ap header f.own

pub part_holds : (sealed : Sealer) (keys : KeyPair) (p : ℕ) (bytes : List ℕ) (x : PieceView)
    → IsFrame sealed keys p bytes x
    → Holds sealed keys p (drop 8 bytes) x
unfolding frame_of header
part_holds sealed keys p bytes x f = record {
  plain = plain_of x;
  opens = record { block = block_is x f.piece; blocks = plain_is x f.piece; same = ap (drop 8) f.same };
  spells = record { piece = f.piece; same = refl };
  own = f.own;
}

frame_holds : (sealed : Sealer) (keys : KeyPair) (p : ℕ) (bytes : List ℕ) (x : PieceView) → HasHeader p bytes
    → Holds sealed keys p (drop 8 bytes) x → IsFrame sealed keys p bytes x
unfolding frame_of
frame_holds sealed keys p bytes x begins h =
    let part : drop 8 bytes ≡ sealed keys (nonce_of (plain_of x)) (plain_of x) =
    h.opens.same ∙ ap (λ (t : List ℕ). sealed keys (nonce_of t) t) h.spells.same in
    record {
      piece = h.spells.piece;
      own = h.own;
      same = sym (take-append-drop 8 bytes) ∙ ap₂ (λ (s t : List ℕ). s ++ t) (begins ∙ ap header (sym h.own)) part;
    }

-- ---- what opens holds one piece at most

pub as_it_opens : (sealed : Sealer) (keys : KeyPair) (p : ℕ) (text nonce plain : List ℕ) (x : PieceView)
    → IsSealing sealed
    → OpensTo sealed keys text nonce plain → Holds sealed keys p text x → (nonce ≡ nonce_of plain) × Spells plain x
as_it_opens sealed keys p text nonce plain x laws opens h =
    let one = laws.once keys text nonce plain (nonce_of h.plain) h.plain opens h.opens in
    (one.0 ∙ ap nonce_of (sym one.1), subst (λ (t : List ℕ). Spells t x) (sym one.1) h.spells)

one_held : (sealed : Sealer) (keys : KeyPair) (p q : ℕ) (text : List ℕ) (x y : PieceView) → IsSealing sealed
    → Holds sealed keys p text x → Holds sealed keys q text y → x ≡ y
one_held sealed keys p q text x y laws a b =
    one_piece a.plain x y a.spells (as_it_opens sealed keys q text (nonce_of a.plain) a.plain y laws a.opens b).1

pub one_framed : (sealed : Sealer) (keys : KeyPair) (x y : PieceView) → IsSealing sealed → IsPiece x → IsPiece y
    → frame_of sealed keys x ≡ frame_of sealed keys y → x ≡ y
one_framed sealed keys x y laws a b same =
    let f : IsFrame sealed keys x.partition (frame_of sealed keys x) x =
    record { piece = a; own = refl; same = refl } in
    let g : IsFrame sealed keys y.partition (frame_of sealed keys x) y =
    record { piece = b; own = refl; same = same } in
    one_held sealed keys x.partition y.partition (drop 8 (frame_of sealed keys x)) x y laws
    (part_holds sealed keys x.partition (frame_of sealed keys x) x f)
    (part_holds sealed keys y.partition (frame_of sealed keys x) y g)

opens_where : (sealed : Sealer) (keys : KeyPair) (p : ℕ) (text : List ℕ) (x : PieceView) → Holds sealed keys p text x
    → Opens sealed keys text
opens_where sealed keys p text x h = record { nonce = nonce_of h.plain; plain = h.plain; opens = h.opens }

-- ---- the four answers

pub closed_where : (sealed : Sealer) (keys : KeyPair) (p : ℕ) (bytes : List ℕ) (r : Opening) → HasHeader p bytes
    → PartHolds sealed keys p (drop 8 bytes) r
    → (r ≡ Closed) ↔ (HasHeader p bytes × (¬ Opens sealed keys (drop 8 bytes)))
closed_where sealed keys p bytes Foreign begins h = absurd h
closed_where sealed keys p bytes Closed begins h = (λ e. (begins, h), λ t. refl)
closed_where sealed keys p bytes Malformed begins h = (λ e. cc, λ t. absurd (t.1 h.0))
closed_where sealed keys p bytes (Opened x) begins h =
    (λ e. cc, λ t. absurd (t.1 (opens_where sealed keys p (drop 8 bytes) x h)))

pub malformed_where : (sealed : Sealer) (keys : KeyPair) (p : ℕ) (bytes : List ℕ) (r : Opening) → HasHeader p bytes
    → PartHolds sealed keys p (drop 8 bytes) r
    → (r ≡ Malformed)
    ↔ (HasHeader p bytes × Opens sealed keys (drop 8 bytes) × ((x : PieceView) → ¬ IsFrame sealed keys p bytes x))
malformed_where sealed keys p bytes Foreign begins h = absurd h
malformed_where sealed keys p bytes Closed begins h = (λ e. cc, λ t. absurd (h t.1))
malformed_where sealed keys p bytes Malformed begins h =
    (λ e. (begins, h.0, λ x f. h.1 x (part_holds sealed keys p bytes x f)), λ t. refl)
malformed_where sealed keys p bytes (Opened x) begins h =
    (λ e. cc, λ t. absurd (t.2 x (frame_holds sealed keys p bytes x begins h)))

pub opened_where : (sealed : Sealer) (keys : KeyPair) (p : ℕ) (bytes : List ℕ) (r : Opening) → IsSealing sealed
    → HasHeader p bytes
    → PartHolds sealed keys p (drop 8 bytes) r → (x : PieceView) → (r ≡ Opened x) ↔ IsFrame sealed keys p bytes x
opened_where sealed keys p bytes Foreign laws begins h x = absurd h
opened_where sealed keys p bytes Closed laws begins h x =
    (λ e. cc, λ f. absurd (h (opens_where sealed keys p (drop 8 bytes) x (part_holds sealed keys p bytes x f))))
opened_where sealed keys p bytes Malformed laws begins h x =
    (λ e. cc, λ f. absurd (h.1 x (part_holds sealed keys p bytes x f)))
opened_where sealed keys p bytes (Opened y) laws begins h x = (
  λ e. let same : y ≡ x = cc in subst (IsFrame sealed keys p bytes) same (frame_holds sealed keys p bytes y begins h),
  λ f. ap Opened (one_held sealed keys p p (drop 8 bytes) y x laws h (part_holds sealed keys p bytes x f)),
)
