-- Where the pieces of a message begin and end.
use Rattle.std.proofs.Common.{◌≡◌, ℕ, ◌+◌, ◌-◌, ◌*◌, ◌^◌, ◌<◌, ◌≤◌, List, length, drop, refl, ap, ◌∙◌, arith, length-append, length-drop}
use Rattle.std.specs.Prelude.{min, replicate}
use Rattle.std.proofs.lemmas.List.{length-take, drop_at, length-replicate}
use Rattle.seal_core.specs.Blocks.{AreBytes}
use Rattle.seal_core.specs.Parts.{AreBytes-append, AreBytes-drop, AreBytes-take}
use Rattle.frame.proofs.Bytes.{AreBytes-zeros}
use Rattle.frame.specs.Pieces.{piece_count, piece_bytes, padded, IsPiece, piece_of}

pub starts_within : (n i : ℕ) → i < piece_count n → 88 * i ≤ n
unfolding piece_count
starts_within n i h = omega arith

pub one_at_least : (n : ℕ) → 0 < piece_count n
unfolding piece_count
one_at_least n = omega arith

pub few : (n : ℕ) → n ≤ 5632 → piece_count n ≤ 64
unfolding piece_count
few n h = omega arith

-- a piece that isn't the last is full
full_at : (n i : ℕ) → i + 1 < piece_count n → 88 * i + 88 ≤ n
unfolding piece_count
full_at n i h = omega arith

-- where there are two pieces or more, each has a byte
some_at : (n i : ℕ) → 1 < piece_count n → i < piece_count n → 88 * i < n
unfolding piece_count
some_at n i two h = omega arith

length-piece_bytes : (body : List ℕ) (i : ℕ) → length (piece_bytes body i) ≡ min 88 (length body - 88 * i)
unfolding piece_bytes
length-piece_bytes body i = length-take 88 (drop (88 * i) body) ∙ ap (min 88) (length-drop (88 * i) body)

length-padded : (bytes : List ℕ) → length bytes ≤ 88 → length (padded bytes) ≡ 88
unfolding padded
length-padded bytes h =
    length-append bytes (replicate (88 - length bytes) 0)
    ∙ omega (arith, length-replicate {A = ℕ} (88 - length bytes) 0)

drop-padded : (bytes : List ℕ) → drop (length bytes) (padded bytes) ≡ replicate (88 - length bytes) 0
unfolding padded
drop-padded bytes = drop_at bytes (replicate (88 - length bytes) 0) (length bytes) refl

AreBytes-piece_bytes : (body : List ℕ) (i : ℕ) → AreBytes body → AreBytes (piece_bytes body i)
unfolding piece_bytes
AreBytes-piece_bytes body i bytes = AreBytes-take 88 (drop (88 * i) body) (AreBytes-drop (88 * i) body bytes)

AreBytes-padded : (xs : List ℕ) → AreBytes xs → AreBytes (padded xs)
unfolding padded
AreBytes-padded xs bytes = AreBytes-append xs (replicate (88 - length xs) 0) bytes (AreBytes-zeros (88 - length xs))

-- a name and a number in their ranges, and bytes
pub record Ranges (from to partition message : ℕ) (body : List ℕ) : Type 0 where
  pub from_is : from < 256
  pub to_is : to < 256
  pub partition_is : partition < 256
  pub message_is : message < 2 ^ 32
  pub bytes : AreBytes body

-- what is cut is a piece
pub cut_is_piece : (from to partition message : ℕ) (body : List ℕ) (i : ℕ) → Ranges from to partition message body
    → length body ≤ 5632 → i < piece_count (length body) → IsPiece (piece_of from to partition message body i)
cut_is_piece from to partition message body i ranges short h =
    let len = length-piece_bytes body i in
    let small : length (piece_bytes body i) ≤ 88 = omega arith in
    record {
      from = ranges.from_is;
      to = ranges.to_is;
      message = ranges.message_is;
      partition = ranges.partition_is;
      within = omega arith;
      last = omega (arith, few (length body) short);
      full = λ before. omega (arith, full_at (length body) i (omega arith));
      some = λ many. omega (arith, some_at (length body) i (omega arith) h);
      used = small;
      wide = length-padded (piece_bytes body i) small;
      bytes = AreBytes-padded (piece_bytes body i) (AreBytes-piece_bytes body i ranges.bytes);
      zeros = drop-padded (piece_bytes body i);
    }
