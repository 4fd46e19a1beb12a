-- The parts of a message, joined.
use Rattle.std.proofs.Common.{◌≡◌, ℕ, zero, suc, ◌+◌, ◌*◌, ◌-◌, ◌≤◌, List, [], ◌∷◌, ◌++◌, length, take, drop, refl, sym, ◌∙◌, ap, arith, take-append-drop, drop-drop}
use Rattle.std.specs.Prelude.{replicate}
use Rattle.std.specs.List.{range_with_len, flat_map}
use Rattle.std.proofs.Math.Seq.{take-append_seam}
use Rattle.frame.specs.Pieces.{piece_count, pieces, piece_bytes, padded, piece_of, used_bytes}

-- the bytes of a piece without the zeros behind them
pub each_part : (from to partition message : ℕ) (body : List ℕ) (i : ℕ)
    → used_bytes (piece_of from to partition message body i) ≡ piece_bytes body i
unfolding padded
each_part from to partition message body i =
    take-append_seam (piece_bytes body i) (replicate (88 - length (piece_bytes body i)) 0)

drop_past : (m : List ℕ) (n : ℕ) → length m ≤ n → drop n m ≡ []
drop_past [] zero le = refl
drop_past [] (suc n) le = refl
drop_past (x ∷ m) zero le = absurd (omega (arith, le))
drop_past (x ∷ m) (suc n) le = drop_past m n (omega (arith, le))

part_more : (m : List ℕ) (k : ℕ) → piece_bytes m k ++ drop (88 * (k + 1)) m ≡ drop (88 * k) m
unfolding piece_bytes
part_more m k =
    let e : 88 * (k + 1) ≡ 88 * k + 88 = omega arith in
    ap (λ n. take 88 (drop (88 * k) m) ++ drop n m) e
    ∙ ap (λ rest. take 88 (drop (88 * k) m) ++ rest) (sym (drop-drop 88 (88 * k) m))
    ∙ take-append-drop 88 (drop (88 * k) m)

-- n parts from the k-th on
parts_from : (m : List ℕ) (n k : ℕ) → length m ≤ 88 * (k + n)
    → flat_map (piece_bytes m) (range_with_len k n) ≡ drop (88 * k) m
parts_from m zero k le = sym (drop_past m (88 * k) (omega (arith, le)))
parts_from m (suc n) k le =
    ap (λ rest. piece_bytes m k ++ rest) (parts_from m n (k + 1) (omega (arith, le))) ∙ part_more m k

pub first_parts : (body : List ℕ) (n : ℕ) → length body ≤ 88 * n
    → flat_map (piece_bytes body) (range_with_len 0 n) ≡ body
first_parts body n le = parts_from body n 0 (omega (arith, le))

reach : (n : ℕ) → n ≤ 88 * piece_count n
unfolding piece_count
reach n = omega arith

pub pieces_reach : (body : List ℕ) → length body ≤ 88 * pieces body
pieces_reach body = reach (length body)
