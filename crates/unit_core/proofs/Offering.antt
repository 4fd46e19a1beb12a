-- The pieces of a turn's sends, one by one.
use Rattle.std.proofs.Common.{◌≡◌, ℕ, zero, suc, ◌+◌, ◌-◌, ◌*◌, ◌<◌, ◌≤◌, List, [], ◌∷◌, ◌++◌, length, map, Option, Result, Ok, Err, refl, sym, ap, ap₂, ◌∙◌, arith, append-nil, append_assoc, length-append}
use Rattle.std.specs.List.{range_with_len}
use Rattle.std.proofs.lemmas.List.FromFn.{length-map-range_with_len}
use Rattle.frame.specs.Pieces.{PieceView, pieces, piece_count}
use Rattle.ring_link.specs.EndView.{EndView}
use Rattle.unit_core.specs.inside.Ends.{StaysEnd}

range_next : (i n : ℕ) → i < n → range_with_len i (n - i) ≡ i ∷ range_with_len (i + 1) (n - (i + 1))
range_next i n lt = let e : n - i ≡ suc (n - (i + 1)) = omega (arith, lt) in ap (range_with_len i) e

range_none : (i n : ℕ) → n ≤ i → range_with_len i (n - i) ≡ []
range_none i n le = let e : n - i ≡ zero = omega (arith, le) in ap (range_with_len i) e

-- one more piece of a message
pub next_in_range : (f : ℕ → PieceView) (before after all : List PieceView) (x : PieceView) (i n : ℕ) → i < n → x ≡ f i
    → after ≡ before ++ x ∷ [] → before ++ map f (range_with_len i (n - i)) ≡ all
    → after ++ map f (range_with_len (i + 1) (n - (i + 1))) ≡ all
next_in_range f before after all x i n lt is more so_far =
    let rest = map f (range_with_len (i + 1) (n - (i + 1))) in
    ap (λ xs. xs ++ rest) (more ∙ ap (λ y. before ++ y ∷ []) is)
    ∙ append_assoc before (f i ∷ []) rest
    ∙ ap (λ is. before ++ map f is) (sym (range_next i n lt))
    ∙ so_far

pub end_of_range : (f : ℕ → PieceView) (before all : List PieceView) (i n : ℕ) → n ≤ i
    → before ++ map f (range_with_len i (n - i)) ≡ all → before ≡ all
end_of_range f before all i n le so_far =
    sym (append-nil before) ∙ ap (λ is. before ++ map f is) (sym (range_none i n le)) ∙ so_far

pub few_pieces : (message : List ℕ) → length message ≤ 5632 → pieces message ≤ 64
unfolding piece_count
few_pieces message short = omega (arith, short)

-- ---- an end stays the same

pub same_end : (end : EndView) → StaysEnd end end
same_end end = record { end = search; capacity = refl }

pub same_both : (a b c : EndView) → StaysEnd a b → StaysEnd b c → StaysEnd a c
same_both a b c first second = record {
  end = search;
  capacity = second.capacity ∙ first.capacity;
}
