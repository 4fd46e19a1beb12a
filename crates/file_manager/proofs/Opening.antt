-- Lists that are made one element at a time.
use Rattle.std.proofs.Common.{◌≡◌, ℕ, zero, suc, ◌+◌, List, [], ◌∷◌, ◌++◌, map, take, Some, ap, add-one, arith}
use Rattle.std.specs.Prelude.{slice_get}
use Rattle.std.specs.Option.{option_map}

mapped_suc : {X Y : Type 0} (f : X → Y) (xs : List X) (i : ℕ) (y : Y) → option_map f (slice_get xs i) ≡ Some y
    → map f (take i xs) ++ y ∷ [] ≡ map f (take (suc i) xs)
mapped_suc f [] i y e = grind (arith, e)
mapped_suc f (x ∷ xs) zero y e = grind (arith, e)
mapped_suc f (x ∷ xs) (suc i) y e = ap (λ ys. f x ∷ ys) (mapped_suc f xs i y e)

pub mapped_more : {X Y : Type 0} (f : X → Y) (xs : List X) (i : ℕ) (y : Y)
    → option_map f (slice_get xs i) ≡ Some y → map f (take i xs) ++ y ∷ [] ≡ map f (take (i + 1) xs)
mapped_more f xs i y e = rw add-one (mapped_suc f xs i y e)
