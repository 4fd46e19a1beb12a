-- A list of bytes passes the test of each.
use Rattle.std.proofs.Common.{◌≡◌, ℕ, zero, suc, ◌<◌, List, [], ◌∷◌, ◌&&◌, get_or, Bool, true, false, refl, arith}
use Rattle.std.specs.List.{list_all}
use Rattle.std.proofs.lemmas.Bool.{lt-ltb, ltb-true}
use Rattle.seal_core.specs.Blocks.{AreBytes}
use Rattle.file_calls.specs.Names.{is_byte}

each_passes : (xs : List ℕ) → ((i : ℕ) → get_or xs i 0 < 256) → list_all is_byte xs ≡ true
each_passes [] below = refl
each_passes (x ∷ xs) below =
    rw (lt-ltb x 256 (below 0)) (each_passes xs (λ i. below (suc i)))

pub bytes_pass : (xs : List ℕ) → AreBytes xs → list_all is_byte xs ≡ true
bytes_pass xs are = each_passes xs are.below

both : (a b : Bool) → (a && b) ≡ true → (a ≡ true) × (b ≡ true)
both true b passes = (refl, passes)
both false b passes = cc

each_below : (xs : List ℕ) → list_all is_byte xs ≡ true → (i : ℕ) → get_or xs i 0 < 256
each_below [] pass i = omega arith
each_below (x ∷ xs) pass zero = ltb-true x 256 (both (is_byte x) (list_all is_byte xs) pass).0
each_below (x ∷ xs) pass (suc i) = each_below xs (both (is_byte x) (list_all is_byte xs) pass).1 i

pub are_bytes : (xs : List ℕ) → list_all is_byte xs ≡ true → AreBytes xs
are_bytes xs pass = record { below = each_below xs pass }
