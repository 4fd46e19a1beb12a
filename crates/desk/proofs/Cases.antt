-- Cases of numbers and tests.
use Rattle.std.specs.Prelude.{◌&&◌}
use Rattle.std.proofs.Common.{◌≡◌, ◌≢◌, ℕ, Bool, true, false, refl, ◌⊎◌, inl, inr, arith}

pub nat_cases : (x y : ℕ) → (x ≡ y) ⊎ (x ≢ y)
nat_cases x y = grind arith

pub bool_cases : (b : Bool) → (b ≡ true) ⊎ (b ≡ false)
bool_cases true = inl refl
bool_cases false = inr refl

-- where the second of two tests fails, not both hold
pub not_both : (b c : Bool) → c ≡ false → (b && c) ≡ false
not_both true c h = h
not_both false c h = refl

pub both_of : (b c : Bool) → (b && c) ≡ true → (b ≡ true) × (c ≡ true)
both_of true c h = (refl, h)
both_of false c h = cc
