-- Cases of tests.
use Rattle.std.proofs.Common.{◌≡◌, ◌≢◌, ℕ, ◌&&◌, Bool, true, false, Some, None, cond, refl, sym, ap, ◌∙◌, ◌⊎◌, inl, inr, arith}
use Rattle.std.specs.Prelude.{◌==◌}
use Rattle.std.proofs.lemmas.Bool.Decides.{nat_tests}
use Rattle.levels.specs.declared.level.Party.{Party}
use Rattle.levels.specs.declared.level.Party.TheVariants.{Host, Manager}
use Rattle.levels.specs.Rosters.{is_same_party}

pub nat_cases : (x y : ℕ) → (x ≡ y) ⊎ (x ≢ y)
nat_cases x y = grind arith

pub bool_cases : (b : Bool) → (b ≡ true) ⊎ (b ≡ false)
bool_cases true = inl refl
bool_cases false = inr refl

pub not_both : (b : Bool) → b ≡ true → b ≡ false → ⊥
not_both b h g = cc

pub yes : (x y : ℕ) → x ≡ y → (x == y) ≡ true
yes x y e = grind (arith, nat_tests, e)

pub no : (x y : ℕ) → x ≢ y → (x == y) ≡ false
no x y differ = grind (arith, nat_tests, differ)

pub both : (b c : Bool) → b ≡ true → c ≡ true → (b && c) ≡ true
both b c h g = rw (h, g) refl

pub not_left : (b c : Bool) → b ≡ false → (b && c) ≡ false
not_left b c h = rw h refl

pub not_right : (b c : Bool) → c ≡ false → (b && c) ≡ false
not_right true c h = h
not_right false c h = refl

-- where a test leaves nothing, it fails
pub not_placed : {X : Type 0} (b : Bool) (x : X) → cond b (Some x) None ≡ None → b ≡ false
not_placed true x h = cc
not_placed false x h = refl

pub same_number : (a b : ℕ) → (a == b) ≡ true → a ≡ b
same_number a b h = grind (arith, nat_tests)

pub same_party : (a b : Party) → is_same_party a b ≡ true → a ≡ b
same_party (Host a) (Host b) h = ap Host (same_number a b h)
same_party (Manager p) (Manager q) h = ap (λ n. Manager (record { 0 = n })) (same_number p.0 q.0 h)
same_party (Host a) (Manager q) h = cc
same_party (Manager p) (Host b) h = cc

pub own_party : (a : Party) → is_same_party a a ≡ true
own_party (Host a) = grind (arith, nat_tests)
own_party (Manager p) = grind (arith, nat_tests)

-- parties that a test tells apart are two
pub two_parties : (a b : Party) → is_same_party a b ≡ false → a ≢ b
two_parties a b differ = λ same. not_both (is_same_party a b)
    (ap (is_same_party a) (sym same) ∙ own_party a) differ

pub other_party : (a b : Party) → a ≢ b → is_same_party a b ≡ false
other_party a b differ = elim (bool_cases (is_same_party a b)) [
  | inl here ↦ absurd (differ (same_party a b here))
  | inr away ↦ away
]

pub all_three : (a b c : Bool) → (a && b && c) ≡ true → (a ≡ true) × (b ≡ true) × (c ≡ true)
all_three true true true h = (refl, refl, refl)
all_three true true false h = cc
all_three true false c h = cc
all_three false b c h = cc

pub all_two : (a b : Bool) → (a && b) ≡ true → (a ≡ true) × (b ≡ true)
all_two true true h = (refl, refl)
all_two true false h = cc
all_two false b h = cc
