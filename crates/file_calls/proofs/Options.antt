-- Options that are made step by step.
use Rattle.std.proofs.Common.{◌≡◌, ℕ, suc, List, [], ◌∷◌, length, eqb, arith, Bool, true, false, cond, Option, Some, None, refl, sym, inl, inr}
use Rattle.std.proofs.lemmas.Bool.{ne_eqb, eqb-true, cases_Bool}
use Rattle.std.specs.Prelude.{◌==◌}
use Rattle.std.specs.Option.{option_map}

-- two that give the same values are one
pub agree : {X : Type 0} (o p : Option X) → ((x : X) → o ≡ Some x → p ≡ Some x) → ((x : X) → p ≡ Some x → o ≡ Some x)
    → o ≡ p
agree None None there back = refl
agree None (Some y) there back = back y refl
agree (Some x) p there back = sym (there x refl)

-- what a value was made of
pub mapped : {X Y P : Type 0} (f : X → Y) (o : Option X) (y : Y) → option_map f o ≡ Some y
    → ((x : X) → o ≡ Some x → f x ≡ y → P) → P
mapped f None y e then = absurd cc
mapped f (Some x) y e then = then x refl cc

-- what a number chooses comes from it, or from the rest
pub at_kind : {X : Type 0} (n kind : ℕ) (own rest : Option X) (x : X) (P : Type 0) → (kind ≡ n → own ≡ Some x → P)
    → (rest ≡ Some x → P)
    → cond (kind == n) own rest ≡ Some x → P
at_kind n kind own rest x P if_own if_rest e = elim (cases_Bool (kind == n)) [
  | inl same ↦ if_own (eqb-true kind n same) (rw same at e)
  | inr other ↦ if_rest (rw other at e)
]

pub cond_some_of : {X : Type 0} (b : Bool) (o : Option X) (x : X) → cond b o None ≡ Some x → (b ≡ true) × (o ≡ Some x)
cond_some_of true o x e = (refl, e)
cond_some_of false o x e = absurd cc

pub nothing : (xs : List ℕ) → length xs ≡ 0 → xs ≡ []
nothing [] e = refl
nothing (x ∷ xs) e = absurd (omega arith)

pub two_or_more : (n : ℕ) → eqb (suc (suc n)) 1 ≡ false
two_or_more n = ne_eqb (suc (suc n)) 1 (λ e. omega (arith, e))
