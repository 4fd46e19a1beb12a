-- Tests of parties.
use Rattle.std.proofs.Common.{◌≡◌, ◌≢◌, ℕ, true, false, refl, ap, inl, inr, arith}
use Rattle.std.specs.Prelude.{◌==◌}
use Rattle.std.proofs.lemmas.Bool.Decides.{nat_tests}
use Rattle.levels.specs.declared.level.Party.{Party}
use Rattle.levels.specs.declared.level.Party.TheVariants.{Host, Manager}
use Rattle.levels.specs.Rosters.{is_same_party}
use Rattle.engine.proofs.Cases.{bool_cases, yes}

is_number : (a b : ℕ) → (a == b) ≡ true → a ≡ b
is_number a b h = grind (arith, nat_tests)

-- the test holds of one party
pub same_self : (s : Party) → is_same_party s s ≡ true
same_self (Host a) = yes a a refl
same_self (Manager p) = yes p.0 p.0 refl

pub same_is : (s r : Party) → is_same_party s r ≡ true → s ≡ r
same_is (Host a) (Host b) h = ap Host (is_number a b h)
same_is (Manager p) (Manager q) h =
    ap (λ n. Manager (record { 0 = n })) (is_number p.0 q.0 h)
same_is (Host a) (Manager q) h = absurd cc
same_is (Manager p) (Host b) h = absurd cc

-- and of no two
pub other_not : (s r : Party) → s ≢ r → is_same_party s r ≡ false
other_not s r differ = elim (bool_cases (is_same_party s r)) [
  | inl same ↦ absurd (differ (same_is s r same))
  | inr other ↦ other
]
