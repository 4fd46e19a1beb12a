-- The messages with smaller numbers are let go, one quarter after another.
use Rattle.std.proofs.Common.{◌≡◌, ℕ, ◌+◌, ◌<◌, List, [], get_or, Bool, true, false, Option, Some, None, refl, sym, ◌∙◌, ap, subst, inl, inr, arith}
use Rattle.std.specs.Prelude.{◌==◌, ◌%◌, nat_lt, ◌&&◌, if◌then◌else◌}
use Rattle.std.proofs.lemmas.Bool.Decides.{nat_tests}
use Rattle.frame_pool.specs.PoolView.{PoolView}
use Rattle.frame_pool.specs.Pools.{blocks_of}
use Rattle.window.specs.inside.Quarters.{is_before, held_in, quarter_of, held, Keeps, Turns}
use Rattle.window.specs.declared.heads.Head.{Head}
use Rattle.window.specs.declared.heads.Heads.{Heads}
use Rattle.window.proofs.Rule.{bool_cases}
use Rattle.window.proofs.Quarters.{not_held}
use Rattle.window.proofs.Changes.{turns_twice}

-- in the first quarters the messages with smaller numbers are let go
pub record Dropped (old now : Heads) (before pool : PoolView) (q least : ℕ) : Type 0 where
  pub keeps : Keeps now pool
  pub turns : Turns old now before pool
  pub held : (j : ℕ) → held now pool j
      ≡ (if nat_lt (j % 4) q && nat_lt j least then [] else held old before j)

pub moved : {old a b : Heads} {before p r : PoolView} {q least : ℕ} → a ≡ b → p ≡ r → Dropped old a before p q least
    → Dropped old b before r q least
moved {old = old} {a = a} {before = before} {r = r} {q = q} {least = least} same_heads same_pool d =
    subst (λ (h : Heads). Dropped old h before r q least) same_heads
    (subst (λ (w : PoolView). Dropped old a before w q least) same_pool d)

-- what is held in a quarter has a greater number than what is let go there
drop_one : (o : Option Head) (f : ℕ → Option (List ℕ)) (j least : ℕ) → is_before least o ≡ true
    → nat_lt j least ≡ false → held_in o f j ≡ []
drop_one None f j least is above = refl
drop_one (Some head) f j least is above = not_held (Some head) f j (grind (arith, nat_tests, is, above))

keep_one : (o : Option Head) (f : ℕ → Option (List ℕ)) (j least : ℕ) → is_before least o ≡ false
    → nat_lt j least ≡ true → held_in o f j ≡ []
keep_one None f j least is below = refl
keep_one (Some head) f j least is below = not_held (Some head) f j (grind (arith, nat_tests, is, below))

at_quarter : (a : Heads) (pool : PoolView) (q j : ℕ) → j % 4 ≡ q
    → held a pool j ≡ held_in (get_or a.heads q None) (quarter_of (blocks_of pool a.owner) q) j
at_quarter a pool q j is = ap (λ n. held_in (get_or a.heads n None) (quarter_of (blocks_of pool a.owner) n) j) is

next_below : (n q : ℕ) → (n == q) ≡ false → nat_lt n (q + 1) ≡ nat_lt n q
next_below n q ne = grind (arith, nat_tests, ne)

pub drop_step : {old a b : Heads} {before p r : PoolView} {q least : ℕ} → Dropped old a before p q least → q < 4
    → is_before least (get_or a.heads q None) ≡ true → Keeps b r → Turns a b p r
    → ((j : ℕ) → held b r j ≡ (if j % 4 == q then [] else held a p j)) → Dropped old b before r (q + 1) least
drop_step {old = old} {a = a} {b = b} {before = before} {p = p} {r = r} {q = q} {least = least} d small is keeps
    turns cleared =
    record {
      keeps = keeps;
      turns = turns_twice old a b before p r d.turns turns;
      held = λ j. cleared j ∙ by_quarter j (j % 4 == q) refl;
    }
  where
    by_quarter : (j : ℕ) (here : Bool) → (j % 4 == q) ≡ here
        → (if here then [] else held a p j)
        ≡ (if nat_lt (j % 4) (q + 1) && nat_lt j least then [] else held old before j)
    by_quarter j true here =
        let at : j % 4 ≡ q = grind (arith, nat_tests, here) in
        let next : nat_lt (j % 4) (q + 1) ≡ true = grind (arith, nat_tests, at) in
        let not_yet : nat_lt (j % 4) q ≡ false = grind (arith, nat_tests, at) in
        elim (bool_cases (nat_lt j least)) [
          | inl below ↦ rw (next, below) refl
          | inr above ↦
              let own : held a p j ≡ held old before j = d.held j ∙ rw not_yet refl in
              rw (next, above) (sym (sym own ∙ at_quarter a p q j at
              ∙ drop_one (get_or a.heads q None) (quarter_of (blocks_of p a.owner) q) j least is above))
        ]
    by_quarter j false beside =
        d.held j ∙ sym (ap (λ (b : Bool). if b && nat_lt j least then [] else held old before j)
        (next_below (j % 4) q beside))

pub keep_step : {old a : Heads} {before p : PoolView} {q least : ℕ} → Dropped old a before p q least → q < 4
    → is_before least (get_or a.heads q None) ≡ false → Dropped old a before p (q + 1) least
keep_step {old = old} {a = a} {before = before} {p = p} {q = q} {least = least} d small is =
    record {
      keeps = d.keeps;
      turns = d.turns;
      held = λ j. by_quarter j (j % 4 == q) refl;
    }
  where
    by_quarter : (j : ℕ) (here : Bool) → (j % 4 == q) ≡ here
        → held a p j ≡ (if nat_lt (j % 4) (q + 1) && nat_lt j least then [] else held old before j)
    by_quarter j true here =
        let at : j % 4 ≡ q = grind (arith, nat_tests, here) in
        let next : nat_lt (j % 4) (q + 1) ≡ true = grind (arith, nat_tests, at) in
        let not_yet : nat_lt (j % 4) q ≡ false = grind (arith, nat_tests, at) in
        elim (bool_cases (nat_lt j least)) [
          | inl below ↦ rw (next, below) (at_quarter a p q j at
              ∙ keep_one (get_or a.heads q None) (quarter_of (blocks_of p a.owner) q) j least is below)
          | inr above ↦ rw (next, above) (d.held j ∙ rw not_yet refl)
        ]
    by_quarter j false beside =
        d.held j ∙ sym (ap (λ (b : Bool). if b && nat_lt j least then [] else held old before j)
        (next_below (j % 4) q beside))
