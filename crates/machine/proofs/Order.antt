-- Messages are given in rising order, and as they were sent.
use Rattle.std.proofs.Common.{◌≡◌, ◌≢◌, ℕ, zero, suc, ◌+◌, ◌<◌, List, [], ◌∷◌, ◌++◌, ◌&&◌, length, Bool, true, false, Option, Some, None, refl, subst, ◌∙◌, inl, inr, arith}
use Rattle.std.specs.Prelude.{slice_get, not, nat_lt, filter}
use Rattle.std.specs.List.Sorted.{IsStrictlyIncreasing}
use Rattle.std.specs.List.{list_any, range_with_len, AllByRecursion}
use Rattle.std.proofs.lemmas.Bool.{or_right}
use Rattle.std.proofs.lemmas.Bool.Decides.{nat_tests}
use Rattle.levels.specs.declared.level.Party.{Party}
use Rattle.frame.specs.Pieces.{pieces}
use Rattle.events.specs.declared.event.Event.{Event}
use Rattle.machine.specs.Setup.{Setup}
use Rattle.machine.specs.Given.{has_piece, has_all, has_later}
use Rattle.machine.specs.Machine.{State, handed, gives, numbers_given, sent_by, after, state}
use Rattle.machine.proofs.Basics.{all_joined, bool_cases, in_both, found_still, all_still}

-- ---- rising lists

-- each number is greater than those before it
abbrev pub IsRising : List ℕ → Type 0
IsRising [] = Unit {0}
IsRising (j ∷ js) = AllByRecursion (λ k. j < k) js × IsRising js

pub increasing : (xs : List ℕ) → IsRising xs → IsStrictlyIncreasing xs
increasing [] is k lt = absurd (omega (arith, lt))
increasing (x ∷ []) is k lt = absurd (omega (arith, lt))
increasing (x ∷ y ∷ ys) is zero lt = is.0.0
increasing (x ∷ y ∷ ys) is (suc k) lt =
    let step : suc k + 1 ≡ suc (k + 1) = omega arith in
    rw step (increasing (y ∷ ys) is.1 k (omega (arith, lt)))

filtered : (P : ℕ → Bool) (Q : ℕ → Type 0) (xs : List ℕ) → ((j : ℕ) → P j ≡ true → Q j)
    → AllByRecursion Q (filter P xs)
filtered P Q [] holds = tt
filtered P Q (x ∷ xs) holds =
    elim (bool_cases (P x)) [
      | inl on ↦ rw on (holds x on, filtered P Q xs holds)
      | inr off ↦
          rw off (filtered P Q xs holds)
    ]

above : (P : ℕ → Bool) (j a n : ℕ) → j < a → AllByRecursion (λ k. j < k) (filter P (range_with_len a n))
above P j a zero lt = tt
above P j a (suc n) lt = let more =
    above P j (a + 1) n (omega arith) in elim (bool_cases (P a)) [
      | inl on ↦ rw on (lt, more)
      | inr off ↦
          rw off more
    ]

range_rises : (P : ℕ → Bool) (a n : ℕ) → IsRising (filter P (range_with_len a n))
range_rises P a zero = tt
range_rises P a (suc n) = elim (bool_cases (P a)) [
  | inl on ↦ rw on (above P a (a + 1) n (omega arith), range_rises P (a + 1) n)
  | inr off ↦ rw off (range_rises P (a + 1) n)
]

firsts : (x : ℕ) (xs ys : List ℕ) → AllByRecursion (λ y. AllByRecursion (λ k. k < y) (x ∷ xs)) ys
    → AllByRecursion (λ y. x < y) ys
firsts x xs [] h = tt
firsts x xs (y ∷ ys) h = (h.0.0, firsts x xs ys h.1)

rests : (x : ℕ) (xs ys : List ℕ) → AllByRecursion (λ y. AllByRecursion (λ k. k < y) (x ∷ xs)) ys
    → AllByRecursion (λ y. AllByRecursion (λ k. k < y) xs) ys
rests x xs [] h = tt
rests x xs (y ∷ ys) h = (h.0.1, rests x xs ys h.1)

joined : (xs ys : List ℕ) → IsRising xs → IsRising ys → AllByRecursion (λ y. AllByRecursion (λ k. k < y) xs) ys
    → IsRising (xs ++ ys)
joined [] ys left right older = right
joined (x ∷ xs) ys left right older =
    (all_joined (λ k. x < k) xs ys left.0 (firsts x xs ys older), joined xs ys left.1 right (rests x xs ys older))

-- what was given is whole, and stays whole
abbrev pub AllWhole : State → Party → Party → List ℕ → Type 0
AllWhole x s r js = AllByRecursion (λ j. has_all (slice_get (x.sent s r) j) (x.arrived s r) j ≡ true) js

whole_still : (before added : List (List ℕ)) (new old : List (ℕ × ℕ)) (j : ℕ) (o : Option (List ℕ))
    → slice_get before j ≡ o → has_all o old j ≡ true
    → has_all (slice_get (before ++ added) j) (new ++ old) j ≡ true
whole_still before added new old j None is h = cc
whole_still before added new old j (Some body) is h =
    rw (found_still before added j body is)
    (all_still (has_piece old j) (has_piece (new ++ old) j) (range_with_len 0 (pieces body))
    (λ i on. in_both new old j i ∙ or_right (has_piece new j i) (has_piece old j i) on) h)

all_whole_still : (m : Setup) (e : Event) (x : State) (s r : Party) (js : List ℕ) → AllWhole x s r js
    → AllWhole (after m e x) s r js
all_whole_still m e x s r [] all = tt
all_whole_still m e x s r (j ∷ js) all = (
  whole_still (x.sent s r) (sent_by m x e s r) (handed m x e s r) (x.arrived s r) j
      (slice_get (x.sent s r) j) refl all.0,
  all_whole_still m e x s r js all.1,
)

four : (a b c d : Bool) → (a && not b && not c && not d) ≡ true
    → (a ≡ true) × (b ≡ false) × (c ≡ false) × (d ≡ false)
four a b c d h = grind (arith, nat_tests)

-- a message that is given is whole, wasn't before, and none greater was given
pub parts : (m : Setup) (x : State) (e : Event) (s r : Party) (j : ℕ) → gives m x e s r j ≡ true
    → (has_all (slice_get (x.sent s r) j) (handed m x e s r ++ x.arrived s r) j ≡ true)
    × (has_all (slice_get (x.sent s r) j) (x.arrived s r) j ≡ false) × (list_any (nat_lt j) (x.given s r)
    ≡ false)
unfolding gives
parts m x e s r j h =
    let t =
    four (has_all (slice_get (x.sent s r) j) (handed m x e s r ++ x.arrived s r) j)
    (has_all (slice_get (x.sent s r) j) (x.arrived s r) j)
    (has_later (x.arrived s r) (j + m.ahead)) (list_any (nat_lt j) (x.given s r)) h in (t.0, t.1, t.3)

older : (x : State) (s r : Party) (j : ℕ) (js : List ℕ)
    → has_all (slice_get (x.sent s r) j) (x.arrived s r) j ≡ false → list_any (nat_lt j) js ≡ false
    → AllWhole x s r js
    → AllByRecursion (λ k. k < j) js
older x s r j [] not_yet none all = tt
older x s r j (k ∷ js) not_yet none all =
    let differ : k ≢ j =
    λ same. (let h : has_all (slice_get (x.sent s r) j) (x.arrived s r) j ≡ true =
    subst (λ n. has_all (slice_get (x.sent s r) n) (x.arrived s r) n ≡ true) same all.0 in cc) in
    (grind (arith, nat_tests), older x s r j js not_yet (grind (arith, nat_tests)) all.1)

pub record Given (x : State) (s r : Party) : Type 0 where
  pub rising : IsRising (x.given s r)
  pub whole : AllWhole x s r (x.given s r)

given_more : (m : Setup) (e : Event) (x : State) (s r : Party) → Given x s r → Given (after m e x) s r
given_more m e x s r is = record {
  rising =
      joined (x.given s r) (numbers_given m x e s r) is.rising
      (range_rises (gives m x e s r) 0 (length (x.sent s r)))
      (filtered (gives m x e s r) (λ j. AllByRecursion (λ k. k < j) (x.given s r))
      (range_with_len 0 (length (x.sent s r)))
      (λ j on. (let t = parts m x e s r j on in older x s r j (x.given s r) t.1 t.2 is.whole)));
  whole =
      all_joined (λ j. has_all (slice_get ((after m e x).sent s r) j) ((after m e x).arrived s r) j
      ≡ true) (x.given s r) (numbers_given m x e s r)
      (all_whole_still m e x s r (x.given s r) is.whole)
      (filtered (gives m x e s r)
      (λ j. has_all (slice_get ((after m e x).sent s r) j) ((after m e x).arrived s r) j
      ≡ true) (range_with_len 0 (length (x.sent s r)))
      (λ j on. whole_still (x.sent s r) (sent_by m x e s r) [] (handed m x e s r
      ++ x.arrived s r) j (slice_get (x.sent s r) j) refl (parts m x e s r j on).0));
}

pub given_is : (m : Setup) (past : List Event) (s r : Party) → Given (state m past) s r
given_is m [] s r = record { rising = tt; whole = tt }
given_is m (e ∷ past) s r = given_more m e (state m past) s r (given_is m past s r)
