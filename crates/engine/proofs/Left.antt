-- What is left of desks, one after another.
use Rattle.std.proofs.Common.{◌≡◌, ℕ, ◌<◌, ◌≤◌, List, [], ◌∷◌, ◌++◌, length, map, take, Bool, true, false, Option, refl, sym, ap, ◌∙◌, ◌⊎◌, inl, inr, append-nil, length-append, arith}
use Rattle.std.specs.Prelude.{nat_lt, if◌then◌else◌}
use Rattle.std.proofs.lemmas.Bool.Decides.{nat_tests}
use Rattle.std.proofs.lemmas.List.{map-append, take-append-le, take_all}
use Rattle.std.specs.Iterator.{Yields}
use Rattle.std.specs.Vec.Iter.{into_iter_items, into_iter_len, into_iter_steps}
use Rattle.std.specs.declared.vec.IntoIter.{IntoIter}
use Rattle.desk.specs.Views.{DeskView}
use Rattle.engine.specs.inside.Alone.{lines_in}
use Rattle.engine.specs.inside.Closed.{lines_left}
use Rattle.engine.proofs.Cases.{bool_cases}

-- ---- a list that is used up

front_taken : {X A : Type 0} (s : IntoIter X A) (xs : List X) (t : IntoIter X A)
    → Yields into_iter_steps s xs t → into_iter_items s ≡ xs ++ into_iter_items t
front_taken s [] t y = ap into_iter_items y
front_taken s (x ∷ xs) t y = y.1.0 ∙ ap (λ ys. x ∷ ys) (front_taken y.0 xs t y.2)

nothing_left : {A : Type 0} (xs : List A) → length xs ≡ 0 → xs ≡ []
nothing_left [] none = refl
nothing_left (x ∷ xs) none = absurd (omega (arith, none))

-- all elements were yielded once none is left
pub all_yielded : {X A : Type 0} (s : IntoIter X A) (xs : List X) (t : IntoIter X A)
    → Yields into_iter_steps s xs t → into_iter_len t ≡ 0 → into_iter_items s ≡ xs
all_yielded s xs t y none =
    front_taken s xs t y
    ∙ ap (λ rest. xs ++ rest) (nothing_left (into_iter_items t) (sym t.rest.ok.0 ∙ none))
    ∙ append-nil xs

-- ---- the lines of desks

-- the first elements of a list that is one longer
take_one : {A : Type 0} (n : ℕ) (xs : List A) (x : A)
    → take n (xs ++ x ∷ []) ≡ take n xs ++ (if nat_lt (length xs) n then x ∷ [] else [])
take_one n xs x = by (bool_cases (nat_lt (length xs) n))
  where
    by : (nat_lt (length xs) n ≡ true) ⊎ (nat_lt (length xs) n ≡ false)
        → take n (xs ++ x ∷ []) ≡ take n xs ++ (if nat_lt (length xs) n then x ∷ [] else [])
    by (inl short) =
        let lt : length xs < n = grind (arith, nat_tests) in
        rw short (take_all n (xs ++ x ∷ []) (omega (arith, lt, length-append xs (x ∷ [])))
        ∙ ap (λ ys. ys ++ x ∷ []) (sym (take_all n xs (omega (arith, lt)))))
    by (inr long) =
        let le : n ≤ length xs = grind (arith, nat_tests) in
        rw long (take-append-le n xs (x ∷ []) le ∙ sym (append-nil (take n xs)))

mapped_if : {A B : Type 0} (f : A → B) (x : A) (b : Bool)
    → map f (if b then x ∷ [] else []) ≡ (if b then f x ∷ [] else [])
mapped_if f x true = refl
mapped_if f x false = refl

-- one desk more
pub lines_one : (desks : List (Option DeskView)) (desk : Option DeskView)
    → lines_left (desks ++ desk ∷ [])
    ≡ lines_left desks ++ (if nat_lt (length desks) 256 then lines_in desk ∷ [] else [])
lines_one desks desk =
    ap (map lines_in) (take_one 256 desks desk)
    ∙ map-append lines_in (take 256 desks) (if nat_lt (length desks) 256 then desk ∷ [] else [])
    ∙ ap (λ rest. lines_left desks ++ rest) (mapped_if lines_in desk (nat_lt (length desks) 256))
