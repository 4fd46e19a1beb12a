-- Lists that are the same up to a place.
use Rattle.std.proofs.Common.{◌≡◌, ℕ, zero, suc, ◌+◌, ◌<◌, ◌≤◌, List, [], ◌∷◌, length, map, take, Some, refl, sym, ap, ap₂, ◌∙◌, inl, inr, below_more, arith}
use Rattle.std.specs.Prelude.{slice_get, ◌==◌, ◌&&◌}
use Rattle.std.specs.Bool.{Decides}
use Rattle.std.specs.Option.{option_map}
use Rattle.std.proofs.lemmas.Bool.{cases_lt, cases_order}
use Rattle.std.proofs.lemmas.Bool.Decides.{Decides-eqb, Decides-like, Decides-and}
use Rattle.std.proofs.lemmas.List.{take-map}
use Rattle.std.proofs.lemmas.Option.{slice_get_past, slice_get-map, same_Some}
use Rattle.two_worlds.specs.Comparing.{DifferFirst}

-- ---- what stands at each place makes up the list

pub same_list : {A : Type 0} (xs ys : List A) → ((k : ℕ) → slice_get xs k ≡ slice_get ys k) → xs ≡ ys
same_list [] [] same = refl
same_list [] (y ∷ ys) same = let h = same zero in cc
same_list (x ∷ xs) [] same = let h = same zero in cc
same_list (x ∷ xs) (y ∷ ys) same =
    let h = same zero in
    let head : x ≡ y = cc in
    let tail : xs ≡ ys = same_list xs ys (λ k. same (suc k)) in
    cc

-- what is the same below both ends is the same everywhere
pub same_below : {A : Type 0} (xs ys : List A) → length xs ≡ length ys
    → ((k : ℕ) → k < length xs → slice_get xs k ≡ slice_get ys k) → xs ≡ ys
same_below xs ys long same = same_list xs ys (λ k. elim (cases_lt k (length xs)) [
  | inl below ↦ same k below
  | inr past ↦ slice_get_past xs k past ∙ sym (slice_get_past ys k (omega (arith, past, long)))
])

-- ---- the beginning of a list

get_taken : {A : Type 0} (n : ℕ) (xs : List A) (i : ℕ) → i < n → slice_get (take n xs) i ≡ slice_get xs i
get_taken zero xs i lt = absurd (omega (arith, lt))
get_taken (suc n) [] i lt = refl
get_taken (suc n) (x ∷ xs) zero lt = refl
get_taken (suc n) (x ∷ xs) (suc i) lt = get_taken n xs i (omega (arith, lt))

same_before : {A : Type 0} (n : ℕ) (xs ys : List A) (i : ℕ) → take n xs ≡ take n ys → i < n
    → slice_get xs i ≡ slice_get ys i
same_before n xs ys i same lt =
    sym (get_taken n xs i lt) ∙ ap (λ zs. slice_get zs i) same ∙ get_taken n ys i lt

pub same_take : {A : Type 0} (n : ℕ) (xs ys : List A)
    → ((k : ℕ) → k < n → slice_get xs k ≡ slice_get ys k) → take n xs ≡ take n ys
same_take zero xs ys same = refl
same_take (suc n) [] [] same = refl
same_take (suc n) [] (y ∷ ys) same = let h = same zero (omega arith) in cc
same_take (suc n) (x ∷ xs) [] same = let h = same zero (omega arith) in cc
same_take (suc n) (x ∷ xs) (y ∷ ys) same =
    let h = same zero (omega arith) in
    let head : x ≡ y = cc in
    let tail : take n xs ≡ take n ys = same_take n xs ys (λ k lt. same (suc k) (omega (arith, lt))) in
    cc

-- ---- two lists differ first at one place

pub differ_once : {A : Type 0} (i j : ℕ) (xs ys : List A) → DifferFirst i xs ys → DifferFirst j xs ys → i ≡ j
differ_once i j xs ys p q = elim (cases_order i j) [
  | inl same ↦ same
  | inr (inl lt) ↦ absurd (p.there (same_before j xs ys i q.before lt))
  | inr (inr gt) ↦ absurd (q.there (same_before i xs ys j p.before gt))
]

-- what is past one end isn't what stands below the other
ended : {A : Type 0} (xs ys : List A) (n : ℕ) → length xs ≤ n → n < length ys
    → slice_get xs n ≡ slice_get ys n → ⊥
ended xs [] n past lt e = omega arith
ended [] (y ∷ ys) zero past lt e = cc
ended [] (y ∷ ys) (suc n) past lt e = ended [] ys n (omega arith) (omega (arith, lt)) e
ended (x ∷ xs) (y ∷ ys) zero past lt e = omega (arith, past)
ended (x ∷ xs) (y ∷ ys) (suc n) past lt e = ended xs ys n (omega (arith, past)) (omega (arith, lt)) e

-- one list ends where the other goes on
pub differ_at_end : {A : Type 0} (xs ys : List A) (n : ℕ)
    → ((k : ℕ) → k < n → slice_get xs k ≡ slice_get ys k) → length xs ≤ n → n < length ys
    → DifferFirst n xs ys
differ_at_end xs ys n same past lt = record {
  before = same_take n xs ys same;
  there = λ e. ended xs ys n past lt e;
}

pub differ_past_end : {A : Type 0} (xs ys : List A) (n : ℕ)
    → ((k : ℕ) → k < n → slice_get xs k ≡ slice_get ys k) → n < length xs → length ys ≤ n
    → DifferFirst n xs ys
differ_past_end xs ys n same lt past = record {
  before = same_take n xs ys same;
  there = λ e. ended ys xs n past lt (sym e);
}

-- both lists end where they were the same
pub same_to_end : {A : Type 0} (xs ys : List A) (n : ℕ)
    → ((k : ℕ) → k < n → slice_get xs k ≡ slice_get ys k) → length xs ≤ n → length ys ≤ n → xs ≡ ys
same_to_end xs ys n same past gone = same_list xs ys (λ k. elim (cases_lt k n) [
  | inl below ↦ same k below
  | inr above ↦
      slice_get_past xs k (omega (arith, above, past)) ∙ sym (slice_get_past ys k (omega (arith, above, gone)))
])

-- ---- what two functions make of two lists

made_at : {X A : Type 0} (f : X → A) (xs : List X) (n : ℕ) (x : X) → slice_get xs n ≡ Some x
    → slice_get (map f xs) n ≡ Some (f x)
made_at f xs n x there = slice_get-map f xs n ∙ ap (option_map f) there

-- they differ first where what they make does
pub differ_here : {X Y A : Type 0} (f : X → A) (g : Y → A) (xs : List X) (ys : List Y) (n : ℕ) (x : X) (y : Y)
    → ((k : ℕ) → k < n → slice_get (map f xs) k ≡ slice_get (map g ys) k)
    → slice_get xs n ≡ Some x → slice_get ys n ≡ Some y → (f x ≡ g y → ⊥)
    → DifferFirst n (map f xs) (map g ys)
differ_here f g xs ys n x y same is_x is_y apart = record {
  before = same_take n (map f xs) (map g ys) same;
  there =
      λ e. apart (same_Some (f x) (g y) (sym (made_at f xs n x is_x) ∙ e ∙ made_at g ys n y is_y));
}

pub same_one_more : {X Y A : Type 0} (f : X → A) (g : Y → A) (xs : List X) (ys : List Y) (n : ℕ) (x : X) (y : Y)
    → ((k : ℕ) → k < n → slice_get (map f xs) k ≡ slice_get (map g ys) k)
    → slice_get xs n ≡ Some x → slice_get ys n ≡ Some y → f x ≡ g y
    → (k : ℕ) → k < n + 1 → slice_get (map f xs) k ≡ slice_get (map g ys) k
same_one_more f g xs ys n x y same is_x is_y here =
    below_more (λ k. slice_get (map f xs) k ≡ slice_get (map g ys) k) n same
    (made_at f xs n x is_x ∙ ap Some here ∙ sym (made_at g ys n y is_y))

-- ---- lists of what is there

pub same_somes : {A : Type 0} (xs ys : List A) → map Some xs ≡ map Some ys → xs ≡ ys
same_somes [] [] h = refl
same_somes [] (y ∷ ys) h = cc
same_somes (x ∷ xs) [] h = cc
same_somes (x ∷ xs) (y ∷ ys) h =
    let rest : map Some xs ≡ map Some ys = cc in
    let tail : xs ≡ ys = same_somes xs ys rest in
    cc

pub differ_unwrapped : {A : Type 0} (place : ℕ) (xs ys : List A)
    → DifferFirst place (map Some xs) (map Some ys) → DifferFirst place xs ys
differ_unwrapped place xs ys h = record {
  before =
      same_somes (take place xs) (take place ys)
      (sym (take-map Some place xs) ∙ h.before ∙ take-map Some place ys);
  there =
      λ e. h.there (slice_get-map Some xs place ∙ ap (option_map Some) e ∙ sym (slice_get-map Some ys place));
}

-- ---- pairs of numbers

pub pair_decides : (p q : ℕ × ℕ) → Decides (p.0 == q.0 && p.1 == q.1) (p ≡ q)
pair_decides p q =
    Decides-like (p.0 == q.0 && p.1 == q.1) (λ h. ap₂ (λ (a b : ℕ). (a, b)) h.0 h.1)
    (λ e. (ap (λ (r : ℕ × ℕ). r.0) e, ap (λ (r : ℕ × ℕ). r.1) e))
    (Decides-and (p.0 == q.0) (p.1 == q.1) (Decides-eqb p.0 q.0) (Decides-eqb p.1 q.1))
