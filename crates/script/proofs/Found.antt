-- What is found in lists without two elements of one key.
use Rattle.std.proofs.Common.{zero, suc, ◌≡◌, ◌≢◌, ℕ, ◌+◌, ◌<◌, ◌≤◌, Bool, true, false, ◌||◌, eqb, List, [], ◌∷◌, ◌++◌, length, Option, Some, None, refl, sym, ap, ◌∙◌, arith, inl, inr}
use Rattle.std.specs.Prelude.{slice_get, position, find, ◌==◌, is_none}
use Rattle.std.specs.List.{list_any, position_or_len, AllByRecursion}
use Rattle.std.specs.Str.{bytes_eq}
use Rattle.std.specs.Option.{option_map}
use Rattle.std.proofs.lemmas.Bool.{cases_Bool, lt-ltb, eqb-true}
use Rattle.std.proofs.lemmas.Bool.Decides.{nat_tests}
use Rattle.std.proofs.lemmas.Option.{slice_get_within}
use Rattle.std.proofs.lemmas.Slice.Eq.{bytes_eq-Decides}
use Rattle.levels.specs.declared.level.Level.{Level}
use Rattle.levels.specs.declared.rows.LevelRow.{LevelRow}
use Rattle.levels.specs.declared.rows.HostRow.{HostRow}
use Rattle.levels.specs.Rosters.{RosterView, level_named, is_taken, is_same_level, host_row}
use Rattle.levels.specs.Kept.{AreApart, IsHostRow}
use Rattle.script.specs.Text.{name_or_none}

-- an element of the first of two lists, and the first element of the second
pub get_left : {X : Type 0} (xs ys : List X) (i : ℕ) (x : X) → slice_get xs i ≡ Some x
    → slice_get (xs ++ ys) i ≡ Some x
get_left [] ys i x e = absurd cc
get_left (y ∷ xs) ys zero x e = e
get_left (y ∷ xs) ys (suc i) x e = get_left xs ys i x e

pub get_right : {X : Type 0} (xs ys : List X) (i : ℕ)
    → slice_get (xs ++ ys) (length xs + i) ≡ slice_get ys i
get_right [] ys i = ap (slice_get ys) (omega arith)
get_right (x ∷ xs) ys i = let s : suc (length xs) + i ≡ suc (length xs + i) = omega arith in
    ap (slice_get (x ∷ (xs ++ ys))) s ∙ get_right xs ys i

pub get_next : {X : Type 0} (xs : List X) (x : X) (ys : List X)
    → slice_get (xs ++ x ∷ ys) (length xs) ≡ Some x
get_next xs x ys = let s : length xs ≡ length xs + 0 = omega arith in
    ap (slice_get (xs ++ x ∷ ys)) s ∙ get_right xs (x ∷ ys) 0

-- where keys are apart, an element's key is none of those before it
pub key_fresh : {X K : Type 0} (key : X → K) (seen : List X) (x : X) (more : List X)
    → AreApart key (seen ++ x ∷ more) → (i : ℕ) (a : X) → slice_get seen i ≡ Some a → key a ≢ key x
key_fresh key seen x more apart i a here same =
    let e = apart i (length seen) a x (get_left seen (x ∷ more) i a here) (get_next seen x more)
    same in
    let lt = slice_get_within seen i a here in
    absurd (omega arith)

pub any_none : {X : Type 0} (p : X → Bool) (xs : List X)
    → ((i : ℕ) (a : X) → slice_get xs i ≡ Some a → p a ≡ false) → list_any p xs ≡ false
any_none p [] none = refl
any_none p (x ∷ xs) none = rw (none 0 x refl) (any_none p xs (λ i a here. none (suc i) a here))

find_none : {X : Type 0} (p : X → Bool) (xs : List X)
    → ((i : ℕ) (a : X) → slice_get xs i ≡ Some a → p a ≡ false) → find p xs ≡ None
find_none p [] none = refl
find_none p (x ∷ xs) none = rw (none 0 x refl) (find_none p xs (λ i a here. none (suc i) a here))

name_differs : (a b : List ℕ) → a ≢ b → bytes_eq a b ≡ false
name_differs a b ne =
    elim (cases_Bool (bytes_eq a b)) [
      | inl is ↦ absurd (ne ((bytes_eq-Decides a b).0 is))
      | inr not ↦ not
    ]

fields_same : (a b : Level) → a.rank ≡ b.rank → a.cats ≡ b.cats → a ≡ b
fields_same a b rank cats =
    ap (λ (n : ℕ). record { rank = n; cats = a.cats }) rank
    ∙ ap (λ (n : ℕ). record { rank = b.rank; cats = n }) cats

level_same : (a b : Level) → is_same_level a b ≡ true → a ≡ b
level_same a b e = fields_same a b (grind (arith, nat_tests)) (grind (arith, nat_tests))

value_differs : (a b : Level) → a ≢ b → is_same_level a b ≡ false
value_differs a b ne =
    elim (cases_Bool (is_same_level a b)) [
      | inl is ↦ absurd (ne (level_same a b is))
      | inr not ↦ not
    ]

-- a level with a name and a value of its own is not taken
pub not_taken : (roster : RosterView) (row : LevelRow) (more : List LevelRow)
    → AreApart (λ (r : LevelRow). r.name) (roster.levels ++ row ∷ more)
    → AreApart (λ (r : LevelRow). r.level) (roster.levels ++ row ∷ more)
    → is_taken roster row.name row.level ≡ false
not_taken roster row more names values =
    any_none (λ (r : LevelRow). bytes_eq r.name row.name || is_same_level r.level row.level)
    roster.levels (λ i a here.
    (let n = name_differs a.name row.name
    (key_fresh (λ (r : LevelRow). r.name) roster.levels row more names i a here) in
    let v = value_differs a.level row.level
    (key_fresh (λ (r : LevelRow). r.level) roster.levels row more values i a here) in
    rw (n, v) refl))

pub no_host_row : (roster : RosterView) (row : HostRow) (more : List HostRow)
    → AreApart (λ (r : HostRow). r.address) (roster.hosts ++ row ∷ more)
    → is_none (host_row roster row.address) ≡ true
no_host_row roster row more apart =
    rw (find_none (λ (r : HostRow). r.address == row.address) roster.hosts (λ i a here.
    (let ne = key_fresh (λ (r : HostRow). r.address) roster.hosts row more apart i a here in
    grind (arith, nat_tests)))) refl

-- a row that is found is one of a good list, and has the address
pub found_row : (n : ℕ) (hosts : List HostRow) (address : ℕ) (row : HostRow)
    → AllByRecursion (IsHostRow n) hosts → find (λ r. r.address == address) hosts ≡ Some row
    → (1 ≤ address) × (address ≤ 250)
found_row n [] address row all e = absurd cc
found_row n (first ∷ hosts) address row all e =
    elim (cases_Bool (eqb first.address address)) [
      | inl is ↦ (let same = eqb-true first.address address is in
          (omega (arith, all.0.least), omega (arith, all.0.most)))
      | inr not ↦ found_row n hosts address row all.1 (rw not at e)
    ]

-- ---- the place of a name

place_is : {X : Type 0} (p : X → Bool) (xs : List X) (i : ℕ) (x : X) → slice_get xs i ≡ Some x
    → p x ≡ true
    → ((j : ℕ) (y : X) → slice_get xs j ≡ Some y → p y ≡ true → j ≡ i) → position_or_len p xs ≡ i
place_is p [] i x here good only = absurd cc
place_is p (y ∷ xs) zero x here good only = let same : y ≡ x = cc in rw (ap p same ∙ good) refl
place_is p (y ∷ xs) (suc i) x here good only =
    elim (cases_Bool (p y)) [
      | inl is ↦ (let zero_is = only 0 y refl is in absurd (omega arith))
      | inr not ↦
          let rest = place_is p xs i x here good
          (λ j z at h. (let s = only (suc j) z at h in omega arith)) in
          rw not (omega (arith, rest))
    ]

pub position_is : {X : Type 0} (p : X → Bool) (xs : List X) (i : ℕ) (x : X)
    → slice_get xs i ≡ Some x → p x ≡ true
    → ((j : ℕ) (y : X) → slice_get xs j ≡ Some y → p y ≡ true → j ≡ i) → position p xs ≡ Some i
position_is p xs i x here good only =
    let at = place_is p xs i x here good only in
    let lt = slice_get_within xs i x here in
    rw (at, lt-ltb i (length xs) lt) refl

get_some : {X : Type 0} (xs : List X) (i : ℕ) → i < length xs → (x : X) × (slice_get xs i ≡ Some x)
get_some [] i lt = absurd (omega arith)
get_some (x ∷ xs) zero lt = (x, refl)
get_some (x ∷ xs) (suc i) lt = get_some xs i (omega arith)

-- the name of a partition names it
pub name_back : (roster : RosterView) (place : ℕ) → place < length roster.levels
    → AreApart (λ (r : LevelRow). r.name) roster.levels
    → level_named roster (name_or_none roster place) ≡ Some (record { 0 = place })
name_back roster place lt apart =
    let row = get_some roster.levels place lt in
    let name : name_or_none roster place ≡ row.0.name = rw row.1 refl in
    let test = λ (r : LevelRow). bytes_eq r.name row.0.name in
    let own = (bytes_eq-Decides row.0.name row.0.name).1 refl in
    let at = position_is test roster.levels place row.0 row.1 own
    (λ j y here good. apart j place y row.0 here row.1
    ((bytes_eq-Decides y.name row.0.name).0 good)) in
    rw name (ap (λ (o : Option ℕ). option_map (λ (n : ℕ). record { 0 = n }) o) at)

-- a row in its place is found by its name
pub name_place : (roster : RosterView) (place : ℕ) (row : LevelRow)
    → slice_get roster.levels place ≡ Some row
    → AreApart (λ (r : LevelRow). r.name) roster.levels
    → level_named roster row.name ≡ Some (record { 0 = place })
name_place roster place row here apart =
    let name : name_or_none roster place ≡ row.name = rw here refl in
    let lt = slice_get_within roster.levels place row here in
    ap (level_named roster) (sym name) ∙ name_back roster place lt apart
