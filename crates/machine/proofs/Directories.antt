-- Directories: what an insertion and a removal keep of the entries, their order and their number.
use Rattle.std.proofs.Common.{◌≡◌, ℕ, ◌+◌, ◌≤◌, List, [], ◌∷◌, length, Bool, true, false, Some, None, refl, sym, ap, subst, ◌∙◌, inl, inr, arith}
use Rattle.std.specs.Prelude.{is_some, if◌then◌else◌}
use Rattle.std.specs.List.{AllByRecursion}
use Rattle.std.specs.Map.{remove_entry}
use Rattle.std.specs.BTreeMap.{is_at, insert_entry}
use Rattle.std.specs.Cmp.{IsTotalOrder}
use Rattle.std.specs.Cmp.Lexicographic.{nat_list_cmp_total}
use Rattle.std.specs.declared.cmp.Ordering.{Ordering}
use Rattle.std.specs.declared.cmp.Ordering.TheVariants.{Less, Equal, Greater}
use Rattle.std.specs.Ordering.{match_ordering, is_eq, ordering_reverse}
use Rattle.std.proofs.lemmas.Map.Lookups.{exact_bytes}
use Rattle.file_calls.specs.Names.{name_cmp}
use Rattle.machine.specs.Files.{Directory, versions_of}
use Rattle.machine.proofs.Basics.{bool_cases}

-- a name with the versions of its blocks
abbrev pub Entry : Type 0
Entry = List ℕ × List ℕ

equal_names : (o : Ordering) → is_eq o ≡ true → o ≡ Equal
equal_names Less h = cc
equal_names Equal h = refl
equal_names Greater h = cc

-- what holds of all entries holds of the one that is found
pub found_entry : (P : Entry → Type 0) (names : Directory) (name versions : List ℕ)
    → AllByRecursion P names → versions_of name names ≡ Some versions → P (name, versions)
found_entry P [] name versions all is = cc
found_entry P (entry ∷ names) name versions all is =
    elim (bool_cases (is_at (name_cmp name) entry.0)) [
      | inl here ↦
          (let same : name ≡ entry.0 =
          exact_bytes name entry.0 (equal_names (name_cmp name entry.0) here) in
          let its : entry.1 ≡ versions = let t = rw here at is in cc in
          subst (λ vs. P (name, vs)) its (subst (λ n. P (n, entry.1)) (sym same) all.0))
      | inr other ↦ found_entry P names name versions all.1 (rw other at is)
    ]

-- an insertion, by where the name stands to that of the first entry
abbrev inserted_by : Ordering → Entry → Directory → List ℕ → List ℕ → Directory
inserted_by o entry names name versions =
    match_ordering o
    ((name, versions) ∷ entry ∷ names)
    ((entry.0, versions) ∷ names)
    (entry ∷ insert_entry name_cmp names name versions)

all_by : (P : Entry → Type 0) (entry : Entry) (names : Directory) (name versions : List ℕ) (o : Ordering)
    → name_cmp name entry.0 ≡ o → AllByRecursion P (entry ∷ names) → P (name, versions)
    → AllByRecursion P (insert_entry name_cmp names name versions)
    → AllByRecursion P (inserted_by o entry names name versions)
all_by P entry names name versions Less is all new more = (new, all)
all_by P entry names name versions Equal is all new more =
    (subst (λ n. P (n, versions)) (exact_bytes name entry.0 is) new, all.1)
all_by P entry names name versions Greater is all new more = (all.0, more)

pub all_inserted : (P : Entry → Type 0) (names : Directory) (name versions : List ℕ)
    → AllByRecursion P names → P (name, versions)
    → AllByRecursion P (insert_entry name_cmp names name versions)
all_inserted P [] name versions all new = (new, tt)
all_inserted P (entry ∷ names) name versions all new =
    all_by P entry names name versions (name_cmp name entry.0) refl all new
    (all_inserted P names name versions all.1 new)

pub all_removed : (P : Entry → Type 0) (names : Directory) (test : List ℕ → Bool)
    → AllByRecursion P names → AllByRecursion P (remove_entry test names)
all_removed P [] test all = tt
all_removed P (entry ∷ names) test all = elim (bool_cases (test entry.0)) [
  | inl here ↦ rw here all.1
  | inr other ↦ rw other (all.0, all_removed P names test all.1)
]

-- ---- the order of the names

abbrev pub IsAfter : List ℕ → Entry → Type 0
IsAfter name entry = name_cmp name entry.0 ≡ Less

-- each name is before those behind it
abbrev pub AreRising : Directory → Type 0
AreRising [] = Unit {0}
AreRising (entry ∷ names) = AllByRecursion (IsAfter entry.0) names × AreRising names

order : IsTotalOrder name_cmp
order = nat_list_cmp_total

all_after : (name : List ℕ) (entry : Entry) (names : Directory) → IsAfter name entry
    → AllByRecursion (IsAfter entry.0) names → AllByRecursion (IsAfter name) names
all_after name entry [] first all = tt
all_after name entry (next ∷ names) first all =
    (order.trans name entry.0 next.0 first all.0, all_after name entry names first all.1)

before_it : (name : List ℕ) (entry : Entry) → name_cmp name entry.0 ≡ Greater → name_cmp entry.0 name ≡ Less
before_it name entry is = order.antisymm entry.0 name ∙ ap ordering_reverse is

rising_by : (entry : Entry) (names : Directory) (name versions : List ℕ) (o : Ordering)
    → name_cmp name entry.0 ≡ o → AreRising (entry ∷ names)
    → AreRising (insert_entry name_cmp names name versions)
    → AreRising (inserted_by o entry names name versions)
rising_by entry names name versions Less is rising more =
    ((is, all_after name entry names is rising.0), rising)
rising_by entry names name versions Equal is rising more = rising
rising_by entry names name versions Greater is rising more =
    (all_inserted (IsAfter entry.0) names name versions rising.0 (before_it name entry is), more)

pub rising_inserted : (names : Directory) (name versions : List ℕ)
    → AreRising names → AreRising (insert_entry name_cmp names name versions)
rising_inserted [] name versions rising = (tt, tt)
rising_inserted (entry ∷ names) name versions rising =
    rising_by entry names name versions (name_cmp name entry.0) refl rising
    (rising_inserted names name versions rising.1)

pub rising_removed : (names : Directory) (test : List ℕ → Bool)
    → AreRising names → AreRising (remove_entry test names)
rising_removed [] test rising = tt
rising_removed (entry ∷ names) test rising = elim (bool_cases (test entry.0)) [
  | inl here ↦ rw here rising.1
  | inr other ↦ rw other
      (all_removed (IsAfter entry.0) names test rising.0, rising_removed names test rising.1)
]

-- ---- the number of the names

none_after : (name : List ℕ) (names : Directory) → AllByRecursion (IsAfter name) names
    → versions_of name names ≡ None
none_after name [] all = refl
none_after name (entry ∷ names) all = rw (ap is_eq all.0) (none_after name names all.1)

-- how many names there are with one that is put
abbrev pub count_with : Bool → ℕ → ℕ
count_with known count = if known then count else count + 1

one_more : (known : Bool) (count : ℕ) → count_with known count + 1 ≡ count_with known (count + 1)
one_more true count = refl
one_more false count = refl

count_by : (entry : Entry) (names : Directory) (name versions : List ℕ) (o : Ordering)
    → name_cmp name entry.0 ≡ o → AreRising (entry ∷ names)
    → length (insert_entry name_cmp names name versions)
    ≡ count_with (is_some (versions_of name names)) (length names)
    → length (inserted_by o entry names name versions)
    ≡ count_with (is_some (if is_eq o then Some entry.1 else versions_of name names))
    (length names + 1)
count_by entry names name versions Less is rising more =
    rw (none_after name names (all_after name entry names is rising.0)) (omega arith)
count_by entry names name versions Equal is rising more = omega arith
count_by entry names name versions Greater is rising more =
    let step : length (entry ∷ insert_entry name_cmp names name versions)
    ≡ length (insert_entry name_cmp names name versions) + 1 = omega arith in
    step ∙ ap (λ n. n + 1) more ∙ one_more (is_some (versions_of name names)) (length names)

pub count_inserted : (names : Directory) (name versions : List ℕ) → AreRising names
    → length (insert_entry name_cmp names name versions)
    ≡ count_with (is_some (versions_of name names)) (length names)
count_inserted [] name versions rising = refl
count_inserted (entry ∷ names) name versions rising =
    let step : length (entry ∷ names) ≡ length names + 1 = omega arith in
    count_by entry names name versions (name_cmp name entry.0) refl rising
    (count_inserted names name versions rising.1)
    ∙ ap (count_with (is_some (versions_of name (entry ∷ names)))) (sym step)

pub count_removed : (names : Directory) (test : List ℕ → Bool)
    → length (remove_entry test names) ≤ length names
count_removed [] test = omega arith
count_removed (entry ∷ names) test = elim (bool_cases (test entry.0)) [
  | inl here ↦ rw here (omega arith)
  | inr other ↦ rw other (let fewer = count_removed names test in omega (arith, fewer))
]
