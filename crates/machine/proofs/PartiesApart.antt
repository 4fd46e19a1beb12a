-- The parties of a roster are all different.
use Rattle.std.proofs.Common.{◌≡◌, ℕ, zero, suc, ◌+◌, ◌<◌, ◌≤◌, List, [], ◌∷◌, ◌++◌, length, map, Bool, true, false, Option, Some, None, refl, sym, ap, ◌∙◌, inl, inr, append-nil, arith}
use Rattle.std.specs.Prelude.{slice_get, ◌==◌, if◌then◌else◌, find, is_some, nat_lt}
use Rattle.std.specs.Option.{option_map}
use Rattle.std.proofs.lemmas.Bool.{or_left, or_right}
use Rattle.std.specs.List.{list_any, flat_map, range_with_len}
use Rattle.std.proofs.lemmas.Bool.Decides.{nat_tests}
use Rattle.std.proofs.lemmas.List.Folds.{list_any-append}
use Rattle.levels.specs.declared.level.Party.{Party}
use Rattle.levels.specs.declared.level.Party.TheVariants.{Host, Manager}
use Rattle.levels.specs.declared.rows.HostRow.{HostRow}
use Rattle.levels.specs.Kept.{AreApart, IsRoster}
use Rattle.levels.specs.Rosters.{RosterView, host_row, partition_of, is_same_party}
use Rattle.levels.specs.declared.level.Partition.{Partition}
use Rattle.events.specs.Scripts.{is_known}
use Rattle.machine.specs.Machine.{parties}
use Rattle.machine.proofs.Basics.{bool_cases, same_party}

abbrev pub is_in : Party → List Party → Bool
is_in s ts = list_any (λ t. is_same_party t s) ts

abbrev pub Apart : List Party → Type 0
Apart [] = Unit {0}
Apart (t ∷ ts) = (is_in t ts ≡ false) × Apart ts

not_in : {A : Type 0} (s : Party) (g : Party → List A) (ts : List Party) → is_in s ts ≡ false
    → flat_map (λ t. if is_same_party t s then g t else []) ts ≡ []
not_in s g [] none = refl
not_in s g (t ∷ ts) none = elim (bool_cases (is_same_party t s)) [
  | inl here ↦ (let bad = rw here at none in cc)
  | inr other ↦ rw other (not_in s g ts (rw other at none))
]

-- of different parties one at most is this one
pub only_one : {A : Type 0} (s : Party) (g : Party → List A) (ts : List Party) → Apart ts → is_in s ts ≡ true
    → flat_map (λ t. if is_same_party t s then g t else []) ts ≡ g s
only_one s g [] apart some = cc
only_one s g (t ∷ ts) apart some =
    elim (bool_cases (is_same_party t s)) [
      | inl here ↦ (let same : t ≡ s = same_party t s here in
          let none : is_in s ts ≡ false = sym (ap (λ a. is_in a ts) same) ∙ apart.0 in
          rw (here, not_in s g ts none) (append-nil (g t) ∙ ap g same))
      | inr other ↦ rw other (only_one s g ts apart.1 (rw other at some))
    ]

pub none_there : {A : Type 0} (s : Party) (g : Party → List A) (ts : List Party) → is_in s ts ≡ false
    → flat_map (λ t. if is_same_party t s then g t else []) ts ≡ []
none_there s g ts none = not_in s g ts none

abbrev host : HostRow → Party
host row = Host row.address

abbrev manager : ℕ → Party
manager p = Manager (record { 0 = p })

-- the row of an address that a list has
row_of : (a : ℕ) (rows : List HostRow) → is_in (Host a) (map host rows) ≡ true
    → (k : ℕ) × (row : HostRow) × (slice_get rows k ≡ Some row) × (row.address ≡ a)
row_of a [] h = cc
row_of a (row ∷ rows) h =
    elim (bool_cases (row.address == a)) [
      | inl here ↦ (0, row, refl, grind (arith, nat_tests))
      | inr other ↦ (let t = row_of a rows (rw other at h) in (suc t.0, t.1, t.2, t.3))
    ]

later_apart : (row : HostRow) (rows : List HostRow) → AreApart (λ (r : HostRow). r.address) (row ∷ rows)
    → AreApart (λ (r : HostRow). r.address) rows
later_apart row rows apart =
    λ i j a b at_i at_j same. (let e = apart (suc i) (suc j) a b at_i at_j same in omega (arith, e))

no_host : (a : ℕ) (ps : List ℕ) → is_in (Host a) (map manager ps) ≡ false
no_host a [] = refl
no_host a (p ∷ ps) = no_host a ps

no_manager : (p a n : ℕ) → p < a → is_in (manager p) (map manager (range_with_len a n)) ≡ false
no_manager p a zero lt = refl
no_manager p a (suc n) lt = let more = no_manager p (a + 1) n (omega arith) in grind (arith, nat_tests)

managers_apart : (a n : ℕ) → Apart (map manager (range_with_len a n))
managers_apart a zero = tt
managers_apart a (suc n) = (no_manager a (a + 1) n (omega arith), managers_apart (a + 1) n)

not_again : (row : HostRow) (rows : List HostRow) → AreApart (λ (r : HostRow). r.address) (row ∷ rows)
    → is_in (Host row.address) (map host rows) ≡ false
not_again row rows apart =
    elim (bool_cases (is_in (Host row.address) (map host rows))) [
      | inl there ↦
          (let t = row_of row.address rows there in let e : 0 ≡ suc t.0 =
          apart 0 (suc t.0) row t.1 refl t.2 (sym t.3) in absurd (omega (arith, e)))
      | inr none ↦ none
    ]

all_apart : (rows : List HostRow) (n : ℕ) → AreApart (λ (r : HostRow). r.address) rows
    → Apart (map host rows ++ map manager (range_with_len 0 n))
all_apart [] n apart = managers_apart 0 n
all_apart (row ∷ rows) n apart = (
  list_any-append (λ (t : Party). is_same_party t (Host row.address)) (map host rows)
      (map manager (range_with_len 0 n)) ∙ rw (not_again row rows apart, no_host row.address (range_with_len 0 n)),
  all_apart rows n (later_apart row rows apart),
)

pub parties_apart : (roster : RosterView) → IsRoster roster → Apart (parties roster)
parties_apart roster is = all_apart roster.hosts (length roster.levels) is.addresses_apart

-- ---- a party of the roster is in the list

is_some-option_map : (o : Option HostRow) → is_some (option_map (λ (row : HostRow). row.partition) o) ≡ is_some o
is_some-option_map None = refl
is_some-option_map (Some row) = refl

host_in : (a : ℕ) (rows : List HostRow) (o : Option HostRow) → find (λ (row : HostRow). row.address == a) rows ≡ o
    → is_some o ≡ true → is_in (Host a) (map host rows) ≡ true
host_in a [] o is some = let none : is_some o ≡ false = ap is_some (sym is) in cc
host_in a (row ∷ rows) o is some = elim (bool_cases (row.address == a)) [
  | inl here ↦ rw here refl
  | inr other ↦ rw other (host_in a rows o (rw other at is) some)
]

manager_in : (p a n : ℕ) → a ≤ p → p < a + n → is_in (manager p) (map manager (range_with_len a n)) ≡ true
manager_in p a zero least most = absurd (omega (arith, least, most))
manager_in p a (suc n) least most = elim (bool_cases (a == p)) [
  | inl here ↦ rw here refl
  | inr other ↦
      (let more : a + 1 ≤ p = grind (arith, nat_tests) in
      rw other (manager_in p (a + 1) n more (omega (arith, most))))
]

known_in : (roster : RosterView) (s : Party) (o : Option Partition) → partition_of roster s ≡ o → is_some o ≡ true
    → is_in s (parties roster) ≡ true
known_in roster (Host a) o is some =
    let there : is_some (host_row roster a) ≡ true =
    sym (is_some-option_map (host_row roster a)) ∙ ap is_some is ∙ some in
    list_any-append (λ (t : Party). is_same_party t (Host a)) (map host roster.hosts)
    (map manager (range_with_len 0 (length roster.levels)))
    ∙ or_left (is_in (Host a) (map host roster.hosts))
    (is_in (Host a) (map manager (range_with_len 0 (length roster.levels))))
    (host_in a roster.hosts (host_row roster a) refl there)
known_in roster (Manager q) o is some = elim (bool_cases (nat_lt q.0 (length roster.levels))) [
  | inl inside ↦
      list_any-append (λ (t : Party). is_same_party t (Manager q)) (map host roster.hosts)
      (map manager (range_with_len 0 (length roster.levels)))
      ∙ or_right (is_in (Manager q) (map host roster.hosts))
      (is_in (Manager q) (map manager (range_with_len 0 (length roster.levels))))
      (manager_in q.0 0 (length roster.levels) (omega arith) (grind (arith, nat_tests)))
  | inr past ↦ (let none = rw past at is in let bad : is_some o ≡ false = ap is_some (sym none) in cc)
]

-- a party that a roster has is one of its parties
pub known_there : (roster : RosterView) (s : Party) → is_known roster s ≡ true → is_in s (parties roster) ≡ true
known_there roster s known = known_in roster s (partition_of roster s) refl known
