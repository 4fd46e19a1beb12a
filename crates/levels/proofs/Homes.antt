-- The partition of an address, as hosts are added.
use Rattle.std.proofs.Common.{◌≡◌, ◌≢◌, ℕ, zero, suc, ◌<◌, List, [], ◌∷◌, ◌++◌, length, set, replicate, eqb, Option, Some, None, refl, ◌∙◌, inl, inr, arith}
use Rattle.std.specs.Prelude.{IfSome, find, ◌==◌, slice_index_or}
use Rattle.std.specs.Option.{option_map, option_or}
use Rattle.std.proofs.lemmas.Bool.{cases_Bool}
use Rattle.std.proofs.lemmas.Bool.Decides.{nat_tests}
use Rattle.std.proofs.lemmas.List.{get_or-set_other}
use Rattle.std.proofs.lemmas.List.Folds.{find-append}
use Rattle.std.proofs.lemmas.Grind.{get_or-set_at}
use Rattle.levels.specs.declared.level.Partition.{Partition}
use Rattle.levels.specs.declared.rows.HostRow.{HostRow}
use Rattle.std.specs.List.{AllByRecursion}
use Rattle.levels.specs.Kept.{IsHostRow}
use Rattle.levels.specs.inside.Hosts.{IsIndexed}
use Rattle.levels.proofs.Apart.{find_all}

none_further : (n i : ℕ) → slice_index_or {A = Option Partition} (replicate n None) i None ≡ None
none_further zero i = refl
none_further (suc n) zero = refl
none_further (suc n) (suc i) = none_further n i

-- room for further addresses has no partition in it
pub get_padded : (xs : List (Option Partition)) (n i : ℕ)
    → slice_index_or (xs ++ replicate n None) i None ≡ slice_index_or xs i None
get_padded [] n i = none_further n i
get_padded (x ∷ xs) n zero = refl
get_padded (x ∷ xs) n (suc i) = get_padded xs n i

or_none : (found : Option HostRow) → option_or found None ≡ found
or_none None = refl
or_none (Some row) = refl

-- one more host stands at its address
pub indexed_push : (hosts : List HostRow) (partitions : List (Option Partition)) (row : HostRow)
    → IsIndexed hosts partitions → find (λ host. host.address == row.address) hosts ≡ None
    → row.address < length partitions
    → IsIndexed (hosts ++ row ∷ []) (set partitions row.address (Some row.partition))
indexed_push hosts partitions row h new lt address =
    let both = find-append (λ (host : HostRow). host.address == address) hosts (row ∷ []) in
    elim (cases_Bool (eqb row.address address)) [
      | inl same ↦
          let e : address ≡ row.address = grind (arith, nat_tests) in
          let at = get_or-set_at partitions row.address address (Some row.partition) None e lt in
          let none : find (λ (host : HostRow). host.address == address) hosts ≡ None = rw e new in
          rw (both, none, same) at
      | inr other ↦
          let ne : address ≢ row.address = λ e. grind (arith, nat_tests) in
          let at = get_or-set_other partitions row.address address (Some row.partition) None ne in
          rw (both, other, or_none (find (λ (host : HostRow). host.address == address) hosts)) (at ∙ h address)
    ]

-- the partition of a host is one of the levels
pub home_within : (levels : ℕ) (hosts : List HostRow) (address : ℕ) → AllByRecursion (IsHostRow levels) hosts
    → IfSome (option_map (λ (host : HostRow). host.partition) (find (λ host. host.address == address) hosts))
    (λ partition. partition.0 < levels)
home_within levels hosts address all = of_row (find (λ host. host.address == address) hosts) refl
  where
    of_row : (found : Option HostRow) → find (λ (host : HostRow). host.address == address) hosts ≡ found
        → IfSome (option_map (λ (host : HostRow). host.partition) found) (λ partition. partition.0 < levels)
    of_row None e = tt {0}
    of_row (Some row) e =
        let own = find_all (IsHostRow levels) (λ host. host.address == address) hosts row all e in own.partition
