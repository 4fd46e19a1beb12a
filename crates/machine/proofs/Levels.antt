-- The order of levels, and the levels of parties.
use Rattle.std.proofs.Common.{◌≡◌, ℕ, List, [], ◌∷◌, length, Bool, true, Option, Some, None, refl, sym, ap, ap₂, ◌∙◌, inl, inr, arith}
use Rattle.std.specs.Prelude.{filter, ◌==◌, nat_le, nat_lt, bit_and}
use Rattle.std.proofs.lemmas.Bool.Decides.{nat_tests}
use Rattle.std.proofs.lemmas.Grind.{common_steps}
use Rattle.std.proofs.lemmas.Nat.{and_assoc}
use Rattle.std.proofs.lemmas.Option.{slice_get_past}
use Rattle.levels.specs.declared.level.Level.{Level}
use Rattle.levels.specs.declared.level.Partition.{Partition}
use Rattle.levels.specs.declared.level.Party.{Party}
use Rattle.levels.specs.declared.level.Party.TheVariants.{Manager}
use Rattle.levels.specs.Order.{is_at_most}
use Rattle.levels.specs.Rosters.{RosterView, is_one_partition, is_partner, partition_of, level_at, level_of}
use Rattle.untrusted_store.specs.declared.plan.PlanRow.{PlanRow}
use Rattle.events.specs.declared.event.Event.{Event}
use Rattle.events.specs.ScriptView.{ScriptView}
use Rattle.machine.specs.Low.{place_of, is_within, is_low, low}
use Rattle.machine.specs.Replies.{are_at_most, is_below}
use Rattle.machine.proofs.Basics.{bool_cases, both}

-- a level is at or below itself
pub at_most_self : (x : Level) → is_at_most x x ≡ true
at_most_self x = grind (arith, nat_tests, common_steps)

shared : (a b c : ℕ) → bit_and a b ≡ a → bit_and b c ≡ b → bit_and a c ≡ a
shared a b c ab bc = ap (λ n. bit_and n c) (sym ab) ∙ and_assoc c a b ∙ ap (bit_and a) bc ∙ ab

pub at_most_trans : (x y z : Level) → is_at_most x y ≡ true → is_at_most y z ≡ true → is_at_most x z ≡ true
at_most_trans x y z xy yz =
    let p = both (nat_le x.rank y.rank) (bit_and x.cats y.cats == x.cats) xy in
    let q = both (nat_le y.rank z.rank) (bit_and y.cats z.cats == y.cats) yz in
    let rank : nat_le x.rank z.rank ≡ true = grind (arith, nat_tests, p.0, q.0) in
    let one : bit_and x.cats y.cats ≡ x.cats = grind (arith, nat_tests, p.1) in
    let two : bit_and y.cats z.cats ≡ y.cats = grind (arith, nat_tests, q.1) in
    rw (rank, shared x.cats y.cats z.cats one two) (grind (arith, nat_tests))

pub within_more : (o : Option Level) (own level : Level) → is_at_most own level ≡ true → is_within o own ≡ true
    → is_within o level ≡ true
within_more None own level le h = cc
within_more (Some x) own level le h = at_most_trans x own level h le

one_partition_level : (roster : RosterView) (p q : Option Partition) → is_one_partition p q ≡ true
    → level_at roster p ≡ level_at roster q
one_partition_level roster (Some p) (Some q) h = grind (arith, nat_tests)
one_partition_level roster None q h = cc
one_partition_level roster (Some p) None h = cc

-- partners have one level
pub partner_level : (roster : RosterView) (a b : Party) → is_partner roster a b ≡ true
    → level_of roster a ≡ level_of roster b
partner_level roster a b h =
    grind (arith, nat_tests, one_partition_level roster (partition_of roster a) (partition_of roster b))

pub partner_low : (roster : RosterView) (level : Level) (a b : Party) → is_partner roster a b ≡ true
    → is_low roster level b ≡ true → is_low roster level a ≡ true
partner_low roster level a b partners h = rw (partner_level roster a b partners) h

pub manager_level : (roster : RosterView) (p : ℕ)
    → level_of roster (Manager (record { 0 = p })) ≡ level_at roster (Some (record { 0 = p }))
manager_level roster p = elim (bool_cases (nat_lt p (length roster.levels))) [
  | inl inside ↦ rw inside
  | inr past ↦ rw (past, slice_get_past roster.levels p (grind (arith, nat_tests)))
]

below_within : (a b : Option Level) (level : Level) → are_at_most a b ≡ true → is_within b level ≡ true
    → is_within a level ≡ true
below_within (Some x) (Some y) level le h = at_most_trans x y level le h
below_within (Some x) None level le h = cc
below_within None b level le h = cc

-- what is below what is low is low
pub below_low : (roster : RosterView) (level : Level) (q p : ℕ) → is_below roster q p ≡ true
    → is_low roster level (Manager (record { 0 = p })) ≡ true
    → is_low roster level (Manager (record { 0 = q })) ≡ true
below_low roster level q p below h =
    ap (λ o. is_within o level) (manager_level roster q)
    ∙ below_within (level_at roster (Some (record { 0 = q }))) (level_at roster (Some (record { 0 = p }))) level
    below (sym (ap (λ o. is_within o level) (manager_level roster p)) ∙ h)

filter_twice : {A : Type 0} (P Q : A → Bool) (xs : List A) → ((x : A) → P x ≡ true → Q x ≡ true)
    → filter P (filter Q xs) ≡ filter P xs
filter_twice P Q [] more = refl
filter_twice P Q (x ∷ xs) more =
    elim (bool_cases (P x)) [
      | inl on ↦ rw (more x on, on, filter_twice P Q xs more)
      | inr off ↦ elim (bool_cases (Q x)) [
        | inl kept ↦ rw (kept, off, filter_twice P Q xs more)
        | inr lost ↦
            rw (lost, off, filter_twice P Q xs more)
      ]
    ]

-- the low part of a low part
pub low_of_low : (script : ScriptView) (own level : Level) → is_at_most own level ≡ true
    → low own (low level script) ≡ low own script
low_of_low script own level le =
    let rows =
    filter_twice (λ (row : PlanRow). is_low script.roster own (Manager row.reader))
    (λ (row : PlanRow). is_low script.roster level (Manager row.reader)) script.rows
    (λ row. within_more (level_of script.roster (Manager row.reader)) own level le) in
    let events =
    filter_twice (λ (e : Event). is_low script.roster own (place_of e))
    (λ (e : Event). is_low script.roster level (place_of e)) script.events
    (λ e. within_more (level_of script.roster (place_of e)) own level le) in
    ap₂ (λ (r : List PlanRow) (es : List Event). record { roster = script.roster; rows = r; events = es })
    rows events
