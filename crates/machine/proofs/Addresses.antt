-- Parties of a roster: their partitions, their addresses, and who is whose partner.
use Rattle.std.proofs.Common.{◌≡◌, ◌≢◌, ℕ, ◌<◌, ◌≤◌, List, length, ◌&&◌, true, false, Option, Some, None, refl, sym, ap, ◌∙◌, inl, inr, arith}
use Rattle.std.specs.Prelude.{◌==◌, not, slice_get, is_some, nat_lt}
use Rattle.std.proofs.lemmas.Bool.Decides.{nat_tests}
use Rattle.levels.specs.declared.level.Partition.{Partition}
use Rattle.levels.specs.declared.level.Party.{Party}
use Rattle.levels.specs.declared.level.Party.TheVariants.{Host, Manager}
use Rattle.levels.specs.Kept.{IsRoster}
use Rattle.levels.specs.Rosters.{RosterView, host_row, partition_of, is_same_party, is_one_partition, is_same_partition, is_partner}
use Rattle.frame.specs.Pieces.{pieces, piece_of, IsPiece}
use Rattle.events.specs.declared.event.Event.{Event}
use Rattle.events.specs.Scripts.{is_known}
use Rattle.machine.specs.Setup.{Setup}
use Rattle.machine.specs.Machine.{address_of, number_of, state}
use Rattle.machine.specs.Laws.{AreSmall}
use Rattle.machine.proofs.Basics.{bool_cases, both, same_party, own_party}
use Rattle.machine.proofs.FramesApart.{known, known_host, known_manager, one_party, in_one, is_piece, partners_of_sent}

-- the partition of a party that a roster has
there_of : (o : Option Partition) → is_some o ≡ true → (p : Partition) × (o ≡ Some p)
there_of None some = cc
there_of (Some p) some = (p, refl)

there : (roster : RosterView) (s : Party) → is_known roster s ≡ true
    → (p : Partition) × (partition_of roster s ≡ Some p)
there roster s is = there_of (partition_of roster s) is

small_in : (roster : RosterView) (s : Party) (p : Partition) → IsRoster roster
    → partition_of roster s ≡ Some p → p.0 < 16
small_in roster (Host a) p is there = (known_host roster a (host_row roster a) refl is p there).2
small_in roster (Manager q) p is there = (known_manager roster q p is there).1

pub partition_small : (roster : RosterView) (s : Party) → IsRoster roster → is_known roster s ≡ true
    → number_of (partition_of roster s) < 16
partition_small roster s is some =
    let t = there roster s some in
    let number : number_of (partition_of roster s) ≡ t.0.0 = ap number_of t.1 in
    let lt = small_in roster s t.0 is t.1 in
    omega (arith, number, lt)

pub address_small : (roster : RosterView) (s : Party) → IsRoster roster → is_known roster s ≡ true
    → address_of s < 256
address_small roster s is some = let t = there roster s some in (known roster s t.0 is t.1).address

pub host_range : (roster : RosterView) (a : ℕ) → IsRoster roster → is_known roster (Host a) ≡ true
    → (1 ≤ a) × (a ≤ 250)
host_range roster a is some =
    let t = there roster (Host a) some in
    let k = known_host roster a (host_row roster a) refl is t.0 t.1 in (k.0, k.1)

pub manager_number : (roster : RosterView) (p : Partition) → is_known roster (Manager p) ≡ true
    → number_of (partition_of roster (Manager p)) ≡ p.0
manager_number roster p some = elim (bool_cases (nat_lt p.0 (length roster.levels))) [
  | inl inside ↦ rw inside refl
  | inr past ↦ (let bad = rw past at some in cc)
]

pub one_place : (roster : RosterView) (s r : Party) → IsRoster roster → is_known roster s ≡ true
    → is_known roster r ≡ true → number_of (partition_of roster s) ≡ number_of (partition_of roster r)
    → address_of s ≡ address_of r → s ≡ r
one_place roster s r is known_s known_r number address =
    let p = there roster s known_s in
    let q = there roster r known_r in
    one_party roster s r p.0 q.0 is p.1 q.1
    (sym (ap number_of p.1) ∙ number ∙ ap number_of q.1) address

some_is : (o : Option Partition) (p : Partition) → o ≡ Some p → is_some o ≡ true
some_is o p is = ap is_some is

pub partners_known : (roster : RosterView) (s r : Party) → is_partner roster s r ≡ true
    → (is_known roster s ≡ true) × (is_known roster r ≡ true)
partners_known roster s r partners =
    let t = in_one roster s r partners in
    (ap is_some t.there, ap is_some t.there')

pub partners_same : (roster : RosterView) (s r : Party) → is_partner roster s r ≡ true
    → number_of (partition_of roster s) ≡ number_of (partition_of roster r)
partners_same roster s r partners =
    let t = in_one roster s r partners in
    ap number_of t.there ∙ t.same ∙ sym (ap number_of t.there')

pub partners_apart : (roster : RosterView) (s r : Party) → is_partner roster s r ≡ true → s ≢ r
partners_apart roster s r partners = λ same. (
    let differ = (both (not (is_same_party s r)) (is_same_partition roster s r) partners).0 in
    let own : is_same_party s r ≡ true = ap (is_same_party s) (sym same) ∙ own_party s in
    let bad = rw own at differ in cc)

number_back : (a b : ℕ) → (a == b) ≡ (b == a)
number_back a b = grind (arith, nat_tests)

party_back : (s r : Party) → is_same_party s r ≡ is_same_party r s
party_back (Host a) (Host b) = number_back a b
party_back (Manager p) (Manager q) = number_back p.0 q.0
party_back (Host a) (Manager q) = refl
party_back (Manager p) (Host b) = refl

partition_back : (o o' : Option Partition) → is_one_partition o o' ≡ is_one_partition o' o
partition_back (Some p) (Some q) = number_back p.0 q.0
partition_back None None = refl
partition_back None (Some q) = refl
partition_back (Some p) None = refl

pub partners_both : (roster : RosterView) (s r : Party)
    → is_partner roster s r ≡ is_partner roster r s
partners_both roster s r =
    ap (λ b. not b && is_same_partition roster s r) (party_back s r)
    ∙ ap (λ b. not (is_same_party r s) && b) (partition_back (partition_of roster s) (partition_of roster r))

pub are_partners : (roster : RosterView) (s r : Party) → is_known roster s ≡ true
    → is_known roster r ≡ true → s ≢ r
    → number_of (partition_of roster s) ≡ number_of (partition_of roster r)
    → is_partner roster s r ≡ true
are_partners roster s r known_s known_r differ number =
    let p = there roster s known_s in
    let q = there roster r known_r in
    let same : p.0.0 ≡ q.0.0 = sym (ap number_of p.1) ∙ number ∙ ap number_of q.1 in
    let apart : is_same_party s r ≡ false = elim (bool_cases (is_same_party s r)) [
      | inl here ↦ absurd (differ (same_party s r here))
      | inr away ↦ away
    ] in
    rw (apart, p.1, q.1) (grind (arith, nat_tests, same))

pub sent_piece : (m : Setup) (past : List Event) (s r : Party) (j i : ℕ) (body : List ℕ)
    → IsRoster m.roster → AreSmall (state m past)
    → slice_get ((state m past).sent s r) j ≡ Some body → i < pieces body
    → IsPiece (piece_of (address_of s) (address_of r) (number_of (partition_of m.roster s)) j body i)
sent_piece m past s r j i body is small sent within =
    let partners = partners_of_sent m past s r j body sent in
    let known_both = partners_known m.roster s r partners in
    let lt = partition_small m.roster s is known_both.0 in
    is_piece (address_of s) (address_of r) (number_of (partition_of m.roster s)) j body i
    (address_small m.roster s is known_both.0) (address_small m.roster r is known_both.1)
    (omega (arith, lt)) (small s r j body sent) within
