-- Who is at an address, as the unit of a party sees it.
use Rattle.std.proofs.Common.{◌≡◌, ℕ, ◌<◌, true, false, refl, sym, ap, ◌∙◌, inl, inr, arith}
use Rattle.std.specs.Prelude.{◌==◌}
use Rattle.std.proofs.lemmas.Bool.Decides.{nat_tests}
use Rattle.levels.specs.declared.level.Partition.{Partition}
use Rattle.levels.specs.declared.level.Party.{Party}
use Rattle.levels.specs.declared.level.Party.TheVariants.{Host, Manager}
use Rattle.levels.specs.Kept.{IsRoster}
use Rattle.levels.specs.Rosters.{RosterView, partition_of, is_partner}
use Rattle.events.specs.Scripts.{is_known}
use Rattle.machine.specs.Setup.{Setup}
use Rattle.machine.specs.Machine.{address_of, number_of}
use Rattle.desk.specs.Deeds.{party_at, address_in}
use Rattle.engine.specs.Turns.{partition_number}
use Rattle.engine.specs.States.{peer}
use Rattle.engine.proofs.Cases.{bool_cases, nat_cases, yes, no}
use Rattle.engine.specs.inside.Facts.{Laws}

-- a party is at its address in its partition
pub party_back : Laws → (roster : RosterView) (s : Party) → IsRoster roster → is_known roster s ≡ true
    → party_at (number_of (partition_of roster s)) (address_of s) ≡ s
party_back laws roster (Host a) is known =
    let range = laws.host roster a is known in
    let some : (a == 0) ≡ false = no a 0 (λ e. absurd (omega (arith, e, range))) in
    rw some refl
party_back laws roster (Manager p) is known =
    ap (λ n. Manager (record { 0 = n })) (laws.manager roster p known)

-- a partner is at its address, as u sees it
pub peer_is : Laws → (m : Setup) (u s : Party) → IsRoster m.roster → is_partner m.roster u s ≡ true
    → peer m u (address_of s) ≡ s
peer_is laws m u s is partners =
    let known = laws.both_known m.roster u s partners in
    ap (λ p. party_at p (address_of s)) (laws.one_partition m.roster u s partners)
    ∙ party_back laws m.roster s is known.1

address_of_peer : (p a : ℕ) → address_of (party_at p a) ≡ a
address_of_peer p a = elim (nat_cases a 0) [
  | inl none ↦ rw (yes a 0 none) (sym none)
  | inr some ↦ rw (no a 0 some) refl
]

-- the address of whom u sees at an address
pub peer_address : (m : Setup) (u : Party) (a : ℕ) → address_of (peer m u a) ≡ a
peer_address m u a = address_of_peer (partition_number m u) a

-- no one has the address 255
nobody : Laws → (m : Setup) (u : Party) → IsRoster m.roster
    → is_partner m.roster u (peer m u 255) ≡ false
nobody laws m u is = elim (bool_cases (is_partner m.roster u (Host 255))) [
  | inl there ↦
      (let known = (laws.both_known m.roster u (Host 255) there).1 in
      let range = laws.host m.roster 255 is known in absurd (omega (arith, range)))
  | inr none ↦ none
]

-- a party that isn't in the partition of u is none of its partners
other_partition : Laws → (m : Setup) (u : Party) (q : Partition)
    → (q.0 == partition_number m u) ≡ false → is_partner m.roster u (Manager q) ≡ false
other_partition laws m u q other = elim (bool_cases (is_partner m.roster u (Manager q))) [
  | inl there ↦
      (let known = (laws.both_known m.roster u (Manager q) there).1 in
      let same = laws.one_partition m.roster u (Manager q) there ∙ laws.manager m.roster q known in
      let bad : (q.0 == partition_number m u) ≡ true = yes q.0 (partition_number m u) (sym same) in cc)
  | inr none ↦ none
]

-- whom u sees at the address of a party is that party, or neither is a partner
pub seen_at : Laws → (m : Setup) (u to : Party) → IsRoster m.roster → is_known m.roster to ≡ true
    → is_partner m.roster u (peer m u (address_in (partition_number m u) to))
    ≡ is_partner m.roster u to
seen_at laws m u (Host a) is known =
    let range = laws.host m.roster a is known in
    let some : (a == 0) ≡ false = no a 0 (λ e. absurd (omega (arith, e, range))) in
    rw some refl
seen_at laws m u (Manager q) is known = elim (bool_cases (q.0 == partition_number m u)) [
  | inl own ↦
      (let number : q.0 ≡ partition_number m u = grind (arith, nat_tests) in
      rw own (ap (λ n. is_partner m.roster u (Manager (record { 0 = n }))) (sym number)))
  | inr other ↦ rw other (nobody laws m u is ∙ sym (other_partition laws m u q other))
]

-- the address of a partner
pub partner_address : Laws → (m : Setup) (u to : Party) → is_partner m.roster u to ≡ true
    → address_in (partition_number m u) to ≡ address_of to
partner_address laws m u (Host a) partners = refl
partner_address laws m u (Manager q) partners =
    let known = (laws.both_known m.roster u (Manager q) partners).1 in
    let same = laws.one_partition m.roster u (Manager q) partners ∙ laws.manager m.roster q known in
    rw (yes q.0 (partition_number m u) (sym same)) refl

pub address_below : Laws → (m : Setup) (u to : Party) → IsRoster m.roster → is_known m.roster to ≡ true
    → address_in (partition_number m u) to < 256
address_below laws m u (Host a) is known = laws.address m.roster (Host a) is known
address_below laws m u (Manager q) is known = elim (bool_cases (q.0 == partition_number m u)) [
  | inl own ↦ rw own (omega arith)
  | inr other ↦ rw other (omega arith)
]
