-- The desks of parties before anything was sent.
use Rattle.std.proofs.Common.{◌≡◌, ℕ, ◌+◌, ◌<◌, List, [], ◌∷◌, ◌++◌, length, true, false, Option, Some, None, refl, sym, ◌∙◌, ap, subst, inl, inr, arith}
use Rattle.std.specs.Prelude.{◌-◌, slice_get, unwrap_or, is_some, nat_lt, if◌then◌else◌}
use Rattle.std.specs.List.{flat_map}
use Rattle.std.proofs.Math.ListN.{get_or, get_or-append}
use Rattle.std.proofs.lemmas.List.{get_or-replicate, get_or_push, length-replicate}
use Rattle.std.proofs.lemmas.Option.{same_Some, slice_get_past, unwrap_or-slice_get}
use Rattle.std.proofs.lemmas.Bool.Decides.{nat_tests}
use Rattle.seal_core.specs.Sealing.{Sealer}
use Rattle.seal_core.specs.declared.KeyPair.{KeyPair}
use Rattle.levels.specs.declared.level.Partition.{Partition}
use Rattle.levels.specs.declared.level.Party.{Party}
use Rattle.levels.specs.declared.level.Party.TheVariants.{Host, Manager}
use Rattle.levels.specs.Keys.{keys_at}
use Rattle.levels.specs.Rosters.{RosterView, partition_of, is_partner}
use Rattle.frame.specs.Frames.{frame_of}
use Rattle.host_side.specs.Sending.{first_number}
use Rattle.net_side.specs.NetView.{NetView}
use Rattle.net_side.specs.Nets as net_side
use Rattle.net_side.specs.Nets.{is_among}
use Rattle.machine.specs.Setup.{Setup}
use Rattle.machine.specs.Machine.{address_of, number_of, parties, state}
use Rattle.desk.specs.Batches.{no_batches}
use Rattle.desk.specs.Views.{DeskView, no_batch}
use Rattle.desk.specs.Wires.{no_wire, messages_to, message_frames}
use Rattle.desk.specs.Deeds.{fresh, party_at}
use Rattle.desk.specs.Desks.{At}
use Rattle.engine.specs.Handed.{frames_if}
use Rattle.engine.specs.Turns.{partition_number}
use Rattle.engine.specs.States.{peer, WireIs, NetIs, Stands, kept_lines}
use Rattle.engine.specs.Slots.{slot_of, HasSlot, party_at_slot}
use Rattle.engine.specs.inside.Standing.{desk_at, IsIdleFor, SetupOf, StartsAt, DesksStand}
use Rattle.engine.proofs.Cases.{bool_cases, nat_cases}
use Rattle.engine.proofs.Giving.{none_yet}
use Rattle.engine.proofs.Partners.{ArePartnersOf}

-- ---- nothing yet

none_joined : {A B : Type 0} (xs : List A) → flat_map {X = A} {A = B} (λ x. []) xs ≡ []
none_joined [] = refl
none_joined (x ∷ xs) = none_joined xs

no_lines : (u : Party) → kept_lines u [] ≡ []
no_lines (Host a) = refl
no_lines (Manager p) = refl

nothing_to : (a : ℕ) → a < 256 → messages_to no_wire a ≡ []
nothing_to a lt = get_or-replicate 256 a [] [] lt

-- no message was sealed
pub nothing_there : (a j : ℕ) → a < 256 → message_frames no_wire a j ≡ []
nothing_there a j lt =
    ap (λ (ms : List (List (List ℕ))). unwrap_or (slice_get ms j) []) (nothing_to a lt)
    ∙ unwrap_or-slice_get [] j []

no_message : (m : Setup) (u r : Party) (a j : ℕ) → a < 256
    → message_frames no_wire a j ≡ frames_if m u r j (slice_get {X = List ℕ} [] j)
no_message m u r a j lt =
    let none : slice_get {X = List ℕ} [] j ≡ None = slice_get_past [] j (omega arith) in
    nothing_there a j lt ∙ ap (frames_if m u r j) (sym none)

nothing_sealed : (m : Setup) (u : Party) → WireIs m (state m []) [] u no_wire
nothing_sealed m u = record {
  frames = refl;
  rows = length-replicate {A = List (List (List ℕ))} 256 [];
  count = λ a lt partners. ap length (nothing_to a lt);
  messages = λ a j lt partners. no_message m u (peer m u a) a j lt;
  others = λ a lt none. nothing_to a lt;
}

-- ---- where a new desk stands

-- a party's partition has this number
partition_is : (m : Setup) (u : Party) (p : Partition) → partition_of m.roster u ≡ Some p
    → p.0 ≡ partition_number m u
partition_is m u p own = sym (ap number_of own)

-- whom u sees at an address, by its partition
seen : (m : Setup) (u : Party) (p : Partition) (a : ℕ) → partition_of m.roster u ≡ Some p
    → is_partner m.roster u (party_at p.0 a) ≡ is_partner m.roster u (peer m u a)
seen m u p a own =
    ap (λ n. is_partner m.roster u (party_at n a)) (partition_is m u p own)

net_is : (m : Setup) (u : Party) (p : Partition) (partners : List ℕ) (net : NetView)
    → partition_of m.roster u ≡ Some p → ArePartnersOf m.roster u p partners
    → net.address ≡ address_of u → net.partition ≡ p.0 → net.keys ≡ m.keys p.0
    → ((a : ℕ) → a < 256 → net_side.is_partner net a ≡ is_among partners a) → NetIs m u net
net_is m u p partners net own are address partition keys same = record {
  address = address;
  partition = partition ∙ partition_is m u p own;
  keys = keys ∙ ap m.keys (partition_is m u p own);
  partners = λ a lt. same a lt ∙ are.among a ∙ seen m u p a own;
}

stands : (m : Setup) (u : Party) (p : Partition) (keys : KeyPair) (partners : List ℕ)
    (streams : List (Option ℕ))
    → partition_of m.roster u ≡ Some p → ArePartnersOf m.roster u p partners → keys ≡ m.keys p.0
    → ((a : ℕ) → a < 256 → get_or streams a None ≡ first_number partners 0 a)
    → Stands m [] (state m []) u (fresh m.sealed keys (address_of u) p.0 streams)
stands m u p keys partners streams own are same numbers = record {
  address = refl;
  partition = partition_is m u p own;
  frame = ap (frame_of m.sealed) (same ∙ ap m.keys (partition_is m u p own));
  next = λ a lt. numbers a lt
      ∙ ap (λ b. if b then Some 0 else None) (are.among a ∙ seen m u p a own);
  told = sym (no_lines u);
  wires = nothing_sealed m u;
  ours = sym (ap length (none_joined (parties m.roster)));
  given = sym (ap length (none_joined (parties m.roster)));
  genuine = λ a lt partners. none_yet [];
}

idle : (u : Party) (desk : DeskView) → desk.batch ≡ no_batch → IsIdleFor u desk
idle (Host a) desk none = tt
idle (Manager p) desk none = none

-- what is known of a desk that was opened at an address of a partition, with these partners
pub record IsOpen (sealed : Sealer) (own_keys : KeyPair) (own_address own_partition : ℕ)
    (own_partners : List ℕ) (desk : DeskView) : Type 0 where
  pub address : desk.unit.net.address ≡ own_address
  pub partition : desk.unit.net.partition ≡ own_partition
  pub keys : desk.unit.net.keys ≡ own_keys
  pub partners : (a : ℕ) → a < 256
      → net_side.is_partner desk.unit.net a ≡ is_among own_partners a
  pub numbers : (a : ℕ) → a < 256
      → get_or desk.unit.host.streams a None ≡ first_number own_partners 0 a
  pub idle : desk.batch ≡ no_batch
  pub at : At sealed desk (fresh sealed own_keys own_address own_partition desk.unit.host.streams)
      no_batches

starts : (m : Setup) (u : Party) (p : Partition) (keys : KeyPair) (partners : List ℕ)
    (desk : DeskView) → partition_of m.roster u ≡ Some p → ArePartnersOf m.roster u p partners
    → keys ≡ m.keys p.0 → IsOpen m.sealed keys (address_of u) p.0 partners desk
    → StartsAt m u (Some desk)
starts m u p keys partners desk own are same opened = record {
  at = record {
    known = ap is_some own;
    net = net_is m u p partners desk.unit.net own are opened.address opened.partition
        (opened.keys ∙ same) opened.partners;
    st = fresh m.sealed keys (address_of u) p.0 desk.unit.host.streams;
    at = opened.at;
    is = stands m u p keys partners desk.unit.host.streams own are same opened.numbers;
  };
  idle = idle u desk opened.idle;
}

-- the same for each setup of a roster
pub starts_in : (roster : RosterView) (sealed : Sealer) (u : Party) (p : Partition) (keys : KeyPair)
    (partners : List ℕ) (desk : DeskView) → partition_of roster u ≡ Some p
    → p.0 < length roster.levels → keys_at roster p ≡ Some keys → ArePartnersOf roster u p partners
    → IsOpen sealed keys (address_of u) p.0 partners desk → (m : Setup) → SetupOf m sealed roster
    → StartsAt m u (Some desk)
starts_in roster sealed u p keys partners desk own within has_keys are opened m of =
    starts m u p keys partners desk
    (ap (λ (r : RosterView). partition_of r u) of.roster_is ∙ own)
    (subst (λ r. ArePartnersOf r u p partners) (sym of.roster_is) are)
    (same_Some keys (m.keys p.0) (sym has_keys ∙ of.keys p within))
    (subst (λ s. IsOpen s keys (address_of u) p.0 partners desk) (sym of.sealed_is) opened)

-- ---- the desks of all parties

slot_below : (u : Party) → HasSlot u → slot_of u < 512
slot_below (Host a) lt = omega (arith, lt)
slot_below (Manager p) lt = omega (arith, lt)

-- the party of a party's slot
pub party_of_slot : (u : Party) → HasSlot u → party_at_slot (slot_of u) ≡ u
party_of_slot (Host a) lt = let below : nat_lt a 256 ≡ true = grind (arith, nat_tests) in rw below refl
party_of_slot (Manager p) lt =
    let above : nat_lt (256 + p.0) 256 ≡ false = grind (arith, nat_tests) in
    let number : 256 + p.0 - 256 ≡ p.0 = omega arith in
    rw above (ap (λ n. Manager (record { 0 = n })) number)

-- in each setup of a roster the desks of the first slots are at their start
abbrev pub StartBelow : Sealer → RosterView → ℕ → List (Option DeskView) → Type 0
StartBelow sealed roster n desks = (k : ℕ) → k < n → (m : Setup) → SetupOf m sealed roster
    → StartsAt m (party_at_slot k) (desk_at desks k)

pub none_start : (sealed : Sealer) (roster : RosterView) (desks : List (Option DeskView))
    → StartBelow sealed roster 0 desks
none_start sealed roster desks = λ k lt. absurd (omega (arith, lt))

pub one_starts : (sealed : Sealer) (roster : RosterView) (n : ℕ) (desks : List (Option DeskView))
    (slot : Option DeskView) → length desks ≡ n → StartBelow sealed roster n desks
    → ((m : Setup) → SetupOf m sealed roster → StartsAt m (party_at_slot n) slot)
    → StartBelow sealed roster (n + 1) (desks ++ slot ∷ [])
one_starts sealed roster n desks slot count before here = λ k lt m of. elim (nat_cases k n) [
  | inl last ↦ subst (StartsAt m (party_at_slot k)) (sym (get_or_push desks slot None k (count ∙ sym last)))
      (subst (λ i. StartsAt m (party_at_slot i) slot) (sym last) (here m of))
  | inr earlier ↦
      let below : k < length desks = omega (arith, lt, earlier, count) in
      subst (StartsAt m (party_at_slot k)) (sym (get_or-append desks (slot ∷ []) None k below))
      (before k (omega (arith, lt, earlier)) m of)
]

-- where all desks are at their start
pub all_start : (sealed : Sealer) (roster : RosterView) (desks : List (Option DeskView))
    → StartBelow sealed roster 512 desks → (m : Setup) → SetupOf m sealed roster → DesksStand m [] desks
all_start sealed roster desks start m of =
    let each : (u : Party) → HasSlot u → StartsAt m u (desk_at desks (slot_of u)) = λ u has.
    subst (λ v. StartsAt m v (desk_at desks (slot_of u))) (party_of_slot u has)
    (start (slot_of u) (slot_below u has) m of) in
    record {
      at = λ u has. (each u has).at;
      idle = λ u has. (each u has).idle;
    }

-- each slot has a party
pub slot_has : (k : ℕ) → k < 512 → HasSlot (party_at_slot k)
slot_has k lt = elim (bool_cases (nat_lt k 256)) [
  | inl below ↦
      let host : party_at_slot k ≡ Host k = rw below refl in
      subst HasSlot (sym host) (grind (arith, nat_tests))
  | inr above ↦
      let manager : party_at_slot k ≡ Manager (record { 0 = k - 256 }) = rw above refl in
      subst HasSlot (sym manager) (grind (arith, nat_tests))
]
