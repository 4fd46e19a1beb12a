-- What each event does to the desks of all parties.
use Rattle.std.proofs.Common.{◌≡◌, ◌≢◌, ℕ, ◌+◌, ◌<◌, ◌≤◌, List, ◌∷◌, ◌++◌, ◌&&◌, length, Bool, true, false, Option, Some, None, refl, sym, ap, subst, ◌∙◌, ◌⊎◌, inl, inr, arith}
use Rattle.std.specs.Prelude.{◌==◌, not, if◌then◌else◌}
use Rattle.levels.specs.declared.level.Partition.{Partition}
use Rattle.levels.specs.declared.level.Party.{Party}
use Rattle.levels.specs.declared.level.Party.TheVariants.{Host, Manager}
use Rattle.levels.specs.Rosters.{is_same_party}
use Rattle.events.specs.declared.event.Event.{Event}
use Rattle.machine.specs.Setup.{Setup}
use Rattle.machine.specs.Low.{place_of}
use Rattle.planned_files.specs.FilesView.{FilesView}
use Rattle.planned_files.specs.Standing as planned
use Rattle.machine.specs.Machine.{State, given_to, calls_to, calls_by, state}
use Rattle.machine.specs.Wire.{wire}
use Rattle.machine.specs.Laws.{HandsNothing}
use Rattle.desk.specs.Batches.{Batch, Batches, nothing, has_send, flush, flush_where, join_or_flush, join_or_flush_send}
use Rattle.desk.specs.Views.{BatchView, DeskView}
use Rattle.desk.specs.Deeds.{DeskState, says, outgoing, did, does, hearings}
use Rattle.desk.specs.Desks.{At, same}
use Rattle.engine.specs.Handed.{handed_frames}
use Rattle.engine.specs.Slots.{slot_of, HasSlot}
use Rattle.engine.specs.Turns.{partition_number, batches}
use Rattle.engine.specs.States.{NetIs, Stands, frames_by}
use Rattle.engine.specs.inside.Facts.{Laws, Fits}
use Rattle.engine.specs.inside.Standing.{desk_at, SlotAt, SlotIdle, DesksStand, SlotMoves, SlotSays, SlotHears, SlotSilent, SlotOpen, readied, Readied, Flushed, NetworkStands}
use Rattle.engine.specs.inside.Events.{IsSend, Joins, IsJoin, AreSomething, IsAlone}
use Rattle.engine.proofs.Cases.{bool_cases, own_party, same_party, two_parties, other_party}
use Rattle.engine.proofs.Handing.{hears_event}
use Rattle.engine.proofs.Stepping.{stands_elsewhere, stands_at_host}
use Rattle.engine.proofs.Sending.{host_sends}
use Rattle.engine.proofs.Slotting.{slot_moves, slot_stays, slot_hears, idle_batch, idle_flush, unit_partition}

party_cases : (a b : Party) → (a ≡ b) ⊎ (a ≢ b)
party_cases a b = elim (bool_cases (is_same_party a b)) [
  | inl here ↦ inl (same_party a b here)
  | inr away ↦ inr (two_parties a b away)
]

-- two parties have two slots
pub slots_differ : (u v : Party) → HasSlot u → HasSlot v → u ≢ v → slot_of u ≢ slot_of v
slots_differ (Host a) (Host b) lt lt' differ = λ same. differ (ap Host same)
slots_differ (Manager p) (Manager q) lt lt' differ =
    λ same. differ (ap (λ n. Manager (record { 0 = n })) (let e : p.0 ≡ q.0 = omega (arith, same) in e))
slots_differ (Host a) (Manager q) lt lt' differ = λ same. absurd (omega (arith, lt, same))
slots_differ (Manager p) (Host b) lt lt' differ = λ same. absurd (omega (arith, lt', same))

-- what is where the machine is, at a party
abbrev IsAt : Setup → List Event → Party → Option DeskView → Type 0
IsAt m past u slot = SlotAt m u (batches m past u) (Stands m past (state m past) u) slot

-- ---- a send

slot_says : (m : Setup) (u to : Party) (message : List ℕ) (b : Batches) (P Q : DeskState → Type 0)
    (old new : Option DeskView) → SlotSays m.sealed to message old new
    → ((st : DeskState) → P st → st.partition ≡ partition_number m u)
    → ((st : DeskState) → P st → Q (did st (says to message)))
    → SlotAt m u b P old
    → SlotAt m u (join_or_flush_send (outgoing (partition_number m u) to message) b) Q new
slot_says m u to message b P Q None None moves where_it keeps at = at
slot_says m u to message b P Q None (Some new) moves where_it keeps at = absurd moves
slot_says m u to message b P Q (Some old) None moves where_it keeps at = absurd moves
slot_says m u to message b P Q (Some old) (Some new) moves where_it keeps at =
    let number : old.unit.host.partition ≡ partition_number m u =
    unit_partition m.sealed old at.st b at.at ∙ where_it at.st at.is in
    record {
      known = at.known;
      net = subst (NetIs m u) (sym moves.net) at.net;
      st = did at.st (says to message);
      at = subst (λ p. At m.sealed new (did at.st (says to message))
          (join_or_flush_send (outgoing p to message) b)) number (moves.at at.st b at.at);
      is = keeps at.st at.is;
    }

pub all_after_send : Laws → (m : Setup) (past : List Event) (e : Event) (a : ℕ) (to : Party)
    (message : List ℕ) (old new : List (Option DeskView)) → Fits m past → a < 256
    → IsSend m e a to message → Joins m (state m past) e a to message
    → HandsNothing m (state m past) e (Host a)
    → SlotSays m.sealed to message (desk_at old a) (desk_at new a)
    → ((k : ℕ) → k ≢ a → desk_at new k ≡ desk_at old k)
    → DesksStand m past old → DesksStand m (e ∷ past) new
all_after_send laws m past e a to message old new fits lt is joins none says_it others stands = record {
  at = λ u has. at u has (party_cases (Host a) u);
  idle = λ u has. idle u has;
}
  where
    at : (u : Party) → HasSlot u → ((Host a) ≡ u) ⊎ ((Host a) ≢ u)
        → IsAt m (e ∷ past) u (desk_at new (slot_of u))
    at u has (inl here) =
        subst (λ v. IsAt m (e ∷ past) v (desk_at new (slot_of v))) here
        (subst (λ b. SlotAt m (Host a) b (Stands m (e ∷ past) (state m (e ∷ past)) (Host a))
        (desk_at new a))
        (sym (joins (Host a) (batches m past (Host a))
        ∙ (let own = own_party (Host a) in rw own refl)))
        (slot_says m (Host a) to message (batches m past (Host a))
        (Stands m past (state m past) (Host a)) (Stands m (e ∷ past) (state m (e ∷ past)) (Host a))
        (desk_at old a) (desk_at new a) says_it (λ st p. p.partition)
        (λ st p. host_sends laws m past e a to message st fits is none p) (stands.at (Host a) lt)))
    at u has (inr away) =
        let apart : slot_of u ≢ a = slots_differ u (Host a) has lt (λ same. away (sym same)) in
        let other : is_same_party (Host a) u ≡ false = other_party (Host a) u away in
        let place : is_same_party (place_of e) u ≡ false = ap (λ v. is_same_party v u) is.place ∙ other in
        subst (IsAt m (e ∷ past) u) (sym (others (slot_of u) apart))
        (slot_stays m u (batches m past u) (batches m (e ∷ past) u) (Stands m past (state m past) u)
        (Stands m (e ∷ past) (state m (e ∷ past)) u) (desk_at old (slot_of u))
        (joins u (batches m past u) ∙ rw other refl)
        (λ st p. stands_elsewhere laws m past e u st place p) (stands.at u has))

    idle : (u : Party) → HasSlot u → SlotIdle u (desk_at new (slot_of u))
    idle (Host b) has = host_idle b (desk_at new b)
      where
        host_idle : (b : ℕ) (slot : Option DeskView) → SlotIdle (Host b) slot
        host_idle b None = tt
        host_idle b (Some desk) = tt
    idle (Manager p) has =
        subst (SlotIdle (Manager p))
        (sym (others (256 + p.0) (λ same. absurd (omega (arith, lt, same)))))
        (stands.idle (Manager p) has)

host_idle : (b : ℕ) (slot : Option DeskView) → SlotIdle (Host b) slot
host_idle b None = tt
host_idle b (Some desk) = tt

-- ---- frames that join the batch of a host

silent_if_idle : (slot : Option DeskView) → (p : ℕ) → SlotIdle (Manager (record { 0 = p })) slot
    → SlotSilent slot
silent_if_idle None p idle = tt
silent_if_idle (Some desk) p idle = ap (λ (b : BatchView). b.sends) idle

-- a host's batch is flushed where it has a send
pub host_readied : (m : Setup) (past : List Event) (a : ℕ) (old new : List (Option DeskView))
    → a < 256
    → SlotMoves m.sealed same (λ b. flush_where (has_send b) b) (desk_at old a) (desk_at new a)
    → SlotSilent (desk_at new a) → ((k : ℕ) → k ≢ a → desk_at new k ≡ desk_at old k)
    → DesksStand m past old → Readied m past (Host a) new
host_readied m past a old new lt moves silent others stands = record {
  at = λ u has. at u has (party_cases (Host a) u);
  idle = λ u has. idle u has;
  silent = silent;
}
  where
    at : (u : Party) → HasSlot u → ((Host a) ≡ u) ⊎ ((Host a) ≢ u)
        → SlotAt m u (readied (Host a) u (batches m past u)) (Stands m past (state m past) u)
        (desk_at new (slot_of u))
    at u has (inl here) =
        subst (λ v. SlotAt m v (readied (Host a) v (batches m past v)) (Stands m past (state m past) v)
        (desk_at new (slot_of v))) here
        (subst (λ b. SlotAt m (Host a) b (Stands m past (state m past) (Host a)) (desk_at new a))
        (ap (λ t. flush_where (t && has_send (batches m past (Host a))) (batches m past (Host a)))
        (sym (own_party (Host a))))
        (slot_moves m (Host a) (batches m past (Host a)) (Stands m past (state m past) (Host a))
        (Stands m past (state m past) (Host a)) same (λ b. flush_where (has_send b) b)
        (desk_at old a) (desk_at new a) moves (λ st p. p) (stands.at (Host a) lt)))
    at u has (inr away) =
        let other : is_same_party (Host a) u ≡ false = other_party (Host a) u away in
        subst (SlotAt m u (readied (Host a) u (batches m past u)) (Stands m past (state m past) u))
        (sym (others (slot_of u) (slots_differ u (Host a) has lt (λ same. away (sym same)))))
        (slot_stays m u (batches m past u) (readied (Host a) u (batches m past u))
        (Stands m past (state m past) u) (Stands m past (state m past) u) (desk_at old (slot_of u))
        (rw other refl) (λ st p. p) (stands.at u has))

    idle : (u : Party) → HasSlot u → SlotIdle u (desk_at new (slot_of u))
    idle (Host b) has = host_idle b (desk_at new b)
    idle (Manager p) has =
        subst (SlotIdle (Manager p)) (sym (others (256 + p.0) (λ same. absurd (omega (arith, lt, same)))))
        (stands.idle (Manager p) has)

-- a manager unit has nothing to flush
pub manager_readied : (m : Setup) (past : List Event) (p : Partition)
    (desks : List (Option DeskView)) → HasSlot (Manager p) → DesksStand m past desks
    → Readied m past (Manager p) desks
manager_readied m past p desks has_p stands = record {
  at = λ u has. at u has (party_cases (Manager p) u);
  idle = stands.idle;
  silent = silent_if_idle (desk_at desks (256 + p.0)) p.0 (stands.idle (Manager p) has_p);
}
  where
    no_send_open : (b : Batches) → b.batch ≡ nothing → has_send b ≡ false
    no_send_open b none = ap (λ (c : Batch). not (length c.sends == 0)) none

    own : (slot : Option DeskView) → SlotIdle (Manager p) slot
        → SlotAt m (Manager p) (batches m past (Manager p)) (Stands m past (state m past) (Manager p)) slot
        → SlotAt m (Manager p) (readied (Manager p) (Manager p) (batches m past (Manager p)))
        (Stands m past (state m past) (Manager p)) slot
    own None idle at = at
    own (Some desk) idle at =
        let b = batches m past (Manager p) in
        let none = no_send_open b (idle_batch m.sealed desk at.st b idle at.at) in
        slot_stays m (Manager p) b (readied (Manager p) (Manager p) b)
        (Stands m past (state m past) (Manager p)) (Stands m past (state m past) (Manager p)) (Some desk)
        (ap (λ t. flush_where (is_same_party (Manager p) (Manager p) && t) b) none
        ∙ no_flush (is_same_party (Manager p) (Manager p)) b) (λ st q. q) at
      where
        no_flush : (t : Bool) (b : Batches) → flush_where (t && false) b ≡ b
        no_flush true b = refl
        no_flush false b = refl

    at : (u : Party) → HasSlot u → ((Manager p) ≡ u) ⊎ ((Manager p) ≢ u)
        → SlotAt m u (readied (Manager p) u (batches m past u)) (Stands m past (state m past) u)
        (desk_at desks (slot_of u))
    at u has (inl here) =
        subst (λ v. SlotAt m v (readied (Manager p) v (batches m past v)) (Stands m past (state m past) v)
        (desk_at desks (slot_of v))) here
        (own (desk_at desks (256 + p.0)) (stands.idle (Manager p) has_p) (stands.at (Manager p) has_p))
    at u has (inr away) =
        let other : is_same_party (Manager p) u ≡ false = other_party (Manager p) u away in
        slot_stays m u (batches m past u) (readied (Manager p) u (batches m past u))
        (Stands m past (state m past) u) (Stands m past (state m past) u) (desk_at desks (slot_of u))
        (rw other refl) (λ st q. q) (stands.at u has)

pub all_after_join : Laws → (m : Setup) (past : List Event) (e : Event) (from : Party) (a : ℕ)
    (mid new : List (Option DeskView)) → Fits m past → a < 256
    → IsJoin m (state m past) e from a → AreSomething m past e
    → Readied m past from mid
    → SlotHears m.sealed (handed_frames m (state m past) e)
    (join_or_flush (handed_frames m (state m past) e)) (desk_at mid a) (desk_at new a)
    → ((k : ℕ) → k ≢ a → desk_at new k ≡ desk_at mid k)
    → DesksStand m (e ∷ past) new
all_after_join laws m past e from a mid new fits lt is some ready hears others = record {
  at = λ u has. at u has (party_cases (Host a) u);
  idle = λ u has. still_idle u has;
}
  where
    at : (u : Party) → HasSlot u → ((Host a) ≡ u) ⊎ ((Host a) ≢ u)
        → IsAt m (e ∷ past) u (desk_at new (slot_of u))
    at u has (inl here) =
        let x = state m past in
        let frames = handed_frames m x e in
        let h = Host a in
        let b = batches m past h in
        let joined : batches m (e ∷ past) h ≡ join_or_flush frames (readied from h b) =
        is.joins h b ∙ ap (λ t. if t then join_or_flush frames (readied from h b) else readied from h b)
        (ap (λ v. is_same_party v h) is.place ∙ own_party h) in
        subst (λ v. IsAt m (e ∷ past) v (desk_at new (slot_of v))) here
        (subst (λ c. SlotAt m h c (Stands m (e ∷ past) (state m (e ∷ past)) h) (desk_at new a))
        (sym joined)
        (slot_hears m h (readied from h b) (Stands m past x h) (Stands m (e ∷ past) (state m (e ∷ past)) h)
        frames (join_or_flush frames) (desk_at mid a) (desk_at new a) hears (some h)
        (λ net ws st is_net known are p. stands_at_host laws m past e a
        (does st (hearings frames ws)) is.sending is.place
        (hears_event laws m past net e (x.told h) (frames_by h (wire m past)) h ws st fits is_net known
        is.place (is.harmless ws) are p))
        (ready.at h lt)))
    at u has (inr away) =
        let other : is_same_party (Host a) u ≡ false = other_party (Host a) u away in
        let place : is_same_party (place_of e) u ≡ false = ap (λ v. is_same_party v u) is.place ∙ other in
        let b = batches m past u in
        let x = state m past in
        let joined : batches m (e ∷ past) u ≡ readied from u b =
        is.joins u b
        ∙ ap (λ t. if t then join_or_flush (handed_frames m x e) (readied from u b) else readied from u b)
        place in
        subst (IsAt m (e ∷ past) u)
        (sym (others (slot_of u) (slots_differ u (Host a) has lt (λ same. away (sym same)))))
        (slot_stays m u (readied from u b) (batches m (e ∷ past) u) (Stands m past x u)
        (Stands m (e ∷ past) (state m (e ∷ past)) u) (desk_at mid (slot_of u)) joined
        (λ st p. stands_elsewhere laws m past e u st place p) (ready.at u has))

    still_idle : (u : Party) → HasSlot u → SlotIdle u (desk_at new (slot_of u))
    still_idle (Host b) has = host_idle b (desk_at new b)
    still_idle (Manager p) has =
        subst (SlotIdle (Manager p)) (sym (others (256 + p.0) (λ same. absurd (omega (arith, lt, same)))))
        (ready.idle (Manager p) has)

-- ---- all batches are flushed

manager_flushed : (m : Setup) (u : Party) (b : Batches) (P : DeskState → Type 0)
    (slot : Option DeskView) → (p : ℕ) → SlotIdle (Manager (record { 0 = p })) slot → SlotAt m u b P slot
    → SlotAt m u (flush b) P slot
manager_flushed m u b P None p idle at = at
manager_flushed m u b P (Some desk) p idle at =
    let none = idle_batch m.sealed desk at.st b idle at.at in record {
      known = at.known;
      net = at.net;
      st = at.st;
      at = subst (At m.sealed desk at.st) (sym (idle_flush b none)) at.at;
      is = at.is;
    }

pub all_flushed : (m : Setup) (past : List Event) (old new : List (Option DeskView))
    → ((k : ℕ) → k < 256 → SlotMoves m.sealed same flush (desk_at old k) (desk_at new k))
    → ((k : ℕ) → k < 256 → SlotOpen (desk_at new k))
    → ((k : ℕ) → 256 ≤ k → desk_at new k ≡ desk_at old k)
    → DesksStand m past old → Flushed m past new
all_flushed m past old new moves shut others stands = record {
  at = λ u has. at u has;
  opened = λ u has. is_open u has;
}
  where
    at : (u : Party) → HasSlot u → SlotAt m u (flush (batches m past u))
        (Stands m past (state m past) u) (desk_at new (slot_of u))
    at (Host a) has =
        slot_moves m (Host a) (batches m past (Host a)) (Stands m past (state m past) (Host a))
        (Stands m past (state m past) (Host a)) same flush (desk_at old a) (desk_at new a)
        (moves a has) (λ st p. p) (stands.at (Host a) has)
    at (Manager p) has =
        subst (SlotAt m (Manager p) (flush (batches m past (Manager p)))
        (Stands m past (state m past) (Manager p))) (sym (others (256 + p.0) (omega arith)))
        (manager_flushed m (Manager p) (batches m past (Manager p))
        (Stands m past (state m past) (Manager p)) (desk_at old (256 + p.0)) p.0
        (stands.idle (Manager p) has) (stands.at (Manager p) has))

    is_open : (u : Party) → HasSlot u → SlotOpen (desk_at new (slot_of u))
    is_open (Host a) has = shut a has
    is_open (Manager p) has =
        subst SlotOpen (sym (others (256 + p.0) (omega arith)))
        (open_if_idle (desk_at old (256 + p.0)) (stands.idle (Manager p) has))
      where
        open_if_idle : (slot : Option DeskView) → SlotIdle (Manager p) slot → SlotOpen slot
        open_if_idle None idle = tt
        open_if_idle (Some desk) idle = idle

-- an open slot is idle
pub idle_if_open : (u : Party) (slot : Option DeskView) → SlotOpen slot → SlotIdle u slot
idle_if_open u None opened = tt
idle_if_open (Host a) (Some desk) opened = tt
idle_if_open (Manager p) (Some desk) opened = opened

-- ---- frames that are a turn of their own

-- the desk where such an event happens, once its turns are made
pub all_after_alone : Laws → (m : Setup) (past : List Event) (e : Event)
    (mid new : List (Option DeskView)) → HasSlot (place_of e) → IsAlone m (state m past) e
    → Flushed m past mid → IsAt m (e ∷ past) (place_of e) (desk_at new (slot_of (place_of e)))
    → SlotIdle (place_of e) (desk_at new (slot_of (place_of e)))
    → ((k : ℕ) → k ≢ slot_of (place_of e) → desk_at new k ≡ desk_at mid k)
    → DesksStand m (e ∷ past) new
all_after_alone laws m past e mid new there is ready here here_idle others = record {
  at = λ u has. at u has (party_cases (place_of e) u);
  idle = λ u has. still_idle u has (party_cases (place_of e) u);
}
  where
    at : (u : Party) → HasSlot u → (place_of e ≡ u) ⊎ (place_of e ≢ u)
        → IsAt m (e ∷ past) u (desk_at new (slot_of u))
    at u has (inl own) = subst (λ v. IsAt m (e ∷ past) v (desk_at new (slot_of v))) own here
    at u has (inr away) =
        let other : is_same_party (place_of e) u ≡ false = other_party (place_of e) u away in
        let x = state m past in
        let b = batches m past u in
        subst (IsAt m (e ∷ past) u)
        (sym (others (slot_of u) (slots_differ u (place_of e) has there (λ same. away (sym same)))))
        (slot_stays m u (flush b) (batches m (e ∷ past) u) (Stands m past x u)
        (Stands m (e ∷ past) (state m (e ∷ past)) u) (desk_at mid (slot_of u))
        (is.alone u b ∙ rw other refl)
        (λ st p. stands_elsewhere laws m past e u st other p) (ready.at u has))

    still_idle : (u : Party) → HasSlot u → (place_of e ≡ u) ⊎ (place_of e ≢ u)
        → SlotIdle u (desk_at new (slot_of u))
    still_idle u has (inl own) = subst (λ v. SlotIdle v (desk_at new (slot_of v))) own here_idle
    still_idle u has (inr away) =
        subst (SlotIdle u)
        (sym (others (slot_of u) (slots_differ u (place_of e) has there (λ same. away (sym same)))))
        (idle_if_open u (desk_at mid (slot_of u)) (ready.opened u has))

-- ---- the files

-- no call is given at a host
pub no_calls : (m : Setup) (x : State) (e : Event) (a : ℕ) → place_of e ≡ Host a
    → calls_by m x e ++ x.calls ≡ x.calls
no_calls m x e a place =
    ap (λ u. calls_to u (given_to m x e u) ++ x.calls) place

pub network_after_send : Laws → (m : Setup) (past : List Event) (e : Event) (a : ℕ) (to : Party)
    (message : List ℕ) (old new : List (Option DeskView)) (files : FilesView) → Fits m past → a < 256
    → IsSend m e a to message → Joins m (state m past) e a to message
    → HandsNothing m (state m past) e (Host a)
    → SlotSays m.sealed to message (desk_at old a) (desk_at new a)
    → ((k : ℕ) → k ≢ a → desk_at new k ≡ desk_at old k)
    → NetworkStands m past old files → NetworkStands m (e ∷ past) new files
network_after_send laws m past e a to message old new files fits lt is joins none says_it others stands = record {
  desks_stand = all_after_send laws m past e a to message old new fits lt is joins none says_it others
      stands.desks_stand;
  files_stand = subst (planned.StandsFor m files) (sym (no_calls m (state m past) e a is.place))
      stands.files_stand;
}

pub network_after_join : Laws → (m : Setup) (past : List Event) (e : Event) (from : Party) (a : ℕ)
    (mid new : List (Option DeskView)) (files : FilesView) → Fits m past → a < 256
    → IsJoin m (state m past) e from a → AreSomething m past e → Readied m past from mid
    → SlotHears m.sealed (handed_frames m (state m past) e)
    (join_or_flush (handed_frames m (state m past) e)) (desk_at mid a) (desk_at new a)
    → ((k : ℕ) → k ≢ a → desk_at new k ≡ desk_at mid k)
    → planned.StandsFor m files (state m past).calls → NetworkStands m (e ∷ past) new files
network_after_join laws m past e from a mid new files fits lt is some ready hears others stands = record {
  desks_stand = all_after_join laws m past e from a mid new fits lt is some ready hears others;
  files_stand = subst (planned.StandsFor m files) (sym (no_calls m (state m past) e a is.place)) stands;
}
