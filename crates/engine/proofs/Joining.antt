-- What a message's arrival at a host is made of: its sender's turn, its frames, and their joining.
use Rattle.std.proofs.Common.{◌≡◌, ◌≢◌, ℕ, ◌<◌, ◌≤◌, List, true, Option, Some, None, refl, sym, ap, subst, ◌∙◌}
use Rattle.levels.specs.declared.level.Partition.{Partition}
use Rattle.levels.specs.declared.level.Party.{Party}
use Rattle.levels.specs.declared.level.Party.TheVariants.{Host, Manager}
use Rattle.seal_core.specs.Sealing.{Sealer}
use Rattle.events.specs.declared.event.Stream.{Stream}
use Rattle.events.specs.declared.event.Event.{Event}
use Rattle.events.specs.declared.event.Event.TheVariants.{Arrive, Carry}
use Rattle.events.specs.Scripts.{is_known}
use Rattle.machine.specs.Setup.{Setup}
use Rattle.machine.specs.Machine.{State, state}
use Rattle.desk.specs.Batches.{Batches, has_send, flush, flush_where}
use Rattle.desk.specs.Views.{BatchView, DeskView}
use Rattle.desk.specs.Desks.{same}
use Rattle.engine.specs.Handed.{message_sent}
use Rattle.engine.specs.Slots.{slot_of, HasSlot}
use Rattle.engine.specs.Turns.{batches}
use Rattle.engine.specs.States.{Stands}
use Rattle.engine.specs.inside.Facts.{Fits}
use Rattle.engine.specs.inside.Events.{IsJoin}
use Rattle.engine.specs.inside.Standing.{desk_at, SlotAt, DesksStand, SlotMoves, SlotSilent, SlotOpen, readied, Readied, Flushed}
use Rattle.engine.proofs.Networking.{host_readied, manager_readied, all_flushed}

-- what a host has sent is sealed, in whatever slot it is
pub host_is_ready : (sealed : Sealer) (from : Party) (a slot : ℕ) (old new : List (Option DeskView))
    → from ≡ Host a → slot ≡ a → a < 256
    → SlotMoves sealed same (λ b. flush_where (has_send b) b) (desk_at old slot) (desk_at new slot)
    → SlotSilent (desk_at new slot) → ((k : ℕ) → k ≢ slot → desk_at new k ≡ desk_at old k)
    → (m : Setup) (past : List Event) → m.sealed ≡ sealed → DesksStand m past old
    → Readied m past from new
host_is_ready sealed from a slot old new is at lt moves silent others m past same_sealing stands =
    subst (λ p. Readied m past p new) (sym is)
    (host_readied m past a old new lt
    (subst (λ k. SlotMoves m.sealed same (λ b. flush_where (has_send b) b) (desk_at old k) (desk_at new k)) at
    (subst (λ s. SlotMoves s same (λ b. flush_where (has_send b) b) (desk_at old slot) (desk_at new slot))
    (sym same_sealing) moves))
    (subst (λ k. SlotSilent (desk_at new k)) at silent)
    (λ k differ. others k (λ e. differ (e ∙ at))) stands)

-- a piece that comes to a host joins its batch
pub arrive_joins : (m : Setup) (x : State) (stream : Stream) (j i a : ℕ)
    → IsJoin m x (Arrive stream j i (Host a)) stream.from a
arrive_joins m x stream j i a = record {
  sending = refl;
  place = refl;
  joins = λ u b. refl;
  harmless = λ ws. tt;
}

-- and so does a message
pub carry_joins : (m : Setup) (x : State) (stream : Stream) (j a : ℕ)
    → IsJoin m x (Carry stream j (Host a)) stream.from a
carry_joins m x stream j a = record {
  sending = refl;
  place = refl;
  joins = λ u b. refl;
  harmless = λ ws. tt;
}

-- all batches are flushed, under whatever sealing
pub all_are_flushed : (sealed : Sealer) (old new : List (Option DeskView))
    → ((k : ℕ) → k < 256 → SlotMoves sealed same flush (desk_at old k) (desk_at new k))
    → ((k : ℕ) → k < 256 → SlotOpen (desk_at new k))
    → ((k : ℕ) → 256 ≤ k → desk_at new k ≡ desk_at old k)
    → (m : Setup) (past : List Event) → m.sealed ≡ sealed → DesksStand m past old → Flushed m past new
all_are_flushed sealed old new moves opened others m past same_sealing stands =
    all_flushed m past old new
    (subst (λ s. (k : ℕ) → k < 256 → SlotMoves s same flush (desk_at old k) (desk_at new k))
    (sym same_sealing) moves) opened others stands

-- what a manager unit has sent is sealed already
pub manager_is_ready : (from : Party) (p : Partition) (desks : List (Option DeskView))
    → from ≡ Manager p → p.0 < 256 → (m : Setup) (past : List Event) → DesksStand m past desks
    → Readied m past from desks
manager_is_ready from p desks is lt m past stands =
    subst (λ u. Readied m past u desks) (sym is) (manager_readied m past p desks lt stands)

-- the frames of a message that are found
abbrev pub FindsMessage : Sealer → Stream → ℕ → List (Option DeskView) → List (List ℕ) → Type 0
FindsMessage sealed stream j desks found = (m : Setup) (past : List Event) (b : Batches)
    → m.sealed ≡ sealed → Fits m past → is_known m.roster stream.to ≡ true
    → SlotAt m stream.from b (Stands m past (state m past) stream.from)
    (desk_at desks (slot_of stream.from))
    → SlotSilent (desk_at desks (slot_of stream.from))
    → found ≡ message_sent m (state m past) stream j

-- where a sender's turn is made, its frames are found
pub found_ready : (sealed : Sealer) (stream : Stream) (j : ℕ) (desks : List (Option DeskView))
    (found : List (List ℕ)) → FindsMessage sealed stream j desks found
    → (m : Setup) (past : List Event) → m.sealed ≡ sealed → Fits m past
    → is_known m.roster stream.to ≡ true → HasSlot stream.from → Readied m past stream.from desks
    → found ≡ message_sent m (state m past) stream j
found_ready sealed stream j desks found finds m past same_sealing fits known has ready =
    finds m past (readied stream.from stream.from (batches m past stream.from)) same_sealing fits known
    (ready.at stream.from has) ready.silent

-- a flushed batch has no send
silent_if_open : (slot : Option DeskView) → SlotOpen slot → SlotSilent slot
silent_if_open None opened = tt
silent_if_open (Some desk) opened = ap (λ (b : BatchView). b.sends) opened

-- where all batches are flushed, its frames are found
pub found_flushed : (sealed : Sealer) (stream : Stream) (j : ℕ) (desks : List (Option DeskView))
    (found : List (List ℕ)) → FindsMessage sealed stream j desks found
    → (m : Setup) (past : List Event) → m.sealed ≡ sealed → Fits m past
    → is_known m.roster stream.to ≡ true → HasSlot stream.from → Flushed m past desks
    → found ≡ message_sent m (state m past) stream j
found_flushed sealed stream j desks found finds m past same_sealing fits known has ready =
    finds m past (flush (batches m past stream.from)) same_sealing fits known (ready.at stream.from has)
    (silent_if_open (desk_at desks (slot_of stream.from)) (ready.opened stream.from has))
