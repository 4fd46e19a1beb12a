-- Frames that are a turn of the unit where they come.
use Rattle.std.proofs.Common.{◌≡◌, ◌≢◌, ℕ, List, ◌++◌, true, Option, Some, None, refl, sym, ap, subst, ◌∙◌}
use Rattle.levels.specs.declared.level.Party.{Party}
use Rattle.seal_core.specs.Sealing.{Sealer}
use Rattle.events.specs.declared.event.Event.{Event}
use Rattle.events.specs.Scripts.{is_known}
use Rattle.net_side.specs.NetView.{NetView}
use Rattle.net_side.specs.declared.inbound.Inbound.{Inbound}
use Rattle.unit_core.specs.Hearing.{AreInbound}
use Rattle.unit_core.specs.declared.rows.FrameKind.{FrameKind}
use Rattle.machine.specs.Setup.{Setup}
use Rattle.machine.specs.Low.{place_of}
use Rattle.machine.specs.Machine.{given_to, state}
use Rattle.machine.specs.Wire.{wire}
use Rattle.desk.specs.Batches.{Batches, flush, turn_alone}
use Rattle.desk.specs.Views.{DeskView}
use Rattle.desk.specs.Deeds.{DeskState, does, hearings}
use Rattle.engine.specs.Handed.{handed_frames}
use Rattle.engine.specs.Slots.{slot_of, HasSlot}
use Rattle.engine.specs.Turns.{batches}
use Rattle.engine.specs.States.{StateIs, NetIs, Stands, kept_lines, frames_by}
use Rattle.engine.specs.inside.Facts.{Laws, Fits}
use Rattle.engine.specs.inside.Standing.{desk_at, SlotAt, SlotHearsAlone, SlotOpen, Flushed}
use Rattle.engine.specs.inside.Arrivals.{came, lines_given}
use Rattle.engine.specs.inside.Alone.{IsHarmless, HeardAlone}
use Rattle.engine.proofs.Handing.{hears_event}
use Rattle.engine.proofs.Slotting.{alone_flushed}

-- the desk of u has heard the frames of e, and has not replied yet
abbrev pub Heard : Setup → List Event → Event → Party → DeskState → Type 0
Heard m past e u st =
    StateIs m (came m e (state m past))
    (kept_lines u ((state m past).told u) ++ lines_given (given_to m (state m past) e u))
    (frames_by u (wire m past)) u st

-- a slot that hears frames as a turn of their own
slot_hears_alone : (m : Setup) (u : Party) (b : Batches) (P Q : DeskState → Type 0)
    (frames : List (List ℕ)) (kinds : List FrameKind) (old new : Option DeskView)
    → SlotHearsAlone m.sealed frames kinds old new
    → ((net : NetView) (ws : List Inbound) (st : DeskState) → NetIs m u net
    → is_known m.roster u ≡ true → AreInbound m.sealed net frames ws → P st
    → Q (does st (hearings frames ws)))
    → SlotAt m u b P old → SlotAt m u (turn_alone frames b) Q new
slot_hears_alone m u b P Q frames kinds None None heard keeps at = at
slot_hears_alone m u b P Q frames kinds None (Some new) heard keeps at = absurd heard
slot_hears_alone m u b P Q frames kinds (Some old) None heard keeps at = absurd heard
slot_hears_alone m u b P Q frames kinds (Some old) (Some new) heard keeps at = record {
  known = at.known;
  net = subst (NetIs m u) (sym heard.moves.net) at.net;
  st = does at.st (hearings frames heard.inbounds);
  at = heard.moves.at at.st b at.at;
  is = keeps old.unit.net heard.inbounds at.st at.net at.known heard.each at.is;
}

heard_here : Laws → (m : Setup) (past : List Event) (e : Event) (kinds : List FrameKind)
    (old new : List (Option DeskView)) → Fits m past → HasSlot (place_of e)
    → IsHarmless m past e → Flushed m past old
    → SlotHearsAlone m.sealed (handed_frames m (state m past) e) kinds
    (desk_at old (slot_of (place_of e))) (desk_at new (slot_of (place_of e)))
    → SlotOpen (desk_at new (slot_of (place_of e)))
    → ((k : ℕ) → k ≢ slot_of (place_of e) → desk_at new k ≡ desk_at old k)
    → HeardAlone m past e new
heard_here laws m past e kinds old new fits has harmless ready heard idle others =
    let u = place_of e in
    let x = state m past in
    let frames = handed_frames m x e in
    record {
      before = old;
      ready = ready;
      at = subst (λ b. SlotAt m u b (Heard m past e u) (desk_at new (slot_of u)))
          (alone_flushed frames (batches m past u))
          (slot_hears_alone m u (flush (batches m past u)) (Stands m past x u) (Heard m past e u)
          frames kinds (desk_at old (slot_of u)) (desk_at new (slot_of u)) heard
          (λ net ws st is_net known are p. hears_event laws m past net e (kept_lines u (x.told u))
          (frames_by u (wire m past)) u ws st fits is_net known refl (harmless net ws is_net are)
          are p) (ready.at u has));
      idle = idle;
      others = others;
    }

-- what is handed over is a turn of the unit where an event happens
pub is_heard_alone : Laws → (sealed : Sealer) (at : Party) (slot : ℕ) (frames : List (List ℕ))
    (kinds : List FrameKind) (old new : List (Option DeskView)) → slot ≡ slot_of at → HasSlot at
    → SlotHearsAlone sealed frames kinds (desk_at old slot) (desk_at new slot)
    → SlotOpen (desk_at new slot) → ((k : ℕ) → k ≢ slot → desk_at new k ≡ desk_at old k)
    → (m : Setup) (past : List Event) (e : Event) → m.sealed ≡ sealed → Fits m past
    → place_of e ≡ at → IsHarmless m past e → frames ≡ handed_frames m (state m past) e
    → Flushed m past old → HeardAlone m past e new
is_heard_alone laws sealed at slot frames kinds old new there has heard idle others m past e same
    fits place harmless handed ready =
    let here : slot ≡ slot_of (place_of e) = there ∙ ap slot_of (sym place) in
    heard_here laws m past e kinds old new fits (subst HasSlot (sym place) has) harmless ready
    (subst (λ k. SlotHearsAlone m.sealed (handed_frames m (state m past) e) kinds (desk_at old k)
    (desk_at new k)) here
    (subst (λ s. SlotHearsAlone s (handed_frames m (state m past) e) kinds (desk_at old slot)
    (desk_at new slot)) (sym same)
    (subst (λ fs. SlotHearsAlone sealed fs kinds (desk_at old slot) (desk_at new slot)) handed heard)))
    (subst (λ k. SlotOpen (desk_at new k)) here idle)
    (subst (λ n. (k : ℕ) → k ≢ n → desk_at new k ≡ desk_at old k) here others)
