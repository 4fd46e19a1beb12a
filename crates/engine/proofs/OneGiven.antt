-- An event gives one message or none, and the lines of a desk that is idle say which.
use Rattle.std.proofs.Common.{◌≡◌, ℕ, List, [], true, Option, Some, None, sym, ap, ◌∙◌}
use Rattle.levels.specs.declared.level.Party.{Party}
use Rattle.seal_core.specs.Sealing.{Sealer}
use Rattle.events.specs.declared.event.Event.{Event}
use Rattle.events.specs.declared.event.Event.TheVariants.{Send, Ask, Arrive, Carry, Forge, Tamper}
use Rattle.events.specs.Scripts.{is_known}
use Rattle.machine.specs.declared.line.OutLine.{OutLine}
use Rattle.machine.specs.Setup.{Setup}
use Rattle.machine.specs.Machine.{State, Message, given_to, state}
use Rattle.machine.specs.Laws.{IsOneAtMost, OneFrame, FramesApart}
use Rattle.desk.specs.Batches.{Batches}
use Rattle.desk.specs.Views.{BatchView, DeskView, no_batch}
use Rattle.desk.specs.Deeds.{DeskState, does}
use Rattle.desk.specs.Desks.{At, order_in}
use Rattle.engine.specs.States.{StateIs}
use Rattle.engine.specs.inside.Facts.{Laws, Fits}
use Rattle.engine.specs.inside.Standing.{desk_at, SlotAt, SlotOpen}
use Rattle.engine.specs.inside.Alone.{lines_in, first_given}
use Rattle.engine.proofs.Cases.{not_both}
use Rattle.engine.proofs.Slotting.{no_deeds}

one_frame : (m : Setup) (x : State) (e : Event) → FramesApart m x → OneFrame m x e
one_frame m x (Forge at bytes) apart =
    λ s s' j j' i i' here there. (let t = apart s s' at j j' i i' bytes here there in (t.0, t.1))
one_frame m x (Send from to message) apart = tt
one_frame m x (Ask from call) apart = tt
one_frame m x (Arrive stream message piece at) apart = tt
one_frame m x (Carry stream message at) apart = tt
one_frame m x (Tamper stream message piece at edits) apart = tt

pub one_given : Laws → (m : Setup) (past : List Event) (e : Event) (u : Party) → Fits m past
    → IsOneAtMost (given_to m (state m past) e u)
one_given laws m past e u fits =
    laws.at_most m (state m past) e u (one_frame m (state m past) e fits.apart) fits.roster

-- an idle desk has the lines of its state
idle_lines : (sealed : Sealer) (desk : DeskView) (st : DeskState) (b : Batches)
    → desk.batch ≡ no_batch → At sealed desk st b → desk.lines ≡ st.lines
idle_lines sealed desk st b idle at =
    let order : order_in at.deeds ≡ [] = sym at.order ∙ ap (λ (c : BatchView). c.order) idle in
    let start : at.start ≡ st = ap (does at.start) (sym (no_deeds at.deeds order)) ∙ at.is in
    at.now.told ∙ ap (λ (s : DeskState). s.lines) start

pub slot_lines : (m : Setup) (x : State) (lines : List OutLine) (sent : List (List ℕ)) (u : Party)
    (b : Batches) (slot : Option DeskView) → is_known m.roster u ≡ true → SlotOpen slot
    → SlotAt m u b (StateIs m x lines sent u) slot → lines_in slot ≡ lines
slot_lines m x lines sent u b None known idle at = absurd (not_both (is_known m.roster u) known at)
slot_lines m x lines sent u b (Some desk) known idle at =
    idle_lines m.sealed desk at.st b idle at.at ∙ at.is.told

-- what the first line of a desk says was given
pub first_in_slot : (desks : List (Option DeskView)) (n slot : ℕ) (desk : DeskView)
    (lines : List OutLine) (given : Option Message) → slot ≡ n → Some desk ≡ desk_at desks slot
    → lines ≡ desk.lines → first_given lines ≡ given
    → first_given (lines_in (desk_at desks n)) ≡ given
first_in_slot desks n slot desk lines given at there same is =
    ap (λ k. first_given (lines_in (desk_at desks k))) (sym at)
    ∙ ap (λ s. first_given (lines_in s)) (sym there) ∙ ap first_given (sym same) ∙ is
