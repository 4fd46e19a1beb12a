-- Whether bytes that the network makes are a false frame.
use Rattle.std.specs.Prelude.{◌≡◌, ◌⊎◌, ℕ, List, [], ◌∷◌, Bool, true, false}
use Rattle.levels.specs.declared.level.Party.{Party}
use Rattle.frame.specs.Pieces.{PieceView}
use Rattle.frame.specs.Frames.{IsFrame}
use Rattle.frame.specs.declared.sealed.Opening.{Opening}
use Rattle.frame.specs.declared.sealed.Opening.TheVariants.{Foreign, Closed, Malformed, Opened}
use Rattle.events.specs.declared.event.Event.{Event}
use Rattle.machine.specs.Setup.{Setup}
use Rattle.machine.specs.Machine.{state}
use Rattle.machine.specs.FalseBytes.{OpensIn, IsFalseFrame}
use Rattle.engine.specs.Turns.{partition_number}
use Rattle.engine.specs.inside.Events.{IsShut, WasSent}

-- bytes are the frame of a piece in the partition of u
abbrev pub IsFrameAt : Setup → Party → List ℕ → PieceView → Type 0
IsFrameAt m u bytes x =
    IsFrame m.sealed (m.keys (partition_number m u)) (partition_number m u) bytes x

-- what bytes open to at u
abbrev pub OpensAs : Setup → Party → List ℕ → Opening → Type 0
OpensAs m u bytes Foreign = IsShut m u bytes
OpensAs m u bytes Closed = IsShut m u bytes
OpensAs m u bytes Malformed =
    OpensIn m (partition_number m u) bytes × ((x : PieceView) → ¬ IsFrameAt m u bytes x)
OpensAs m u bytes (Opened x) =
    IsFrameAt m u bytes x × ((y : PieceView) → IsFrameAt m u bytes y → y ≡ x)

-- whether bytes open at u
abbrev pub OpensWhere : Setup → Party → List ℕ → Bool → Type 0
OpensWhere m u bytes true = OpensIn m (partition_number m u) bytes
OpensWhere m u bytes false = IsShut m u bytes

-- whether the first of some frames opens at u
abbrev pub FirstOpens : Setup → Party → List (List ℕ) → Bool → Type 0
FirstOpens m u [] b = b ≡ false
FirstOpens m u (bytes ∷ frames) b = OpensWhere m u bytes b

-- whether bytes, which are a frame in the partition of u, were sent there
abbrev pub WasSentThere : Setup → List Event → Party → List ℕ → Bool → Type 0
WasSentThere m past u bytes true =
    WasSent m (state m past) bytes × (¬ IsFalseFrame m (state m past) u bytes)
WasSentThere m past u bytes false = IsFalseFrame m (state m past) u bytes

-- whether bytes that are forged at u are a false frame: else they were sent or don't open
abbrev pub IsJudged : Setup → List Event → Party → List ℕ → Bool → Type 0
IsJudged m past u bytes true = IsFalseFrame m (state m past) u bytes
IsJudged m past u bytes false =
    (WasSent m (state m past) bytes ⊎ IsShut m u bytes)
    × (¬ IsFalseFrame m (state m past) u bytes)
