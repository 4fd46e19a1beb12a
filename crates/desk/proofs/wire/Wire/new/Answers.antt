use Rattle.desk.specs.inside.Kept.{kept_of}
use Rattle.desk.proofs.Wiring.{nothing_sealed, none_shown}
use Rattle.desk.proofs.wire.Wire.new.Goals as goal

pub invariant_of-result : goal.invariant_of-result
invariant_of-result c =
    nothing_sealed (kept_of (record { frames = c.in_ok-frames.frames; runs = c.in_ok-runs.runs })) c.in_ok-runs.ensures

pub returns : goal.returns
returns c =
    none_shown (kept_of (record { frames = c.in_ok-frames.frames; runs = c.in_ok-runs.runs }))
    c.in_ok-frames.ensures.items c.in_ok-runs.ensures
