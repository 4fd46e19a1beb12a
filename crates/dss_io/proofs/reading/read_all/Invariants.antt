use Rattle.std.proofs.Common.{◌≡◌, ◌≤◌, ◌+◌, ◌-◌, vec_len}
use Rattle.std.specs.Io.KnownBytes.{Consumes}
use Rattle.dss_io.proofs.reading.read_all.Given as goal

-- the text so far is what the source has given
abbrev pub invariant-loop-text : goal.invariant-loop-text
invariant-loop-text g l =
    record {
      given : Consumes (g.S.Source.left l.initial.source) (g.S.Source.left l.source) l.text.items;
      within : vec_len l.text ≤ l.limit;
      kept : g.S.Source.faults l.source ≡ g.S.Source.faults l.initial.source;
    }

abbrev pub decreases-loop-text : goal.decreases-loop-text
decreases-loop-text g l = l.limit + 1 - vec_len l.text
