use Rattle.std.proofs.Common.{◌≡◌, []}
use Rattle.std.specs.Prelude.{unwrap_or}
use Rattle.std.specs.List.{flat_map, range_with_len}
use Rattle.window.specs.ListRule.{bytes_at}
use Rattle.window.proofs.scan.joined.Given as goal

abbrev pub invariant-loop-place : goal.invariant-loop-place
invariant-loop-place l =
    l.bytes.items ≡ flat_map (λ i. unwrap_or (bytes_at l.heard l.message l.last i) []) (range_with_len 0 l.place)
