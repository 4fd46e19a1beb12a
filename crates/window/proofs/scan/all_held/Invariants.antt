use Rattle.std.proofs.Common.{◌≡◌, true}
use Rattle.std.specs.List.{list_all, range_with_len}
use Rattle.window.specs.ListRule.{is_held}
use Rattle.window.proofs.scan.all_held.Given as goal

abbrev pub invariant-loop-place : goal.invariant-loop-place
invariant-loop-place l = list_all (is_held l.heard l.message l.last) (range_with_len 0 l.place) ≡ true
