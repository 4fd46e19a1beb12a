use Rattle.std.proofs.Common.{◌≡◌, drop}
use Rattle.std.specs.List.{list_any}
use Rattle.levels.specs.Keys.{keys_of, is_same_key}
use Rattle.levels.proofs.keys.is_key_of.Given as goal

abbrev pub invariant-loop-pair : goal.invariant-loop-pair
invariant-loop-pair l = list_any (is_same_key l.key) (keys_of (drop l.pair-index l.pairs))
    ≡ list_any (is_same_key l.key) (keys_of l.pairs)
