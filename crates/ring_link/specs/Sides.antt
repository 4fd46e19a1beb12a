-- The two sides.
use Rattle.std.specs.Prelude.{Bool, true, false}
use Rattle.ring_link.specs.declared.gate.Side.{Side}
use Rattle.ring_link.specs.declared.gate.Side.TheVariants.{Host, Net}

abbrev pub other_side : Side → Side
other_side Host = Net
other_side Net = Host

abbrev pub is_same_side : Side → Side → Bool
is_same_side Host Host = true
is_same_side Host Net = false
is_same_side Net Host = false
is_same_side Net Net = true
