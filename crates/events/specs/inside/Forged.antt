use Rattle.std.specs.Prelude.{◌≡◌, ℕ, List, length}
use Rattle.seal_core.specs.Blocks.{AreBytes}
use Rattle.events.specs.declared.forged.ForgedFrame.TheInside.{Inside}

abbrev pub bytes_of : Inside → List ℕ
bytes_of a = a.bytes.value

pub record IsKept (a : Inside) : Type 0 where
  pub long : length (bytes_of a) ≡ 128
  pub bytes : AreBytes (bytes_of a)
