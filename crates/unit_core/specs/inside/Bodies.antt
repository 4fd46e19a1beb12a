-- Bytes that stand one after the other, as they are kept.
use Rattle.std.specs.Prelude.{ℕ, List, length, take, vec_capacity}
use Rattle.unit_core.specs.declared.bodies.Bodies.TheInside.{Inside}

-- the bytes, how many there can be at most, and how many the vector has room for
pub record BodiesView : Type 0 where
  pub items : List ℕ
  pub most : ℕ
  pub room : ℕ

abbrev pub view_of : Inside → BodiesView
view_of a = record {
  items = take a.used a.all.items;
  most = length a.all.items;
  room = vec_capacity a.all;
}
