-- The messages of a turn, as they are kept: one row for each, and the bytes of all.
use Rattle.std.specs.Prelude.{◌≡◌, ℕ, ◌+◌, ◌*◌, ◌≤◌, List, [], ◌∷◌, length, map, vec_capacity, slice_index}
use Rattle.std.specs.List.{flat_map}
use Rattle.unit_core.specs.Views.{GivenMessage}
use Rattle.unit_core.specs.Hearing.{message_in}
use Rattle.unit_core.specs.declared.rows.GivenRow.{GivenRow}
use Rattle.unit_core.specs.declared.messages.Messages.TheInside.{Inside}

-- the messages that were given, and how many elements each vector has room for
pub record MessagesView : Type 0 where
  pub list : List GivenMessage
  pub room : List ℕ

-- the bytes of these messages, one after the other
abbrev pub joined : List GivenMessage → List ℕ
joined messages = flat_map (λ m. m.body) messages

-- the row of a message whose bytes begin at this place
abbrev pub row_at : ℕ → GivenMessage → GivenRow
row_at start m = record {
  frame = m.frame;
  from = m.from;
  message = m.message;
  start = start;
  length = length m.body;
}

-- the rows of these messages, whose bytes stand one after the other from a place on
abbrev pub rows_from : ℕ → List GivenMessage → List GivenRow
rows_from start [] = []
rows_from start (m ∷ messages) = row_at start m ∷ rows_from (start + length m.body) messages

abbrev pub view_of : Inside → MessagesView
view_of a = record {
  list = map (message_in a.bodies.items) a.rows.items;
  room = vec_capacity a.rows ∷ a.bodies.room ∷ [];
}

-- The bytes stand one after the other, and there is room for 256 messages of 5,632 bytes.
pub record AreMessages (a : Inside) : Type 0 where
  pub rows : a.rows.items ≡ rows_from 0 (view_of a).list
  pub bodies : a.bodies.items ≡ joined (view_of a).list
  pub rows_room : 256 ≤ vec_capacity a.rows
  pub bodies_room : a.bodies.most ≡ 1441792

-- there are at most n messages, of at most 5,632 bytes on average
pub record AreFew (n : ℕ) (messages : List GivenMessage) : Type 0 where
  pub count : length messages ≤ n
  pub bytes : length (joined messages) ≤ 5632 * n

-- a row whose frame is the one at its place among these
abbrev pub row_renumbered : List ℕ → GivenRow → GivenRow
row_renumbered places row = record row { frame = slice_index places row.frame }

-- and a message
abbrev pub renumbered : List ℕ → GivenMessage → GivenMessage
renumbered places m = record m { frame = slice_index places m.frame }
