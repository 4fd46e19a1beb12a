use Rattle.std.specs.Prelude.{ℕ, List}
use Rattle.std.specs.Global.{Global}
use Rattle.frame.specs.Pieces.{PieceView}
use Rattle.rtrb.specs.declared.AnyItems.{AnyItems}
use Rattle.rtrb.specs.declared.producer.Producer.{Producer}
use Rattle.rtrb.specs.declared.consumer.Consumer.{Consumer}

-- one side's end of a link
pub record EndView : Type 0 where
  -- of the ring that it pushes to
  pub producer : Producer PieceView Global AnyItems
  -- of the ring that it pops from
  pub consumer : Consumer PieceView Global AnyItems
  -- the offered pieces that its ring hasn't taken yet, the oldest first
  pub backlog : List PieceView
  -- how many pieces the backlog may have
  pub room : ℕ
  -- how many the memory of the backlog can hold
  pub capacity : ℕ
