-- The sends and frames that wait for a turn of a unit, and the turns that it made.
use Rattle.std.specs.Prelude.{ℕ, ◌+◌, List, [], ◌∷◌, ◌++◌, length, Bool, nat_lt, ◌==◌, ◌&&◌, not, if◌then◌else◌}
use Rattle.unit_core.specs.Views.{OutgoingView}

-- what a unit does in one turn
pub record Batch : Type 0 where
  pub sends : List OutgoingView
  pub frames : List (List ℕ)

-- the open batch of a unit, and the turns that it made, the newest first
pub record Batches : Type 0 where
  pub batch : Batch
  pub made : List Batch

abbrev pub nothing : Batch
nothing = record { sends = []; frames = [] }

-- before the first event
abbrev pub no_batches : Batches
no_batches = record { batch = nothing; made = [] }

-- whether there is nothing to do
abbrev pub is_empty : Batch → Bool
is_empty b = length b.sends == 0 && length b.frames == 0

-- whether something is sent in the next turn
abbrev pub has_send : Batches → Bool
has_send b = not (length b.batch.sends == 0)

-- to flush a batch that isn't empty is one turn
abbrev pub flush : Batches → Batches
flush b =
    if is_empty b.batch then b else record { batch = nothing; made = b.batch ∷ b.made }

-- a turn where a test holds
abbrev pub flush_where : Bool → Batches → Batches
flush_where test b = if test then flush b else b

-- a send joins
abbrev pub join_send : OutgoingView → Batches → Batches
join_send send b = record {
  batch = record { sends = b.batch.sends ++ send ∷ []; frames = b.batch.frames };
  made = b.made;
}

-- a send joins, after a flush where the batch has 4 sends
abbrev pub join_or_flush_send : OutgoingView → Batches → Batches
join_or_flush_send send b = join_send send (flush_where (length b.batch.sends == 4) b)

-- frames join
abbrev pub join_frames : List (List ℕ) → Batches → Batches
join_frames frames b = record {
  batch = record { sends = b.batch.sends; frames = b.batch.frames ++ frames };
  made = b.made;
}

-- whether some more frames would pass 256
abbrev pub is_full_for : ℕ → Batches → Bool
is_full_for more b = nat_lt 256 (length b.batch.frames + more)

-- frames join, if there are any, after a flush where the batch would pass 256 frames
abbrev pub join_or_flush : List (List ℕ) → Batches → Batches
join_or_flush [] b = b
join_or_flush (frame ∷ frames) b =
    join_frames (frame ∷ frames) (flush_where (is_full_for (length (frame ∷ frames)) b) b)

-- frames, if there are any, are a turn of their own
abbrev pub turn_alone : List (List ℕ) → Batches → Batches
turn_alone frames b = flush (join_or_flush frames (flush b))
