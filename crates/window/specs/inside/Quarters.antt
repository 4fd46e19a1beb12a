-- The messages of a partner in the four quarters of its places of a pool.
use Rattle.std.specs.Prelude.{◌≡◌, ℕ, ◌+◌, ◌*◌, ◌%◌, ◌<◌, ◌≤◌, List, [], ◌∷◌, length, take, map, Bool, false, nat_lt, ◌==◌, Option, Some, None, if◌then◌else◌}
use Rattle.std.specs.List.{range_with_len}
use Rattle.std.proofs.Math.ListN.{get_or}
use Rattle.frame.specs.Pieces.{PieceView}
use Rattle.frame_pool.specs.PoolView.{PoolView}
use Rattle.frame_pool.specs.Pools.{chain_of, blocks_of, SameElsewhere}
use Rattle.window.specs.WindowView.{HeldMessage}
use Rattle.window.specs.inside.Places.{empty_count, or_new, put_in, after_piece}
use Rattle.window.specs.declared.heads.Head.{Head}
use Rattle.window.specs.declared.heads.Heads.{Heads}

-- what a place has of a block, cut to this length
abbrev pub cut : ℕ → Option (List ℕ) → Option (List ℕ)
cut n None = None
cut n (Some block) = Some (take n block)

-- how many bytes place i of a message has
abbrev pub size_at : Head → ℕ → ℕ
size_at head i = if i == head.last then head.tail else 88

abbrev pub place_in : Head → (ℕ → Option (List ℕ)) → ℕ → Option (List ℕ)
place_in head quarter i = cut (size_at head i) (quarter i)

-- the places of a message whose blocks stand in this quarter
abbrev pub places_in : Head → (ℕ → Option (List ℕ)) → List (Option (List ℕ))
places_in head quarter = map (place_in head quarter) (range_with_len 0 (head.last + 1))

-- whether this is the head of message j
abbrev pub is_of : ℕ → Option Head → Bool
is_of j None = false
is_of j (Some head) = head.message == j

-- whether this is the head of a message with a smaller number
abbrev pub is_before : ℕ → Option Head → Bool
is_before least None = false
is_before least (Some head) = nat_lt head.message least

abbrev pub held_in : Option Head → (ℕ → Option (List ℕ)) → ℕ → List (Option (List ℕ))
held_in None quarter j = []
held_in (Some head) quarter j = if head.message == j then places_in head quarter else []

-- the k-th quarter of an owner's blocks
abbrev pub quarter_of : List (Option (List ℕ)) → ℕ → ℕ → Option (List ℕ)
quarter_of blocks k i = get_or blocks (64 * k + i) None

abbrev pub held_by : List (Option Head) → List (Option (List ℕ)) → ℕ → List (Option (List ℕ))
held_by heads blocks j = held_in (get_or heads (j % 4) None) (quarter_of blocks (j % 4)) j

-- the places of message j, or no places where nothing of it is held
abbrev pub held : Heads → PoolView → ℕ → List (Option (List ℕ))
held a pool j = held_by a.heads (blocks_of pool a.owner) j

-- the messages of which pieces are held, from the k-th quarter on
abbrev pub messages_from : ℕ → List (Option Head) → List (Option (List ℕ)) → List HeldMessage
messages_from k [] blocks = []
messages_from k (None ∷ heads) blocks = messages_from (k + 1) heads blocks
messages_from k (Some head ∷ heads) blocks =
    record { message = head.message; places = places_in head (quarter_of blocks k) }
    ∷ messages_from (k + 1) heads blocks

abbrev pub IsWide : Option (List ℕ) → Type 0
IsWide None = Unit {0}
IsWide (Some block) = length block ≡ 88

-- The blocks of a message are those of its places, and the empty places are counted.
pub record Fits (k : ℕ) (head : Head) (quarter : ℕ → Option (List ℕ)) : Type 0 where
  pub own : head.message % 4 ≡ k
  pub last : head.last ≤ 63
  pub tail : head.tail ≤ 88
  pub missing : head.missing ≡ empty_count (places_in head quarter)
  pub wide : (i : ℕ) → i ≤ head.last → IsWide (quarter i)
  pub rest : (i : ℕ) → head.last < i → i < 64 → quarter i ≡ None

-- a quarter in which no message is held has no blocks
abbrev pub FitsIn : ℕ → Option Head → (ℕ → Option (List ℕ)) → Type 0
FitsIn k None quarter = (i : ℕ) → i < 64 → quarter i ≡ None
FitsIn k (Some head) quarter = Fits k head quarter

abbrev pub FitIn : List (Option Head) → List (Option (List ℕ)) → Type 0
FitIn heads blocks = (k : ℕ) → k < 4 → FitsIn k (get_or heads k None) (quarter_of blocks k)

-- A partner's messages are in its places of the pool, and nothing else is.
pub record Keeps (a : Heads) (pool : PoolView) : Type 0 where
  pub owner : a.owner < length pool.quotas
  pub quota : get_or pool.quotas a.owner 0 ≡ 256
  pub places : length (chain_of pool a.owner) ≡ 256
  pub heads : length a.heads ≡ 4
  pub fit : FitIn a.heads (blocks_of pool a.owner)

-- the owner is as it was, and so is the pool but for the blocks of the owner
pub record Turns (old new : Heads) (before after : PoolView) : Type 0 where
  pub owner : new.owner ≡ old.owner
  pub others : SameElsewhere before after old.owner
  pub quotas : after.quotas ≡ before.quotas
  pub room : after.room ≡ before.room

-- of each message what is held after a piece's message has begun
abbrev pub begun : (ℕ → List (Option (List ℕ))) → PieceView → ℕ → List (Option (List ℕ))
begun held x j =
    if j == x.message then or_new (held j) x.last
    else (if j % 4 == x.message % 4 then [] else held j)

-- of each message what is held after a piece was put that has room
abbrev pub put_piece : (ℕ → List (Option (List ℕ))) → PieceView → ℕ → List (Option (List ℕ))
put_piece held x j = if j == x.message then put_in (held j) x else held j

-- of each message what is held after a piece came
abbrev pub joined_by : (ℕ → List (Option (List ℕ))) → PieceView → ℕ → List (Option (List ℕ))
joined_by held x j =
    if j == x.message then after_piece (held j) x
    else (if j % 4 == x.message % 4 then [] else held j)
