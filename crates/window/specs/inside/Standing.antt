-- What is kept of a partner, and the lists of pieces that it stands for.
use Rattle.std.specs.Prelude.{◌≡◌, ℕ, List, [], length, Bool, true, false, nat_lt, ◌&&◌, ◌||◌, Option, Some, None, if◌then◌else◌}
use Rattle.frame.specs.Pieces.{PieceView}
use Rattle.frame_pool.specs.PoolView.{PoolView}
use Rattle.frame_pool.specs.Pools.{blocks_of, joined}
use Rattle.window.specs.WindowView.{Whole, PartnerView}
use Rattle.window.specs.ListRule.{given_in, places_held}
use Rattle.window.specs.Windows.{IsNewest, IsGreatest, is_recent, is_above, is_waiting, Waits}
use Rattle.window.specs.inside.Places.{is_full, full_length}
use Rattle.window.specs.inside.Quarters.{held, messages_from, Keeps}
use Rattle.window.specs.declared.reception.Taken.{Taken}
use Rattle.window.specs.declared.reception.Taken.TheVariants.{Nothing, Complete}
use Rattle.window.specs.declared.reception.Waiting.{Waiting}
use Rattle.window.specs.declared.reception.Reception.{Reception}

abbrev pub whole_of : Option Waiting → Option Whole
whole_of None = None
whole_of (Some waiting) = Some (record { message = waiting.message; length = waiting.length })

-- the greater of the newest number and this one
abbrev pub later_of : Option ℕ → ℕ → ℕ
later_of None j = j
later_of (Some newest) j = if nat_lt newest j then j else newest

abbrev pub answer_with : Option ℕ → Taken
answer_with None = Nothing
answer_with (Some n) = Complete n

-- the answer where a message has these places
abbrev pub answer_of : List (Option (List ℕ)) → Taken
answer_of places = answer_with (full_length places)

-- the greatest given number after this answer
abbrev pub given_with : Option ℕ → ℕ → Taken → Option ℕ
given_with given j Nothing = given
given_with given j (Complete n) = Some j

-- what waits after this answer
abbrev pub waiting_with : Option Whole → ℕ → Taken → Option Whole
waiting_with waiting j Nothing = waiting
waiting_with waiting j (Complete n) = Some (record { message = j; length = n })

-- whether message k is let go after this answer to a piece of message j
abbrev pub is_let_go : ℕ → Taken → ℕ → Bool
is_let_go j Nothing k = false
is_let_go j (Complete n) k = nat_lt k j

-- the message that waits is held whole
abbrev pub IsReady : Option Whole → (ℕ → List (Option (List ℕ))) → Type 0
IsReady None places = Unit {0}
IsReady (Some whole) places = (is_full (places whole.message) ≡ true)
    × (whole.length ≡ length (joined (places whole.message)))

-- what is kept of a partner is in its places of the pool
pub record KeepsAll (a : Reception) (pool : PoolView) : Type 0 where
  pub heads : Keeps a.heads pool
  pub waiting : IsReady (whole_of a.waiting) (held a.heads pool)

-- whether message j may be held
abbrev pub is_kept : Option ℕ → Option ℕ → Option Whole → ℕ → Bool
is_kept newest given waiting j = (is_recent newest j && is_above given j) || is_waiting waiting j

-- of each message the places are those of this list of pieces, if it may be held
abbrev pub HoldsOnly : (ℕ → Bool) → (ℕ → List (Option (List ℕ))) → List PieceView → Type 0
HoldsOnly keeps places h = (j : ℕ) → places j ≡ (if keeps j then places_held h j else [])

-- what is held is what this list of pieces left
pub record Holds (latest last_given : Option ℕ) (ready : Option Whole)
    (places : ℕ → List (Option (List ℕ))) (h : List PieceView) : Type 0 where
  pub newest : IsNewest latest h
  pub given : IsGreatest last_given (given_in h)
  pub held : HoldsOnly (is_kept latest last_given ready) places h
  pub waiting : Waits ready last_given h

abbrev pub Stood : Reception → PoolView → List PieceView → Type 0
Stood a pool h = Holds a.newest a.given (whole_of a.waiting) (held a.heads pool) h

-- what contracts see of a partner
abbrev pub partner_of : PoolView → Reception → PartnerView
partner_of pool a = record {
  newest = a.newest;
  given = a.given;
  held = messages_from 0 a.heads.heads (blocks_of pool a.heads.owner);
  waiting = whole_of a.waiting;
}
