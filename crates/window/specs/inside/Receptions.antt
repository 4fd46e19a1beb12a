-- What is kept of each address.
use Rattle.std.specs.Prelude.{◌≡◌, ℕ, ◌<◌, ◌∷◌, List, map, length, replicate, slice_index, true, false, Option, Some, None}
use Rattle.std.specs.Prelude.{vec_capacity}
use Rattle.std.proofs.Math.ListN.{get_or}
use Rattle.frame_pool.specs.PoolView.{PoolView}
use Rattle.window.specs.WindowView.{PartnerView, WindowView}
use Rattle.window.specs.Windows.{is_among}
use Rattle.window.specs.inside.Standing.{partner_of, KeepsAll}
use Rattle.window.specs.declared.reception.Reception.{Reception}
use Rattle.window.specs.declared.window.Window.TheInside.{Inside}

abbrev pub partner_in : PoolView → Option Reception → Option PartnerView
partner_in pool None = None
partner_in pool (Some reception) = Some (partner_of pool reception)

-- what is kept at an address is in the pool
abbrev pub KeptIn : PoolView → Option Reception → Type 0
KeptIn pool None = Unit {0}
KeptIn pool (Some reception) = KeepsAll reception pool

-- this reception is at this address
abbrev pub IsAt : List (Option Reception) → ℕ → Reception → Type 0
IsAt receptions a reception = get_or receptions a None ≡ Some reception

-- no two addresses have one owner of the pool
abbrev pub AreApart : List (Option Reception) → Type 0
AreApart receptions = (a b : ℕ) (left right : Reception) → IsAt receptions a left
    → IsAt receptions b right → left.heads.owner ≡ right.heads.owner → a ≡ b

-- a reception to which nothing has come
pub record IsFresh (a : Reception) : Type 0 where
  pub newest : a.newest ≡ None
  pub given : a.given ≡ None
  pub waiting : a.waiting ≡ None
  pub heads : a.heads.heads ≡ replicate 4 None

-- nothing has come yet, where it is a partner, whose owner is its place among the partners
abbrev pub Opened : List ℕ → ℕ → Option Reception → Type 0
Opened partners a None = is_among partners a ≡ false
Opened partners a (Some reception) = (is_among partners a ≡ true) × IsFresh reception
    × (reception.heads.owner < length partners)
    × (slice_index partners reception.heads.owner ≡ a)

pub record Kept (a : Inside) : Type 0 where
  pub long : length a.receptions.items ≡ 256
  pub kept : (b : ℕ) → KeptIn a.pool (get_or a.receptions.items b None)
  pub apart : AreApart a.receptions.items

abbrev pub view_of : Inside → WindowView
view_of a = record {
  partners = map (partner_in a.pool) a.receptions.items;
  room = vec_capacity a.receptions ∷ a.pool.room;
}
