-- How edits are kept, and how a list of them is looked through.
use Rattle.std.specs.Prelude.{◌≡◌, ℕ, ◌≤◌, ◌+◌, List, [], ◌∷◌, length, take, Bool, true, ◌&&◌, nat_lt, nat_le}
use Rattle.events.specs.declared.edits.Edits.TheInside.{Inside}
use Rattle.events.specs.Edits.{AreEdits}

abbrev pub pairs_of : Inside → List (ℕ × ℕ)
pairs_of a = take a.length a.pairs

pub record IsKept (a : Inside) : Type 0 where
  pub short : a.length ≤ 8
  pub wide : length a.pairs ≡ 8
  pub edits : AreEdits (pairs_of a)

-- whether each offset is at least one more than the one before it, the first at least the least
abbrev pub rise_from : ℕ → List (ℕ × ℕ) → Bool
rise_from least [] = true
rise_from least (pair ∷ pairs) =
    nat_le least pair.0 && nat_lt pair.0 128 && nat_lt 0 pair.1 && rise_from (pair.0 + 1) pairs
