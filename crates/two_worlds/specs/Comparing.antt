-- How two scripts compare at a level.
use Rattle.std.specs.Prelude.{◌≡◌, ◌≢◌, ℕ, zero, suc, List, take, slice_get}
use Rattle.levels.specs.declared.level.Level.{Level}
use Rattle.events.specs.ScriptView.{ScriptView}
use Rattle.machine.specs.Low.{low}
use Rattle.two_worlds.specs.declared.comparing.Comparison.{Comparison}
use Rattle.two_worlds.specs.declared.comparing.Comparison.TheVariants.{Alike, Apart}
use Rattle.two_worlds.specs.LowParts.{entries}

-- two lists differ first at a place, from 0: they are the same up to there, and there they are not,
-- or just one of them has ended
pub record DifferFirst {A : Type 0} (place : ℕ) (xs ys : List A) : Type 0 where
  pub before : take place xs ≡ take place ys
  pub there : slice_get xs place ≢ slice_get ys place

-- two scripts of one roster differ first at this entry of their low parts, from 0
pub record DifferAt (level : Level) (a b : ScriptView) (place : ℕ) : Type 0 where
  pub roster : a.roster ≡ b.roster
  pub first : DifferFirst place (entries level a) (entries level b)

-- two scripts are apart at a place: at 0 where their rosters differ, else at the first place, from
-- 1, at which their low parts do
abbrev pub AreApartAt : Level → ScriptView → ScriptView → ℕ → Type 0
AreApartAt level a b zero = a.roster ≢ b.roster
AreApartAt level a b (suc place) = DifferAt level a b place

-- how two scripts compare at a level: they have one low part, or they are apart at a place
abbrev pub Compares : Level → ScriptView → ScriptView → Comparison → Type 0
Compares level a b Alike = low level a ≡ low level b
Compares level a b (Apart place) = AreApartAt level a b place
