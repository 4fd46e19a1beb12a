-- Where no event may stand.
use Rattle.std.proofs.Common.{◌≡◌, Some, refl}
use Rattle.events.specs.declared.script.Script.{Script}
use Rattle.script.specs.declared.refusal.Reason.TheVariants.{Place}
use Rattle.script.specs.declared.stage.Stage.{Stage}
use Rattle.script.specs.declared.stage.Stage.TheVariants.{Nothing, Version, Sealed, Levels, Keys, Guarded, Hosts, Planned, Begun, Events, Ended}
use Rattle.script.specs.Lines.{EventWords}
use Rattle.script.specs.Lines as line
use Rattle.script.specs.Reasons.{against}
use Rattle.script.specs.inside.Stages.{seen}

-- Events stand behind `begin` or another event alone.
pub misplaced : (stage : Stage) (words : EventWords) → ((script : Script) → stage ≡ Begun script → ⊥)
    → ((script : Script) → stage ≡ Events script → ⊥) → against (seen stage) (line.Event words) ≡ Some Place
unfolding against
misplaced Nothing words first further = refl
misplaced Version words first further = refl
misplaced Sealed words first further = refl
misplaced (Levels roster) words first further = refl
misplaced (Keys roster) words first further = refl
misplaced (Guarded roster) words first further = refl
misplaced (Hosts roster) words first further = refl
misplaced (Planned script) words first further = refl
misplaced (Begun script) words first further = absurd (first script refl)
misplaced (Events script) words first further = absurd (further script refl)
misplaced (Ended script) words first further = refl
