use Rattle.std.proofs.Common.{◌≡◌, refl, false, arith}
use Rattle.std.proofs.lemmas.Result.{err_from_is_err_and}
use Rattle.levels.specs.Rosters.{is_taken}
use Rattle.levels.specs.inside.Rosters.{view_of}
use Rattle.levels.proofs.Growth.{keeps_level}
use Rattle.levels.proofs.roster.Roster.add_level.Goals as goal

pub invariant_of-self : goal.invariant_of-self
invariant_of-self c = rw c.in_err-push.ensures.items c.self.invariant

pub returns-in_err-push : goal.returns-in_err-push
returns-in_err-push c =
    let p = err_from_is_err_and c.from_residual.result c.from_residual.ensures.1 in
    let new : is_taken (view_of c.self.inside) c.args.name c.args.level ≡ false = grind arith in
    rw (p.1, p.2, c.in_err-push.ensures.items, ← c.self.view_is) (new, omega arith, refl)

pub invariant_of-self-2 : goal.invariant_of-self-2
invariant_of-self-2 c =
    let new : is_taken (view_of c.self.inside) c.args.name c.args.level ≡ false = grind arith in
    rw c.in_ok-push.ensures.items (keeps_level (view_of c.self.inside) c.args.name c.args.level c.self.invariant new
    (omega arith) (record { name = c.bytes.ensures.name; rank = c.requires; cats = omega arith }))
