use Rattle.std.proofs.Common.{◌≡◌, refl, None, sym, subst, ◌<◌, length, arith}
use Rattle.std.proofs.lemmas.Result.{err_from_is_err_and}
use Rattle.levels.specs.Rosters.{RosterView, host_row}
use Rattle.levels.specs.inside.Rosters.{view_of}
use Rattle.levels.proofs.Growth.{keeps_host}
use Rattle.levels.proofs.roster.Roster.add_host.Goals as goal

pub invariant_of-self : goal.invariant_of-self
invariant_of-self c = rw c.in_err-push.ensures.err c.self.invariant

pub returns-in_err-push : goal.returns-in_err-push
returns-in_err-push c =
    let p = err_from_is_err_and c.from_residual.result c.from_residual.ensures.1 in
    let none : host_row (view_of c.self.inside) c.args.address ≡ None = grind arith in
    let few : length c.self.inside.hosts < 64 = grind arith in
    rw (p.1, p.2, c.in_err-push.ensures.err, ← c.self.view_is) (none, few, refl)

pub invariant_of-self-2 : goal.invariant_of-self-2
invariant_of-self-2 c =
    let P : RosterView → Type 0 = λ roster. c.args.partition.0 < length roster.levels in
    let within = subst P (sym c.self.view_is) c.requires.partition in
    let none : host_row (view_of c.self.inside) c.args.address ≡ None = grind arith in
    let few : length c.self.inside.hosts < 64 = grind arith in
    rw c.in_ok-push.ensures.ok (keeps_host (view_of c.self.inside) c.args.address c.args.partition c.self.invariant
    none few (record { least = omega arith; most = omega arith; partition = within }))
