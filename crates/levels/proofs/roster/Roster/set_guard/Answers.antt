use Rattle.std.proofs.Common.{◌≡◌, sym, subst, ◌∙◌, false, None}
use Rattle.levels.specs.Rosters.{RosterView}
use Rattle.levels.specs.inside.Rosters.{view_of}
use Rattle.levels.specs.Adding.{is_refused}
use Rattle.levels.specs.declared.level.Sealing.TheVariants.{Des}
use Rattle.levels.proofs.Growth.{keeps_guard, is_unset}
use Rattle.levels.proofs.roster.Roster.set_guard.Goals as goal

pub invariant_of-self : goal.invariant_of-self
invariant_of-self c =
    let roster = view_of c.self.inside in
    let des = subst (λ (r : RosterView). r.sealing ≡ Des) (sym c.self.view_is) c.requires.des in
    let unset = subst (λ (r : RosterView). r.guard ≡ None) (sym c.self.view_is)
    (is_unset c.args.self.now.guard c.requires.unset) in
    let new = subst (λ (r : RosterView). is_refused r c.args.keys ≡ false) (sym c.self.view_is)
    (sym c.is_refused.ensures.refused ∙ c.if-is_refused.false) in
    keeps_guard roster c.args.keys c.self.invariant des unset new (c.is_refused.ensures.pair c.if-is_refused.false)
