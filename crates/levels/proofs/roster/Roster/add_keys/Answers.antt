use Rattle.std.proofs.Common.{◌≡◌, sym, subst, ◌∙◌, ◌<◌, length, false}
use Rattle.levels.specs.Rosters.{RosterView}
use Rattle.levels.specs.inside.Rosters.{view_of}
use Rattle.levels.specs.Adding.{is_refused}
use Rattle.levels.specs.declared.level.Sealing.TheVariants.{Des}
use Rattle.levels.proofs.Growth.{keeps_keys}
use Rattle.levels.proofs.roster.Roster.add_keys.Goals as goal

pub invariant_of-self-2 : goal.invariant_of-self-2
invariant_of-self-2 c =
    let roster = view_of c.self.inside in
    let des = subst (λ (r : RosterView). r.sealing ≡ Des) (sym c.self.view_is) c.requires.des in
    let room = subst (λ (r : RosterView). length r.keys < length r.levels) (sym c.self.view_is) c.requires.level in
    let new = subst (λ (r : RosterView). is_refused r c.args.keys ≡ false) (sym c.self.view_is)
    (sym c.is_refused.ensures.refused ∙ c.if-is_refused.false) in
    rw c.in_ok-push.ensures.items (keeps_keys roster c.args.keys c.self.invariant des room new
    (c.is_refused.ensures.pair c.if-is_refused.false))
