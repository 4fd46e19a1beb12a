use Rattle.std.proofs.Common.{◌≡◌, Some, sym, ap, ◌∙◌, arith}
use Rattle.std.proofs.lemmas.Grind.{common_steps}
use Rattle.levels.specs.Rosters.{RosterView, level_at}
use Rattle.two_worlds.specs.LowParts.{low_items}
use Rattle.two_worlds.proofs.OneWay.{compares_alike, compares_apart, all_hold, level_there}
use Rattle.two_worlds.proofs.comparing.compare.Goals as goal
use Rattle.two_worlds.proofs.comparing.compare.Goals.{in-Some, in-None}

pub first_apart-requires-clause-a : goal.first_apart-requires-clause-a
first_apart-requires-clause-a c =
    let roster : c.args.a.now.roster ≡ c.args.b.now.roster = grind arith in
    let own = level_there c.args.a.now.roster c.args.level (c.requires roster) in
    let part = c.in_ok-first.ensures.places own.0 own.1 in
    let is : c.items.result.now ≡ low_items own.0 c.args.a.now = cc in
    all_hold own.0 c.args.a.now c.items.result.now is

pub first_apart-requires-clause-b : goal.first_apart-requires-clause-b
first_apart-requires-clause-b c =
    let roster : c.args.a.now.roster ≡ c.args.b.now.roster = grind arith in
    let own = level_there c.args.a.now.roster c.args.level (c.requires roster) in
    let at = ap (λ (r : RosterView). level_at r (Some c.args.level)) (sym roster) ∙ own.1 in
    let part = c.in_ok-second.ensures.places own.0 at in
    let is : c.items-2.result.now ≡ low_items own.0 c.args.b.now = cc in
    all_hold own.0 c.args.b.now c.items-2.result.now is

pub overflow_cast-result : goal.overflow_cast-result
overflow_cast-result c =
    let few = c.in_ok-first.ensures.few in
    let within = c.in-Some.ensures.within in
    grind (arith, common_steps)

pub overflow_add-result : goal.overflow_add-result
overflow_add-result c =
    let few = c.in_ok-first.ensures.few in
    let within = c.in-Some.ensures.within in
    grind (arith, common_steps)

pub returns-clause-compares : goal.returns-clause-compares
returns-clause-compares c = λ own at.
    let a = c.args.a.now in
    let b = c.args.b.now in
    let roster : a.roster ≡ b.roster = grind arith in
    let there = ap (λ (r : RosterView). level_at r (Some c.args.level)) (sym roster) ∙ at in
    let first = c.in_ok-first.ensures.places own at in
    let second = c.in_ok-second.ensures.places own there in
    let is_first : c.items.result.now ≡ low_items own a = cc in
    let is_second : c.items-2.result.now ≡ low_items own b = cc in
    elim c.match-first_apart.branch [
      | in-Some w ↦
          compares_apart own a b c.items.result.now c.items-2.result.now w.in-Some.place c.match-first_apart.result
          roster is_first is_second w.in-Some.ensures.apart w.result-is
      | in-None w ↦
          compares_alike own a b c.items.result.now c.items-2.result.now c.match-first_apart.result roster is_first
          is_second w.in-None.ensures.apart w.result-is
    ]
