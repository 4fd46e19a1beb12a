use Rattle.std.proofs.Common.{◌≡◌, length, refl, arith}
use Rattle.two_worlds.proofs.Lists.{same_below}
use Rattle.two_worlds.proofs.rosters.same_keys.Goals as goal

pub returns : goal.returns
returns c =
    let a = c.args.a.now.keys in
    let b = c.args.b.now.keys in
    let long : length a ≡ length b = omega arith in
    (λ _. same_below a b long (λ k lt. c.loop-i.invariant k (omega (arith, lt))), λ _. refl)
