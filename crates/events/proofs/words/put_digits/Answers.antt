use Rattle.std.proofs.Common.{◌≡◌, ◌+◌, ◌-◌, ◌∙◌, arith, length-set}
use Rattle.events.proofs.Digits.{one_place_fewer, last_digit_put, only_digit_put}
use Rattle.events.proofs.words.put_digits.Goals as goal

pub loop-rest-preserved : goal.loop-rest-preserved
loop-rest-preserved c =
    let l = c.loop-rest in
    let fewer = one_place_fewer l.rest l.start c.loop-rest-test.true l.invariant.fits in
    let back : l.start - 1 + 1 ≡ l.start = omega (arith, fewer.0) in
    record {
      within = omega arith;
      fits = fewer.1;
      long = length-set l.row l.start _ ∙ l.invariant.long;
      digits = rw back (last_digit_put l.rest l.start l.row c.loop-rest-test.true (omega arith) (omega arith))
          ∙ l.invariant.digits;
    }

pub returns-clause-digits : goal.returns-clause-digits
returns-clause-digits c =
    let l = c.loop-rest in
    only_digit_put l.rest l.start l.row c.loop-rest-test.false (omega arith) ∙ l.invariant.digits
