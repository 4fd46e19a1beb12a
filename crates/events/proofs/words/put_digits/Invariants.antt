use Rattle.std.proofs.Common.{◌≡◌, ◌+◌, ◌++◌, ◌≤◌, ◌<◌, ◌^◌, length, drop}
use Rattle.std.specs.Fmt.{decimal}
use Rattle.events.proofs.words.put_digits.Given as goal

abbrev pub invariant-loop-rest : goal.invariant-loop-rest
invariant-loop-rest l = record {
  within : l.start ≤ 9;
  fits : l.rest < 10 ^ (l.start + 1);
  long : length l.row ≡ 10;
  digits : decimal l.rest ++ drop (l.start + 1) l.row ≡ decimal l.fn.n;
}

abbrev pub decreases-loop-rest : goal.decreases-loop-rest
decreases-loop-rest l = l.rest
