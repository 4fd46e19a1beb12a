use Rattle.std.proofs.Common.{◌++◌, take, ◌<◌, length, arith, rules}
use Rattle.std.proofs.lemmas.Result.{err_from_is_err_and}
use Rattle.std.proofs.KnownBytes.{Appends-trans, Appends-kept}
use Rattle.dss_io.proofs.WrittenBytes.{front_more, AppendsProperPrefix-from_front}
use Rattle.dss_io.proofs.writing.write_all.Goals as goal

pub returns-in_err-count-clause-err : goal.returns-in_err-count-clause-err
returns-in_err-count-clause-err g c =
    let stop = err_from_is_err_and c.from_residual.result c.from_residual.ensures.1 in
    let front = c.loop-rest.invariant.done in
    let more : 0 < length c.loop-rest.rest.now = search rules in
    rw stop.1
    (AppendsProperPrefix-from_front _ _ _ front.0 c.loop-rest.rest.now front.1 more
    (Appends-kept _ _ _ _ front.2 c.in_err-count.ensures.bytes))

pub loop-rest-preserved : goal.loop-rest-preserved
loop-rest-preserved g c =
    let front = c.loop-rest.invariant.done in
    let count = c.in_ok-count.count in
    let rest = c.loop-rest.rest.now in
    record {
      done = (
        front.0 ++ take count rest,
        front_more _ front.0 rest count front.1,
        Appends-trans _ _ _ front.0 (take count rest) front.2 c.in_ok-count.ensures.bytes,
      );
      kept = omega (arith, c.in_ok-count.ensures.kept);
    }
