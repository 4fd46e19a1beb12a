use Rattle.std.proofs.Common.{◌+◌, ◌≤◌, vec_len, arith}
use Rattle.std.proofs.lemmas.Grind.{common_steps}
use Rattle.std.proofs.lemmas.Result.{err_from_is_err_and}
use Rattle.dss_io.proofs.TakenBytes.{Takes-more}
use Rattle.dss_io.proofs.reading.read_all.Goals as goal

pub returns-then-count-limit-clause-taken : goal.returns-then-count-limit-clause-taken
returns-then-count-limit-clause-taken g c =
    let asked : c.in_ok-count.count ≤ c.min-room.result + 1 =
    grind (arith, common_steps, c.in_ok-count.ensures.bound.0, c.read.auto.buf) in
    Takes-more _ _ _ _ _ _ _ c.loop-text.invariant.given c.in_ok-count.ensures.bytes.0 c.in_ok-count.ensures.bound.0
    (omega (arith, asked))

pub returns-in_err-extend_from_slice-clause-taken :
    goal.returns-in_err-extend_from_slice-clause-taken
returns-in_err-extend_from_slice-clause-taken g c =
    let stop = err_from_is_err_and c.from_residual-in_err-extend_from_slice.result
    c.from_residual-in_err-extend_from_slice.ensures.1 in
    rw (stop.1, stop.2) (
      vec_len c.loop-text.text + c.in_ok-count.count,
      omega arith,
      Takes-more _ _ _ _ _ _ _ c.loop-text.invariant.given c.in_ok-count.ensures.bytes.0
          c.in_ok-count.ensures.bound.0 (omega arith),
    )
