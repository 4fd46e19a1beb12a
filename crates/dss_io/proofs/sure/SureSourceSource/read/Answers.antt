use Rattle.std.proofs.Common.{arith}
use Rattle.dss_io.proofs.TakenBytes.{given_front, none_left}
use Rattle.dss_io.proofs.sure.SureSourceSource.read.Goals as goal

pub returns-clause-bytes : goal.returns-clause-bytes
returns-clause-bytes c =
    let source = c.self.inside in
    let given = rw c.deref.ensures.value at c.copy_from_slice.ensures.after in
    rw (← c.self.view_is) (
      given_front source.bytes.items source.next _ _ _ (omega arith) given,
      λ none room. none_left source.bytes.items _ (omega arith),
    )
