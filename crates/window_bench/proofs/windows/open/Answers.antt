use Rattle.std.proofs.Common.{length, ◌∙◌, ap, arith}
use Rattle.std.specs.Prelude.{slice_index}
use Rattle.std.proofs.lemmas.Result.{IfOk-weaker}
use Rattle.window_bench.proofs.OwnPlaces.{are_different, each_among}
use Rattle.window_bench.proofs.windows.open.Goals as goal

pub open-requires-clause-few : goal.open-requires-clause-few
open-requires-clause-few c = let made =
    c.in_ok-partners.ensures in omega (arith, made.count, ap length c.deref.ensures.value, c.requires)

pub open-requires-clause-different : goal.open-requires-clause-different
open-requires-clause-different c =
    let made = c.in_ok-partners.ensures in
    let same = c.deref.ensures.value in
    are_different c.deref.result.now
    (λ i below. ap (λ xs. slice_index xs i) same ∙ made.numbers i (omega (arith, made.count, ap length same)))

pub returns-clause-partners : goal.returns-clause-partners
returns-clause-partners c =
    let made = c.in_ok-partners.ensures in
    let same = c.deref.ensures.value in
    IfOk-weaker c.open.result _ _
    (λ window partners a below. partners a (omega (arith, below, c.requires))
    ∙ each_among c.deref.result.now a (ap (λ xs. slice_index xs a) same ∙ made.numbers a below)
    (omega (arith, made.count, ap length same)))
    c.open.ensures.partners
