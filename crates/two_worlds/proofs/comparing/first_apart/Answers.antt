use Rattle.std.proofs.Common.{◌≡◌, ◌≤◌, length, map, Some, refl, arith, slice_index_or}
use Rattle.std.specs.Prelude.{slice_get}
use Rattle.std.proofs.lemmas.List.{length-map}
use Rattle.std.proofs.lemmas.Option.{slice_get-get_or, slice_get_read}
use Rattle.two_worlds.specs.declared.places.LowItem.{LowItem}
use Rattle.two_worlds.specs.declared.places.LowItem.TheVariants as at
use Rattle.two_worlds.specs.LowParts.{entry_at}
use Rattle.two_worlds.proofs.Lists.{differ_here, differ_at_end, differ_past_end, same_to_end, same_one_more}
use Rattle.two_worlds.proofs.comparing.first_apart.Goals as goal

pub returns-in_default-clause-apart : goal.returns-in_default-clause-apart
returns-in_default-clause-apart c =
    let xs = map (entry_at c.args.a.now) c.args.first.now in
    let ys = map (entry_at c.args.b.now) c.args.second.now in
    let long : length xs ≡ length c.args.first.now = length-map c.args.first.now (entry_at c.args.a.now) in
    let other : length ys ≡ length c.args.second.now = length-map c.args.second.now (entry_at c.args.b.now) in
    let past : length c.args.second.now ≤ c.loop-place.place = c.in_default.ensures.lookup.3 in
    differ_past_end xs ys c.loop-place.place c.loop-place.invariant (omega arith) (omega arith)

pub returns-then-not-is_same-clause-apart : goal.returns-then-not-is_same-clause-apart
returns-then-not-is_same-clause-apart c =
    let xs = c.args.first.now in
    let ys = c.args.second.now in
    let n = c.loop-place.place in
    let x : LowItem = slice_index_or xs n (at.Row 0) in
    let y = c.in-Some.y.now in
    let found = c.in-Some.ensures.lookup in
    let is_x : slice_get xs n ≡ Some x = slice_get-get_or xs n (at.Row 0) (omega arith) in
    let is_y : slice_get ys n ≡ Some y = slice_get_read ys (length ys) n y refl found.3.0 found.1 in
    differ_here (entry_at c.args.a.now) (entry_at c.args.b.now) xs ys n x y c.loop-place.invariant is_x is_y
    (λ e. let same = c.is_same.ensures.1 e in cc)

pub loop-place-preserved : goal.loop-place-preserved
loop-place-preserved c =
    let xs = c.args.first.now in
    let ys = c.args.second.now in
    let n = c.loop-place.place in
    let x : LowItem = slice_index_or xs n (at.Row 0) in
    let y = c.in-Some.y.now in
    let found = c.in-Some.ensures.lookup in
    let is_x : slice_get xs n ≡ Some x = slice_get-get_or xs n (at.Row 0) (omega arith) in
    let is_y : slice_get ys n ≡ Some y = slice_get_read ys (length ys) n y refl found.3.0 found.1 in
    same_one_more (entry_at c.args.a.now) (entry_at c.args.b.now) xs ys n x y c.loop-place.invariant is_x is_y
    (c.is_same.ensures.0 c.if-not-is_same.false)

pub returns-then-first-second-clause-apart : goal.returns-then-first-second-clause-apart
returns-then-first-second-clause-apart c =
    let xs = map (entry_at c.args.a.now) c.args.first.now in
    let ys = map (entry_at c.args.b.now) c.args.second.now in
    let long : length xs ≡ length c.args.first.now = length-map c.args.first.now (entry_at c.args.a.now) in
    let other : length ys ≡ length c.args.second.now = length-map c.args.second.now (entry_at c.args.b.now) in
    differ_at_end xs ys (length c.args.first.now) (λ k lt. c.loop-place.invariant k (omega (arith, lt))) (omega arith)
    (omega arith)

pub returns-else-first-second-clause-apart : goal.returns-else-first-second-clause-apart
returns-else-first-second-clause-apart c =
    let xs = map (entry_at c.args.a.now) c.args.first.now in
    let ys = map (entry_at c.args.b.now) c.args.second.now in
    let long : length xs ≡ length c.args.first.now = length-map c.args.first.now (entry_at c.args.a.now) in
    let other : length ys ≡ length c.args.second.now = length-map c.args.second.now (entry_at c.args.b.now) in
    same_to_end xs ys (length c.args.first.now) (λ k lt. c.loop-place.invariant k (omega (arith, lt))) (omega arith)
    (omega arith)
