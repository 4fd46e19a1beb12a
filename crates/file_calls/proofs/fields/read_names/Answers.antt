use Rattle.std.proofs.Common.{◌≡◌, ℕ, length, true, ◌-◌, ◌+◌, suc, sym, ap, ◌∙◌, arith, Some, ◌++◌, ◌∷◌, [], slice_index_or, length-append}
use Rattle.file_calls.specs.Names.{name_of, are_rising}
use Rattle.file_calls.specs.inside.Reading.{name_parts}
use Rattle.file_calls.proofs.Rising.{names_behind-more}
use Rattle.file_calls.proofs.fields.read_names.Goals as goal

pub loop-name-preserved : goal.loop-name-preserved
loop-name-preserved c =
    let count = slice_index_or c.args.bytes.now 0 0 in
    let more : count - c.loop-name._name ≡ suc (count - (c.loop-name._name + 1)) =
    omega (arith, c.loop-name-test.true) in
    let parted : name_parts c.loop-name.rest.now ≡ Some (c.in-Some.name.now, c.in-Some.behind.now) =
    sym c.in-Some.ensures in
    let named : name_of c.in-Some.name.now ≡ Some c.in-Some-2.name = sym c.in_ok-name.ensures ∙ c.in-Some-2.is in
    let rising : are_rising (c.loop-name.names ++ c.in-Some-2.name ∷ []) ≡ true = sym c.is_below.ensures
    ∙ c.if-not-is_below.false in
    let step = names_behind-more _ _ c.loop-name.names c.loop-name.rest.now c.in-Some-2.name _ more parted named
    rising in
    record {
      left = rw c.in_ok-push.ensures.ok (sym step ∙ c.loop-name.invariant.left);
      made =
          ap length c.in_ok-push.ensures.ok ∙ length-append c.loop-name.names (c.in-Some-2.name ∷ [])
          ∙ ap (λ (n : ℕ). n + 1) c.loop-name.invariant.made;
      few = c.loop-name.invariant.few;
    }
