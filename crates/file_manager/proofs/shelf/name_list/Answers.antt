use Rattle.std.proofs.Common.{◌≡◌, ◌++◌, ◌∷◌, [], sym, ap, subst, ◌∙◌, append_assoc}
use Rattle.std.specs.List.Sorted.{IsStrictlySortedBy}
use Rattle.std.specs.BTreeMap.{keys}
use Rattle.std.specs.Map.Iter.{deref}
use Rattle.std.proofs.lemmas.Map.Iter.{rest_more}
use Rattle.file_calls.specs.Names.{name_cmp}
use Rattle.file_manager.proofs.Rising.{rising_front}
use Rattle.file_manager.proofs.shelf.name_list.Goals as goal

pub push-requires-clause-rising : goal.push-requires-clause-rising
push-requires-clause-rising c =
    let rest = c.next.new.self in
    let more : c.loop-name.name-iterator ≡ c.in-Some.name.now ∷ rest =
    rest_more deref c.loop-name.name-iterator rest _ c.in-Some.name c.in-Some.is c.next.ensures.steps in
    let whole : (c.loop-name.names ++ c.in_ok-copy.field-0 ∷ []) ++ rest ≡ keys c.args.files.now =
    append_assoc c.loop-name.names (c.in_ok-copy.field-0 ∷ []) rest
    ∙ ap (λ n. c.loop-name.names ++ (n ∷ rest)) c.in_ok-copy.ensures
    ∙ ap (λ r. c.loop-name.names ++ r) (sym more) ∙ c.loop-name.invariant in
    rising_front (c.loop-name.names ++ c.in_ok-copy.field-0 ∷ []) rest
    (subst (IsStrictlySortedBy name_cmp) (sym whole) c.keys-name-items.ensures.ordered)
