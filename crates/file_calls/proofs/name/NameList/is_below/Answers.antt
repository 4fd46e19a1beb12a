use Rattle.std.proofs.Common.{◌≡◌, ◌-◌, length, Some, sym, ap, ◌∙◌}
use Rattle.std.specs.Prelude.{slice_get}
use Rattle.std.specs.Option.{option_copied}
use Rattle.std.proofs.lemmas.Bool.{and_parts}
use Rattle.file_calls.specs.Names.{are_rising}
use Rattle.file_calls.proofs.Rising.{are_rising-push}
use Rattle.file_calls.proofs.name.NameList.is_below.Goals as goal

pub returns-in-Some : goal.returns-in-Some
returns-in-Some c =
    let names = c.self.inside.names.items in
    let there : slice_get names (length names - 1) ≡ Some c.in-Some.last.now =
    rw (← c.deref.ensures.value) (sym c.last.ensures.value ∙ ap option_copied c.in-Some.is) in
    let rising = (and_parts _ (are_rising names) c.self.invariant).1 in
    rw (← c.self.view_is) (c.lt.ensures ∙ are_rising-push names c.in-Some.last.now c.args.name.now rising there)
