use Rattle.std.proofs.Common.{◌≡◌, true, sym, ◌∙◌}
use Rattle.levels.specs.Names.{is_level_name}
use Rattle.levels.proofs.Padding.{padded_name}
use Rattle.levels.proofs.name.LevelName.new.Goals as goal

pub invariant_of-result : goal.invariant_of-result
invariant_of-result c =
    let name : is_level_name c.args.text.now ≡ true = sym c.is_level_name.ensures ∙ c.if-not-is_level_name.false in
    padded_name c.args.text.now c.copy_from_slice.new.self name c.copy_from_slice.ensures.after
