use Rattle.std.proofs.Common.{◌≡◌, ◌++◌, ◌∷◌, take}
use Rattle.std.specs.List.{flat_map}
use Rattle.script.specs.Spelling.{edit_text}
use Rattle.script.proofs.write_event.write_edits.Given as goal

abbrev pub invariant-loop-offset : goal.invariant-loop-offset
invariant-loop-offset l =
    l.text.items ≡ l.initial.text.items
    ++ flat_map (λ edit. 32 ∷ edit_text edit) (take l.offset-index l.edits)
