use Rattle.std.proofs.Common.{◌≡◌, ◌+◌, ◌-◌, ◌++◌}
use Rattle.script.specs.Spelling.{letters}
use Rattle.script.proofs.write_word.write_letters.Given as goal

-- what is written and the letters that are left make all letters
abbrev pub invariant-loop-i : goal.invariant-loop-i
invariant-loop-i l = l.text.items ++ letters (16 - l.i) (97 + l.i) l.left ≡ l.initial.text.items
    ++ letters 16 97 l.fn.cats
