use Rattle.std.proofs.Common.{◌+◌, ◌∷◌, [], arith, ◌++◌}
use Rattle.std.proofs.lemmas.Grind.{common_steps}
use Rattle.std.proofs.lemmas.Bool.Decides.{nat_tests}
use Rattle.script.proofs.Writing.{letters_on, letters_done}
use Rattle.script.proofs.write_word.write_letters.Goals as goal
use Rattle.script.proofs.write_word.write_letters.Goals.{then-left-eq1+in_ok-push, else-left-eq1}

pub loop-i-preserved : goal.loop-i-preserved
loop-i-preserved c =
    elim c.if-left-eq1.branch [
      | then-left-eq1+in_ok-push w ↦
          letters_on c.loop-i.i (97 + c.loop-i.i) (97 + (c.loop-i.i + 1)) c.loop-i.left
          ((97 + c.loop-i.i) ∷ []) c.loop-i.text.items c.if-left-eq1.text.items
          (c.args.text.now.items ++ _)
          (omega arith) (omega arith) (grind (arith, nat_tests)) c.loop-i.invariant
          (grind (arith, common_steps))
      | else-left-eq1 w ↦
          letters_on c.loop-i.i (97 + c.loop-i.i) (97 + (c.loop-i.i + 1)) c.loop-i.left []
          c.loop-i.text.items c.if-left-eq1.text.items (c.args.text.now.items ++ _)
          (omega arith) (omega arith) (grind (arith, nat_tests)) c.loop-i.invariant
          (grind (arith, common_steps))
    ]

pub returns : goal.returns
returns c = letters_done c.loop-i.i (97 + c.loop-i.i) c.loop-i.left c.loop-i.text.items
    (c.args.text.now.items ++ _) (omega arith) c.loop-i.invariant
