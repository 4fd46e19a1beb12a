use Rattle.std.proofs.Common.{◌≡◌, ℕ, ◌+◌, ◌-◌, ◌<◌, ◌∷◌, ◌++◌, List, [], length, take, Option, Some, sym, ap, ◌∙◌, arith, length-append}
use Rattle.std.specs.Borrow.{Bor}
use Rattle.std.proofs.lemmas.Grind.{common_steps}
use Rattle.std.specs.Prelude.{slice_set}
use Rattle.script.specs.inside.Readers.{edits_read, words, words_behind}
use Rattle.script.proofs.Cutting.{some_part}
use Rattle.script.proofs.EditWords.{onto, edit_more, edit_none, edits_end, edits_full, one_more, all_read}
use Rattle.script.proofs.edits.edit_words.Goals as goal

pub returns-in_err-offset : goal.returns-in_err-offset
returns-in_err-offset c =
    let none = edit_none c.loop-i.i c.loop-i.least c.first_word.result.0.now
    (words_behind c.first_word.result.1) (take c.loop-i.i c.loop-i.pairs)
    (edits_read 8 0 (words c.args.text.now)) (omega arith) (words c.loop-i.rest.now)
    c.first_word.ensures c.loop-i.invariant.said (sym c.in_err-offset.ensures.edit) in
    grind (arith, common_steps)

pub returns-in-None : goal.returns-in-None
returns-in-None c =
    let i = c.loop-i.i in
    let edit : ℕ × ℕ = (c.in_ok-offset.offset, c.in_ok-offset.xor) in
    let front = take i c.loop-i.pairs in
    let all = edits_read 8 0 (words c.args.text.now) in
    let now = take (i + 1) (slice_set c.loop-i.pairs i edit) in
    let cut : words c.loop-i.rest.now ≡ c.first_word.result.0.now ∷ [] = c.first_word.ensures
    ∙ ap (λ (b : Option (Bor (List ℕ))). c.first_word.result.0.now ∷ words_behind b)
    c.in-None.is in
    let more = edit_more i c.loop-i.least c.first_word.result.0.now [] front all (omega arith)
    (words c.loop-i.rest.now) cut c.loop-i.invariant.said edit (sym c.in_ok-offset.ensures.edit) in
    let last = edits_end all (front ++ edit ∷ []) (8 - (i + 1)) (edit.0 + 1) more in
    let same : now ≡ front ++ edit ∷ [] =
    one_more c.loop-i.pairs i edit (omega (arith, c.loop-i.invariant.wide)) in
    let said : all ≡ Some now = last ∙ ap Some (sym same) in
    let some : 0 < length now =
    omega (arith, ap length same, length-append front (edit ∷ [])) in
    let are = all_read (words c.args.text.now) now some said in
    let is = c.new.ensures.some.1 are in
    grind (arith, common_steps, said, is)

pub loop-i-preserved : goal.loop-i-preserved
loop-i-preserved c =
    let i = c.loop-i.i in
    let edit : ℕ × ℕ = (c.in_ok-offset.offset, c.in_ok-offset.xor) in
    let front = take i c.loop-i.pairs in
    let all = edits_read 8 0 (words c.args.text.now) in
    let behind = words c.in-Some.more.now in
    let cut : words c.loop-i.rest.now ≡ c.first_word.result.0.now ∷ behind = c.first_word.ensures
    ∙ ap (λ (b : Option (Bor (List ℕ))). c.first_word.result.0.now ∷ words_behind b)
    c.in-Some.is in
    let more = edit_more i c.loop-i.least c.first_word.result.0.now behind front all (omega arith)
    (words c.loop-i.rest.now) cut c.loop-i.invariant.said edit (sym c.in_ok-offset.ensures.edit) in
    let same = one_more c.loop-i.pairs i edit (omega (arith, c.loop-i.invariant.wide)) in
    record {
      said = more ∙ ap (λ (f : List (ℕ × ℕ)). onto f (edits_read (8 - (i + 1)) (edit.0 + 1) behind))
          (sym same);
      low = omega (arith, c.in_ok-offset.ensures.most);
      wide = grind (arith, common_steps);
    }

pub returns : goal.returns
returns c =
    let some = some_part 32 c.loop-i.rest.now in
    sym (edits_full (edits_read 8 0 (words c.args.text.now)) (take c.loop-i.i c.loop-i.pairs) _
    c.loop-i.least some.0 some.1 (words c.loop-i.rest.now) (omega arith) some.2
    c.loop-i.invariant.said)
