use Rattle.std.proofs.Common.{◌≡◌, take, length, replicate, sym, ◌∙◌}
use Rattle.std.specs.Cmp.Lexicographic.{bytes_decides}
use Rattle.std.proofs.lemmas.List.{take-replicate}
use Rattle.frame.proofs.piece.are_zeros.Goals as goal

pub returns : goal.returns
returns c =
    let n = length c.args.bytes.now in
    let zeros : take n (replicate 104 0) ≡ replicate n 0 = take-replicate n 104 0 c.requires in (
      λ same. (bytes_decides c.args.bytes.now (take n (replicate 104 0))).0 (sym c.eq.ensures ∙ same) ∙ zeros,
      λ same. c.eq.ensures
          ∙ (bytes_decides c.args.bytes.now (take n (replicate 104 0))).1 (same ∙ sym zeros),
    )
