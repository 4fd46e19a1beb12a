use Rattle.std.proofs.Common.{◌≡◌, None, Some, sym, ◌∙◌, cond, ltb, length, rules, tests}
use Rattle.std.specs.Prelude.{◌==◌}
use Rattle.std.specs.List.{position_or_len}
use Rattle.std.proofs.lemmas.Iterator.{YieldsList-from_slice}
use Rattle.std.proofs.lemmas.Iterator.Search.{position_from_yields_List}
use Rattle.window.proofs.Seen.{none_among}
use Rattle.window.proofs.window.open_at.Goals as goal

pub returns-in-None : goal.returns-in-None
returns-in-None c =
    let found : c.position.result
    ≡ cond (ltb (position_or_len (λ p. p == c.args.address) c.args.partners.now) (length c.args.partners.now))
    (Some (position_or_len (λ p. p == c.args.address) c.args.partners.now)) None =
    position_from_yields_List (λ p. p == c.args.address) _ _ c.position.result
    c.position.ensures.ran (YieldsList-from_slice _ c.iter.ensures.rest) (λ x b q k. search (rules, tests)) in
    none_among c.args.partners.now c.args.address (sym found ∙ c.in-None.is)
