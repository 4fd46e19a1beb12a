use Rattle.std.proofs.Common.{◌≡◌, [], ◌∷◌, ◌++◌, List, map, ap, ap₂, sym, ◌∙◌, length}
use Rattle.std.specs.Prelude.{nat_lt, if◌then◌else◌}
use Rattle.std.proofs.lemmas.List.{map-append, length-map}
use Rattle.machine.specs.declared.line.OutLine.{OutLine}
use Rattle.engine.specs.inside.Alone.{lines_in}
use Rattle.engine.specs.inside.Closed.{lines_left, wire_left, tally_left}
use Rattle.engine.proofs.Left.{all_yielded, lines_one}
use Rattle.engine.proofs.desks.Desks.close.Goals as goal

pub loop-desk-preserved : goal.loop-desk-preserved
loop-desk-preserved g c =
    let was = c.loop-desk.invariant in
    let desks = c.loop-desk.yielded in
    let desk = c.in-Some.desk in
    let counted : length c.loop-desk.closed.wires.items ≡ length desks =
    ap length was.wires ∙ length-map desks wire_left in
    record {
      told = c.in_ok-push.ensures.lines
          ∙ ap₂ (λ (lines : List (List OutLine)) n. lines
          ++ (if nat_lt n 256 then lines_in desk ∷ [] else [])) was.told counted
          ∙ sym (lines_one desks desk);
      wires = c.in_ok-push.ensures.wires
          ∙ ap (λ ws. ws ++ wire_left desk ∷ []) was.wires
          ∙ sym (map-append wire_left desks (desk ∷ []));
      tallies = c.in_ok-push.ensures.tallies
          ∙ ap (λ ts. ts ++ tally_left desk ∷ []) was.tallies
          ∙ sym (map-append tally_left desks (desk ∷ []));
    }

pub returns-clause-lines : goal.returns-clause-lines
returns-clause-lines g c =
    let all : c.into_iter-desk-iterator.result.rest.items ≡ c.into_slots-desk-items.result.items =
    c.into_iter-desk-iterator.ensures.into_iter_gives.0 in
    c.loop-desk.invariant.told
    ∙ ap lines_left (sym (all_yielded c.into_iter-desk-iterator.result c.loop-desk.yielded
    c.loop-desk.desk-iterator c.loop-desk.yielded_by c.in-None.ensures.steps.0)
    ∙ all ∙ c.into_slots-desk-items.ensures.same)

pub returns-clause-wires : goal.returns-clause-wires
returns-clause-wires g c =
    let all : c.into_iter-desk-iterator.result.rest.items ≡ c.into_slots-desk-items.result.items =
    c.into_iter-desk-iterator.ensures.into_iter_gives.0 in
    c.loop-desk.invariant.wires
    ∙ ap (map wire_left) (sym (all_yielded c.into_iter-desk-iterator.result c.loop-desk.yielded
    c.loop-desk.desk-iterator c.loop-desk.yielded_by c.in-None.ensures.steps.0)
    ∙ all ∙ c.into_slots-desk-items.ensures.same)

pub returns-clause-tallies : goal.returns-clause-tallies
returns-clause-tallies g c =
    let all : c.into_iter-desk-iterator.result.rest.items ≡ c.into_slots-desk-items.result.items =
    c.into_iter-desk-iterator.ensures.into_iter_gives.0 in
    c.loop-desk.invariant.tallies
    ∙ ap (map tally_left) (sym (all_yielded c.into_iter-desk-iterator.result c.loop-desk.yielded
    c.loop-desk.desk-iterator c.loop-desk.yielded_by c.in-None.ensures.steps.0)
    ∙ all ∙ c.into_slots-desk-items.ensures.same)
