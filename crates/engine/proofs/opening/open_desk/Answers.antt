use Rattle.std.proofs.Common.{Some, sym, ◌∙◌, ap, subst}
use Rattle.engine.proofs.Starting.{IsOpen, starts_in}
use Rattle.engine.proofs.Partners.{its_partners}
use Rattle.engine.proofs.opening.open_desk.Goals as goal

-- src/opening.rt:43:16
pub open-requires-clause-few : goal.open-requires-clause-few
open-requires-clause-few g c κs within =
    (its_partners c.args.roster.now c.args.party c.in-Some.partition c.deref.result.now
    c.requires.kept (sym c.in-Some.ensures.found) c.in-Some.ensures.within
    (ap Some c.deref.ensures.value ∙ c.in_ok-partners.ensures)).few

-- src/opening.rt:43:16
pub open-requires-clause-different : goal.open-requires-clause-different
open-requires-clause-different g c κs within =
    (its_partners c.args.roster.now c.args.party c.in-Some.partition c.deref.result.now
    c.requires.kept (sym c.in-Some.ensures.found) c.in-Some.ensures.within
    (ap Some c.deref.ensures.value ∙ c.in_ok-partners.ensures)).different

-- src/opening.rt:25:1
pub returns : goal.returns
returns g c =
    let u = c.args.party in
    let p = c.in-Some.partition in
    let roster = c.args.roster.now in
    let own = sym c.in-Some.ensures.found in
    let within = c.in-Some.ensures.within in
    let partners = c.deref.result.now in
    let desk = c.in_ok-desk.desk in
    let opened = c.in_ok-desk.ensures in
    let are = its_partners roster u p partners c.requires.kept own within
    (ap Some c.deref.ensures.value ∙ c.in_ok-partners.ensures) in
    let keys = c.keys_at-keys.result in
    starts_in roster g.S.Seal.sealed_text u p keys partners desk own within c.keys_at-keys.ensures are
    (subst (λ a. IsOpen g.S.Seal.sealed_text keys a p.0 partners desk) c.address_of.ensures
    (record {
      address = opened.address.1;
      partition = opened.partition.1;
      keys = opened.keys;
      partners = opened.partners;
      numbers = opened.numbers;
      idle = opened.idle;
      at = opened.starts;
    }))
