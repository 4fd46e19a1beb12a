use Rattle.std.proofs.Common.{◌≡◌, ◌+◌, ◌∷◌, ◌++◌, [], ap, ◌∙◌, refl, subst}
use Rattle.net_side.specs.Nets.{IsInbound}
use Rattle.unit_core.proofs.Openings.{opens_other}
use Rattle.unit_core.proofs.net_turn.open_one.Goals as goal

pub returns-in-Ours : goal.returns-in-Ours
returns-in-Ours g c = record {
  inbounds = c.inbound-inbound.result ∷ [];
  each = (c.inbound-inbound.ensures, tt);
  kinds = c.push_reserved.ensures.items ∙ ap (λ k. c.args.out.now.kinds.items ++ k ∷ []) c.kind_of.ensures;
  places = rw c.in-Ours.is c.push_reserved-in-Ours.ensures.items;
  untouched = refl;
  taken = rw c.in-Ours.is c.offer.ensures.taken;
  received = c.offer.ensures.received;
  spare = c.offer.ensures.spare;
  same = record { end = c.offer.ensures.same; capacity = c.offer.ensures.memory };
  memory = record {
    kinds = c.push_reserved.ensures.capacity;
    places = c.push_reserved-in-Ours.ensures.capacity;
    sealed = refl;
  };
}

pub returns-in_default : goal.returns-in_default
returns-in_default g c =
    opens_other g.S.Seal.sealed_text c.args.net.now c.args.index c.args.frame.now
    c.inbound-inbound.result c.args.end.now
    c.args.out.now _ c.inbound-inbound.ensures c.in_default.not-Ours
    (c.push_reserved.ensures.items ∙ ap (λ k. c.args.out.now.kinds.items ++ k ∷ []) c.kind_of.ensures) refl refl
    (record { kinds = c.push_reserved.ensures.capacity; places = refl; sealed = refl })
