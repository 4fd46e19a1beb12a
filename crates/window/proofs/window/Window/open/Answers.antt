use Rattle.std.proofs.Common.{ℕ, List, length, get_or, vec_capacity, ◌∙◌, ap, arith}
use Rattle.std.proofs.lemmas.List.{length-replicate, get_or-replicate}
use Rattle.window.proofs.Seen.{OpenedOver, opened_kept, opened_apart, opened_stands, opened_waits, opened_senders}
use Rattle.window.proofs.window.Window.open.Goals as goal

all_opened : (c : goal.After-loop-address)
    → OpenedOver c.args.partners.now c.loop-address.receptions.items c.in_ok-pool.pool
all_opened c =
    let last = c.loop-address-test.false in
    let quotas = c.in_ok-pool.ensures.quotas in
    record {
      long = omega (arith, c.loop-address.invariant.count, last, c.loop-address.auto.address-end);
      opened = λ a below. c.loop-address.invariant.opened a (omega (arith, below, last));
      owners = ap length quotas ∙ length-replicate (length c.args.partners.now) 256;
      quotas = λ owner below. ap (λ (qs : List ℕ). get_or qs owner 0) quotas
          ∙ get_or-replicate (length c.args.partners.now) owner 256 0 below;
      chains = c.in_ok-pool.ensures.chains;
    }

pub invariant_of-result : goal.invariant_of-result
invariant_of-result c = record {
  long = (all_opened c).long;
  kept = opened_kept c.args.partners.now c.loop-address.receptions.items c.in_ok-pool.pool (all_opened c);
  apart = opened_apart c.args.partners.now c.loop-address.receptions.items c.in_ok-pool.pool (all_opened c);
}

pub returns-clause-partners : goal.returns-clause-partners
returns-clause-partners c =
    opened_senders c.args.partners.now c.loop-address.receptions.items c.in_ok-pool.pool
    (vec_capacity c.loop-address.receptions) (all_opened c)

pub returns-clause-stands : goal.returns-clause-stands
returns-clause-stands c =
    opened_stands c.args.partners.now c.loop-address.receptions.items c.in_ok-pool.pool
    (vec_capacity c.loop-address.receptions) (all_opened c)

pub returns-clause-waiting : goal.returns-clause-waiting
returns-clause-waiting c =
    opened_waits c.args.partners.now c.loop-address.receptions.items c.in_ok-pool.pool
    (vec_capacity c.loop-address.receptions) (all_opened c)
