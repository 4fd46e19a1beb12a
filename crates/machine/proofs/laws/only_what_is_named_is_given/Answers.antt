use Rattle.machine.proofs.PartiesApart.{parties_apart, known_there}
use Rattle.machine.proofs.Named.{given_by_arrive, given_by_carry}
use Rattle.machine.proofs.laws.only_what_is_named_is_given.Goals as goal

pub returns : goal.returns
returns c = record {
  arrive = λ m x stream j i at is known.
      given_by_arrive m x stream j i at (parties_apart m.roster is) (known_there m.roster stream.from known);
  carry = λ m x stream j at is known.
      given_by_carry m x stream j at (parties_apart m.roster is) (known_there m.roster stream.from known);
}
