use Rattle.drill.proofs.Parties.{neighbours_are_partners, managers_are_partners}
use Rattle.drill.proofs.laws.hosts_have_partners.Goals as goal

pub returns : goal.returns
returns c = record { neighbour = neighbours_are_partners; manager = managers_are_partners }
