use Rattle.machine.proofs.Addresses.{partition_small, address_small, host_range, manager_number, one_place}
use Rattle.machine.proofs.laws.parties_have_addresses.Goals as goal

pub returns : goal.returns
returns c = record {
  partition = partition_small;
  address = address_small;
  host = host_range;
  manager = manager_number;
  apart = one_place;
}
