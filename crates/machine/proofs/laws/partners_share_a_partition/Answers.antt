use Rattle.machine.proofs.Addresses.{partners_known, partners_same, partners_apart, partners_both, are_partners}
use Rattle.machine.proofs.laws.partners_share_a_partition.Goals as goal

pub returns : goal.returns
returns c = record {
  known = partners_known;
  same = partners_same;
  apart = partners_apart;
  both = partners_both;
  partners = are_partners;
}
