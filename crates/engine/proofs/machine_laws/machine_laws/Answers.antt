use Rattle.engine.proofs.Giving.{hold}
use Rattle.engine.proofs.machine_laws.machine_laws.Goals as goal

pub returns : goal.returns
returns c = record {
  carries = c.pieces_carry_their_message.ensures.each;
  hold = hold c.pieces_carry_their_message.ensures.joined
      c.pieces_carry_their_message.ensures.reached;
  frames = c.each_piece_has_a_frame_of_its_own.ensures.apart;
  once = c.bytes_hold_one_thing.ensures;
  opens = c.open_bytes_hold_more.ensures.opens;
  opened = c.open_bytes_hold_more.ensures.opened;
  nothing = c.what_is_handed_over.ensures.nothing;
  one = c.what_is_handed_over.ensures.one;
  at_most = c.one_message_at_most.ensures.given;
  givers = c.partners_alone_are_sent_to.ensures.given;
  partner = c.partners_alone_are_sent_to.ensures.sent;
  no_frames = c.one_message_has_its_frames.ensures.nothing;
  its_frames = c.one_message_has_its_frames.ensures.one;
  elsewhere = c.elsewhere_all_stays.ensures;
  sent_piece = c.sent_pieces_fit_frames.ensures;
  partition = c.parties_have_addresses.ensures.partition;
  address = c.parties_have_addresses.ensures.address;
  host = c.parties_have_addresses.ensures.host;
  manager = c.parties_have_addresses.ensures.manager;
  place = c.parties_have_addresses.ensures.apart;
  both_known = c.partners_share_a_partition.ensures.known;
  one_partition = c.partners_share_a_partition.ensures.same;
  differ = c.partners_share_a_partition.ensures.apart;
  back = c.partners_share_a_partition.ensures.both;
  partners = c.partners_share_a_partition.ensures.partners;
}
