use Rattle.std.proofs.Common.{reverse, take}
use Rattle.machine.specs.Setup.{setup_of}
use Rattle.machine.proofs.PartiesApart.{parties_apart}
use Rattle.machine.proofs.ManagerReplies.{sent_are_replies}
use Rattle.machine.proofs.Small.{apart_at}
use Rattle.machine.proofs.laws.managers_send_replies.Goals as goal

pub returns : goal.returns
returns c = record {
  setup = λ m past p r frames is. sent_are_replies m past p r frames (parties_apart m.roster is);
  script = λ script n p r is.
      sent_are_replies (setup_of script) (reverse (take n script.events)) p r
      (apart_at c.each_piece_has_a_frame_of_its_own.ensures.apart script n is)
      (parties_apart script.roster is.roster);
}
