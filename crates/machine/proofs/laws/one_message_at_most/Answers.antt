use Rattle.machine.specs.Setup.{setup_of}
use Rattle.machine.specs.Machine.{state_at}
use Rattle.machine.proofs.PartiesApart.{parties_apart}
use Rattle.machine.proofs.OneMessage.{gives_alone, one_frame}
use Rattle.machine.proofs.OneMessage.{one_or_none}
use Rattle.machine.proofs.Small.{apart_at}
use Rattle.machine.proofs.laws.one_message_at_most.Goals as goal

pub returns : goal.returns
returns c = record {
  one = λ m x e s s' u j j' one given given'. gives_alone m x e s u j one given s' j' given';
  given = λ m x e u one is. one_or_none m x e u one (parties_apart m.roster is);
  script = λ script n e u is.
      one_or_none (setup_of script) (state_at script n) e u
      (one_frame (setup_of script) (state_at script n) e
      (apart_at c.each_piece_has_a_frame_of_its_own.ensures.apart script n is))
      (parties_apart script.roster is.roster);
}
