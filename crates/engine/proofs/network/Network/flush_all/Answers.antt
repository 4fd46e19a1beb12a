use Rattle.engine.proofs.Joining.{all_are_flushed}
use Rattle.engine.proofs.Results.{on_ok_two}
use Rattle.engine.proofs.network.Network.flush_all.Goals as goal

pub returns-clause-flushed : goal.returns-clause-flushed
returns-clause-flushed g c =
    on_ok_two c.flush_all.result
    (λ moves opened. all_are_flushed g.S.Seal.sealed_text c.args.self.now.desks c.flush_all.new.self moves opened
    c.flush_all.ensures.others)
    c.flush_all.ensures.moves c.flush_all.ensures.open
