use Rattle.std.proofs.lemmas.Result.{on_ok_weaker}
use Rattle.desk.proofs.Calls.{send_after}
use Rattle.desk.proofs.desk.Desk.send.Goals as goal

pub returns : goal.returns
returns g c =
    on_ok_weaker c.join_send.result
    (send_after g.S.Seal.sealed_text c.args.self.now c.make_room_for_send.new.self c.join_send.new.self c.args.to
    c.args.message.now c.in_ok-make_room_for_send.ensures.moves)
    c.join_send.ensures
