use Rattle.replay.proofs.Ends.{owed_answers, owed_uses}
use Rattle.replay.proofs.top.answer.Goals as goal

pub deliver-requires : goal.deliver-requires
deliver-requires g c =
    let owed = c.in-Ok.owed in
    owed_answers c.args.bytes.items c.args.command owed.status owed.text.items owed.report c.in-Ok.ensures

pub returns-in-Ok-clause-used : goal.returns-in-Ok-clause-used
returns-in-Ok-clause-used g c =
    let owed = c.in-Ok.owed in
    owed_uses c.args.bytes.items c.args.command owed.status c.deliver.result.status owed.text.items owed.report
    c.deliver.result.report c.in-Ok.ensures c.deliver.ensures.report
