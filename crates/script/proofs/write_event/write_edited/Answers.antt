use Rattle.std.proofs.Common.{append_assoc, rules}
use Rattle.script.specs.Spelling.{party_text}
use Rattle.script.specs.Text.{party_said}
use Rattle.script.proofs.Writing.{edits_joined}
use Rattle.script.proofs.write_event.write_edited.Goals as goal

pub returns : goal.returns
returns c =
    rw (edits_joined (party_text (party_said c.args.roster.now c.args.at)) c.args.edits.now)
    (search (rules, append_assoc))
