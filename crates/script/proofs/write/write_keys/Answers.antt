use Rattle.std.proofs.Common.{sym, ◌∙◌}
use Rattle.script.proofs.Writing.{no_keys_text}
use Rattle.script.proofs.write.write_keys.Goals as goal

pub returns-in-Clear : goal.returns-in-Clear
returns-in-Clear c =
    no_keys_text c.args.roster.now c.args.text.now.items c.requires.roster
    (sym c.sealing.ensures ∙ c.in-Clear.is)
