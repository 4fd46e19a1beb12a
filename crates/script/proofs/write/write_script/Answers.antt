use Rattle.std.proofs.Common.{rules}
use Rattle.script.proofs.Writing.{script_text}
use Rattle.script.proofs.write.write_script.Goals as goal

pub returns : goal.returns
returns c = rw (script_text c.args.script.now) (search rules)
