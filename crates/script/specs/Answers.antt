-- What reading a text answers.
use Rattle.std.specs.Prelude.{ℕ, List, Result, Ok, Err}
use Rattle.events.specs.ScriptView.{ScriptView}
use Rattle.script.specs.declared.refusal.ScriptRefused.{ScriptRefused}
use Rattle.script.specs.declared.refusal.ScriptRefused.TheVariants.{Refused, OutOfMemory}
use Rattle.script.specs.Reasons.{FirstRefusal, IsScriptOf}

-- What reading a text answers: the script that it says where it is clean, else its first refusal.
abbrev pub AnswersText : List ℕ → Result ScriptView ScriptRefused → Type 0
AnswersText bytes (Ok script) = IsScriptOf bytes script
AnswersText bytes (Err (Refused refusal)) = FirstRefusal bytes refusal
AnswersText bytes (Err OutOfMemory) = Unit {0}
