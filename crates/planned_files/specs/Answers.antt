-- What a call is answered.
use Rattle.std.specs.Prelude.{◌≡◌, ℕ, ◌≤◌, List, vec_len}
use Rattle.file_calls.specs.Spelling.{reply_text}
use Rattle.machine.specs.Setup.{Setup}
use Rattle.machine.specs.Files.{CallRow}
use Rattle.machine.specs.Plan.{reply}
use Rattle.machine.specs.FalseBytes.{IsFalseRecord}
use Rattle.planned_files.specs.declared.files.Answer.{Answer}
use Rattle.planned_files.specs.declared.files.Answer.TheVariants.{Reply, FalseRecord}

-- a call isn't answered by a false record, and the text is the spelling of its reply
pub record IsReply (m : Setup) (before : List CallRow) (c : CallRow) (text : List ℕ) : Type 0 where
  pub text_is : text ≡ reply_text (reply m before c)
  pub never_false : ¬ IsFalseRecord m before c

-- the reply to a call after the calls before it, or that it is answered by a false record
abbrev pub IsAnswer : Setup → List CallRow → CallRow → Answer → Type 0
IsAnswer m before c (Reply text) = IsReply m before c text.items
IsAnswer m before c FalseRecord = IsFalseRecord m before c

-- a reply can be sent as a message
abbrev pub FitsMessage : Answer → Type 0
FitsMessage (Reply text) = vec_len text ≤ 5632
FitsMessage FalseRecord = Unit {0}
