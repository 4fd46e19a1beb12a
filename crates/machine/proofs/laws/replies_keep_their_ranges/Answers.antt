use Rattle.file_calls.specs.SpellingLaws.{reply_of-reply_text}
use Rattle.machine.specs.Plan.{reply}
use Rattle.machine.proofs.ReplyRange.{reply_in_range}
use Rattle.machine.proofs.laws.replies_keep_their_ranges.Goals as goal

pub returns : goal.returns
returns c = record {
  ranges = reply_in_range;
  spelled = λ m before call. reply_of-reply_text (reply m before call) (reply_in_range m before call);
}
