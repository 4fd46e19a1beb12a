use Rattle.file_calls.specs.SpellingLaws.{reply_of-reply_text, reply_text-reply_of}
use Rattle.file_calls.specs.SpellingBytes.{reply_short}
use Rattle.file_calls.proofs.laws.replies_have_one_spelling.Goals as goal

pub returns : goal.returns
returns c = record {
  back = reply_of-reply_text;
  reply = λ bytes reply e. (reply_text-reply_of bytes reply e).0;
  text = λ bytes reply e. (reply_text-reply_of bytes reply e).1;
  bytes = λ reply is. (reply_short reply is).bytes;
  short = λ reply is. (reply_short reply is).few;
}
