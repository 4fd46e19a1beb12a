use Rattle.file_calls.specs.SpellingLaws.{call_of-call_text, call_text-call_of}
use Rattle.file_calls.specs.SpellingBytes.{call_short}
use Rattle.file_calls.proofs.laws.calls_have_one_spelling.Goals as goal

pub returns : goal.returns
returns c = record {
  back = call_of-call_text;
  call = λ bytes call e. (call_text-call_of bytes call e).0;
  text = λ bytes call e. (call_text-call_of bytes call e).1;
  bytes = λ call is. (call_short call is).bytes;
  short = λ call is. (call_short call is).few;
}
