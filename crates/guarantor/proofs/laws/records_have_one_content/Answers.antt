use Rattle.std.proofs.Common.{arith}
use Rattle.guarantor.specs.RecordLaws.{record_is_open, one_content}
use Rattle.guarantor.proofs.laws.records_have_one_content.Goals as goal

pub returns : goal.returns
returns c = record {
  opens = λ sealed keys level name block version text content laws small named low is.
      record_is_open sealed keys level name block version text content laws small named (omega (arith, low)) is;
  one = λ sealed keys level name block version text content other laws small named low is is'.
      one_content sealed keys level name block version text content other laws small named (omega (arith, low)) is is';
}
