use Rattle.std.proofs.Common.{rules}
use Rattle.unit_core.proofs.unit.both_sides.Goals as goal

pub returns : goal.returns
returns g c = record {
  host = search rules;
  net_side = search rules;
  unit = c.requires.unit;
  rest = c.requires.rest;
  few_sends = c.requires.sends;
  few_frames = c.requires.frames;
  no_answers = c.requires.answers;
  no_messages = c.requires.messages;
  no_kinds = c.requires.kinds;
  no_places = c.requires.places;
  no_sealed = c.requires.sealed;
}
