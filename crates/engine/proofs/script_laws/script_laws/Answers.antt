use Rattle.std.proofs.Common.{arith, refl}
use Rattle.engine.proofs.script_laws.script_laws.Goals as goal

pub returns : goal.returns
returns c = record {
  fits = λ script n is sealing. record {
    roster = is.roster;
    sealing = sealing;
    ahead = refl;
    small = c.messages_fit_frames.ensures.small script n is;
    apart = c.frames_are_apart.ensures.script script n is;
    few = λ s r. omega (arith, is.room, c.messages_fit_frames.ensures.few script n s r is);
  };
  keys = c.a_script_has_all_keys.ensures.levels;
  guard = c.a_script_has_all_keys.ensures.guard;
  own_lines = c.only_the_low_part_counts.ensures.own;
}
