-- The keys of a drill are neither weak nor the same.
use Rattle.std.proofs.Common.{◌≡◌, [], None, false, refl, ap, ◌∙◌}
use Rattle.seal_core.specs.declared.KeyPair.{KeyPair}
use Rattle.levels.specs.declared.level.Sealing.TheVariants.{Des}
use Rattle.levels.specs.Rosters.{RosterView, with_keys}
use Rattle.levels.specs.Adding.{is_refused}
use Rattle.des_cbc.specs.Bits.{bits, block_bits}
use Rattle.des_cbc.specs.Parity.{without_parity}
use Rattle.drill.specs.Rosters.{pair_of, drill_levels}

-- the levels with no key, with that of the first, with those of two and with those of three
abbrev pub no_keys : RosterView
no_keys = record { sealing = Des; levels = drill_levels; keys = []; guard = None; hosts = [] }

abbrev pub one_pair : RosterView
one_pair = with_keys no_keys (pair_of 0x20 0x30)

abbrev pub two_pairs : RosterView
two_pairs = with_keys one_pair (pair_of 0x40 0x50)

abbrev pub three_pairs : RosterView
three_pairs = with_keys two_pairs (pair_of 0x60 0x70)

-- one key pair more
pub adds : (old new kept : RosterView) (pair : KeyPair) → old ≡ kept → new ≡ with_keys old pair
    → new ≡ with_keys kept pair
adds old new kept pair was more = more ∙ ap (λ (roster : RosterView). with_keys roster pair) was

pub first_fits : (roster : RosterView) → roster ≡ no_keys → is_refused roster (pair_of 0x20 0x30) ≡ false
unfolding without_parity block_bits bits
first_fits roster is = rw is refl

pub second_fits : (roster : RosterView) → roster ≡ one_pair → is_refused roster (pair_of 0x40 0x50) ≡ false
unfolding without_parity block_bits bits
second_fits roster is = rw is refl

pub third_fits : (roster : RosterView) → roster ≡ two_pairs → is_refused roster (pair_of 0x60 0x70) ≡ false
unfolding without_parity block_bits bits
third_fits roster is = rw is refl

pub guard_fits : (roster : RosterView) → roster ≡ three_pairs → is_refused roster (pair_of 0x80 0x90) ≡ false
unfolding without_parity block_bits bits
guard_fits roster is = rw is refl
