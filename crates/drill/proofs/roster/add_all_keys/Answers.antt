use Rattle.std.proofs.Common.{◌≡◌}
use Rattle.drill.proofs.Keys.{one_pair, two_pairs, three_pairs, adds, first_fits, second_fits, third_fits, guard_fits}
use Rattle.drill.proofs.roster.add_all_keys.Goals as goal

pub add_keys-requires-clause-keys : goal.add_keys-requires-clause-keys
add_keys-requires-clause-keys c = first_fits _ c.requires

pub add_keys-requires-2-clause-keys : goal.add_keys-requires-2-clause-keys
add_keys-requires-2-clause-keys c =
    let one : c.add_keys.new.roster ≡ one_pair = adds _ _ _ _ c.requires c.in_ok-add_keys.ensures in
    second_fits _ one

pub add_keys-requires-3-clause-keys : goal.add_keys-requires-3-clause-keys
add_keys-requires-3-clause-keys c =
    let one : c.add_keys.new.roster ≡ one_pair = adds _ _ _ _ c.requires c.in_ok-add_keys.ensures in
    let two : c.add_keys-2.new.roster ≡ two_pairs = adds _ _ _ _ one c.in_ok-add_keys-2.ensures in
    third_fits _ two

pub set_guard-requires-clause-keys : goal.set_guard-requires-clause-keys
set_guard-requires-clause-keys c =
    let one : c.add_keys.new.roster ≡ one_pair = adds _ _ _ _ c.requires c.in_ok-add_keys.ensures in
    let two : c.add_keys-2.new.roster ≡ two_pairs = adds _ _ _ _ one c.in_ok-add_keys-2.ensures in
    let three : c.add_keys-3.new.roster ≡ three_pairs = adds _ _ _ _ two c.in_ok-add_keys-3.ensures in
    guard_fits _ three
