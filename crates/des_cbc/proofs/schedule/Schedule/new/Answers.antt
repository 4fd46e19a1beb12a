use Rattle.std.proofs.Common.{◌≡◌, ℕ, ◌≤◌, ◌⊎◌, inl, inr, true, refl, ap, ◌∙◌, arith, length-set, get_or, take, drop, List, Bool}
use Rattle.std.specs.Int.{w64, from_be_bytes}
use Rattle.des_cbc.specs.declared.schedule.TheConstants.{SHIFTS}
use Rattle.des_cbc.specs.Tables.{choice_1, shifts}
use Rattle.des_cbc.specs.Bits.{bits, permute, block_bits}
use Rattle.des_cbc.specs.Cipher.{round_keys, schedule}
use Rattle.des_cbc.proofs.KeyWords.{one_or_two, shift_at, next_key, all_keys}
use Rattle.des_cbc.proofs.schedule.Schedule.new.Goals as goal

shifts_checked : one_or_two SHIFTS ≡ true
unfolding one_or_two
shifts_checked = refl

at_most_two : (n : ℕ) → ((n ≡ 1) ⊎ (n ≡ 2)) → n ≤ 28
at_most_two n h = elim h [ inl e ↦ omega arith | inr e ↦ omega arith ]

pub shifted-halves-requires-clause-steps : goal.shifted-halves-requires-clause-steps
shifted-halves-requires-clause-steps c = shift_at SHIFTS c.loop-i.i shifts_checked (omega arith)

pub loop-i-preserved : goal.loop-i-preserved
unfolding shifts
loop-i-preserved c =
    let i = c.loop-i.invariant in
    let small = at_most_two (get_or SHIFTS c.loop-i.i 0) (shift_at SHIFTS c.loop-i.i shifts_checked (omega arith)) in
    record {
      sixteen = length-set c.loop-i.keys c.loop-i.i _ ∙ i.sixteen;
      below = c.shifted-halves.ensures.below;
      done = next_key c.loop-i.keys shifts c.loop-i.i c.loop-i.halves c.shifted-halves.result
          c.permuted_choice_2.result _ i.sixteen refl (omega arith) small
          c.shifted-halves.ensures.same c.permuted_choice_2.ensures i.done;
    }

pub returns : goal.returns
unfolding schedule block_bits shifts
returns c =
    let i = c.loop-i.invariant in
    let same : bits 56 c.permuted_choice_1-halves.result
    ≡ permute choice_1 (bits 64 (from_be_bytes w64 c.args.key.now)) =
    c.permuted_choice_1-halves.ensures.same ∙ ap (λ (n : ℕ). permute choice_1 (bits 64 n)) c.from_be_bytes.ensures in
    all_keys c.loop-i.keys shifts c.loop-i.i _ _ _ i.sixteen refl (omega arith) i.done
    ∙ ap (λ (b : List Bool). round_keys shifts (take 28 b) (drop 28 b)) same
