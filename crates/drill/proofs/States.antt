-- The states of the generator, one draw after another.
use Rattle.std.proofs.Common.{◌≡◌, ℕ, ◌+◌, ◌*◌, refl, ap, ◌∙◌, add-one, arith}
use Rattle.drill.specs.declared.draws.Step.{Step}
use Rattle.drill.specs.Generator.{next_state, state_after, drawn_from}
use Rattle.drill.specs.Steps.{step_at}

pub state_after-none : (seed state : ℕ) → state ≡ seed → state ≡ state_after seed 0
unfolding state_after
state_after-none seed state is = is

pub state_after-more : (seed draws state : ℕ) → state ≡ next_state (state_after seed draws)
    → state ≡ state_after seed (draws + 1)
unfolding state_after
state_after-more seed draws state is = rw add-one is

-- three draws behind those of the earlier steps
pub record DrawsThree (seed i first second third : ℕ) : Type 0 where
  pub one : first ≡ state_after seed (3 * i + 1)
  pub two : second ≡ state_after seed (3 * i + 1 + 1)
  pub three : third ≡ state_after seed (3 * i + 2 + 1)

pub draws_three : (seed i before first second third : ℕ) → before ≡ state_after seed (3 * i)
    → first ≡ next_state before → second ≡ next_state first → third ≡ next_state second
    → DrawsThree seed i first second third
draws_three seed i before first second third from a b c =
    let one : first ≡ state_after seed (3 * i + 1) = state_after-more seed (3 * i) first (a ∙ ap next_state from) in
    let two : second ≡ state_after seed (3 * i + 1 + 1) =
    state_after-more seed (3 * i + 1) second (b ∙ ap next_state one) in
    let last : third ≡ state_after seed (3 * i + 1 + 1 + 1) =
    state_after-more seed (3 * i + 1 + 1) third (c ∙ ap next_state two) in
    let same : 3 * i + 1 + 1 + 1 ≡ 3 * i + 2 + 1 = omega arith in
    record { one = one; two = two; three = last ∙ ap (state_after seed) same }

-- are the next step
pub step_drawn : (seed i first second third : ℕ) → DrawsThree seed i first second third
    → (step : Step) → step ≡ record {
      host = 1 + drawn_from first 6;
      kind = drawn_from second 8;
      value = 1 + drawn_from third 97;
    } → step ≡ step_at seed i
step_drawn seed i first second third d step is = is ∙ rw (d.one, d.two, d.three) refl

-- and the next step has the draws behind them
pub state_drawn : (seed i first second third : ℕ) → DrawsThree seed i first second third
    → third ≡ state_after seed (3 * (i + 1))
state_drawn seed i first second third d =
    let same : 3 * i + 2 + 1 ≡ 3 * (i + 1) = omega arith in d.three ∙ ap (state_after seed) same
