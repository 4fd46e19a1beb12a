-- How often each host has sent and called, one step after another.
use Rattle.std.proofs.Common.{◌≡◌, ℕ, ◌+◌, ◌<◌, List, [], ◌∷◌, ◌++◌, length, Bool, true, false, cond, replicate, refl, sym, ◌∙◌, arith}
use Rattle.std.specs.Prelude.{slice_index, not, ◌==◌, ◌&&◌}
use Rattle.std.proofs.lemmas.Bool.Decides.{nat_tests}
use Rattle.std.proofs.lemmas.Grind.{common_steps, get_or-set_at}
use Rattle.std.proofs.lemmas.List.{get_or-replicate}
use Rattle.std.proofs.Math.ListN.{length-set}
use Rattle.std.proofs.lemmas.List.Sums.{sum_by_push}
use Rattle.drill.specs.declared.draws.Step.{Step}
use Rattle.drill.specs.Events.{is_send}
use Rattle.drill.specs.inside.Ranges.{IsStep}
use Rattle.drill.specs.inside.Counts.{counted_if, AreSends, AreCalls}

-- the count of a host after one more of some host, where the test holds
counted_more : (counts : List ℕ) (place host before : ℕ) (holds : Bool) → place < length counts
    → slice_index counts host ≡ before
    → slice_index (counted_if holds counts place) host ≡ before + cond (place == host && holds) 1 0
counted_more counts place host before true within is = grind (arith, nat_tests, common_steps, get_or-set_at)
counted_more counts place host before false within is = grind (arith, nat_tests, common_steps)

long_more : (counts : List ℕ) (place : ℕ) (holds : Bool) → length counts ≡ 7
    → length (counted_if holds counts place) ≡ 7
long_more counts place true long = length-set counts place (slice_index counts place + 1) ∙ long
long_more counts place false long = long

pub no_sends : AreSends [] (replicate 7 0)
no_sends = record { long = refl; each = λ host h. get_or-replicate 7 host 0 0 (omega (arith, h.1)) }

pub no_calls : AreCalls [] (replicate 7 0)
no_calls = record { long = refl; each = λ host h. get_or-replicate 7 host 0 0 (omega (arith, h.1)) }

pub sends_more : (earlier : List Step) (step : Step) (counts : List ℕ) → IsStep step
    → AreSends earlier counts
    → AreSends (earlier ++ step ∷ []) (counted_if (is_send step) counts step.host)
sends_more earlier step counts fits are = record {
  long = long_more counts step.host (is_send step) are.long;
  each = λ host h.
      counted_more counts step.host host _ (is_send step) (omega (arith, are.long, fits.host.1)) (are.each host h)
      ∙ sym (sum_by_push (λ x. cond (x.host == host && is_send x) 1 0) earlier step);
}

pub calls_more : (earlier : List Step) (step : Step) (counts : List ℕ) → IsStep step
    → AreCalls earlier counts
    → AreCalls (earlier ++ step ∷ []) (counted_if (not (is_send step)) counts step.host)
calls_more earlier step counts fits are = record {
  long = long_more counts step.host (not (is_send step)) are.long;
  each = λ host h.
      counted_more counts step.host host _ (not (is_send step)) (omega (arith, are.long, fits.host.1))
      (are.each host h)
      ∙ sym (sum_by_push (λ x. cond (x.host == host && not (is_send x)) 1 0) earlier step);
}
