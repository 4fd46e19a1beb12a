use Rattle.std.proofs.Common.{◌≡◌, ◌≢◌, ◌<◌, ◌+◌, ℕ, List, Bool, false, length, arith, below_more, get_or-set_other, get_or-set_same, ◌∙◌}
use Rattle.std.proofs.lemmas.List.{length-set}
use Rattle.std.proofs.Math.ListN.{get_or, set}
use Rattle.net_side.specs.Nets.{is_among}
use Rattle.net_side.proofs.net.marked.Goals as goal

one_more : (marks : List Bool) (n at : ℕ) (b : Bool) (f : ℕ → Bool) → at ≡ n → n < length marks → b ≡ f n
    → ((a : ℕ) → a < n → get_or marks a false ≡ f a)
    → (a : ℕ) → a < n + 1 → get_or (set marks at b) a false ≡ f a
one_more marks n at b f here room same before =
    below_more _ _ (λ a lt. let apart : a ≢ at = omega arith in rw get_or-set_other (before a lt))
    (let there : at < length marks = omega arith in rw (← here, get_or-set_same) (rw here same))

pub loop-address-preserved : goal.loop-address-preserved
loop-address-preserved c = record {
  all = length-set c.loop-address.marks c.from.result c.contains.result ∙ c.loop-address.invariant.all;
  marks = one_more c.loop-address.marks c.loop-address.address c.from.result c.contains.result
      (is_among c.args.partners.now) c.from.ensures
      (omega (arith, c.loop-address.invariant.all, c.loop-address-test.true)) c.contains.ensures.value
      c.loop-address.invariant.marks;
}
