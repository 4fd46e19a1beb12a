use Rattle.std.proofs.Common.{◌≡◌, ℕ, ◌<◌, ◌≤◌, replicate, length, List, None, sym, subst, arith}
use Rattle.std.specs.Prelude.{IfOk}
use Rattle.std.specs.List.{sum}
use Rattle.std.proofs.lemmas.List.Folds.{sum_by-replicate}
use Rattle.std.proofs.lemmas.List.{take-replicate, length-replicate}
use Rattle.frame_pool.specs.Pools.{chain_of}
use Rattle.window.proofs.window.open_pool.Goals as goal

pub open-requires-clause-slots : goal.open-requires-clause-slots
open-requires-clause-slots c =
    subst (λ (quotas : List ℕ). sum quotas ≤ 65535) (sym (take-replicate c.args.count 64 256 c.requires))
    (omega (arith, sum_by-replicate (λ (n : ℕ). n) c.args.count 256, c.requires))

pub returns-clause-quotas : goal.returns-clause-quotas
returns-clause-quotas c =
    subst (λ (quotas : List ℕ). IfOk c.open.result (λ pool. pool.quotas ≡ quotas))
    (take-replicate c.args.count 64 256 c.requires) c.open.ensures.quotas

pub returns-clause-chains : goal.returns-clause-chains
returns-clause-chains c =
    subst (λ (n : ℕ). IfOk c.open.result (λ pool. (owner : ℕ) → owner < n → chain_of pool owner ≡ replicate 256 None))
    (length-replicate c.args.count 256)
    (subst (λ (quotas : List ℕ). IfOk c.open.result (λ pool. (owner : ℕ) → owner < length quotas
    → chain_of pool owner ≡ replicate 256 None)) (take-replicate c.args.count 64 256 c.requires)
    c.open.ensures.chains)
