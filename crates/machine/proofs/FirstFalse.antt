-- Of two events one at most is the first at which false bytes open.
use Rattle.std.proofs.Common.{◌≡◌, ℕ, ◌<◌, ◌⊎◌, inl, inr, arith}
use Rattle.events.specs.ScriptView.{ScriptView}
use Rattle.machine.specs.FalseBytes.{IsFirstFalse}

order : (n k : ℕ) → (n ≡ k) ⊎ ((n < k) ⊎ (k < n))
order n k = grind arith

pub first_once : (script : ScriptView) (n k : ℕ)
    → IsFirstFalse script n → IsFirstFalse script k → n ≡ k
first_once script n k a b = elim (order n k) [
  | inl same ↦ same
  | inr other ↦ elim other [
    | inl less ↦ absurd (b.before n a.event less a.there a.opens)
    | inr more ↦ absurd (a.before k b.event more b.there b.opens)
  ]
]
