use Rattle.std.proofs.Common.{◌≡◌, ℕ, ◌<◌, ◌^◌, ◌⊎◌, inl, inr, ap, ◌∙◌, arith}
use Rattle.des_cbc.specs.Bits.{bits}
use Rattle.des_cbc.specs.inside.Words.{turned_word}
use Rattle.des_cbc.proofs.KeyWords.{turned_halves, turned_once, turned_twice}
use Rattle.des_cbc.proofs.schedule.shifted.Goals as goal

once : (n x y : ℕ) → n ≡ 1 → x < 2 ^ 56 → y ≡ turned_word x → bits 56 y ≡ turned_halves n (bits 56 x)
once n x y e h k = rw (e, k) (turned_once x h)

twice : (n x y : ℕ) → n ≡ 2 → x < 2 ^ 56 → y ≡ turned_word (turned_word x) → bits 56 y ≡ turned_halves n (bits 56 x)
twice n x y e h k = rw (e, k) (turned_twice x h)

two : (n : ℕ) → ((n ≡ 1) ⊎ (n ≡ 2)) → (n ≡ 1 → ⊥) → n ≡ 2
two n h k = elim h [ inl e ↦ absurd (k e) | inr e ↦ e ]

pub returns-then-shift-eq1-clause-same : goal.returns-then-shift-eq1-clause-same
returns-then-shift-eq1-clause-same c = once c.args.shift c.args.halves _ (omega arith) c.requires.small
    c.turned.ensures.same

pub returns-else-shift-eq1-clause-same : goal.returns-else-shift-eq1-clause-same
returns-else-shift-eq1-clause-same c =
    twice c.args.shift c.args.halves _ (two c.args.shift c.requires.steps c.if-shift-eq1.false) c.requires.small
    (c.turned-else-shift-eq1-2.ensures.same ∙ ap turned_word c.turned-else-shift-eq1.ensures.same)
