-- What forms read, from what their words read.
use Rattle.std.proofs.Common.{◌≡◌, ℕ, List, [], ◌∷◌, Option, Some, sym, ap, subst, ◌∙◌, inl, inr}
use Rattle.std.specs.List.{AllByRecursion}
use Rattle.std.specs.Str.{bytes_eq}
use Rattle.std.proofs.lemmas.Bool.{cases_Bool}
use Rattle.std.proofs.lemmas.Slice.Eq.{bytes_eq-Decides}
use Rattle.script.specs.Naming.{◌>>=◌}
use Rattle.script.specs.inside.Readers.{as_one, as_two, as_three, as_four, nothing, one, two, three, four, FormReader, read_by, nowhere}
use Rattle.script.proofs.Tools.{bind_some, some_same}
use Rattle.script.proofs.Spellings.{IsWord, as_two_is}

-- a first word and those behind it are the words of something good
pub record IsSpelledBy {R : Type 0} (spell : R → List (List ℕ)) (Good : R → Type 0)
    (first : List ℕ) (behind : List (List ℕ)) (made : R) : Type 0 where
  pub spelled : spell made ≡ first ∷ behind
  pub fits : Good made

as_one_is : (ws : List (List ℕ)) (word : List ℕ) → as_one ws ≡ Some word → ws ≡ word ∷ []
as_one_is [] word e = absurd cc
as_one_is (a ∷ []) word e = cc
as_one_is (a ∷ b ∷ ws) word e = absurd cc

as_three_is : (ws : List (List ℕ)) (triple : List ℕ × List ℕ × List ℕ) → as_three ws ≡ Some triple
    → ws ≡ triple.0 ∷ triple.1 ∷ triple.2 ∷ []
as_three_is [] triple e = absurd cc
as_three_is (a ∷ []) triple e = absurd cc
as_three_is (a ∷ b ∷ []) triple e = absurd cc
as_three_is (a ∷ b ∷ c ∷ []) triple e =
    ap (λ (t : List ℕ × List ℕ × List ℕ). t.0 ∷ t.1 ∷ t.2 ∷ []) (some_same (a, b, c) triple e)
as_three_is (a ∷ b ∷ c ∷ d ∷ ws) triple e = absurd cc

as_four_is : (ws : List (List ℕ)) (all : List ℕ × List ℕ × List ℕ × List ℕ) → as_four ws ≡ Some all
    → ws ≡ all.0 ∷ all.1 ∷ all.2 ∷ all.3 ∷ []
as_four_is [] all e = absurd cc
as_four_is (a ∷ ws) all e =
    let t = bind_some (as_three ws) (λ triple. Some (a, triple.0, triple.1, triple.2)) all e in
    let same = some_same (a, t.0.0, t.0.1, t.0.2) all t.2 in
    ap (λ (rest : List (List ℕ)). a ∷ rest) (as_three_is ws t.0 t.1)
    ∙ ap (λ (q : List ℕ × List ℕ × List ℕ × List ℕ). q.0 ∷ q.1 ∷ q.2 ∷ q.3 ∷ []) same

module _ {R : Type 0} (spell : R → List (List ℕ)) (Good : R → Type 0) (first : List ℕ) where
  abbrev pub Is : List (List ℕ) → R → Type 0
  Is behind made = IsSpelledBy spell Good first behind made

  -- what holds of words holds of equal ones
  two_same : (ws : List (List ℕ)) (a b a' b' : List ℕ) (made : R)
      → ws ≡ a ∷ b ∷ [] → a ≡ a' → b ≡ b' → Is (a' ∷ b' ∷ []) made → Is ws made
  two_same ws a b a' b' made e p q h = rw (e, p, q) h

  three_same : (ws : List (List ℕ)) (a b c a' b' c' : List ℕ) (made : R)
      → ws ≡ a ∷ b ∷ c ∷ [] → a ≡ a' → b ≡ b' → c ≡ c' → Is (a' ∷ b' ∷ c' ∷ []) made → Is ws made
  three_same ws a b c a' b' c' made e p q r h = rw (e, p, q, r) h

  four_same : (ws : List (List ℕ)) (a b c d a' b' c' d' : List ℕ) (made : R)
      → ws ≡ a ∷ b ∷ c ∷ d ∷ [] → a ≡ a' → b ≡ b' → c ≡ c' → d ≡ d'
      → Is (a' ∷ b' ∷ c' ∷ d' ∷ []) made → Is ws made
  four_same ws a b c d a' b' c' d' made e p q r t h = rw (e, p, q, r, t) h

  pub same_made : (ws : List (List ℕ)) (first made : R) → first ≡ made → Is ws first → Is ws made
  same_made ws first made e h = subst (Is ws) e h

  pub nothing_takes : (x : R) → Is [] x
      → (ws : List (List ℕ)) (made : R) → nothing x ws ≡ Some made → Is ws made
  nothing_takes x h [] made e = let r : x ≡ made = some_same x made e in
      subst (Is []) r h
  nothing_takes x h (a ∷ ws) made e = absurd cc

  module _ {A : Type 0} {s : A → List ℕ} {P : A → Type 0} {f : List ℕ → Option A}
      (F : IsWord s P f) (make : A → R) where
    pub one_takes : ((x : A) → P x → Is (s x ∷ []) (make x))
        → (ws : List (List ℕ)) (made : R) → one f make ws ≡ Some made → Is ws made
    one_takes h ws made e =
        let w = bind_some (as_one ws) (λ word. f word >>= λ x. Some (make x)) made e in
        let x = bind_some (f w.0) (λ x. Some (make x)) made w.2 in
        let tx = F.takes w.0 x.0 x.1 in
        let r : make x.0 ≡ made = some_same (make x.0) made x.2 in
        let spelled : s x.0 ∷ [] ≡ ws = ap (λ (a : List ℕ). a ∷ []) (sym tx.0)
        ∙ sym (as_one_is ws w.0 w.1) in
        subst (λ (t : List (List ℕ)). Is t made) spelled
        (subst (Is (s x.0 ∷ [])) r (h x.0 tx.1))

  module _ {A B : Type 0} {s : A → List ℕ} {P : A → Type 0} {f : List ℕ → Option A}
      {s' : B → List ℕ} {P' : B → Type 0} {g : List ℕ → Option B}
      (F : IsWord s P f) (G : IsWord s' P' g) (make : A → B → R) where
    pub two_takes : ((x : A) (y : B) → P x → P' y → Is (s x ∷ s' y ∷ []) (make x y))
        → (ws : List (List ℕ)) (made : R) → two f g make ws ≡ Some made → Is ws made
    two_takes h ws made e =
        let w = bind_some (as_two ws) (λ pair. f pair.0 >>= λ x. g pair.1 >>= λ y. Some (make x y))
        made e in
        let x = bind_some (f w.0.0) (λ x. g w.0.1 >>= λ y. Some (make x y)) made w.2 in
        let y = bind_some (g w.0.1) (λ y. Some (make x.0 y)) made x.2 in
        let tx = F.takes w.0.0 x.0 x.1 in
        let ty = G.takes w.0.1 y.0 y.1 in
        let r : make x.0 y.0 ≡ made = some_same (make x.0 y.0) made y.2 in
        two_same ws w.0.0 w.0.1 (s x.0) (s' y.0) made (as_two_is ws w.0 w.1) tx.0 ty.0
        (same_made (s x.0 ∷ s' y.0 ∷ []) (make x.0 y.0) made r (h x.0 y.0 tx.1 ty.1))

  module _ {A B C : Type 0} {s : A → List ℕ} {P : A → Type 0} {f : List ℕ → Option A}
      {s' : B → List ℕ} {P' : B → Type 0} {g : List ℕ → Option B} {s'' : C → List ℕ}
      {P'' : C → Type 0} {k : List ℕ → Option C}
      (F : IsWord s P f) (G : IsWord s' P' g) (K : IsWord s'' P'' k)
      (make : A → B → C → R) where
    pub three_takes : ((x : A) (y : B) (z : C) → P x → P' y → P'' z
        → Is (s x ∷ s' y ∷ s'' z ∷ []) (make x y z))
        → (ws : List (List ℕ)) (made : R) → three f g k make ws ≡ Some made → Is ws made
    three_takes h ws made e =
        let w = bind_some (as_three ws) (λ triple. f triple.0 >>= λ x. g triple.1 >>= λ y.
        k triple.2 >>= λ z. Some (make x y z)) made e in
        let x = bind_some (f w.0.0) (λ x. g w.0.1 >>= λ y. k w.0.2 >>= λ z. Some (make x y z)) made
        w.2 in
        let y = bind_some (g w.0.1) (λ y. k w.0.2 >>= λ z. Some (make x.0 y z)) made x.2 in
        let z = bind_some (k w.0.2) (λ z. Some (make x.0 y.0 z)) made y.2 in
        let tx = F.takes w.0.0 x.0 x.1 in
        let ty = G.takes w.0.1 y.0 y.1 in
        let tz = K.takes w.0.2 z.0 z.1 in
        let r : make x.0 y.0 z.0 ≡ made = some_same (make x.0 y.0 z.0) made z.2 in
        three_same ws w.0.0 w.0.1 w.0.2 (s x.0) (s' y.0) (s'' z.0) made (as_three_is ws w.0 w.1)
        tx.0 ty.0 tz.0 (same_made (s x.0 ∷ s' y.0 ∷ s'' z.0 ∷ []) (make x.0 y.0 z.0) made r
        (h x.0 y.0 z.0 tx.1 ty.1 tz.1))

  module _ {A B C D : Type 0} {s : A → List ℕ} {P : A → Type 0} {f : List ℕ → Option A}
      {s' : B → List ℕ} {P' : B → Type 0} {g : List ℕ → Option B} {s'' : C → List ℕ}
      {P'' : C → Type 0} {k : List ℕ → Option C} {t : D → List ℕ} {Q : D → Type 0}
      {l : List ℕ → Option D}
      (F : IsWord s P f) (G : IsWord s' P' g) (K : IsWord s'' P'' k) (L : IsWord t Q l)
      (make : A → B → C → D → R) where
    pub four_takes : ((x : A) (y : B) (z : C) (u : D) → P x → P' y → P'' z → Q u
        → Is (s x ∷ s' y ∷ s'' z ∷ t u ∷ []) (make x y z u))
        → (ws : List (List ℕ)) (made : R) → four f g k l make ws ≡ Some made → Is ws made
    four_takes h ws made e =
        let w = bind_some (as_four ws) (λ all. f all.0 >>= λ x. g all.1 >>= λ y. k all.2 >>= λ z.
        l all.3 >>= λ u. Some (make x y z u)) made e in
        let x = bind_some (f w.0.0) (λ x. g w.0.1 >>= λ y. k w.0.2 >>= λ z. l w.0.3 >>= λ u.
        Some (make x y z u)) made w.2 in
        let y = bind_some (g w.0.1) (λ y. k w.0.2 >>= λ z. l w.0.3 >>= λ u. Some (make x.0 y z u))
        made x.2 in
        let z = bind_some (k w.0.2) (λ z. l w.0.3 >>= λ u. Some (make x.0 y.0 z u)) made y.2 in
        let u = bind_some (l w.0.3) (λ u. Some (make x.0 y.0 z.0 u)) made z.2 in
        let tx = F.takes w.0.0 x.0 x.1 in
        let ty = G.takes w.0.1 y.0 y.1 in
        let tz = K.takes w.0.2 z.0 z.1 in
        let tu = L.takes w.0.3 u.0 u.1 in
        let r : make x.0 y.0 z.0 u.0 ≡ made = some_same (make x.0 y.0 z.0 u.0) made u.2 in
        four_same ws w.0.0 w.0.1 w.0.2 w.0.3 (s x.0) (s' y.0) (s'' z.0) (t u.0) made
        (as_four_is ws w.0 w.1) tx.0 ty.0 tz.0 tu.0
        (same_made (s x.0 ∷ s' y.0 ∷ s'' z.0 ∷ t u.0 ∷ []) (make x.0 y.0 z.0 u.0) made r
        (h x.0 y.0 z.0 u.0 tx.1 ty.1 tz.1 tu.1))

module _ {R : Type 0} (spell : R → List (List ℕ)) (Good : R → Type 0) where
  -- a form reads lines that begin with its own first word
  abbrev pub IsForm : List ℕ × FormReader R → Type 0
  IsForm form = (ws : List (List ℕ)) (made : R) → form.1 ws ≡ Some made
      → IsSpelledBy spell Good form.0 ws made

  -- what is read behind any first word begins with it
  abbrev pub ReadsOn : (List ℕ → FormReader R) → Type 0
  ReadsOn other = (first : List ℕ) (args : List (List ℕ)) (made : R) → other first args ≡ Some made
      → IsSpelledBy spell Good first args made

  pub nowhere_takes : ReadsOn nowhere
  nowhere_takes first args made e = absurd cc

  pub read_by_takes : (fs : List (List ℕ × FormReader R)) (other : List ℕ → FormReader R)
      → AllByRecursion IsForm fs → ReadsOn other → ReadsOn (read_by fs other)
  read_by_takes [] other h on first args made e = on first args made e
  read_by_takes (form ∷ more) other h on first args made e =
      elim (cases_Bool (bytes_eq first form.0)) [
        | inl is ↦
            let same : first ≡ form.0 = (bytes_eq-Decides first form.0).0 is in
            let e' : form.1 args ≡ Some made = rw is at e in
            rw same (h.0 args made e')
        | inr not ↦ read_by_takes more other h.1 on first args made (rw not at e)
      ]
