-- Each text is clean or has one first refusal.
use Rattle.std.proofs.Common.{zero, suc, ◌≡◌, ◌≢◌, ℕ, ◌+◌, ◌<◌, ◌≤◌, ◌⊎◌, true, false, eqb, List, [], ◌∷◌, ◌++◌, length, Option, Some, None, refl, sym, ap, subst, ◌∙◌, arith, inl, inr, append_assoc}
use Rattle.std.specs.List.{AllByRecursion, flat_map, onto_first, join_with_byte}
use Rattle.std.proofs.lemmas.Bool.{cases_lt, cases_Bool}
use Rattle.std.proofs.lemmas.List.{append-nil}
use Rattle.std.proofs.lemmas.List.Splits.{slice_split-cons_yes, slice_split-cons_no, join_with_byte-slice_split}
use Rattle.events.specs.ScriptView.{ScriptView}
use Rattle.script.specs.declared.read.TheConstants.{TEXT_LIMIT}
use Rattle.script.specs.declared.refusal.Reason.{Reason}
use Rattle.script.specs.declared.refusal.Reason.TheVariants as why
use Rattle.script.specs.declared.refusal.Refusal.{Refusal}
use Rattle.script.specs.Lines.{Line}
use Rattle.script.specs.Spelling.{line_text, ended_text}
use Rattle.script.specs.Ranges.{HasRanges}
use Rattle.script.specs.Facts.{Facts, facts, script_said}
use Rattle.script.specs.Reasons.{against, Spells, BeginsWith, IsRefused, FirstRefusal, IsScriptOf, IsClean}
use Rattle.script.specs.inside.Readers.{line_read}
use Rattle.script.specs.inside.Stages.{reason_of, at_end, after}
use Rattle.script.specs.Laws.{EachTextHasOneOutcome, CleanTextsAreTheirOwn}
use Rattle.script.proofs.Forms.{line_again}
use Rattle.script.proofs.Tools.{all_right}
use Rattle.script.proofs.Reached.{parts, Reached, reached_none, spelled_part, goes_on, stops, ends_badly}
use Rattle.script.proofs.Looping.{said_by, whole_text, ends_well}

-- ---- some outcome

-- a text has no newline, or is cut at its first one
cut_or_whole : (rest : List ℕ) → (parts rest ≡ rest ∷ [])
    ⊎ ((text : List ℕ) × (behind : List ℕ) × (parts rest ≡ text ∷ parts behind)
    × (length behind < length rest))
cut_or_whole [] = inl refl
cut_or_whole (c ∷ rest) =
    elim (cases_Bool (eqb c 10)) [
      | inl is ↦ inr ([], rest, slice_split-cons_yes (λ b. eqb b 10) c rest is, omega arith)
      | inr not ↦ elim (cut_or_whole rest) [
        | inl whole ↦ inl (slice_split-cons_no (λ b. eqb b 10) c rest not ∙ ap (onto_first c) whole)
        | inr cut ↦
            inr (
              c ∷ cut.0,
              cut.1,
              slice_split-cons_no (λ b. eqb b 10) c rest not
                  ∙ ap (onto_first c) cut.2,
              omega (arith, cut.3),
            )
      ]
    ]

abbrev Outcome : List ℕ → Type 0
Outcome bytes = IsClean bytes ⊎ ((refusal : Refusal) × FirstRefusal bytes refusal)

module _ (bytes : List ℕ) (short : length bytes ≤ TEXT_LIMIT) where
  refused : (count : ℕ) (rest : List ℕ) (said : Facts) (reason : Reason)
      (at : Reached bytes count rest said) → IsRefused at.lines rest reason → Outcome bytes
  refused count rest said reason at is =
      inr (
        record { line = length at.lines + 1; reason = reason },
        inr (short, at.lines, rest, refl, at.begins, is),
      )

  at_last : (count : ℕ) (rest : List ℕ) (said : Facts) → Reached bytes count rest said
      → parts rest ≡ rest ∷ [] → Outcome bytes
  at_last count rest said at whole = by_reason (at_end said.ended rest) refl
    where
      by_reason : (o : Option Reason) → at_end said.ended rest ≡ o → Outcome bytes
      by_reason None e = inl (
        said_by said,
        ends_well bytes count rest said short at e,
      )
      by_reason (Some reason) e = refused count rest said reason at
          (ends_badly bytes count rest said reason at whole e)

  abbrev GoesOn : ℕ → List ℕ → Type 0
  GoesOn count behind = (said : Facts) → Reached bytes count behind said → Outcome bytes

  at_line : (count : ℕ) (rest text behind : List ℕ) (said : Facts) → Reached bytes count rest said
      → parts rest ≡ text ∷ parts behind
      → GoesOn (count + 1) behind → Outcome bytes
  at_line count rest text behind said at cut on = by_line (line_read text) refl
    where
      by_reason : (read : Line) → line_read text ≡ Some read → (o : Option Reason)
          → against said read ≡ o → Outcome bytes
      by_reason read is None e = on (after said read)
          (goes_on bytes count rest text behind said read at cut is e)
      by_reason read is (Some reason) e =
          refused count rest said reason at
          (stops bytes count rest text behind said reason at cut (ap (reason_of said) is ∙ e))

      by_line : (o : Option Line) → line_read text ≡ o → Outcome bytes
      by_line None none = refused count rest said why.Form at
          (stops bytes count rest text behind said why.Form at cut (ap (reason_of said) none))
      by_line (Some read) is = by_reason read is (against said read) refl

  read_on : (n count : ℕ) (rest : List ℕ) (said : Facts) → length rest ≤ n
      → Reached bytes count rest said → Outcome bytes
  read_on zero count rest said le at =
      elim (cut_or_whole rest) [
        | inl whole ↦ at_last count rest said at whole
        | inr cut ↦ absurd (omega (arith, cut.3))
      ]
  read_on (suc n) count rest said le at =
      elim (cut_or_whole rest) [
        | inl whole ↦ at_last count rest said at whole
        | inr cut ↦
            at_line count rest cut.0 cut.1 said at cut.2
            (λ new on. read_on n (count + 1) cut.1 new (omega (arith, cut.3)) on)
      ]

some_outcome : (bytes : List ℕ) → Outcome bytes
some_outcome bytes =
    elim (cases_lt TEXT_LIMIT (length bytes)) [
      | inl long ↦ inr (record { line = 0; reason = why.Many }, inl (long, refl))
      | inr short ↦ read_on bytes short (length bytes) 0 bytes (facts []) (omega arith)
          (reached_none bytes)
    ]

-- ---- lines at the head of one text

same_some : {X : Type 0} (x y : X) → Some x ≡ Some y → x ≡ y
same_some x y e = cc

whole_again : (t u : List ℕ) → parts t ≡ parts u → t ≡ u
whole_again t u e = sym (join_with_byte-slice_split 10 t) ∙ ap (join_with_byte 10) e
    ∙ join_with_byte-slice_split 10 u

-- two lines at the head of one text are one line
one_line : (rest a more b less : List ℕ) (x y : Line) → rest ≡ a ++ 10 ∷ more → Spells a x
    → rest ≡ b ++ 10 ∷ less → Spells b y → (x ≡ y) × (more ≡ less)
one_line rest a more b less x y e p f q =
    let both : a ∷ parts more ≡ b ∷ parts less = sym (spelled_part rest a more x e p)
    ∙ spelled_part rest b less y f q in
    let same : a ≡ b = cc in
    let behind : parts more ≡ parts less = cc in
    let read : Some x ≡ Some y =
    sym (line_again x p.1) ∙ ap line_read (sym p.0 ∙ same ∙ q.0) ∙ line_again y q.1 in
    (same_some x y read, whole_again more less behind)

ended_first : (x : Line) (t : List ℕ) → ended_text x ++ t ≡ line_text x ++ 10 ∷ t
ended_first x t = append_assoc (line_text x) (10 ∷ []) t

-- the lines of one text go on with more lines to those of the other
abbrev Ahead : List Line → List ℕ → List Line → List ℕ → Type 0
Ahead xs r ys s = (more : List Line) × (ys ≡ xs ++ more) × (r ≡ flat_map ended_text more ++ s)

same_start : (xs ys : List Line) (r s : List ℕ)
    → flat_map ended_text xs ++ r ≡ flat_map ended_text ys ++ s
    → AllByRecursion HasRanges xs → AllByRecursion HasRanges ys → Ahead xs r ys s
    ⊎ Ahead ys s xs r
same_start [] ys r s e fits good = inl (ys, refl, e)
same_start (x ∷ xs) [] r s e fits good = inr (x ∷ xs, refl, sym e)
same_start (x ∷ xs) (y ∷ ys) r s e fits good =
    let t = flat_map ended_text xs ++ r in
    let u = flat_map ended_text ys ++ s in
    let left : flat_map ended_text (x ∷ xs) ++ r ≡ line_text x ++ 10 ∷ t =
    append_assoc (ended_text x) (flat_map ended_text xs) r ∙ ended_first x t in
    let right : flat_map ended_text (x ∷ xs) ++ r ≡ line_text y ++ 10 ∷ u =
    e ∙ append_assoc (ended_text y) (flat_map ended_text ys) s ∙ ended_first y u in
    let one = one_line (flat_map ended_text (x ∷ xs) ++ r) (line_text x) t (line_text y) u x y left
    (refl, fits.0) right (refl, good.0) in
    elim (same_start xs ys r s one.1 fits.1 good.1) [
      | inl ahead ↦ inl (ahead.0, cc (ahead.1, one.0), ahead.2)
      | inr ahead ↦ inr (ahead.0, cc (ahead.1, one.0), ahead.2)
    ]

-- ---- one outcome

abbrev RefusedForm : List ℕ → Type 0
RefusedForm rest =
    (rest ≢ []) × ((text more : List ℕ) (read : Line) → rest ≡ text ++ 10 ∷ more → Spells text read
    → ⊥)

abbrev RefusedEnd : List Line → List ℕ → Type 0
RefusedEnd above rest = (rest ≡ []) × ((facts above).ended ≡ false)

abbrev RefusedLine : List Line → List ℕ → Reason → Type 0
RefusedLine above rest reason =
    (text : List ℕ) × (more : List ℕ) × (read : Line) × (rest ≡ text ++ 10 ∷ more)
    × Spells text read × (against (facts above) read ≡ Some reason)

abbrev AsRefused : List Line → List ℕ → Reason → Type 0
AsRefused above rest reason = ((reason ≡ why.Form) × RefusedForm rest)
    ⊎ (((reason ≡ why.End) × RefusedEnd above rest) ⊎ RefusedLine above rest reason)

as_refused : (above : List Line) (rest : List ℕ) (reason : Reason) → IsRefused above rest reason
    → AsRefused above rest reason
as_refused above rest why.Form is = inl (refl, is)
as_refused above rest why.End is = inr (inl (refl, is))
as_refused above rest why.Place is = inr (inr is)
as_refused above rest why.Name is = inr (inr is)
as_refused above rest why.Twice is = inr (inr is)
as_refused above rest why.Many is = inr (inr is)
as_refused above rest why.Key is = inr (inr is)

not_empty : (text more : List ℕ) → text ++ 10 ∷ more ≢ []
not_empty [] more e = absurd cc
not_empty (c ∷ text) more e = absurd cc

nothing_ended : (next : Line) (t u : List ℕ) → [] ≡ (ended_text next ++ t) ++ u → ⊥
nothing_ended next t u e =
    not_empty (line_text next) (t ++ u)
    (sym (e ∙ append_assoc (ended_text next) t u ∙ ended_first next (t ++ u)))

true_false : true ≡ false → ⊥
true_false e = absurd cc

some_none : (reason : Reason) → None ≡ Some reason → ⊥
some_none reason e = absurd cc

same_reason : (above : List Line) (rest : List ℕ) (r q : Reason) → AsRefused above rest r
    → AsRefused above rest q → r ≡ q
same_reason above rest r q (inl a) (inl b) = a.0 ∙ sym b.0
same_reason above rest r q (inl a) (inr (inl b)) = absurd (a.1.0 b.1.0)
same_reason above rest r q (inl a) (inr (inr b)) = absurd (a.1.1 b.0 b.1 b.2 b.3 b.4)
same_reason above rest r q (inr (inl a)) (inl b) = absurd (b.1.0 a.1.0)
same_reason above rest r q (inr (inl a)) (inr (inl b)) = a.0 ∙ sym b.0
same_reason above rest r q (inr (inl a)) (inr (inr b)) =
    absurd (not_empty b.0 b.1 (sym b.3 ∙ a.1.0))
same_reason above rest r q (inr (inr a)) (inl b) = absurd (b.1.1 a.0 a.1 a.2 a.3 a.4)
same_reason above rest r q (inr (inr a)) (inr (inl b)) =
    absurd (not_empty a.0 a.1 (sym a.3 ∙ b.1.0))
same_reason above rest r q (inr (inr a)) (inr (inr b)) =
    let one = one_line rest a.0 a.1 b.0 b.1 a.2 b.2 a.3 a.4 b.3 b.4 in
    same_some r q (sym a.5 ∙ ap (against (facts above)) one.0 ∙ b.5)

-- what is refused doesn't begin with a line that nothing is against
refused_here : (above : List Line) (rest : List ℕ) (reason : Reason) (next : Line) (more : List ℕ)
    → AsRefused above rest reason
    → rest ≡ line_text next ++ 10 ∷ more → HasRanges next → against (facts above) next ≡ None → ⊥
refused_here above rest reason next more (inl a) cut fits free =
    a.1.1 (line_text next) more next cut (refl, fits)
refused_here above rest reason next more (inr (inl a)) cut fits free =
    not_empty (line_text next) more (sym cut ∙ a.1.0)
refused_here above rest reason next more (inr (inr a)) cut fits free =
    let one = one_line rest a.0 a.1 (line_text next) more a.2 next a.3 a.4 cut (refl, fits) in
    some_none reason (sym free ∙ ap (against (facts above)) (sym one.0) ∙ a.5)

module _ (bytes : List ℕ) (above : List Line) (rest : List ℕ) (reason : Reason)
    (is : AsRefused above rest reason) where
  -- nothing is refused where the text goes on with more lines that nothing is against
  refused_ahead : (lines : List Line) (s s' : List ℕ) (next : Line) (more : List Line)
      → BeginsWith bytes lines s → lines ≡ above ++ next ∷ more
      → rest ≡ flat_map ended_text (next ∷ more) ++ s' → ⊥
  refused_ahead lines s s' next more begins e cut =
      let behind = flat_map ended_text more ++ s' in
      let cut' : rest ≡ line_text next ++ 10 ∷ behind = cut
      ∙ append_assoc (ended_text next) (flat_map ended_text more) s'
      ∙ ended_first next behind in
      let fits = all_right HasRanges above (next ∷ more) (rw e at begins.ranges) in
      refused_here above rest reason next behind is cut' fits.0 (begins.free above next more e)

  refused_at_end : rest ≡ [] → (facts above).ended ≡ false
  refused_at_end none = by_case is
    where
      by_case : AsRefused above rest reason → (facts above).ended ≡ false
      by_case (inl a) = absurd (a.1.0 none)
      by_case (inr (inl a)) = a.1.1
      by_case (inr (inr a)) = absurd (not_empty a.0 a.1 (sym a.3 ∙ none))

  no_script : (script : ScriptView) → BeginsWith bytes above rest → IsScriptOf bytes script → ⊥
  no_script script begins of =
      elim (same_start above of.lines rest [] (sym begins.spelled ∙ of.read.spelled) begins.ranges
      of.read.ranges) [
        | inl ahead ↦ on_with ahead.0 ahead.1 ahead.2
        | inr ahead ↦ back_with ahead.0 ahead.1 ahead.2
      ]
    where
      ended_not : of.lines ≡ above → rest ≡ [] → ⊥
      ended_not same none = true_false (sym of.ended
          ∙ ap (λ (ls : List Line). (facts ls).ended) same ∙ refused_at_end none)

      on_with : (more : List Line) → of.lines ≡ above ++ more
          → rest ≡ flat_map ended_text more ++ [] → ⊥
      on_with [] e cut = ended_not (e ∙ append-nil above) cut
      on_with (next ∷ more) e cut = refused_ahead of.lines [] [] next more of.read e cut

      back_with : (more : List Line) → above ≡ of.lines ++ more
          → [] ≡ flat_map ended_text more ++ rest → ⊥
      back_with [] e cut = ended_not (sym (e ∙ append-nil of.lines)) (sym cut)
      back_with (next ∷ more) e cut = nothing_ended next (flat_map ended_text more) rest cut

never_both : (bytes : List ℕ) (refusal : Refusal) → FirstRefusal bytes refusal → IsClean bytes → ⊥
never_both bytes refusal first clean =
    elim first [
      | inl long ↦ absurd (omega (arith, long.0, clean.1.short))
      | inr at ↦ no_script bytes at.1 at.2 refusal.reason (as_refused at.1 at.2 refusal.reason at.5)
          clean.0 at.4 clean.1
    ]

module _ (bytes : List ℕ) (above : List Line) (rest : List ℕ) (reason : Reason)
    (is : AsRefused above rest reason) (begins : BeginsWith bytes above rest)
    (above' : List Line) (rest' : List ℕ) (reason' : Reason) (is' : AsRefused above' rest' reason')
    (begins' : BeginsWith bytes above' rest') where
  one_refusal : (length above ≡ length above') × (reason ≡ reason')
  one_refusal =
      elim (same_start above above' rest rest' (sym begins.spelled ∙ begins'.spelled)
      begins.ranges begins'.ranges) [
        | inl ahead ↦ on_with ahead.0 ahead.1 ahead.2
        | inr ahead ↦ back_with ahead.0 ahead.1 ahead.2
      ]
    where
      same_place : above' ≡ above → rest ≡ rest' → (length above ≡ length above')
          × (reason ≡ reason')
      same_place e cut =
          let there : AsRefused above rest reason' =
          subst (λ (ls : List Line). AsRefused ls rest reason') e (rw cut is') in
          (ap length (sym e), same_reason above rest reason reason' is there)

      on_with : (more : List Line) → above' ≡ above ++ more
          → rest ≡ flat_map ended_text more ++ rest' → (length above ≡ length above')
          × (reason ≡ reason')
      on_with [] e cut = same_place (e ∙ append-nil above) cut
      on_with (next ∷ more) e cut = absurd
          (refused_ahead bytes above rest reason is above' rest' rest' next more begins' e cut)

      back_with : (more : List Line) → above ≡ above' ++ more
          → rest' ≡ flat_map ended_text more ++ rest → (length above ≡ length above')
          × (reason ≡ reason')
      back_with [] e cut = same_place (sym (e ∙ append-nil above')) (sym cut)
      back_with (next ∷ more) e cut = absurd
          (refused_ahead bytes above' rest' reason' is' above rest rest next more begins e cut)

never_two : (bytes : List ℕ) (a b : Refusal) → FirstRefusal bytes a → FirstRefusal bytes b → a ≡ b
never_two bytes a b first second =
    elim first [
      | inl long ↦ elim second [
        | inl other ↦ long.1 ∙ sym other.1
        | inr at ↦ absurd (omega (arith, long.0, at.0))
      ]
      | inr here ↦ elim second [
        | inl other ↦ absurd (omega (arith, other.0, here.0))
        | inr at ↦
            let same = one_refusal bytes here.1 here.2 a.reason
            (as_refused here.1 here.2 a.reason here.5) here.4
            at.1 at.2 b.reason (as_refused at.1 at.2 b.reason at.5) at.4 in
            let line : a.line ≡ b.line = here.3 ∙ ap (λ (k : ℕ). k + 1) same.0 ∙ sym at.3 in
            ap (λ (n : ℕ). record { line = n; reason = a.reason }) line
            ∙ ap (λ (r : Reason). record { line = b.line; reason = r }) same.1
      ]
    ]

never_two_scripts : (bytes : List ℕ) (a b : ScriptView) → IsScriptOf bytes a → IsScriptOf bytes b
    → a ≡ b
never_two_scripts bytes a b first second =
    elim (same_start first.lines second.lines [] [] (sym first.read.spelled ∙ second.read.spelled)
    first.read.ranges second.read.ranges) [
      | inl ahead ↦ by_more first.lines second.lines a b first.says second.says ahead.0 ahead.1
          ahead.2
      | inr ahead ↦ sym (by_more second.lines first.lines b a second.says first.says ahead.0 ahead.1
          ahead.2)
    ]
  where
    by_more : (xs ys : List Line) (x y : ScriptView) → x ≡ script_said xs → y ≡ script_said ys
        → (more : List Line) → ys ≡ xs ++ more
        → [] ≡ flat_map ended_text more ++ [] → x ≡ y
    by_more xs ys x y p q [] e cut = p ∙ ap script_said (sym (e ∙ append-nil xs)) ∙ sym q
    by_more xs ys x y p q (next ∷ more) e cut =
        absurd (nothing_ended next (flat_map ended_text more) [] cut)

pub one_outcome : EachTextHasOneOutcome
one_outcome bytes =
    record {
      some = some_outcome bytes;
      apart = never_both bytes;
      one = never_two bytes;
      script =
          never_two_scripts bytes;
    }

pub clean_text : CleanTextsAreTheirOwn
clean_text bytes script of = sym (whole_text bytes script of)
