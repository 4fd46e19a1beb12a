-- How far a text was read without a refusal.
use Rattle.std.proofs.Common.{◌≡◌, ◌≢◌, ℕ, ◌+◌, Bool, true, false, List, [], ◌∷◌, ◌++◌, length, Option, Some, None, refl, sym, ap, subst, ◌∙◌, arith, length-append}
use Rattle.std.specs.List.{join_with_byte}
use Rattle.std.proofs.lemmas.List.Splits.{slice_split_at, join_with_byte-slice_split}
use Rattle.script.specs.declared.refusal.Reason.{Reason}
use Rattle.script.specs.declared.refusal.Reason.TheVariants as why
use Rattle.script.specs.Lines.{Line}
use Rattle.script.specs.Spelling.{line_text}
use Rattle.script.specs.Facts.{Facts, facts}
use Rattle.script.specs.Reasons.{against, Spells, BeginsWith, IsRefused}
use Rattle.script.specs.inside.Readers.{parts_at, line_read}
use Rattle.script.specs.inside.Stages.{reason_of, at_end, after}
use Rattle.script.proofs.Cutting.{some_part}
use Rattle.script.proofs.Inks.{ranges_held, no_newline}
use Rattle.script.proofs.Forms.{line_takes, spelled_is_read}
use Rattle.script.proofs.Order.{Stand, stand_first, stand_push}
use Rattle.script.proofs.Free.{begins_none, begins_push, allowed, IsOfLines, of_lines}

-- a text cut at its newlines
abbrev pub parts : List ℕ → List (List ℕ)
parts bytes = parts_at 10 bytes

-- a text begins with so many lines that nothing is against, and this is what they say
pub record Reached (bytes : List ℕ) (count : ℕ) (rest : List ℕ) (said : Facts) : Type 0 where
  pub lines : List Line
  pub counted : length lines ≡ count
  pub begins : BeginsWith bytes lines rest
  pub stand : Stand lines said

pub reached_none : (bytes : List ℕ) → Reached bytes 0 bytes (facts [])
reached_none bytes = record {
  lines = [];
  counted = refl;
  begins = begins_none bytes;
  stand =
      stand_first;
}

-- the first of the parts of a text is what stands in front of its first newline
pub cut_is : (rest text behind : List ℕ) → parts rest ≡ text ∷ parts behind
    → rest ≡ text ++ 10 ∷ behind
cut_is rest text behind cut =
    let some = some_part 10 behind in
    sym (join_with_byte-slice_split 10 rest)
    ∙ ap (join_with_byte 10) (cut ∙ ap (λ (ps : List (List ℕ)). text ∷ ps) some.2)
    ∙ ap (λ (ps : List (List ℕ)). text ++ 10 ∷ join_with_byte 10 ps) (sym some.2)
    ∙ ap (λ (bs : List ℕ). text ++ 10 ∷ bs) (join_with_byte-slice_split 10 behind)

-- the text of a line in front of a newline is the first part
pub spelled_part : (rest text more : List ℕ) (read : Line) → rest ≡ text ++ 10 ∷ more
    → Spells text read → parts rest ≡ text ∷ parts more
spelled_part rest text more read cut spells =
    let lacks = no_newline read (ranges_held read spells.1) in
    ap parts (cut ∙ ap (λ (t : List ℕ). t ++ 10 ∷ more) spells.0)
    ∙ slice_split_at _ (line_text read) 10 more lacks refl
    ∙ ap (λ (t : List ℕ). t ∷ parts more) (sym spells.0)

-- one line further
pub goes_on : (bytes : List ℕ) (count : ℕ) (rest text behind : List ℕ) (said : Facts) (read : Line)
    → Reached bytes count rest said
    → parts rest ≡ text ∷ parts behind → line_read text ≡ Some read → against said read ≡ None
    → Reached bytes (count + 1) behind (after said read)
goes_on bytes count rest text behind said read at cut is free =
    let allows = allowed said read free in
    let free' : against (facts at.lines) read ≡ None = rw at.stand.says free in
    record {
      lines = at.lines ++ read ∷ [];
      counted = omega (arith, length-append at.lines (read ∷ []), at.counted);
      begins = begins_push bytes at.lines rest text behind read at.begins
          (cut_is rest text behind cut) (line_takes text read is) free';
      stand = stand_push at.lines said read at.stand allows.0 allows.1;
    }

-- ---- a text that is read no further

not_empty : (text more : List ℕ) → text ++ 10 ∷ more ≢ []
not_empty [] more e = absurd cc
not_empty (c ∷ text) more e = absurd cc

nothing_read : (read : Line) → None ≡ Some read → ⊥
nothing_read read e = absurd cc

refused_form : (lines : List Line) (rest text behind : List ℕ) → parts rest ≡ text ∷ parts behind
    → line_read text ≡ None → IsRefused lines rest why.Form
refused_form lines rest text behind cut none =
    (λ e. not_empty text behind (sym (cut_is rest text behind cut) ∙ e), other)
  where
    other : (text' : List ℕ) (more : List ℕ) (read : Line) → rest ≡ text' ++ 10 ∷ more
        → Spells text' read → ⊥
    other text' more read cut' spells =
        let both : text ∷ parts behind ≡ text' ∷ parts more = sym cut
        ∙ spelled_part rest text' more read cut' spells in
        let same : text ≡ text' = cc in
        nothing_read read (sym none ∙ ap line_read same ∙ spelled_is_read text' read spells)

refused_line : (lines : List Line) (rest text behind : List ℕ) (read : Line) (reason : Reason)
    → rest ≡ text ++ 10 ∷ behind → Spells text read
    → against (facts lines) read ≡ Some reason → IsRefused lines rest reason
refused_line lines rest text behind read reason cut spells e =
    by_reason reason e (of_lines (facts lines) read reason e)
  where
    by_reason : (reason : Reason) → against (facts lines) read ≡ Some reason → IsOfLines reason
        → IsRefused lines rest reason
    by_reason why.Form e of = absurd of
    by_reason why.End e of = absurd of
    by_reason why.Place e of = (text, behind, read, cut, spells, e)
    by_reason why.Name e of = (text, behind, read, cut, spells, e)
    by_reason why.Twice e of = (text, behind, read, cut, spells, e)
    by_reason why.Many e of = (text, behind, read, cut, spells, e)
    by_reason why.Key e of = (text, behind, read, cut, spells, e)

-- a line with a reason against it
pub stops : (bytes : List ℕ) (count : ℕ) (rest text behind : List ℕ) (said : Facts)
    (reason : Reason) (at : Reached bytes count rest said)
    → parts rest ≡ text ∷ parts behind → reason_of said (line_read text) ≡ Some reason
    → IsRefused at.lines rest reason
stops bytes count rest text behind said reason at cut e = by_line (line_read text) refl e
  where
    by_line : (o : Option Line) → line_read text ≡ o → reason_of said o ≡ Some reason
        → IsRefused at.lines rest reason
    by_line None none e =
        let form : why.Form ≡ reason = cc in
        subst (IsRefused at.lines rest) form (refused_form at.lines rest text behind cut none)
    by_line (Some read) is e =
        refused_line at.lines rest text behind read reason (cut_is rest text behind cut)
        (line_takes text read is) (rw at.stand.says e)

one_part : (a text : List ℕ) (more : List (List ℕ)) → a ∷ [] ≡ text ∷ more → more ≡ []
one_part a text more e = cc

some_parts : (text : List ℕ) → parts text ≢ []
some_parts text e = let some = some_part 10 text in absurd (cc (some.2, e))

-- what stands behind the last newline
pub ends_badly : (bytes : List ℕ) (count : ℕ) (rest : List ℕ) (said : Facts) (reason : Reason)
    (at : Reached bytes count rest said)
    → parts rest ≡ rest ∷ [] → at_end said.ended rest ≡ Some reason → IsRefused at.lines rest reason
ends_badly bytes count rest said reason at whole e = by_rest said.ended rest refl refl e
  where
    by_rest : (ended : Bool) (tail : List ℕ) → said.ended ≡ ended → rest ≡ tail
        → at_end ended tail ≡ Some reason → IsRefused at.lines rest reason
    by_rest ended (c ∷ tail) same is e =
        let form : why.Form ≡ reason = cc in
        subst (IsRefused at.lines rest) form (
          (λ empty. absurd (cc (is, empty))),
          (λ text more read cut spells. some_parts more
              (one_part rest text (parts more)
              (sym whole ∙ spelled_part rest text more read cut spells))),
        )
    by_rest true [] same is e = absurd cc
    by_rest false [] same is e =
        let end : why.End ≡ reason = cc in
        subst (IsRefused at.lines rest) end (is, ap (λ (f : Facts). f.ended) at.stand.says ∙ same)

pub ended_well : (ended : Bool) (tail : List ℕ) → at_end ended tail ≡ None → (ended ≡ true)
    × (tail ≡ [])
ended_well true [] e = (refl, refl)
ended_well false [] e = absurd cc
ended_well ended (c ∷ tail) e = absurd cc
