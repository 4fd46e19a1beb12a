-- The summary of a drill, part by part.
use Rattle.std.proofs.Common.{◌≡◌, ℕ, List, [], ◌∷◌, ◌++◌, length, ◌∙◌, ap}
use Rattle.std.specs.Prelude.{codes}
use Rattle.std.specs.Fmt.{decimal}
use Rattle.events.specs.ScriptView.{ScriptView}
use Rattle.machine.specs.Text.{line}
use Rattle.machine.specs.Wire.{frames}
use Rattle.replay.specs.Summary.{line_of_host, summary}
use Rattle.replay.specs.inside.Printing.{hosts_to}
use Rattle.replay.proofs.Hosts.{host_lines_whole}

pub summary_parts : (seed count events sealed : ℕ) (script : ScriptView)
    (name other start one two three four : List ℕ)
    → start ≡ [] → one ≡ start ++ line (codes "drill" ∷ decimal seed ∷ decimal count ∷ [])
    → two ≡ one ++ line (name ∷ decimal events ∷ []) → name ≡ codes "events" → events ≡ length script.events
    → three ≡ two ++ line (other ∷ decimal sealed ∷ []) → other ≡ codes "frames" → sealed ≡ length (frames script)
    → four ≡ three ++ hosts_to (line_of_host script) script.roster 250 → four ≡ summary seed count script
summary_parts seed count events sealed script name other start one two three four s a b m e d n f h =
    let first = line (codes "drill" ∷ decimal seed ∷ decimal count ∷ []) in
    let second = line (codes "events" ∷ decimal (length script.events) ∷ []) in
    let third = line (codes "frames" ∷ decimal (length (frames script)) ∷ []) in
    let own : line (name ∷ decimal events ∷ []) ≡ second = ap (λ (w : List ℕ). line (w ∷ decimal events ∷ [])) m
    ∙ ap (λ (k : ℕ). line (codes "events" ∷ decimal k ∷ [])) e in
    let next : line (other ∷ decimal sealed ∷ []) ≡ third = ap (λ (w : List ℕ). line (w ∷ decimal sealed ∷ [])) n
    ∙ ap (λ (k : ℕ). line (codes "frames" ∷ decimal k ∷ [])) f in
    let at_one : one ≡ first = a ∙ ap (λ (t : List ℕ). t ++ first) s in
    let at_two : two ≡ first ++ second = b ∙ ap (λ (t : List ℕ). t ++ line (name ∷ decimal events ∷ [])) at_one
    ∙ ap (λ (t : List ℕ). first ++ t) own in
    let at_three : three ≡ first ++ second ++ third =
    d ∙ ap (λ (t : List ℕ). t ++ line (other ∷ decimal sealed ∷ [])) at_two
    ∙ ap (λ (t : List ℕ). first ++ second ++ t) next in
    h ∙ ap (λ (t : List ℕ). t ++ hosts_to (line_of_host script) script.roster 250) at_three
    ∙ ap (λ (t : List ℕ). first ++ second ++ third ++ t) (host_lines_whole script)
