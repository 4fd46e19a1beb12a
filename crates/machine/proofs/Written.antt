-- Each version that stands was written for its name and block.
use Rattle.std.proofs.Common.{◌≡◌, ℕ, zero, suc, ◌+◌, List, [], ◌∷◌, ◌++◌, length, Some, refl, sym, ap, subst, ◌∙◌, ◌⊎◌, inl, inr, arith}
use Rattle.std.specs.Prelude.{slice_get}
use Rattle.std.specs.List.{AllByRecursion}
use Rattle.std.specs.BTreeMap.{is_at}
use Rattle.file_calls.specs.Names.{name_cmp}
use Rattle.machine.specs.Files.{CallRow, Directory, versions_of, Write, Files, written, Writing, write_of, with_writing, files}
use Rattle.machine.proofs.Basics.{found_still}
use Rattle.machine.proofs.Directories.{found_entry, all_inserted, all_removed}
use Rattle.machine.proofs.Filing.{Draws, stays_through}

-- each of these versions of a name was written as its block
abbrev pub AreWritten : List Write → List ℕ → List ℕ → Type 0
AreWritten writes name versions =
    (k v : ℕ) → slice_get versions k ≡ Some v
    → (content : List ℕ) × (written writes v ≡ Some (record { name = name; block = k; content = content }))

abbrev AllWritten : List Write → Directory → Type 0
AllWritten writes names = AllByRecursion (λ entry. AreWritten writes entry.0 entry.1) names

pub looked_up : (writes : List Write) (names : Directory) (name versions : List ℕ) → AllWritten writes names
    → versions_of name names ≡ Some versions → AreWritten writes name versions
looked_up writes names name versions all is =
    found_entry (λ entry. AreWritten writes entry.0 entry.1) names name versions all is

-- what was written stays under its version
written_still : (writes added : List Write) (v : ℕ) (w : Write) → written writes v ≡ Some w
    → written (writes ++ added) v ≡ Some w
written_still writes added zero w is = cc
written_still writes added (suc v) w is = found_still writes added v w is

still_written : (writes added : List Write) (name versions : List ℕ) → AreWritten writes name versions
    → AreWritten (writes ++ added) name versions
still_written writes added name versions are =
    λ k v there. (let t =
    are k v there in (t.0, written_still writes added v (record { name = name; block = k; content = t.0 }) t.1))

all_still_written : (writes added : List Write) (names : Directory) → AllWritten writes names
    → AllWritten (writes ++ added) names
all_still_written writes added [] all = tt
all_still_written writes added (entry ∷ names) all =
    (still_written writes added entry.0 entry.1 all.0, all_still_written writes added names all.1)

-- what stands at the end of a list
last_of : {A : Type 0} (xs : List A) (x : A) → slice_get (xs ++ x ∷ []) (length xs) ≡ Some x
last_of [] x = refl
last_of (y ∷ xs) x = last_of xs x

at_end : (writes : List Write) (w : Write) (v : ℕ) → v ≡ length writes + 1
    → written (writes ++ w ∷ []) v ≡ Some w
at_end writes w zero is = absurd (omega arith)
at_end writes w (suc v) is = let place : v ≡ length writes =
    omega arith in ap (slice_get (writes ++ w ∷ [])) place ∙ last_of writes w

one_place : (old k version v : ℕ) → slice_get (version ∷ []) k ≡ Some v → (k ≡ 0) × (version ≡ v)
one_place old zero version v is = (refl, cc)
one_place old (suc k) version v is = cc

-- an element of a list with one more at its end
in_more : (xs : List ℕ) (x k v : ℕ) → slice_get (xs ++ x ∷ []) k ≡ Some v
    → (slice_get xs k ≡ Some v) ⊎ ((k ≡ length xs) × (x ≡ v))
in_more [] x k v is = inr (one_place 0 k x v is)
in_more (y ∷ xs) x zero v is = inl is
in_more (y ∷ xs) x (suc k) v is = elim (in_more xs x k v is) [
  | inl before ↦ inl before
  | inr here ↦ inr (omega (arith, here), here.1)
]

-- the versions of a write, once it is written
new_written : (writes : List Write) (w : Writing) → w.version ≡ length writes + 1
    → AreWritten writes w.name w.front
    → AreWritten (writes ++ write_of w ∷ []) w.name (w.front ++ w.version ∷ [])
new_written writes w version before = λ k v there. elim (in_more w.front w.version k v there) [
  | inl old ↦
      (let t =
      before k v old in
      (t.0, written_still writes (write_of w ∷ []) v (record { name = w.name; block = k; content = t.0 }) t.1))
  | inr here ↦ (
    w.content,
    at_end writes (write_of w) v (sym here.1 ∙ version)
        ∙ ap (λ (n : ℕ). Some (record { name = w.name; block = n; content = w.content })) (sym here.0),
  )
]

no_versions : (writes : List Write) (name : List ℕ) → AreWritten writes name []
no_versions writes name = λ k v is. cc

front_written : (files : Files) (w : Writing) → Draws files w → AllWritten files.writes files.names
    → AreWritten files.writes w.name w.front
front_written files w drawn all = elim drawn.front [
  | inl alone ↦ subst (AreWritten files.writes w.name) (sym alone) (no_versions files.writes w.name)
  | inr there ↦ looked_up files.writes files.names w.name w.front all there
]

write_kept : (files : Files) (w : Writing) → Draws files w → AllWritten files.writes files.names
    → AllWritten (with_writing (Some w) files).writes (with_writing (Some w) files).names
write_kept files w drawn all =
    all_inserted (λ entry. AreWritten (files.writes ++ write_of w ∷ []) entry.0 entry.1)
    files.names w.name (w.front ++ w.version ∷ [])
    (all_still_written files.writes (write_of w ∷ []) files.names all)
    (new_written files.writes w drawn.version (front_written files w drawn all))

kept : (level : ℕ) (cs : List CallRow) → AllWritten (files level cs).writes (files level cs).names
kept = stays_through (λ files. AllWritten files.writes files.names) (record {
  none = tt;
  write = write_kept;
  remove = λ files name all.
      all_removed (λ entry. AreWritten files.writes entry.0 entry.1) files.names
      (is_at (name_cmp name)) all;
})

-- each version that stands was written for its name, as its block
pub stands_written : (level : ℕ) (cs : List CallRow) (name versions : List ℕ)
    → versions_of name (files level cs).names ≡ Some versions → AreWritten (files level cs).writes name versions
stands_written level cs name versions there =
    looked_up (files level cs).writes (files level cs).names name versions (kept level cs) there
