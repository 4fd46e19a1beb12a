-- The block for which a call asks.
use Rattle.std.proofs.Common.{◌≡◌, ℕ, List, Bool, true, false, Option, Some, None, refl, sym, ap, subst, ◌∙◌}
use Rattle.std.specs.Prelude.{if◌then◌else◌}
use Rattle.std.specs.Option.{option_map}
use Rattle.levels.specs.Rosters.{RosterView}
use Rattle.file_calls.specs.declared.call.Call.{Call}
use Rattle.file_calls.specs.declared.call.Call.TheVariants.{Put, Append, Get, GetBlock, List as ListNames, Remove}
use Rattle.file_calls.specs.Spelling.{call_of}
use Rattle.machine.specs.Files.{CallRow, Directory, versions_of, files}
use Rattle.machine.specs.Replies.{Question, Sight, sight, is_below, block_version, question_for, question_in, question_by}
use Rattle.machine.specs.Plan.{question_of}

-- the block stands in the names that a call sees
pub record Stands (names : ℕ → Option Directory) (block : Question) : Type 0 where
  pub directory : Directory
  pub seen : names block.level ≡ Some directory
  pub current : block_version (versions_of block.name directory) block.block ≡ Some block.version

found : (level : ℕ) (name : List ℕ) (block : ℕ) (directory : Directory) (o : Option ℕ) (b : Question)
    → block_version (versions_of name directory) block ≡ o
    → option_map (question_for level name block) o ≡ Some b
    → (b.level ≡ level) × (block_version (versions_of b.name directory) b.block ≡ Some b.version)
found level name block directory None b is h = cc
found level name block directory (Some version) b is h =
    let same : question_for level name block version ≡ b = cc in (
      sym (ap (λ (x : Question). x.level) same),
      subst (λ (x : Question). block_version (versions_of x.name directory) x.block ≡ Some x.version) same is,
    )

stands_at : (names : ℕ
    → Option Directory) (level : ℕ) (name : List ℕ) (block : ℕ) (o : Option Directory) (b : Question)
    → names level ≡ o → question_in level name block o ≡ Some b
    → Stands names b
stands_at names level name block None b is h = cc
stands_at names level name block (Some directory) b is h =
    let t = found level name block directory (block_version (versions_of name directory) block) b refl h in
    record { directory = directory; seen = ap names t.0 ∙ is; current = t.1 }

pub asked_stands : (s : Sight) (o : Option Call) (b : Question) → question_by s o ≡ Some b → Stands s.below b
unfolding question_by
asked_stands s None b h = cc
asked_stands s (Some (Get level name)) b h = stands_at s.below level name 0 (s.below level) b refl h
asked_stands s (Some (GetBlock level name number)) b h =
    stands_at s.below level name number (s.below level) b refl h
asked_stands s (Some (Put name content)) b h = cc
asked_stands s (Some (Append name content)) b h = cc
asked_stands s (Some (ListNames level)) b h = cc
asked_stands s (Some (Remove name)) b h = cc

seen_below : (below : Bool) (d directory : Directory) → (if below then Some d else None) ≡ Some directory
    → (below ≡ true) × (d ≡ directory)
seen_below true d directory h = (refl, cc)
seen_below false d directory h = cc

-- the level of the block is at or below the caller's
pub asked_below : (roster : RosterView) (before : List CallRow) (c : CallRow) (b : Question)
    → question_of roster before c ≡ Some b → is_below roster b.level c.level ≡ true
asked_below roster before c b h =
    let t = asked_stands (sight roster c.level before) (call_of c.message) b h in
    (seen_below (is_below roster b.level c.level) (files b.level before).names t.directory t.seen).0

pub asked_current : (roster : RosterView) (before : List CallRow) (c : CallRow) (b : Question)
    → question_of roster before c ≡ Some b
    → block_version (versions_of b.name (files b.level before).names) b.block ≡ Some b.version
asked_current roster before c b h =
    let t = asked_stands (sight roster c.level before) (call_of c.message) b h in
    let same =
    (seen_below (is_below roster b.level c.level) (files b.level before).names t.directory t.seen).1 in
    ap (λ d. block_version (versions_of b.name d) b.block) same ∙ t.current
