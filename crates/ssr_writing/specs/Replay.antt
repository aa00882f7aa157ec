-- What a disk has after calls, where nobody else writes to it.
use Rattle.std.specs.Prelude.{◌≡◌, ℕ, List, [], ◌∷◌, Option, None, Some, All, Contains, bytes_eq, map}
use Rattle.std.specs.Map.{update}
use Rattle.ssr_writing.specs.declared.writing.NewText.{NewText}
use Rattle.ssr_writing.specs.Disk.{Call, Made, Missed, NotMade, NotRenamed, Removed, Renamed, Saw, temporary_of}

-- the text of the file at each path, if there is one
abbrev pub Texts : Type 0
Texts = List ℕ → Option (List ℕ)

-- the same, but at this path
abbrev pub with : Texts → List ℕ → Option (List ℕ) → Texts
with = update bytes_eq

-- what is there after a call: one that fails leaves all as it was
abbrev pub after_call : Call → Texts → Texts
after_call (Saw path text) texts = texts
after_call (Missed path) texts = texts
after_call (Made path text) texts = with texts path (Some text)
after_call (NotMade path) texts = texts
after_call (Renamed from to) texts = with (with texts from None) to (texts from)
after_call (NotRenamed from to) texts = texts
after_call (Removed path) texts = with texts path None

-- what is there after all of them
abbrev pub after : List Call → Texts → Texts
after [] texts = texts
after (call ∷ calls) texts = after calls (after_call call texts)

-- no temporary file lies there
abbrev pub HasNoTemporaries : List NewText → Texts → Type 0
HasNoTemporaries files texts = All (λ file. texts (temporary_of file) ≡ None) files

-- these files have their new texts, and all else is as it was
pub record AreWritten (files : List NewText) (old new : Texts) : Type 0 where
  pub files_written : All (λ file. new file.path.now ≡ Some file.new.now) files
  pub others_kept : (path : List ℕ) → ¬ Contains (map (λ file. file.path.now) files) path → new path ≡ old path
