-- What a disk is asked, and what a run that gives files new texts asks of it.
use Rattle.std.specs.Prelude.{◌≡◌, ◌≢◌, ℕ, ◌+◌, List, [], ◌∷◌, ◌++◌, ◌⊎◌, Some, AllPairs, map, take, drop, flat_map, slice_get}
use Rattle.ssr_writing.specs.declared.faults.WriteError.{WriteError}
use Rattle.ssr_writing.specs.declared.faults.WriteFault.TheVariants.{Clash, Memory}
use Rattle.ssr_writing.specs.declared.writing.NewText.{NewText}
use Rattle.ssr_writing.specs.Temporary.{temporary_path}

-- a call with its outcome: a file was seen with this text or not, was made with it or not, took another's place or not, was removed
pub data Call : Type 0 where
  Saw : (path text : List ℕ) → Call
  Missed : (path : List ℕ) → Call
  Made : (path text : List ℕ) → Call
  NotMade : (path : List ℕ) → Call
  Renamed : (from to : List ℕ) → Call
  NotRenamed : (from to : List ℕ) → Call
  Removed : (path : List ℕ) → Call

-- the path of a file's temporary
abbrev pub temporary_of : NewText → List ℕ
temporary_of file = temporary_path file.path.now

-- no two paths are the same
abbrev pub AreDistinct : List (List ℕ) → Type 0
AreDistinct = AllPairs (λ one other. one ≢ other)

-- the paths of a file's turn: its own, and its temporary's
abbrev pub places : NewText → List (List ℕ)
places file = file.path.now ∷ temporary_of file ∷ []

-- no file is given twice, and none is another's temporary
abbrev pub AreApart : List NewText → Type 0
AreApart files = AreDistinct (flat_map places files)

-- the first file that isn't apart from those in front of it
abbrev pub ClashesFirst : List NewText → ℕ → Type 0
ClashesFirst files failed = AreApart (take failed files) × ¬ AreApart (take (failed + 1) files)

-- the file is seen with its old text
abbrev pub seen : NewText → Call
seen file = Saw file.path.now file.old.now

-- it is seen, and its temporary is made with the new text
abbrev pub makes : NewText → List Call
makes file = seen file ∷ Made (temporary_of file) file.new.now ∷ []

-- it is seen, and directly then its temporary takes its place
abbrev pub replaces : NewText → List Call
replaces file = seen file ∷ Renamed (temporary_of file) file.path.now ∷ []

-- its temporary is removed
abbrev pub removes : NewText → Call
removes file = Removed (temporary_of file)

-- how a file's turn fails: it isn't seen with its old text, or the disk refuses the call behind that
pub data Failing : Type 0 where
  Unseen : Failing
  Refused : Failing

-- a turn that makes no temporary
abbrev pub fails_to_make : Failing → NewText → List Call
fails_to_make Unseen file = Missed file.path.now ∷ []
fails_to_make Refused file = seen file ∷ NotMade (temporary_of file) ∷ []

-- a turn whose temporary doesn't take the file's place
abbrev pub fails_to_replace : Failing → NewText → List Call
fails_to_replace Unseen file = Missed file.path.now ∷ []
fails_to_replace Refused file = seen file ∷ NotRenamed (temporary_of file) file.path.now ∷ []

-- a run that ends well: all temporaries are made, and then each takes its file's place
abbrev pub writes : List NewText → List Call
writes files = flat_map makes files ++ flat_map replaces files

-- a run that fails to make the temporary of this file: those that were made are removed
abbrev pub StopsMaking : List NewText → ℕ → List Call → Type 0
StopsMaking files failed asked =
    (file : NewText) × (how : Failing) × (slice_get files failed ≡ Some file)
    × (asked ≡ flat_map makes (take failed files) ++ fails_to_make how file ++ map removes (take failed files))

-- a run that has made all temporaries, and fails to put the one of this file in its place: that one and all behind it are removed
abbrev pub StopsReplacing : List NewText → ℕ → List Call → Type 0
StopsReplacing files failed asked =
    (file : NewText) × (how : Failing) × (slice_get files failed ≡ Some file)
    × (asked ≡ flat_map replaces (take failed files) ++ fails_to_replace how file ++ map removes (drop failed files))

-- a run that fails before the first call: two files want one path, or there is no memory
abbrev pub StopsAtOnce : List NewText → WriteError → Type 0
StopsAtOnce files e = (e.written ≡ 0) × ((e.why ≡ Memory) ⊎ ((e.why ≡ Clash) × ClashesFirst files e.failed))

-- a run that the disk fails: while no file has its new text, or when each in front of the failed one has it
abbrev pub StopsLater : List NewText → WriteError → List Call → Type 0
StopsLater files e asked =
    ((e.written ≡ 0) × StopsMaking files e.failed asked)
    ⊎ ((replacing : List Call) × (e.written ≡ e.failed) × (asked ≡ flat_map makes files ++ replacing) × StopsReplacing files e.failed replacing)

-- a run that fails: the disk is asked nothing, or all files are apart
abbrev pub Stops : List NewText → WriteError → List Call → Type 0
Stops files e asked = ((asked ≡ []) × StopsAtOnce files e) ⊎ (AreApart files × StopsLater files e asked)

-- the calls since then
abbrev pub Asks : List Call → List Call → (List Call → Type 0) → Type 0
Asks old new P = (asked : List Call) × (new ≡ old ++ asked) × P asked
