-- Private: the calls that notes tell.
use Rattle.std.specs.Prelude.{ℕ, List, map}
use Rattle.ssr_writing.specs.declared.on_disk.Note.{Note}
use Rattle.ssr_writing.specs.declared.on_disk.Note.TheVariants as note
use Rattle.ssr_writing.specs.Disk.{Call, Made, Missed, NotMade, NotRenamed, Removed, Renamed, Saw}

abbrev pub bytes_of : {A : Type 0} → List (ℕ × A) → List ℕ
bytes_of entries = map (λ entry. entry.0) entries

abbrev pub call_of : Note → Call
call_of (note.Saw path text) = Saw (bytes_of path.items) (bytes_of text.items)
call_of (note.Missed path) = Missed (bytes_of path.items)
call_of (note.Made path text) = Made (bytes_of path.items) (bytes_of text.items)
call_of (note.NotMade path) = NotMade (bytes_of path.items)
call_of (note.Renamed from to) = Renamed (bytes_of from.items) (bytes_of to.items)
call_of (note.NotRenamed from to) = NotRenamed (bytes_of from.items) (bytes_of to.items)
call_of (note.Removed path) = Removed (bytes_of path.items)

abbrev pub calls_of : {A : Type 0} → List (Note × A) → List Call
calls_of entries = map (λ entry. call_of entry.0) entries
