-- The words of notes.
use Rattle.std.specs.Prelude.{ℕ, List, ◌++◌, Option, Some, None, codes, string_bytes}
use Rattle.std.specs.Option.{option_map}
use Rattle.ssr_package.specs.declared.notes.Trouble.{Trouble}
use Rattle.ssr_package.specs.declared.notes.Trouble.TheVariants as t
use Rattle.ssr_package.specs.declared.notes.Note.{Note}

-- why a file is passed over; the words of what the system says are left open
abbrev pub trouble_words : Trouble → Option (List ℕ)
trouble_words (t.NoModule name) = Some (codes "no file for mod " ++ string_bytes name)
trouble_words (t.ModuleOutside name) = Some ((codes "the file of mod " ++ string_bytes name) ++ codes " lies outside of the folder")
trouble_words t.Outside = Some (codes "outside of the folder")
trouble_words t.Missing = Some (codes "not there")
trouble_words t.Link = Some (codes "reached through a link")
trouble_words t.NotOurs = Some (codes "below target or vendor")
trouble_words t.NotAFile = Some (codes "no file")
trouble_words t.NotText = Some (codes "not UTF-8")
trouble_words t.NoFolder = Some (codes "no folder fits")
trouble_words (t.Unread mark) = Some (mark.now ++ codes " isn't read")
trouble_words (t.Unreached files) = Some (string_bytes files ++ codes "; name them behind --")
trouble_words (t.OneUnreached file) = Some (string_bytes file ++ codes "; name it behind --")
trouble_words (t.Unreadable kind) = None

-- a file's name, and why it is passed over
abbrev pub note_words : Note → Option (List ℕ)
note_words note = option_map (λ words. (string_bytes note.name ++ codes ": ") ++ words) (trouble_words note.trouble)
