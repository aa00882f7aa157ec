-- What the vector of an edit shows, and what applying an edit answers.
use Rattle.std.specs.Prelude.{ℕ, List, map, Result, Ok, Err, String, string_bytes, codes}
use Rattle.std.specs.Global.{Global}
use Rattle.std.specs.List.{All}
use Rattle.ssr_syntax_kinds.specs.declared.range.TextRange.{TextRange}
use Rattle.ssr_base_trees.specs.declared.edit.ApplyError.{ApplyError}
use Rattle.ssr_base_trees.specs.declared.edit.ApplyError.TheVariants as errors
use Rattle.ssr_base_trees.specs.Changes.{Change, FitsText, IsReplaced}

abbrev pub change_of : TextRange × String Global → Change
change_of pair = record { start = pair.0.start; end = pair.0.end; text = string_bytes pair.1 }

abbrev pub changes_of : List (TextRange × String Global) → List Change
changes_of pairs = map change_of pairs

-- the text with the changes made where each of them fits it, else the refusal; want of memory is told only where they fit
abbrev pub Applies : List Change → List ℕ → Result (String Global) ApplyError → Type 0
Applies changes text (Ok new) = All (FitsText text) changes × IsReplaced 0 text changes (string_bytes new)
Applies changes text (Err errors.Range) = ¬ (All (FitsText text) changes)
Applies changes text (Err errors.Memory) = All (FitsText text) changes

-- the words that an error is shown in
abbrev pub error_words : ApplyError → List ℕ
error_words errors.Range = codes "a change lies past the end of the text or inside of a character"
error_words errors.Memory = codes "out of memory"
