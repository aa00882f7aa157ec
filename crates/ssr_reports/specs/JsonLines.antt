-- Matches, what isn't searched, and the summary as the tokens of objects of JSON.
use Rattle.std.specs.Prelude.{ℕ, ◌≡◌, Bool, List, [], ◌∷◌, ◌++◌, flat_map, Option, Some, None, Vec, codes, decimal}
use Rattle.std.specs.Global.{Global}
use denote.Ref.{Bor}
use Rattle.json.specs.Token.{Token, begin_object, end_object, begin_array, end_array, key, string, number, boolean, null}
use Rattle.json.specs.Written.{Written}
use Rattle.json.specs.Lex.{tokens}
use Rattle.json.specs.Print.{print}
use Rattle.ssr_reports.specs.declared.json_lines.Held.{Held}
use Rattle.ssr_reports.specs.declared.json_lines.MatchReport.{MatchReport}
use Rattle.ssr_reports.specs.declared.json_lines.NotSearched.{NotSearched}
use Rattle.ssr_reports.specs.declared.places.LinePlace.{LinePlace}
use Rattle.ssr_syntax_kinds.specs.declared.range.TextRange.{TextRange}
use Rattle.ssr_reports.specs.declared.summary.Summary.{Summary}

-- these tokens are written behind others
pub record Gains (old new : Written) (gained : List Token) : Type 0 where
  pub before : new.before ≡ old.before
  pub tokens : new.tokens ≡ old.tokens ++ gained

abbrev pub number_field : List ℕ → ℕ → List Token
number_field name n = key name ∷ number (decimal n) ∷ []

abbrev pub text_field : List ℕ → List ℕ → List Token
text_field name text = key name ∷ string text ∷ []

abbrev pub flag_field : List ℕ → Bool → List Token
flag_field name flag = key name ∷ boolean flag ∷ []

abbrev pub null_field : List ℕ → List Token
null_field name = key name ∷ null ∷ []

-- the new text, or null
abbrev pub new_field : Option (Bor (List ℕ)) → List Token
new_field (Some text) = text_field (codes "new") text.now
new_field None = null_field (codes "new")

-- bytes of a file, and where they begin
abbrev pub range_fields : List ℕ → TextRange → LinePlace → List Token
range_fields file range place =
    text_field (codes "file") file
    ++ (number_field (codes "start") range.start
    ++ (number_field (codes "end") range.end ++ (number_field (codes "line") place.line ++ number_field (codes "column") place.column)))

-- which rule matches, and where
abbrev pub place_fields : MatchReport → List Token
place_fields report = number_field (codes "rule") report.rule ++ range_fields report.file.now report.range report.place

-- what a placeholder holds
abbrev pub held_tokens : Held → List Token
held_tokens held =
    begin_object ∷ (text_field (codes "name") held.name.now
    ++ (number_field (codes "start") held.range.start
    ++ (number_field (codes "end") held.range.end ++ (text_field (codes "text") held.text.now ++ end_object ∷ []))))

abbrev pub placeholders_tokens : List Held → List Token
placeholders_tokens placeholders = key (codes "placeholders") ∷ begin_array ∷ (flat_map held_tokens placeholders ++ end_array ∷ [])

abbrev pub match_tokens : MatchReport → List Token
match_tokens report =
    begin_object ∷ (place_fields report
    ++ ((text_field (codes "old") report.old.now ++ (new_field report.new ++ flag_field (codes "set_aside") report.set_aside))
    ++ (placeholders_tokens report.placeholders.now ++ end_object ∷ [])))

-- how many places aren't changed for other reasons than what is set aside
abbrev pub unchanged_tokens : Summary → List Token
unchanged_tokens summary = number_field (codes "unread") summary.unread ++ number_field (codes "undecided") summary.undecided

abbrev pub not_searched_tokens : NotSearched → List Token
not_searched_tokens report =
    begin_object ∷ key (codes "not_searched") ∷ begin_object ∷ (range_fields report.file.now report.range report.place ++ end_object ∷ end_object ∷ [])

abbrev pub summary_tokens : Summary → List Token
summary_tokens summary =
    begin_object ∷ key (codes "summary") ∷ begin_object ∷ (number_field (codes "files") summary.files
    ++ (number_field (codes "matches") summary.matches
    ++ (number_field (codes "edits") summary.edits
    ++ (number_field (codes "set_aside") summary.set_aside
    ++ (unchanged_tokens summary
    ++ (number_field (codes "left_out") summary.left_out
    ++ (number_field (codes "not_searched") summary.not_searched ++ end_object ∷ end_object ∷ [])))))))

-- a line of JSON: the text of these tokens, which reads back as they are, and a line break
pub record IsLineOf (written : List Token) (line : Vec ℕ Global) : Type 0 where
  pub text : line.items ≡ print written ++ 10 ∷ []
  pub reads_back : tokens (print written) ≡ written
