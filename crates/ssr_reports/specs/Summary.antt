-- The line that ends a run, and the one that tells what of a file isn't searched.
use Rattle.std.specs.Prelude.{ℕ, ◌+◌, ◌==◌, if◌then◌else◌, List, [], ◌++◌, codes, decimal}
use Rattle.ssr_reports.specs.Places.{place_words}
use Rattle.ssr_reports.specs.declared.places.LinePlace.{LinePlace}
use Rattle.ssr_reports.specs.declared.summary.Summary.{Summary}

-- a number, with the word for one or for many
abbrev pub counted : ℕ → List ℕ → List ℕ → List ℕ
counted count one many = decimal count ++ (codes " " ++ (if count == 1 then one else many))

-- the same behind a front; nothing of none
abbrev pub some_counted : List ℕ → ℕ → List ℕ → List ℕ → List ℕ
some_counted front count one many = if count == 0 then [] else front ++ counted count one many

-- the places that aren't changed
abbrev pub unchanged_text : Summary → List ℕ
unchanged_text summary =
    some_counted (codes "; ") (summary.set_aside + summary.unread) (codes "left as it is") (codes "left as they are")
    ++ some_counted (codes "; ") summary.undecided (codes "undecided") (codes "undecided")

abbrev pub summary_text : Summary → List ℕ
summary_text summary =
    counted summary.matches (codes "match") (codes "matches")
    ++ (some_counted (codes " in ") summary.files (codes "file") (codes "files")
    ++ (some_counted (codes ": ") summary.edits (codes "edit") (codes "edits")
    ++ (unchanged_text summary
    ++ (some_counted (codes "; ") summary.left_out (codes "file left out") (codes "files left out")
    ++ (some_counted (codes "; ") summary.not_searched (codes "file not searched whole") (codes "files not searched whole") ++ codes "\n")))))

-- what of a file isn't searched: the first place, how many lines it has there, and how many more places there are
abbrev pub not_searched_text : List ℕ → LinePlace → ℕ → ℕ → List ℕ
not_searched_text file place lines more =
    place_words file place
    ++ (codes ": not searched: "
    ++ (counted lines (codes "line that isn't read") (codes "lines that aren't read") ++ some_counted (codes ", and ") more (codes "more place") (codes "more places")))
