-- What calls of macros stand for in a file with changes made.
use Rattle.std.specs.Prelude.{ℕ, zero, suc, ◌+◌, ◌==◌, ◌&&◌, ◌||◌, not, Bool, true, false, if◌then◌else◌, List, [], ◌∷◌, ◌++◌, Option, Some, None, codes, length, map, slice_get, slice_range}
use Rattle.std.specs.Option.{option_map, option_map_or, option_and_then}
use Rattle.std.specs.Result.{result_ok}
use Rattle.ssr_syntax_kinds.specs.declared.kinds.SyntaxKind.{SyntaxKind}
use Rattle.ssr_syntax_kinds.specs.declared.kinds.SyntaxKind.TheVariants as k
use Rattle.ssr_syntax_kinds.specs.declared.fragment.Fragment.TheVariants as fragments
use Rattle.ssr_syntax_kinds.specs.Kinds.{same_kind}
use Rattle.ssr_syntax_tree.specs.Syntax.{Syntax, source_of, token_count}
use Rattle.ssr_syntax_tree.specs.Places.{token_of}
use Rattle.ssr_syntax.specs.Reading.{fragment_reading_of}
use Rattle.ssr_base_trees.specs.Changes.{Change}
use Rattle.ssr_base_trees.specs.Origins.{Span}
use Rattle.ssr_base_trees.specs.Workspace.{FileSpan, Workspace, above, node_id, original_range, run_range, tree_of, trees}
use Rattle.ssr_standing.specs.ArgumentNames.{names_arguments}
use Rattle.ssr_standing.specs.Around.{agree, has, hole_at, is_number, passed}
use Rattle.ssr_standing.specs.Ranges.{old_place}
use Rattle.ssr_standing.specs.Standing.{stands_of}

-- ** The text of what a call stands for.

-- a text, the places in it of the texts of changes, where in the file the end of it comes from, and the number of the change whose
-- text ends it
pub record Spelled : Type 0 where
  pub text : List ℕ
  pub places : List Span
  pub behind : Option Span
  pub change : Option ℕ

-- whether what comes from the second span stands directly behind what comes from the first one
abbrev pub touches : Option Span → Option Span → Bool
touches None next = false
touches (Some before) None = false
touches (Some before) (Some next) = before.end == next.start

-- what is put between them
abbrev pub gap : Option Span → Option Span → List ℕ
gap before next = if touches before next then [] else codes " "

-- a token more
abbrev pub with_token : Option Span → List ℕ → Spelled → Spelled
with_token origin text s = record { text = s.text ++ (gap s.behind origin ++ text); places = s.places; behind = origin; change = None }

-- where the text of a change begins and ends behind another text
abbrev pub place_behind : Spelled → Change → Span
place_behind s c =
    let start = length s.text + length (gap s.behind (Some (old_place c))) in record { start = start; end = start + length c.text }

-- the text of a change more
abbrev pub with_change : ℕ → Change → Spelled → Spelled
with_change n c s = record {
  text = s.text ++ (gap s.behind (Some (old_place c)) ++ c.text);
  places = s.places ++ place_behind s c ∷ [];
  behind = Some (old_place c);
  change = Some n;
}

-- the text of the change with this number, unless it stands there already
abbrev pub with_change_at : List Change → ℕ → Spelled → Spelled
with_change_at cs n s = if is_number n s.change then s else option_map_or (λ c. with_change n c s) (slice_get cs n) s

-- the number of the place that has the origin of a token
abbrev pub change_of : List Span → Option Span → Option ℕ
change_of places None = None
change_of places (Some origin) = hole_at places origin.start origin.end

-- a token more: itself, or, where its bytes are replaced, the text of their change
abbrev pub with_next : List Change → Option Span → List ℕ → Spelled → Spelled
with_next cs origin text s = option_map_or (λ n. with_change_at cs n s) (change_of (map old_place cs) origin) (with_token origin text s)

-- the bytes of the file at the top that a token of a tree comes from
abbrev pub origin_of : Workspace → ℕ → ℕ → Option Span
origin_of w t n = option_map (λ range. range.span) (run_range (trees w) t (record { first = n; count = 1 }))

-- behind a text the first tokens of a tree, so many
abbrev pub with_first : Workspace → List Change → ℕ → Syntax → Spelled → ℕ → Spelled
with_first w cs t tree s zero = s
with_first w cs t tree s (suc n) = with_next cs (origin_of w t n) (token_of tree n).text (with_first w cs t tree s n)

-- statements and items
abbrev pub is_in_braces : SyntaxKind → Bool
is_in_braces kind = same_kind kind k.MACRO_STMTS || same_kind kind k.MACRO_ITEMS

abbrev pub opening : SyntaxKind → List ℕ
opening kind = if is_in_braces kind then codes "{" else codes "("

abbrev pub closing : SyntaxKind → List ℕ
closing kind = if is_in_braces kind then codes "}" else codes ")"

-- the tokens of a tree with changes made: statements and items in braces, anything else in parentheses
abbrev pub spelled_with : Workspace → List Change → ℕ → Syntax → Spelled
spelled_with w cs t tree =
    with_first w cs t tree (record { text = opening tree.kind; places = []; behind = None; change = None }) (token_count tree.children)

-- ** Whether it groups as before.

-- what is read of that text, and the places of the changes in it
abbrev pub read_with : Workspace → List Change → ℕ → Syntax → Option (Syntax × List Span)
read_with w cs t tree =
    let s = spelled_with w cs t tree in
    option_map (λ new. (new, s.places)) (result_ok (fragment_reading_of w.reach fragments.Expr (s.text ++ closing tree.kind)))

-- the changes that put there what stands there
abbrev pub as_it_is : List ℕ → Change → Change
as_it_is text c = record { start = c.start; end = c.end; text = slice_range text c.start c.end }

abbrev pub as_they_are : Syntax → List Change → List Change
as_they_are file cs = map (as_it_is (source_of file)) cs

-- two trees agree around their places, and nothing that is put into the second one is taken for an argument with a name
abbrev pub agree_both : Syntax × List Span → Syntax × List Span → Bool
agree_both old new = agree old.0 old.1 new.0 new.1 && not (names_arguments new.0 new.1)

-- both are there, and agree
abbrev pub both_agree : Option (Syntax × List Span) → Option (Syntax × List Span) → Bool
both_agree old new = option_map_or (λ one. option_map_or (agree_both one) new false) old false

-- the call that a tree stands for, as a span of a file
abbrev pub call_of : Workspace → ℕ → Option FileSpan
call_of w t = option_and_then (original_range (trees w)) (above (trees w) (node_id t 0))

-- a place has bytes of a call alone, and not all of them; or of a node
abbrev pub is_inside : Span → Span → Bool
is_inside call place = has place.start place.end call && not (has call.start call.end place)

-- the same of the first place that ends behind the call's beginning
abbrev pub has_change : List Span → Span → Bool
has_change places call = option_map_or (is_inside call) (slice_get places (passed places call.start)) false

-- a call in this file, in which something is replaced
abbrev pub is_changed : ℕ → List Change → FileSpan → Bool
is_changed n cs call = (call.file == n) && has_change (map old_place cs) call.span

-- what a call in a file stands for groups as before; a call in which nothing is replaced stands for what it did
abbrev pub stands_for : Workspace → ℕ → Syntax → List Change → ℕ → Bool
stands_for w n file cs t =
    if option_map_or (is_changed n cs) (call_of w t) false
    then option_map_or (λ tree. both_agree (read_with w (as_they_are file cs) t tree) (read_with w cs t tree)) (tree_of w t) false
    else true

-- the same of the first trees behind those of the files, so many
abbrev pub first_stand : Workspace → ℕ → Syntax → List Change → ℕ → Bool
first_stand w n file cs zero = true
first_stand w n file cs (suc i) = first_stand w n file cs i && stands_for w n file cs (length w.files + i)

-- The text of a file is read with the changes made, and groups as it did, and so does what each call of a macro in it stands for.
abbrev pub stands_in : Workspace → ℕ → List Change → Bool
stands_in w n cs = option_map_or (λ file. stands_of w.reach file cs && first_stand w n file cs (length w.expansions)) (slice_get w.files n) false
