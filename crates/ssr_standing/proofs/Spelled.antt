-- The places of changes in the text that tokens spell.
use Rattle.std.proofs.Common.{◌≡◌, ◌∙◌, ℕ, zero, suc, ◌+◌, ◌<◌, ◌≤◌, ◌^◌, Bool, true, false, List, [], ◌∷◌, ◌++◌, length, get_or, take, map, refl, sym, ap, subst, arith, length-append, String, string_bytes}
use Rattle.std.specs.Prelude.{Option, Some, None, All, slice_get, slice_range, if◌then◌else◌}
use Rattle.std.specs.Option.{option_map, option_map_or}
use Rattle.std.specs.Result.{result_ok}
use Rattle.std.specs.Global.{Global}
use Rattle.std.proofs.lemmas.List.{get_or-map, length-map, map-append, take_more}
use Rattle.std.proofs.lemmas.List.Elements.{All-nil, All-push, All-weaker}
use Rattle.ssr_syntax_kinds.specs.declared.range.TextRange.{TextRange}
use Rattle.ssr_syntax_kinds.specs.declared.reach.Reach.{Reach}
use Rattle.ssr_syntax_tree.specs.Syntax.{Syntax, token_count}
use Rattle.ssr_syntax_tree.specs.Places.{node_of, token_of}
use Rattle.ssr_syntax_kinds.specs.declared.fragment.Fragment.TheVariants as fragments
use Rattle.ssr_syntax.specs.Reading.{fragment_reading_of}
use Rattle.ssr_base_trees.specs.Changes.{Change, ChangesInOrder}
use Rattle.ssr_base_trees.specs.Applied.{change_of as change_in, changes_of}
use Rattle.ssr_base_trees.specs.Origins.{Span}
use Rattle.ssr_base_trees.proofs.Changes.{change_at}
use Rattle.ssr_base_trees.specs.Workspace.{Workspace}
use Rattle.ssr_standing.specs.Around.{is_number}
use Rattle.ssr_standing.specs.Expansions.{Spelled, as_it_is, change_of, closing, gap, opening, origin_of, place_behind, read_with, spelled_with, with_change, with_change_at, with_first, with_next, with_token}
use Rattle.ssr_standing.specs.Ranges.{old_place}
use Rattle.ssr_standing.specs.declared.spelling.Place.{Place}
use Rattle.ssr_standing.specs.Private.Spelling.{place_of}

-- the root is the first node
pub root_kind : (tree : Syntax) → (node_of tree 0).kind ≡ tree.kind
unfolding node_of
root_kind tree = refl

-- a place ends within so many bytes
abbrev pub EndsWithin : ℕ → Span → Type 0
EndsWithin n place = (place.start ≤ place.end) × (place.end ≤ n)

-- the places stand in the text
abbrev pub IsWithin : Spelled → Type 0
IsWithin s = All (EndsWithin (length s.text)) s.places

longer : (m n : ℕ) (places : List Span) → m ≤ n → All (EndsWithin m) places → All (EndsWithin n) places
longer m n places h all = All-weaker (EndsWithin m) (EndsWithin n) (λ place e. (e.0, omega (arith, e.1))) places all

token_within : (origin : Option Span) (text : List ℕ) (s : Spelled) → IsWithin s → IsWithin (with_token origin text s)
token_within origin text s h =
    longer (length s.text) (length (s.text ++ (gap s.behind origin ++ text))) s.places (omega (arith, length-append s.text (gap s.behind origin ++ text))) h

change_within : (n : ℕ) (c : Change) (s : Spelled) → IsWithin s → IsWithin (with_change n c s)
change_within n c s h =
    let between = gap s.behind (Some (old_place c)) in
    let whole : length (s.text ++ (between ++ c.text)) ≡ length s.text + length between + length c.text =
    omega (arith, length-append s.text (between ++ c.text), length-append between c.text) in
    All-push (EndsWithin (length (s.text ++ (between ++ c.text)))) s.places (place_behind s c)
    (longer (length s.text) (length (s.text ++ (between ++ c.text))) s.places (omega (arith, whole)) h)
    (omega arith, omega (arith, whole))

change_at_within : (cs : List Change) (n : ℕ) (s : Spelled) → IsWithin s → IsWithin (with_change_at cs n s)
change_at_within cs n s h = by (is_number n s.change) (slice_get cs n)
  where
    by : (b : Bool) (o : Option Change) → IsWithin (if b then s else option_map_or (λ c. with_change n c s) o s)
    by true o = h
    by false None = h
    by false (Some c) = change_within n c s h

next_within : (cs : List Change) (origin : Option Span) (text : List ℕ) (s : Spelled) → IsWithin s → IsWithin (with_next cs origin text s)
next_within cs origin text s h = by (change_of (map old_place cs) origin)
  where
    by : (o : Option ℕ) → IsWithin (option_map_or (λ n. with_change_at cs n s) o (with_token origin text s))
    by None = token_within origin text s h
    by (Some n) = change_at_within cs n s h

pub first_within : (w : Workspace) (cs : List Change) (t : ℕ) (tree : Syntax) (s : Spelled) (n : ℕ) → IsWithin s → IsWithin (with_first w cs t tree s n)
first_within w cs t tree s zero h = h
first_within w cs t tree s (suc n) h =
    next_within cs (origin_of w t n) (token_of tree n).text (with_first w cs t tree s n) (first_within w cs t tree s n h)

-- a token more
pub one_token : (w : Workspace) (cs : List Change) (t : ℕ) (tree : Syntax) (s : Spelled) (n : ℕ) (old new : Spelled) (text : List ℕ) (origin : Option Span) (change : Option ℕ)
    → text ≡ (token_of tree n).text → origin ≡ origin_of w t n → change ≡ change_of (map old_place cs) origin
    → new ≡ option_map_or (λ k. with_change_at cs k old) change (with_token origin text old)
    → old ≡ with_first w cs t tree s n → new ≡ with_first w cs t tree s (n + 1)
one_token w cs t tree s n old new text origin change spells from at is so_far =
    let more : n + 1 ≡ suc n = omega arith in
    let next : with_first w cs t tree s (n + 1) ≡ with_first w cs t tree s (suc n) = ap (λ (k : ℕ). with_first w cs t tree s k) more in
    is
    ∙ ap (λ (c : Option ℕ). option_map_or (λ k. with_change_at cs k old) c (with_token origin text old)) at
    ∙ ap (λ (o : Option Span). with_next cs o text old) from
    ∙ ap (λ (text : List ℕ). with_next cs (origin_of w t n) text old) spells
    ∙ ap (λ (s : Spelled). with_next cs (origin_of w t n) (token_of tree n).text s) so_far ∙ sym next

-- the text of a change more
pub change_added : (s : Spelled) (n : ℕ) (c : Change) (text : List ℕ) (places : List Place) (place : Place) (behind : Option Span) (change : Option ℕ)
    → text ≡ s.text ++ (gap s.behind (Some (old_place c)) ++ c.text) → place.end ≡ length text → place.start + length c.text ≡ place.end
    → map place_of places ≡ s.places → behind ≡ Some (old_place c) → change ≡ Some n
    → record { text = text; places = map place_of (places ++ place ∷ []); behind = behind; change = change } ≡ with_change n c s
change_added s n c text places place behind change spells ends begins so comes numbered =
    let between = gap s.behind (Some (old_place c)) in
    let long : length text ≡ length s.text + length between + length c.text =
    ap length spells ∙ length-append s.text (between ++ c.text) ∙ omega (arith, length-append between c.text) in
    let start : place.start ≡ length s.text + length between = omega (arith, long, ends, begins) in
    let end : place.end ≡ length s.text + length between + length c.text = ends ∙ long in
    let of : List ℕ → List Span → Option Span → Option ℕ → Spelled =
    λ text places behind change. record { text = text; places = places; behind = behind; change = change } in
    let placed : map place_of (places ++ place ∷ []) ≡ s.places ++ place_behind s c ∷ [] =
    map-append place_of places (place ∷ [])
    ∙ ap (λ (ps : List Span). ps ++ place_of place ∷ []) so
    ∙ ap (λ (a : ℕ). s.places ++ record { start = a; end = place.end } ∷ []) start
    ∙ ap (λ (b : ℕ). s.places ++ record { start = length s.text + length between; end = b } ∷ []) end in
    ap (λ (text : List ℕ). of text (map place_of (places ++ place ∷ [])) behind change) spells
    ∙ ap (λ (ps : List Span). of (s.text ++ (between ++ c.text)) ps behind change) placed
    ∙ ap (λ (b : Option Span). of (s.text ++ (between ++ c.text)) (s.places ++ place_behind s c ∷ []) b change) comes
    ∙ ap (λ (k : Option ℕ). of (s.text ++ (between ++ c.text)) (s.places ++ place_behind s c ∷ []) (Some (old_place c)) k) numbered

-- what is said of the places is said of those that are kept
pub short_places : (places : List Place) (n : ℕ) → n < 2 ^ 32 → All (EndsWithin n) (map place_of places)
    → All (λ place. (place.start ≤ place.end) × (place.end < 2 ^ 32)) places
short_places places n short all = λ k place h.
    let here : EndsWithin n (place_of (get_or places k place)) =
    subst (EndsWithin n) (get_or-map place_of places k place (place_of place) h) (all k (place_of place) (omega (arith, length-map places place_of))) in
    (here.0, omega (arith, here.1))

-- the same, of all tokens of a tree whose text is short enough to be read
pub short_spelled : (w : Workspace) (cs : List Change) (t : ℕ) (tree : Syntax) (s : Spelled) (places : List Place) (text : List ℕ)
    → s ≡ spelled_with w cs t tree → map place_of places ≡ s.places → text ≡ s.text ++ closing tree.kind → length text < 2 ^ 32
    → All (λ place. (place.start ≤ place.end) × (place.end < 2 ^ 32)) places
short_spelled w cs t tree s places text is so more short =
    let start : Spelled = record { text = opening tree.kind; places = []; behind = None; change = None } in
    let none : IsWithin start = All-nil (EndsWithin (length (opening tree.kind))) in
    let all : IsWithin s = subst IsWithin (sym is) (first_within w cs t tree start (token_count tree.children) none) in
    short_places places (length s.text) (omega (arith, short, ap length more, length-append s.text (closing tree.kind)))
    (subst (All (EndsWithin (length s.text))) (sym so) all)

-- it is read in the workspace's reach
pub reach_is : (w : Workspace) (reach : Reach) (text : List ℕ) → reach ≡ w.reach
    → result_ok (fragment_reading_of reach fragments.Expr text) ≡ result_ok (fragment_reading_of w.reach fragments.Expr text)
reach_is w reach text is = ap (λ (r : Reach). result_ok (fragment_reading_of r fragments.Expr text)) is

-- what is read of them
pub read_is : (w : Workspace) (cs : List Change) (t : ℕ) (tree : Syntax) (s : Spelled) (text : List ℕ) (new : Option Syntax)
    → s ≡ spelled_with w cs t tree → text ≡ s.text ++ closing tree.kind → new ≡ result_ok (fragment_reading_of w.reach fragments.Expr text)
    → option_map (λ n. (n, s.places)) new ≡ read_with w cs t tree
read_is w cs t tree s text new is more read =
    ap (option_map (λ n. (n, s.places))) read
    ∙ ap (λ (text : List ℕ). option_map (λ n. (n, s.places)) (result_ok (fragment_reading_of w.reach fragments.Expr text))) more
    ∙ ap (λ (s : Spelled). option_map (λ n. (n, s.places)) (result_ok (fragment_reading_of w.reach fragments.Expr (s.text ++ closing tree.kind)))) is

-- ** The changes that put there what stands there.

pub same_places : (text : List ℕ) (cs : List Change) → map old_place (map (as_it_is text) cs) ≡ map old_place cs
same_places text [] = refl
same_places text (c ∷ cs) = ap (λ (places : List Span). old_place c ∷ places) (same_places text cs)

-- a change more
pub one_same : (source : List ℕ) (pairs : List (TextRange × String Global)) (i : ℕ) (pair : TextRange × String Global) (old new : List (TextRange × String Global)) (text : String Global)
    → i < length pairs → pair ≡ get_or pairs i pair → new ≡ old ++ (pair.0, text) ∷ [] → string_bytes text ≡ slice_range source pair.0.start pair.0.end
    → changes_of old ≡ map (as_it_is source) (take i (changes_of pairs)) → changes_of new ≡ map (as_it_is source) (take (i + 1) (changes_of pairs))
one_same source pairs i pair old new text h e more spells so =
    let cs : List Change = changes_of pairs in
    let d : Change = change_in pair in
    let with_text : List ℕ → Change = λ text. record { start = d.start; end = d.end; text = text } in
    let before : List Change = map (as_it_is source) (take i cs) in
    ap changes_of more ∙ map-append change_in old ((pair.0, text) ∷ [])
    ∙ ap (λ (xs : List Change). xs ++ with_text (string_bytes text) ∷ []) so
    ∙ ap (λ (text : List ℕ). before ++ with_text text ∷ []) spells
    ∙ sym (map-append (as_it_is source) (take i cs) (d ∷ []))
    ∙ ap (λ (c : Change). map (as_it_is source) (take i cs ++ c ∷ [])) (sym (change_at pairs i pair d h e))
    ∙ ap (map (as_it_is source)) (sym (take_more cs i d (omega (arith, length-map pairs change_in))))

pub same_order : (text : List ℕ) (from : ℕ) (cs : List Change) → ChangesInOrder from cs → ChangesInOrder from (map (as_it_is text) cs)
same_order text from [] order = tt
same_order text from (c ∷ cs) order = (order.0, order.1, same_order text c.end cs order.2)
