-- What the tokens of an expansion spell, where those of the arguments are spelled.
use Rattle.std.proofs.Common.{◌≡◌, ℕ, zero, suc, ◌+◌, ◌-◌, List, [], ◌∷◌, ◌++◌, Bool, true, false, length, map, take, drop, if◌then◌else◌, nat_lt, codes, refl, sym, subst, rules}
use Rattle.std.proofs.lemmas.List.Elements.{All-nil, All-cons, All-head, All-tail, All-append, All-map, All-take, All-drop}
use Rattle.std.specs.List.{All}
use Rattle.ssr_syntax_kinds.specs.declared.kinds.SyntaxKind.TheVariants as k
use Rattle.ssr_syntax.specs.declared.expansions.ExpToken.{ExpToken}
use Rattle.ssr_macro_arguments.specs.Arguments.{Piece, piece_of, Spells, argument_piece, pieces, mark}
use Rattle.ssr_macro_arguments.specs.declared.arguments.ArgumentToken.{ArgumentToken}
use Rattle.ssr_macro_arguments.specs.declared.macros.Form.{Form}
use Rattle.ssr_macro_arguments.specs.declared.macros.Form.TheVariants as forms
use Rattle.ssr_macro_arguments.specs.Private.Tokens.{AreSpelled, AreSpelledArguments}
use Rattle.ssr_macro_arguments.specs.Forms.{depth_behind, is_outer, front_length, name_length, values_from, values, ends_with_comma, without_comma, closing, in_tuple, array_of, head_of, match_of, tuple_of, arms, expansion_of, first_length, lone_string_length, without_string, searched}

abbrev AreSpelledPieces : List ℕ → List Piece → Type 0
AreSpelledPieces text ps = All (Spells text) ps

either : {A : Type 0} (P : A → Type 0) (b : Bool) (x y : A) → P x → P y → P (if b then x else y)
either P true x y px py = px
either P false x y px py = py

marked : (text : List ℕ) (p : Piece) (ps : List Piece) → Spells text p → AreSpelledPieces text ps → AreSpelledPieces text (p ∷ ps)
marked text p ps one all = All-cons (Spells text) p ps one all

none_spelled : (text : List ℕ) → AreSpelledPieces text []
none_spelled text = All-nil (Spells text)

of_pieces : (text : List ℕ) (ts : List ArgumentToken) → AreSpelledArguments text ts → AreSpelledPieces text (pieces ts)
of_pieces text ts all = All-map (Spells text) argument_piece ts all

values_spelled : (text : List ℕ) (left depth : ℕ) (ts : List ArgumentToken) → AreSpelledArguments text ts → AreSpelledArguments text (values_from left depth ts)
values_spelled text left depth [] all = All-nil (λ t. Spells text (argument_piece t))
values_spelled text (suc left) depth (t ∷ ts) all =
    values_spelled text left depth ts (All-tail (λ t. Spells text (argument_piece t)) t ts all)
values_spelled text zero depth (t ∷ ts) all =
    let left : ℕ = if is_outer k.COMMA depth t.kind then name_length ts else 0 in
    let later : ℕ = depth_behind depth t.kind in
    All-cons (λ t. Spells text (argument_piece t)) t (values_from left later ts)
    (All-head (λ t. Spells text (argument_piece t)) t ts all)
    (values_spelled text left later ts (All-tail (λ t. Spells text (argument_piece t)) t ts all))

closing_spelled : (text : List ℕ) (ts : List ArgumentToken) → AreSpelledPieces text (closing ts)
closing_spelled text ts =
    let bracket : AreSpelledPieces text (mark (codes ")") ∷ []) = marked text (mark (codes ")")) [] (1, search rules, refl) (none_spelled text) in
    either (AreSpelledPieces text) (ends_with_comma ts) (mark (codes ")") ∷ []) (mark (codes ",") ∷ (mark (codes ")") ∷ [])) bracket
    (marked text (mark (codes ",")) (mark (codes ")") ∷ []) (6, search rules, refl) bracket)

in_tuple_spelled : (text : List ℕ) (ts : List ArgumentToken) (inner : List Piece) → AreSpelledPieces text inner → AreSpelledPieces text (in_tuple ts inner)
in_tuple_spelled text ts inner all =
    marked text (mark (codes "(")) (inner ++ closing ts) (0, search rules, refl)
    (All-append (Spells text) inner (closing ts) all (closing_spelled text ts))

array_spelled : (text : List ℕ) (ts : List ArgumentToken) → AreSpelledArguments text ts → AreSpelledPieces text (array_of ts)
array_spelled text ts all =
    marked text (mark (codes "[")) (pieces ts ++ mark (codes "]") ∷ []) (2, search rules, refl)
    (All-append (Spells text) (pieces ts) (mark (codes "]") ∷ []) (of_pieces text ts all)
    (marked text (mark (codes "]")) [] (3, search rules, refl) (none_spelled text)))

arms_spelled : (text : List ℕ) → AreSpelledPieces text arms
arms_spelled text =
    let p9 : List Piece = mark (codes "}") ∷ [] in
    let p8 : List Piece = mark (codes "false") ∷ p9 in
    let p7 : List Piece = mark (codes ">") ∷ p8 in
    let p6 : List Piece = mark (codes "=") ∷ p7 in
    let p5 : List Piece = mark (codes "_") ∷ p6 in
    let p4 : List Piece = mark (codes ",") ∷ p5 in
    let p3 : List Piece = mark (codes "true") ∷ p4 in
    let p2 : List Piece = mark (codes ">") ∷ p3 in
    let p1 : List Piece = mark (codes "=") ∷ p2 in
    let s9 : AreSpelledPieces text p9 = marked text (mark (codes "}")) [] (5, search rules, refl) (none_spelled text) in
    let s8 : AreSpelledPieces text p8 = marked text (mark (codes "false")) p9 (12, search rules, refl) s9 in
    let s7 : AreSpelledPieces text p7 = marked text (mark (codes ">")) p8 (8, search rules, refl) s8 in
    let s6 : AreSpelledPieces text p6 = marked text (mark (codes "=")) p7 (7, search rules, refl) s7 in
    let s5 : AreSpelledPieces text p5 = marked text (mark (codes "_")) p6 (9, search rules, refl) s6 in
    let s4 : AreSpelledPieces text p4 = marked text (mark (codes ",")) p5 (6, search rules, refl) s5 in
    let s3 : AreSpelledPieces text p3 = marked text (mark (codes "true")) p4 (11, search rules, refl) s4 in
    let s2 : AreSpelledPieces text p2 = marked text (mark (codes ">")) p3 (8, search rules, refl) s3 in
    marked text (mark (codes "=")) p2 (7, search rules, refl) s2

head_spelled : (text : List ℕ) (value : List ArgumentToken) → AreSpelledArguments text value → AreSpelledPieces text (head_of value)
head_spelled text value all =
    marked text (mark (codes "match")) (pieces value ++ mark (codes "{") ∷ []) (10, search rules, refl)
    (All-append (Spells text) (pieces value) (mark (codes "{") ∷ []) (of_pieces text value all)
    (marked text (mark (codes "{")) [] (4, search rules, refl) (none_spelled text)))

match_spelled : (text : List ℕ) (value pattern : List ArgumentToken) → AreSpelledArguments text value → AreSpelledArguments text pattern
    → AreSpelledPieces text (match_of value pattern)
match_spelled text value pattern of_value of_pattern =
    All-append (Spells text) (head_of value) (pieces pattern ++ arms) (head_spelled text value of_value)
    (All-append (Spells text) (pieces pattern) arms (of_pieces text pattern of_pattern) (arms_spelled text))

without_comma_spelled : (text : List ℕ) (ts : List ArgumentToken) → AreSpelledArguments text ts → AreSpelledArguments text (without_comma ts)
without_comma_spelled text ts all =
    either (AreSpelledArguments text) (ends_with_comma ts) (take (length ts - 1) ts) ts (All-take (λ t. Spells text (argument_piece t)) (length ts - 1) ts all) all

tuple_spelled : (text : List ℕ) (ts : List ArgumentToken) → AreSpelledArguments text ts → AreSpelledPieces text (tuple_of ts)
tuple_spelled text ts all = in_tuple_spelled text ts (pieces ts) (of_pieces text ts all)

pub expansion_spelled : (text : List ℕ) (form : Form) (ts : List ArgumentToken) → AreSpelledArguments text ts → AreSpelledPieces text (expansion_of form ts)
unfolding expansion_of
expansion_spelled text (forms.Formatted before) ts all =
    in_tuple_spelled text ts (pieces (values ts)) (of_pieces text (values ts) (values_spelled text (name_length ts) 0 ts all))
expansion_spelled text forms.Values ts all = tuple_spelled text ts all
expansion_spelled text forms.Elements ts all =
    either (AreSpelledPieces text) (nat_lt (front_length k.SEMICOLON 0 ts) (length ts)) (array_of ts) (tuple_of ts) (array_spelled text ts all) (tuple_spelled text ts all)
expansion_spelled text forms.Matched ts all =
    let comma : ℕ = front_length k.COMMA 0 ts in
    let P : ArgumentToken → Type 0 = λ t. Spells text (argument_piece t) in
    either (AreSpelledPieces text) (nat_lt comma (length ts)) (match_of (take comma ts) (without_comma (drop (comma + 1) ts))) (tuple_of ts)
    (match_spelled text (take comma ts) (without_comma (drop (comma + 1) ts)) (All-take P comma ts all)
    (without_comma_spelled text (drop (comma + 1) ts) (All-drop P (comma + 1) ts all)))
    (tuple_spelled text ts all)

-- ** Arguments without their format string.

without_string_spelled : (text : List ℕ) (before : ℕ) (ts : List ArgumentToken) → AreSpelledArguments text ts → AreSpelledArguments text (without_string before ts)
without_string_spelled text zero ts all = All-drop (λ t. Spells text (argument_piece t)) (lone_string_length ts) ts all
without_string_spelled text (suc before) ts all =
    let P : ArgumentToken → Type 0 = λ t. Spells text (argument_piece t) in
    let n : ℕ = first_length ts in
    All-append P (take n ts) (without_string before (drop n ts)) (All-take P n ts all)
    (without_string_spelled text before (drop n ts) (All-drop P n ts all))

pub searched_spelled : (text : List ℕ) (form : Form) (ts : List ArgumentToken) → AreSpelledArguments text ts → AreSpelledArguments text (searched form ts)
searched_spelled text (forms.Formatted before) ts all = without_string_spelled text before ts all
searched_spelled text forms.Values ts all = all
searched_spelled text forms.Elements ts all = all
searched_spelled text forms.Matched ts all = all

-- ** Tokens that have the same pieces.

unmapped : {A : Type 0} (text : List ℕ) (piece : A → Piece) (ts : List A) → AreSpelledPieces text (map piece ts) → All (λ t. Spells text (piece t)) ts
unmapped text piece [] all = All-nil (λ t. Spells text (piece t))
unmapped text piece (t ∷ ts) all =
    All-cons (λ t. Spells text (piece t)) t ts (All-head (Spells text) (piece t) (map piece ts) all)
    (unmapped text piece ts (All-tail (Spells text) (piece t) (map piece ts) all))

pub handed_in_spelled : (text : List ℕ) (form : Form) (ts : List ArgumentToken) (tokens : List ExpToken) → map piece_of tokens ≡ expansion_of form ts
    → AreSpelledArguments text ts → AreSpelled text tokens
handed_in_spelled text form ts tokens are all =
    unmapped text piece_of tokens (subst (AreSpelledPieces text) (sym are) (expansion_spelled text form ts all))

pub more_spelled : (text : List ℕ) (ts later : List ArgumentToken) (t : ArgumentToken) → later ≡ ts ++ t ∷ [] → AreSpelledArguments text ts
    → Spells text (argument_piece t) → AreSpelledArguments text later
more_spelled text ts later t is all one =
    let P : ArgumentToken → Type 0 = λ t. Spells text (argument_piece t) in
    subst (All P) (sym is) (All-append P ts (t ∷ []) all (All-cons P t [] one (All-nil P)))
