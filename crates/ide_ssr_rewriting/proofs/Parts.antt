-- The parts of a filled template: what is put together of them is the template with its parentheses.
use Rattle.std.proofs.Common.{◌≡◌, ℕ, ◌+◌, Bool, true, List, [], ◌∷◌, ◌++◌, length, map, Option, Some, Result, Ok, refl, sym, ◌∙◌, ap, subst, zero-add}
use Rattle.std.specs.Prelude.{IfOk, IfSome, if◌then◌else◌}
use Rattle.std.specs.List.{range_with_len}
use Rattle.std.specs.Option.{option_map_or}
use Rattle.std.proofs.lemmas.Bool.{false≢true}
use Rattle.std.proofs.lemmas.List.{map-append}
use Rattle.std.proofs.lemmas.List.FromFn.{map-range_with_len_more}
use Rattle.std.proofs.lemmas.Option.{IfSome_then}
use Rattle.std.proofs.lemmas.Result.{IfOk-weaker}
use Rattle.ssr_syntax_kinds.specs.declared.fragment.Fragment.{Fragment}
use Rattle.ssr_syntax_kinds.specs.declared.fragment.Fragment.TheVariants as fragments
use Rattle.ssr_syntax_tree.specs.Syntax.{Syntax, token_count}
use Rattle.ssr_syntax.specs.declared.syntax_error.SyntaxError.{SyntaxError}
use Rattle.ssr_syntax.specs.Reading.{fragment_reading_of, trimmed_front}
use Rattle.ssr_syntax_places.specs.Spans.{has_node_at}
use Rattle.ssr_syntax_shorts.specs.declared.parts.Part.{Part}
use Rattle.ssr_syntax_shorts.specs.Made.{ArePutTogether, is_loose, is_piece as is_made_piece, plain_of, put_together, text_of, unless_tight}
use Rattle.ide_ssr_resolved_rule.specs.Resolved.{ResolvedRule}
use Rattle.ide_ssr_rewriting.specs.Rendering.{Filling, text_for, is_piece, is_node, plain, rendered, rendered_as, rendered_by, takes_parentheses, token_numbers, wrapped, wrapped_text}
use Rattle.ide_ssr_rewriting.specs.Private.Parts.{is_expr, told, told_for}

-- ** What is told of the parts settles what is put together of them.

-- the texts behind one another
abbrev joined : List (Bool × List ℕ) → List ℕ
joined [] = []
joined (t ∷ ts) = t.1 ++ joined ts

-- the same from a place on, each piece that is no node of a tree in parentheses
abbrev written : Syntax → ℕ → List (Bool × List ℕ) → List ℕ
written tree at [] = []
written tree at (t ∷ ts) = wrapped_text tree 0 t.0 at t.1 ++ written tree (at + length t.1) ts

joined_parts : (ps : List Part) → plain_of ps ≡ joined (map told ps)
joined_parts [] = refl
joined_parts (p ∷ ps) = ap (λ (rest : List ℕ). text_of p ++ rest) (joined_parts ps)

joined_tokens : (rule : ResolvedRule) (filling : Filling) (template : Syntax) (tokens : List ℕ)
    → plain rule filling template tokens ≡ joined (map (told_for rule filling template) tokens)
joined_tokens rule filling template [] = refl
joined_tokens rule filling template (n ∷ tokens) =
    ap (λ (rest : List ℕ). text_for rule filling template n ++ rest) (joined_tokens rule filling template tokens)

written_parts : (tree : Syntax) (at : ℕ) (ps : List Part) → put_together tree at ps ≡ written tree at (map told ps)
unfolding is_node has_node_at
written_parts tree at [] = refl
written_parts tree at (p ∷ ps) =
    ap (λ (rest : List ℕ). unless_tight (is_loose tree at p) (text_of p) ++ rest) (written_parts tree (at + length (text_of p)) ps)

written_tokens : (tree : Syntax) (at : ℕ) (rule : ResolvedRule) (filling : Filling) (template : Syntax) (tokens : List ℕ)
    → wrapped tree 0 rule filling template at tokens ≡ written tree at (map (told_for rule filling template) tokens)
written_tokens tree at rule filling template [] = refl
written_tokens tree at rule filling template (n ∷ tokens) =
    ap (λ (rest : List ℕ). wrapped_text tree 0 (is_piece rule template n) at (text_for rule filling template n) ++ rest)
    (written_tokens tree (at + length (text_for rule filling template n)) rule filling template tokens)

pub plain_same : (rule : ResolvedRule) (filling : Filling) (template : Syntax) (ps : List Part)
    → map told ps ≡ map (told_for rule filling template) (token_numbers template)
    → plain_of ps ≡ plain rule filling template (token_numbers template)
plain_same rule filling template ps are = joined_parts ps ∙ (ap joined are ∙ sym (joined_tokens rule filling template (token_numbers template)))

written_same : (tree : Syntax) (rule : ResolvedRule) (filling : Filling) (template : Syntax) (ps : List Part)
    → map told ps ≡ map (told_for rule filling template) (token_numbers template)
    → put_together tree 0 ps ≡ wrapped tree 0 rule filling template 0 (token_numbers template)
written_same tree rule filling template ps are =
    written_parts tree 0 ps ∙ (ap (written tree 0) are ∙ sym (written_tokens tree 0 rule filling template (token_numbers template)))

-- ** What is put together is the rendered template.

pub is_expr-true : (category : Fragment) → is_expr category ≡ true → category ≡ fragments.Expr
is_expr-true fragments.Expr is = refl
is_expr-true fragments.Ty is = absurd (false≢true is)
is_expr-true fragments.Item is = absurd (false≢true is)
is_expr-true fragments.Pat is = absurd (false≢true is)
is_expr-true fragments.Stmt is = absurd (false≢true is)

-- an expression that reads is rendered by what was read
by_reading : (rule : ResolvedRule) (filling : Filling) (template tree : Syntax) → rule.category ≡ fragments.Expr
    → fragment_reading_of rule.reach fragments.Expr (plain rule filling template (token_numbers template)) ≡ Ok tree
    → rendered_by rule filling template ≡ rendered_as (Ok tree) rule filling template (token_numbers template)
by_reading rule filling template tree category reads =
    subst
    (λ (category : Fragment).
    (if takes_parentheses category then rendered_as (fragment_reading_of rule.reach category (plain rule filling template (token_numbers template))) rule filling template (token_numbers template)
    else plain rule filling template (token_numbers template))
    ≡ rendered_as (Ok tree) rule filling template (token_numbers template))
    (sym category)
    (ap (λ (read : Result Syntax SyntaxError). rendered_as read rule filling template (token_numbers template)) reads)

pub rendered_parts : (rule : ResolvedRule) (filling : Filling) (template : Syntax) (ps : List Part) (text : List ℕ)
    → rule.template ≡ Some template → rule.category ≡ fragments.Expr
    → map told ps ≡ map (told_for rule filling template) (token_numbers template)
    → ArePutTogether rule.reach ps text → text ≡ rendered rule filling
rendered_parts rule filling template ps text has category are put =
    let tokens : List ℕ = token_numbers template in
    let same : plain_of ps ≡ plain rule filling template tokens = plain_same rule filling template ps are in
    let front : trimmed_front (plain rule filling template tokens) ≡ 0 = subst (λ (text : List ℕ). trimmed_front text ≡ 0) same put.front in
    let reads : fragment_reading_of rule.reach fragments.Expr (plain rule filling template tokens) ≡ Ok put.syntax =
    subst (λ (text : List ℕ). fragment_reading_of rule.reach fragments.Expr text ≡ Ok put.syntax) same put.reads in
    put.text_is
    ∙ (written_same put.syntax rule filling template ps are
    ∙ (sym (ap (λ (front : ℕ). wrapped put.syntax front rule filling template 0 tokens) front)
    ∙ (sym (by_reading rule filling template put.syntax category reads)
    ∙ sym (ap (λ (template : Option Syntax). option_map_or (rendered_by rule filling) template []) has))))

-- an answer of parts that are put together is an answer of the rendered template
pub rendered_answer : {E : Type 0} (rule : ResolvedRule) (filling : Filling) (template : Syntax) (ps : List Part) (answer : Result (Option (List ℕ)) E)
    → rule.template ≡ Some template → rule.category ≡ fragments.Expr
    → map told ps ≡ map (told_for rule filling template) (token_numbers template)
    → IfOk answer (λ text. IfSome text (λ text. ArePutTogether rule.reach ps text))
    → IfOk answer (λ text. IfSome text (λ text. text ≡ rendered rule filling))
rendered_answer rule filling template ps answer has category are put =
    IfOk-weaker answer (λ text. IfSome text (λ text. ArePutTogether rule.reach ps text)) (λ text. IfSome text (λ text. text ≡ rendered rule filling))
    (λ text shown. IfSome_then text shown (λ text put. rendered_parts rule filling template ps text has category are put))
    put

-- ** The parts are gathered one token at a time.

pub parts_more : (rule : ResolvedRule) (filling : Filling) (template : Syntax) (n : ℕ) (old new : List Part) (p : Part)
    → map told old ≡ map (told_for rule filling template) (range_with_len 0 n)
    → text_of p ≡ text_for rule filling template n → is_made_piece p ≡ is_piece rule template n
    → new ≡ old ++ p ∷ [] → map told new ≡ map (told_for rule filling template) (range_with_len 0 (n + 1))
parts_more rule filling template n old new p are text piece items =
    let For : ℕ → Bool × List ℕ = told_for rule filling template in
    let same : told p ≡ For n =
    ap (λ (b : Bool). (b, text_of p)) piece ∙ ap (λ (text : List ℕ). (is_piece rule template n, text)) text in
    ap (map told) items
    ∙ (map-append told old (p ∷ [])
    ∙ (ap (λ (ts : List (Bool × List ℕ)). ts ++ told p ∷ []) are
    ∙ (ap (λ (t : Bool × List ℕ). map For (range_with_len 0 n) ++ t ∷ []) same
    ∙ sym (map-range_with_len_more For 0 n n (zero-add n)))))

pub parts_all : (rule : ResolvedRule) (filling : Filling) (template : Syntax) (n : ℕ) (ps : List Part)
    → n ≡ token_count template.children → map told ps ≡ map (told_for rule filling template) (range_with_len 0 n)
    → map told ps ≡ map (told_for rule filling template) (token_numbers template)
parts_all rule filling template n ps all are = are ∙ ap (λ (n : ℕ). map (told_for rule filling template) (range_with_len 0 n)) all
