-- The text that a rule's template gives for a match.
use Rattle.std.specs.Prelude.{ℕ, ◌+◌, ◌==◌, ◌&&◌, not, Bool, true, false, if◌then◌else◌, codes, slice_index_or, length, List, [], ◌∷◌, ◌++◌, flat_map, Result, Ok, Err}
use Rattle.std.specs.List.{list_any, position, range_with_len}
use Rattle.std.specs.Option.{option_map_or}
use Rattle.ssr_syntax_tree.specs.Syntax.{Syntax, token_count}
use Rattle.ssr_syntax_tree.specs.Places.{nodes_of, start_of, end_of, token_of}
use Rattle.ssr_syntax_kinds.specs.declared.fragment.Fragment.{Fragment}
use Rattle.ssr_syntax_kinds.specs.declared.fragment.Fragment.TheVariants as fragments
use Rattle.ssr_syntax.specs.declared.syntax_error.SyntaxError.{SyntaxError}
use Rattle.ssr_syntax.specs.Reading.{fragment_reading_of, trimmed_front}
use Rattle.ide_ssr_resolved_rule.specs.Resolved.{ResolvedRule}
use Rattle.ide_ssr_resolved_rule.specs.Templates.{template_token}
use Rattle.ide_ssr_resolved_rule.specs.declared.templates.TemplateToken.{TemplateToken}
use Rattle.ide_ssr_resolved_rule.specs.declared.templates.TemplateToken.TheVariants as t
use Rattle.ide_ssr_bindings.specs.declared.bindings.Binding.{Binding}

-- the piece of the placeholder whose name has the place i, where the bindings have these pieces; a match binds each
-- placeholder of its rule, so none lacks one
unfoldable pub piece_of : List Binding → List (List ℕ) → ℕ → List ℕ
piece_of bindings pieces i =
    option_map_or (λ place. slice_index_or pieces place []) (position (λ binding. binding.placeholder == i) bindings) []

-- what a template is filled with: the pieces by the places of the names of placeholders, and by the places of used paths what
-- these are printed as
pub record Filling : Type 0 where
  pub piece : ℕ → List ℕ
  pub printed : ℕ → List ℕ

-- the filling that has these pieces for bindings, and these texts for used paths
abbrev pub filling_of : List Binding → List (List ℕ) → List (List ℕ) → Filling
filling_of bindings pieces printed = record { piece = piece_of bindings pieces; printed = λ i. slice_index_or printed i [] }

-- what stands for what a token of a template is; `own` is the token's own text
abbrev pub text_of_token : Filling → TemplateToken → List ℕ → List ℕ
text_of_token filling t.Spelled own = own
text_of_token filling (t.Placeholder i) own = filling.piece i
text_of_token filling (t.Path i) own = filling.printed i
text_of_token filling t.InPath own = []

abbrev pub is_placeholder : TemplateToken → Bool
is_placeholder (t.Placeholder i) = true
is_placeholder _ = false

-- what stands for the token with this number of the rule's template
abbrev pub text_for : ResolvedRule → Filling → Syntax → ℕ → List ℕ
text_for rule filling template n = text_of_token filling (template_token rule template n) (token_of template n).text

-- whether a piece stands for it
abbrev pub is_piece : ResolvedRule → Syntax → ℕ → Bool
is_piece rule template n = is_placeholder (template_token rule template n)

-- the numbers of the tokens of a template, in order
abbrev pub token_numbers : Syntax → List ℕ
token_numbers template = range_with_len 0 (token_count template.children)

-- the filled template
abbrev pub plain : ResolvedRule → Filling → Syntax → List ℕ → List ℕ
plain rule filling template tokens = flat_map (text_for rule filling template) tokens

-- whether a node has exactly the bytes from one place to another of a text, of which the tree was read
-- without the first `front` bytes
unfoldable pub is_node : Syntax → ℕ → ℕ → ℕ → Bool
is_node tree front from to =
    list_any (λ node. front + start_of tree node == from && front + end_of tree node == to) (nodes_of tree)

-- the text for a token at a place of the filled template: a piece that is no node stands in parentheses
abbrev pub wrapped_text : Syntax → ℕ → Bool → ℕ → List ℕ → List ℕ
wrapped_text tree front is_piece at text =
    if is_piece && not (is_node tree front at (at + length text)) then codes "(" ++ (text ++ codes ")") else text

-- the rest of the filled template, from a place on: each piece that is no node stands in parentheses
abbrev pub wrapped : Syntax → ℕ → ResolvedRule → Filling → Syntax → ℕ → List ℕ → List ℕ
wrapped tree front rule filling template at [] = []
wrapped tree front rule filling template at (n ∷ tokens) =
    let text = text_for rule filling template n in
    wrapped_text tree front (is_piece rule template n) at text
    ++ wrapped tree front rule filling template (at + length text) tokens

-- the filled template, with parentheses if the text without them reads in the rule's reach, in the template's category
abbrev pub rendered_as : Result Syntax SyntaxError → ResolvedRule → Filling → Syntax → List ℕ → List ℕ
rendered_as (Ok tree) rule filling template tokens =
    wrapped tree (trimmed_front (plain rule filling template tokens)) rule filling template 0 tokens
rendered_as (Err error) rule filling template tokens = plain rule filling template tokens

-- A template in one of these categories gets parentheses: in a type or in a pattern they would mean nothing, or another
-- thing.
abbrev pub takes_parentheses : Fragment → Bool
takes_parentheses fragments.Ty = false
takes_parentheses fragments.Pat = false
takes_parentheses category = true

abbrev pub rendered_by : ResolvedRule → Filling → Syntax → List ℕ
rendered_by rule filling template =
    let tokens = token_numbers template in
    let text = plain rule filling template tokens in
    if takes_parentheses rule.category then rendered_as (fragment_reading_of rule.reach rule.category text) rule filling template tokens
    else text

-- the filled template of a rule; nothing where the rule has no template
abbrev pub rendered : ResolvedRule → Filling → List ℕ
rendered rule filling = option_map_or (rendered_by rule filling) rule.template []
