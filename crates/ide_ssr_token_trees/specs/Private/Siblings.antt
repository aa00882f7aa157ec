-- Private: the elements of a token tree that are left while they are gone over.
use Rattle.std.specs.Prelude.{ℕ, ◌≡◌, nat_lt, List, [], ◌∷◌, ◌++◌, map, option_to_list, Option, Some, None, if◌then◌else◌}
use Rattle.std.specs.Option.{option_map}
use Rattle.ssr_syntax_kinds.specs.declared.kinds.SyntaxKind.TheVariants as k
use Rattle.ssr_syntax_kinds.specs.Kinds.{same_kind, is_trivia}
use Rattle.ssr_syntax_tree.specs.declared.number.Element.{Element}
use Rattle.ssr_syntax_tree.specs.declared.number.TokenNo.{TokenNo}
use Rattle.ssr_syntax_tree.specs.Syntax.{Syntax}
use Rattle.ssr_syntax_tree.specs.Places.{Part, token_part, node_part, part_of}
use Rattle.ssr_base_trees.specs.declared.ids.TokenRun.{TokenRun}
use Rattle.ide_ssr_token_trees.specs.declared.siblings.Siblings.{Siblings}
use Rattle.ide_ssr_token_trees.specs.Elements.{run_over, up_to, from}

abbrev pub siblings_left : Siblings → List Element
siblings_left siblings = option_to_list siblings.held ++ siblings.left

-- the elements that are left, as parts of their tree
abbrev pub parts_left : Syntax → Siblings → List Part
parts_left tree siblings = map (part_of tree) (siblings_left siblings)

abbrev pub number_of : Option TokenNo → Option ℕ
number_of token = option_map (λ token. token.0) token

-- what came and what is left stood at the end of what was left before
pub record IsRest (before : Siblings) (came : List Element) (after : Siblings) : Type 0 where
  pub passed : List Element
  pub left : siblings_left before ≡ passed ++ (came ++ siblings_left after)
  pub comma : before.comma ≡ after.comma

-- the last comma, trivia aside, where there was this one before an element
abbrev pub comma_at : Option ℕ → Part → Option ℕ
comma_at before (token_part t token) =
    if is_trivia token.kind then before else if same_kind token.kind k.COMMA then Some t else None
comma_at before (node_part node) = None

-- what a placeholder holds of these elements, if it can hold them, and what is left then
abbrev pub run_by : Option (List ℕ) → List Part → Option TokenRun
run_by text [] = None
run_by text (part ∷ rest) = let run = run_over part (up_to text rest) in if nat_lt 0 run.count then Some run else None

abbrev pub behind_run : Option (List ℕ) → List Part → List Part
behind_run text [] = []
behind_run text (part ∷ rest) = from text rest
