-- The kinds of a rule: as what its sides, with stand-ins for placeholders, are read.
use Rattle.std.specs.Prelude.{ℕ, Bool, List, [], ◌∷◌, filter, Option, Some, None, Result, Ok, Err, if◌then◌else◌}
use Rattle.std.specs.List.{list_any, filter_map}
use Rattle.std.specs.Option.{option_map, option_and_then, option_or}
use Rattle.std.specs.Result.{result_ok}
use Rattle.ssr_syntax_kinds.specs.Kinds.{same_kind}
use Rattle.ssr_syntax_kinds.specs.declared.kinds.SyntaxKind.TheVariants.{PATH}
use Rattle.ssr_syntax_kinds.specs.declared.fragment.Fragment.{Fragment}
use Rattle.ssr_syntax_kinds.specs.declared.fragment.Fragment.TheVariants as fragments
use Rattle.ssr_syntax_kinds.specs.declared.reach.Reach.{Reach}
use Rattle.ssr_syntax.specs.Reading.{fragment_reading_of}
use Rattle.ssr_syntax_tree.specs.Places.{nodes_of}
use Rattle.ssr_syntax_tree.specs.Syntax.{Syntax}
use Rattle.ide_ssr_rules.specs.declared.kinds.ParsedRule.{ParsedRule}
use Rattle.ide_ssr_rules.specs.declared.kinds.ReadSide.{ReadSide}
use Rattle.ide_ssr_refusals.specs.declared.refusals.Refusal.TheVariants as r
use Rattle.ide_ssr_refusals.specs.declared.refusals.Refusal.{Refusal}

abbrev pub side_in : Fragment → Syntax → ReadSide
side_in category tree = record { category = category; tree = tree }

-- a side's text read in a reach in a category, where it can be
abbrev pub read_in : Reach → Fragment → List ℕ → Option ReadSide
read_in reach category text = option_map (side_in category) (result_ok (fragment_reading_of reach category text))

-- the template beside a pattern of a category: of the same one, but beside an expression it is a statement where it is no
-- expression
abbrev pub template_in : Reach → Fragment → List ℕ → Option ReadSide
template_in reach fragments.Expr text = option_or (read_in reach fragments.Expr text) (read_in reach fragments.Stmt text)
template_in reach category text = read_in reach category text

-- a kind has the category of its template, and that of a search pattern, which has none, the pattern's
abbrev pub with_template : Reach → Syntax → ReadSide → ParsedRule
with_template reach pattern template =
    record { reach = reach; category = template.category; pattern = pattern; template = Some template.tree }

abbrev pub without_template : Reach → ReadSide → ParsedRule
without_template reach pattern = record { reach = reach; category = pattern.category; pattern = pattern.tree; template = None }

-- the kind that a pattern gives, if the template, where there is one, can be read beside it
abbrev pub kind_with : Reach → Option (List ℕ) → ReadSide → Option ParsedRule
kind_with reach None pattern = Some (without_template reach pattern)
kind_with reach (Some template) pattern = option_map (with_template reach pattern.tree) (template_in reach pattern.category template)

-- the kind in which the pattern is of a category
abbrev pub kind_in : Reach → List ℕ → Option (List ℕ) → Fragment → Option ParsedRule
kind_in reach pattern template category = option_and_then (kind_with reach template) (read_in reach category pattern)

-- the order in which the categories are tried
abbrev pub categories : List Fragment
categories = fragments.Expr ∷ fragments.Ty ∷ fragments.Item ∷ fragments.Pat ∷ fragments.Stmt ∷ []

-- the kinds in which both sides are read
abbrev pub read_kinds : Reach → List ℕ → Option (List ℕ) → List ParsedRule
read_kinds reach pattern template = filter_map (kind_in reach pattern template) categories

-- whether a tree has a path; a stand-in that is read as one counts
unfoldable pub has_path : Syntax → Bool
has_path tree = list_any (λ node. same_kind node.kind PATH) (nodes_of tree)

-- Beside a kind whose pattern has a path those without one are dropped: a path is matched by what it means, and a name that
-- is none would match each name of that spelling.
abbrev pub prefer_paths : List ParsedRule → List ParsedRule
prefer_paths kinds =
    if list_any (λ kind. has_path kind.pattern) kinds then filter (λ kind. has_path kind.pattern) kinds else kinds

-- the kinds of a rule, from its sides' texts with stand-ins
unfoldable pub kinds_of : Reach → List ℕ → Option (List ℕ) → List ParsedRule
kinds_of reach pattern template = prefer_paths (read_kinds reach pattern template)

abbrev pub some_kind : List ParsedRule → Result (List ParsedRule) Refusal
some_kind [] = Err r.NoKind
some_kind (kind ∷ kinds) = Ok (kind ∷ kinds)
