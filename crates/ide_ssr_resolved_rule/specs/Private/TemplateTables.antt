-- Private: the table of what tokens of a template are.
use Rattle.std.specs.Prelude.{ℕ, ◌≡◌, List, map, drop, length, slice_index_or}
use Rattle.ssr_syntax_tree.specs.Places.{HasToken, token_of}
use Rattle.ssr_syntax_tree.specs.Syntax.{Syntax, token_count, tokens_of}
use Rattle.ide_ssr_resolved_rule.specs.declared.templates.TemplateToken.{TemplateToken}
use Rattle.ide_ssr_resolved_rule.specs.declared.templates.TemplateToken.TheVariants as t
use Rattle.ide_ssr_resolved_rule.specs.declared.used_paths.UsedPath.{UsedPath}
use Rattle.ide_ssr_resolved_rule.specs.Templates.{token_by, unprinted}

abbrev pub unprinted_tokens : List (List ℕ) → Syntax → List TemplateToken
unprinted_tokens names template = map (unprinted names) (tokens_of template)

-- a table tells what each token is by the used paths from the place i on
pub record TellsFrom (names : List (List ℕ)) (paths : List UsedPath) (template : Syntax) (i : ℕ) (table : List TemplateToken) : Type 0 where
  pub long : length table ≡ token_count template.children
  pub tells : (n : ℕ) → HasToken template n
      → slice_index_or table n t.Spelled ≡ token_by template n (unprinted names (token_of template n)) i (drop i paths)

-- a table tells what each token is
abbrev pub TellsTokens : List (List ℕ) → List UsedPath → Syntax → List TemplateToken → Type 0
TellsTokens names paths template table = TellsFrom names paths template 0 table
