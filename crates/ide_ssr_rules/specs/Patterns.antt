-- Which placeholders stand among the tokens of a kind's trees: each once in the pattern, at most once in the template.
use Rattle.std.specs.Prelude.{ℕ, ◌≡◌, ◌≢◌, List, [], length, AllPairs, Option}
use Rattle.std.specs.List.{range_with_len}
use Rattle.std.specs.Option.{IfSome}
use Rattle.ssr_syntax.specs.Identifiers.{IdentsAloneIn}
use Rattle.ssr_syntax_tree.specs.ClearPaths.{HasClearPaths}
use Rattle.ssr_syntax_tree.specs.Syntax.{Syntax, tokens_of}
use Rattle.ide_ssr_rules.specs.declared.kinds.ParsedRule.{ParsedRule}
use Rattle.ide_ssr_resolved_rule.specs.Names.{AreNew}
use Rattle.ide_ssr_resolved_rule.specs.Patterns.{placeholders_among}

-- A pattern's tokens have each placeholder once, in the order of their names, and no two have one name. Each of them is a
-- node as well, but in the nodes that mix identifiers with other tokens. The pattern's paths can be told.
pub record IsReadOnce (names : List (List ℕ)) (pattern : Syntax) : Type 0 where
  pub each : placeholders_among names (tokens_of pattern) ≡ range_with_len 0 (length names)
  pub alone : IdentsAloneIn pattern
  pub clear : HasClearPaths pattern
  pub different : AreNew [] names

-- a template, if there is one, has no placeholder twice
abbrev pub HasEachAtMostOnce : List (List ℕ) → Option Syntax → Type 0
HasEachAtMostOnce names template = IfSome template (λ tree. AllPairs (λ one other. one ≢ other) (placeholders_among names (tokens_of tree)))

-- a kind's pattern is read with each of the names once, and its template has each at most once
abbrev pub AreReadOnce : List (List ℕ) → ParsedRule → Type 0
AreReadOnce names kind = IsReadOnce names kind.pattern × HasEachAtMostOnce names kind.template
