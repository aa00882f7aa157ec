-- How an accepted rule uses its placeholders: each once in the pattern, at most once in the template.
use Rattle.std.specs.Prelude.{◌≡◌, ℕ, List, [], Ok}
use Rattle.ide_ssr_rules.specs.declared.elements.Element.{Element}
use Rattle.ide_ssr_rules.specs.Elements.{side, names_of}
use Rattle.ide_ssr_rules.specs.Rules.{Rule, lacking}
use Rattle.ide_ssr_rules.specs.Sides.{sides}
use Rattle.ide_ssr_resolved_rule.specs.Names.{AreNew}

-- the sides of an accepted rule: no placeholder stands twice on one, and the template has none that the pattern lacks
pub record UsesPlaceholdersOnce (text : List ℕ) (rule : Rule) : Type 0 where
  pub texts : List ℕ × List ℕ
  pub pattern : List Element
  pub template : List Element
  pub split : sides text ≡ Ok texts
  pub pattern_read : side texts.0 ≡ Ok pattern
  pub template_read : side texts.1 ≡ Ok template
  pub names : rule.names ≡ names_of pattern
  pub once : AreNew [] (names_of pattern)
  pub at_most_once : AreNew [] (names_of template)
  pub defined : lacking (names_of pattern) (names_of template) ≡ []
