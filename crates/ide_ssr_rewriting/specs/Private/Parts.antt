-- Private: the parts of a filled template.
use Rattle.std.specs.Prelude.{ℕ, Bool, true, false, List}
use Rattle.ssr_syntax_kinds.specs.declared.fragment.Fragment.{Fragment}
use Rattle.ssr_syntax_kinds.specs.declared.fragment.Fragment.TheVariants as fragments
use Rattle.ssr_syntax_tree.specs.Syntax.{Syntax}
use Rattle.ssr_syntax_shorts.specs.declared.parts.Part.{Part}
use Rattle.ssr_syntax_shorts.specs.Made.{is_piece as is_made_piece, text_of}
use Rattle.ide_ssr_resolved_rule.specs.Resolved.{ResolvedRule}
use Rattle.ide_ssr_rewriting.specs.Rendering.{Filling, text_for, is_piece}

abbrev pub is_expr : Fragment → Bool
is_expr fragments.Expr = true
is_expr _ = false

-- whether a part is a piece, and its text
abbrev pub told : Part → Bool × List ℕ
told part = (is_made_piece part, text_of part)

-- the same of what stands for a token of a template
abbrev pub told_for : ResolvedRule → Filling → Syntax → ℕ → Bool × List ℕ
told_for rule filling template n = (is_piece rule template n, text_for rule filling template n)
