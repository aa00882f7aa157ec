-- A long text fits, by the template that a short text with names in the place of its insides is.
use Rattle.std.proofs.Common.{◌≡◌, ℕ, true, false, List, [], Some, refl, sym, ap, subst, ◌∙◌}
use Rattle.ssr_syntax_kinds.specs.declared.kinds.SyntaxKind.{SyntaxKind}
use Rattle.ssr_syntax_kinds.specs.declared.reach.Reach.{Reach}
use Rattle.ssr_syntax_lex.specs.Tokens.{tokens}
use Rattle.ssr_syntax_lex.specs.declared.tokens.RawToken.{RawToken}
use Rattle.ssr_syntax_forms.specs.Fitting.{Fits}
use Rattle.ssr_syntax_forms.specs.Trees.{Forest, done, spell}
use Rattle.ssr_syntax_types.specs.declared.goals.Goal.TheVariants.{Expr}
use Rattle.ssr_syntax_types.specs.declared.goals.ExprPlace.TheVariants.{Anywhere}
use Rattle.ssr_syntax.specs.Grammar.{grammar_of}
use Rattle.ssr_syntax_rows.specs.Solid.{solid_tokens}
use Rattle.ssr_syntax_places.specs.Core.{Holes, AreFillings, core, filled, tokens_filled}
use Rattle.ssr_syntax_places.specs.Standing.{node}
use Rattle.ssr_syntax_places.specs.Woven.{Part, woven, AreWoven, solid_parts, StandFor}
use Rattle.ssr_syntax_places.proofs.Fillings.{filled_fits}
use Rattle.ssr_syntax_places.proofs.Woven.{woven_lexes, woven_filled}

pub long_fits : (reach : Reach) (holes : Holes) (short long : List Part) (last : List ℕ) (after : List RawToken) (kind : SyntaxKind) (kids : Forest)
    → AreFillings reach holes → AreWoven long last → tokens last ≡ Some after → StandFor holes 0 short long (solid_tokens after)
    → spell (node kind kids) ≡ solid_parts short (solid_tokens after) → core holes false 12 0 kind kids ≡ true
    → (raw : List RawToken) × (tokens (woven long last) ≡ Some raw)
    × Fits (grammar_of reach) (grammar_of reach (Expr Anywhere)) done (filled holes 0 (node kind kids)) (solid_tokens raw) []
long_fits reach holes short long last after kind kids are parts lexes stand spelling is =
    let (raw, raw_lexes, solid, _) = woven_lexes long last after parts lexes in
    let same : tokens_filled holes 0 (spell (node kind kids)) ≡ solid_tokens raw =
    ap (tokens_filled holes 0) spelling ∙ woven_filled holes 0 short long (solid_tokens after) stand ∙ sym solid in (
      raw,
      raw_lexes,
      subst (λ us. Fits (grammar_of reach) (grammar_of reach (Expr Anywhere)) done (filled holes 0 (node kind kids)) us []) same
          (filled_fits reach holes are kind kids [] is refl),
    )
