-- What is read alone as an expression is what a name may stand for.
use Rattle.std.proofs.Common.{◌≡◌, ℕ, ◌<◌, true, false, if◌then◌else◌, List, [], ◌∷◌, length, Some, refl, sym, ap, ◌∙◌, arith}
use Rattle.std.specs.Prelude.{reverse}
use Rattle.std.specs.Str.{IsUtf8}
use Rattle.std.proofs.lemmas.Bool.{and_parts, not-true}
use Rattle.ssr_syntax_kinds.specs.Kinds.{is_trivia}
use Rattle.ssr_syntax_kinds.specs.declared.fragment.Fragment.TheVariants as fragments
use Rattle.ssr_syntax_kinds.specs.declared.reach.Reach.{Reach}
use Rattle.ssr_syntax_lex.specs.Tokens.{tokens, spell as spelled_by}
use Rattle.ssr_syntax_lex.specs.declared.tokens.RawToken.{RawToken}
use Rattle.ssr_syntax_lex.proofs.Shared.{tokens_tile, tiles_spell}
use Rattle.ssr_syntax_tree.specs.Syntax.{Syntax}
use Rattle.ssr_syntax_forms.specs.declared.tokens.Token.{Token}
use Rattle.ssr_syntax_rows.specs.Lossless.{whole_tree}
use Rattle.ssr_syntax_rows.specs.MacroRules.{misnames_macros}
use Rattle.ssr_syntax_rows.specs.Solid.{begins_solid, solid_token, solid_tokens, pieces}
use Rattle.ssr_syntax.specs.Reading.{trimmed, FitsFragmentOf}
use Rattle.ssr_syntax_places.specs.Core.{hole_of}
use Rattle.ssr_syntax_places.specs.LongTexts.{IsReadAlone}
use Rattle.ssr_syntax_places.specs.Standing.{node}
use Rattle.ssr_syntax_places.proofs.Fillings.{alone_fills}
use Rattle.ssr_syntax_places.proofs.WholeTokens.{whole_solid}

-- tokens of some text that begin with a solid one have it
first_solid : (text : List ℕ) (raw : List RawToken) → spelled_by text raw ≡ text → 0 < length text → begins_solid raw ≡ true
    → 0 < length (solid_tokens raw)
first_solid text [] spells some is = absurd (omega (arith, some, ap length spells))
first_solid text (t ∷ ts) spells some is =
    let more : length (solid_tokens (t ∷ ts)) ≡ length (solid_token t ts ∷ solid_tokens ts) =
    ap (λ b. length (if b then solid_tokens ts else solid_token t ts ∷ solid_tokens ts)) (not-true (is_trivia t.kind) is) in
    omega (arith, more)

pub read_alone : (reach : Reach) (text : List ℕ) (syntax : Syntax) → IsUtf8 text → trimmed text ≡ text → 0 < length text
    → FitsFragmentOf reach fragments.Expr text syntax → IsReadAlone reach text syntax
read_alone reach text syntax utf8 trim_is some (raw, lexes, outside, (kind, kids, fits, is, named)) =
    let own : tokens text ≡ Some raw = ap tokens (sym trim_is) ∙ lexes in
    let us : List Token = solid_tokens raw in
    let spells : spelled_by text raw ≡ text = tiles_spell text raw (tokens_tile text raw utf8 own) in
    let same : syntax ≡ whole_tree kind kids (pieces text raw) = is ∙ ap (λ l. whole_tree kind kids (pieces l raw)) trim_is in
    record {
      hole = hole_of 13 false (node kind kids) us;
      raw = raw;
      lexes = own;
      tokens_are = refl;
      filling = alone_fills reach (node kind kids) us (whole_solid raw) fits;
      inside = record {
        kind = kind;
        kids = kids;
        tree = refl;
        fits = fits;
        some = first_solid text raw spells some (and_parts (begins_solid raw) (begins_solid (reverse raw)) outside).0;
        named = ap misnames_macros (sym same) ∙ named;
      };
      whole = same;
    }
