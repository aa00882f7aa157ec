-- What may fill a template, and what a filled template is as a whole.
use Rattle.std.proofs.Common.{◌≡◌, ℕ, ◌≤◌, Bool, true, false, List, [], refl, sym, subst, arith}
use Rattle.std.proofs.lemmas.List.{append-nil}
use Rattle.ssr_syntax_kinds.specs.declared.kinds.SyntaxKind.{SyntaxKind}
use Rattle.ssr_syntax_kinds.specs.declared.reach.Reach.{Reach}
use Rattle.ssr_syntax_forms.specs.declared.tokens.Token.{Token}
use Rattle.ssr_syntax_forms.specs.Fitting.{Fits}
use Rattle.ssr_syntax_forms.specs.Forms.{next}
use Rattle.ssr_syntax_forms.specs.Kinds.{mem}
use Rattle.ssr_syntax_forms.specs.Trees.{Forest, done, spell}
use Rattle.ssr_syntax_forms.proofs.Shared.{every_mem}
use Rattle.ssr_syntax_types.specs.declared.goals.Goal.TheVariants.{Expr}
use Rattle.ssr_syntax_types.specs.declared.goals.ExprPlace.TheVariants.{Anywhere}
use Rattle.ssr_syntax.specs.Grammar.{grammar_of}
use Rattle.ssr_syntax_places.specs.Delimited.{are_whole, delimiters}
use Rattle.ssr_syntax_places.specs.Standing.{node, closing_marks, may_follow, Stands}
use Rattle.ssr_syntax_places.specs.Core.{Holes, hole_of, IsFilling, AreFillings, core, filled, node_filled, tokens_filled}
use Rattle.ssr_syntax_places.proofs.Alone.{alone_before}
use Rattle.ssr_syntax_places.proofs.Arguments.{join-done}
use Rattle.ssr_syntax_places.proofs.Climbing.{stands_anywhere, stands_before}
use Rattle.ssr_syntax_places.proofs.CoreStands.{core_stands}
use Rattle.ssr_syntax_places.proofs.Following.{goes_behind}

pub stands_fills : (reach : Reach) (n : ℕ) (callable : Bool) (z : Forest) (us : List Token) → n ≤ 12 → Stands reach n callable z us
    → IsFilling reach (hole_of n callable z us)
stands_fills reach n callable z us few stands = record {
  inside = λ closing closes. stands_before reach closing_marks closing z us refl closes (stands_anywhere reach n callable z us few stands);
  operand = λ tight. stands;
}

pub alone_fills : (reach : Reach) (z : Forest) (us : List Token) → are_whole us ≡ true
    → Fits (grammar_of reach) (grammar_of reach (Expr Anywhere)) done z us [] → IsFilling reach (hole_of 13 false z us)
alone_fills reach z us whole fits = record {
  inside = λ closing closes. alone_before reach z us closing whole closes fits;
  operand = λ tight. absurd (omega (arith, tight));
}

delimiter_follows : (rest : List Token) → mem (next rest) delimiters ≡ true → may_follow false rest ≡ true
delimiter_follows rest is = every_mem goes_behind (next rest) delimiters refl is

pub filled_fits : (reach : Reach) (holes : Holes) → AreFillings reach holes → (kind : SyntaxKind) (kids : Forest) (rest : List Token)
    → core holes false 12 0 kind kids ≡ true → mem (next rest) delimiters ≡ true
    → Fits (grammar_of reach) (grammar_of reach (Expr Anywhere)) done (filled holes 0 (node kind kids)) (tokens_filled holes 0 (spell (node kind kids))) rest
filled_fits reach holes are kind kids rest is delimited =
    let stands = core_stands reach holes are false 12 0 kind kids (omega arith) is in
    subst (λ w. Fits (grammar_of reach) (grammar_of reach (Expr Anywhere)) done w (tokens_filled holes 0 (spell (node kind kids))) rest)
    (sym (join-done (node_filled holes 0 kind kids)))
    (subst (λ w. Fits (grammar_of reach) (grammar_of reach (Expr Anywhere)) done (node_filled holes 0 kind kids) (tokens_filled holes 0 w) rest)
    (sym (append-nil (spell kids)))
    (stands_anywhere reach 12 false (node_filled holes 0 kind kids) (tokens_filled holes 0 (spell kids)) (omega arith) stands rest
    (delimiter_follows rest delimited)))
