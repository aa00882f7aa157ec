-- What fits alone stands before a bracket that closes or a comma, whatever follows.
use Rattle.std.proofs.Common.{◌≡◌, ◌-◌, nat_eq, true, List, [], ◌∷◌, ◌++◌, length, refl}
use Rattle.std.proofs.lemmas.Bool.{and_parts}
use Rattle.ssr_syntax_kinds.specs.declared.reach.Reach.{Reach}
use Rattle.ssr_syntax_forms.specs.declared.tokens.Token.{Token}
use Rattle.ssr_syntax_forms.specs.Fitting.{Fits}
use Rattle.ssr_syntax_forms.specs.Forms.{next}
use Rattle.ssr_syntax_forms.specs.Kinds.{mem}
use Rattle.ssr_syntax_forms.specs.Trees.{Forest, done}
use Rattle.ssr_syntax_forms.proofs.Shared.{every_mem}
use Rattle.ssr_syntax_types.specs.declared.goals.Goal.TheVariants.{Expr}
use Rattle.ssr_syntax_types.specs.declared.goals.ExprPlace.TheVariants.{Anywhere}
use Rattle.ssr_syntax.specs.Grammar.{grammar_of}
use Rattle.ssr_syntax_places.specs.Delimited.{are_whole, delimiters}
use Rattle.ssr_syntax_places.specs.Standing.{is_token, closing_marks, StandsBefore}
use Rattle.ssr_syntax_places.proofs.Delimited.{delimited_alike}

delimits : (closing rest : List Token) → is_token closing_marks closing ≡ true → mem (next (closing ++ rest)) delimiters ≡ true
delimits [] rest is = absurd (cc)
delimits (t ∷ us) rest is =
    every_mem (λ kind. mem kind delimiters) t.joined closing_marks refl (and_parts (mem t.joined closing_marks) (nat_eq (t.size - 1) (length us)) is).0

pub alone_before : (reach : Reach) (z : Forest) (us closing : List Token) → are_whole us ≡ true → is_token closing_marks closing ≡ true
    → Fits (grammar_of reach) (grammar_of reach (Expr Anywhere)) done z us [] → StandsBefore reach closing z us
alone_before reach z us closing whole is fits rest =
    delimited_alike reach (Expr Anywhere) z us [] (closing ++ rest) refl whole refl (delimits closing rest is) fits
