use Rattle.std.proofs.Common.{◌≡◌, [], string_bytes, rules, sym, subst}
use Rattle.std.proofs.lemmas.Str.{IsUtf8-nil}
use Rattle.ssr_syntax_shorts.specs.Shorts.{IsShort}
use Rattle.ssr_syntax_shorts.proofs.Joined.{is_as_it_is}
use Rattle.ssr_syntax_shorts.proofs.made.MadeText.empty.Goals as goal

pub invariant_of-result : goal.invariant_of-result
invariant_of-result c =
    let reach = c.args.reach in
    let none : string_bytes c.new.result ≡ [] = search rules in
    subst (λ t. IsShort reach c.in_ok-short.short t) (sym none)
    (subst (λ s. IsShort reach s []) (sym c.in_ok-short.ensures) (is_as_it_is reach [] IsUtf8-nil))
