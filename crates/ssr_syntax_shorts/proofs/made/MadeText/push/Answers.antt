use Rattle.std.proofs.Common.{◌≡◌, ◌++◌, ◌∙◌, string_bytes, rules, ap, sym, subst}
use Rattle.ssr_syntax_shorts.specs.Made.{text_of, unless_tight}
use Rattle.ssr_syntax_shorts.specs.Shorts.{IsShort}
use Rattle.ssr_syntax_shorts.proofs.JoinedParts.{short_pushed}
use Rattle.ssr_syntax_shorts.proofs.made.MadeText.push.Goals as goal

pub invariant_of-self-in_ok-push_unless_tight-2 : goal.invariant_of-self-in_ok-push_unless_tight-2
invariant_of-self-in_ok-push_unless_tight-2 c =
    let reach = c.self.inside.reach in
    let old = string_bytes c.self.inside.text in
    let more = unless_tight c.args.loose (text_of c.args.part.now) in
    let new = c.push_unless_tight.new.short in
    let was : IsShort reach c.in-Some.short old = search rules in
    let bytes : string_bytes c.push_text.new.text ≡ old ++ more =
    c.in_ok-push_text.ensures ∙ ap (λ t. old ++ unless_tight c.args.loose t) c.as_str.ensures in
    subst (λ t. IsShort reach new t) (sym bytes)
    (short_pushed reach more old c.in-Some.short new was c.in_ok-push_unless_tight.ensures)
