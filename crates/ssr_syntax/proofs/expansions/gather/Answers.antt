use Rattle.std.proofs.Common.{◌≡◌, ◌∷◌, ◌++◌, ◌∙◌, [], length, ap, sym, rules}
use Rattle.std.specs.Prelude.{string_bytes}
use Rattle.ssr_syntax.specs.Expansions.{lone_kind}
use Rattle.ssr_syntax.proofs.ExpansionTokens.{front_more}
use Rattle.ssr_syntax.proofs.expansions.gather.Goals as goal

pub loop-token-preserved : goal.loop-token-preserved
loop-token-preserved c =
    let text = string_bytes c.loop-token.text in
    let e : c.len-start.result ≡ length text = search rules in
    front_more c.args.tokens.now c.loop-token.rest.now c.in-Some.others.now c.in-Some.token.now text c.loop-token.rows
    c.loop-token.kinds.items c.loop-token.invariant.0 c.in_ok-kind.kind
    (string_bytes c.push_str.new.self) c.push.new.self c.push_kind.new.kinds.items
    c.loop-token.invariant.1
    c.in-Some.ensures.cases.0
    (ap lone_kind (sym c.as_str.ensures.value) ∙ c.in_ok-kind.ensures)
    (c.in_ok-push_str.ensures.bytes ∙ ap (λ l. text ++ l) c.as_str-in-Some.ensures.value)
    (c.in_ok-push.ensures ∙ ap (λ n. c.loop-token.rows ++ record { kind = c.in_ok-kind.kind; start = n } ∷ []) e)
    c.in_ok-push_kind.ensures
