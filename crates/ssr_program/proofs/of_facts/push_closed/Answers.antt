use Rattle.std.proofs.Common.{◌≡◌, ◌++◌, List, ℕ, Bool, false, string_bytes, nat_eq, sym, ap, ◌∙◌, append_assoc}
use Rattle.std.specs.Prelude.{if◌then◌else◌}
use Rattle.std.specs.List.{ends_with}
use Rattle.std.proofs.lemmas.Str.Pattern.{ends_text}
use Rattle.ssr_program.specs.Output.{line_break}
use Rattle.ssr_program.proofs.of_facts.push_closed.Goals as goal

pub returns : goal.returns
returns c =
    let text = string_bytes c.args.text.now in
    let new = c.args.new.now in
    let off : ends_with nat_eq new line_break ≡ false = sym (ends_text c.ends_with.result line_break new c.ends_with.ensures.cases) ∙ c.if-ends_with.false in
    c.in_ok-push_str-2.ensures.bytes
    ∙ ap (λ (s : List ℕ). s ++ line_break) c.in_ok-push_str.ensures.bytes
    ∙ append_assoc text new line_break
    ∙ ap (λ (b : Bool). text ++ (if b then new else new ++ line_break)) (sym off)
