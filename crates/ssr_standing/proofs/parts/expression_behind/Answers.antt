use Rattle.std.proofs.Common.{◌≡◌, ◌∙◌, ◌++◌, List, ℕ, length, refl, ap, arith}
use Rattle.std.specs.Prelude.{codes}
use Rattle.std.proofs.lemmas.List.{length-append}
use Rattle.ssr_standing.proofs.parts.expression_behind.Goals as goal

pub returns-in-Ok-clause-short : goal.returns-in-Ok-clause-short
returns-in-Ok-clause-short c =
    let front : List ℕ = c.args.front.now in
    let text : List ℕ = c.args.text.now in
    let closed : c.as_str.result.now ≡ codes "(" ++ (front ++ (text ++ codes ")")) = c.as_str.ensures.value ∙ c.in_ok-closed.ensures.ok in
    let open_one : length (codes "(") ≡ 1 = refl in
    let close_one : length (codes ")") ≡ 1 = refl in
    omega (
      arith,
      ap length closed,
      open_one,
      close_one,
      length-append (codes "(") (front ++ (text ++ codes ")")),
      length-append front (text ++ codes ")"),
      length-append text (codes ")"),
      c.in-Ok.ensures.sound.short,
    )
