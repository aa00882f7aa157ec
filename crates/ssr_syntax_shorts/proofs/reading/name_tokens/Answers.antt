use Rattle.std.proofs.Common.{[], ◌∷◌, arith, subst, sym}
use Rattle.std.specs.Prelude.{All}
use Rattle.std.proofs.lemmas.Grind.{common_steps}
use Rattle.std.proofs.lemmas.List.Elements.{All-append, All-cons, All-nil}
use Rattle.ssr_syntax_tree.specs.declared.number.TokenNo.{TokenNo}
use Rattle.ssr_syntax_shorts.specs.Told.{IsSolidAt}
use Rattle.ssr_syntax_shorts.proofs.reading.name_tokens.Goals as goal

pub loop-name-preserved : goal.loop-name-preserved
loop-name-preserved c =
    let Q : TokenNo → Type 0 = IsSolidAt c.args.tree.now in
    record {
      cuts = grind (arith, common_steps);
      solid = subst (All Q) (sym c.in_ok-push.ensures.items)
          (All-append Q c.loop-name.tokens.items (c.in-Some.token ∷ []) c.loop-name.invariant.solid
          (All-cons Q c.in-Some.token [] c.in-Some.ensures.solid (All-nil Q)));
      same = grind (arith, common_steps);
    }
