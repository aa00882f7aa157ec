use Rattle.std.proofs.Common.{refl, sym, subst, arith, rules}
use Rattle.ssr_syntax_shorts.specs.Names.{AreNames}
use Rattle.ssr_syntax_shorts.specs.Told.{IsFilledWithin}
use Rattle.ssr_syntax_shorts.proofs.reading.told.Goals as goal

pub returns-clause-told : goal.returns-clause-told
returns-clause-told c = record {
  names_are = c.names-names.ensures;
  raw = c.in-Some-2.raw.items;
  lexes = search rules;
  numbers = c.in-Some-3.tokens.items;
  are = search rules;
  is_core = λ holes held. c.if-not-is_core.ensures refl holes (subst (λ l. AreNames c.args.tree l holes) (sym c.as_slice-2.ensures.value) held);
  deep = subst (λ d. IsFilledWithin d c.args.tree c.in-Some.depth) c.depth.ensures c.in-Some.ensures;
  shallow = omega (arith, c.if-depth-gt-MOST_DEEP.false);
}
