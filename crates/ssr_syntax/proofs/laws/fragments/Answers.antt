use Rattle.ssr_syntax_kinds.specs.declared.reach.Reach.TheVariants.{Stated}
use Rattle.ssr_syntax.proofs.ClearTexts.{fragment_clear, fragment_clear_of}
use Rattle.ssr_syntax.proofs.IdentTexts.{fragment_alone, fragment_alone_of, fragment_idents}
use Rattle.ssr_syntax.proofs.TextLaws.{one_fragment}
use Rattle.ssr_syntax.proofs.laws.fragments.Goals as goal

pub returns : goal.returns
returns c = record {
  one = one_fragment Stated;
  idents = fragment_idents;
  alone = fragment_alone;
  clear = fragment_clear;
  one_of = one_fragment;
  alone_of = fragment_alone_of;
  clear_of = fragment_clear_of;
}
