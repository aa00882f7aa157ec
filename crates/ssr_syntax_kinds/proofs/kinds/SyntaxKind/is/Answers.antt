use Rattle.std.proofs.Common.{sym, ◌∙◌}
use Rattle.ssr_syntax_kinds.proofs.SameKinds.{same_kind-equal, equal-same_kind}
use Rattle.ssr_syntax_kinds.proofs.kinds.SyntaxKind.is.Goals as goal

pub returns-clause-decides : goal.returns-clause-decides
returns-clause-decides c = (λ same. same_kind-equal _ _ (sym c.eq.ensures ∙ same), λ same. c.eq.ensures ∙ equal-same_kind _ _ same)
