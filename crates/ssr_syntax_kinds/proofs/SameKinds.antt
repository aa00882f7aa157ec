-- Kinds that are the same are equal.
use Rattle.std.proofs.Common.{◌≡◌, true}
use denote.Enum.Bare.{same_true, true_same}
use Rattle.ssr_syntax_kinds.specs.declared.kinds.SyntaxKind.{SyntaxKind}
use Rattle.ssr_syntax_kinds.specs.contracts.kinds.SyntaxKind.{the_type}
use Rattle.ssr_syntax_kinds.specs.Kinds.{same_kind}

pub same_kind-equal : (a b : SyntaxKind) → same_kind a b ≡ true → a ≡ b
same_kind-equal a b h = same_true the_type tt a b h

pub equal-same_kind : (a b : SyntaxKind) → a ≡ b → same_kind a b ≡ true
equal-same_kind a b e = true_same the_type a b e
