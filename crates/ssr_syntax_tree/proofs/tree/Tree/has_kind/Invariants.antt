use Rattle.std.proofs.Common.{◌≡◌, take}
use Rattle.std.specs.List.{list_any}
use Rattle.ssr_syntax_kinds.specs.Kinds.{same_kind}
use Rattle.ssr_syntax_tree.proofs.tree.Tree.has_kind.Given as goal

-- what is found is what the kinds passed tell
abbrev pub invariant-loop-own : goal.invariant-loop-own
invariant-loop-own l = list_any (λ own. same_kind own l.kind) (take l.own-index l.kinds) ≡ l.found
