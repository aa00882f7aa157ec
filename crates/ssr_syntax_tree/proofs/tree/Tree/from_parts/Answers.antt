use Rattle.std.proofs.Common.{subst, sym}
use Rattle.std.specs.String.{string_bytes}
use Rattle.ssr_syntax_tree.specs.Parts.{AreParts}
use Rattle.ssr_syntax_tree.proofs.ReadBack.{read_back}
use Rattle.ssr_syntax_tree.proofs.tree.Tree.from_parts.Goals as goal

pub invariant_of-result : goal.invariant_of-result
invariant_of-result c =
    let source = string_bytes c.args.source in
    let tokens = c.args.tokens in
    let nodes = c.args.nodes in
    subst (AreParts source tokens nodes) (sym (read_back source tokens nodes c.requires.0 c.requires.1)) c.requires.1

pub returns : goal.returns
returns c = λ syntax are. read_back (string_bytes c.args.source) c.args.tokens c.args.nodes syntax are
