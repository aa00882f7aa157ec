use Rattle.ssr_names.specs.declared.code_paths.CodePath.{CodePath}
use Rattle.ssr_names.specs.CodePaths.{IsSpelledAs}
use Rattle.ssr_names.proofs.Telling.{if_some, told_in}
use Rattle.ssr_names.proofs.resolving.Resolver.row_in.Goals as goal

pub returns : goal.returns
returns c =
    let resolver = c.args.self.now in
    let number = c.args.word.node.node.0 in
    let unread = c.unread_row-unread.ensures in
    let path = c.in-Some.path in
    let spelled = if_some
    (λ (read : CodePath). IsSpelledAs resolver.space.now.table.now.names resolver.source.now.stranger c.args.tree.now number read.start read.names.items)
    c.in_ok-path.field-0 path c.in-Some.is c.in_ok-path.ensures in (
      unread.node,
      λ d is.
          told_in resolver.space.now resolver.source.now.stranger c.args.tree.now number c.args.«module» path.start path.names.items c.unread_row-unread.result.namespace d
          spelled unread.namespace (c.in_ok-answer.ensures d is),
    )
