use Rattle.ssr_syntax.specs.Expansions.{expansion_reading}
use Rattle.ssr_base.proofs.Adding.{added_so, in_stated, refused_so, memory_so}
use Rattle.ssr_base.proofs.workspace.Workspace.add.Goals as goal

pub add_as-requires : goal.add_as-requires
add_as-requires c = in_stated c.args.expansion.now.kind c.args.expansion.now.tokens.items c.args.tree c.requires

pub returns-clause-added : goal.returns-clause-added
returns-clause-added c =
    added_so c.args.self.now c.add_as.new.self c.args.expansion.now c.add_as.result
    (expansion_reading c.args.expansion.now.kind c.args.expansion.now.tokens.items) c.args.tree c.requires c.add_as.ensures.added

pub returns-clause-refused : goal.returns-clause-refused
returns-clause-refused c =
    refused_so c.args.self.now c.add_as.new.self c.args.expansion.now c.add_as.result
    (expansion_reading c.args.expansion.now.kind c.args.expansion.now.tokens.items) c.args.tree c.requires c.add_as.ensures.refused

pub returns-clause-memory : goal.returns-clause-memory
returns-clause-memory c =
    memory_so c.args.self.now c.add_as.new.self c.args.expansion.now c.add_as.result
    (expansion_reading c.args.expansion.now.kind c.args.expansion.now.tokens.items) c.args.tree c.requires c.add_as.ensures.memory
