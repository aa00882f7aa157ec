use Rattle.ssr_syntax.specs.Expansions.{expansion_reading_of}
use Rattle.ssr_base.proofs.Adding.{added_so, refused_so, memory_so}
use Rattle.ssr_base.proofs.workspace.Workspace.add_of.Goals as goal

pub returns-clause-added : goal.returns-clause-added
returns-clause-added c =
    added_so c.args.self.now c.add_as.new.self c.args.expansion.now c.add_as.result
    (expansion_reading_of c.args.self.now.reach c.args.expansion.now.kind c.args.expansion.now.tokens.items) c.args.tree c.requires c.add_as.ensures.added

pub returns-clause-refused : goal.returns-clause-refused
returns-clause-refused c =
    refused_so c.args.self.now c.add_as.new.self c.args.expansion.now c.add_as.result
    (expansion_reading_of c.args.self.now.reach c.args.expansion.now.kind c.args.expansion.now.tokens.items) c.args.tree c.requires c.add_as.ensures.refused

pub returns-clause-memory : goal.returns-clause-memory
returns-clause-memory c =
    memory_so c.args.self.now c.add_as.new.self c.args.expansion.now c.add_as.result
    (expansion_reading_of c.args.self.now.reach c.args.expansion.now.kind c.args.expansion.now.tokens.items) c.args.tree c.requires c.add_as.ensures.memory
