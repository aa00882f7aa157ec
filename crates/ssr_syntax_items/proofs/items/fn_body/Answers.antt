use Rattle.std.proofs.Common.{rules}
use Rattle.ssr_syntax_items.specs.Items.{fn_body}
use Rattle.ssr_syntax_items.proofs.items.fn_body.Goals as goal

pub returns-in-AsStmt : goal.returns-in-AsStmt
unfolding fn_body
returns-in-AsStmt g c = search rules steps 1000000

pub returns-in-InImpl : goal.returns-in-InImpl
unfolding fn_body
returns-in-InImpl g c = search rules steps 1000000

pub returns-in-InTrait : goal.returns-in-InTrait
unfolding fn_body
returns-in-InTrait g c = search rules steps 1000000

pub returns-in-InModule : goal.returns-in-InModule
unfolding fn_body
returns-in-InModule g c = search rules steps 1000000
