use Rattle.std.proofs.Common.{rules}
use Rattle.ssr_base_trees.proofs.covers.Cover.join.Goals as goal

pub returns-in-Range-Range : goal.returns-in-Range-Range
returns-in-Range-Range c = search rules steps 200000

pub returns-in-Range-NoToken : goal.returns-in-Range-NoToken
returns-in-Range-NoToken c = search rules steps 200000

pub returns-in-Range-NoOrigin : goal.returns-in-Range-NoOrigin
returns-in-Range-NoOrigin c = search rules steps 200000
