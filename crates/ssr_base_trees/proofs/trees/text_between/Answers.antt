use Rattle.std.proofs.Common.{rules}
use Rattle.ssr_base_trees.proofs.trees.text_between.Goals as goal

pub returns-else-is_char_boundary : goal.returns-else-is_char_boundary
returns-else-is_char_boundary c = search rules steps 200000
