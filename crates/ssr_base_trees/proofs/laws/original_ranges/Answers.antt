use Rattle.ssr_base_trees.proofs.Ranges.{ranges_nest, lies_in_file, has_text}
use Rattle.ssr_base_trees.proofs.laws.original_ranges.Goals as goal

pub returns-clause-in_file : goal.returns-clause-in_file
returns-clause-in_file c = lies_in_file

pub returns-clause-text : goal.returns-clause-text
returns-clause-text c = has_text

pub returns-clause-nested : goal.returns-clause-nested
returns-clause-nested c = ranges_nest
