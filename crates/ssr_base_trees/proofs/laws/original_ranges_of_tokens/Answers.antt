use Rattle.ssr_base_trees.proofs.Ranges.{run_lies_in_file, run_has_text, runs_nest}
use Rattle.ssr_base_trees.proofs.laws.original_ranges_of_tokens.Goals as goal

pub returns-clause-in_file : goal.returns-clause-in_file
returns-clause-in_file c = run_lies_in_file

pub returns-clause-text : goal.returns-clause-text
returns-clause-text c = run_has_text

pub returns-clause-nested : goal.returns-clause-nested
returns-clause-nested c = runs_nest
