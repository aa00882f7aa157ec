use Rattle.ssr_program.proofs.Outputs.{file_exists, facts_exist, output_unique}
use Rattle.ssr_program.proofs.laws.outputs.Goals as goal

pub returns-clause-of_file : goal.returns-clause-of_file
returns-clause-of_file c = file_exists

pub returns-clause-of_facts : goal.returns-clause-of_facts
returns-clause-of_facts c = facts_exist

pub returns-clause-no_other : goal.returns-clause-no_other
returns-clause-no_other c form rules bytes = output_unique rules bytes form
