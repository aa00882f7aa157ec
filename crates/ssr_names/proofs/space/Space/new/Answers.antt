use Rattle.ssr_names.proofs.space.Space.new.Goals as goal

pub returns-clause-of_table : goal.returns-clause-of_table
returns-clause-of_table c = record {
  items = c.in_ok-firsts.ensures;
  crates = c.in_ok-crates.ensures;
  builtin = c.in_ok-builtin_types.ensures;
  macros = c.in_ok-macros.ensures;
}
