-- What a run knows of names.
use Rattle.ssr_base_trees.specs.Meanings.{Meanings}
use Rattle.ssr_facts.specs.Provider.{provided}
use Rattle.ssr_names.specs.Provider.{told}
use Rattle.ssr_searching.specs.Unresolved.{nothing_resolves}
use Rattle.cargo_ssr_program.specs.declared.provider.Provider.{Provider}
use Rattle.cargo_ssr_program.specs.declared.provider.Provider.TheVariants.{Facts, Nothing, Sources}

-- nothing, what a facts file tells, or what the sources tell
abbrev pub meanings_of : Provider → Meanings
meanings_of Nothing = nothing_resolves
meanings_of (Facts facts) = provided facts
meanings_of (Sources names) = told names
