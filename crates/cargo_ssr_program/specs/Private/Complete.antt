-- Private: whatever names are known from, no usage is left out.
use Rattle.ssr_base_trees.specs.Meanings.{IsComplete}
use Rattle.ssr_facts.specs.Private.Complete.{is_complete as by_facts}
use Rattle.ssr_names.specs.Private.Complete.{is_complete as by_names}
use Rattle.ssr_searching.specs.Private.Unresolved.{is_complete as by_nothing}
use Rattle.cargo_ssr_program.specs.Providers.{meanings_of}
use Rattle.cargo_ssr_program.specs.declared.provider.Provider.{Provider}
use Rattle.cargo_ssr_program.specs.declared.provider.Provider.TheVariants.{Facts, Nothing, Sources}

pub is_complete : (provider : Provider) → IsComplete (meanings_of provider)
is_complete Nothing = by_nothing
is_complete (Facts facts) = by_facts facts.maps facts.indexed
is_complete (Sources names) = by_names names
