-- What a provider that is told by tables answers.
use Rattle.ssr_facts.specs.declared.provider.TableSemantics.{TableSemantics}
use Rattle.ssr_base_trees.specs.Meanings.{Meanings}
use Rattle.ssr_facts.specs.Maps.{meanings_in}

abbrev pub provided : TableSemantics → Meanings
provided semantics = meanings_in semantics.maps
