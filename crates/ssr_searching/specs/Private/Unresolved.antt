-- Private: where nothing resolves, no usage is left out.
use Rattle.ssr_base_trees.specs.Meanings.{IsComplete}
use Rattle.ssr_searching.specs.Unresolved.{nothing_resolves}

pub is_complete : IsComplete nothing_resolves
is_complete = record { paths = λ r node builtin named is. (cc); methods = λ d node builtin named is. (cc) }
