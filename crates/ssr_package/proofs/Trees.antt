-- Trees of modules, with one module more.
use Rattle.std.proofs.Common.{◌≡◌, ◌<◌, List, [], ◌∷◌, ◌++◌, length, IfSome, subst, sym}
use Rattle.ssr_package.specs.declared.module_tree.Module.{Module}
use Rattle.ssr_package.specs.ModuleTree.{IsTree, none, more, declarer}

pub one_more : (old new : List Module) (last : Module) → IsTree old → new ≡ old ++ last ∷ [] → IfSome (declarer last) (λ number. number < length old) → IsTree new
one_more old new last tree longer behind = subst IsTree (sym longer) (more old last tree behind)

pub none_yet : (modules : List Module) → modules ≡ [] → IsTree modules
none_yet modules empty = subst IsTree (sym empty) none
