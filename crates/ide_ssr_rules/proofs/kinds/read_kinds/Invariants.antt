use Rattle.std.proofs.Common.{◌≡◌, take}
use Rattle.std.specs.List.{filter_map}
use Rattle.std.specs.Option.{option_copied}
use Rattle.ide_ssr_rules.specs.Kinds.{kind_in, categories}
use Rattle.ide_ssr_rules.proofs.kinds.read_kinds.Given as goal

abbrev pub invariant-loop-category : goal.invariant-loop-category
invariant-loop-category l = l.kinds.items ≡ filter_map (kind_in l.reach l.pattern (option_copied l.template)) (take l.category-index categories)
