use Rattle.std.proofs.Common.{All}
use Rattle.ssr_names_items.specs.declared.table.ImportNo.{ImportNo}
use Rattle.ssr_names_items.specs.declared.table.ModuleNo.{ModuleNo}
use Rattle.ssr_names.specs.declared.lookup.Question.{Question}
use Rattle.ssr_names.specs.Lookup.{IsGlob, Reaches}
use Rattle.ssr_names.proofs.space.Space.add_globs.Given as goal

abbrev pub invariant-loop-glob : goal.invariant-loop-glob
invariant-loop-glob l =
    (root : ModuleNo) (asked : Question) → All (Reaches l.self root asked) l.fn.walk.imports.items
    → ((i : ImportNo) → IsGlob l.self l.«module» l.question i → Reaches l.self root asked i) → All (Reaches l.self root asked) l.walk.imports.items
