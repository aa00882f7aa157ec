use Rattle.std.proofs.Common.{◌≡◌, ◌++◌, map}
use Rattle.ssr_package.specs.Private.Texts.{named}
use Rattle.ssr_package.proofs.texts.in_order.Given as goal

-- the files so far, and what is left, are all
abbrev pub invariant-loop-name : goal.invariant-loop-name
invariant-loop-name l = map named l.files.items ++ l.name-iterator ≡ l.fn.by_name.entries
