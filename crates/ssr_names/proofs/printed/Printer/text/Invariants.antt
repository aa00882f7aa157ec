use Rattle.std.proofs.Common.{◌∷◌, take, string_bytes}
use Rattle.ssr_names.specs.Printed.{EndsWithNames}
use Rattle.ssr_names.proofs.printed.Printer.text.Given as goal

abbrev pub invariant-loop-name : goal.invariant-loop-name
invariant-loop-name l = EndsWithNames l.self.space.now.table.now.names l.front (l.fn.first ∷ take l.name-index l.others) (string_bytes l.text)
