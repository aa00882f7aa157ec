use Rattle.std.proofs.Common.{◌≡◌, ◌++◌, map, drop, string_bytes}
use Rattle.cargo_ssr_options.specs.RulesFile.{rules_of_lines}
use Rattle.cargo_ssr_options.proofs.Paragraphs.{left, texts_of}
use Rattle.cargo_ssr_options.proofs.rules_file.paragraphs.Given as goal

abbrev pub invariant-loop-line : goal.invariant-loop-line
invariant-loop-line l = map string_bytes l.rules.items ++ left (string_bytes l.rule) (texts_of (drop l.line-index l.lines)) ≡ rules_of_lines (texts_of l.lines)
