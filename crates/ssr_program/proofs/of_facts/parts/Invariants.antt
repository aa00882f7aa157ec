use Rattle.std.proofs.Common.{◌≡◌, ◌++◌, map, string_bytes}
use Rattle.ssr_program.specs.OfFacts.{parts}
use Rattle.ssr_searching.specs.Searching.{changes_in}
use Rattle.ssr_program.proofs.Parts.{left}
use Rattle.ssr_program.proofs.of_facts.parts.Given as goal

abbrev pub invariant-loop-file : goal.invariant-loop-file
invariant-loop-file l =
    string_bytes l.text ++ left (map string_bytes l.names) l.workspace.files (changes_in l.edits) l.file
    ≡ parts (map string_bytes l.names) l.workspace.files (changes_in l.edits)
