use Rattle.std.proofs.Common.{◌≡◌, ◌+◌, ◌≤◌, ◌++◌, take, drop}
use Rattle.ssr_macro_arguments.specs.Forms.{lone_string_length}
use Rattle.ssr_macro_arguments.proofs.format_strings.without_string.Given as goal

abbrev pub invariant-loop : goal.invariant-loop
invariant-loop l = record {
  left : l.left.items ≡ take l.place l.fn.arguments.items ++ drop (l.place + l.counter) l.fn.arguments.items;
  counted : l.counter ≤ lone_string_length (drop l.place l.fn.arguments.items);
}
