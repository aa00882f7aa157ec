use Rattle.std.proofs.Common.{◌≡◌, ◌-◌, ◌≤◌, ◌++◌, length, take, drop}
use Rattle.ssr_macro_arguments.specs.Forms.{without_string}
use Rattle.ssr_macro_arguments.proofs.format_strings.argument_place.Given as goal

abbrev pub invariant-loop : goal.invariant-loop
invariant-loop l = record {
  so_far : take l.place l.arguments ++ without_string (l.before - l.counter) (drop l.place l.arguments) ≡ without_string l.before l.arguments;
  within : l.place ≤ length l.arguments;
  counted : l.counter ≤ l.before;
}
