use Rattle.std.proofs.Common.{All}
use Rattle.ssr_names.specs.Lookup.{Reaches}
use Rattle.ssr_names.specs.Private.Answered.{IsBroughtIn}
use Rattle.ssr_names.proofs.space.Space.from_globs.Given as goal

abbrev pub invariant-loop-place : goal.invariant-loop-place
invariant-loop-place l = record {
  reached : All (Reaches l.self l.fn.«module» l.question) l.walk.imports.items;
  brought : IsBroughtIn l.self l.fn.«module» l.question l.found;
}
