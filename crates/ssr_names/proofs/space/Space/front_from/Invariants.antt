use Rattle.std.proofs.Common.{take, []}
use Rattle.ssr_names.specs.Private.Answered.{IsFront, place_of}
use Rattle.ssr_names.proofs.space.Space.front_from.Given as goal

abbrev pub invariant-loop-name : goal.invariant-loop-name
invariant-loop-name l = IsFront l.self (place_of l.path) [] l.fn.start → IsFront l.self (place_of l.path) (take l.name-index l.names) l.front
