-- Each arm writes the words of its refusal, as they compute once it is known which one that is.
use Rattle.ide_ssr_refusals.proofs.refusals.RefusalDisplay.fmt.Goals as goal

pub returns-in-NoDelimiter-clause-writes : goal.returns-in-NoDelimiter-clause-writes
returns-in-NoDelimiter-clause-writes g c plain ok = rw c.in-NoDelimiter.is (c.write_str.ensures.writes plain ok)

pub returns-in-SecondDelimiter-clause-writes : goal.returns-in-SecondDelimiter-clause-writes
returns-in-SecondDelimiter-clause-writes g c plain ok = rw c.in-SecondDelimiter.is (c.write_str-in-SecondDelimiter.ensures.writes plain ok)

pub returns-in-LexerFault-clause-writes : goal.returns-in-LexerFault-clause-writes
returns-in-LexerFault-clause-writes g c plain ok = rw (c.in-LexerFault.is, ← c.fault.view_is) (c.write.ensures.writes plain ok)

pub returns-in-NoName-clause-writes : goal.returns-in-NoName-clause-writes
returns-in-NoName-clause-writes g c plain ok = rw c.in-NoName.is (c.write_str-in-NoName.ensures.writes plain ok)

pub returns-in-NoPlaceholder-clause-writes : goal.returns-in-NoPlaceholder-clause-writes
returns-in-NoPlaceholder-clause-writes g c plain ok = rw c.in-NoPlaceholder.is (c.write_str-in-NoPlaceholder.ensures.writes plain ok)

pub returns-in-EndOfPlaceholder-clause-writes : goal.returns-in-EndOfPlaceholder-clause-writes
returns-in-EndOfPlaceholder-clause-writes g c plain ok = rw c.in-EndOfPlaceholder.is (c.write_str-in-EndOfPlaceholder.ensures.writes plain ok)

pub returns-in-NoClosingBrace-clause-writes : goal.returns-in-NoClosingBrace-clause-writes
returns-in-NoClosingBrace-clause-writes g c plain ok = rw c.in-NoClosingBrace.is (c.write_str-in-NoClosingBrace.ensures.writes plain ok)

pub returns-in-UnexpectedToken-clause-writes : goal.returns-in-UnexpectedToken-clause-writes
returns-in-UnexpectedToken-clause-writes g c plain ok = rw c.in-UnexpectedToken.is (c.write_around.ensures plain ok)

pub returns-in-NoConstraint-clause-writes : goal.returns-in-NoConstraint-clause-writes
returns-in-NoConstraint-clause-writes g c plain ok = rw c.in-NoConstraint.is (c.write_str-in-NoConstraint.ensures.writes plain ok)

pub returns-in-EndOfKind-clause-writes : goal.returns-in-EndOfKind-clause-writes
returns-in-EndOfKind-clause-writes g c plain ok = rw c.in-EndOfKind.is (c.write_str-in-EndOfKind.ensures.writes plain ok)

pub returns-in-NoKindName-clause-writes : goal.returns-in-NoKindName-clause-writes
returns-in-NoKindName-clause-writes g c plain ok = rw c.in-NoKindName.is (c.write-in-NoKindName.ensures.writes plain ok)

pub returns-in-OtherBracket-clause-writes : goal.returns-in-OtherBracket-clause-writes
returns-in-OtherBracket-clause-writes g c plain ok = rw (c.in-OtherBracket.is, ← c.wanted.view_is, ← c.text.view_is) (c.write-in-OtherBracket.ensures.writes plain ok)

pub returns-in-NoBracket-clause-writes : goal.returns-in-NoBracket-clause-writes
returns-in-NoBracket-clause-writes g c plain ok = rw c.in-NoBracket.is (c.write_around-in-NoBracket.ensures plain ok)

pub returns-in-UnknownKind-clause-writes : goal.returns-in-UnknownKind-clause-writes
returns-in-UnknownKind-clause-writes g c plain ok = rw c.in-UnknownKind.is (c.write_around-in-UnknownKind.ensures plain ok)

pub returns-in-UnknownConstraint-clause-writes : goal.returns-in-UnknownConstraint-clause-writes
returns-in-UnknownConstraint-clause-writes g c plain ok = rw c.in-UnknownConstraint.is (c.write_around-in-UnknownConstraint.ensures plain ok)

pub returns-in-DeepConstraint-clause-writes : goal.returns-in-DeepConstraint-clause-writes
returns-in-DeepConstraint-clause-writes g c plain ok = rw c.in-DeepConstraint.is (c.write_str-in-DeepConstraint.ensures.writes plain ok)

pub returns-in-Repeated-clause-writes : goal.returns-in-Repeated-clause-writes
returns-in-Repeated-clause-writes g c plain ok = rw c.in-Repeated.is (c.write_around-in-Repeated.ensures plain ok)

pub returns-in-Glued-clause-writes : goal.returns-in-Glued-clause-writes
returns-in-Glued-clause-writes g c plain ok = rw c.in-Glued.is (c.write_around-in-Glued.ensures plain ok)

pub returns-in-Reserved-clause-writes : goal.returns-in-Reserved-clause-writes
returns-in-Reserved-clause-writes g c plain ok = rw c.in-Reserved.is (c.write_around-in-Reserved.ensures plain ok)

pub returns-in-NoKind-clause-writes : goal.returns-in-NoKind-clause-writes
returns-in-NoKind-clause-writes g c plain ok = rw c.in-NoKind.is (c.write_str-in-NoKind.ensures.writes plain ok)

pub returns-in-ConstraintInMacroCall-clause-writes : goal.returns-in-ConstraintInMacroCall-clause-writes
returns-in-ConstraintInMacroCall-clause-writes g c plain ok = rw c.in-ConstraintInMacroCall.is (c.write_around-in-ConstraintInMacroCall.ensures plain ok)

pub returns-in-ConstraintInTemplate-clause-writes : goal.returns-in-ConstraintInTemplate-clause-writes
returns-in-ConstraintInTemplate-clause-writes g c plain ok = rw c.in-ConstraintInTemplate.is (c.write_str-in-ConstraintInTemplate.ensures.writes plain ok)

pub returns-in-Undefined-clause-writes : goal.returns-in-Undefined-clause-writes
returns-in-Undefined-clause-writes g c plain ok = rw (c.in-Undefined.is, ← c.names.view_is) (c.write-in-Undefined.ensures.writes plain ok)

pub returns-in-UnresolvedPath-clause-writes : goal.returns-in-UnresolvedPath-clause-writes
returns-in-UnresolvedPath-clause-writes g c plain ok = rw c.in-UnresolvedPath.is (c.write_around-in-UnresolvedPath.ensures plain ok)
