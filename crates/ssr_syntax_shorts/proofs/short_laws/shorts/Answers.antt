use Rattle.ssr_syntax_shorts.proofs.Joined.{is_as_it_is, is_in_parentheses, is_joined, joined_outside, joined_places}
use Rattle.ssr_syntax_shorts.proofs.short_laws.shorts.Goals as goal

pub returns-clause-as_it_is : goal.returns-clause-as_it_is
returns-clause-as_it_is c = is_as_it_is

pub returns-clause-in_parentheses : goal.returns-clause-in_parentheses
returns-clause-in_parentheses c = is_in_parentheses

pub returns-clause-joined : goal.returns-clause-joined
returns-clause-joined c = is_joined

pub returns-clause-outside : goal.returns-clause-outside
returns-clause-outside c = joined_outside

pub returns-clause-places : goal.returns-clause-places
returns-clause-places c = joined_places
