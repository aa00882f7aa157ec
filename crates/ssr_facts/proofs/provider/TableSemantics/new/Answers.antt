use Rattle.ssr_facts.proofs.Same.{same_meanings, indexed}
use Rattle.ssr_facts.proofs.provider.TableSemantics.new.Goals as goal

pub invariant_of-result : goal.invariant_of-result
invariant_of-result c = record { indexed = indexed c.in_ok-maps.maps c.args.tables c.in_ok-maps.ensures }

pub returns : goal.returns
returns c = same_meanings c.in_ok-maps.maps c.args.tables c.in_ok-maps.ensures
