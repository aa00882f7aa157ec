use Rattle.ide_ssr_nesting.proofs.Keeping.{all_match, kept_same}
use Rattle.ide_ssr_nesting.proofs.kept_matches.keep.Goals as goal

pub keep_in_order-requires-clause-matches : goal.keep_in_order-requires-clause-matches
keep_in_order-requires-clause-matches c = all_match _ _ _ c.requires.matches c.put_in_order.ensures.same

pub returns-clause-kept : goal.returns-clause-kept
returns-clause-kept c = kept_same _ _ _ _ c.put_in_order.ensures.same c.in_ok-nest.ensures.kept
