use Rattle.std.proofs.Common.{◌∙◌, ap, not, sym}
use Rattle.std.proofs.lemmas.Bool.{both_ways}
use Rattle.ide_ssr_search.proofs.known_tree.KnownTree.is_permitted.Goals as goal

pub returns-else-is_open : goal.returns-else-is_open
returns-else-is_open c =
    λ rule is.
    (λ told. absurd (both_ways c.is_open.result c.if-is_open.false told), λ permitted. c.is_open.ensures.1 permitted.open_to_all)

pub returns-then-not-asked : goal.returns-then-not-asked
returns-then-not-asked c =
    λ rule is. (
      λ told. record {
        open_to_all = c.is_open.ensures.0 c.if-is_open.true;
        own_self = λ names. absurd (both_ways c.args.asked.in_function c.if-not-asked.true (is.in_function ∙ names));
      },
      λ permitted. ap not c.if-not-asked.true,
    )

pub returns-else-not-asked : goal.returns-else-not-asked
returns-else-not-asked c =
    λ rule is. (
      λ told. record { open_to_all = c.is_open.ensures.0 c.if-is_open.true; own_self = λ names. c.is_in_function.ensures.0 told },
      λ permitted. c.is_in_function.ensures.1 (permitted.own_self (sym is.in_function ∙ c.if-not-asked.false)),
    )
