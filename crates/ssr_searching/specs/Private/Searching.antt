-- Private: the errors of a search, and how it reads rules.
use Rattle.ide_ssr_refusals.specs.declared.error.SsrError.{SsrError}
use Rattle.ide_ssr_refusals.specs.declared.error.SsrError.TheVariants as ssr
use Rattle.ide_ssr_rules.specs.Rules.{rule_reading, once_reading_of}
use Rattle.ssr_syntax_kinds.specs.declared.reach.Reach.{Reach}
use Rattle.ssr_syntax_kinds.specs.declared.reach.Reach.TheVariants.{Stated}
use Rattle.ssr_searching.specs.declared.searching.Kinds.{Kinds}
use Rattle.ssr_searching.specs.declared.searching.Kinds.TheVariants as kinds
use Rattle.ssr_searching.specs.declared.searching.SearchError.{SearchError}
use Rattle.ssr_searching.specs.declared.searching.SearchError.TheVariants as errors
use Rattle.ssr_searching.specs.Searching.{Reading}

-- the error of a finder or of a rule, as the reason why a search comes to nothing
abbrev pub search_error : SsrError → SearchError
search_error (ssr.Message message) = errors.Refused message
search_error ssr.Memory = errors.Memory

-- how the text of a rule is read, of which these kinds are searched
abbrev pub reading_of : Kinds → Reading
reading_of kinds.Each = rule_reading
reading_of (kinds.Once reach) = once_reading_of reach

-- the reach that it is read in
abbrev pub reach_of : Kinds → Reach
reach_of kinds.Each = Stated
reach_of (kinds.Once reach) = reach
