-- What adding a rule does to a finder.
use Rattle.std.specs.Prelude.{◌≡◌, List, ◌++◌, Result, Ok, Err}
use Rattle.ide_ssr_refusals.specs.declared.error.SsrError.{SsrError}
use Rattle.ide_ssr_refusals.specs.declared.refusals.Refusal.{Refusal}
use Rattle.ide_ssr_refusals.specs.Refusals.{TellsOf}
use Rattle.ide_ssr_resolved_rule.specs.Resolved.{ResolvedRule}
use Rattle.ide_ssr.specs.Finder.{FinderWith}

-- the kinds that a rule resolves to are added behind the others; or an error tells why it does not resolve
abbrev pub Adds : {S : Type 0} → FinderWith S → FinderWith S → Result (List ResolvedRule) Refusal → Result (Unit {0}) SsrError → Type 0
Adds old new resolved (Ok done) =
    (kinds : List ResolvedRule) × (resolved ≡ Ok kinds) × (new ≡ record old { rules = old.rules ++ kinds })
Adds old new resolved (Err error) = TellsOf error resolved
