-- What making a finder answers.
use Rattle.std.specs.Prelude.{◌≡◌, ◌≢◌, [], Result, Ok, Err, string_bytes}
use Rattle.ssr_base_trees.specs.Workspace.{Workspace}
use Rattle.ide_ssr_refusals.specs.declared.error.SsrError.{SsrError}
use Rattle.ide_ssr_refusals.specs.declared.error.SsrError.TheVariants as errors
use Rattle.ide_ssr_search.specs.declared.context_error.ContextError.{ContextError}
use Rattle.ide_ssr_search.specs.declared.context_error.ContextError.TheVariants as refusals
use Rattle.ide_ssr_search.specs.Context.{Context}
use Rattle.ide_ssr_search.specs.Making.{error_words}
use Rattle.ide_ssr.specs.Finder.{FinderWith}

-- an error tells a refusal in its words; want of memory tells nothing
abbrev pub TellsRefusal : SsrError → ContextError → Type 0
TellsRefusal errors.Memory refusal = Unit {0}
TellsRefusal (errors.Message message) refusal = (refusal ≢ refusals.Memory) × (string_bytes message ≡ error_words refusal)

-- the finder has this provider, what the search is made for, and no rules yet; or the refusal is told. `IsMade` says what that
-- is.
abbrev pub MakesFinder : {S : Type 0} → Workspace → S → (Result Context ContextError → Type 0) → Result (FinderWith S) SsrError → Type 0
MakesFinder w semantics IsMade (Ok finder) =
    (context : Context) × IsMade (Ok context)
    × (finder ≡ record { workspace = w; semantics = semantics; context = context; rules = [] })
MakesFinder w semantics IsMade (Err error) = (refusal : ContextError) × IsMade (Err refusal) × TellsRefusal error refusal
