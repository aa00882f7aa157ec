use Rattle.std.proofs.Common.{◌≡◌, [], subst}
use Rattle.ssr_names.specs.declared.definitions.Definition.TheVariants as def
use Rattle.ssr_names.specs.Lookup.{PathStandsFor, path_alone}
use Rattle.ssr_names.specs.Private.Answered.{place_of}
use Rattle.ssr_names.proofs.space.Space.base_meaning.Goals as goal

pub returns-in-Some : goal.returns-in-Some
returns-in-Some c = λ d is.
    let same : def.Module c.in-Some.base ≡ d = cc in
    subst (PathStandsFor c.args.self.now (place_of c.args.path) c.args.path.namespace []) same (path_alone c.args.path.namespace c.in-Some.base c.in-Some.ensures)
