use Rattle.std.specs.Prelude.{Vec}
use Rattle.std.specs.Global.{Global}
use Rattle.ssr_base_trees.specs.Workspace.{trees}
use Rattle.ide_ssr_bindings.specs.Found.{FoundMatch, AreMatches}
use Rattle.ide_ssr_nesting.specs.Kept.{AreEnough}
use Rattle.ide_ssr_search.specs.Found.{IsFound}
use Rattle.ide_ssr_search.proofs.Shared.{are_matches_of}
use Rattle.ide_ssr_leading.specs.Found.{IsLedFound}
use Rattle.ide_ssr_leading.proofs.NothingMissed.{same_found}
use Rattle.ide_ssr_leading.proofs.Together.{if_ok}
use Rattle.ide_ssr_leading.proofs.find.find_led.Goals as goal

pub returns-clause-found : goal.returns-clause-found
returns-clause-found g c =
    let w = c.args.workspace.now in
    let m = g.S.Semantics.meanings c.args.semantics.now in
    let context = c.args.context.now in
    let rules = c.args.rules.now in
    let same = λ (f : FoundMatch). same_found w m context rules f c.are_named.ensures.named (g.met.S.Semantics.complete c.args.semantics.now) c.requires.known in
    if_ok (λ (all : Vec FoundMatch Global). AreEnough (trees w) (IsLedFound w m context rules) all.items) (λ (all : Vec FoundMatch Global). AreEnough (trees w) (IsFound w m context rules) all.items)
    (λ all known. record { found = λ f had. (same f).1 (known.found f had); enough = λ f is. known.enough f ((same f).0 is) })
    c.find_all.result c.find_all.ensures.led

pub returns-clause-matches : goal.returns-clause-matches
returns-clause-matches g c =
    let w = c.args.workspace.now in
    let m = g.S.Semantics.meanings c.args.semantics.now in
    let context = c.args.context.now in
    let rules = c.args.rules.now in
    let same = λ (f : FoundMatch). same_found w m context rules f c.are_named.ensures.named (g.met.S.Semantics.complete c.args.semantics.now) c.requires.known in
    if_ok (λ (all : Vec FoundMatch Global). AreEnough (trees w) (IsLedFound w m context rules) all.items) (λ (all : Vec FoundMatch Global). AreMatches (trees w) all.items)
    (λ all known. are_matches_of w m context rules all.items (λ f had. (same f).1 (known.found f had)))
    c.find_all.result c.find_all.ensures.led

pub returns-clause-count : goal.returns-clause-count
returns-clause-count g c = c.find_all.ensures.count

pub returns-clause-tried : goal.returns-clause-tried
returns-clause-tried g c = c.find_all.ensures.tried
