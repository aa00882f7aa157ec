use Rattle.std.proofs.Common.{◌≡◌, ◌∙◌, ℕ, ap, sym}
use Rattle.ssr_syntax_tree.specs.Syntax.{Syntax}
use Rattle.ssr_syntax_tree.specs.Places.{node_of}
use Rattle.ssr_standing.specs.Private.Outlines.{places_of}
use Rattle.ssr_standing.proofs.ClearRuns.{runs_alike}
use Rattle.ssr_standing.proofs.outlines.are_same_runs.Goals as goal

pub returns : goal.returns
returns c = λ told.
    let one = c.args.one.now in
    let two = c.args.two.now in
    let first : (tree : Syntax) (n : ℕ) → tree ≡ one.tree.now → n ≡ one.node → node_of tree n ≡ node_of one.tree.now one.node =
    λ tree n is at. ap (λ (s : Syntax). node_of s n) is ∙ ap (node_of one.tree.now) at in
    let second : (tree : Syntax) (n : ℕ) → tree ≡ two.tree.now → n ≡ two.node → node_of tree n ≡ node_of two.tree.now two.node =
    λ tree n is at. ap (λ (s : Syntax). node_of s n) is ∙ ap (node_of two.tree.now) at in
    let a = first c.run.result.tree.now c.run.result.node.0 c.run.ensures.tree c.run.ensures.node in
    let b = second c.run-2.result.tree.now c.run-2.result.node.0 c.run-2.ensures.tree c.run-2.ensures.node in
    runs_alike (places_of one) (places_of two) one.tree.now two.tree.now one.node two.node c.requires.one.has c.requires.two.has
    (sym c.is_clear.ensures ∙ cc) (sym c.is_clear-2.ensures ∙ cc)
    (sym (ap (λ n. n.kind) a) ∙ c.are_same.ensures.kind told ∙ ap (λ n. n.kind) b)
    (sym (ap (λ n. n.children) a) ∙ c.are_same.ensures.children told ∙ ap (λ n. n.children) b)
