use Rattle.std.proofs.Common.{◌≡◌, ◌<◌, ◌∙◌, sym, arith, rules}
use Rattle.ssr_syntax_tree.specs.Places.{node_of}
use Rattle.ssr_syntax_tree.proofs.Steps.{node_comes, token_comes, none_left}
use Rattle.ssr_syntax_tree.proofs.children.ChildrenIterator.next.Goals.{then-self+else-tokens-self, else-self}
use Rattle.ssr_syntax_tree.proofs.children.ChildrenIterator.next.Goals as goal

pub invariant_of-self : goal.invariant_of-self
invariant_of-self c =
    let comes = node_comes c.self.inside c.nodes_below.result.end c.tokens_below-tokens.result.end c.self.invariant c.if-self.true (sym c.tokens_below-tokens.ensures.start ∙ c.if-tokens-self.true) c.nodes_below.ensures.end c.tokens_below-tokens.ensures.end in
    comes.step

pub returns-then-tokens-self-clause-steps : goal.returns-then-tokens-self-clause-steps
returns-then-tokens-self-clause-steps c =
    let comes = node_comes c.self.inside c.nodes_below.result.end c.tokens_below-tokens.result.end c.self.invariant c.if-self.true (sym c.tokens_below-tokens.ensures.start ∙ c.if-tokens-self.true) c.nodes_below.ensures.end c.tokens_below-tokens.ensures.end in
    sym c.self.view_is ∙ comes.left

pub returns-then-tokens-self-clause-goes : goal.returns-then-tokens-self-clause-goes
returns-then-tokens-self-clause-goes c = rw (returns-then-tokens-self-clause-steps c) (search rules)

pub invariant_of-self-then-self-2 : goal.invariant_of-self-then-self-2
invariant_of-self-then-self-2 c =
    let none : c.self.inside.next_node < c.self.inside.past_node → (node_of c.self.inside.tree.now c.self.inside.next_node).first ≡ c.self.inside.next_token → ⊥ =
    elim c.if-self.branch [
      | then-self+else-tokens-self w ↦ λ some first. w.if-tokens-self.false (w.tokens_below-tokens.ensures.start ∙ first)
      | else-self w ↦ λ some first. absurd (omega arith)
    ] in
    let comes = token_comes c.self.inside c.self.invariant none c.if-self-2.true in
    comes.step

pub returns-then-self-2-clause-steps : goal.returns-then-self-2-clause-steps
returns-then-self-2-clause-steps c =
    let none : c.self.inside.next_node < c.self.inside.past_node → (node_of c.self.inside.tree.now c.self.inside.next_node).first ≡ c.self.inside.next_token → ⊥ =
    elim c.if-self.branch [
      | then-self+else-tokens-self w ↦ λ some first. w.if-tokens-self.false (w.tokens_below-tokens.ensures.start ∙ first)
      | else-self w ↦ λ some first. absurd (omega arith)
    ] in
    let comes = token_comes c.self.inside c.self.invariant none c.if-self-2.true in
    sym c.self.view_is ∙ comes.left

pub returns-then-self-2-clause-goes : goal.returns-then-self-2-clause-goes
returns-then-self-2-clause-goes c = rw (returns-then-self-2-clause-steps c) (search rules)

pub returns-clause-steps : goal.returns-clause-steps
returns-clause-steps c =
    let none : c.self.inside.next_node < c.self.inside.past_node → (node_of c.self.inside.tree.now c.self.inside.next_node).first ≡ c.self.inside.next_token → ⊥ =
    elim c.if-self.branch [
      | then-self+else-tokens-self w ↦ λ some first. w.if-tokens-self.false (w.tokens_below-tokens.ensures.start ∙ first)
      | else-self w ↦ λ some first. absurd (omega arith)
    ] in
    let ended = sym c.self.view_is ∙ none_left c.self.inside c.self.invariant none c.if-self-2.false in
    (ended, ended)
