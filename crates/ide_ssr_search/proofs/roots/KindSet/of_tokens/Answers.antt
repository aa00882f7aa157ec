use Rattle.std.proofs.Common.{◌≡◌, sym, inl, inr, arith, ap, ◌∙◌}
use Rattle.std.proofs.lemmas.Bool.{cases_lt}
use Rattle.ssr_syntax_tree.specs.Places.{token_of}
use Rattle.ide_ssr_search.specs.Private.Roots.{has_kind}
use Rattle.ide_ssr_search.proofs.roots.KindSet.of_tokens.Goals as goal

pub loop-token-preserved : goal.loop-token-preserved
loop-token-preserved c = λ t less.
    let tree = c.args.tree.now in
    let new = c.add.new.self in
    elim (cases_lt t c.loop-token.token) [
      | inl early ↦ c.add.ensures.kept (token_of tree t).kind (c.loop-token.invariant t early)
      | inr late ↦
          let same : t ≡ c.loop-token.token = omega arith in
          ap (λ t. has_kind new (token_of tree t).kind) same ∙ ap (has_kind new) (sym c.token_kind.ensures) ∙ c.add.ensures.added
    ]

pub returns : goal.returns
returns c = λ t has. c.loop-token.invariant t (omega arith)
