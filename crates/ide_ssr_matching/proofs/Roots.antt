-- What is answered of the root of a pattern.
use Rattle.std.proofs.Common.{◌≡◌, Bool, true, false, [], Some, None, refl, sym, ◌∙◌, ap, subst}
use Rattle.std.specs.Prelude.{is_some}
use Rattle.ssr_syntax_tree.specs.Syntax.{Syntax}
use Rattle.ssr_syntax_tree.specs.Places.{Node, node_of, root_of}
use Rattle.ide_ssr_token_trees.specs.Bindings.{Answers, matched, other}
use Rattle.ide_ssr_token_trees.specs.Recording.{Recorded, recorded}
use Rattle.ide_ssr_matching.specs.Bindings.{Binder}

node_of-root : (syntax : Syntax) → node_of syntax 0 ≡ root_of syntax
unfolding node_of
node_of-root syntax = refl

module _ (inner : Binder) (pattern : Syntax) (c : Node) (old new : Recorded) (b : Bool)
    (answers : Answers (inner (node_of pattern 0) c) old new b) where
  -- what is answered of the first node is answered of the root
  at_root : Answers (inner (root_of pattern) c) old new b
  at_root = subst (λ p. Answers (inner p c) old new b) (node_of-root pattern) answers

  pub root-accepted : b ≡ is_some (inner (root_of pattern) c)
  root-accepted = by at_root where
    by : Answers (inner (root_of pattern) c) old new b → b ≡ is_some (inner (root_of pattern) c)
    by (matched bs is found new_is) = is ∙ sym (ap is_some found)
    by (other is none) = is ∙ sym (ap is_some none)

  pub root-bound : old ≡ Some [] → b ≡ true → new ≡ inner (root_of pattern) c
  root-bound none holds = by at_root where
    by : Answers (inner (root_of pattern) c) old new b → new ≡ inner (root_of pattern) c
    by (matched bs is found new_is) = new_is ∙ ap (λ old. recorded old bs) none ∙ sym found
    by (other is lacks) = let e : true ≡ false = sym holds ∙ is in cc

  pub root-differs : b ≡ false → None ≡ inner (root_of pattern) c
  root-differs fails = by at_root where
    by : Answers (inner (root_of pattern) c) old new b → None ≡ inner (root_of pattern) c
    by (matched bs is found new_is) = let e : true ≡ false = sym is ∙ fails in cc
    by (other is lacks) = sym lacks
