-- When a node of code matches a pattern, and what its placeholders hold then.
use Rattle.std.specs.Prelude.{ℕ, ◌≡◌, Bool, true, false, List, [], ◌∷◌, ◌++◌, Some, None, map}
use Rattle.ssr_syntax_kinds.specs.declared.kinds.SyntaxKind.TheVariants as k
use Rattle.ssr_syntax_tree.specs.Syntax.{Token}
use Rattle.ssr_syntax_tree.specs.Places.{Node, Part, token_part, node_part, parts_of}
use Rattle.ssr_base_trees.specs.declared.semantics.Res.{Res}
use Rattle.ssr_base_trees.specs.Meanings.{Meanings}
use Rattle.ide_ssr_resolved_rule.specs.declared.qualified_calls.QualifiedCall.{QualifiedCall}
use Rattle.ide_ssr_resolved_rule.specs.Placeholders.{placeholder_at}
use Rattle.ide_ssr_resolved_rule.specs.Resolved.{ResolvedRule, meets}
use Rattle.ide_ssr_bindings.specs.declared.bindings.Binding.{Binding}
use Rattle.ide_ssr_bindings.specs.Found.{node_binding}
use Rattle.ide_ssr_matching.specs.Children.{bare}
use Rattle.ide_ssr_matching.specs.UsedPaths.{arguments_of, pattern_res, code_res}
use Rattle.ide_ssr_matching.specs.Sides.{Sides, kept}
use Rattle.ide_ssr_token_trees.specs.TokenTrees.{TreesMatch}
use Rattle.ide_ssr_matching.specs.TokenTrees.{is_token_tree, token_placeholder, is_by_parts}
use Rattle.ide_ssr_matching.specs.Calls.{call_of, meets_method, method_sides, can_be_call, child_nodes}
use Rattle.ide_ssr_matching.specs.Records.{is_named, named_nodes}

-- A placeholder of the pattern matches each node that meets its constraints, and binds it. A token tree matches token trees by
-- their tokens. A qualified call matches the method calls of the same function on a receiver that can be its first argument, where
-- their parts pair with its own, one by one. A used path matches the paths that stand for the same thing and whose arguments
-- pair with its own, one by one; what else they are spelled with doesn't count. Lists of record fields with names pair by the
-- names. Any other node of the pattern matches the nodes of its kind whose bare children pair with its own, one by one; a
-- qualified call with a qualifier type only those calls whose first argument, if there is one, is of that type, maybe after
-- dereferences.
-- Where names are not asked, each two paths are taken to stand for the same thing.
mutual
  pub data Relates (names : Bool) (m : Meanings) (tree : ℕ) (rule : ResolvedRule) : Node → Node → List Binding → Type 0 where
    bound : (p c : Node) (i : ℕ) → placeholder_at rule.names p ≡ Some i → meets rule i c.kind ≡ true
        → Relates names m tree rule p c (node_binding i c.number ∷ [])
    token_trees : (p c : Node) (bs : List Binding) → placeholder_at rule.names p ≡ None → is_token_tree p ≡ true → is_token_tree c ≡ true
        → TreesMatch (token_placeholder rule) p c bs → Relates names m tree rule p c bs
    method : (p c : Node) (call : QualifiedCall) (sides : Sides) (bs : List Binding) → is_by_parts rule p ≡ true
        → call_of rule p ≡ Some call → c.kind ≡ k.METHOD_CALL_EXPR → method_sides m tree rule call p c ≡ Some sides
        → PairsRelate names m tree rule sides.pattern sides.code bs → Relates names m tree rule p c (kept sides.receiver bs)
    used : (p c : Node) (r : Res) (bs : List Binding) → is_by_parts rule p ≡ true → meets_method rule p c ≡ false
        → p.kind ≡ c.kind → pattern_res rule p ≡ Some r → (names ≡ true → code_res m tree c ≡ Some r)
        → PairsRelate names m tree rule (bare (arguments_of p)) (bare (arguments_of c)) bs → Relates names m tree rule p c bs
    named : (p c : Node) (nodes : List Node) (bs : List Binding) → is_by_parts rule p ≡ true → meets_method rule p c ≡ false
        → p.kind ≡ c.kind → pattern_res rule p ≡ None → can_be_call m tree (call_of rule p) c ≡ true → is_named rule p c ≡ true
        → named_nodes p c ≡ Some nodes
        → PairsRelate names m tree rule (map node_part (child_nodes p)) (map node_part nodes) bs → Relates names m tree rule p c bs
    alike : (p c : Node) (bs : List Binding) → is_by_parts rule p ≡ true → meets_method rule p c ≡ false
        → p.kind ≡ c.kind → pattern_res rule p ≡ None → can_be_call m tree (call_of rule p) c ≡ true → is_named rule p c ≡ false
        → PairsRelate names m tree rule (bare (parts_of p)) (bare (parts_of c)) bs → Relates names m tree rule p c bs

  pub data PairsRelate (names : Bool) (m : Meanings) (tree : ℕ) (rule : ResolvedRule) : List Part → List Part → List Binding → Type 0 where
    end : PairsRelate names m tree rule [] [] []
    tokens : (t u : ℕ) (p c : Token) (ps cs : List Part) (bs : List Binding) → p.kind ≡ c.kind → p.text ≡ c.text
        → PairsRelate names m tree rule ps cs bs → PairsRelate names m tree rule (token_part t p ∷ ps) (token_part u c ∷ cs) bs
    nodes : (p c : Node) (ps cs : List Part) (bs rest : List Binding) → Relates names m tree rule p c bs
        → PairsRelate names m tree rule ps cs rest → PairsRelate names m tree rule (node_part p ∷ ps) (node_part c ∷ cs) (bs ++ rest)

-- a node of code matches one of a pattern
abbrev pub Matches : Meanings → ℕ → ResolvedRule → Node → Node → List Binding → Type 0
Matches m tree rule p c bs = Relates true m tree rule p c bs

-- parts of it match parts of the pattern, one by one
abbrev pub Pairs : Meanings → ℕ → ResolvedRule → List Part → List Part → List Binding → Type 0
Pairs m tree rule ps cs bs = PairsRelate true m tree rule ps cs bs

-- What the first phase accepts: a node that matches, each two paths taken to stand for the same thing.
abbrev pub HasShape : Meanings → ℕ → ResolvedRule → Node → Node → Type 0
HasShape m tree rule p c = (bs : List Binding) × Relates false m tree rule p c bs
