-- A used path is no placeholder that stands alone: arguments of a segment begin with a token that is no identifier.
use Rattle.std.proofs.Common.{◌≡◌, ℕ, Bool, true, false, not, ◌||◌, List, [], ◌∷◌, ◌++◌, Option, Some, None, refl, sym, ap, ◌∙◌, append-nil, inl, inr}
use Rattle.std.specs.Prelude.{if◌then◌else◌}
use Rattle.std.specs.List.{list_any}
use Rattle.std.specs.Option.{option_and_then}
use Rattle.std.proofs.lemmas.Bool.{and_parts, both_ways, cases_Bool, false≢true, not-true, or_parts}
use Rattle.std.proofs.lemmas.Option.{none-some, same_Some}
use Rattle.ssr_syntax_kinds.specs.declared.kinds.SyntaxKind.TheVariants as k
use Rattle.ssr_syntax_kinds.specs.Kinds.{same_kind, is_ident}
use Rattle.ssr_syntax_tree.specs.ClearPaths.{are_token_trees, begin_with_sign, HaveClearPaths}
use Rattle.ssr_syntax_tree.specs.Places.{Node}
use Rattle.ssr_syntax_tree.specs.Syntax.{Token, Forest, nothing, leaf, branch, tokens_in}
use Rattle.ssr_base_trees.specs.declared.ids.ScopeId.{ScopeId}
use Rattle.ssr_base_trees.specs.declared.semantics.Res.{Res}
use Rattle.ssr_base_trees.specs.Meanings.{Meanings}
use Rattle.ide_ssr_resolved_rule.specs.Paths.{is_arguments, before_arguments, qualifying, without_arguments}
use Rattle.ide_ssr_resolved_rule.specs.Placeholders.{only_token, placeholder_at}
use Rattle.ide_ssr_resolved_rule.specs.StandIns.{name_at, is_stand_in}
use Rattle.ide_ssr_resolved_rule.proofs.Shared.{only_one}
use Rattle.ide_ssr_resolving.specs.Used.{has_generics, holds_stand_in, names_placeholder, use_of}
use Rattle.ide_ssr_resolving.proofs.InArguments.{names_none}
use Rattle.ide_ssr_resolving.proofs.UsedNodes.{use_whole}

-- ** A token that stands alone in a path.

module _ (token : Token) (ident : is_ident token.kind ≡ true) where
  -- arguments are no single identifier
  no_sign : (arguments : Forest) → begin_with_sign arguments ≡ true → only_token arguments ≡ Some token → ⊥
  no_sign nothing sign alone = none-some token alone
  no_sign (leaf t nothing) sign alone =
      both_ways (is_ident t.kind) (not-true (is_ident t.kind) sign) (ap (λ (t : Token). is_ident t.kind) (same_Some t token alone) ∙ ident)
  no_sign (leaf t (leaf u next)) sign alone = none-some token alone
  no_sign (leaf t (branch kind below next)) sign alone = none-some token alone
  no_sign (branch kind below next) sign alone = false≢true sign

  in_node : (below : Forest) → only_token below ≡ Some token → tokens_in below ++ [] ≡ token ∷ []
  in_node below alone = append-nil (tokens_in below) ∙ only_one below token alone

  -- it is the name of the segment, and no argument
  in_segment : (segment : Forest) → HaveClearPaths segment → only_token segment ≡ Some token → tokens_in (before_arguments segment) ≡ token ∷ []
  in_segment nothing clear alone = absurd (none-some token alone)
  in_segment (leaf t nothing) clear alone = ap (λ (t : Token). t ∷ []) (same_Some t token alone)
  in_segment (leaf t (leaf u next)) clear alone = absurd (none-some token alone)
  in_segment (leaf t (branch kind below next)) clear alone = absurd (none-some token alone)
  in_segment (branch kind below nothing) clear alone = by (is_arguments kind) (and_parts (not (same_kind kind k.TOKEN_TREE) || are_token_trees below) (not (is_arguments kind) || begin_with_sign below) clear.0).1
    where
      by : (b : Bool) → (not b || begin_with_sign below) ≡ true → tokens_in (if b then nothing else branch kind below nothing) ≡ token ∷ []
      by true sign = absurd (no_sign below sign alone)
      by false sign = in_node below alone
  in_segment (branch kind below (leaf u next)) clear alone = absurd (none-some token alone)
  in_segment (branch kind below (branch other more next)) clear alone = absurd (none-some token alone)

  in_path : (path : Forest) → HaveClearPaths path → only_token path ≡ Some token → tokens_in (without_arguments path) ≡ token ∷ []
  in_path nothing clear alone = absurd (none-some token alone)
  in_path (leaf t nothing) clear alone = ap (λ (t : Token). t ∷ []) (same_Some t token alone)
  in_path (leaf t (leaf u next)) clear alone = absurd (none-some token alone)
  in_path (leaf t (branch kind below next)) clear alone = absurd (none-some token alone)
  in_path (branch kind below nothing) clear alone = by (same_kind kind k.PATH_SEGMENT)
    where
      by : (b : Bool) → tokens_in (if b then branch kind (before_arguments below) nothing else branch kind below nothing) ≡ token ∷ []
      by true = append-nil (tokens_in (before_arguments below)) ∙ in_segment below clear.1 alone
      by false = in_node below alone
  in_path (branch kind below (leaf u next)) clear alone = absurd (none-some token alone)
  in_path (branch kind below (branch other more next)) clear alone = absurd (none-some token alone)

-- ** Used paths.

module _ (m : Meanings) (scope : ScopeId) (names : List (List ℕ)) where
  named : (token : Token) (i : ℕ) → name_at names token ≡ Some i → names_placeholder names token ≡ true
  named token i is =
      elim (cases_Bool (names_placeholder names token)) [
        | inl passes ↦ passes
        | inr fails ↦ absurd (none-some i (sym (names_none names token fails) ∙ is))
      ]

  none_held : (node : Node) (r : Res) → use_of m scope names node ≡ Some r → list_any (names_placeholder names) (tokens_in (without_arguments node.children)) ≡ false
  unfolding holds_stand_in
  none_held node r is =
      not-true (holds_stand_in names node.children)
      (and_parts (not (list_any has_generics (qualifying node.children))) (not (holds_stand_in names node.children)) (use_whole m scope names node r is)).1

  pub not_alone : (node : Node) (r : Res) (i : ℕ) → HaveClearPaths node.children → use_of m scope names node ≡ Some r → placeholder_at names node ≡ Some i → ⊥
  unfolding placeholder_at
  not_alone node r i clear uses is = by (only_token node.children) refl is
    where
      by : (o : Option Token) → only_token node.children ≡ o → option_and_then (name_at names) o ≡ Some i → ⊥
      by None none is = none-some i is
      by (Some token) alone is =
          let passes = names_placeholder names token in
          let held = named token i is in
          let ident = (and_parts (is_ident token.kind) (is_stand_in names token.text) held).0 in
          let none : list_any (names_placeholder names) (token ∷ []) ≡ false =
          ap (list_any (names_placeholder names)) (sym (in_path token ident node.children clear alone)) ∙ none_held node r uses in
          both_ways passes (or_parts passes false none).0 held
