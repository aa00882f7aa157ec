-- A used path has what placeholders it has in its arguments.
use Rattle.std.proofs.Common.{◌≡◌, ℕ, ◌+◌, Bool, true, false, ◌&&◌, not, List, [], ◌∷◌, ◌++◌, Option, Some, None, Ok, refl, sym, ◌∙◌, ap, append-nil}
use Rattle.std.specs.Prelude.{if◌then◌else◌}
use Rattle.std.specs.List.{cons_option, list_any, position_from}
use Rattle.std.specs.Str.{bytes_eq}
use Rattle.std.specs.Option.{option_and_then, option_map_or}
use Rattle.std.proofs.lemmas.Bool.{and_parts, not-true, or_parts}
use Rattle.std.proofs.lemmas.List.Elements.{All-weaker}
use Rattle.std.proofs.lemmas.List.Folds.{list_any-append}
use Rattle.ssr_syntax_kinds.specs.declared.kinds.SyntaxKind.{SyntaxKind}
use Rattle.ssr_syntax_kinds.specs.Kinds.{same_kind, is_ident}
use Rattle.ssr_syntax_kinds.proofs.Shared.{same_kind-equal}
use Rattle.ssr_syntax_kinds.specs.declared.kinds.SyntaxKind.TheVariants as k
use Rattle.ssr_syntax_tree.specs.Places.{node_of}
use Rattle.ssr_syntax_tree.specs.Syntax.{Token, Forest, nothing, leaf, branch, Syntax, tokens_in}
use Rattle.ssr_base_trees.specs.declared.ids.ScopeId.{ScopeId}
use Rattle.ssr_base_trees.specs.Meanings.{Meanings}
use Rattle.ide_ssr_resolved_rule.specs.Patterns.{placeholders_among, or_below, placeholders_in, placeholders_mixed, placeholders_below, HasThemInArguments, AreInArguments}
use Rattle.ide_ssr_resolved_rule.specs.StandIns.{name_at, is_stand_in, stand_in_of}
use Rattle.ide_ssr_resolved_rule.specs.declared.used_paths.UsedPath.{UsedPath}
use Rattle.ide_ssr_resolved_rule.specs.Paths.{below_first, qualifying, is_arguments, before_arguments, from_arguments, without_arguments}
use Rattle.ide_ssr_resolved_rule.specs.Placeholders.{only_token}
use Rattle.ide_ssr_resolving.specs.Used.{names_placeholder, holds_stand_in, has_generics, is_whole, used_paths}
use Rattle.ide_ssr_resolved_rule.proofs.Shared.{only_one}
use Rattle.ide_ssr_resolving.proofs.UsedNodes.{IsUsed, all_used, use_whole}

no_position : (passes : List ℕ → Bool) (i : ℕ) (xs : List (List ℕ)) → list_any passes xs ≡ false → position_from passes i xs ≡ None
no_position passes i [] none = refl
no_position passes i (x ∷ xs) none =
    let both = or_parts (passes x) (list_any passes xs) none in
    ap (λ b. if b then Some i else position_from passes (i + 1) xs) both.0 ∙ no_position passes (i + 1) xs both.1

module _ (names : List (List ℕ)) where
  -- no token is a stand-in
  abbrev HasNone : Forest → Type 0
  HasNone forest = list_any (names_placeholder names) (tokens_in forest) ≡ false

  pub names_none : (token : Token) → names_placeholder names token ≡ false → name_at names token ≡ None
  unfolding name_at
  names_none token none = by (is_ident token.kind) none
    where
      by : (b : Bool) → (b && is_stand_in names token.text) ≡ false
          → (if b then position_from (λ name. bytes_eq token.text (stand_in_of name)) 0 names else None) ≡ None
      by true none = no_position (λ name. bytes_eq token.text (stand_in_of name)) 0 names none
      by false none = refl

  is_none : (below : Forest) → HasNone below → option_and_then (name_at names) (only_token below) ≡ None
  is_none below none = by (only_token below) refl
    where
      by : (o : Option Token) → only_token below ≡ o → option_and_then (name_at names) o ≡ None
      by None is = refl
      by (Some token) is =
          names_none token
          (or_parts (names_placeholder names token) false (ap (list_any (names_placeholder names)) (sym (only_one below token is)) ∙ none)).0

  parted : (kind_below next : List Token) → list_any (names_placeholder names) (kind_below ++ next) ≡ false
      → (list_any (names_placeholder names) kind_below ≡ false) × (list_any (names_placeholder names) next ≡ false)
  parted inside next none =
      or_parts (list_any (names_placeholder names) inside) (list_any (names_placeholder names) next)
      (sym (list_any-append (names_placeholder names) inside next) ∙ none)

  none_among : (tokens : List Token) → list_any (names_placeholder names) tokens ≡ false → placeholders_among names tokens ≡ []
  none_among [] none = refl
  none_among (token ∷ tokens) none =
      let both = or_parts (names_placeholder names token) (list_any (names_placeholder names) tokens) none in
      ap (λ o. cons_option o (placeholders_among names tokens)) (names_none token both.0) ∙ none_among tokens both.1

  abbrev at_node : SyntaxKind → Forest → List ℕ
  at_node kind below = or_below (option_and_then (name_at names) (only_token below)) (placeholders_below names kind below)

  node_none : (kind : SyntaxKind) (below : Forest) → HasNone below → placeholders_in names below ≡ [] → placeholders_mixed names below ≡ [] → at_node kind below ≡ []
  node_none kind below none nodes mixed =
      ap (λ o. or_below o (placeholders_below names kind below)) (is_none below none) ∙ by (same_kind kind k.TOKEN_TREE) (same_kind kind k.MACRO_RULES)
    where
      by : (tree rules : Bool)
          → (if tree then placeholders_among names (tokens_in below) else if rules then placeholders_mixed names below else placeholders_in names below) ≡ []
      by true rules = none_among (tokens_in below) none
      by false true = mixed
      by false false = nodes

  mutual
    none_in : (forest : Forest) → HasNone forest → placeholders_in names forest ≡ []
    none_in nothing none = refl
    none_in (leaf token next) none =
        none_in next (or_parts (names_placeholder names token) (list_any (names_placeholder names) (tokens_in next)) none).1
    none_in (branch kind below next) none =
        let both = parted (tokens_in below) (tokens_in next) none in
        ap (λ is. is ++ placeholders_in names next) (node_none kind below both.0 (none_in below both.0) (none_mixed below both.0)) ∙ none_in next both.1

    none_mixed : (forest : Forest) → HasNone forest → placeholders_mixed names forest ≡ []
    none_mixed nothing none = refl
    none_mixed (leaf token next) none =
        let both = or_parts (names_placeholder names token) (list_any (names_placeholder names) (tokens_in next)) none in
        ap (λ o. cons_option o (placeholders_mixed names next)) (names_none token both.0) ∙ none_mixed next both.1
    none_mixed (branch kind below next) none =
        let both = parted (tokens_in below) (tokens_in next) none in
        ap (λ is. is ++ placeholders_mixed names next) (node_none kind below both.0 (none_in below both.0) (none_mixed below both.0)) ∙ none_mixed next both.1

  none_at : (kind : SyntaxKind) (below : Forest) → HasNone below → at_node kind below ≡ []
  none_at kind below none = node_none kind below none (none_in below none) (none_mixed below none)

  -- ** In a segment.

  below_segment : (below : Forest) → HasNone (before_arguments below) → placeholders_in names below ≡ placeholders_in names (from_arguments below)
  below_segment nothing none = refl
  below_segment (leaf token next) none =
      below_segment next (or_parts (names_placeholder names token) (list_any (names_placeholder names) (tokens_in (before_arguments next))) none).1
  below_segment (branch kind inner next) none = by (is_arguments kind) (below_segment next) none
    where
      by : (b : Bool) → (HasNone (before_arguments next) → placeholders_in names next ≡ placeholders_in names (from_arguments next))
          → HasNone (if b then nothing else branch kind inner (before_arguments next))
          → placeholders_in names (branch kind inner next) ≡ placeholders_in names (if b then branch kind inner next else from_arguments next)
      by true behind none = refl
      by false behind none =
          let both = parted (tokens_in inner) (tokens_in (before_arguments next)) none in
          ap (λ is. is ++ placeholders_in names next) (none_at kind inner both.0) ∙ behind both.1

  -- the segment may be a placeholder as a whole: so is its only child then
  at_segment : (below : Forest) → HasNone (before_arguments below) → at_node k.PATH_SEGMENT below ≡ placeholders_in names (from_arguments below)
  at_segment nothing none = refl
  at_segment (leaf token nothing) none =
      ap (λ o. or_below o []) (names_none token (or_parts (names_placeholder names token) false none).0)
  at_segment (leaf token (leaf u next)) none = below_segment (leaf token (leaf u next)) none
  at_segment (leaf token (branch kind inner next)) none = below_segment (leaf token (branch kind inner next)) none
  at_segment (branch kind inner (leaf u next)) none = below_segment (branch kind inner (leaf u next)) none
  at_segment (branch kind inner (branch other more next)) none = below_segment (branch kind inner (branch other more next)) none
  at_segment (branch kind inner nothing) none = by (is_arguments kind) none
    where
      again : (o : Option ℕ) (is : List ℕ) → or_below o (or_below o is ++ []) ≡ or_below o is ++ []
      again None is = refl
      again (Some i) is = refl

      by : (b : Bool) → HasNone (if b then nothing else branch kind inner nothing)
          → or_below (option_and_then (name_at names) (only_token inner)) (at_node kind inner ++ [])
          ≡ placeholders_in names (if b then branch kind inner nothing else nothing)
      by true none = again (option_and_then (name_at names) (only_token inner)) (placeholders_below names kind inner)
      by false none =
          let both = parted (tokens_in inner) [] none in
          ap (λ o. or_below o (at_node kind inner ++ [])) (is_none inner both.0)
          ∙ ap (λ is. is ++ []) (none_at kind inner both.0)

  -- ** In a path.

  in_arguments : (path : Forest) → HasNone (without_arguments path) → HasThemInArguments names path
  in_arguments nothing none = refl
  in_arguments (leaf token next) none =
      in_arguments next (or_parts (names_placeholder names token) (list_any (names_placeholder names) (tokens_in (without_arguments next))) none).1
  in_arguments (branch kind below next) none = by (same_kind kind k.PATH_SEGMENT) refl (in_arguments next) none
    where
      by : (b : Bool) → same_kind kind k.PATH_SEGMENT ≡ b → (HasNone (without_arguments next) → HasThemInArguments names next)
          → HasNone (if b then branch kind (before_arguments below) next else branch kind below (without_arguments next))
          → placeholders_in names (branch kind below next)
          ≡ placeholders_in names (option_map_or from_arguments (if b then Some below else below_first k.PATH_SEGMENT next) nothing)
      by true segment behind none =
          let both = parted (tokens_in (before_arguments below)) (tokens_in next) none in
          ap (λ is. at_node kind below ++ is) (none_in next both.1)
          ∙ append-nil (at_node kind below)
          ∙ ap (λ kind. at_node kind below) (same_kind-equal kind k.PATH_SEGMENT segment)
          ∙ at_segment below both.0
      by false segment behind none =
          let both = parted (tokens_in below) (tokens_in (without_arguments next)) none in
          ap (λ is. is ++ placeholders_in names next) (none_at kind below both.0) ∙ behind both.1

  whole_in_arguments : (path : Forest) → is_whole names path ≡ true → HasThemInArguments names path
  unfolding holds_stand_in
  whole_in_arguments path whole =
      let held : not (holds_stand_in names path) ≡ true = (and_parts (not (list_any has_generics (qualifying path))) (not (holds_stand_in names path)) whole).1 in
      in_arguments path (not-true (holds_stand_in names path) held)

-- ** The used paths of a tree.

module _ (m : Meanings) (scope : ScopeId) (names : List (List ℕ)) (tree : Syntax) where
  abbrev IsInArguments : UsedPath → Type 0
  IsInArguments path = HasThemInArguments names (node_of tree path.node.0).children

  used_in : (path : UsedPath) → IsUsed m scope names tree path → IsInArguments path
  used_in path known =
      let node = node_of tree path.node.0 in
      whole_in_arguments names node.children (use_whole m scope names node path.res known.is)

  pub are_in_arguments : (paths : List UsedPath) → used_paths m scope names tree ≡ Ok paths → AreInArguments names tree paths
  are_in_arguments paths is = All-weaker (IsUsed m scope names tree) IsInArguments used_in paths (all_used m scope names tree paths is)
