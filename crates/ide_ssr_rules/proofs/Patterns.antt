-- The placeholders that a pattern has for a match to bind are those of its tokens.
use Rattle.std.proofs.Common.{◌≡◌, ℕ, Bool, true, false, ◌||◌, List, [], ◌++◌, Option, Some, None, refl, sym, ◌∙◌, ap, append-nil}
use Rattle.std.specs.List.{cons_option}
use Rattle.std.specs.Option.{option_and_then}
use Rattle.std.specs.Prelude.{if◌then◌else◌}
use Rattle.std.proofs.lemmas.Bool.{not-true, or_parts}
use Rattle.std.proofs.lemmas.List.Elements.{filter_map-append}
use Rattle.ssr_syntax_kinds.specs.declared.kinds.SyntaxKind.{SyntaxKind}
use Rattle.ssr_syntax_kinds.specs.declared.kinds.SyntaxKind.TheVariants as k
use Rattle.ssr_syntax_kinds.specs.Kinds.{same_kind, is_ident}
use Rattle.ssr_syntax_tree.specs.Syntax.{Token, Forest, nothing, leaf, branch, Syntax, tokens_in, tokens_of}
use Rattle.ssr_syntax.specs.Identifiers.{is_mixing, has_ident, stand_alone, IdentsAlone, IdentsAloneIn}
use Rattle.ide_ssr_resolved_rule.specs.Patterns.{placeholders_among, or_below, placeholders_in, placeholders_mixed, placeholders_below, placeholders_of, HasEachOnce}
use Rattle.ide_ssr_rules.specs.Patterns.{IsReadOnce}
use Rattle.ide_ssr_resolved_rule.specs.StandIns.{name_at}
use Rattle.ide_ssr_resolved_rule.proofs.Shared.{not_named, only_one}
use Rattle.ide_ssr_resolved_rule.specs.Placeholders.{only_token}

-- a node, where those below it are known
node_named : (names : List (List ℕ)) (below : Forest) (inner : List ℕ) → inner ≡ placeholders_among names (tokens_in below)
    → or_below (option_and_then (name_at names) (only_token below)) inner ≡ placeholders_among names (tokens_in below)
node_named names below inner inside = by_only (only_token below) refl where
  by_name : (token : Token) (o : Option ℕ) → only_token below ≡ Some token → name_at names token ≡ o
      → or_below o inner ≡ placeholders_among names (tokens_in below)
  by_name token None is name = inside
  by_name token (Some i) is name =
      sym (ap (placeholders_among names) (only_one below token is) ∙ ap (λ o. cons_option o []) name)

  by_only : (o : Option Token) → only_token below ≡ o
      → or_below (option_and_then (name_at names) o) inner ≡ placeholders_among names (tokens_in below)
  by_only None is = inside
  by_only (Some token) is = by_name token (name_at names token) is refl

none_below : (o : Option ℕ) → or_below o [] ≡ cons_option o []
none_below None = refl
none_below (Some i) = refl

-- a node, whose children stand alone
below_named : (names : List (List ℕ)) (below : Forest)
    → (has_ident below ≡ false → placeholders_in names below ≡ placeholders_among names (tokens_in below)) → stand_alone below ≡ true
    → or_below (option_and_then (name_at names) (only_token below)) (placeholders_in names below) ≡ placeholders_among names (tokens_in below)
below_named names nothing inside alone = refl
below_named names (leaf token nothing) inside alone = none_below (name_at names token)
below_named names (leaf token (leaf u next)) inside alone =
    node_named names (leaf token (leaf u next)) _ (inside (not-true (has_ident (leaf token (leaf u next))) alone))
below_named names (leaf token (branch kind below next)) inside alone =
    node_named names (leaf token (branch kind below next)) _ (inside (not-true (has_ident (leaf token (branch kind below next))) alone))
below_named names (branch kind below next) inside alone =
    node_named names (branch kind below next) _ (inside (not-true (has_ident (branch kind below next)) alone))

-- a node in which they stand alone
alone_below : (names : List (List ℕ)) (kind : SyntaxKind) (below : Forest)
    → (has_ident below ≡ false → placeholders_in names below ≡ placeholders_among names (tokens_in below))
    → placeholders_mixed names below ≡ placeholders_among names (tokens_in below)
    → (is_mixing kind || stand_alone below) ≡ true
    → or_below (option_and_then (name_at names) (only_token below)) (placeholders_below names kind below) ≡ placeholders_among names (tokens_in below)
alone_below names kind below inside mixed alone = by (same_kind kind k.TOKEN_TREE) (same_kind kind k.MACRO_RULES) alone
  where
    by : (tree rules : Bool) → ((tree || (rules || false)) || stand_alone below) ≡ true
        → or_below (option_and_then (name_at names) (only_token below))
        (if tree then placeholders_among names (tokens_in below) else if rules then placeholders_mixed names below else placeholders_in names below)
        ≡ placeholders_among names (tokens_in below)
    by true rules alone = node_named names below _ refl
    by false true alone = node_named names below _ mixed
    by false false alone = below_named names below inside alone

mutual
  tokens_named : (names : List (List ℕ)) (forest : Forest) → IdentsAlone forest → has_ident forest ≡ false
      → placeholders_in names forest ≡ placeholders_among names (tokens_in forest)
  tokens_named names nothing alone none = refl
  tokens_named names (leaf token next) alone none =
      let n = or_parts (is_ident token.kind) (has_ident next) none in
      tokens_named names next alone n.1
      ∙ ap (λ o. cons_option o (placeholders_among names (tokens_in next))) (sym (not_named names token n.0))
  tokens_named names (branch kind below next) alone none =
      ap (λ ps. ps ++ placeholders_in names next)
      (alone_below names kind below (tokens_named names below alone.1) (mixed_named names below alone.1) alone.0)
      ∙ ap (λ ps. placeholders_among names (tokens_in below) ++ ps) (tokens_named names next alone.2 none)
      ∙ sym (filter_map-append (name_at names) (tokens_in below) (tokens_in next))

  mixed_named : (names : List (List ℕ)) (forest : Forest) → IdentsAlone forest → placeholders_mixed names forest ≡ placeholders_among names (tokens_in forest)
  mixed_named names nothing alone = refl
  mixed_named names (leaf token next) alone = ap (cons_option (name_at names token)) (mixed_named names next alone)
  mixed_named names (branch kind below next) alone =
      ap (λ ps. ps ++ placeholders_mixed names next)
      (alone_below names kind below (tokens_named names below alone.1) (mixed_named names below alone.1) alone.0)
      ∙ ap (λ ps. placeholders_among names (tokens_in below) ++ ps) (mixed_named names next alone.2)
      ∙ sym (filter_map-append (name_at names) (tokens_in below) (tokens_in next))

placeholders_named : (names : List (List ℕ)) (tree : Syntax) → IdentsAloneIn tree → placeholders_of names tree ≡ placeholders_among names (tokens_of tree)
placeholders_named names tree alone =
    tokens_named names (branch tree.kind tree.children nothing) alone refl ∙ ap (placeholders_among names) (append-nil (tokens_of tree))

-- so a pattern that is read has each placeholder for a match to bind
pub each_once : (names : List (List ℕ)) (pattern : Syntax) → IsReadOnce names pattern → HasEachOnce names pattern
each_once names pattern is =
    record { each = is.each; bound = placeholders_named names pattern is.alone ∙ is.each; different = is.different }
