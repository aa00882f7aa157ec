-- Parts of paths: what their definitions say, one case after the other.
use Rattle.std.proofs.Common.{◌≡◌, ℕ, List, [], ◌++◌, Option, Some, None, ap, ◌∙◌}
use Rattle.std.specs.Option.{option_map, option_map_or, option_and_then, option_or}
use Rattle.ssr_base_trees.specs.declared.ids.DefId.{DefId}
use Rattle.ssr_base_trees.specs.declared.ids.ScopeId.{ScopeId}
use Rattle.ssr_base_trees.specs.declared.semantics.Res.{Res}
use Rattle.ssr_base_trees.specs.declared.semantics.Res.TheVariants as res
use Rattle.ssr_base_trees.specs.Meanings.{Meanings}
use Rattle.ssr_syntax_kinds.specs.declared.kinds.SyntaxKind.TheVariants as k
use Rattle.ssr_syntax_tree.specs.Syntax.{Forest, spelled, tokens_in}
use Rattle.ide_ssr_resolved_rule.specs.Paths.{below_first, segments, qualifier, last_segment, qualifying, last_name}
use Rattle.ide_ssr_resolving.specs.Resolving.{adt_of, told, told_member, resolution}

module _ (path : Forest) where
  pub none_qualify : None ≡ qualifier path → [] ≡ qualifying path
  unfolding qualifying
  none_qualify none = ap (λ front. option_map_or segments front []) none

  pub these_qualify : (front : Forest) (found old : List Forest) → Some front ≡ qualifier path → old ≡ [] → found ≡ old ++ segments front → found ≡ qualifying path
  unfolding qualifying
  these_qualify front found old is none added =
      added ∙ ap (λ old. old ++ segments front) none ∙ ap (λ front. option_map_or segments front []) is

  pub no_segment : None ≡ last_segment path → None ≡ last_name path
  unfolding last_name
  no_segment none = ap (λ last. option_map (λ name. spelled (tokens_in name)) (option_and_then (below_first k.NAME_REF) last)) none

  pub no_name : (segment : Forest) → Some segment ≡ last_segment path → None ≡ below_first k.NAME_REF segment → None ≡ last_name path
  unfolding last_name
  no_name segment is none =
      ap (option_map (λ name. spelled (tokens_in name))) none
      ∙ ap (λ last. option_map (λ name. spelled (tokens_in name)) (option_and_then (below_first k.NAME_REF) last)) is

  pub name_is : (segment name : Forest) (text : List ℕ) → Some segment ≡ last_segment path → Some name ≡ below_first k.NAME_REF segment
      → text ≡ spelled (tokens_in name) → Some text ≡ last_name path
  unfolding last_name
  name_is segment name text is named spells =
      ap Some spells ∙ ap (option_map (λ name. spelled (tokens_in name))) named
      ∙ ap (λ last. option_map (λ name. spelled (tokens_in name)) (option_and_then (below_first k.NAME_REF) last)) is

module _ (m : Meanings) (scope : ScopeId) (path : Forest) where
  abbrev type_of : Option DefId
  type_of = option_and_then (adt_of m) (option_and_then (told m scope) (qualifier path))

  pub qualifier_told : (front : Forest) (res : Res) (adt : Option DefId) → Some front ≡ qualifier path → Some res ≡ told m scope front → adt ≡ adt_of m res → adt ≡ type_of
  qualifier_told front res adt is tells type =
      type ∙ ap (option_and_then (adt_of m)) tells ∙ ap (λ front. option_and_then (adt_of m) (option_and_then (told m scope) front)) is

  abbrev member_at : Option DefId → Option Res
  member_at adt = option_and_then (λ adt. option_and_then (λ name. option_map res.Def (m.member scope adt name)) (last_name path)) adt

  pub no_type : None ≡ type_of → None ≡ told_member m scope path
  unfolding told_member
  no_type none = ap member_at none

  pub no_member_name : (adt : DefId) → Some adt ≡ type_of → None ≡ last_name path → None ≡ told_member m scope path
  unfolding told_member
  no_member_name adt is none =
      ap (option_and_then (λ name. option_map res.Def (m.member scope adt name))) none ∙ ap member_at is

  pub member_is : (adt : DefId) (name : List ℕ) (member : Option DefId) → Some adt ≡ type_of → Some name ≡ last_name path → member ≡ m.member scope adt name
      → option_map res.Def member ≡ told_member m scope path
  unfolding told_member
  member_is adt name member is named tells =
      ap (option_map res.Def) tells
      ∙ ap (option_and_then (λ name. option_map res.Def (m.member scope adt name))) named ∙ ap member_at is

  pub resolves : (res : Res) → Some res ≡ told m scope path → Some res ≡ resolution m scope path
  unfolding resolution
  resolves res is = ap (λ first. option_or first (told_member m scope path)) is

  pub resolves_member : (member : Option Res) → None ≡ told m scope path → member ≡ told_member m scope path → member ≡ resolution m scope path
  unfolding resolution
  resolves_member member none is = is ∙ ap (λ first. option_or first (told_member m scope path)) none
