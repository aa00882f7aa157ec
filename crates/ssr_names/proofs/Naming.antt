-- Names of paths and of patterns: what their definitions say, one case after the other.
use Rattle.std.proofs.Common.{◌≡◌, ℕ, List, Bool, true, false, ◌&&◌, Option, Some, None, refl, sym, ap}
use Rattle.std.proofs.lemmas.Bool.{cond-false, cond-true}
use Rattle.std.proofs.lemmas.Option.{none-some, same_Some}
use Rattle.std.specs.Option.{option_map, option_map_or, option_and_then}
use Rattle.std.specs.Prelude.{not, if◌then◌else◌}
use Rattle.ssr_syntax_kinds.specs.Kinds.{same_kind}
use Rattle.ssr_syntax_kinds.specs.declared.kinds.SyntaxKind.TheVariants as k
use Rattle.ssr_syntax_tree.specs.Syntax.{Forest, Syntax, spelled, tokens_in}
use Rattle.ssr_syntax_tree.specs.Places.{node_of}
use Rattle.ide_ssr_resolved_rule.specs.Paths.{below_first, last_segment, last_name}
use Rattle.ssr_names_items.specs.Names.{bare}
use Rattle.ssr_names.specs.Locals.{text_of_first, is_alone, lone_name, may_be_constant, names_argument, bound_name}

-- ** The name of a path.

module _ (path : Forest) where
  pub no_segment : None ≡ last_segment path → None ≡ last_name path
  unfolding last_name
  no_segment none = ap (λ last. option_map (λ name. spelled (tokens_in name)) (option_and_then (below_first k.NAME_REF) last)) none

  pub in_segment : (segment : Forest) → Some segment ≡ last_segment path → text_of_first k.NAME_REF segment ≡ last_name path
  unfolding last_name
  in_segment segment is = ap (λ last. option_map (λ name. spelled (tokens_in name)) (option_and_then (below_first k.NAME_REF) last)) is

module _ (tree : Syntax) (n : ℕ) where
  abbrev named : Option (List ℕ)
  named = option_map bare (last_name (node_of tree n).children)

  pub not_alone : is_alone tree (node_of tree n) ≡ false → None ≡ lone_name tree n
  unfolding lone_name
  not_alone free = sym (cond-false (is_alone tree (node_of tree n)) named None free)

  pub alone : is_alone tree (node_of tree n) ≡ true → named ≡ lone_name tree n
  unfolding lone_name
  alone is = sym (cond-true (is_alone tree (node_of tree n)) named None is)

-- ** The name of a pattern.

chosen : {A : Type 0} (b : Bool) (o : Option A) (x : A) → ◌≡◌ {A = Option A} (if b then o else None) (Some x) → (b ≡ true) × (o ≡ Some x)
chosen true o x is = (refl, is)
chosen false o x is = absurd (none-some x is)

both : (a b : Bool) → (a && b) ≡ true → (a ≡ true) × (b ≡ true)
both true true e = (refl, refl)
both true false e = cc
both false b e = cc

not_true : (b : Bool) → not b ≡ true → b ≡ false
not_true true e = cc
not_true false e = refl

-- what is known of a pattern that binds a name for sure
pub record BindsSurely (tree : Syntax) (n : ℕ) (name : List ℕ) : Type 0 where
  pub kind : same_kind (node_of tree n).kind k.IDENT_PAT ≡ true
  pub no_argument : names_argument tree n ≡ false
  pub text : List ℕ
  pub spelled : text_of_first k.NAME (node_of tree n).children ≡ Some text
  pub same : bare text ≡ name
  pub surely : may_be_constant (node_of tree n).children (bare text) ≡ false

from_text : (tree : Syntax) (n : ℕ) (name : List ℕ) → same_kind (node_of tree n).kind k.IDENT_PAT ≡ true → names_argument tree n ≡ false
    → (text : Option (List ℕ)) → text_of_first k.NAME (node_of tree n).children ≡ text
    → not (option_map_or (may_be_constant (node_of tree n).children) (option_map bare text) false) ≡ true → option_map bare text ≡ Some name → BindsSurely tree n name
from_text tree n name kind free None is surely named = absurd (none-some name named)
from_text tree n name kind free (Some text) is surely named = record {
  kind = kind;
  no_argument = free;
  text = text;
  spelled = is;
  same = same_Some (bare text) name named;
  surely = not_true (may_be_constant (node_of tree n).children (bare text)) surely;
}

pub binds_surely : (tree : Syntax) (n : ℕ) (name : List ℕ) → bound_name tree n ≡ Some name → BindsSurely tree n name
unfolding bound_name
binds_surely tree n name is =
    let pattern = node_of tree n in
    let text = option_map bare (text_of_first k.NAME pattern.children) in
    let kind = same_kind pattern.kind k.IDENT_PAT in
    let free = not (names_argument tree n) in
    let sure = not (option_map_or (may_be_constant pattern.children) text false) in
    let parts = chosen ((kind && free) && sure) text name is in
    let tests = both (kind && free) sure parts.0 in
    let binding = both kind free tests.0 in
    from_text tree n name binding.0 (not_true (names_argument tree n) binding.1) (text_of_first k.NAME pattern.children) refl tests.1 parts.1
