-- Where the trees of a rule's kinds come from: each is read from its side's text.
use Rattle.std.proofs.Common.{◌≡◌, ℕ, Bool, true, false, cond, List, All, Option, Some, None, Result, Ok, Err, refl, subst}
use Rattle.std.specs.List.{list_any, filter}
use Rattle.std.specs.Option.{option_map, option_and_then, option_or}
use Rattle.std.specs.Result.{result_ok}
use Rattle.std.proofs.lemmas.List.Elements.{All-filter}
use Rattle.std.proofs.lemmas.Option.{same_Some}
use Rattle.ssr_syntax_kinds.specs.declared.fragment.Fragment.{Fragment}
use Rattle.ssr_syntax_kinds.specs.declared.fragment.Fragment.TheVariants as fragments
use Rattle.ssr_syntax_kinds.specs.declared.reach.Reach.{Reach}
use Rattle.ssr_syntax.specs.declared.syntax_error.SyntaxError.{SyntaxError}
use Rattle.ssr_syntax.specs.Reading.{fragment_reading_of}
use Rattle.ssr_syntax_tree.specs.Syntax.{Syntax}
use Rattle.ide_ssr_rules.specs.declared.kinds.ParsedRule.{ParsedRule}
use Rattle.ide_ssr_rules.specs.declared.kinds.ReadSide.{ReadSide}
use Rattle.ide_ssr_rules.specs.Kinds.{side_in, read_in, template_in, with_template, without_template, kind_with, kind_in, categories, read_kinds, has_path, kinds_of}
use Rattle.ide_ssr_rules.proofs.Lists.{all_given}

-- a side's tree is what its text is read as
abbrev IsReadFrom : Reach → List ℕ → ReadSide → Type 0
IsReadFrom reach text side = fragment_reading_of reach side.category text ≡ Ok side.tree

read_by : (reach : Reach) (category : Fragment) (text : List ℕ) (r : Result Syntax SyntaxError) (side : ReadSide) → fragment_reading_of reach category text ≡ r
    → option_map (side_in category) (result_ok r) ≡ Some side → IsReadFrom reach text side
read_by reach category text (Ok tree) side is h =
    subst (IsReadFrom reach text) (same_Some (side_in category tree) side h) is
read_by reach category text (Err error) side is h = cc

side_read : (reach : Reach) (category : Fragment) (text : List ℕ) (side : ReadSide) → read_in reach category text ≡ Some side → IsReadFrom reach text side
side_read reach category text side h = read_by reach category text (fragment_reading_of reach category text) side refl h

either_read : (reach : Reach) (text : List ℕ) (one other : Option ReadSide) (side : ReadSide) → ((s : ReadSide) → one ≡ Some s → IsReadFrom reach text s)
    → ((s : ReadSide) → other ≡ Some s → IsReadFrom reach text s) → option_or one other ≡ Some side → IsReadFrom reach text side
either_read reach text None other side f g h = g side h
either_read reach text (Some s) other side f g h = f side h

template_from : (reach : Reach) (category : Fragment) (text : List ℕ) (side : ReadSide) → template_in reach category text ≡ Some side → IsReadFrom reach text side
template_from reach fragments.Expr text side h =
    either_read reach text (read_in reach fragments.Expr text) (read_in reach fragments.Stmt text) side (side_read reach fragments.Expr text)
    (side_read reach fragments.Stmt text) h
template_from reach fragments.Ty text side h = side_read reach fragments.Ty text side h
template_from reach fragments.Item text side h = side_read reach fragments.Item text side h
template_from reach fragments.Pat text side h = side_read reach fragments.Pat text side h
template_from reach fragments.Stmt text side h = side_read reach fragments.Stmt text side h

-- a template is there exactly where it has a text, and is read from that
abbrev pub IsTemplateFrom : Reach → Option (List ℕ) → Fragment → Option Syntax → Type 0
IsTemplateFrom reach None category None = Unit {0}
IsTemplateFrom reach (Some text) category (Some tree) = fragment_reading_of reach category text ≡ Ok tree
IsTemplateFrom reach text category template = ⊥

pub record IsKindFrom (reach : Reach) (pattern : List ℕ) (template : Option (List ℕ)) (kind : ParsedRule) : Type 0 where
  pub category : Fragment
  pub pattern_read : fragment_reading_of reach category pattern ≡ Ok kind.pattern
  pub template_read : IsTemplateFrom reach template kind.category kind.template

module _ (reach : Reach) (pattern : List ℕ) where
  beside : (template : List ℕ) (one : ReadSide) (o : Option ReadSide) (kind : ParsedRule) → IsReadFrom reach pattern one
      → ((side : ReadSide) → o ≡ Some side → IsReadFrom reach template side) → option_map (with_template reach one.tree) o ≡ Some kind
      → IsKindFrom reach pattern (Some template) kind
  beside template one None kind is are h = cc
  beside template one (Some side) kind is are h =
      subst (IsKindFrom reach pattern (Some template)) (same_Some (with_template reach one.tree side) kind h)
      (record { category = one.category; pattern_read = is; template_read = are side refl })

  kind_from : (template : Option (List ℕ)) (one : ReadSide) (kind : ParsedRule) → IsReadFrom reach pattern one → kind_with reach template one ≡ Some kind
      → IsKindFrom reach pattern template kind
  kind_from None one kind is h =
      subst (IsKindFrom reach pattern None) (same_Some (without_template reach one) kind h)
      (record { category = one.category; pattern_read = is; template_read = tt })
  kind_from (Some template) one kind is h =
      beside template one (template_in reach one.category template) kind is (template_from reach one.category template) h

  from_side : (template : Option (List ℕ)) (o : Option ReadSide) (kind : ParsedRule) → ((side : ReadSide) → o ≡ Some side → IsReadFrom reach pattern side)
      → option_and_then (kind_with reach template) o ≡ Some kind → IsKindFrom reach pattern template kind
  from_side template None kind are h = cc
  from_side template (Some one) kind are h = kind_from template one kind (are one refl) h

  all_read : (template : Option (List ℕ)) → All (IsKindFrom reach pattern template) (read_kinds reach pattern template)
  all_read template =
      all_given (IsKindFrom reach pattern template) (kind_in reach pattern template) categories
      (λ category kind h. from_side template (read_in reach category pattern) kind (side_read reach category pattern) h)

  kept : (P : ParsedRule → Type 0) (some : Bool) (kinds : List ParsedRule) → All P kinds → All P (cond some (filter (λ kind. has_path kind.pattern) kinds) kinds)
  kept P true kinds all = All-filter (λ kind. has_path kind.pattern) P kinds all
  kept P false kinds all = all

  pub kinds_read : (template : Option (List ℕ)) → All (IsKindFrom reach pattern template) (kinds_of reach pattern template)
  unfolding kinds_of
  kinds_read template =
      let kinds = read_kinds reach pattern template in
      kept (IsKindFrom reach pattern template) (list_any (λ kind. has_path kind.pattern) kinds) kinds (all_read template)
