-- What whole paths stand for.
use Rattle.std.proofs.Common.{◌≡◌, ◌-◌, ◌⊎◌, inl, inr, List, [], ◌∷◌, length, slice_get, Some, sym, ap, ◌∙◌, subst, arith}
use Rattle.std.proofs.lemmas.Option.{same_Some}
use Rattle.ssr_names_items.specs.declared.table.Name.{Name}
use Rattle.ssr_names_items.specs.declared.table.Namespace.{Namespace}
use Rattle.ssr_names_items.specs.declared.table.Namespace.TheVariants as ns
use Rattle.ssr_names_items.specs.declared.table.Start.TheVariants as starts
use Rattle.ssr_names.specs.declared.definitions.Definition.{Definition}
use Rattle.ssr_names.specs.declared.definitions.Meaning.{Meaning}
use Rattle.ssr_names.specs.declared.definitions.Meaning.TheVariants as meanings
use Rattle.ssr_names.specs.declared.lookup.PathQuestion.{PathQuestion}
use Rattle.ssr_names.specs.declared.space.Space.{Space}
use Rattle.ssr_names.specs.Lookup.{IsOutside, PathStandsFor, Place}
use Rattle.ssr_names.specs.WholePaths.{WholeStandsFor, whole_path, whole_type, whole_own_macro, whole_macro}
use Rattle.ssr_names.specs.Private.Answered.{place_of}
use Rattle.ssr_names.specs.Private.Macros.{IsAsType, IsMacro, type_itself, type_outside, macro_own, macro_by_path, macro_outside}

-- the name of a macro alone
pub whole_of_macro : (space : Space) (path : PathQuestion) (name : Name) (d : Definition) → path.start ≡ starts.Plain → path.namespace ≡ ns.Macro
    → path.names.now ≡ name ∷ [] → IsMacro space path name d → WholeStandsFor space (place_of path) path.namespace path.names.now d
whole_of_macro space path name d plain is_macro alone (macro_own item _ known seen) = whole_own_macro name item d plain is_macro alone known seen
whole_of_macro space path name d plain is_macro alone (macro_by_path _ is) = whole_path d is
whole_of_macro space path name d plain is_macro alone (macro_outside _ outside) = whole_macro name d plain is_macro alone outside

-- a path where a type is wanted
pub whole_of_type : (space : Space) (place : Place) (n : Namespace) (names : List Name) (m : Meaning) (d : Definition) → n ≡ ns.Type
    → ((c : Definition) → m ≡ meanings.One c → PathStandsFor space place n names c) → IsAsType m d → WholeStandsFor space place n names d
whole_of_type space place n names m d is_type stands (type_itself _ is) = whole_path d (stands d is)
whole_of_type space place n names m d is_type stands (type_outside c _ is one other) = whole_type c d is_type (stands c is) one other

same_one : (one other : Definition) → meanings.One one ≡ meanings.One other → one ≡ other
same_one one other is = cc

-- what stands for a type where a definition does
pub type_of_one : (m : Meaning) (one new d : Definition) → m ≡ meanings.One one → (new ≡ one) ⊎ (IsOutside one × IsOutside new) → meanings.One new ≡ meanings.One d
    → IsAsType m d
type_of_one m one new d is (inl same) means = type_itself d (is ∙ ap meanings.One (sym same) ∙ means)
type_of_one m one new d is (inr both) means = type_outside one d is both.0 (subst IsOutside (same_one new d means) both.1)

-- the last of one name is the only one
pub only_one : {X : Type 0} (xs : List X) (x : X) → length xs ≡ 1 → slice_get xs (length xs - 1) ≡ Some x → xs ≡ x ∷ []
only_one [] x count is = absurd (omega arith)
only_one (y ∷ []) x count is = ap (λ z. z ∷ []) (same_Some y x is)
only_one (y ∷ (z ∷ zs)) x count is = absurd (omega arith)
