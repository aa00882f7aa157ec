-- Private: labels by the numbers of their tokens, and what the nodes of two lists bind that have the same ones.
use Rattle.std.specs.Prelude.{ℕ, ◌-◌, ◌≤◌, List, [], ◌∷◌, Option, Some, drop, take}
use Rattle.std.specs.List.{find}
use Rattle.std.specs.Option.{option_and_then}
use Rattle.ssr_syntax_tree.specs.Syntax.{Syntax, token_count, tokens_of}
use Rattle.ssr_syntax_tree.specs.Places.{Node}
use Rattle.ide_ssr_bindings.specs.declared.bindings.Binding.{Binding}
use Rattle.ide_ssr_token_trees.specs.Bindings.{joined}
use Rattle.ide_ssr_matching.specs.declared.records.Label.{Label}
use Rattle.ide_ssr_matching.specs.Bindings.{Binder}
use Rattle.ide_ssr_matching.specs.Records.{solid_texts, have_same_label}

-- the texts of the tokens of a tree from one number up to before another one
abbrev pub texts_between : Syntax → ℕ → ℕ → List (List ℕ)
texts_between tree first past = solid_texts (take (past - first) (drop first (tokens_of tree)))

abbrev pub label_texts : Syntax → Label → List (List ℕ)
label_texts tree label = texts_between tree label.first label.past

abbrev pub HasTokens : Syntax → Label → Type 0
HasTokens tree label = (label.first ≤ label.past) × (label.past ≤ token_count tree.children)

-- what nodes of the pattern bind in the first ones of the code that have their labels
abbrev pub fields_by : Binder → List Node → List Node → Option (List Binding)
fields_by inner [] cs = Some []
fields_by inner (p ∷ ps) cs = joined (option_and_then (inner p) (find (have_same_label p) cs)) (fields_by inner ps cs)
