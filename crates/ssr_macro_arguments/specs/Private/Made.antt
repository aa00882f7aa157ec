-- Expansions that are made, each with its tree.
use Rattle.std.specs.Prelude.{ℕ, List, map, All}
use Rattle.ssr_syntax_tree.specs.Syntax.{Syntax, source_of}
use Rattle.ssr_syntax_tree.specs.Places.{node_of}
use Rattle.ssr_base.specs.declared.building.Expansion.{Expansion}
use Rattle.ssr_macro_arguments.specs.declared.expanding.ReadExpansion.{ReadExpansion}
use Rattle.ssr_macro_arguments.specs.declared.made.Call.{Call}
use Rattle.ssr_macro_arguments.specs.declared.made.Made.{Made}
use Rattle.ssr_macro_arguments.specs.Arguments.{IsExpansionIn, AreArguments, HasItsTree}
use Rattle.ssr_macro_arguments.specs.Calls.{Searched, IsCallAt, IsOfCallIn, IsOfItsCall, trees_of}

-- a call of a tree, with its brackets
abbrev pub IsCallIn : Syntax → Call → Type 0
IsCallIn tree call = IsCallAt tree call.range (node_of tree call.brackets.0)

abbrev pub reads_of : List Made → List ReadExpansion
reads_of made = map (λ one. one.read) made

abbrev pub expansions_made : List Made → List Expansion
expansions_made made = map (λ one. one.read.expansion) made

-- the expansion of a call in the tree with this number, whose tokens come from a file with this text, with the tree that it is
-- read as
pub record IsMadeIn (place : Searched) (tree : ℕ) (text : List ℕ) (one : Made) : Type 0 where
  pub expansion : IsExpansionIn tree text one.read.expansion
  pub call : IsOfCallIn place one.read.expansion
  pub read : HasItsTree one.read

abbrev pub AreMadeIn : Searched → ℕ → List ℕ → List Made → Type 0
AreMadeIn place tree text made = All (IsMadeIn place tree text) made

-- expansions of calls in files with these trees, and in each other, with the trees that they are read as
pub record AreMade (files : List Syntax) (made : List Made) : Type 0 where
  pub arguments : AreArguments (map source_of files) (expansions_made made)
  pub calls : All (λ one. IsOfItsCall (trees_of files (reads_of made)) one.read) made
  pub read : All (λ one. HasItsTree one.read) made
