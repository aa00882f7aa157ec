-- Private: tables by the numbers of nodes.
use Rattle.std.specs.Prelude.{ℕ, ◌≡◌, ◌<◌, Bool, false, List, length, slice_index_or}
use Rattle.ssr_syntax_tree.specs.Syntax.{Syntax}
use Rattle.ide_ssr_resolved_rule.specs.declared.qualified_calls.QualifiedCall.{QualifiedCall}
use Rattle.ide_ssr_resolving.specs.Eligible.{is_call, is_in_first_argument}

-- marks stand at the nodes of the calls
abbrev pub MarksCalls : List QualifiedCall → List Bool → Type 0
MarksCalls calls marks = (n : ℕ) → slice_index_or marks n false ≡ is_call calls n

-- of the nodes up to before a number, marks stand at those in first arguments of the calls
pub record MarksFirstArguments (tree : Syntax) (calls : List QualifiedCall) (past : ℕ) (marks : List Bool) : Type 0 where
  pub long : length marks ≡ past
  pub marked : (n : ℕ) → n < past → slice_index_or marks n false ≡ is_in_first_argument tree calls n
