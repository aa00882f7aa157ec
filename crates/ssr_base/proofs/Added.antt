-- What building adds to a workspace.
use Rattle.std.proofs.Common.{◌≡◌, ◌+◌, ◌≤◌, true, [], ◌∷◌, ◌++◌, length, map, Result, Ok, Err, String, string_bytes, refl, sym, ap, None, ltb-false}
use Rattle.std.specs.Prelude.{nat_lt}
use Rattle.std.specs.Global.{Global}
use Rattle.std.specs.List.{list_all}
use Rattle.ssr_syntax_tree.specs.Syntax.{Syntax, tokens_of}
use Rattle.ssr_syntax.specs.declared.syntax_error.SyntaxError.{SyntaxError}
use Rattle.ssr_syntax.specs.declared.syntax_error.SyntaxError.TheVariants as syntax
use Rattle.ssr_syntax.specs.Reading.{file_reading}
use Rattle.ssr_syntax.specs.Expansions.{expansion_reading}
use Rattle.ssr_base_trees.specs.declared.ids.NodeId.{NodeId}
use Rattle.ssr_base.specs.declared.building.Expansion.{Expansion}
use Rattle.ssr_base.specs.declared.workspace_error.WorkspaceError.{WorkspaceError}
use Rattle.ssr_base.specs.declared.workspace_error.WorkspaceError.TheVariants as errors
use Rattle.ssr_base_trees.specs.Workspace.{Workspace, trees, text_at_top, nesting, expansion_of}
use Rattle.ssr_base_trees.specs.Built.{most_trees, most_nested}
use Rattle.ssr_base.specs.Building.{◌>>=◌, unless, added, read_as, with_file, origin_of, checked_call, joined_origins, with_expansion}
use Rattle.ssr_base_trees.specs.Origins.{fits_origin}
use Rattle.ssr_base_trees.specs.Growth.{with_tree}
use Rattle.ssr_base.proofs.Chosen.{IsChosen, chosen_free}
use Rattle.ssr_base.proofs.Calls.{accepted}

-- two steps that answer
pub and_then : {A B : Type 0} (r : Result A WorkspaceError) (next : A → Result B WorkspaceError) (value : B) → (r >>= next) ≡ Ok value
    → (x : A) × (r ≡ Ok x) × (next x ≡ Ok value)
and_then (Ok x) next value is = (x, refl, is)
and_then (Err e) next value is = cc

-- a tree that is answered was read
pub was_read : (why : SyntaxError → WorkspaceError) (r : Result Syntax SyntaxError) (tree : Syntax) → read_as why r ≡ Ok tree → r ≡ Ok tree
was_read why (Ok s) tree is = cc
was_read why (Err syntax.Lex) tree is = cc
was_read why (Err syntax.NoTree) tree is = cc
was_read why (Err syntax.TooDeep) tree is = cc
was_read why (Err syntax.TooLong) tree is = cc
was_read why (Err syntax.Memory) tree is = cc

-- a file's tree
pub record AddsFile (w next : Workspace) (text : String Global) : Type 0 where
  pub tree : Syntax
  pub read : file_reading (string_bytes text) ≡ Ok tree
  pub is : record { reach = w.reach; files = w.files ++ tree ∷ []; expansions = w.expansions } ≡ next

pub adds_file : (w next : Workspace) (text : String Global) → with_file w text ≡ Ok next → AddsFile w next text
adds_file w next text is =
    let grow : Syntax → Result Workspace WorkspaceError = λ tree. Ok (record { reach = w.reach; files = w.files ++ tree ∷ []; expansions = w.expansions }) in
    let read = and_then (read_as (errors.File (length w.files)) (file_reading (string_bytes text))) grow next is in
    record {
      tree = read.0;
      read = was_read (errors.File (length w.files)) (file_reading (string_bytes text)) read.0 read.1;
      is = cc (read.2);
    }

-- an expansion of a call that may be expanded
pub record AddsExpansion (w next : Workspace) (x : Expansion) : Type 0 where
  pub call : NodeId
  pub tree : Syntax
  pub chosen : IsChosen w call
  pub free : expansion_of w call ≡ None
  pub nested : 1 + nesting (trees w) call.tree ≤ most_nested
  pub fitting : list_all (fits_origin (text_at_top (trees w) call.tree)) (map origin_of x.tokens.items) ≡ true
  pub read : expansion_reading x.kind x.tokens.items ≡ Ok tree
  pub is : with_tree w call tree (joined_origins (tokens_of tree) x.tokens.items) ≡ next

pub adds_expansion : (w next : Workspace) (x : Expansion) → with_expansion w x ≡ Ok next → AddsExpansion w next x
adds_expansion w next x is =
    let why : SyntaxError → WorkspaceError = errors.Expansion (length w.expansions) in
    let grow : NodeId → Syntax → Result Workspace WorkspaceError = λ call tree. Ok (with_tree w call tree (joined_origins (tokens_of tree) x.tokens.items)) in
    let called = and_then (checked_call w x) (λ call. read_as why (expansion_reading x.kind x.tokens.items) >>= grow call) next is in
    let call = called.0 in
    let read = and_then (read_as why (expansion_reading x.kind x.tokens.items)) (grow call) next called.2 in
    let known = accepted w x call called.1 in
    let free = chosen_free w x.call.0 x.call.1 call known.0 in
    record {
      call = call;
      tree = read.0;
      chosen = free.0;
      free = free.1;
      nested = ltb-false most_nested (1 + nesting (trees w) call.tree) known.1;
      fitting = known.2;
      read = was_read why (expansion_reading x.kind x.tokens.items) read.0 read.1;
      is = cc (read.2);
    }

-- an expansion leaves the files as they are
pub added_files : (w next : Workspace) (x : Expansion) → added w x ≡ Ok next → next.files ≡ w.files
added_files w next x is =
    let few = and_then (unless (nat_lt most_trees (length w.files + length w.expansions + 1)) errors.TooManyTrees) (λ _. with_expansion w x) next is in
    sym (ap (λ (w : Workspace). w.files) (adds_expansion w next x few.2).is)
