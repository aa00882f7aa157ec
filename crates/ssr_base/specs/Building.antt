-- What is built of the texts of files and of expansions: a workspace, or the first refusal.
use Rattle.std.specs.Prelude.{ℕ, ◌+◌, ◌-◌, ◌≡◌, ◌≤◌, ◌==◌, ◌&&◌, not, nat_lt, Bool, true, if◌then◌else◌, List, [], ◌∷◌, ◌++◌, All, length, map, take, drop, Option, Some, None, is_some, Result, Ok, Err, String, string_bytes}
use Rattle.std.specs.Global.{Global}
use Rattle.std.specs.List.{find, list_all}
use Rattle.std.specs.Option.{option_map, option_and_then, ok_or}
use Rattle.ssr_syntax_kinds.specs.Kinds.{same_kind}
use Rattle.ssr_syntax_kinds.specs.declared.kinds.SyntaxKind.TheVariants as k
use Rattle.ssr_syntax_kinds.specs.declared.range.TextRange.{TextRange}
use Rattle.ssr_syntax_tree.specs.Syntax.{Token, Syntax, tokens_of}
use Rattle.ssr_syntax_tree.specs.Places.{Node, nodes_of, start_of, end_of}
use Rattle.ssr_syntax.specs.Reading.{IsReadOf, file_reading}
use Rattle.ssr_syntax.specs.Expansions.{expansion_reading, expansion_reading_of}
use Rattle.ssr_syntax.specs.declared.syntax_error.SyntaxError.{SyntaxError}
use Rattle.ssr_syntax.specs.declared.syntax_error.SyntaxError.TheVariants as syntax
use Rattle.ssr_syntax.specs.declared.expansions.ExpToken.{ExpToken}
use Rattle.ssr_base_trees.specs.declared.ids.NodeId.{NodeId}
use Rattle.ssr_base.specs.declared.building.Expansion.{Expansion}
use Rattle.ssr_base.specs.declared.workspace_error.WorkspaceError.{WorkspaceError}
use Rattle.ssr_base.specs.declared.workspace_error.WorkspaceError.TheVariants as errors
use Rattle.ssr_base_trees.specs.Origins.{Span, Cover, span_of, cover_of, covered, fits_origin}
use Rattle.ssr_base_trees.specs.Workspace.{Workspace, trees, tree_of, text_at_top, nesting, node_id, expansion_of}
use Rattle.ssr_base_trees.specs.Built.{most_trees, most_nested}
use Rattle.ssr_base_trees.specs.Growth.{with_tree, no_tree}

infixl 10 ◌>>=◌
abbrev pub ◌>>=◌ : {A B : Type 0} → Result A WorkspaceError → (A → Result B WorkspaceError) → Result B WorkspaceError
Ok value >>= next = next value
Err refusal >>= next = Err refusal

abbrev pub unless : Bool → WorkspaceError → Result (Unit {0}) WorkspaceError
unless refused e = if refused then Err e else Ok tt

-- the tree of a reading, or why there is none
abbrev pub read_as : (SyntaxError → WorkspaceError) → Result Syntax SyntaxError → Result Syntax WorkspaceError
read_as why (Ok tree) = Ok tree
read_as why (Err syntax.Memory) = Err errors.Memory
read_as why (Err e) = Err (why e)

-- one step after another, each of which grows the workspace
abbrev pub in_turn : {A : Type 0} → (Workspace → A → Result Workspace WorkspaceError) → Workspace → List A → Result Workspace WorkspaceError
in_turn step w [] = Ok w
in_turn step w (x ∷ xs) = step w x >>= λ grown. in_turn step grown xs

-- ** Files.

abbrev pub with_file : Workspace → String Global → Result Workspace WorkspaceError
with_file w text = do
  tree ← read_as (errors.File (length w.files)) (file_reading (string_bytes text))
  Ok (record { reach = w.reach; files = w.files ++ tree ∷ []; expansions = w.expansions })

-- each file's tree is the reading of the file's text, in the workspace's reach
abbrev pub AreRead : Workspace → Type 0
AreRead w = All (IsReadOf w.reach) w.files

-- ** Expansions.

-- whether a node is a macro call with exactly this range
abbrev pub is_call : Syntax → TextRange → Node → Bool
is_call tree range node = same_kind node.kind k.MACRO_CALL && start_of tree node == range.start && end_of tree node == range.end

-- the first macro call with exactly this range
unfoldable pub first_call : Syntax → TextRange → Option Node
first_call tree range = find (is_call tree range) (nodes_of tree)

abbrev pub call_at : Workspace → ℕ → TextRange → Option NodeId
call_at w t range =
    option_and_then (λ tree. option_map (λ node. node_id t node.number) (first_call tree range)) (tree_of w t)

-- a call, unless it has an expansion already
abbrev pub if_free : Workspace → NodeId → Option NodeId
if_free w call = if is_some (expansion_of w call) then None else Some call

unfoldable pub free_call : Workspace → ℕ → TextRange → Option NodeId
free_call w t range = option_and_then (if_free w) (call_at w t range)

abbrev pub origin_of : ExpToken → Option Span
origin_of token = option_map span_of token.origin

-- how many of the tokens, from the first one on, it takes to fill so many bytes
abbrev pub count_in : ℕ → List ExpToken → ℕ
count_in bytes [] = 0
count_in bytes (token ∷ tokens) = if bytes == 0 then 0 else 1 + count_in (bytes - length (string_bytes token.text)) tokens

abbrev pub cover_of_tokens : List ExpToken → Cover
cover_of_tokens tokens = cover_of (map origin_of tokens)

-- the origins of the tokens of a tree: what covers those of the tokens that each one is joined of
abbrev pub joined_origins : List Token → List ExpToken → List (Option Span)
joined_origins [] tokens = []
joined_origins (joined ∷ later) tokens =
    let count = count_in (length joined.text) tokens in
    covered (cover_of_tokens (take count tokens)) ∷ joined_origins later (drop count tokens)

-- the call that an expansion names, if nothing is in the way of it
unfoldable pub checked_call : Workspace → Expansion → Result NodeId WorkspaceError
checked_call w x = do
  let n = length w.expansions
  call ← ok_or (free_call w x.call.0 x.call.1) (errors.Call n)
  _ ← unless (nat_lt most_nested (1 + nesting (trees w) call.tree)) (errors.Nested n)
  _ ← unless (not (list_all (fits_origin (text_at_top (trees w) call.tree)) (map origin_of x.tokens.items))) (errors.Origin n)
  Ok call

-- with an expansion whose tokens have this reading
abbrev pub with_reading : Result Syntax SyntaxError → Workspace → Expansion → Result Workspace WorkspaceError
with_reading reading w x = do
  call ← checked_call w x
  tree ← read_as (errors.Expansion (length w.expansions)) reading
  Ok (with_tree w call tree (joined_origins (tokens_of tree) x.tokens.items))

abbrev pub with_expansion : Workspace → Expansion → Result Workspace WorkspaceError
with_expansion w x = with_reading (expansion_reading x.kind x.tokens.items) w x

-- an expansion whose tokens have this reading is added, unless there are as many trees as there may be
abbrev pub added_reading : Result Syntax SyntaxError → Workspace → Expansion → Result Workspace WorkspaceError
added_reading reading w x = do
  _ ← unless (nat_lt most_trees (length w.files + length w.expansions + 1)) errors.TooManyTrees
  with_reading reading w x

abbrev pub added : Workspace → Expansion → Result Workspace WorkspaceError
added w x = added_reading (expansion_reading x.kind x.tokens.items) w x

-- the same, where its tokens are read in the workspace's reach
abbrev pub added_of : Workspace → Expansion → Result Workspace WorkspaceError
added_of w x = added_reading (expansion_reading_of w.reach x.kind x.tokens.items) w x

-- ** All.

unfoldable pub built : List (String Global) → List Expansion → Result Workspace WorkspaceError
built files expansions = do
  _ ← unless (nat_lt most_trees (length files + length expansions)) errors.TooManyTrees
  w ← in_turn with_file no_tree files
  in_turn with_expansion w expansions

-- an answer is what it should be; want of memory says nothing
abbrev pub Gives : {A : Type 0} → Result A WorkspaceError → Result A WorkspaceError → Type 0
Gives due (Ok value) = due ≡ Ok value
Gives due (Err errors.Memory) = Unit {0}
Gives due (Err e) = due ≡ Err e

-- The answer is what is built of all. Want of memory says that there aren't too many trees, and nothing else.
pub record Answers (files : List (String Global)) (expansions : List Expansion) (answer : Result Workspace WorkspaceError) : Type 0 where
  pub gives : Gives (built files expansions) answer
  pub few : answer ≡ Err errors.Memory → length files + length expansions ≤ most_trees
