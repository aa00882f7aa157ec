-- What is written for a match whose placeholders' lists can be made.
use Rattle.std.specs.Prelude.{ℕ, List, [], ◌++◌, Option, codes, replicate, slice_get, if◌then◌else◌}
use Rattle.std.specs.Option.{option_map_or}
use Rattle.ssr_syntax_tree.specs.Syntax.{source_of}
use Rattle.ssr_base_trees.specs.declared.semantics.SelfKind.{SelfKind}
use Rattle.ssr_base_trees.specs.declared.semantics.SelfKind.TheVariants as self_kind
use Rattle.ssr_base_trees.specs.Changes.{replaced}
use Rattle.ssr_base_trees.specs.Meanings.{Meanings}
use Rattle.ssr_base_trees.specs.Workspace.{FileSpan, Workspace, tree_of}
use Rattle.ide_ssr_resolved_rule.specs.Receivers.{is_receiver}
use Rattle.ide_ssr_resolved_rule.specs.Resolved.{ResolvedRule}
use Rattle.ide_ssr_bindings.specs.declared.bindings.Binding.{Binding}
use Rattle.ide_ssr_bindings.specs.Found.{FoundMatch}
use Rattle.ide_ssr_rewriting.specs.Clashes.{Rewrite, changes_made}
use Rattle.ide_ssr_rewriting.specs.Comments.{comments_text, kept_comments}
use Rattle.ide_ssr_rewriting.specs.Fitting.{fitted_between}
use Rattle.ide_ssr_rewriting.specs.Printing.{printed_paths}
use Rattle.ide_ssr_rewriting.specs.Rendering.{filling_of, rendered}

-- what matches are written by: rules, and what names mean
pub record Writing : Type 0 where
  pub meanings : Meanings
  pub rules : List ResolvedRule

abbrev pub writing : Meanings → List ResolvedRule → Writing
writing meanings rules = record { meanings = meanings; rules = rules }

-- the text of a file; original ranges lie in files of the workspace, so there is one
abbrev pub file_text : Workspace → ℕ → List ℕ
file_text w file = option_map_or source_of (slice_get w.files file) []

-- The text of a range with the changes of a list made, some of them in parentheses so that it groups as before behind the text in
-- front.
abbrev pub rewritten : Workspace → List ℕ → FileSpan → List Rewrite → List ℕ
rewritten w front range list =
    let text = file_text w range.file in
    replaced text range.span.start range.span.end (fitted_between w.reach front text range.span.start range.span.end (changes_made list))

-- what a placeholder holds, which comes from this range, with the changes of a list made; in a match that a search finds,
-- each has a range
abbrev pub held_text : Workspace → List ℕ → Option FileSpan → List Rewrite → List ℕ
held_text w front range list = option_map_or (λ range. rewritten w front range list) range []

-- how a method takes what it is called on
abbrev pub taken_as : SelfKind → List ℕ
taken_as self_kind.Owned = []
taken_as self_kind.Ref = codes "&"
taken_as self_kind.Mut = codes "&mut "

-- What makes of a receiver the first argument of a call: how the method takes it, and then a `*` for each time that it is
-- dereferenced. It is empty for whatever else a placeholder holds.
abbrev pub prefix : Binding → List ℕ
prefix b = taken_as b.self_kind ++ replicate b.deref_count 42

-- What is written in front of what a placeholder holds. In the place of a receiver it is nothing: there the call takes and
-- dereferences by itself. The rule of a match that is found is one of the rules.
unfoldable pub prefix_by : List ResolvedRule → ℕ → Binding → List ℕ
prefix_by rules r b = option_map_or (λ rule. if is_receiver rule b.placeholder then [] else prefix b) (slice_get rules r) []

-- what is written for a placeholder
abbrev pub piece : Workspace → List ℕ → Option FileSpan → List Rewrite → List ℕ
piece w prefix range list = prefix ++ held_text w prefix range list

-- what the template of a match's rule gives, where its placeholders have these pieces; the rule of a match that is found
-- is one of the rules
abbrev pub template_text : Writing → FoundMatch → List (List ℕ) → List ℕ
template_text by m pieces =
    option_map_or (λ rule. rendered rule (filling_of m.bindings pieces (printed_paths by.meanings rule m.node))) (slice_get by.rules m.rule) []

-- the comments that a match keeps; among the tokens of an expansion there are none. Its tree is one of the workspace.
abbrev pub comments_kept : Workspace → FoundMatch → List ℕ
comments_kept w m = option_map_or (λ tree. comments_text tree (kept_comments tree m.node.node.0 m.bindings)) (tree_of w m.node.tree) []

-- what stands for the match: what the template gives, and then the comments
unfoldable pub text_of_match : Workspace → Writing → FoundMatch → List (List ℕ) → List ℕ
text_of_match w by m pieces = template_text by m pieces ++ comments_kept w m
