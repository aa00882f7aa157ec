-- Private: what the placeholders of a match hold, once the changes of their lists are made.
use Rattle.std.specs.Prelude.{ℕ, Bool, true, false, if◌then◌else◌, List, map, Option, Some, None}
use Rattle.std.specs.List.{enumerate_from, list_all}
use Rattle.ssr_base_trees.specs.Workspace.{Workspace, trees}
use Rattle.ide_ssr_resolved_rule.specs.Resolved.{ResolvedRule}
use Rattle.ide_ssr_bindings.specs.declared.bindings.Binding.{Binding}
use Rattle.ide_ssr_bindings.specs.Found.{FoundMatch, held_range}
use Rattle.ide_ssr_rewriting.specs.Clashes.{Rewrite, is_clean}
use Rattle.ide_ssr_rewriting.specs.declared.piece.Piece.{Piece}
use Rattle.ide_ssr_rewriting.specs.declared.piece.Piece.TheVariants as pieces
use Rattle.ide_ssr_rewriting.specs.Replacements.{piece, prefix_by}

-- the text that stands for a placeholder
abbrev pub piece_bytes : Piece → List ℕ
piece_bytes (pieces.Code text) = text.now
piece_bytes (pieces.Made made) = made

-- a text was made, and is no part of a file's text
abbrev pub is_made : Piece → Bool
is_made (pieces.Code text) = false
is_made (pieces.Made made) = true

-- whether all of these lists can be made
abbrev pub all_clean : (ℕ → List Rewrite) → List (ℕ × Binding) → Bool
all_clean lists bound = list_all (λ p. is_clean (lists p.0)) bound

-- what placeholders hold, with the changes of their lists made
abbrev pub pieces_of : Workspace → List ResolvedRule → FoundMatch → (ℕ → List Rewrite) → List (ℕ × Binding) → List (List ℕ)
pieces_of w rules m lists bound = map (λ p. piece w (prefix_by rules m.rule p.1) (held_range (trees w) m.node.tree p.1) (lists p.0)) bound

-- what the placeholders of a match hold, with the changes of their lists made, if all lists can be made
abbrev pub pieces_by : Workspace → List ResolvedRule → FoundMatch → (ℕ → List Rewrite) → Option (List (List ℕ))
pieces_by w rules m lists =
    let bound = enumerate_from 0 m.bindings in
    if all_clean lists bound then Some (pieces_of w rules m lists bound) else None
