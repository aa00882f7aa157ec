-- The expansions of macro calls whose arguments are expressions, what their tokens spell, and their trees.
use Rattle.std.specs.Prelude.{ℕ, ◌≡◌, ◌<◌, ◌++◌, Bool, List, [], ◌∷◌, length, map, All, Contains, Option, None, MatchOption, Ok, bytes_eq, slice_index_or, slice_range, string_bytes, codes}
use Rattle.ssr_syntax_kinds.specs.declared.range.TextRange.{TextRange}
use Rattle.ssr_syntax_kinds.specs.declared.reach.Reach.TheVariants.{Whole}
use Rattle.ssr_syntax.specs.Expansions.{expansion_reading_of}
use Rattle.ssr_syntax.specs.declared.expansions.ExpToken.{ExpToken}
use Rattle.ssr_syntax.specs.declared.expansions.ExpansionKind.TheVariants.{Expr}
use Rattle.ssr_base.specs.declared.building.Expansion.{Expansion}
use Rattle.ssr_macro_arguments.specs.declared.arguments.ArgumentToken.{ArgumentToken}
use Rattle.ssr_macro_arguments.specs.declared.expanding.ReadExpansion.{ReadExpansion}

-- a token that is handed in, told by its bytes
pub record Piece : Type 0 where
  pub text : List ℕ
  pub joint : Bool
  pub origin : Option TextRange

abbrev pub piece_of : ExpToken → Piece
piece_of token = record { text = string_bytes token.text; joint = token.joint; origin = token.origin }

abbrev pub argument_piece : ArgumentToken → Piece
argument_piece token = piece_of token.token

abbrev pub pieces : List ArgumentToken → List Piece
pieces tokens = map argument_piece tokens

-- a token that comes from nowhere; an `=` is joined with what follows
abbrev pub mark : List ℕ → Piece
mark text = record { text = text; joint = bytes_eq text (codes "="); origin = None }

-- what is put around arguments and behind them
abbrev pub marks : List (List ℕ)
marks =
    codes "(" ∷ (codes ")" ∷ (codes "[" ∷ (codes "]" ∷ (codes "{" ∷ (codes "}" ∷ (codes "," ∷ (codes "=" ∷ (codes ">" ∷ (codes "_"
    ∷ (codes "match" ∷ (codes "true" ∷ (codes "false" ∷ []))))))))))))

-- A token with an origin spells what the text has there. Any other one is among the marks.
abbrev pub Spells : List ℕ → Piece → Type 0
Spells text piece = MatchOption piece.origin (Contains marks piece.text) (λ range. slice_range text range.start range.end ≡ piece.text)

-- the expansion of a call in a tree, whose tokens come from a file with this text
pub record IsExpansionIn (tree : ℕ) (text : List ℕ) (x : Expansion) : Type 0 where
  pub call : x.call.0 ≡ tree
  pub expression : x.kind ≡ Expr
  pub spells : All (λ token. Spells text (piece_of token)) x.tokens.items

-- the text of the file at the top of a call's tree
abbrev pub top_of : List (List ℕ) → Expansion → List ℕ
top_of tops x = slice_index_or tops x.call.0 []

-- the texts of the files at the top of all trees, where `tops` are those of the trees in front of the expansions
abbrev pub tops_behind : List (List ℕ) → List Expansion → List (List ℕ)
tops_behind tops [] = tops
tops_behind tops (x ∷ xs) = tops_behind (tops ++ top_of tops x ∷ []) xs

-- Each is the expansion of a call in a tree in front of it: in a file, or in an earlier expansion.
abbrev pub AreArguments : List (List ℕ) → List Expansion → Type 0
AreArguments tops [] = Unit {0}
AreArguments tops (x ∷ xs) =
    (x.call.0 < length tops) × IsExpansionIn x.call.0 (top_of tops x) x × AreArguments (tops ++ top_of tops x ∷ []) xs

-- ** With their trees.

abbrev pub expansions_of : List ReadExpansion → List Expansion
expansions_of made = map (λ one. one.expansion) made

-- its tree is what its tokens are read as in all of Rust
abbrev pub HasItsTree : ReadExpansion → Type 0
HasItsTree one = expansion_reading_of Whole one.expansion.kind one.expansion.tokens.items ≡ Ok one.tree
