-- The finder that a comment in a file asks for: it has the rule that the comment says.
use Rattle.std.specs.Prelude.{ℕ, ◌≡◌, ◌≢◌, ◌+◌, ◌==◌, ◌⊎◌, List, [], ◌∷◌, length, drop, Option, Some, None, Result, Ok, Err, codes, if◌then◌else◌}
use Rattle.std.specs.List.{starts_with}
use Rattle.std.specs.Option.{option_and_then}
use Rattle.ssr_syntax_kinds.specs.declared.kinds.SyntaxKind.TheVariants as k
use Rattle.ssr_syntax_kinds.specs.declared.range.TextRange.{TextRange}
use Rattle.ssr_syntax_tree.specs.Syntax.{Syntax}
use Rattle.ssr_syntax_tree.specs.Places.{HasToken, token_of, offset_of}
use Rattle.ssr_base_trees.specs.declared.ids.FilePosition.{FilePosition}
use Rattle.ssr_base_trees.specs.declared.ids.FileRange.{FileRange}
use Rattle.ssr_base_trees.specs.Meanings.{Meanings}
use Rattle.ssr_base_trees.specs.Workspace.{Workspace, tree_of}
use Rattle.ide_ssr_refusals.specs.declared.refusals.Refusal.{Refusal}
use Rattle.ide_ssr_rules.specs.Rules.{Rule, rule_reading}
use Rattle.ide_ssr_rules.specs.Resolved.{resolved_kinds}
use Rattle.ide_ssr_search.specs.declared.context_error.ContextError.{ContextError}
use Rattle.ide_ssr_search.specs.declared.context_error.ContextError.TheVariants as refusals
use Rattle.ide_ssr_search.specs.Context.{Context}
use Rattle.ide_ssr_search.specs.Making.{HasFile, Makes}
use Rattle.ide_ssr_search.specs.Positions.{EndsAt, HoldsAt}
use Rattle.ide_ssr.specs.Adding.{Adds}
use Rattle.ide_ssr.specs.Finder.{FinderWith}
use Rattle.ide_ssr.specs.Making.{MakesFinder}

-- ** The comment.

abbrev pub IsComment : Syntax → ℕ → Type 0
IsComment syntax t = HasToken syntax t × ((token_of syntax t).kind ≡ k.COMMENT)

-- the comment that ends at an offset, else the one that holds or begins at it
abbrev pub IsCommentAt : Syntax → ℕ → Option ℕ → Type 0
IsCommentAt syntax offset (Some t) =
    IsComment syntax t
    × (EndsAt syntax offset t ⊎ (((u : ℕ) → IsComment syntax u → ¬ EndsAt syntax offset u) × HoldsAt syntax offset t))
IsCommentAt syntax offset None =
    ((u : ℕ) → IsComment syntax u → ¬ EndsAt syntax offset u) × ((u : ℕ) → IsComment syntax u → ¬ HoldsAt syntax offset u)

-- the text of the comment at a position, and where it stands
pub record IsCommentOf (w : Workspace) (position : FilePosition) (text : List ℕ) (range : TextRange) : Type 0 where
  pub has_file : HasFile w position.file_id.0
  pub syntax : Syntax
  pub is_syntax : tree_of w position.file_id.0 ≡ Some syntax
  pub token : ℕ
  pub at : IsCommentAt syntax position.offset (Some token)
  pub is_text : text ≡ (token_of syntax token).text
  pub begins : range.start ≡ offset_of syntax token
  pub ends : range.end ≡ offset_of syntax (1 + token)

-- there is no such file, or no comment at the position
abbrev pub LacksComment : Workspace → FilePosition → Type 0
LacksComment w position =
    ¬ HasFile w position.file_id.0
    ⊎ ((syntax : Syntax) × (tree_of w position.file_id.0 ≡ Some syntax) × IsCommentAt syntax position.offset None)

-- ** Its rule.

-- what a comment begins with: the first of these that fits
unfoldable pub prefixes : List (List ℕ)
prefixes =
    codes "/**/"
    ∷ (codes "/***"
    ∷ (codes "////"
    ∷ (codes "///"
    ∷ (codes "//!"
    ∷ (codes "/**"
    ∷ (codes "/*!"
    ∷ (codes "//"
    ∷ (codes "/*" ∷ []))))))))

-- what stands behind a prefix of a text
unfoldable pub behind : List ℕ → List ℕ → Option (List ℕ)
behind prefix text = if starts_with ◌==◌ text prefix then Some (drop (length prefix) text) else None

-- what stands behind the first of these prefixes that a text has
unfoldable pub behind_first : List (List ℕ) → List ℕ → Option (List ℕ)
behind_first [] text = None
behind_first (prefix ∷ others) text = if starts_with ◌==◌ text prefix then Some (drop (length prefix) text) else behind_first others text

abbrev pub accepted : Result Rule Refusal → Option Rule
accepted (Ok rule) = Some rule
accepted (Err refusal) = None

-- the rule that a comment says behind its prefix, if it says one
abbrev pub comment_rule : List ℕ → Option Rule
comment_rule comment = option_and_then (λ text. accepted (rule_reading text)) (behind_first prefixes comment)

-- ** The finder.

abbrev pub start_of : FileRange → FilePosition
start_of range = record { file_id = range.file_id; offset = range.range.start }

-- the finder is made at the position, without restrictions, and has what the rule resolves to
pub record HasRule {S : Type 0} (meanings : S → Meanings) (w : Workspace) (semantics : S) (position : FilePosition) (rule : Rule) (finder : FinderWith S) : Type 0 where
  pub made : FinderWith S
  pub makes : MakesFinder w semantics (Makes w (meanings semantics) position []) (Ok made)
  pub adds : Adds made finder (resolved_kinds (meanings semantics) made.context.scope rule.names rule.constraints rule.kinds) (Ok tt)

-- no finder is made at the position, or the rule doesn't resolve there
abbrev pub RefusesRule : Workspace → Meanings → FilePosition → Rule → Type 0
RefusesRule w m position rule =
    ((refusal : ContextError) × (refusal ≢ refusals.Memory) × Makes w m position [] (Err refusal))
    ⊎ ((context : Context) × (refusal : Refusal) × Makes w m position [] (Ok context)
    × (resolved_kinds m context.scope rule.names rule.constraints rule.kinds ≡ Err refusal))

-- the finder has the rule that the comment at the position says, and this is where the comment stands
pub record IsFromComment {S : Type 0} (meanings : S → Meanings) (w : Workspace) (semantics : S) (position : FilePosition) (finder : FinderWith S) (range : TextRange) : Type 0 where
  pub text : List ℕ
  pub comment : IsCommentOf w position text range
  pub rule : Rule
  pub says : comment_rule text ≡ Some rule
  pub has : HasRule meanings w semantics position rule finder

-- why there is none: no comment stands there, it says no rule, or the rule is refused
pub data LacksRule (w : Workspace) (m : Meanings) (position : FilePosition) : Type 0 where
  no_comment : LacksComment w position → LacksRule w m position
  no_rule : (text : List ℕ) (range : TextRange) → IsCommentOf w position text range → comment_rule text ≡ None → LacksRule w m position
  refused : (text : List ℕ) (range : TextRange) (rule : Rule) → IsCommentOf w position text range → comment_rule text ≡ Some rule
      → RefusesRule w m position rule → LacksRule w m position
