-- A tree that is core by the kinds of its tokens has a core forest behind it.
use Rattle.std.proofs.Common.{◌≡◌, ℕ, Bool, true, false, List, [], ◌∷◌, ◌++◌, length, sym, ap, subst, ◌∙◌}
use Rattle.std.proofs.lemmas.List.{append-nil}
use Rattle.std.proofs.lemmas.Bool.{and_parts}
use Rattle.ssr_syntax_kinds.specs.declared.kinds.SyntaxKind.{SyntaxKind}
use Rattle.ssr_syntax_kinds.specs.declared.reach.Reach.{Reach}
use Rattle.ssr_syntax_lex.specs.declared.tokens.RawToken.{RawToken}
use Rattle.ssr_syntax_tree.specs.Syntax as plain
use Rattle.ssr_syntax_forms.specs.declared.tokens.Token.{Token}
use Rattle.ssr_syntax_forms.specs.Fitting.{Fits}
use Rattle.ssr_syntax_forms.specs.Trees.{Forest, done, leaf, tree, spell}
use Rattle.ssr_syntax_forms.proofs.Shared.{at_some_level}
use Rattle.ssr_syntax_types.specs.declared.goals.Goal.{Goal}
use Rattle.ssr_syntax_types.specs.declared.goals.Goal.TheVariants.{Expr}
use Rattle.ssr_syntax_types.specs.declared.goals.ExprPlace.TheVariants.{Anywhere}
use Rattle.ssr_syntax_rows.specs.Leaves.{Taken, leaves}
use Rattle.ssr_syntax_rows.specs.Lossless.{past, behind, lossless, whole_tree}
use Rattle.ssr_syntax_rows.specs.Solid.{pieces, solid_tokens}
use Rattle.ssr_syntax_rows.proofs.Shared.{AreSolid, AreTaken, all_solid, goals_taken, leaves_solid, AllSolid}
use Rattle.ssr_syntax.specs.Grammar.{grammar_of}
use Rattle.ssr_syntax.specs.Reading.{trimmed}
use Rattle.ssr_syntax_places.specs.Core.{Holes, core}
use Rattle.ssr_syntax_places.specs.LongTexts.{IsBehind}
use Rattle.ssr_syntax_places.specs.PlainCore.{forest_in}
use Rattle.ssr_syntax_places.specs.Standing.{node}
use Rattle.ssr_syntax_places.proofs.Delimited.{all_keep_parts}
use Rattle.ssr_syntax_places.proofs.LikeCore.{core_like}
use Rattle.ssr_syntax_places.proofs.LikeForests.{like, AreMarks, Known, KnownNode, all_known, forest_behind_trivia, forest_like}
use Rattle.ssr_syntax_places.proofs.PartLeaves.{Parts, any_part, other_part, keeps_parts, HasParts, has_parts}
use Rattle.ssr_syntax_places.proofs.Pieces.{solid_count, past_all}
use Rattle.ssr_syntax_places.proofs.PutInside.{count_pieces}
use Rattle.ssr_syntax_places.proofs.Placed.{goal_spelled}
use Rattle.ssr_syntax_places.proofs.RawKinds.{all_raw_single}
use Rattle.ssr_syntax_places.proofs.TokenSizes.{AreSized, all_sized}

-- ** What is known of the forest.

solid_parts : (us vs : List Taken) → AreSolid (us ++ vs) → AreSolid us × AreSolid vs
solid_parts [] vs h = (tt, h)
solid_parts (u ∷ us) vs h = let rest = solid_parts us vs h.2 in ((h.0, h.1, rest.0), rest.1)

marks : (z : Forest) → AreSolid (leaves z) → AreMarks z
marks done are = tt
marks (leaf kind us x) are = (are.1, marks x are.2)
marks (tree kind kids x) are = let halves = solid_parts (leaves kids) (leaves x) are in (marks kids halves.0, marks x halves.1)

pub record IsKnownTree (raw : List RawToken) (kind : SyntaxKind) (kids : Forest) : Type 0 where
  pub known : KnownNode kind kids (Known kids)
  pub marks_are : AreMarks kids
  pub spells : spell kids ≡ solid_tokens raw

-- only nodes that may have parts have them
parts_of : (reach : Reach) (p : Parts) (z : Forest) (us : List Token) (asked : Goal) → ((goal : Goal) → keeps_parts p (grammar_of reach goal) ≡ true)
    → Fits (grammar_of reach) (grammar_of reach asked) done z us [] → HasParts p z
parts_of reach p z us asked all fits =
    let kept = and_parts _ _ (all asked) in
    (has_parts p (grammar_of reach) all false (grammar_of reach asked) done z us [] kept.0 (λ e. tt) tt fits).parts

pub known_tree : (reach : Reach) (text : List ℕ) (raw : List RawToken) (kind : SyntaxKind) (kids : Forest) → IsBehind reach text raw kind kids
    → IsKnownTree raw kind kids
known_tree reach text raw kind kids behind =
    let z : Forest = node kind kids in
    let us : List Token = solid_tokens raw in
    let whole : spell z ≡ us = goal_spelled (grammar_of reach) (Expr Anywhere) z us [] behind.fits in
    let spells : spell kids ≡ us = sym (append-nil (spell kids)) ∙ whole in
    let level = at_some_level (grammar_of reach) (Expr Anywhere) z us [] behind.fits in
    let taken : AreTaken z = goals_taken (grammar_of reach) level.0 (Expr Anywhere) z us [] level.1 in
    let sized : AreSized (spell z) = subst AreSized (sym whole) (all_sized raw (all_raw_single (trimmed text) raw behind.lexes)) in
    let known : Known z = all_known z taken sized
    (parts_of reach any_part z us (Expr Anywhere) (λ goal. (all_keep_parts reach goal).0) behind.fits)
    (parts_of reach other_part z us (Expr Anywhere) (λ goal. (all_keep_parts reach goal).1) behind.fits) in
    record {
      known = known.0;
      marks_are = marks kids (leaves_solid kids taken.0 (subst AllSolid (sym spells) (all_solid raw)));
      spells = spells;
    }

-- ** The tree.

pub children_like : (text : List ℕ) (raw : List RawToken) (kind : SyntaxKind) (kids : Forest) → AreMarks kids → spell kids ≡ solid_tokens raw
    → forest_in (plain.Syntax.children (whole_tree kind kids (pieces text raw))) ≡ like kids
children_like text raw kind kids are spells =
    let ts : List plain.Token = pieces text raw in
    let count : length (spell kids) ≡ solid_count ts = ap length spells ∙ sym (count_pieces text raw) in
    forest_behind_trivia (lossless kids ts) (past (length (spell kids)) ts) (past_all (length (spell kids)) ts count)
    ∙ forest_like kids ts are

pub tree_core : (reach : Reach) (holes : Holes) (callable : Bool) (n : ℕ) (text : List ℕ) (raw : List RawToken) (kind : SyntaxKind) (kids : Forest)
    → IsBehind reach text raw kind kids
    → core holes callable n 0 kind (forest_in (plain.Syntax.children (whole_tree kind kids (pieces (trimmed text) raw)))) ≡ true
    → core holes callable n 0 kind kids ≡ true
tree_core reach holes callable n text raw kind kids behind is =
    let known = known_tree reach text raw kind kids behind in
    core_like holes callable n 0 kind kids known.known
    (ap (core holes callable n 0 kind) (sym (children_like (trimmed text) raw kind kids known.marks_are known.spells)) ∙ is)
