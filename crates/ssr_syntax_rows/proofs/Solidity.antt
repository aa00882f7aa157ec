-- What is taken in the trees of a grammar: each token whole, or its first part. So it is solid if the tokens are.
use Rattle.std.proofs.Common.{◌≡◌, ℕ, Bool, true, false, List, [], ◌∷◌, ◌++◌, length, refl, ap, subst, ◌∙◌, arith}
use Rattle.std.specs.Prelude.{⊤}
use Rattle.ssr_syntax_kinds.specs.declared.kinds.SyntaxKind.{SyntaxKind}
use Rattle.ssr_syntax_kinds.specs.Kinds.{is_trivia}
use Rattle.ssr_syntax_forms.specs.declared.tokens.Token.{Token}
use Rattle.ssr_syntax_forms.specs.Trees.{Forest, done, leaf, tree, join, spell}
use Rattle.ssr_syntax_rows.specs.Leaves.{leaves}
use Rattle.ssr_syntax_forms.specs.Forms.{Productions, more, taken_as}
use Rattle.ssr_syntax_forms.proofs.Shared.{FitsGoal, IsKept, walk_goals}
use Rattle.ssr_syntax_rows.proofs.Laid.{AreSolid}

-- a token of the grammar is a token, whole or its first part
abbrev pub IsTaken : SyntaxKind → List Token → Type 0
IsTaken kind us =
    (whole : Bool) × (t : Token) × (vs : List Token) × (us ≡ t ∷ vs) × (kind ≡ taken_as whole t) × (more whole t ≡ length vs)

abbrev pub AreTaken : Forest → Type 0
AreTaken done = ⊤
AreTaken (leaf kind us x) = IsTaken kind us × AreTaken x
AreTaken (tree kind kids x) = AreTaken kids × AreTaken x

join_taken : (x y : Forest) → AreTaken x → AreTaken y → AreTaken (join x y)
join_taken done y h k = k
join_taken (leaf kind us x) y h k = (h.0, join_taken x y h.1 k)
join_taken (tree kind kids x) y h k = (h.0, join_taken x y h.1 k)

-- in what fits a form each token is taken so, if it is in what was made before
abbrev keeps_taken : IsKept (λ x z us rest. AreTaken x → AreTaken z)
keeps_taken = record {
  token = λ whole ks t us rest is size before. ((whole, t, us, refl, refl, size), tt);
  node = λ kind x rest before. (before, tt);
  beside = λ x y us rest here before. join_taken x y before (here tt);
  stay = λ x rest before. before;
  over = λ x y z us vs rest first second before. second (first before);
}

pub goals_taken : {Goal : Type 0} (grammar : Productions Goal) (n : ℕ) (goal : Goal) (y : Forest) (us rest : List Token) → FitsGoal grammar n goal y us rest → AreTaken y
goals_taken grammar n goal y us rest f =
    walk_goals (λ x z us rest. AreTaken x → AreTaken z) keeps_taken grammar n goal y us rest f tt

-- ** Solid tokens.

-- neither the token nor the one that it begins is white space or a comment
abbrev pub AllSolid : List Token → Type 0
AllSolid [] = ⊤
AllSolid (t ∷ ts) = (is_trivia t.kind ≡ false) × (is_trivia t.joined ≡ false) × AllSolid ts

all_solid-append : (us vs : List Token) → AllSolid (us ++ vs) → AllSolid us × AllSolid vs
all_solid-append [] vs h = (tt, h)
all_solid-append (u ∷ us) vs h = let r = all_solid-append us vs h.2 in ((h.0, h.1, r.0), r.1)

append-solid : (us vs : List _) → AreSolid us → AreSolid vs → AreSolid (us ++ vs)
append-solid [] vs h k = k
append-solid (u ∷ us) vs h k = (h.0, h.1, append-solid us vs h.2 k)

kind_solid : (whole : Bool) (t : Token) → is_trivia t.kind ≡ false → is_trivia t.joined ≡ false → is_trivia (taken_as whole t) ≡ false
kind_solid true t h k = k
kind_solid false t h k = h

-- what is taken of solid tokens is solid
pub leaves_solid : (z : Forest) → AreTaken z → AllSolid (spell z) → AreSolid (leaves z)
leaves_solid done h s = tt
leaves_solid (leaf kind us x) ((whole, t, vs, is, same, count), h) s =
    let parts = all_solid-append us (spell x) s in
    let first = subst AllSolid is parts.0 in (
      omega (arith, ap length is),
      ap is_trivia same ∙ kind_solid whole t first.0 first.1,
      leaves_solid x h parts.1,
    )
leaves_solid (tree kind kids x) h s =
    let parts = all_solid-append (spell kids) (spell x) s in
    append-solid (leaves kids) (leaves x) (leaves_solid kids h.0 parts.0) (leaves_solid x h.1 parts.1)
