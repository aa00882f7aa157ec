-- Whether a forest fits a goal is decided: by the way back over the goal's form, from what is made to nothing.
use Rattle.std.specs.Prelude.{ℕ, zero, suc, ◌+◌, nat_eq, Bool, true, false, ◌||◌, ◌&&◌, List, ◌∷◌, ◌++◌, length, Option, Some, None}
use Rattle.ssr_syntax_kinds.specs.declared.kinds.SyntaxKind.{SyntaxKind}
use Rattle.ssr_syntax_kinds.specs.Kinds.{same_kind}
use Rattle.ssr_syntax_forms.specs.declared.tokens.Token.{Token}
use Rattle.ssr_syntax_forms.specs.Trees.{Forest, done, leaf, tree, join, spell}
use Rattle.ssr_syntax_forms.specs.Forms.{Productions, Form, one, child, mark, seal, ◌then◌, nothing, choose, many, look, check, wide, is_one, more, taken_as, passes, agrees, holds, SoFar, so_far}

-- how many nodes and tokens a forest has
abbrev pub size : Forest → ℕ
size done = 0
size (leaf kind tokens x) = 1 + size x
size (tree kind kids x) = 1 + (size kids + size x)

-- The trees in front of the last one, and the last one alone; nothing where there is no tree.
abbrev pub behind_first : Forest → Option (Forest × Forest) → Forest × Forest
behind_first first None = (done, first)
behind_first first (Some c) = (join first c.0, c.1)

abbrev pub last_cut : Forest → Option (Forest × Forest)
last_cut done = None
last_cut (leaf kind tokens x) = Some (behind_first (leaf kind tokens done) (last_cut x))
last_cut (tree kind kids x) = Some (behind_first (tree kind kids done) (last_cut x))

-- ** One step back. `start` tells at which stages of a reading the way back may end.
abbrev pub Stages : Type 0
Stages = SoFar → Bool

-- nothing is made
abbrev pub is_empty : Stages
is_empty r = elim r.made [ done ↦ true | _ ↦ false ]

-- the forest is one token of these kinds, whole or in its first part
abbrev pub is_token : Bool → List SyntaxKind → Forest → Bool
is_token whole ks (leaf kind (t ∷ us) done) =
    is_one whole ks t && (nat_eq (more whole t) (length us) && same_kind kind (taken_as whole t))
is_token whole ks _ = false

-- the last tree passes, and in front of it is a start
abbrev pub at_cut : (Forest → Bool) → Stages → List Token → Option (Forest × Forest) → Bool
at_cut test start rest None = false
at_cut test start rest (Some c) = test c.1 && start (so_far c.0 (spell c.1 ++ rest))

abbrev pub cut_off : (Forest → Bool) → Stages → Stages
cut_off test start r = at_cut test start r.rest (last_cut r.made)

-- a node of the kind stands alone, and what is below it is a start
abbrev pub unsealed : SyntaxKind → Stages → Stages
unsealed kind start r = elim r.made [ tree k kids done ↦ same_kind k kind && start (so_far kids r.rest) | _ ↦ false ]

-- at most so many steps back
abbrev pub steps_back : (Stages → Stages) → ℕ → Stages → Stages
steps_back step zero start r = start r
steps_back step (suc n) start r = start r || steps_back step n (step start) r

-- ** The way back over a form: the form leads to here from a start. `below goal r` decides for the goals in it.
abbrev pub reached : {Goal : Type 0} → (Goal → Stages) → Form Goal → Stages → Stages
reached below (one whole ks) start r = cut_off (is_token whole ks) start r
reached below (child goal) start r = cut_off (λ y. below goal (so_far y r.rest)) start r
reached below (mark f) start r = cut_off (λ y. reached below f is_empty (so_far y r.rest)) start r
reached below (seal kind) start r = unsealed kind start r
reached below (f then g) start r = reached below g (reached below f start) r
reached below nothing start r = start r
reached below (choose test f g) start r = reached below f start r || reached below g start r
reached below (many test f) start r = steps_back (reached below f) (size r.made) start r
reached below (look want test) start r = agrees want (passes test r.rest) && start r
reached below (check condition) start r = holds condition (spell r.made) && start r
reached below (wide f g) start r = reached below g start r

-- what is made is one of the goal, with at most so many levels of goals
abbrev pub decide_at : {Goal : Type 0} → Productions Goal → ℕ → Goal → Stages
decide_at grammar zero goal r = false
decide_at grammar (suc n) goal r = reached (decide_at grammar n) (grammar goal) is_empty r
