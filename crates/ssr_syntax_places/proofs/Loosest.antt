-- Ranges and assignments, which bind least, are expressions whatever follows.
use Rattle.std.proofs.Common.{◌≡◌, Bool, true, false, if◌then◌else◌, List, [], ◌∷◌, ◌++◌, refl, ◌∙◌}
use Rattle.ssr_syntax_kinds.specs.declared.kinds.SyntaxKind.TheVariants as k
use Rattle.ssr_syntax_kinds.specs.Reach.{is_whole}
use Rattle.ssr_syntax_kinds.specs.declared.reach.Reach.{Reach}
use Rattle.ssr_syntax_forms.specs.declared.tokens.Token.{Token}
use Rattle.ssr_syntax_forms.specs.Kinds.{mem}
use Rattle.ssr_syntax_forms.specs.Trees.{Forest, done, join}
use Rattle.ssr_syntax_forms.specs.Forms.{next, a, any, at, child, seal, ◌then◌, nothing, choose, look, optional, optional_by, choose_by, look_by}
use Rattle.ssr_syntax_forms.proofs.Shared.{every, at_next}
use Rattle.ssr_syntax_types.specs.declared.goals.Goal.TheVariants.{Expr, Operand}
use Rattle.ssr_syntax_types.specs.declared.goals.ExprPlace.TheVariants.{Anywhere}
use Rattle.ssr_syntax_types.specs.PatternSets.{ranges}
use Rattle.ssr_syntax_exprs.specs.Atoms.{leaving_expr, leaving_first, operand_first}
use Rattle.ssr_syntax_exprs.specs.Expressions.{operand, all_ranks, ends_first, range_end, to_range, to_inclusive_range, range, assignments, assignment, range_or_assignment, leading_range, ranked, leaving_or_ranked, expr}
use Rattle.ssr_syntax.specs.Grammar.{grammar}
use Rattle.ssr_syntax_places.specs.Standing.{node, is_token, token_leaf, level, may_follow, Stands, StandsAnywhere}
use Rattle.ssr_syntax_places.proofs.InReach.{FitsIn, token_in, child_in, seal_in, then_in, then_still, first_in, second_in, nothing_in, wide_in, look_in, either_in}
use Rattle.ssr_syntax_places.proofs.Following.{first_told, follows_any, goes_behind, token_follows}

-- ** Behind an operand.

behind_operand : (b : Bool) (x z : Forest) (us vs rest : List Token) → FitsIn b grammar (operand Anywhere all_ranks) done x us (vs ++ rest)
    → FitsIn b grammar (range_or_assignment Anywhere) x z vs rest → FitsIn b grammar (expr Anywhere) done z (us ++ vs) rest
unfolding expr leaving_or_ranked ranked
behind_operand b x z us vs rest f tail =
    let ranked_fits : FitsIn b grammar (ranked Anywhere) done z (us ++ vs) rest =
    second_in b grammar (at ranges) (leading_range Anywhere) (operand Anywhere all_ranks then range_or_assignment Anywhere) done z (us ++ vs) rest
    (then_in b grammar (operand Anywhere all_ranks) (range_or_assignment Anywhere) done x z us vs rest f tail) in
    either_in b grammar (ranked Anywhere) leaving_or_ranked done z (us ++ vs) rest ranked_fits
    (second_in b grammar (at leaving_first) leaving_expr (ranked Anywhere) done z (us ++ vs) rest ranked_fits)

-- ** Ranges.

begins_end : (b : Bool) (x : Forest) (ts : List Token) → mem (next ts) (ends_first Anywhere b) ≡ true → FitsIn b grammar (look_by true (ends_first Anywhere)) x x [] ts
unfolding look_by
begins_end true x ts is =
    wide_in true grammar (look true (at (ends_first Anywhere true))) (look true (at (ends_first Anywhere false))) x x [] ts
    (look_in true grammar true (at (ends_first Anywhere true)) x ts (at_next (ends_first Anywhere true) ts ∙ is))
begins_end false x ts is =
    wide_in false grammar (look true (at (ends_first Anywhere true))) (look true (at (ends_first Anywhere false))) x x [] ts
    (look_in false grammar true (at (ends_first Anywhere false)) x ts (at_next (ends_first Anywhere false) ts ∙ is))

end_fits : (b : Bool) (x y : Forest) (vs rest : List Token) → mem (next (vs ++ rest)) (operand_first b) ≡ true
    → FitsIn b grammar (operand Anywhere all_ranks) done y vs rest → FitsIn b grammar (range_end Anywhere) x (join x y) vs rest
unfolding range_end ends_first grammar
end_fits b x y vs rest begins f =
    then_in b grammar (look_by true (ends_first Anywhere)) (child (Operand Anywhere all_ranks)) x x (join x y) [] vs rest
    (begins_end b x (vs ++ rest) begins) (child_in b grammar (Operand Anywhere all_ranks) x y vs rest f)

range_fits : (b : Bool) (x y : Forest) (dots vs rest : List Token) → is_token (k.DOT2 ∷ []) dots ≡ true → mem (next (vs ++ rest)) (operand_first b) ≡ true
    → FitsIn b grammar (operand Anywhere all_ranks) done y vs rest
    → FitsIn b grammar (range Anywhere) x (node k.RANGE_EXPR (join (join x (token_leaf dots)) y)) (dots ++ vs) rest
unfolding range to_range choose_by
range_fits b x y dots vs rest is begins f =
    let front : Forest = join x (token_leaf dots) in
    let made : Forest = join front y in
    let ended = end_fits b front y vs rest begins f in
    first_in b grammar (at (k.DOT2 ∷ [])) (to_range Anywhere) (to_inclusive_range Anywhere) x (node k.RANGE_EXPR made) (dots ++ vs) rest
    (then_in b grammar (a k.DOT2) (optional_by (ends_first Anywhere) (range_end Anywhere) then seal k.RANGE_EXPR) x front (node k.RANGE_EXPR made) dots vs rest
    (token_in b grammar (k.DOT2 ∷ []) x dots (vs ++ rest) is)
    (then_still b grammar (optional_by (ends_first Anywhere) (range_end Anywhere)) (seal k.RANGE_EXPR) front made (node k.RANGE_EXPR made) vs rest
    (either_in b grammar (choose (at (ends_first Anywhere true)) (range_end Anywhere) nothing) (choose (at (ends_first Anywhere false)) (range_end Anywhere) nothing) front made vs rest
    (first_in b grammar (at (ends_first Anywhere true)) (range_end Anywhere) nothing front made vs rest ended)
    (first_in b grammar (at (ends_first Anywhere false)) (range_end Anywhere) nothing front made vs rest ended))
    (seal_in b grammar k.RANGE_EXPR made rest)))

inclusive_fits : (b : Bool) (x y : Forest) (dots vs rest : List Token) → is_token (k.DOT2EQ ∷ []) dots ≡ true → mem (next (vs ++ rest)) (operand_first b) ≡ true
    → FitsIn b grammar (operand Anywhere all_ranks) done y vs rest
    → FitsIn b grammar (range Anywhere) x (node k.RANGE_EXPR (join (join x (token_leaf dots)) y)) (dots ++ vs) rest
unfolding range to_inclusive_range
inclusive_fits b x y dots vs rest is begins f =
    let front : Forest = join x (token_leaf dots) in
    let made : Forest = join front y in
    second_in b grammar (at (k.DOT2 ∷ [])) (to_range Anywhere) (to_inclusive_range Anywhere) x (node k.RANGE_EXPR made) (dots ++ vs) rest
    (then_in b grammar (a k.DOT2EQ) (range_end Anywhere then seal k.RANGE_EXPR) x front (node k.RANGE_EXPR made) dots vs rest
    (token_in b grammar (k.DOT2EQ ∷ []) x dots (vs ++ rest) is)
    (then_still b grammar (range_end Anywhere) (seal k.RANGE_EXPR) front made (node k.RANGE_EXPR made) vs rest
    (end_fits b front y vs rest begins f) (seal_in b grammar k.RANGE_EXPR made rest)))

ranged : (b : Bool) (x z : Forest) (vs rest : List Token) → FitsIn b grammar (range Anywhere) x z vs rest → FitsIn b grammar (range_or_assignment Anywhere) x z vs rest
unfolding range_or_assignment
ranged b x z vs rest f =
    then_still b grammar (optional ranges (range Anywhere)) (optional assignments (assignment Anywhere)) x z z vs rest
    (first_in b grammar (at ranges) (range Anywhere) nothing x z vs rest f)
    (second_in b grammar (at assignments) (assignment Anywhere) nothing z z [] rest (nothing_in b grammar z rest))

as_operand : (reach : Reach) (callable : Bool) (z : Forest) (us rest : List Token) → Stands reach 12 callable z us → may_follow callable rest ≡ true
    → FitsIn (is_whole reach) grammar (operand Anywhere all_ranks) done z us rest
unfolding level
as_operand reach callable z us rest stands may = stands.fits rest may

pub range_anywhere : (reach : Reach) (called callable : Bool) (x y : Forest) (us dots vs : List Token) → is_token (k.DOT2 ∷ []) dots ≡ true
    → Stands reach 12 called x us → Stands reach 12 callable y vs
    → StandsAnywhere reach (node k.RANGE_EXPR (join (join x (token_leaf dots)) y)) (us ++ (dots ++ vs))
unfolding grammar
range_anywhere reach called callable x y us dots vs is left right rest may =
    let b : Bool = is_whole reach in
    let follows = follows_any callable rest may in
    behind_operand b x (node k.RANGE_EXPR (join (join x (token_leaf dots)) y)) us (dots ++ vs) rest
    (as_operand reach called x us ((dots ++ vs) ++ rest) left (token_follows called (k.DOT2 ∷ []) dots vs rest refl is))
    (ranged b x (node k.RANGE_EXPR (join (join x (token_leaf dots)) y)) (dots ++ vs) rest
    (range_fits b x y dots vs rest is (first_told b (vs ++ rest) (right.begins rest follows)) (as_operand reach callable y vs rest right follows)))

pub inclusive_anywhere : (reach : Reach) (called callable : Bool) (x y : Forest) (us dots vs : List Token) → is_token (k.DOT2EQ ∷ []) dots ≡ true
    → Stands reach 12 called x us → Stands reach 12 callable y vs
    → StandsAnywhere reach (node k.RANGE_EXPR (join (join x (token_leaf dots)) y)) (us ++ (dots ++ vs))
unfolding grammar
inclusive_anywhere reach called callable x y us dots vs is left right rest may =
    let b : Bool = is_whole reach in
    let follows = follows_any callable rest may in
    behind_operand b x (node k.RANGE_EXPR (join (join x (token_leaf dots)) y)) us (dots ++ vs) rest
    (as_operand reach called x us ((dots ++ vs) ++ rest) left (token_follows called (k.DOT2EQ ∷ []) dots vs rest refl is))
    (ranged b x (node k.RANGE_EXPR (join (join x (token_leaf dots)) y)) (dots ++ vs) rest
    (inclusive_fits b x y dots vs rest is (first_told b (vs ++ rest) (right.begins rest follows)) (as_operand reach callable y vs rest right follows)))

-- ** Assignments.

assignments_follow : every goes_behind assignments ≡ true
unfolding assignments
assignments_follow = refl

assigned : (b : Bool) (x y : Forest) (op vs rest : List Token) → is_token assignments op ≡ true → FitsIn b grammar (grammar (Expr Anywhere)) done y vs rest
    → FitsIn b grammar (range_or_assignment Anywhere) x (node k.BIN_EXPR (join (join x (token_leaf op)) y)) (op ++ vs) rest
unfolding range_or_assignment assignment
assigned b x y op vs rest is f =
    let front : Forest = join x (token_leaf op) in
    let made : Forest = join front y in
    then_in b grammar (optional ranges (range Anywhere)) (optional assignments (assignment Anywhere)) x x (node k.BIN_EXPR made) [] (op ++ vs) rest
    (second_in b grammar (at ranges) (range Anywhere) nothing x x [] ((op ++ vs) ++ rest) (nothing_in b grammar x ((op ++ vs) ++ rest)))
    (first_in b grammar (at assignments) (assignment Anywhere) nothing x (node k.BIN_EXPR made) (op ++ vs) rest
    (then_in b grammar (any assignments) (child (Expr Anywhere) then seal k.BIN_EXPR) x front (node k.BIN_EXPR made) op vs rest
    (token_in b grammar assignments x op (vs ++ rest) is)
    (then_still b grammar (child (Expr Anywhere)) (seal k.BIN_EXPR) front made (node k.BIN_EXPR made) vs rest
    (child_in b grammar (Expr Anywhere) front y vs rest f) (seal_in b grammar k.BIN_EXPR made rest))))

pub assignment_anywhere : (reach : Reach) (called : Bool) (x y : Forest) (us op vs : List Token) → is_token assignments op ≡ true
    → Stands reach 12 called x us → StandsAnywhere reach y vs
    → StandsAnywhere reach (node k.BIN_EXPR (join (join x (token_leaf op)) y)) (us ++ (op ++ vs))
unfolding grammar
assignment_anywhere reach called x y us op vs is left right rest may =
    let b : Bool = is_whole reach in
    behind_operand b x (node k.BIN_EXPR (join (join x (token_leaf op)) y)) us (op ++ vs) rest
    (as_operand reach called x us ((op ++ vs) ++ rest) left (token_follows called assignments op vs rest assignments_follow is))
    (assigned b x y op vs rest is (right rest may))
