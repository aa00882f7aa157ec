-- Whatever fits keeps precedence, however the forms of expressions are written: a sketch of what a form has made since
-- the mark knows as much of it as precedence asks.
use Rattle.std.proofs.Common.{◌≡◌, ℕ, zero, suc, ◌+◌, max, ◌<◌, ◌≤◌, nat_le, nat_lt, nat_eq, Bool, true, false, not, ◌&&◌, ◌||◌, if◌then◌else◌, List, [], ◌∷◌, ◌++◌, length, Option, Some, None, ◌⊎◌, inl, inr, refl, sym, ap, subst, ◌∙◌, arith, eqb-true}
use Rattle.std.proofs.lemmas.List.{append_assoc}
use Rattle.std.proofs.lemmas.Bool.{leb-true, ltb-true, lt-ltb, and_from, and_parts, cases_Bool, or_parts}
use Rattle.std.specs.Option.{option_and_then}
use Rattle.ssr_syntax_kinds.specs.Kinds.{same_kind}
use Rattle.ssr_syntax_kinds.specs.Reach.{is_whole}
use Rattle.ssr_syntax_kinds.specs.declared.kinds.SyntaxKind.{SyntaxKind}
use Rattle.ssr_syntax_kinds.specs.declared.kinds.SyntaxKind.TheVariants.{AMP2, BIN_EXPR, LET_EXPR, RANGE_EXPR}
use Rattle.ssr_syntax_kinds.proofs.Shared.{same_kind-equal}
use Rattle.ssr_syntax_kinds.specs.declared.reach.Reach.{Reach}
use Rattle.ssr_syntax_forms.specs.declared.tokens.Token.{Token}
use Rattle.ssr_syntax_types.specs.declared.goals.Goal.{Goal}
use Rattle.ssr_syntax_forms.specs.Kinds.{mem}
use Rattle.ssr_syntax_forms.specs.Trees.{Forest, done, leaf, tree, join}
use Rattle.ssr_syntax_forms.specs.Forms.{Form, Test, one, child, mark, seal, ◌then◌, nothing, choose, many, look, check, wide, agrees, passes, next, is_one, taken_as}
use Rattle.ssr_syntax_forms.specs.Fitting as rules
use Rattle.ssr_syntax.specs.Operands.{row_in, of_ranges, of_operator, of_first_token, precedence, leaving, open_ended, ends_leaving, HasAtMost, HasLess, FirstEnds, FirstHasAtMost, AllHaveLess, Binds, AreOperands, HasOperands, KeepsPrecedenceOf}
use Rattle.ssr_syntax_exprs.specs.Expressions.{assignments, ranks, operator_first}
use Rattle.ssr_syntax.specs.Grammar.{grammar_of}
use Rattle.ssr_syntax_forms.proofs.Shared.{at_next, every, every_mem, one_taken, FitsBelow, Step, Repeats, FitsForm, FitsGoal, at_some_level}
use Rattle.ssr_syntax.proofs.Sketches.{FirstNode, Shape, Front, End, Sketch, AnyFirstHasAtMost, IsFirst, IsShape, first_leaves, IsFront, IsEnd, IsSketch, IsAt, start, lone_front, of_head, token_shape, first_beside, shape_beside, front_beside, end_beside, beside, are_operators, front_before, behind_token, is_guard, end_behind_look, behind_look, binds, covers, leads, are_prefixed, is_known, is_alone, are_below, node_if, may_be_sealed, sealed_at, claimed, end_of_node, end_of, node_of, behind_seal, wider_first, wider_shape, wider_front, wider_end, wider, wider_of, first_within, shape_within, front_within, end_within, within, if_within, turned_front, turned, settled, beside_marked, Claims, claimed_of, made, is_bounded_by, end, goal_claims, AllBounded, no_node, bounded, if_any, any_first, empty, lone_token, lone_node, begun, complete, any_shape, front_closed, front_alone, any_front, closed, guarded, free, known}

-- ** Steps.
some_one : {p q : Sketch} → ◌≡◌ {A = Option Sketch} (Some p) (Some q) → p ≡ q
some_one e = cc

pub went : {A B : Type 0} (o : Option A) (next : A → Option B) (q : B) → option_and_then next o ≡ Some q
    → (m : A) × (o ≡ Some m) × (next m ≡ Some q)
went None next q e = cc
went (Some m) next q e = (m, refl, e)

precedence_join : (reach : Reach) (x y : Forest) → KeepsPrecedenceOf reach x → KeepsPrecedenceOf reach y → KeepsPrecedenceOf reach (join x y)
precedence_join reach done y h k = k
precedence_join reach (leaf kind us x) y h k = precedence_join reach x y h k
precedence_join reach (tree kind kids x) y h k = (h.0, h.1, precedence_join reach x y h.2 k)

first_behind_token : (reach : Reach) (g : FirstNode) (kind : SyntaxKind) (us : List Token) (x : Forest) → IsFirst reach g x → IsFirst reach g (leaf kind us x)
first_behind_token reach no_node kind us x a = a
first_behind_token reach (bounded r) kind us x a = a
first_behind_token reach (if_any r) kind us x a = a
first_behind_token reach any_first kind us x a = a

at_most_looser : (reach : Reach) (a b : ℕ) (kind : SyntaxKind) (kids : Forest) → a ≤ b → HasAtMost reach a kind kids → HasAtMost reach b kind kids
at_most_looser reach a b kind kids le (inl h) = inl (omega (arith, le, h))
at_most_looser reach a b kind kids le (inr m) = inr m

first_looser : (reach : Reach) (a b : ℕ) (x : Forest) → a ≤ b → FirstHasAtMost reach a x → FirstHasAtMost reach b x
first_looser reach a b done le h = absurd h
first_looser reach a b (leaf kind us x) le h = first_looser reach a b x le h
first_looser reach a b (tree kind kids x) le h = at_most_looser reach a b kind kids le h

any_looser : (reach : Reach) (a b : ℕ) (x : Forest) → a ≤ b → AnyFirstHasAtMost reach a x → AnyFirstHasAtMost reach b x
any_looser reach a b done le h = tt
any_looser reach a b (leaf kind us x) le h = any_looser reach a b x le h
any_looser reach a b (tree kind kids x) le h = at_most_looser reach a b kind kids le h

-- there is a first node, or none
any_of_first : (reach : Reach) (a b : ℕ) (x : Forest) → a ≤ b → FirstHasAtMost reach a x → AnyFirstHasAtMost reach b x
any_of_first reach a b done le h = tt
any_of_first reach a b (leaf kind us x) le h = any_of_first reach a b x le h
any_of_first reach a b (tree kind kids x) le h = at_most_looser reach a b kind kids le h

any_of_none : (reach : Reach) (a : ℕ) (x : Forest) → IsFirst reach no_node x → AnyFirstHasAtMost reach a x
any_of_none reach a done h = tt
any_of_none reach a (leaf kind us x) h = any_of_none reach a x h
any_of_none reach a (tree kind kids x) h = absurd h

first_of_any : (reach : Reach) (r s : ℕ) (x y : Forest) → AnyFirstHasAtMost reach r x → FirstHasAtMost reach s y → FirstHasAtMost reach (max r s) (join x y)
first_of_any reach r s done y a b = first_looser reach s (max r s) y (omega arith) b
first_of_any reach r s (leaf kind us x) y a b = first_of_any reach r s x y a b
first_of_any reach r s (tree kind kids x) y a b = at_most_looser reach r (max r s) kind kids (omega arith) a

any_of_both : (reach : Reach) (r s : ℕ) (x y : Forest) → AnyFirstHasAtMost reach r x → AnyFirstHasAtMost reach s y → AnyFirstHasAtMost reach (max r s) (join x y)
any_of_both reach r s done y a b = any_looser reach s (max r s) y (omega arith) b
any_of_both reach r s (leaf kind us x) y a b = any_of_both reach r s x y a b
any_of_both reach r s (tree kind kids x) y a b = at_most_looser reach r (max r s) kind kids (omega arith) a

any_alone : (reach : Reach) (r : ℕ) (x y : Forest) → AnyFirstHasAtMost reach r x → IsFirst reach no_node y → AnyFirstHasAtMost reach r (join x y)
any_alone reach r done y a b = any_of_none reach r y b
any_alone reach r (leaf kind us x) y a b = any_alone reach r x y a b
any_alone reach r (tree kind kids x) y a b = a

first_join : (reach : Reach) (f g : FirstNode) (x y : Forest) → IsFirst reach f x → IsFirst reach g y → IsFirst reach (first_beside f g) (join x y)
first_join reach no_node g done y a b = b
first_join reach no_node g (leaf kind us x) y a b = first_behind_token reach g kind us (join x y) (first_join reach no_node g x y a b)
first_join reach no_node g (tree kind kids x) y a b = absurd a
first_join reach (bounded r) g done y a b = absurd a
first_join reach (bounded r) g (leaf kind us x) y a b = first_join reach (bounded r) g x y a b
first_join reach (bounded r) g (tree kind kids x) y a b = a
first_join reach (if_any r) no_node x y a b = any_alone reach r x y a b
first_join reach (if_any r) (bounded s) x y a b = first_of_any reach r s x y a b
first_join reach (if_any r) (if_any s) x y a b = any_of_both reach r s x y a b
first_join reach (if_any r) any_first x y a b = tt
first_join reach any_first g x y a b = tt

has_less : (reach : Reach) (a b : ℕ) (kind : SyntaxKind) (kids : Forest) → a ≤ b → HasLess reach a kind kids → HasLess reach b kind kids
has_less reach a b kind kids le (inl h) = inl (omega (arith, le, h))
has_less reach a b kind kids le (inr m) = inr m

all_looser : (reach : Reach) (a b : ℕ) (x : Forest) → a ≤ b → AllHaveLess reach a x → AllHaveLess reach b x
all_looser reach a b done le h = tt
all_looser reach a b (leaf kind us x) le h = all_looser reach a b x le h
all_looser reach a b (tree kind kids x) le h = (has_less reach a b kind kids le h.0, all_looser reach a b x le h.1)

all_join : (reach : Reach) (b : ℕ) (x y : Forest) → AllHaveLess reach b x → AllHaveLess reach b y → AllHaveLess reach b (join x y)
all_join reach b done y h k = k
all_join reach b (leaf kind us x) y h k = all_join reach b x y h k
all_join reach b (tree kind kids x) y h k = (h.0, all_join reach b x y h.1 k)

shape_join : (reach : Reach) (c : ℕ) (s t : Shape) (x y : Forest) → AllHaveLess reach c y → IsShape reach s x → IsShape reach t y
    → IsShape reach (shape_beside c s t) (join x y)
shape_join reach c empty t x y all a b = subst (λ w. IsShape reach t (join w y)) (sym a) b
shape_join reach c lone_node (lone_token n) x y all (k, xs, x_is) (op, us, y_is, op_is) =
    (k, xs, op, us, ap (λ w. join w y) x_is ∙ ap (tree k xs) y_is, op_is)
shape_join reach c (begun n) lone_node x y all (k, xs, op, us, x_is, op_is) (j, ys, y_is) = (
  k,
  xs,
  op,
  us,
  j,
  ys,
  ap (λ w. join w y) x_is ∙ ap (λ w. tree k xs (leaf op us w)) y_is,
  op_is,
  (subst (AllHaveLess reach c) y_is all).0,
)
shape_join _ _ _ _ x y all a b = tt

-- ** What ends with what leaves.

-- the first node is that of what stands to the right, where there is none to the left
none_first : (reach : Reach) (x y : Forest) (d : Front) → IsFirst reach no_node x → IsFront d y → IsFront d (join x y)
none_first reach done y d a h = h
none_first reach (leaf kind us x) y front_closed a h = none_first reach x y front_closed a h
none_first reach (leaf kind us x) y front_alone a h = none_first reach x y front_alone a h
none_first reach (leaf kind us x) y any_front a h = tt
none_first reach (tree kind kids x) y d a h = absurd a

apart_first : (x y : Forest) (d : Front) → first_leaves x ≡ false → IsFront d y → IsFront d (join x y)
apart_first done y d a h = h
apart_first (leaf kind us x) y front_closed a h = apart_first x y front_closed a h
apart_first (leaf kind us x) y front_alone a h = apart_first x y front_alone a h
apart_first (leaf kind us x) y any_front a h = tt
apart_first (tree kind kids x) y front_closed a h = a
apart_first (tree kind kids x) y front_alone a h = inr a
apart_first (tree kind kids x) y any_front a h = tt

stays_apart : (reach : Reach) (r : ℕ) (x y : Forest) → FirstHasAtMost reach r x → first_leaves x ≡ false → first_leaves (join x y) ≡ false
stays_apart reach r done y some a = absurd some
stays_apart reach r (leaf kind us x) y some a = stays_apart reach r x y some a
stays_apart reach r (tree kind kids x) y some a = a

front_join : (reach : Reach) (f : FirstNode) (c d : Front) (x y : Forest) → IsFirst reach f x → IsFront c x → IsFront d y
    → IsFront (front_beside f c d) (join x y)
front_join reach no_node c d x y is a h = none_first reach x y d is h
front_join reach any_first front_closed d x y is a h = apart_first x y d a h
front_join reach (if_any r) front_closed d x y is a h = apart_first x y d a h
front_join reach (bounded r) front_closed d x y is a h = stays_apart reach r x y is a
front_join _ _ _ _ x y is a h = tt

ends_join : (before : Bool) (x y : Forest) → ends_leaving before (join x y) ≡ ends_leaving (ends_leaving before x) y
ends_join before done y = refl
ends_join before (leaf kind us x) y = ends_join false x y
ends_join before (tree kind kids x) y = ends_join (mem kind leaving || mem kind open_ended && ends_leaving false kids) x y

-- two forests that are the same end so, whatever stands in front
alone_by : (before : Bool) (y w : Forest) → y ≡ w → ends_leaving before w ≡ ends_leaving false w → ends_leaving before y ≡ ends_leaving false y
alone_by before y w e h = subst (λ m. ends_leaving before m ≡ ends_leaving false m) (sym e) h

end_right : (i : End) (x y : Forest) (rest : List Token) → ends_leaving (ends_leaving false x) y ≡ ends_leaving false y → IsEnd i (ends_leaving false y) rest
    → IsEnd i (ends_leaving false (join x y)) rest
end_right i x y rest same h = subst (λ m. IsEnd i m rest) (sym (ends_join false x y ∙ same)) h

both_closed : (x y : Forest) → ends_leaving false x ≡ false → ends_leaving false y ≡ false → ends_leaving false (join x y) ≡ false
both_closed x y a h = ends_join false x y ∙ ap (λ b. ends_leaving b y) a ∙ h

end_join : (reach : Reach) (t : Shape) (e i : End) (x y : Forest) (ahead rest : List Token) → IsShape reach t y → IsEnd e (ends_leaving false x) ahead
    → IsEnd i (ends_leaving false y) rest → IsEnd (end_beside t e i) (ends_leaving false (join x y)) rest
end_join reach (lone_token n) e i x y ahead rest (op, us, y_is, _) a h =
    end_right i x y rest (alone_by (ends_leaving false x) y (leaf op us done) y_is refl) h
end_join reach lone_node e i x y ahead rest (k, xs, y_is) a h =
    end_right i x y rest (alone_by (ends_leaving false x) y (tree k xs done) y_is refl) h
end_join reach (begun n) e i x y ahead rest (k, xs, op, us, y_is, _) a h =
    end_right i x y rest (alone_by (ends_leaving false x) y (tree k xs (leaf op us done)) y_is refl) h
end_join reach (complete n c) e i x y ahead rest (k, xs, op, us, j, ys, y_is, _, _) a h =
    end_right i x y rest (alone_by (ends_leaving false x) y (tree k xs (leaf op us (tree j ys done))) y_is refl) h
end_join reach empty closed closed x y ahead rest s a h = both_closed x y a h
end_join reach any_shape closed closed x y ahead rest s a h = both_closed x y a h
end_join reach empty closed guarded x y ahead rest s a h = tt
end_join reach empty closed free x y ahead rest s a h = tt
end_join reach empty guarded i x y ahead rest s a h = tt
end_join reach empty free i x y ahead rest s a h = tt
end_join reach any_shape closed guarded x y ahead rest s a h = tt
end_join reach any_shape closed free x y ahead rest s a h = tt
end_join reach any_shape guarded i x y ahead rest s a h = tt
end_join reach any_shape free i x y ahead rest s a h = tt

-- ** Two forests side by side.
sketch_join : (reach : Reach) (p q : Sketch) (x y : Forest) (ahead rest : List Token) → IsSketch reach p x ahead → IsSketch reach q y rest
    → IsSketch reach (beside p q) (join x y) rest
sketch_join reach (known f b s c e) (known g d t h i) x y ahead rest (first, all, shape, front, end) (first', all', shape', front', end') =
    let m : ℕ = max b d in (
      first_join reach f g x y first first',
      all_join reach m x y (all_looser reach b m x (omega arith) all) (all_looser reach d m y (omega arith) all'),
      shape_join reach d s t x y all' shape shape',
      front_join reach f c h x y first front front',
      end_join reach t e i x y ahead rest shape' end end',
    )

joined : (reach : Reach) (p q : Sketch) (x y z : Forest) (ahead rest : List Token) → z ≡ join x y → IsAt reach p x ahead → IsAt reach q y rest
    → IsAt reach (beside p q) z rest
joined reach p q x y z ahead rest e a b =
    subst (λ w. IsAt reach (beside p q) w rest) (sym e) (sketch_join reach p q x y ahead rest a.0 b.0, precedence_join reach x y a.1 b.1)

-- ** Tokens.
token_stands : (reach : Reach) (b : Bool) (n : ℕ) (ks : List SyntaxKind) (kind : SyntaxKind) (us : List Token)
    → every (λ l. nat_eq (of_operator l) n) ks ≡ b → mem kind ks ≡ true → IsShape reach (if b then lone_token n else any_shape) (leaf kind us done)
token_stands reach false n ks kind us all is = tt
token_stands reach true n ks kind us all is =
    (kind, us, refl, eqb-true (of_operator kind) n (every_mem (λ l. nat_eq (of_operator l) n) kind ks all is))

first_before_token : (x : Forest) (kind : SyntaxKind) (us : List Token) → first_leaves (join x (leaf kind us done)) ≡ first_leaves x
first_before_token done kind us = refl
first_before_token (leaf k vs x) kind us = first_before_token x kind us
first_before_token (tree k kids x) kind us = refl

-- a first node that stands alone ends as all of it does
alone_leaves : (before : Bool) (x : Forest) → FirstEnds x → first_leaves x ≡ true → ends_leaving before x ≡ true
alone_leaves before done alone is = cc
alone_leaves before (leaf kind us x) alone is = alone_leaves false x alone is
alone_leaves before (tree kind kids x) (inl e) is =
    subst (λ w. ends_leaving (mem kind leaving || mem kind open_ended && ends_leaving false kids) w ≡ true) (sym e) is
alone_leaves before (tree kind kids x) (inr h) is = absurd (cc (h, is))

closed_front : (x : Forest) → FirstEnds x → ends_leaving false x ≡ false → first_leaves x ≡ false
closed_front x alone h =
    elim (cases_Bool (first_leaves x)) [ inl hit ↦ absurd (cc (alone_leaves false x alone hit, h)) | inr miss ↦ miss ]

-- what leaves has no operator behind it
before_operator : (ks : List SyntaxKind) (leaves : Bool) (ahead : List Token) → are_operators ks ≡ true → mem (next ahead) ks ≡ true
    → IsEnd guarded leaves ahead → leaves ≡ false
before_operator ks false ahead all is h = refl
before_operator ks true ahead all is h = absurd (cc (h refl, every_mem (λ l. mem l operator_first) (next ahead) ks all is))

front_if : (ks : List SyntaxKind) (b : Bool) (x : Forest) (kind : SyntaxKind) (us ahead : List Token) → are_operators ks ≡ b → mem (next ahead) ks ≡ true
    → FirstEnds x → IsEnd guarded (ends_leaving false x) ahead → IsFront (if b then front_closed else any_front) (join x (leaf kind us done))
front_if ks false x kind us ahead all is alone h = tt
front_if ks true x kind us ahead all is alone h =
    first_before_token x kind us ∙ closed_front x alone (before_operator ks (ends_leaving false x) ahead all is h)

token_front : (ks : List SyntaxKind) (c : Front) (e : End) (x : Forest) (kind : SyntaxKind) (us ahead : List Token) → mem (next ahead) ks ≡ true
    → IsFront c x → IsEnd e (ends_leaving false x) ahead → IsFront (front_before ks c e) (join x (leaf kind us done))
token_front ks front_closed e x kind us ahead is a h = first_before_token x kind us ∙ a
token_front ks front_alone closed x kind us ahead is a h = first_before_token x kind us ∙ closed_front x a h
token_front ks front_alone guarded x kind us ahead is a h = front_if ks (are_operators ks) x kind us ahead refl is a h
token_front ks front_alone free x kind us ahead is a h = tt
token_front ks any_front e x kind us ahead is a h = tt

token_at : (reach : Reach) (ks : List SyntaxKind) (p : Sketch) (x z : Forest) (kind : SyntaxKind) (us ahead rest : List Token)
    → z ≡ join x (leaf kind us done) → mem kind ks ≡ true → mem (next ahead) ks ≡ true → IsAt reach p x ahead → IsAt reach (behind_token ks p) z rest
token_at reach ks (known f b s c e) x z kind us ahead rest z_is is is_next at =
    let n : ℕ = of_head ks in
    let y : Forest = leaf kind us done in
    let m : ℕ = max b 0 in
    let shape : IsShape reach (token_shape n ks) y = token_stands reach (every (λ l. nat_eq (of_operator l) n) ks) n ks kind us refl is in
    let sketch : IsSketch reach (behind_token ks (known f b s c e)) (join x y) rest = (
      first_join reach f no_node x y at.0.0 tt,
      all_join reach m x y (all_looser reach b m x (omega arith) at.0.1) tt,
      shape_join reach 0 s (token_shape n ks) x y tt at.0.2 shape,
      token_front ks c e x kind us ahead is_next at.0.3 at.0.4,
      ends_join false x y,
    ) in
    subst (λ w. IsAt reach (behind_token ks (known f b s c e)) w rest) (sym z_is) (sketch, precedence_join reach x y at.1 tt)

-- ** Looks.
guard_next : (want : Bool) (test : Test) (rest : List Token) → is_guard want test ≡ true → agrees want (passes test rest) ≡ true
    → mem (next rest) operator_first ≡ false
guard_next false ((ks ∷ []) ∷ []) rest e h =
    elim (cases_Bool (mem (next rest) operator_first)) [
      | inl hit ↦ absurd (cc (h, at_next ks rest, every_mem (λ l. mem l ks) (next rest) operator_first e hit))
      | inr miss ↦ miss
    ]
guard_next _ _ rest e h = cc

look_end : (e : End) (c leaves : Bool) (rest : List Token) → (c ≡ true → mem (next rest) operator_first ≡ false) → IsEnd e leaves rest
    → IsEnd (end_behind_look e c) leaves rest
look_end free true leaves rest none h = λ _. none refl
look_end free false leaves rest none h = tt
look_end closed c leaves rest none h = h
look_end guarded c leaves rest none h = h

look_at : (reach : Reach) (want : Bool) (test : Test) (p : Sketch) (x : Forest) (rest : List Token) → agrees want (passes test rest) ≡ true → IsAt reach p x rest
    → IsAt reach (behind_look want test p) x rest
look_at reach want test (known f b s c e) x rest passed at = (
  (
    at.0.0,
    at.0.1,
    at.0.2,
    at.0.3,
    look_end e (is_guard want test) (ends_leaving false x) rest (λ is. guard_next want test rest is passed) at.0.4,
  ),
  at.1,
)

-- ** Operators, by their precedence.

some_row : (c : Bool) (r n : ℕ) → r ≤ n → (if c then 0 else suc r) ≤ suc n
some_row true r n le = omega arith
some_row false r n le = omega (arith, le)

row_within : (rows : List (List SyntaxKind)) (kind : SyntaxKind) → row_in rows kind ≤ length rows
row_within [] kind = omega arith
row_within (ks ∷ rows) kind = some_row (mem kind ks) (row_in rows kind) (length rows) (row_within rows kind)

-- Of an operator: c, whether it is an assignment's; r, its row; n, its precedence.
has_row : (c : Bool) (r n : ℕ) → (if c then 1 + of_ranges else 4 + r) ≡ n → n < of_ranges → r < length ranks
has_row true r n e below = absurd (omega (arith, e, below))
has_row false r n e below = omega (arith, e, below)

assigns : (c : Bool) (r n : ℕ) → r ≤ length ranks → (if c then 1 + of_ranges else 4 + r) ≡ n → n ≡ 1 + of_ranges → c ≡ true
assigns true r n le e is = refl
assigns false r n le e is = absurd (omega (arith, le, e, is))

-- t: whether it binds tighter than ranges
bound_by : (reach : Reach) (t : Bool) (op : SyntaxKind) (a c left : ℕ) (kind : SyntaxKind) (kids : Forest) → nat_lt (of_operator op) of_ranges ≡ t
    → (if t then nat_le a (of_operator op) && nat_le c (of_operator op) else nat_eq (of_operator op) (1 + of_ranges) && nat_lt a (of_operator op)) ≡ true
    → left ≤ a → HasLess reach c kind kids → Binds reach op left kind kids
bound_by reach true op a c left kind kids e h le lt =
    let n : ℕ = of_operator op in
    let parts = and_parts (nat_le a n) (nat_le c n) h in
    inl
    (has_row (mem op assignments) (row_in ranks op) n refl (ltb-true n of_ranges e), omega (arith, le, leb-true a n parts.0), has_less reach c n kind kids (leb-true c n parts.1) lt)
bound_by reach false op a c left kind kids e h le lt =
    let n : ℕ = of_operator op in
    let parts = and_parts (nat_eq n (1 + of_ranges)) (nat_lt a n) h in
    inr
    (assigns (mem op assignments) (row_in ranks op) n (row_within ranks op) refl (eqb-true n (1 + of_ranges) parts.0), omega (arith, le, ltb-true a n parts.1))

operator_above : (c : Bool) (r : ℕ) → 3 < (if c then 1 + of_ranges else 4 + r)
operator_above true r = omega arith
operator_above false r = omega arith

-- ** Seals.

first_covered : (reach : Reach) (f : FirstNode) (n : ℕ) (x : Forest) → covers f n ≡ true → IsFirst reach f x → FirstHasAtMost reach n x
first_covered reach (bounded r) n x e h = first_looser reach r n x (leb-true r n e) h
first_covered reach no_node n x e h = cc
first_covered reach (if_any r) n x e h = cc
first_covered reach any_first n x e h = cc

closed_alone : (x : Forest) → first_leaves x ≡ false → FirstEnds x
closed_alone done h = tt
closed_alone (leaf kind us x) h = closed_alone x h
closed_alone (tree kind kids x) h = inr h

front_known : (c : Front) (x : Forest) → is_known c ≡ true → IsFront c x → FirstEnds x
front_known front_closed x e h = closed_alone x h
front_known front_alone x e h = h
front_known any_front x e h = cc

unless : (c d : Bool) → (not c || d) ≡ true → c ≡ true → d ≡ true
unless true d e is = e
unless false d e is = cc

was_node : (c : Bool) (m n : ℕ) → node_if c m ≡ Some n → (c ≡ true) × (m ≡ n)
was_node true m n e = (refl, cc)
was_node false m n e = cc

-- what doesn't end with what leaves binds as its bound says
left_bound : (reach : Reach) (a : ℕ) (kind : SyntaxKind) (kids : Forest) → HasAtMost reach a kind kids → ends_leaving false (tree kind kids done) ≡ false
    → precedence kind kids ≤ a
left_bound reach a kind kids (inl le) h = le
left_bound reach a kind kids (inr may) h =
    absurd
    (cc
    ((and_parts (is_whole reach) (mem kind leaving) may).1, (or_parts (mem kind leaving) (mem kind open_ended && ends_leaving false kids) h).0))

bin_sealed : (reach : Reach) (a n c : ℕ) (x : Forest) → binds n a c ≡ true → FirstHasAtMost reach a x → first_leaves x ≡ false → IsShape reach (complete n c) x
    → (precedence BIN_EXPR x ≡ n) × HasOperands reach BIN_EXPR x
bin_sealed reach a n c x e left front (k, xs, op, us, j, ys, x_is, op_is, right) =
    let n_is : precedence BIN_EXPR x ≡ n = ap of_first_token x_is ∙ op_is in
    let above : 3 < of_operator op = operator_above (mem op assignments) (row_in ranks op) in
    let at_left : precedence k xs ≤ a =
    left_bound reach a k xs (subst (FirstHasAtMost reach a) x_is left) (subst (λ w. first_leaves w ≡ false) x_is front) in
    let ops : Binds reach op (precedence k xs) j ys =
    bound_by reach (nat_lt (of_operator op) of_ranges) op a c (precedence k xs) j ys refl (subst (λ m. binds m a c ≡ true) (sym op_is) e) at_left right in (
      n_is,
      record {
        first = λ some few. absurd (omega (arith, above, op_is, n_is, few));
        prefixed = λ is. absurd (omega (arith, above, op_is, n_is, is));
        alone = λ some. closed_alone x front;
        both = λ bin. subst (AreOperands reach) (sym x_is) ops;
        ends = λ is. cc;
        value = λ is. cc;
      },
    )

-- only of a BIN_EXPR the children tell the precedence
of_kind : (kind : SyntaxKind) (x : Forest) → same_kind kind BIN_EXPR ≡ false → precedence kind x ≡ precedence kind done
of_kind kind x e = rw e refl

other_sealed : (reach : Reach) (kind : SyntaxKind) (p : Sketch) (x : Forest) (rest : List Token) → same_kind kind BIN_EXPR ≡ false
    → may_be_sealed kind (precedence kind done) p ≡ true → IsSketch reach p x rest → HasOperands reach kind x
other_sealed reach kind (known f b s c w) x rest e h (is_first, all, _, front, _) =
    let n : ℕ = precedence kind done in
    let n_is : n ≡ precedence kind x = sym (of_kind kind x e) in
    let halves = and_parts (leads n f && are_prefixed n b) (is_alone n c && are_below kind b) h in
    let in_front = and_parts (leads n f) (are_prefixed n b) halves.0 in
    let others = and_parts (is_alone n c) (are_below kind b) halves.1 in
    let limits = and_parts (not (same_kind kind RANGE_EXPR) || nat_le b of_ranges) (not (same_kind kind LET_EXPR) || nat_le b (of_operator AMP2)) others.1 in
    let first : 0 < n → n < 4 → FirstHasAtMost reach n x =
    λ some few.
    first_covered reach f n x
    (unless (nat_lt 0 n && nat_lt n 4) (covers f n) in_front.0 (and_from (nat_lt 0 n) (nat_lt n 4) (lt-ltb 0 n some) (lt-ltb n 4 few)))
    is_first in
    let prefixed : n ≡ 2 → AllHaveLess reach 3 x =
    λ is.
    all_looser reach b 3 x (leb-true b 3 (unless (nat_eq n 2) (nat_le b 3) in_front.1 (subst (λ m. nat_eq m 2 ≡ true) (sym is) refl))) all in
    let alone : 0 < n → FirstEnds x =
    λ some. front_known c x (unless (nat_lt 0 n) (is_known c) others.0 (lt-ltb 0 n some)) front in
    record {
      first = subst (λ m. 0 < m → m < 4 → FirstHasAtMost reach m x) n_is first;
      prefixed = subst (λ m. m ≡ 2 → AllHaveLess reach 3 x) n_is prefixed;
      alone = subst (λ m. 0 < m → FirstEnds x) n_is alone;
      both = λ bin. absurd (cc (bin, e));
      ends =
          λ is. all_looser reach b of_ranges x (leb-true b of_ranges (unless (same_kind kind RANGE_EXPR) (nat_le b of_ranges) limits.0 is)) all;
      value =
          λ is. all_looser reach b (of_operator AMP2) x
          (leb-true b (of_operator AMP2) (unless (same_kind kind LET_EXPR) (nat_le b (of_operator AMP2)) limits.1 is)) all;
    }

sealed : (reach : Reach) (kind : SyntaxKind) (c : Bool) (p : Sketch) (n : ℕ) (x : Forest) (rest : List Token) → same_kind kind BIN_EXPR ≡ c
    → sealed_at c kind p ≡ Some n → IsSketch reach p x rest → (precedence kind x ≡ n) × HasOperands reach kind x
sealed reach kind false p n x rest is e at =
    let was = was_node (may_be_sealed kind (precedence kind done) p) (precedence kind done) n e in
    (of_kind kind x is ∙ was.1, other_sealed reach kind p x rest is was.0 at)
sealed reach kind true (known (bounded a) b (complete m c) front_closed w) n x rest is e (left, _, shape, front, _) =
    let was = was_node (binds m a c) m n e in
    let done_so = bin_sealed reach a m c x was.0 left front shape in
    subst (λ l. (precedence l x ≡ n) × HasOperands reach l x) (sym (same_kind-equal kind BIN_EXPR is)) (done_so.0 ∙ was.1, done_so.1)
sealed reach kind true _ n x rest is e at = cc

claim_holds : (may : Bool) (l n : ℕ) → l ≡ n → (l ≤ claimed may n) ⊎ (may ≡ true)
claim_holds true l n e = inr refl
claim_holds false l n e = inl (omega (arith, e))

less_by : (l m : ℕ) (may : Bool) → (l ≤ m) ⊎ (may ≡ true) → (l < suc m) ⊎ (may ≡ true)
less_by l m may (inl le) = inl (omega (arith, le))
less_by l m may (inr is) = inr is

node_end : (leaves is_open : Bool) (e : End) (inside : Bool) (rest : List Token) → IsEnd e inside rest
    → IsEnd (end_of_node leaves is_open e) (leaves || is_open && inside) rest
node_end true is_open e inside rest h = tt
node_end false true e inside rest h = h
node_end false false e inside rest h = refl

lone_front_holds : (e : End) (kind : SyntaxKind) (x : Forest) (rest : List Token) → IsEnd e (ends_leaving false (tree kind x done)) rest
    → IsFront (lone_front e) (tree kind x done)
lone_front_holds closed kind x rest h = h
lone_front_holds guarded kind x rest h = inl refl
lone_front_holds free kind x rest h = inl refl

node_at : (reach : Reach) (kind : SyntaxKind) (e : End) (n : ℕ) (q : Sketch) (x : Forest) (rest : List Token) → node_of reach kind e n ≡ Some q
    → precedence kind x ≡ n → IsEnd e (ends_leaving false x) rest → IsSketch reach q (tree kind x done) rest
node_at reach kind e n q x rest is n_is h =
    let may : Bool = is_whole reach && mem kind leaving in
    let i : End = end_of_node (mem kind leaving) (mem kind open_ended) e in
    let most = claim_holds may (precedence kind x) n n_is in
    let end : IsEnd i (ends_leaving false (tree kind x done)) rest = node_end (mem kind leaving) (mem kind open_ended) e (ends_leaving false x) rest h in
    subst (λ m. IsSketch reach m (tree kind x done) rest) (some_one is)
    (most, (less_by (precedence kind x) (claimed may n) may most, tt), (kind, x, refl), lone_front_holds i kind x rest end, end)

sketch_end : (reach : Reach) (p : Sketch) (x : Forest) (rest : List Token) → IsSketch reach p x rest → IsEnd (end_of p) (ends_leaving false x) rest
sketch_end reach (known f b s c e) x rest at = at.4

seal_at : (reach : Reach) (kind : SyntaxKind) (p q : Sketch) (x : Forest) (rest : List Token) → behind_seal reach kind p ≡ Some q → IsAt reach p x rest
    → IsAt reach q (tree kind x done) rest
seal_at reach kind p q x rest e at =
    let w = went (sealed_at (same_kind kind BIN_EXPR) kind p) (node_of reach kind (end_of p)) q e in
    let h = sealed reach kind (same_kind kind BIN_EXPR) p w.0 x rest refl w.1 at.0 in
    (node_at reach kind (end_of p) w.0 q x rest w.2 h.0 (sketch_end reach p x rest at.0), (h.1, at.1, tt))

-- ** Choices and loops.

first_left : (reach : Reach) (f g : FirstNode) (x : Forest) → IsFirst reach f x → IsFirst reach (wider_first f g) x
first_left reach no_node no_node x s = s
first_left reach no_node (bounded b) x s = any_of_none reach b x s
first_left reach no_node (if_any b) x s = any_of_none reach b x s
first_left reach (bounded a) no_node x s = any_of_first reach a a x (omega arith) s
first_left reach (bounded a) (bounded b) x s = first_looser reach a (max a b) x (omega arith) s
first_left reach (bounded a) (if_any b) x s = any_of_first reach a (max a b) x (omega arith) s
first_left reach (if_any a) no_node x s = s
first_left reach (if_any a) (bounded b) x s = any_looser reach a (max a b) x (omega arith) s
first_left reach (if_any a) (if_any b) x s = any_looser reach a (max a b) x (omega arith) s
first_left _ _ _ x s = tt

first_right : (reach : Reach) (f g : FirstNode) (x : Forest) → IsFirst reach g x → IsFirst reach (wider_first f g) x
first_right reach no_node no_node x s = s
first_right reach no_node (bounded b) x s = any_of_first reach b b x (omega arith) s
first_right reach no_node (if_any b) x s = s
first_right reach (bounded a) no_node x s = any_of_none reach a x s
first_right reach (bounded a) (bounded b) x s = first_looser reach b (max a b) x (omega arith) s
first_right reach (bounded a) (if_any b) x s = any_looser reach b (max a b) x (omega arith) s
first_right reach (if_any a) no_node x s = any_of_none reach a x s
first_right reach (if_any a) (bounded b) x s = any_of_first reach b (max a b) x (omega arith) s
first_right reach (if_any a) (if_any b) x s = any_looser reach b (max a b) x (omega arith) s
first_right _ _ _ x s = tt

shape_left : (reach : Reach) (s t : Shape) (x : Forest) → IsShape reach s x → IsShape reach (wider_shape s t) x
shape_left reach empty empty x h = h
shape_left reach lone_node lone_node x h = h
shape_left _ _ _ x h = tt

shape_right : (reach : Reach) (s t : Shape) (x : Forest) → IsShape reach t x → IsShape reach (wider_shape s t) x
shape_right reach empty empty x h = h
shape_right reach lone_node lone_node x h = h
shape_right _ _ _ x h = tt

front_left : (c d : Front) (x : Forest) → IsFront c x → IsFront (wider_front c d) x
front_left front_closed front_closed x h = h
front_left front_closed front_alone x h = closed_alone x h
front_left front_closed any_front x h = tt
front_left front_alone front_closed x h = h
front_left front_alone front_alone x h = h
front_left front_alone any_front x h = tt
front_left any_front front_closed x h = tt
front_left any_front front_alone x h = tt
front_left any_front any_front x h = tt

front_right : (c d : Front) (x : Forest) → IsFront d x → IsFront (wider_front c d) x
front_right front_closed d x h = h
front_right front_alone front_closed x h = closed_alone x h
front_right front_alone front_alone x h = h
front_right front_alone any_front x h = tt
front_right any_front front_closed x h = tt
front_right any_front front_alone x h = tt
front_right any_front any_front x h = tt

end_looser : (leaves : Bool) (rest : List Token) → leaves ≡ false → IsEnd guarded leaves rest
end_looser leaves rest h = λ is. absurd (cc (h, is))

end_left : (e i : End) (leaves : Bool) (rest : List Token) → IsEnd e leaves rest → IsEnd (wider_end e i) leaves rest
end_left closed closed leaves rest h = h
end_left closed guarded leaves rest h = end_looser leaves rest h
end_left closed free leaves rest h = tt
end_left guarded closed leaves rest h = h
end_left guarded guarded leaves rest h = h
end_left guarded free leaves rest h = tt
end_left free closed leaves rest h = tt
end_left free guarded leaves rest h = tt
end_left free free leaves rest h = tt

end_right_of : (e i : End) (leaves : Bool) (rest : List Token) → IsEnd i leaves rest → IsEnd (wider_end e i) leaves rest
end_right_of closed i leaves rest h = h
end_right_of guarded closed leaves rest h = end_looser leaves rest h
end_right_of guarded guarded leaves rest h = h
end_right_of guarded free leaves rest h = tt
end_right_of free closed leaves rest h = tt
end_right_of free guarded leaves rest h = tt
end_right_of free free leaves rest h = tt

wider_left : (reach : Reach) (p q : Sketch) (x : Forest) (rest : List Token) → IsAt reach p x rest → IsAt reach (wider p q) x rest
wider_left reach (known f b s c e) (known g d t h i) x rest ((first, all, shape, front, end), kept) = (
  (
    first_left reach f g x first,
    all_looser reach b (max b d) x (omega arith) all,
    shape_left reach s t x shape,
    front_left c h x front,
    end_left e i (ends_leaving false x) rest end,
  ),
  kept,
)

front_if_turned : (b : Bool) (c : Front) (x : Forest) → IsFront c x → IsFront (if b then c else any_front) x
front_if_turned true c x h = h
front_if_turned false c x h = tt

turned_front_left : (s : Shape) (c d : Front) (x : Forest) → IsFront c x → IsFront (turned_front s c d) x
turned_front_left lone_node c d x h = front_left c d x h
turned_front_left _ c d x h = front_if_turned (front_within d c) c x h

turned_left : (reach : Reach) (p q : Sketch) (x : Forest) (rest : List Token) → IsAt reach p x rest → IsAt reach (turned p q) x rest
turned_left reach (known f b s c e) (known g d t h i) x rest ((first, all, shape, front, end), kept) = (
  (
    first_left reach f g x first,
    all_looser reach b (max b d) x (omega arith) all,
    shape_left reach s t x shape,
    turned_front_left (wider_shape s t) c h x front,
    end_left e i (ends_leaving false x) rest end,
  ),
  kept,
)

wider_right : (reach : Reach) (p q : Sketch) (x : Forest) (rest : List Token) → IsAt reach q x rest → IsAt reach (wider p q) x rest
wider_right reach (known f b s c e) (known g d t h i) x rest ((first, all, shape, front, end), kept) = (
  (
    first_right reach f g x first,
    all_looser reach d (max b d) x (omega arith) all,
    shape_right reach s t x shape,
    front_right c h x front,
    end_right_of e i (ends_leaving false x) rest end,
  ),
  kept,
)

both_made : (o u : Option Sketch) (q : Sketch) → wider_of o u ≡ Some q
    → (a : Sketch) × (b : Sketch) × (o ≡ Some a) × (u ≡ Some b) × (wider a b ≡ q)
both_made (Some a) (Some b) q e = (a, b, refl, refl, some_one e)
both_made (Some a) None q e = cc
both_made None u q e = cc

first_stands : (reach : Reach) (f g : FirstNode) (x : Forest) → first_within f g ≡ true → IsFirst reach f x → IsFirst reach g x
first_stands reach no_node no_node x e s = s
first_stands reach no_node (if_any b) x e s = any_of_none reach b x s
first_stands reach (bounded a) (bounded b) x e s = first_looser reach a b x (leb-true a b e) s
first_stands reach (bounded a) (if_any b) x e s = any_of_first reach a b x (leb-true a b e) s
first_stands reach (if_any a) (if_any b) x e s = any_looser reach a b x (leb-true a b e) s
first_stands _ _ any_first x e s = tt
first_stands _ _ _ x e s = cc

shape_stands : (reach : Reach) (s t : Shape) (x : Forest) → shape_within s t ≡ true → IsShape reach s x → IsShape reach t x
shape_stands reach empty empty x e h = h
shape_stands reach lone_node lone_node x e h = h
shape_stands _ _ any_shape x e h = tt
shape_stands _ _ _ x e h = cc

front_stands : (c d : Front) (x : Forest) → front_within c d ≡ true → IsFront c x → IsFront d x
front_stands front_closed front_closed x e h = h
front_stands front_closed front_alone x e h = closed_alone x h
front_stands front_closed any_front x e h = tt
front_stands front_alone front_alone x e h = h
front_stands front_alone any_front x e h = tt
front_stands any_front any_front x e h = tt
front_stands _ _ x e h = cc

end_stands : (e i : End) (leaves : Bool) (rest : List Token) → end_within e i ≡ true → IsEnd e leaves rest → IsEnd i leaves rest
end_stands closed closed leaves rest is h = h
end_stands closed guarded leaves rest is h = end_looser leaves rest h
end_stands closed free leaves rest is h = tt
end_stands guarded guarded leaves rest is h = h
end_stands guarded free leaves rest is h = tt
end_stands free free leaves rest is h = tt
end_stands _ _ leaves rest is h = cc

within_stands : (reach : Reach) (p q : Sketch) (x : Forest) (rest : List Token) → within p q ≡ true → IsAt reach p x rest → IsAt reach q x rest
within_stands reach (known f b s c e) (known g d t h i) x rest is ((first, all, shape, front, end), kept) =
    let halves = and_parts (first_within f g && nat_le b d) (shape_within s t && (front_within c h && end_within e i)) is in
    let nodes = and_parts (first_within f g) (nat_le b d) halves.0 in
    let others = and_parts (shape_within s t) (front_within c h && end_within e i) halves.1 in
    let last = and_parts (front_within c h) (end_within e i) others.1 in (
      (
        first_stands reach f g x nodes.0 first,
        all_looser reach b d x (leb-true b d nodes.1) all,
        shape_stands reach s t x others.0 shape,
        front_stands c h x last.0 front,
        end_stands e i (ends_leaving false x) rest last.1 end,
      ),
      kept,
    )

was_within : (w m q : Sketch) → if_within w m ≡ Some q → (within m w ≡ true) × (w ≡ q)
was_within w m q e =
    elim (cases_Bool (within m w)) [ inl hit ↦ (hit, some_one (rw hit at e)) | inr miss ↦ absurd (cc (rw miss at e)) ]

-- the tokens ahead, where some are taken first
ahead_of : (reach : Reach) (p : Sketch) (x : Forest) (us taken left rest : List Token) → us ≡ taken ++ left → IsAt reach p x (us ++ rest)
    → IsAt reach p x (taken ++ (left ++ rest))
ahead_of reach p x us taken left rest e at =
    subst (IsAt reach p x) (ap (λ w. w ++ rest) e ∙ append_assoc taken left rest) at

none_taken : (reach : Reach) (p : Sketch) (x : Forest) (us rest : List Token) → us ≡ [] → IsAt reach p x (us ++ rest) → IsAt reach p x rest
none_taken reach p x us rest e at = subst (λ w. IsAt reach p x (w ++ rest)) e at

repeats_at : (reach : Reach) (step : Step) (w : Sketch)
    → ((x z : Forest) (us rest : List Token) → step x z us rest → IsAt reach w x (us ++ rest) → IsAt reach w z rest)
    → (n : ℕ) (x z : Forest) (us rest : List Token) → Repeats n step x z us rest → IsAt reach w x (us ++ rest) → IsAt reach w z rest
repeats_at reach step w h zero x z us rest (us_is, z_is) at =
    subst (λ m. IsAt reach w m rest) (sym z_is) (none_taken reach w x us rest us_is at)
repeats_at reach step w h (suc n) x z us rest (mid, taken, left, us_is, one_turn, turns_left) at =
    repeats_at reach step w h n mid z left rest turns_left
    (h x mid taken (left ++ rest) one_turn (ahead_of reach w x us taken left rest us_is at))

-- ** Forms.

-- a tree of a goal is a node of at most the precedence that is claimed
abbrev AreBounded : Reach → Claims → FitsBelow Goal → Type 0
AreBounded reach claims fits = (goal : Goal) (y : Forest) (us rest : List Token) → fits goal y us rest → IsAt reach (claimed_of claims goal) y rest

one_next : (whole : Bool) (ks : List SyntaxKind) (t : Token) → is_one whole ks t ≡ true → mem t.joined ks ≡ true
one_next true ks t h = h
one_next false ks t h = (and_parts (mem t.joined ks) (mem t.kind ks) h).0

nothing_made : (reach : Reach) (ahead : List Token) → IsAt reach start done ahead
nothing_made reach ahead = ((tt, tt, refl, refl, refl), tt)

keeps : (reach : Reach) (claims : Claims) (fits : FitsBelow Goal) → AreBounded reach claims fits → (form : Form Goal) (p q : Sketch)
    → made reach claims form p ≡ Some q → (x z : Forest) (us rest : List Token) → FitsForm fits form x z us rest → IsAt reach p x (us ++ rest)
    → IsAt reach q z rest
keeps reach claims fits h (one whole ks) p q e x z us rest (front, others, us_is, is, _, z_is) at =
    subst (λ m. IsAt reach m z rest) (some_one e)
    (token_at reach ks p x z (taken_as whole front) (front ∷ others) (front ∷ (others ++ rest)) rest z_is (one_taken whole ks front is) (one_next whole ks front is)
    (subst (λ w. IsAt reach p x (w ++ rest)) us_is at))
keeps reach claims fits h (child asked) p q e x z us rest (y, y_fits, z_is) at =
    subst (λ m. IsAt reach m z rest) (some_one e)
    (joined reach p (claimed_of claims asked) x y z (us ++ rest) rest z_is at (h asked y us rest y_fits))
keeps reach claims fits h (mark g) p q e x z us rest (y, y_fits, z_is) at =
    let m = went (made reach claims g start) (beside_marked p) q e in
    let b = keeps reach claims fits h g start m.0 m.1 done y us rest y_fits (nothing_made reach (us ++ rest)) in
    subst (λ w. IsAt reach w z rest) (some_one m.2) (joined reach p m.0 x y z (us ++ rest) rest z_is at b)
keeps reach claims fits h (seal kind) p q e x z us rest (us_is, z_is) at =
    subst (λ w. IsAt reach q w rest) (sym z_is) (seal_at reach kind p q x rest e (none_taken reach p x us rest us_is at))
keeps reach claims fits h (g then k) p q e x z us rest (mid, taken, left, us_is, before, after) at =
    let w = went (made reach claims g p) (made reach claims k) q e in
    keeps reach claims fits h k w.0 q w.2 mid z left rest after
    (keeps reach claims fits h g p w.0 w.1 x mid taken (left ++ rest) before (ahead_of reach p x us taken left rest us_is at))
keeps reach claims fits h nothing p q e x z us rest (us_is, z_is) at =
    subst (λ m. IsAt reach m z rest) (some_one e) (subst (λ w. IsAt reach p w rest) (sym z_is) (none_taken reach p x us rest us_is at))
keeps reach claims fits h (choose test g k) p q e x z us rest (inl f) at =
    let w = both_made (made reach claims g p) (made reach claims k p) q e in
    subst (λ m. IsAt reach m z rest) w.4 (wider_left reach w.0 w.1 z rest (keeps reach claims fits h g p w.0 w.2 x z us rest f at))
keeps reach claims fits h (choose test g k) p q e x z us rest (inr f) at =
    let w = both_made (made reach claims g p) (made reach claims k p) q e in
    subst (λ m. IsAt reach m z rest) w.4 (wider_right reach w.0 w.1 z rest (keeps reach claims fits h k p w.1 w.3 x z us rest f at))
keeps reach claims fits h (many test g) p q e x z us rest (count, turns_taken) at =
    let a = went (made reach claims g p) (λ m. settled (made reach claims g) (turned p m)) q e in
    let w : Sketch = turned p a.0 in
    let b = went (made reach claims g w) (if_within w) q a.2 in
    let c = was_within w b.0 q b.2 in
    let turn : (x z : Forest) (us rest : List Token) → FitsForm fits g x z us rest → IsAt reach w x (us ++ rest) → IsAt reach w z rest =
    λ x z us rest f at. within_stands reach b.0 w z rest c.0 (keeps reach claims fits h g w b.0 b.1 x z us rest f at) in
    subst (λ m. IsAt reach m z rest) c.1
    (repeats_at reach (FitsForm fits g) w turn count x z us rest turns_taken (turned_left reach p a.0 x (us ++ rest) at))
keeps reach claims fits h (look want test) p q e x z us rest (us_is, z_is, passed) at =
    subst (λ m. IsAt reach m z rest) (some_one e)
    (subst (λ w. IsAt reach (behind_look want test p) w rest) (sym z_is) (look_at reach want test p x rest passed (none_taken reach p x us rest us_is at)))
keeps reach claims fits h (check condition) p q e x z us rest (us_is, z_is, _) at =
    subst (λ m. IsAt reach m z rest) (some_one e) (subst (λ w. IsAt reach p w rest) (sym z_is) (none_taken reach p x us rest us_is at))
keeps reach claims fits h (wide f g) p q e x z us rest fit at = keeps reach claims fits h g p q e x z us rest fit at

-- ** The grammar.
was_bounded : (o : Option Sketch) (w : Sketch) → is_bounded_by o w ≡ true → (q : Sketch) × (o ≡ Some q) × (within q w ≡ true)
was_bounded None w e = cc
was_bounded (Some q) w e = (q, refl, e)

goals_bounded : (reach : Reach) → AllBounded reach → (n : ℕ) → AreBounded reach goal_claims (FitsGoal (grammar_of reach) n)
unfolding FitsGoal
goals_bounded reach all zero goal y us rest f = absurd f
goals_bounded reach all (suc n) goal y us rest f =
    let b = was_bounded (made reach goal_claims (grammar_of reach goal) start) (claimed_of goal_claims goal) (all goal) in
    within_stands reach b.0 (claimed_of goal_claims goal) y rest b.2
    (keeps reach goal_claims (FitsGoal (grammar_of reach) n) (goals_bounded reach all n) (grammar_of reach goal) start b.0 b.1 done y us rest f
    (nothing_made reach (us ++ rest)))

pub precedence_kept : (reach : Reach) → AllBounded reach → (goal : Goal) (z : Forest) (us rest : List Token)
    → rules.Fits (grammar_of reach) (grammar_of reach goal) done z us rest → KeepsPrecedenceOf reach z
precedence_kept reach all goal z us rest f =
    let a = at_some_level (grammar_of reach) goal z us rest f in (goals_bounded reach all a.0 goal z us rest a.1).1
