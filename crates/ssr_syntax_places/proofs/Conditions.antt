-- What the grammar asks of tokens is met with other nodes in the places of some, if each of these meets it where the old one does.
use Rattle.std.proofs.Common.{◌≡◌, Bool, true, false, not, ◌&&◌, List, [], ◌∷◌, ◌++◌, refl, sym, ap, ◌∙◌}
use Rattle.std.proofs.lemmas.List.{append-nil}
use Rattle.std.proofs.lemmas.Bool.{and_from, and_parts}
use Rattle.std.proofs.Math.Bool.{and_assoc}
use Rattle.ssr_syntax_kinds.specs.declared.kinds.SyntaxKind.{SyntaxKind}
use Rattle.ssr_syntax_forms.specs.declared.tokens.Token.{Token}
use Rattle.ssr_syntax_forms.specs.Kinds.{mem}
use Rattle.ssr_syntax_forms.specs.Forms.{Condition, none_is, last_isnt, Productions, holds}
use Rattle.ssr_syntax_forms.specs.Trees.{Forest, spell}
use Rattle.ssr_syntax_places.specs.Placing.{Own, Puts, no_tree, same_leaf, kept, put, begins_open}

is_empty : List Token → Bool
is_empty [] = true
is_empty (t ∷ ts) = false

-- other tokens meet the condition where these do, and there are some where there are some
record Meets (condition : Condition) (us vs : List Token) : Type 0 where
  holding : holds condition us ≡ true → holds condition vs ≡ true
  empty : is_empty us ≡ is_empty vs

none_append : (ks : List SyntaxKind) (us vs : List Token) → holds (none_is ks) (us ++ vs) ≡ (holds (none_is ks) us && holds (none_is ks) vs)
none_append ks [] vs = refl
none_append ks (t ∷ us) vs =
    ap (λ w. not (mem t.kind ks) && w) (none_append ks us vs) ∙ sym (and_assoc (not (mem t.kind ks)) (holds (none_is ks) us) (holds (none_is ks) vs))

last_append : (ks : List SyntaxKind) (us : List Token) (t : Token) (vs : List Token) → holds (last_isnt ks) (us ++ t ∷ vs) ≡ holds (last_isnt ks) (t ∷ vs)
last_append ks [] t vs = refl
last_append ks (u ∷ []) t vs = refl
last_append ks (u ∷ v ∷ us) t vs = last_append ks (v ∷ us) t vs

empty_append : (us vs us' vs' : List Token) → is_empty us ≡ is_empty us' → is_empty vs ≡ is_empty vs' → is_empty (us ++ vs) ≡ is_empty (us' ++ vs')
unfolding is_empty
empty_append [] vs [] vs' e d = d
empty_append [] vs (t ∷ us') vs' e d = absurd (cc)
empty_append (t ∷ us) vs [] vs' e d = absurd (cc)
empty_append (t ∷ us) vs (u ∷ us') vs' e d = refl

none_meets : (ks : List SyntaxKind) (us vs us' vs' : List Token) → Meets (none_is ks) us us' → Meets (none_is ks) vs vs'
    → holds (none_is ks) (us ++ vs) ≡ true → holds (none_is ks) (us' ++ vs') ≡ true
none_meets ks us vs us' vs' a b h =
    let halves = and_parts (holds (none_is ks) us) (holds (none_is ks) vs) (sym (none_append ks us vs) ∙ h) in
    none_append ks us' vs' ∙ and_from (holds (none_is ks) us') (holds (none_is ks) vs') (a.holding halves.0) (b.holding halves.1)

last_meets : (ks : List SyntaxKind) (us vs us' vs' : List Token) → Meets (last_isnt ks) us us' → Meets (last_isnt ks) vs vs'
    → holds (last_isnt ks) (us ++ vs) ≡ true → holds (last_isnt ks) (us' ++ vs') ≡ true
unfolding is_empty
last_meets ks us [] us' [] a b h = ap (holds (last_isnt ks)) (append-nil us') ∙ a.holding (sym (ap (holds (last_isnt ks)) (append-nil us)) ∙ h)
last_meets ks us [] us' (u ∷ vs') a b h = absurd (cc (b.empty))
last_meets ks us (t ∷ vs) us' [] a b h = absurd (cc (b.empty))
last_meets ks us (t ∷ vs) us' (u ∷ vs') a b h = last_append ks us' u vs' ∙ b.holding (sym (last_append ks us t vs) ∙ h)

both_meet : (condition : Condition) (us vs us' vs' : List Token) → Meets condition us us' → Meets condition vs vs' → Meets condition (us ++ vs) (us' ++ vs')
both_meet (none_is ks) us vs us' vs' a b = record { holding = none_meets ks us vs us' vs' a b; empty = empty_append us vs us' vs' a.empty b.empty }
both_meet (last_isnt ks) us vs us' vs' a b = record { holding = last_meets ks us vs us' vs' a b; empty = empty_append us vs us' vs' a.empty b.empty }

same_meets : (condition : Condition) (us : List Token) → Meets condition us us
same_meets condition us = record { holding = λ h. h; empty = refl }

open_not_empty : (us : List Token) → begins_open us ≡ true → is_empty us ≡ false
unfolding is_empty
open_not_empty [] h = absurd (cc)
open_not_empty (t ∷ us) h = refl

spelled_meets : {Goal : Type 0} (grammar : Productions Goal) (own : Own Goal) (condition : Condition) → own.asks condition ≡ true → (x y : Forest)
    → Puts grammar own x y → Meets condition (spell x) (spell y)
spelled_meets grammar own condition asks _ _ no_tree = same_meets condition []
spelled_meets grammar own condition asks _ _ (same_leaf {us = us} {x = x} {y = y} p) =
    both_meet condition us (spell x) us (spell y) (same_meets condition us) (spelled_meets grammar own condition asks x y p)
spelled_meets grammar own condition asks _ _ (kept {kids = kids} {others = others} {x = x} {y = y} q p) =
    both_meet condition (spell kids) (spell x) (spell others) (spell y) (spelled_meets grammar own condition asks kids others q)
    (spelled_meets grammar own condition asks x y p)
spelled_meets grammar own condition asks _ _ (put {old = old} {new = new} {x = x} {y = y} is old_open new_open meets fits p) =
    both_meet condition (spell old) (spell x) (spell new) (spell y)
    (record { holding = meets condition asks; empty = open_not_empty (spell old) old_open ∙ sym (open_not_empty (spell new) new_open) })
    (spelled_meets grammar own condition asks x y p)

pub condition_kept : {Goal : Type 0} (grammar : Productions Goal) (own : Own Goal) (condition : Condition) (x y : Forest) → own.asks condition ≡ true
    → Puts grammar own x y → holds condition (spell x) ≡ true → holds condition (spell y) ≡ true
condition_kept grammar own condition x y asks p h = (spelled_meets grammar own condition asks x y p).holding h
