-- A token of a text is joint just where the next one is punctuation.
use Rattle.std.proofs.Common.{◌≡◌, ℕ, suc, zero, ◌+◌, ◌-◌, List, [], ◌∷◌, length, refl, subst}
use Rattle.std.specs.Prelude.{Option, Some, None}
use Rattle.std.specs.Option.{option_map, option_and_then}
use Rattle.std.specs.Str.{chars}
use Rattle.ssr_syntax_lex.specs.Cursor.{Chars}
use Rattle.ssr_syntax_lex.specs.Raw.{Taken, token}
use Rattle.ssr_syntax_lex.specs.Tokens.{size, range_of, begins_with_punctuation, in_front, dots_behind, tokens_from, tokens}
use Rattle.ssr_syntax_kinds.specs.declared.kinds.SyntaxKind.{SyntaxKind}
use Rattle.ssr_syntax_kinds.specs.declared.range.TextRange.{TextRange}
use Rattle.ssr_syntax_lex.specs.declared.tokens.RawToken.{RawToken}
use Rattle.std.proofs.lemmas.Option.{same_Some}

-- each token is joint just where the next one is punctuation
abbrev pub AreJoint : List RawToken → Type 0
AreJoint [] = Unit {0}
AreJoint (t ∷ ts) = (t.joint ≡ begins_with_punctuation ts) × AreJoint ts

abbrev JointRest : ℕ → Type 0
JointRest fuel = (start dots : ℕ) (cs : Chars) (ts : List RawToken) → tokens_from fuel start dots cs ≡ Some ts → AreJoint ts

rest_joint : (fuel start dots : ℕ) (rest : Chars) (kind : SyntaxKind) (range : TextRange) (ts : List RawToken) (o : Option (List RawToken)) → JointRest fuel → tokens_from fuel start dots rest ≡ o → option_map (in_front kind range) o ≡ Some ts → AreJoint ts
rest_joint fuel start dots rest kind range ts None others is e = absurd (cc)
rest_joint fuel start dots rest kind range ts (Some us) others is e = subst AreJoint (same_Some _ _ e) (refl, others start dots rest us is)

token_joint : (fuel start dots here : ℕ) (ts : List RawToken) (o : Option Taken) → JointRest fuel → option_and_then (λ (taken : Taken). let count : ℕ = here - size taken.1 in option_map (in_front taken.0 (range_of start count)) (tokens_from fuel (start + count) (dots_behind dots taken.0) taken.1)) o ≡ Some ts → AreJoint ts
token_joint fuel start dots here ts None others e = absurd (cc)
token_joint fuel start dots here ts (Some taken) others e =
    let count : ℕ = here - size taken.1 in
    rest_joint fuel (start + count) (dots_behind dots taken.0) taken.1 taken.0 (range_of start count) ts
    (tokens_from fuel (start + count) (dots_behind dots taken.0) taken.1) others refl e

all_joint : (fuel : ℕ) → JointRest fuel
all_joint fuel start dots [] ts e = subst AreJoint (same_Some _ _ e) tt
all_joint zero start dots (c ∷ cs) ts e = absurd (cc)
all_joint (suc fuel) start dots (c ∷ cs) ts e = token_joint fuel start dots (size (c ∷ cs)) ts (token dots (c ∷ cs)) (all_joint fuel) e

pub tokens_joint : (text : List ℕ) (ts : List RawToken) → tokens text ≡ Some ts → AreJoint ts
unfolding tokens
tokens_joint text ts e = all_joint (length (chars text)) 0 0 (chars text) ts e
