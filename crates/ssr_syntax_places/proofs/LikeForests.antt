-- The forest behind a tree, and that which the kinds of the tree's tokens tell.
use Rattle.std.proofs.Common.{◌≡◌, ℕ, ◌+◌, ◌-◌, ◌<◌, nat_eq, Bool, true, false, not, ◌&&◌, if◌then◌else◌, List, [], ◌∷◌, ◌++◌, length, ◌⊎◌, inl, inr, refl, sym, ap, subst, ◌∙◌, arith}
use Rattle.std.specs.Prelude.{⊤, replicate}
use Rattle.std.proofs.lemmas.List.{length-append, length-replicate}
use Rattle.std.proofs.lemmas.Bool.{and_from, and_parts, eqb-true}
use Rattle.std.proofs.Math.Bool.{or-false}
use Rattle.ssr_syntax_kinds.specs.Kinds.{same_kind, is_trivia}
use Rattle.ssr_syntax_kinds.specs.declared.kinds.SyntaxKind.{SyntaxKind}
use Rattle.ssr_syntax_kinds.proofs.Shared.{same_kind-equal, equal-same_kind}
use Rattle.ssr_syntax_tree.specs.Syntax as plain
use Rattle.ssr_syntax_forms.specs.declared.tokens.Token.{Token}
use Rattle.ssr_syntax_forms.specs.Forms.{more, taken_as}
use Rattle.ssr_syntax_forms.specs.Kinds.{mem}
use Rattle.ssr_syntax_forms.specs.Trees.{Forest, done, leaf, tree, spell}
use Rattle.ssr_syntax_forms.proofs.Shared.{every, every_mem}
use Rattle.ssr_syntax_types.specs.Types.{ampersands}
use Rattle.ssr_syntax_rows.specs.Lossless.{gap, behind_gap, upto, past, before, behind, lossless}
use Rattle.ssr_syntax_rows.proofs.Shared.{AreTaken, IsTaken}
use Rattle.ssr_syntax_places.specs.Core.{Holes, is_no_hole, are_spelled, is_leaf, is_ampersand, is_single}
use Rattle.ssr_syntax_places.specs.PlainCore.{of_two, of_three, size_of_kind, solid_size, tokens_like, forest_in}
use Rattle.ssr_syntax_places.specs.Standing.{is_token}
use Rattle.ssr_syntax_places.proofs.Misnamed.{AllTrivia}
use Rattle.ssr_syntax_places.proofs.PartLeaves.{any_part, other_part, IsWholeLeaf, IsPartLeaf, HasLeaves, HasParts}
use Rattle.ssr_syntax_places.proofs.Pieces.{gap_all}
use Rattle.ssr_syntax_places.proofs.TokenSizes.{IsSized, AreSized}

-- ** Tokens by their kinds.

-- each token with others of its kind
abbrev pub like : Forest → Forest
like done = done
like (leaf kind us x) = leaf kind (tokens_like kind) (like x)
like (tree kind kids x) = tree kind (like kids) (like x)

some_size : (three two : Bool) → 0 < (if three then 3 else if two then 2 else 1)
some_size true two = omega arith
some_size false true = omega arith
some_size false false = omega arith

like_length : (kind : SyntaxKind) → length (tokens_like kind) ≡ size_of_kind kind
like_length kind =
    let token : Token = record { kind = kind; joined = kind; size = size_of_kind kind } in
    let rest : length (replicate (size_of_kind kind - 1) token) ≡ size_of_kind kind - 1 = length-replicate (size_of_kind kind - 1) token in
    let some : 0 < size_of_kind kind = some_size (mem kind of_three) (mem kind of_two) in
    omega (arith, rest, some)

-- ** The plain tree, without white space and comments.

forest_before : (ts : List plain.Token) (x : plain.Forest) → AllTrivia ts → forest_in (before ts x) ≡ forest_in x
forest_before [] x all = refl
forest_before (t ∷ ts) x all =
    ap (λ b. if b then forest_in (before ts x) else leaf t.kind (tokens_like t.kind) (forest_in (before ts x))) all.0 ∙ forest_before ts x all.1

pub forest_behind_trivia : (x : plain.Forest) (ts : List plain.Token) → AllTrivia ts → forest_in (behind x ts) ≡ forest_in x
forest_behind_trivia plain.nothing ts all = forest_before ts plain.nothing all
forest_behind_trivia (plain.leaf t x) ts all =
    ap (λ z. if is_trivia t.kind then z else leaf t.kind (tokens_like t.kind) z) (forest_behind_trivia x ts all)
forest_behind_trivia (plain.branch kind below x) ts all = ap (λ z. tree kind (forest_in below) z) (forest_behind_trivia x ts all)

-- the kinds of the leaves are no white space and no comments
abbrev pub AreMarks : Forest → Type 0
AreMarks done = ⊤
AreMarks (leaf kind us x) = (is_trivia kind ≡ false) × AreMarks x
AreMarks (tree kind kids x) = AreMarks kids × AreMarks x

pub forest_like : (z : Forest) (ts : List plain.Token) → AreMarks z → forest_in (lossless z ts) ≡ like z
forest_like done ts are = refl
forest_like (leaf kind us x) ts are =
    let n : ℕ = length us in
    let rest : plain.Forest = lossless x (past n ts) in
    forest_before (gap n ts) (plain.leaf (record { kind = kind; text = plain.spelled (upto n (behind_gap n ts)) }) rest) (gap_all n ts)
    ∙ ap (λ b. if b then forest_in rest else leaf kind (tokens_like kind) (forest_in rest)) are.0
    ∙ ap (λ z. leaf kind (tokens_like kind) z) (forest_like x (past n ts) are.1)
forest_like (tree kind kids x) ts are =
    let n : ℕ = length (spell kids) in
    forest_before (gap n ts) (plain.branch kind (lossless kids (behind_gap n ts)) (lossless x (past n ts))) (gap_all n ts)
    ∙ ap (λ z. tree kind z (forest_in (lossless x (past n ts)))) (forest_like kids (behind_gap n ts) are.0)
    ∙ ap (λ z. tree kind (like kids) z) (forest_like x (past n ts) are.1)

-- ** How many tokens they are.

size_append : (ts us : List plain.Token) → solid_size (ts ++ us) ≡ solid_size ts + solid_size us
size_append [] us = omega arith
size_append (t ∷ ts) us = omega (arith, size_append ts us)

pub forest_size : (z : plain.Forest) → length (spell (forest_in z)) ≡ solid_size (plain.tokens_in z)
forest_size plain.nothing = refl
forest_size (plain.leaf t x) =
    elim (is_trivia t.kind)
    as (λ b. length (spell (if b then forest_in x else leaf t.kind (tokens_like t.kind) (forest_in x))) ≡ (if b then 0 else size_of_kind t.kind) + solid_size (plain.tokens_in x)) [
      | true ↦ let rest = forest_size x in omega (arith, rest)
      | false ↦
          let rest = forest_size x in
          omega (arith, rest, length-append (tokens_like t.kind) (spell (forest_in x)), like_length t.kind)
    ]
forest_size (plain.branch kind below x) =
    length-append (spell (forest_in below)) (spell (forest_in x))
    ∙ omega (arith, forest_size below, forest_size x, size_append (plain.tokens_in below) (plain.tokens_in x))

-- ** What is known of the forest behind a tree.

pub record KnownNode (kind : SyntaxKind) (kids : Forest) (Below : Type 0) : Type 0 where
  pub whole : any_part.holds kind ≡ false → HasLeaves any_part kids
  pub ampersands : other_part.holds kind ≡ false → HasLeaves other_part kids
  pub below : Below

abbrev pub Known : Forest → Type 0
Known done = ⊤
Known (leaf kind us x) = (length us ≡ size_of_kind kind) × AreSized us × Known x
Known (tree kind kids x) = KnownNode kind kids (Known kids) × Known x

sized_append : (us vs : List Token) → AreSized (us ++ vs) → AreSized us × AreSized vs
sized_append [] vs h = (tt, h)
sized_append (t ∷ us) vs h = let rest = sized_append us vs h.1 in ((h.0, rest.0), rest.1)

counted : (whole : Bool) (t : Token) (vs : List Token) → IsSized t → more whole t ≡ length vs → length (t ∷ vs) ≡ size_of_kind (taken_as whole t)
counted true t vs sized e =
    let some : 0 < size_of_kind t.joined = some_size (mem t.joined of_three) (mem t.joined of_two) in
    omega (arith, e, sized.joined, some)
counted false t vs sized e = omega (arith, e, sized.own)

taken_count : (kind : SyntaxKind) (us : List Token) → IsTaken kind us → AreSized us → length us ≡ size_of_kind kind
taken_count kind us (whole, t, vs, are, same, size) sized =
    let first = subst AreSized are sized in
    ap length are ∙ counted whole t vs first.0 size ∙ ap size_of_kind (sym same)

pub all_known : (z : Forest) → AreTaken z → AreSized (spell z) → HasParts any_part z → HasParts other_part z → Known z
all_known done taken sized any other = tt
all_known (leaf kind us x) taken sized any other =
    let halves = sized_append us (spell x) sized in
    (taken_count kind us taken.0 halves.0, halves.0, all_known x taken.1 halves.1 any other)
all_known (tree kind kids x) taken sized any other =
    let halves = sized_append (spell kids) (spell x) sized in (
      record { whole = any.0; ampersands = other.0; below = all_known kids taken.0 halves.0 any.1 other.1 },
      all_known x taken.1 halves.1 any.2 other.2,
    )

-- ** As many tokens.

pub leaf_length : (kind : SyntaxKind) (us : List Token) → length us ≡ size_of_kind kind → length (tokens_like kind) ≡ length us
leaf_length kind us e = like_length kind ∙ sym e

pub spell_length : (z : Forest) → Known z → length (spell (like z)) ≡ length (spell z)
spell_length done known = refl
spell_length (leaf kind us x) known =
    length-append (tokens_like kind) (spell (like x))
    ∙ omega (arith, leaf_length kind us known.0, spell_length x known.2, length-append us (spell x))
spell_length (tree kind kids x) known =
    length-append (spell (like kids)) (spell (like x))
    ∙ omega (arith, spell_length kids known.0.below, spell_length x known.1, length-append (spell kids) (spell x))

spelled_alike : (holes : Holes) (at : ℕ) (us vs : List Token) → length us ≡ length vs → are_spelled holes at us ≡ are_spelled holes at vs
spelled_alike holes at [] [] e = refl
spelled_alike holes at [] (v ∷ vs) e = absurd (omega (arith, e))
spelled_alike holes at (u ∷ us) [] e = absurd (omega (arith, e))
spelled_alike holes at (u ∷ us) (v ∷ vs) e = ap (λ b. is_no_hole (holes at) && b) (spelled_alike holes (at + 1) us vs (omega (arith, e)))

pub single_alike : (us vs : List Token) → length us ≡ length vs → is_single us ≡ is_single vs
single_alike [] [] e = refl
single_alike [] (v ∷ vs) e = absurd (omega (arith, e))
single_alike (u ∷ us) [] e = absurd (omega (arith, e))
single_alike (u ∷ []) (v ∷ []) e = refl
single_alike (u ∷ []) (v ∷ w ∷ vs) e = absurd (omega (arith, e))
single_alike (u ∷ t ∷ us) (v ∷ []) e = absurd (omega (arith, e))
single_alike (u ∷ t ∷ us) (v ∷ w ∷ vs) e = refl

-- ** Leaves.

one_kind : (a b : SyntaxKind) → mem a (b ∷ []) ≡ true → a ≡ b
one_kind a b is = same_kind-equal a b (sym (or-false (same_kind a b)) ∙ is)

-- the kind of a leaf that is of one kind
pub leaf_kind : (holes : Holes) (at : ℕ) (word kind : SyntaxKind) → is_leaf holes at (word ∷ []) kind (tokens_like kind) ≡ true → kind ≡ word
leaf_kind holes at word kind is =
    let rest : List Token = replicate (size_of_kind kind - 1) (record { kind = kind; joined = kind; size = size_of_kind kind }) in
    let halves = and_parts ((mem kind (word ∷ []) && nat_eq (size_of_kind kind - 1) (length rest)) && same_kind kind kind) (are_spelled holes at (tokens_like kind)) is in
    let front = and_parts (mem kind (word ∷ []) && nat_eq (size_of_kind kind - 1) (length rest)) (same_kind kind kind) halves.0 in
    one_kind kind word (and_parts (mem kind (word ∷ [])) (nat_eq (size_of_kind kind - 1) (length rest)) front.0).0

-- a token that is whole is of the kinds that its like is of
pub leaf_like : (holes : Holes) (at place : ℕ) (ks : List SyntaxKind) (kind : SyntaxKind) (us : List Token) → place ≡ at → IsWholeLeaf kind us
    → length us ≡ size_of_kind kind → is_leaf holes place ks kind (tokens_like kind) ≡ true → is_leaf holes at ks kind us ≡ true
leaf_like holes at place ks kind [] e whole count is = absurd (cc)
leaf_like holes at place ks kind (t ∷ us) e whole count is =
    let rest : List Token = replicate (size_of_kind kind - 1) (record { kind = kind; joined = kind; size = size_of_kind kind }) in
    let halves = and_parts ((mem kind ks && nat_eq (size_of_kind kind - 1) (length rest)) && same_kind kind kind) (are_spelled holes place (tokens_like kind)) is in
    let front = and_parts (mem kind ks && nat_eq (size_of_kind kind - 1) (length rest)) (same_kind kind kind) halves.0 in
    let member = and_parts (mem kind ks) (nat_eq (size_of_kind kind - 1) (length rest)) front.0 in
    let own = and_parts (mem t.joined (kind ∷ [])) (nat_eq (t.size - 1) (length us)) whole in
    let same : t.joined ≡ kind = one_kind t.joined kind own.0 in
    and_from (is_token ks (t ∷ us) && same_kind kind t.joined) (are_spelled holes at (t ∷ us))
    (and_from (is_token ks (t ∷ us)) (same_kind kind t.joined)
    (and_from (mem t.joined ks) (nat_eq (t.size - 1) (length us)) (ap (λ l. mem l ks) same ∙ member.0) own.1)
    (equal-same_kind kind t.joined (sym same)))
    (spelled_alike holes at (t ∷ us) (tokens_like kind) (sym (leaf_length kind (t ∷ us) count))
    ∙ ap (λ l. are_spelled holes l (tokens_like kind)) (sym e) ∙ halves.1)

-- in a node of which the kind has no parts
pub only_whole : (kind : SyntaxKind) (us : List Token) → IsWholeLeaf kind us ⊎ IsPartLeaf any_part kind us → IsWholeLeaf kind us
only_whole kind us (inl whole) = whole
only_whole kind us (inr part) = let clash = part.counts in absurd (cc)

-- ** Ampersands.

whole_ampersand : (kind : SyntaxKind) (us : List Token) → IsWholeLeaf kind us → AreSized us → length us ≡ 1 → mem kind ampersands ≡ true
    → (t : Token) × (us ≡ t ∷ []) × ((mem t.joined ampersands && (mem t.kind ampersands && same_kind kind t.kind)) ≡ true)
whole_ampersand kind [] whole sized count is = absurd (omega (arith, count))
whole_ampersand kind (t ∷ u ∷ us) whole sized count is = absurd (omega (arith, count))
whole_ampersand kind (t ∷ []) whole sized count is =
    let own = and_parts (mem t.joined (kind ∷ [])) (nat_eq (t.size - 1) 0) whole in
    let same : t.joined ≡ kind = one_kind t.joined kind own.0 in
    let none : t.size - 1 ≡ 0 = eqb-true (t.size - 1) 0 own.1 in
    let some : 0 < size_of_kind t.joined = some_size (mem t.joined of_three) (mem t.joined of_two) in
    let alone : t.kind ≡ t.joined = sized.0.alone (omega (arith, none, sized.0.joined, some)) in (
      t,
      refl,
      and_from (mem t.joined ampersands) (mem t.kind ampersands && same_kind kind t.kind) (ap (λ l. mem l ampersands) same ∙ is)
          (and_from (mem t.kind ampersands) (same_kind kind t.kind) (ap (λ l. mem l ampersands) (alone ∙ same) ∙ is)
          (equal-same_kind kind t.kind (sym (alone ∙ same)))),
    )

pub part_ampersand : (kind : SyntaxKind) (us : List Token) → IsPartLeaf other_part kind us
    → (t : Token) × (us ≡ t ∷ []) × ((mem t.joined ampersands && (mem t.kind ampersands && same_kind kind t.kind)) ≡ true)
part_ampersand kind us part =
    let t : Token = part.token in
    let all : every (λ l. mem l ampersands) part.kinds ≡ true = turned (every (λ l. mem l ampersands) part.kinds) part.counts in (
      t,
      part.all,
      and_from (mem t.joined ampersands) (mem t.kind ampersands && same_kind kind t.kind)
          (every_mem (λ l. mem l ampersands) t.joined part.kinds all part.joined)
          (and_from (mem t.kind ampersands) (same_kind kind t.kind) (every_mem (λ l. mem l ampersands) t.kind part.kinds all part.part)
          (equal-same_kind kind t.kind part.own)),
    ) where
      turned : (b : Bool) → not b ≡ false → b ≡ true
      turned true e = refl
      turned false e = absurd (cc)

-- a like of one that is one
ampersand_told : (holes : Holes) (at : ℕ) (kind : SyntaxKind) (t : Token) (us : List Token) → is_ampersand holes at kind (t ∷ us) ≡ true
    → (us ≡ []) × ((mem t.joined ampersands && (mem t.kind ampersands && same_kind kind t.kind)) ≡ true) × (are_spelled holes at (t ∷ us) ≡ true)
ampersand_told holes at kind t [] is =
    let halves = and_parts (mem t.joined ampersands && (mem t.kind ampersands && same_kind kind t.kind)) (are_spelled holes at (t ∷ [])) is in
    (refl, halves.0, halves.1)
ampersand_told holes at kind t (u ∷ us) is = absurd (cc)

ampersand_made : (holes : Holes) (at : ℕ) (kind : SyntaxKind) (us : List Token) (t : Token) → us ≡ t ∷ []
    → (mem t.joined ampersands && (mem t.kind ampersands && same_kind kind t.kind)) ≡ true → are_spelled holes at us ≡ true
    → is_ampersand holes at kind us ≡ true
ampersand_made holes at kind us t e is own =
    subst (λ l. is_ampersand holes at kind l ≡ true) (sym e)
    (and_from (mem t.joined ampersands && (mem t.kind ampersands && same_kind kind t.kind)) (are_spelled holes at (t ∷ [])) is
    (subst (λ l. are_spelled holes at l ≡ true) e own))

pub ampersand_like : (holes : Holes) (at place : ℕ) (kind : SyntaxKind) (us : List Token) → place ≡ at
    → IsWholeLeaf kind us ⊎ IsPartLeaf other_part kind us → AreSized us → length us ≡ size_of_kind kind
    → is_ampersand holes place kind (tokens_like kind) ≡ true → is_ampersand holes at kind us ≡ true
ampersand_like holes at place kind us e leaf_is sized count is =
    let token : Token = record { kind = kind; joined = kind; size = size_of_kind kind } in
    let told = ampersand_told holes place kind token (replicate (size_of_kind kind - 1) token) is in
    let one : length us ≡ 1 = sym (leaf_length kind us count) ∙ ap (λ l. length (token ∷ l)) told.0 in
    let member : mem kind ampersands ≡ true = (and_parts (mem kind ampersands) (mem kind ampersands && same_kind kind kind) told.1).0 in
    let own : are_spelled holes at us ≡ true =
    spelled_alike holes at us (tokens_like kind) (sym (leaf_length kind us count)) ∙ ap (λ l. are_spelled holes l (tokens_like kind)) (sym e) ∙ told.2 in
    elim leaf_is [
      | inl whole ↦ let made = whole_ampersand kind us whole sized one member in ampersand_made holes at kind us made.0 made.1 made.2 own
      | inr part ↦ let made = part_ampersand kind us part in ampersand_made holes at kind us made.0 made.1 made.2 own
    ]
