-- The pieces of a path, gathered segment by segment, and the tokens of a piece.
use Rattle.std.proofs.Common.{◌≡◌, ℕ, ◌+◌, ◌<◌, ◌≤◌, ◌||◌, not, Bool, codes, List, [], ◌∷◌, ◌++◌, length, map, drop, take, get_or, Some, None, refl, sym, ap, ◌∙◌, arith, append_assoc, append-nil, true, false}
use Rattle.std.proofs.lemmas.List.{drop_all, drop_more, take_all, take_more, map-append}
use Rattle.std.proofs.lemmas.List.Elements.{filter-append}
use Rattle.std.proofs.lemmas.Grind.{flat_map-append}
use Rattle.std.specs.Prelude.{cond}
use Rattle.std.specs.List.{filter, flat_map, join_by, list_any}
use Rattle.std.specs.Option.{option_map_or}
use Rattle.ssr_syntax_kinds.specs.Kinds.{is_trivia}
use Rattle.ssr_syntax_tree.specs.declared.number.NodeNo.{NodeNo}
use Rattle.ssr_syntax_tree.specs.Places.{HasNode, HasToken, node_of, token_of}
use Rattle.ssr_syntax_tree.specs.Syntax.{Token, Forest, Syntax, token_count, tokens_in}
use Rattle.ide_ssr_resolving.specs.declared.keys.Piece.{Piece}
use Rattle.ide_ssr_resolving.specs.Keys.{begins_with_colons, pieces, pieces_of, spaced, key_of}
use Rattle.ide_ssr_resolved_rule.specs.Paths.{qualifying, last_segment, before_arguments}
use Rattle.ide_ssr_resolving.specs.Private.Parts.{below}
use Rattle.ide_ssr_resolving.specs.Private.Pieces.{tokens_at, tokens_between, HasPiece}
use Rattle.ide_ssr_resolving.proofs.Tokens.{segment_tokens, between_last, colons_some, pieces_plain, pieces_colons, joined}

abbrev whole_pieces : Forest → List (List Token)
whole_pieces segment = pieces (tokens_in segment)

-- what is read past the end of a list
abbrev pub no_node : NodeNo
no_node = record { 0 = 0 }

abbrev pub no_piece : Piece
no_piece = record { first = 0; past = 0 }

pub pieces_more : (s : Syntax) (segments : List NodeNo) (i : ℕ) (old new : List Piece) (none : NodeNo) (first past : ℕ)
    → i < length segments → HasNode s (get_or segments i none).0
    → first ≡ (node_of s (get_or segments i none).0).first
    → past ≡ (node_of s (get_or segments i none).0).first + token_count (node_of s (get_or segments i none).0).children
    → map (tokens_at s) old ≡ flat_map whole_pieces (map (below s) (take i segments))
    → map (tokens_at s) new ≡ map (tokens_at s) old ++ pieces (tokens_between s first past)
    → map (tokens_at s) new ≡ flat_map whole_pieces (map (below s) (take (i + 1) segments))
pieces_more s segments i old new none first past within has starts ends so_far pushed =
    let segment = get_or segments i none in
    let tokens : tokens_between s first past ≡ tokens_in (below s segment) =
    ap (λ n. tokens_between s n past) starts ∙ segment_tokens s segment.0 past has ends in
    pushed
    ∙ ap (λ front. front ++ pieces (tokens_between s first past)) so_far
    ∙ ap (λ tokens. flat_map whole_pieces (map (below s) (take i segments)) ++ pieces tokens) tokens
    ∙ ap (λ more. flat_map whole_pieces (map (below s) (take i segments)) ++ more) (sym (append-nil (whole_pieces (below s segment))))
    ∙ sym (flat_map-append whole_pieces (map (below s) (take i segments)) (below s segment ∷ []))
    ∙ ap (flat_map whole_pieces) (sym (map-append (below s) (take i segments) (segment ∷ [])))
    ∙ ap (λ front. flat_map whole_pieces (map (below s) front)) (sym (take_more segments i none within))

pub pieces_all : (s : Syntax) (segments : List NodeNo) (i : ℕ) (found : List Piece) (all : List Forest) → length segments ≤ i
    → map (below s) segments ≡ all → map (tokens_at s) found ≡ flat_map whole_pieces (map (below s) (take i segments))
    → map (tokens_at s) found ≡ flat_map whole_pieces all
pieces_all s segments i found all past are so_far =
    so_far ∙ ap (λ front. flat_map whole_pieces (map (below s) front)) (take_all i segments past) ∙ ap (flat_map whole_pieces) are

module _ (s : Syntax) (path : Forest) where
  pub with_last : (old new : List Piece) (tokens : List Token) (last : Forest) → Some last ≡ last_segment path
      → map (tokens_at s) old ≡ flat_map whole_pieces (qualifying path) → tokens ≡ tokens_in (before_arguments last)
      → map (tokens_at s) new ≡ map (tokens_at s) old ++ pieces tokens → map (tokens_at s) new ≡ pieces_of path
  unfolding pieces_of
  with_last old new tokens last is so_far cut pushed =
      pushed ∙ ap (λ front. front ++ pieces tokens) so_far
      ∙ ap (λ tokens. flat_map whole_pieces (qualifying path) ++ pieces tokens) cut
      ∙ ap (λ o. flat_map whole_pieces (qualifying path) ++ option_map_or (λ last. pieces (tokens_in (before_arguments last))) o []) is

  pub without_last : (found : List Piece) → None ≡ last_segment path → map (tokens_at s) found ≡ flat_map whole_pieces (qualifying path) → map (tokens_at s) found ≡ pieces_of path
  unfolding pieces_of
  without_last found is so_far =
      so_far ∙ sym (append-nil (flat_map whole_pieces (qualifying path)))
      ∙ ap (λ o. flat_map whole_pieces (qualifying path) ++ option_map_or (λ last. pieces (tokens_in (before_arguments last))) o []) is

-- ** One segment's.

module _ (s : Syntax) where
  pub push_plain : (old new : List Piece) (piece : Piece) → begins_with_colons (tokens_at s piece) ≡ false → new ≡ old ++ piece ∷ []
      → map (tokens_at s) new ≡ map (tokens_at s) old ++ pieces (tokens_at s piece)
  push_plain old new piece plain pushed =
      ap (map (tokens_at s)) pushed ∙ map-append (tokens_at s) old (piece ∷ [])
      ∙ ap (λ more. map (tokens_at s) old ++ more) (sym (pieces_plain s piece.first piece.past plain))

  pub push_colons : (old middle new : List Piece) (piece empty rest : Piece) → HasPiece s piece → begins_with_colons (tokens_at s piece) ≡ true
      → empty ≡ record { first = piece.first; past = piece.first } → rest ≡ record { first = piece.first + 1; past = piece.past }
      → middle ≡ old ++ empty ∷ [] → new ≡ middle ++ rest ∷ []
      → map (tokens_at s) new ≡ map (tokens_at s) old ++ pieces (tokens_at s piece)
  push_colons old middle new piece empty rest has colons none behind first second =
      let less = colons_some s piece.first piece.past colons in
      ap (map (tokens_at s)) (second ∙ ap (λ front. front ++ rest ∷ []) first ∙ append_assoc old (empty ∷ []) (rest ∷ []))
      ∙ map-append (tokens_at s) old (empty ∷ rest ∷ [])
      ∙ ap (λ empty. map (tokens_at s) old ++ tokens_at s empty ∷ tokens_at s rest ∷ []) none
      ∙ ap (λ rest. map (tokens_at s) old ++ tokens_between s piece.first piece.first ∷ tokens_at s rest ∷ []) behind
      ∙ ap (λ more. map (tokens_at s) old ++ more) (sym (pieces_colons s piece.first piece.past (omega (arith, has.1)) colons))

-- ** The texts of a piece.

abbrev solid : List Token → List Token
solid tokens = filter (λ token. not (is_trivia token.kind)) tokens

module _ {X : Type 0} (seen : X → List ℕ) (s : Syntax) (first number : ℕ) where
  pub text_more : (old new : List X) (x : X) → HasToken s number → first ≤ number → is_trivia (token_of s number).kind ≡ false
      → seen x ≡ (token_of s number).text → map seen old ≡ map (λ (token : Token). token.text) (solid (tokens_between s first number))
      → new ≡ old ++ x ∷ [] → map seen new ≡ map (λ (token : Token). token.text) (solid (tokens_between s first (number + 1)))
  text_more old new x has le is named so_far pushed =
      let front = tokens_between s first number in
      let token = token_of s number in
      ap (map seen) pushed ∙ map-append seen old (x ∷ [])
      ∙ ap (λ front. front ++ seen x ∷ []) so_far
      ∙ ap (λ text. map (λ (token : Token). token.text) (solid front) ++ text ∷ []) named
      ∙ sym (map-append (λ (token : Token). token.text) (solid front) (token ∷ []))
      ∙ ap (λ b. map (λ (token : Token). token.text) (solid front ++ cond (not b) (token ∷ []) [])) (sym is)
      ∙ ap (map (λ (token : Token). token.text)) (sym (filter-append (λ (token : Token). not (is_trivia token.kind)) front (token ∷ [])))
      ∙ ap (λ tokens. map (λ (token : Token). token.text) (solid tokens)) (sym (between_last s first number has le))

  pub text_passed : (old : List X) → HasToken s number → first ≤ number → is_trivia (token_of s number).kind ≡ true
      → map seen old ≡ map (λ (token : Token). token.text) (solid (tokens_between s first number))
      → map seen old ≡ map (λ (token : Token). token.text) (solid (tokens_between s first (number + 1)))
  text_passed old has le is so_far =
      let front = tokens_between s first number in
      let token = token_of s number in
      so_far
      ∙ ap (map (λ (token : Token). token.text)) (sym (append-nil (solid front)))
      ∙ ap (λ b. map (λ (token : Token). token.text) (solid front ++ cond (not b) (token ∷ []) [])) (sym is)
      ∙ ap (map (λ (token : Token). token.text)) (sym (filter-append (λ (token : Token). not (is_trivia token.kind)) front (token ∷ [])))
      ∙ ap (λ tokens. map (λ (token : Token). token.text) (solid tokens)) (sym (between_last s first number has le))

  pub spaced_is : (past : ℕ) (texts lent : List X) (text : List ℕ) → number ≡ past → text ≡ join_by seen (codes " ") lent → lent ≡ texts
      → map seen texts ≡ map (λ (token : Token). token.text) (solid (tokens_between s first number)) → text ≡ spaced (tokens_between s first past)
  unfolding spaced
  spaced_is past texts lent text end is same so_far =
      is ∙ joined seen (codes " ") lent ∙ ap (λ lent. join_by (λ text. text) (codes " ") (map seen lent)) same
      ∙ ap (join_by (λ text. text) (codes " ")) so_far
      ∙ ap (λ n. join_by (λ text. text) (codes " ") (map (λ (token : Token). token.text) (solid (tokens_between s first n)))) end

-- ** Lists read one by one.

pub mapped_more : {X Y Z : Type 0} (f : X → Z) (h : Y → Z) (ys : List Y) (i : ℕ) (none : Y) (old new : List X) (x : X) → i < length ys
    → f x ≡ h (get_or ys i none) → map f old ≡ map h (take i ys) → new ≡ old ++ x ∷ [] → map f new ≡ map h (take (i + 1) ys)
mapped_more f h ys i none old new x within is so_far pushed =
    ap (map f) pushed ∙ map-append f old (x ∷ []) ∙ ap (λ front. front ++ f x ∷ []) so_far
    ∙ ap (λ z. map h (take i ys) ++ z ∷ []) is
    ∙ sym (map-append h (take i ys) (get_or ys i none ∷ []))
    ∙ ap (map h) (sym (take_more ys i none within))

abbrev pub spaced_at : Syntax → Piece → List ℕ
spaced_at s piece = spaced (tokens_at s piece)

mapped_twice : (s : Syntax) (found : List Piece) → map (spaced_at s) found ≡ map spaced (map (tokens_at s) found)
mapped_twice s [] = refl
mapped_twice s (piece ∷ found) = ap (λ rest. spaced_at s piece ∷ rest) (mapped_twice s found)

pub keys_all : (s : Syntax) (path : Forest) (found : List Piece) (i : ℕ) (key : List (List ℕ)) → length found ≤ i → map (tokens_at s) found ≡ pieces_of path
    → key ≡ map (spaced_at s) (take i found) → key ≡ key_of path
unfolding key_of
keys_all s path found i key past are so_far =
    so_far ∙ ap (map (spaced_at s)) (take_all i found past) ∙ mapped_twice s found ∙ ap (map spaced) are

module _ {Y : Type 0} (p : Forest → Bool) (h : Y → Forest) (ys : List Y) (i : ℕ) where
  pub any_passed : (none : Y) (whole : Bool) → i < length ys → p (h (get_or ys i none)) ≡ false → list_any p (map h (drop i ys)) ≡ whole
      → list_any p (map h (drop (i + 1) ys)) ≡ whole
  any_passed none whole within is so_far =
      ap (λ b. b || list_any p (map h (drop (i + 1) ys))) (sym is)
      ∙ ap (λ rest. list_any p (map h rest)) (sym (drop_more ys i none within)) ∙ so_far

  pub any_found : (none : Y) (whole : Bool) → i < length ys → p (h (get_or ys i none)) ≡ true → list_any p (map h (drop i ys)) ≡ whole → true ≡ whole
  any_found none whole within is so_far =
      ap (λ b. b || list_any p (map h (drop (i + 1) ys))) (sym is)
      ∙ ap (λ rest. list_any p (map h rest)) (sym (drop_more ys i none within)) ∙ so_far

  pub any_none : (whole : Bool) → length ys ≤ i → list_any p (map h (drop i ys)) ≡ whole → false ≡ whole
  any_none whole past so_far = ap (λ rest. list_any p (map h rest)) (sym (drop_all i ys past)) ∙ so_far
