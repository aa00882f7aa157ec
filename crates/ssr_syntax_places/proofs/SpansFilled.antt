-- The nodes of a filled template have the same bytes as those of the template, but for what lies within what is put there.
use Rattle.std.proofs.Common.{◌≡◌, ℕ, zero, suc, ◌+◌, ◌-◌, ◌<◌, ◌≤◌, ◌==◌, Bool, true, false, ◌&&◌, ◌||◌, List, [], ◌∷◌, ◌++◌, length, Some, inl, inr, refl, sym, ap, subst, ◌∙◌, arith}
use Rattle.std.proofs.lemmas.List.{append-nil, length-append}
use Rattle.std.proofs.lemmas.Bool.{and_from, and_parts, cases_Bool, eq-eqb, eqb-true}
use Rattle.ssr_syntax_kinds.specs.declared.kinds.SyntaxKind.{SyntaxKind}
use Rattle.ssr_syntax_tree.specs.Syntax as plain
use Rattle.ssr_syntax_forms.specs.Trees.{Forest, done, leaf, tree, join, spell}
use Rattle.ssr_syntax_rows.specs.Lossless.{gap, behind_gap, upto, past, lossless}
use Rattle.ssr_syntax_places.specs.Core.{Hole, Holes, filled, node_filled}
use Rattle.ssr_syntax_places.specs.Standing.{node}
use Rattle.ssr_syntax_places.proofs.Aligned.{IsPut, IsFor, size_of, filled_size, spelled_size, put_run}
use Rattle.ssr_syntax_places.proofs.Measured.{Ends, IsOutside, IsApart, IsApartFor, AreMeasured, lead_gap, upto_step, upto_put, no_bytes, measured_past, measured_end, measured_gap}
use Rattle.ssr_syntax_places.proofs.Misnamed.{AllTrivia}
use Rattle.ssr_syntax_places.proofs.Pieces.{IsRun, one_run}
use Rattle.ssr_syntax_places.proofs.Spans.{bytes, bytes_append, has_span, spans_within, laid_bytes, span_leaf, span_tree, upto_gap}
use Rattle.ssr_syntax_places.proofs.Templates.{IsName, IsOwn, IsTemplate, IsNodeTemplate, AreSpelled}
use Rattle.ssr_syntax_places.proofs.Unnamed.{filled_length}
use Rattle.ssr_syntax_places.proofs.Woven.{single_length}

-- ** One node.

-- the bytes of a node that is laid
abbrev is_root : ℕ → ℕ → ℕ → ℕ → List plain.Token → Bool
is_root at from to c ts = at + bytes (gap c ts) == from && at + bytes (upto c ts) == to

-- no bytes are no piece
none_there : (a b from to : ℕ) → a ≡ b → from < to → (a == from && b == to) ≡ false
none_there a b from to e some = elim (cases_Bool (a == from && b == to)) [
  | inl is ↦
      let halves = and_parts (a == from) (b == to) is in
      let first : a ≡ from = eqb-true a from halves.0 in
      let last : b ≡ to = eqb-true b to halves.1 in
      absurd (omega (arith, e, some, first, last))
  | inr none ↦ none
]

-- A node and its pieces in both texts: it has the bytes that are asked for in both or in neither, and what is below it is measured.
record IsHead (holes : Holes) (e : Ends) (number n c at long : ℕ) (ts us : List plain.Token) : Type 0 where
  root : is_root at e.from e.to c ts ≡ is_root long e.long_from e.long_to (filled_size holes number c) us
  inside : AreMeasured holes e number n (at + bytes (gap c ts)) (long + bytes (gap (filled_size holes number c) us)) (behind_gap c ts)
      (behind_gap (filled_size holes number c) us)

size_some : (holes : Holes) (e : Ends) (number c n at long : ℕ) (ts us : List plain.Token) → suc c ≤ n → AreMeasured holes e number n at long ts us
    → 0 < filled_size holes number (suc c)
size_some holes e number c zero at long ts us few are = absurd (omega (arith, few))
size_some holes e number c (suc n) at long ts us few are =
    let run = put_run (holes number) are.step.token are.step.put are.step.solid are.step.is in
    omega (arith, run.some)

head_alike : (holes : Holes) (e : Ends) (number c n at long : ℕ) (ts us : List plain.Token) → c ≤ n → AreMeasured holes e number n at long ts us
    → IsHead holes e number n c at long ts us
head_alike holes e number zero n at long ts us few are =
    let x : at ≡ at + bytes [] = omega arith in
    let y : long ≡ long + bytes [] = omega arith in
    record {
      root =
          none_there (at + bytes []) (at + bytes (upto zero ts)) e.from e.to (sym x ∙ no_bytes at ts) e.some
          ∙ sym (none_there (long + bytes []) (long + bytes (upto zero us)) e.long_from e.long_to (sym y ∙ no_bytes long us) e.long_some);
      inside =
          subst (λ l. AreMeasured holes e number n l (long + bytes []) ts us) x
          (subst (λ l. AreMeasured holes e number n at l ts us) y are);
    }
head_alike holes e number (suc c) n at long ts us few are =
    let d : ℕ = filled_size holes number (suc c) in
    let begins = measured_gap holes e number c d n at long ts us few (size_some holes e number c n at long ts us few are) are in
    record {
      root =
          ap (λ b. b && at + bytes (upto (suc c) ts) == e.to) begins.starts
          ∙ ap (λ b. long + bytes (gap d us) == e.long_from && b) (measured_end holes e number c n at long ts us few are);
      inside = begins.inside;
    }

-- ** Below what is put there.

-- what lies between these places and isn't inside is all of them
all_of : (first last from to : ℕ) → IsOutside first last from → IsOutside first last to → from < to → first ≤ from → to ≤ last
    → (first == from && last == to) ≡ true
all_of first last from to (inr behind) out some low high = absurd (omega (arith, behind, some, high))
all_of first last from to (inl front) (inl before) some low high = absurd (omega (arith, before, some, low))
all_of first last from to (inl front) (inr behind) some low high =
    and_from (first == from) (last == to) (eq-eqb first from (omega (arith, front, low))) (eq-eqb last to (omega (arith, behind, high)))

absorbed : (root below x : Bool) → (below ≡ true → root ≡ true) → (root || (below || x)) ≡ (root || x)
absorbed true below x f = refl
absorbed false true x f = absurd (cc (f refl))
absorbed false false x f = refl

-- below a node that is apart no other has the bytes that are asked for
below_root : (at from to c : ℕ) (z : Forest) (ts : List plain.Token) → c ≡ length (spell z) → from < to
    → IsOutside (at + bytes (gap c ts)) (at + bytes (upto c ts)) from → IsOutside (at + bytes (gap c ts)) (at + bytes (upto c ts)) to
    → has_span (at + bytes (gap c ts)) from to (lossless z (behind_gap c ts)) ≡ true → is_root at from to c ts ≡ true
below_root at from to c z ts e some out_from out_to is =
    let within = spans_within (at + bytes (gap c ts)) from to (lossless z (behind_gap c ts)) is in
    all_of (at + bytes (gap c ts)) (at + bytes (upto c ts)) from to out_from out_to some within.0
    (omega (
      arith,
      within.1,
      laid_bytes z (behind_gap c ts),
      ap (λ l. bytes (upto l (behind_gap c ts))) e,
      ap bytes (upto_gap c ts),
      bytes_append (gap c ts) (upto c (behind_gap c ts)),
    ))

moved_out : (a b first last place : ℕ) → a ≡ first → b ≡ last → IsOutside first last place → IsOutside a b place
moved_out a b first last place e d (inl front) = inl (omega (arith, e, front))
moved_out a b first last place e d (inr behind) = inr (omega (arith, d, behind))

gap_run : (n m : ℕ) (lead put rest : List plain.Token) → 0 < m → AllTrivia lead → IsRun n put → gap m (lead ++ (put ++ rest)) ≡ lead
gap_run n zero lead put rest some all run = absurd (omega (arith, some))
gap_run n (suc m) lead put rest some all run = lead_gap n m lead put rest all run

-- the bytes of a name, and of what is put there
name_apart : (holes : Holes) (e : Ends) (hole : Hole) (number n at long : ℕ) (ts us : List plain.Token) → holes number ≡ Some hole
    → AreMeasured holes e number (suc n) at long ts us
    → IsApart e (at + bytes (gap 1 ts)) (at + bytes (upto 1 ts)) (long + bytes (gap (filled_size holes number 1) us)) (long + bytes (upto (filled_size holes number 1) us))
name_apart holes e hole number n at long ts us held are =
    let step = are.step in
    let d : ℕ = size_of (holes number) + 0 in
    let one = one_run step.token step.solid in
    let run = put_run (holes number) step.token step.put step.solid step.is in
    let first : ℕ = at + bytes step.lead in
    let last : ℕ = first + length step.token.text in
    let long_first : ℕ = long + bytes step.long_lead in
    let long_last : ℕ = long_first + bytes step.put in
    let short_starts : at + bytes (gap 1 ts) ≡ first =
    ap (λ l. at + bytes (gap 1 l)) step.short ∙ ap (λ l. at + bytes l) (lead_gap 1 0 step.lead (step.token ∷ []) step.short_rest step.leads one) in
    let short_ends : at + bytes (upto 1 ts) ≡ last =
    upto_step 0 at 1 ts step.lead step.token step.short_rest step.short step.leads step.solid refl ∙ sym (no_bytes last step.short_rest) in
    let long_starts : long + bytes (gap d us) ≡ long_first =
    ap (λ l. long + bytes (gap d l)) step.long
    ∙ ap (λ l. long + bytes l) (gap_run (size_of (holes number)) d step.long_lead step.put step.long_rest (omega (arith, run.some)) step.long_leads run) in
    let long_ends : long + bytes (upto d us) ≡ long_last =
    upto_put (size_of (holes number)) 0 long us step.long_lead step.put step.long_rest step.long step.long_leads run ∙ sym (no_bytes long_last step.long_rest) in
    let apart : IsApart e first last long_first long_last = subst (λ o. IsApartFor o e first last long_first long_last) held are.apart in
    record {
      from = moved_out (at + bytes (gap 1 ts)) (at + bytes (upto 1 ts)) first last e.from short_starts short_ends apart.from;
      to = moved_out (at + bytes (gap 1 ts)) (at + bytes (upto 1 ts)) first last e.to short_starts short_ends apart.to;
      long_from = moved_out (long + bytes (gap d us)) (long + bytes (upto d us)) long_first long_last e.long_from long_starts long_ends apart.long_from;
      long_to = moved_out (long + bytes (gap d us)) (long + bytes (upto d us)) long_first long_last e.long_to long_starts long_ends apart.long_to;
    }

-- ** Nodes in both texts, whatever stands beside them.

record AreAlike (holes : Holes) (e : Ends) (number at long : ℕ) (kind : SyntaxKind) (kids : Forest) (ts us : List plain.Token) : Type 0 where
  new_kind : SyntaxKind
  new_kids : Forest
  tree : node_filled holes number kind kids ≡ node new_kind new_kids
  alike : (x : Bool)
      → (is_root at e.from e.to (length (spell kids)) ts
      || (has_span (at + bytes (gap (length (spell kids)) ts)) e.from e.to (lossless kids (behind_gap (length (spell kids)) ts)) || x))
      ≡ (is_root long e.long_from e.long_to (filled_size holes number (length (spell kids))) us
      || (has_span (long + bytes (gap (filled_size holes number (length (spell kids))) us)) e.long_from e.long_to
      (lossless new_kids (behind_gap (filled_size holes number (length (spell kids))) us)) || x))

own_alike : (holes : Holes) (e : Ends) (number n at long : ℕ) (kind : SyntaxKind) (kids : Forest) (ts us : List plain.Token) → length (spell kids) ≤ n
    → AreMeasured holes e number n at long ts us
    → ((a b : ℕ) (vs ws : List plain.Token) → IsTemplate holes number kids → AreMeasured holes e number n a b vs ws
    → has_span a e.from e.to (lossless kids vs) ≡ has_span b e.long_from e.long_to (lossless (filled holes number kids) ws))
    → IsOwn holes number kind kids (IsTemplate holes number kids) → AreAlike holes e number at long kind kids ts us
own_alike holes e number n at long kind kids ts us few are inner own =
    let c : ℕ = length (spell kids) in
    let d : ℕ = filled_size holes number c in
    let head = head_alike holes e number c n at long ts us few are in
    let below = inner (at + bytes (gap c ts)) (long + bytes (gap d us)) (behind_gap c ts) (behind_gap d us) own.below head.inside in
    record {
      new_kind = kind;
      new_kids = filled holes number kids;
      tree = own.filled;
      alike = λ x.
          ap (λ b. b || (has_span (at + bytes (gap c ts)) e.from e.to (lossless kids (behind_gap c ts)) || x)) head.root
          ∙ ap (λ b. is_root long e.long_from e.long_to d us || (b || x)) below;
    }

name_alike : (holes : Holes) (e : Ends) (number n at long : ℕ) (kind : SyntaxKind) (kids : Forest) (ts us : List plain.Token) → length (spell kids) ≤ n
    → AreMeasured holes e number n at long ts us → IsName holes number kind kids → AreAlike holes e number at long kind kids ts us
name_alike holes e number zero at long kind kids ts us few are name = absurd (omega (arith, few, single_length (spell kids) name.single))
name_alike holes e number (suc n) at long kind kids ts us few are name =
    let c : ℕ = length (spell kids) in
    let d : ℕ = filled_size holes number c in
    let one : 1 ≡ c = sym (single_length (spell kids) name.single) in
    let put : IsPut name.hole are.step.put = subst (λ o. IsFor o are.step.token are.step.put) name.held are.step.is in
    let count : d ≡ length (spell put.kids) =
    ap (filled_size holes number) (sym one) ∙ ap (λ o. size_of o + 0) name.held ∙ hole_size (length name.hole.tokens) ∙ ap length (sym put.spells) in
    let apart : IsApart e (at + bytes (gap c ts)) (at + bytes (upto c ts)) (long + bytes (gap d us)) (long + bytes (upto d us)) =
    subst (λ l. IsApart e (at + bytes (gap l ts)) (at + bytes (upto l ts)) (long + bytes (gap (filled_size holes number l) us)) (long + bytes (upto (filled_size holes number l) us))) one
    (name_apart holes e name.hole number n at long ts us name.held are) in
    let head = head_alike holes e number c (suc n) at long ts us few are in
    record {
      new_kind = put.kind;
      new_kids = put.kids;
      tree = name.filled ∙ put.tree;
      alike = λ x.
          absorbed (is_root at e.from e.to c ts) (has_span (at + bytes (gap c ts)) e.from e.to (lossless kids (behind_gap c ts))) x
          (below_root at e.from e.to c kids ts refl e.some apart.from apart.to)
          ∙ ap (λ b. b || x) head.root
          ∙ sym (absorbed (is_root long e.long_from e.long_to d us) (has_span (long + bytes (gap d us)) e.long_from e.long_to (lossless put.kids (behind_gap d us))) x
          (below_root long e.long_from e.long_to d put.kids us count e.long_some apart.long_from apart.long_to));
    } where
      hole_size : (m : ℕ) → m + 0 ≡ m
      hole_size m = omega arith

node_alike : (holes : Holes) (e : Ends) (number n at long : ℕ) (kind : SyntaxKind) (kids : Forest) (ts us : List plain.Token) → length (spell kids) ≤ n
    → AreMeasured holes e number n at long ts us
    → ((a b : ℕ) (vs ws : List plain.Token) → IsTemplate holes number kids → AreMeasured holes e number n a b vs ws
    → has_span a e.from e.to (lossless kids vs) ≡ has_span b e.long_from e.long_to (lossless (filled holes number kids) ws))
    → IsNodeTemplate holes number kind kids → AreAlike holes e number at long kind kids ts us
node_alike holes e number n at long kind kids ts us few are inner (inl name) = name_alike holes e number n at long kind kids ts us few are name
node_alike holes e number n at long kind kids ts us few are inner (inr own) = own_alike holes e number n at long kind kids ts us few are inner own

-- ** All nodes.

pub filled_spans : (holes : Holes) (e : Ends) → AreSpelled holes → (number n at long : ℕ) (z : Forest) (ts us : List plain.Token) → length (spell z) ≤ n
    → IsTemplate holes number z → AreMeasured holes e number n at long ts us
    → has_span at e.from e.to (lossless z ts) ≡ has_span long e.long_from e.long_to (lossless (filled holes number z) us)
filled_spans holes e spells number n at long done ts us few is are = refl
filled_spans holes e spells number n at long (leaf kind vs x) ts us few (own, others) are =
    let c : ℕ = length vs in
    let both : length (spell (leaf kind vs x)) ≡ c + length (spell x) = length-append vs (spell x) in
    let all : n ≡ c + (n - c) = omega (arith, few, both) in
    let rest : AreMeasured holes e (number + c) (n - c) (at + bytes (upto c ts)) (long + bytes (upto c us)) (past c ts) (past c us) =
    subst (λ l. AreMeasured holes e (number + c) (n - c) (at + bytes (upto c ts)) (long + bytes (upto l us)) (past c ts) (past l us)) (spelled_size holes number vs own)
    (measured_past holes e number c (n - c) n at long ts us all are) in
    span_leaf at e.from e.to kind vs x ts
    ∙ filled_spans holes e spells (number + c) (n - c) (at + bytes (upto c ts)) (long + bytes (upto c us)) x (past c ts) (past c us) (omega (arith, few, both)) others rest
    ∙ sym (span_leaf long e.long_from e.long_to kind vs (filled holes (number + c) x) us)
filled_spans holes e spells number n at long (tree kind kids x) ts us few (here, others) are =
    let c : ℕ = length (spell kids) in
    let d : ℕ = filled_size holes number c in
    let both : length (spell (tree kind kids x)) ≡ c + length (spell x) = length-append (spell kids) (spell x) in
    let less : c ≤ n = omega (arith, few, both) in
    let all : n ≡ c + (n - c) = omega (arith, few, both) in
    let rest = measured_past holes e number c (n - c) n at long ts us all are in
    let made = node_alike holes e number n at long kind kids ts us less are
    (λ a b vs ws below inside. filled_spans holes e spells number n a b kids vs ws less below inside) here in
    let y : Forest = filled holes (number + c) x in
    let count : d ≡ length (spell made.new_kids) =
    sym (filled_length holes spells number kind kids here) ∙ ap (λ z. length (spell z)) made.tree ∙ ap length (append-nil (spell made.new_kids)) in
    let beside : Bool = has_span (at + bytes (upto c ts)) e.from e.to (lossless x (past c ts)) in
    span_tree at e.from e.to kind kids x ts c refl
    ∙ made.alike beside
    ∙ ap (λ b. is_root long e.long_from e.long_to d us || (has_span (long + bytes (gap d us)) e.long_from e.long_to (lossless made.new_kids (behind_gap d us)) || b))
    (filled_spans holes e spells (number + c) (n - c) (at + bytes (upto c ts)) (long + bytes (upto d us)) x (past c ts) (past d us) (omega (arith, few, both)) others rest)
    ∙ sym (ap (λ z. has_span long e.long_from e.long_to (lossless (join z y) us)) made.tree
    ∙ span_tree long e.long_from e.long_to made.new_kind made.new_kids y us d count)
