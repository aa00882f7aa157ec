-- Which bytes of a long text are nodes is told by the short one.
use Rattle.std.proofs.Common.{◌≡◌, ℕ, ◌+◌, ◌==◌, true, false, ◌&&◌, ◌||◌, List, [], ◌∷◌, ◌++◌, length, inl, inr, refl, sym, ap, ◌∙◌, arith}
use Rattle.std.proofs.Math.Bool.{or-false}
use Rattle.std.proofs.lemmas.List.{length-append}
use Rattle.ssr_syntax_kinds.specs.declared.kinds.SyntaxKind.{SyntaxKind}
use Rattle.ssr_syntax_kinds.specs.declared.reach.Reach.{Reach}
use Rattle.ssr_syntax_lex.specs.Tokens.{tokens}
use Rattle.ssr_syntax_lex.specs.declared.tokens.RawToken.{RawToken}
use Rattle.ssr_syntax_tree.specs.Syntax as plain
use Rattle.ssr_syntax_tree.specs.Syntax.{Syntax, nothing, branch, tokens_in}
use Rattle.ssr_syntax_forms.specs.Trees.{Forest, spell}
use Rattle.ssr_syntax_rows.specs.Lossless.{upto, past, behind, lossless, whole_tree}
use Rattle.ssr_syntax_rows.specs.Solid.{solid_tokens, pieces}
use Rattle.ssr_syntax_rows.proofs.Shared.{upto-past}
use Rattle.ssr_syntax.specs.Reading.{trimmed}
use Rattle.ssr_syntax_places.specs.Core.{Holes, core, filled}
use Rattle.ssr_syntax_places.specs.LongTexts.{ArePaired, AreInsides, IsBehind, IsReadFilled, IsWholeOf}
use Rattle.ssr_syntax_places.specs.Spans.{has_node_at, inside_at, IsSamePlace, BeginsHere, EndsHere, AreSameBytes}
use Rattle.ssr_syntax_places.specs.Standing.{node}
use Rattle.ssr_syntax_places.specs.Woven.{Part, woven, AreWoven, solid_parts, pieces_parts, StandFor}
use Rattle.ssr_syntax_places.proofs.Insides.{some_same}
use Rattle.ssr_syntax_places.proofs.LongReading.{IsTemplateOf, fillings_spelled, root_filled, template_of}
use Rattle.ssr_syntax_places.proofs.Measured.{Ends, AreMeasured}
use Rattle.ssr_syntax_places.proofs.MeasuredParts.{text_bytes, IsAhead, measured_parts}
use Rattle.ssr_syntax_places.proofs.Spans.{tokens_before, bytes, bytes_append, has_span, laid_bytes, same_tests, both_fail, span_behind, tree_spans}
use Rattle.ssr_syntax_places.proofs.SpansFilled.{filled_spans}
use Rattle.ssr_syntax_places.proofs.Woven.{woven_lexes}

-- ** The nodes of a whole tree.

bytes_behind : (x : plain.Forest) (ts : List plain.Token) → bytes (tokens_in (behind x ts)) ≡ bytes (tokens_in x) + bytes ts
bytes_behind nothing ts = ap bytes (tokens_before ts nothing) ∙ bytes_append ts [] ∙ turned (bytes ts) where
  turned : (n : ℕ) → n + bytes [] ≡ bytes [] + n
  turned n = omega arith
bytes_behind (plain.leaf t x) ts =
    length-append t.text (plain.spelled (tokens_in (behind x ts)))
    ∙ omega (arith, bytes_behind x ts, length-append t.text (plain.spelled (tokens_in x)))
bytes_behind (branch kind below x) ts =
    bytes_append (tokens_in below) (tokens_in (behind x ts))
    ∙ omega (arith, bytes_behind x ts, bytes_append (tokens_in below) (tokens_in x))

-- all of the text, or a node below the root
whole_spans : (kind : SyntaxKind) (z : Forest) (ts : List plain.Token) (front from to : ℕ)
    → has_node_at (whole_tree kind z ts) front (front + from) (front + to) ≡ ((0 == from && bytes ts == to) || has_span 0 from to (lossless z ts))
whole_spans kind z ts front from to =
    let n : ℕ = length (spell z) in
    let rest : List plain.Token = past n ts in
    let children : plain.Forest = behind (lossless z ts) rest in
    let all : 0 + bytes (tokens_in children) ≡ bytes ts =
    omega (arith, bytes_behind (lossless z ts) rest, laid_bytes z ts, bytes_append (upto n ts) rest, ap bytes (upto-past n ts)) in
    tree_spans (whole_tree kind z ts) front from to
    ∙ ap (λ l. (0 == from && l == to) || (has_span 0 from to children || false)) all
    ∙ ap (λ b. (0 == from && bytes ts == to) || b) (or-false (has_span 0 from to children) ∙ span_behind 0 from to (lossless z ts) rest)

-- ** The bytes of the roots.

part_bytes : (p : Part) (ps : List Part) (last : List ℕ) (rest : List plain.Token) → AreWoven (p ∷ ps) last
    → bytes (pieces_parts (p ∷ ps) rest) ≡ (inside_at p + length p.inside) + bytes (pieces_parts ps rest)
part_bytes p ps last rest (utf8, opens, front_is, inside_is, seam, all) =
    let text : List ℕ = p.front ++ p.opening ∷ [] in
    bytes_append (pieces text p.before) (pieces p.inside p.within ++ pieces_parts ps rest)
    ∙ omega (
      arith,
      bytes_append (pieces p.inside p.within) (pieces_parts ps rest),
      text_bytes text p.before front_is.utf8 front_is.lexes,
      length-append p.front (p.opening ∷ []),
      text_bytes p.inside p.within inside_is.utf8 inside_is.lexes,
    )

-- the beginnings of both texts are the same place, and no other is
begin_alike : (ps qs : List Part) (n m : ℕ) → IsSamePlace BeginsHere ps qs n m → (0 == n) ≡ (0 == m)
begin_alike [] [] n m is = ap (λ l. 0 == l) is
begin_alike [] (q ∷ qs) n m is = absurd is
begin_alike (p ∷ ps) [] n m is = absurd is
begin_alike (p ∷ ps) (q ∷ qs) n m (inl (inl front)) = ap (λ l. 0 == l) front.0
begin_alike (p ∷ ps) (q ∷ qs) n m (inl (inr here)) = both_fail 0 n 0 m (λ e. omega (arith, e, here.0)) (λ e. omega (arith, e, here.1))
begin_alike (p ∷ ps) (q ∷ qs) n m (inr (i, j, first, second, some, more, same)) =
    both_fail 0 n 0 m (λ e. omega (arith, e, first, some)) (λ e. omega (arith, e, second, more))

-- so are their ends, of which one may be that of an inside
rest_alike : (holes : Holes) (at : ℕ) (ps qs : List Part) (last : List ℕ) (after : List RawToken) (rest : List plain.Token) → AreWoven ps last → AreWoven qs last
    → StandFor holes at ps qs (solid_tokens after) → (bytes (pieces_parts ps rest) == 0) ≡ (bytes (pieces_parts qs rest) == 0)
rest_alike holes at [] [] last after rest is other stand = refl
rest_alike holes at [] (q ∷ qs) last after rest is other stand = absurd stand
rest_alike holes at (p ∷ ps) [] last after rest is other stand = absurd stand
rest_alike holes at (p ∷ ps) (q ∷ qs) last after rest is other stand =
    let short = part_bytes p ps last rest is in
    let longer = part_bytes q qs last rest other in
    both_fail (bytes (pieces_parts (p ∷ ps) rest)) 0 (bytes (pieces_parts (q ∷ qs) rest)) 0 (λ e. omega (arith, e, short)) (λ e. omega (arith, e, longer))

end_alike : (reach : Reach) (holes : Holes) (at : ℕ) (ps qs : List Part) (last : List ℕ) (after : List RawToken) (rest : List plain.Token) (n m : ℕ)
    → AreWoven ps last → AreWoven qs last → StandFor holes at ps qs (solid_tokens after) → AreInsides reach holes at ps qs → IsSamePlace EndsHere ps qs n m
    → (bytes (pieces_parts ps rest) == n) ≡ (bytes (pieces_parts qs rest) == m)
end_alike reach holes at [] [] last after rest n m is other stand insides same = ap (λ l. bytes rest == l) same
end_alike reach holes at [] (q ∷ qs) last after rest n m is other stand insides same = absurd same
end_alike reach holes at (p ∷ ps) [] last after rest n m is other stand insides same = absurd same
end_alike reach holes at (p ∷ ps) (q ∷ qs) last after rest n m is other (hole, alike, own, single, held, filling, others) (known, front, opening, one, known_held, inside, insides) (inl (inl same)) =
    let short = part_bytes p ps last rest is in
    let longer = part_bytes q qs last rest other in
    let begin : inside_at q ≡ inside_at p = ap (λ l. length l + 1) (sym front) in
    both_fail (bytes (pieces_parts (p ∷ ps) rest)) n (bytes (pieces_parts (q ∷ qs) rest)) m
    (λ e. omega (arith, e, short, same.1)) (λ e. omega (arith, e, longer, begin, same.0, same.1))
end_alike reach holes at (p ∷ ps) (q ∷ qs) last after rest n m is other (hole, alike, own, single, held, filling, others) (known, front, opening, one, known_held, inside, insides) (inl (inr here)) =
    let short = part_bytes p ps last rest is in
    let longer = part_bytes q qs last rest other in
    let a : ℕ = bytes (pieces_parts ps rest) in
    let b : ℕ = bytes (pieces_parts qs rest) in
    same_tests (bytes (pieces_parts (p ∷ ps) rest)) n a 0 (λ e. omega (arith, e, short, here.0)) (λ e. omega (arith, e, short, here.0))
    ∙ rest_alike holes ((at + length (solid_tokens p.before)) + 1) ps qs last after rest is.5 other.5 others
    ∙ same_tests b 0 (bytes (pieces_parts (q ∷ qs) rest)) m (λ e. omega (arith, e, longer, here.1)) (λ e. omega (arith, e, longer, here.1))
end_alike reach holes at (p ∷ ps) (q ∷ qs) last after rest n m is other (hole, alike, own, single, held, filling, others) (known, front, opening, one, known_held, inside, insides) (inr (i, j, first, second, some, more, same)) =
    let short = part_bytes p ps last rest is in
    let longer = part_bytes q qs last rest other in
    let a : ℕ = bytes (pieces_parts ps rest) in
    let b : ℕ = bytes (pieces_parts qs rest) in
    same_tests (bytes (pieces_parts (p ∷ ps) rest)) n a i (λ e. omega (arith, e, short, first)) (λ e. omega (arith, e, short, first))
    ∙ end_alike reach holes ((at + length (solid_tokens p.before)) + 1) ps qs last after rest i j is.5 other.5 others insides same
    ∙ same_tests b j (bytes (pieces_parts (q ∷ qs) rest)) m (λ e. omega (arith, e, longer, second)) (λ e. omega (arith, e, longer, second))

-- ** Both trees.

-- the template's nodes and those of the filled template, of these pieces
laid_alike : (reach : Reach) (holes : Holes) (e : Ends) (short long : List Part) (last : List ℕ) (after : List RawToken) (kind : SyntaxKind) (kids : Forest)
    → ArePaired reach holes short long last after → IsTemplateOf reach holes short long after kind kids
    → IsSamePlace BeginsHere short long e.from e.long_from → IsSamePlace EndsHere short long e.to e.long_to → (front long_front : ℕ)
    → has_node_at (whole_tree kind kids (pieces_parts short (pieces last after))) front (front + e.from) (front + e.to)
    ≡ has_node_at (whole_tree kind (filled holes 0 kids) (pieces_parts long (pieces last after))) long_front (long_front + e.long_from) (long_front + e.long_to)
laid_alike reach holes e short long last after kind kids paired template from to front long_front =
    let rest : List plain.Token = pieces last after in
    let ts : List plain.Token = pieces_parts short rest in
    let us : List plain.Token = pieces_parts long rest in
    let n : ℕ = length (solid_parts short (solid_tokens after)) in
    let few : length (spell kids) ≡ n = ap length template.spells in
    let first : IsAhead BeginsHere short long 0 0 e.from e.long_from = inr (inr (e.from, e.long_from, omega arith, omega arith, from)) in
    let behind : IsAhead EndsHere short long 0 0 e.to e.long_to = inr (inr (e.to, e.long_to, omega arith, omega arith, to)) in
    let measured : AreMeasured holes e 0 n 0 0 ts us =
    measured_parts reach holes e 0 n 0 0 short long last after paired.short_is paired.long_is paired.stand paired.insides refl first behind in
    let spans = filled_spans holes e (fillings_spelled reach holes paired.fillings) 0 n 0 0 kids ts us (omega (arith, few)) template.own.below measured in
    whole_spans kind kids ts front e.from e.to
    ∙ ap (λ b. (b && bytes ts == e.to) || has_span 0 e.from e.to (lossless kids ts)) (begin_alike short long e.from e.long_from from)
    ∙ ap (λ b. (0 == e.long_from && b) || has_span 0 e.from e.to (lossless kids ts))
    (end_alike reach holes 0 short long last after rest e.to e.long_to paired.short_is paired.long_is paired.stand paired.insides to)
    ∙ ap (λ b. (0 == e.long_from && bytes us == e.long_to) || b) spans
    ∙ sym (whole_spans kind (filled holes 0 kids) us long_front e.long_from e.long_to)

node_same : (kind other : SyntaxKind) (kids below : Forest) → node kind kids ≡ node other below → (kind ≡ other) × (kids ≡ below)
node_same kind other kids below e = (cc, cc)

-- the tree of the long text is laid over the pieces of its parts
whole_is : (reach : Reach) (holes : Holes) (short long : List Part) (last : List ℕ) (after : List RawToken) (text : List ℕ) (kind : SyntaxKind) (kids : Forest)
    (syntax : Syntax) → ArePaired reach holes short long last after → IsTemplateOf reach holes short long after kind kids → trimmed text ≡ woven long last
    → IsWholeOf reach text (filled holes 0 (node kind kids)) syntax
    → syntax ≡ whole_tree kind (filled holes 0 kids) (pieces_parts long (pieces last after))
whole_is reach holes short long last after text kind kids syntax paired template text_is whole =
    let lexed = woven_lexes long last after paired.long_is paired.lexes in
    let same : whole.raw ≡ lexed.0 = some_same whole.raw lexed.0 (sym whole.lexes ∙ ap tokens text_is ∙ lexed.1) in
    let texts : pieces (trimmed text) whole.raw ≡ pieces_parts long (pieces last after) =
    ap (λ l. pieces l whole.raw) text_is ∙ ap (pieces (woven long last)) same ∙ lexed.3 in
    let parts = node_same whole.kind kind whole.kids (filled holes 0 kids) (sym whole.tree ∙ root_filled holes kind kids template.own) in
    whole.whole
    ∙ ap (λ a. whole_tree a whole.kids (pieces (trimmed text) whole.raw)) parts.0
    ∙ ap (λ z. whole_tree kind z (pieces (trimmed text) whole.raw)) parts.1
    ∙ ap (whole_tree kind (filled holes 0 kids)) texts

pub long_nodes : (reach : Reach) (holes : Holes) (short long : List Part) (last : List ℕ) (after : List RawToken) (name text : List ℕ) (raw : List RawToken)
    (kind : SyntaxKind) (kids : Forest) (syntax : Syntax) → ArePaired reach holes short long last after → trimmed name ≡ woven short last
    → trimmed text ≡ woven long last → IsBehind reach name raw kind kids → core holes false 12 0 kind kids ≡ true
    → IsWholeOf reach text (filled holes 0 (node kind kids)) syntax → (front long_front from to long_from long_to : ℕ)
    → AreSameBytes short long from to long_from long_to
    → has_node_at (whole_tree kind kids (pieces (trimmed name) raw)) front (front + from) (front + to)
    ≡ has_node_at syntax long_front (long_front + long_from) (long_front + long_to)
long_nodes reach holes short long last after name text raw kind kids syntax paired name_is text_is behind is whole front long_front from to long_from long_to same_bytes =
    let template = template_of reach holes short long last after name raw kind kids paired name_is behind is in
    let lexed = woven_lexes short last after paired.short_is paired.lexes in
    let same : raw ≡ lexed.0 = some_same raw lexed.0 (sym behind.lexes ∙ ap tokens name_is ∙ lexed.1) in
    let texts : pieces (trimmed name) raw ≡ pieces_parts short (pieces last after) =
    ap (λ l. pieces l raw) name_is ∙ ap (pieces (woven short last)) same ∙ lexed.3 in
    let e : Ends = record {
      from = from;
      to = to;
      long_from = long_from;
      long_to = long_to;
      some = same_bytes.some;
      long_some = same_bytes.long_some;
    } in
    ap (λ ts. has_node_at (whole_tree kind kids ts) front (front + from) (front + to)) texts
    ∙ laid_alike reach holes e short long last after kind kids paired template same_bytes.begin same_bytes.end front long_front
    ∙ ap (λ s. has_node_at s long_front (long_front + long_from) (long_front + long_to))
    (sym (whole_is reach holes short long last after text kind kids syntax paired template text_is whole))

-- of texts that are read
pub read_nodes : (reach : Reach) (holes : Holes) (short long : List Part) (last : List ℕ) (after : List RawToken) (name text : List ℕ) (syntax : Syntax)
    → ArePaired reach holes short long last after → trimmed name ≡ woven short last → trimmed text ≡ woven long last
    → (read : IsReadFilled reach holes name text syntax) → (front long_front from to long_from long_to : ℕ)
    → AreSameBytes short long from to long_from long_to
    → has_node_at syntax front (front + from) (front + to) ≡ has_node_at read.long long_front (long_front + long_from) (long_front + long_to)
read_nodes reach holes short long last after name text syntax paired name_is text_is read front long_front from to long_from long_to same =
    ap (λ s. has_node_at s front (front + from) (front + to)) read.short_is
    ∙ long_nodes reach holes short long last after name text read.raw read.kind read.kids read.long paired name_is text_is read.template read.is_core read.whole
    front long_front from to long_from long_to same
