-- What fits a long text: the filled template, if the short text with names in the place of its insides is the template.
use Rattle.std.proofs.Common.{◌≡◌, ℕ, ◌<◌, true, false, ◌&&◌, List, [], ◌∷◌, length, Some, inl, inr, refl, sym, ap, subst, ◌∙◌, arith}
use Rattle.std.proofs.lemmas.List.{append-nil}
use Rattle.std.proofs.lemmas.Bool.{and_parts}
use Rattle.std.specs.Prelude.{◌^◌, reverse, Ok}
use Rattle.std.specs.Str.{IsUtf8}
use Rattle.ssr_syntax_kinds.specs.declared.fragment.Fragment.TheVariants as fragments
use Rattle.ssr_syntax_kinds.specs.declared.kinds.SyntaxKind.{SyntaxKind}
use Rattle.ssr_syntax_kinds.specs.declared.kinds.SyntaxKind.TheVariants as k
use Rattle.ssr_syntax_kinds.specs.declared.reach.Reach.{Reach}
use Rattle.ssr_syntax_lex.specs.Tokens.{tokens}
use Rattle.ssr_syntax_lex.specs.declared.tokens.RawToken.{RawToken}
use Rattle.ssr_syntax_lex.proofs.Shared.{seam_ends}
use Rattle.ssr_syntax_tree.specs.Syntax as plain
use Rattle.ssr_syntax_tree.specs.Syntax.{Syntax, nothing, branch}
use Rattle.ssr_syntax_forms.specs.Fitting.{Fits}
use Rattle.ssr_syntax_forms.specs.declared.tokens.Token.{Token}
use Rattle.ssr_syntax_forms.specs.Trees.{Forest, done, join, spell}
use Rattle.ssr_syntax_types.specs.declared.goals.Goal.TheVariants.{Expr}
use Rattle.ssr_syntax_types.specs.declared.goals.ExprPlace.TheVariants.{Anywhere}
use Rattle.ssr_syntax_rows.specs.Lossless.{past, whole_tree}
use Rattle.ssr_syntax_rows.specs.MacroRules.{misnames_macros}
use Rattle.ssr_syntax_rows.specs.Solid.{begins_solid, solid_tokens, pieces}
use Rattle.ssr_syntax.specs.Grammar.{grammar_of}
use Rattle.ssr_syntax.specs.Reading.{fragment_reading_of, trimmed}
use Rattle.ssr_syntax_places.specs.Core.{Hole, Holes, AreFillings, is_no_hole, are_spelled, is_single, core, filled}
use Rattle.ssr_syntax_places.specs.LongTexts.{ArePaired, IsBehind, IsReadFilled, IsWholeOf}
use Rattle.ssr_syntax_places.specs.PlainCore.{is_core_tree}
use Rattle.ssr_syntax_places.specs.Standing.{node}
use Rattle.ssr_syntax_places.specs.Woven.{Part, woven, AreWoven, solid_parts, pieces_parts, StandFor}
use Rattle.ssr_syntax_places.proofs.AlignedParts.{aligned_parts}
use Rattle.ssr_syntax_places.proofs.Aligned.{AreAligned}
use Rattle.ssr_syntax_places.proofs.Behind.{forest_behind}
use Rattle.ssr_syntax_places.proofs.Reading.{fragment_told}
use Rattle.ssr_syntax_places.proofs.Insides.{some_same}
use Rattle.ssr_syntax_places.proofs.LongTexts.{long_fits}
use Rattle.ssr_syntax_places.proofs.Misnamed.{named_whole}
use Rattle.ssr_syntax_places.proofs.Outside.{front_some, same_outside}
use Rattle.ssr_syntax_places.proofs.PlainCore.{tree_core}
use Rattle.ssr_syntax_places.proofs.Placed.{goal_spelled}
use Rattle.ssr_syntax_places.proofs.Templates.{IsOwn, IsTemplate, AreSpelled, core_template}
use Rattle.ssr_syntax_places.proofs.Unnamed.{filled_free, whole_named}
use Rattle.ssr_syntax_places.proofs.Woven.{woven_lexes}

-- what names stand for has their tokens
pub fillings_spelled : (reach : Reach) (holes : Holes) → AreFillings reach holes → AreSpelled holes
fillings_spelled reach holes are number hole held =
    let closing : Token = record { kind = k.R_PAREN; joined = k.R_PAREN; size = 1 } in
    goal_spelled (grammar_of reach) (Expr Anywhere) hole.tree hole.tokens (closing ∷ []) ((are number hole held).inside (closing ∷ []) refl [])

-- ** The root is no name.

first_own : (holes : Holes) (hole : Hole) (us : List Token) → 0 < length us → are_spelled holes 0 us ≡ true → holes 0 ≡ Some hole → ⊥
first_own holes hole [] some own held = omega (arith, some)
first_own holes hole (t ∷ us) some own held =
    let none : is_no_hole (holes 0) ≡ true = (and_parts (is_no_hole (holes 0)) (are_spelled holes 1 us) own).0 in
    cc (none, ap is_no_hole held)

no_name : (holes : Holes) (hole : Hole) (short long : List Part) (last : List ℕ) (after : List Token) → AreWoven short last
    → StandFor holes 0 short long after → 0 < length (solid_parts short after) → holes 0 ≡ Some hole → ⊥
no_name holes hole [] [] last after is stand some held = first_own holes hole after some stand held
no_name holes hole [] (q ∷ qs) last after is stand some held = stand
no_name holes hole (p ∷ ps) [] last after is stand some held = stand
no_name holes hole (p ∷ ps) (q ∷ qs) last after (utf8, opens, front_is, inside_is, seam, all) (other, same, own, single, known, filling, others) some held =
    first_own holes hole (solid_tokens p.before)
    (front_some p.before (seam_ends p.front p.opening p.before utf8 opens front_is.lexes front_is.ended)) own held

single_some : (us : List Token) → is_single us ≡ true → 0 < length us
single_some [] is = absurd (cc)
single_some (t ∷ us) is = omega arith

-- ** The tree of the long text.

template_spelled : (reach : Reach) (text : List ℕ) (raw : List RawToken) (kind : SyntaxKind) (kids : Forest) → IsBehind reach text raw kind kids
    → spell kids ≡ solid_tokens raw
template_spelled reach text raw kind kids behind =
    sym (append-nil (spell kids)) ∙ goal_spelled (grammar_of reach) (Expr Anywhere) (node kind kids) (solid_tokens raw) [] behind.fits

-- the template that the short text is
pub record IsTemplateOf (reach : Reach) (holes : Holes) (short long : List Part) (after : List RawToken) (kind : SyntaxKind) (kids : Forest) : Type 0 where
  pub own : IsOwn holes 0 kind kids (IsTemplate holes 0 kids)
  pub spells : spell kids ≡ solid_parts short (solid_tokens after)

pub template_of : (reach : Reach) (holes : Holes) (short long : List Part) (last : List ℕ) (after : List RawToken) (name : List ℕ) (raw : List RawToken)
    (kind : SyntaxKind) (kids : Forest) → ArePaired reach holes short long last after → trimmed name ≡ woven short last
    → IsBehind reach name raw kind kids → core holes false 12 0 kind kids ≡ true → IsTemplateOf reach holes short long after kind kids
template_of reach holes short long last after name raw kind kids paired text behind is =
    let lexed = woven_lexes short last after paired.short_is paired.lexes in
    let same : raw ≡ lexed.0 = some_same raw lexed.0 (sym behind.lexes ∙ ap tokens text ∙ lexed.1) in
    let spells : spell kids ≡ solid_parts short (solid_tokens after) =
    template_spelled reach name raw kind kids behind ∙ ap solid_tokens same ∙ lexed.2 in
    elim (core_template holes false 12 0 kind kids is) [
      | inl root ↦ absurd (no_name holes root.hole short long last (solid_tokens after) paired.short_is paired.stand
          (omega (arith, single_some (spell kids) root.single, ap length spells)) root.held)
      | inr own ↦ record { own = own; spells = spells }
    ]

-- the long text is lexed, and has the pieces of its parts
long_named : (reach : Reach) (holes : Holes) (short long : List Part) (last : List ℕ) (after : List RawToken) (kind : SyntaxKind) (kids : Forest)
    (us : List plain.Token) → ArePaired reach holes short long last after → IsTemplateOf reach holes short long after kind kids
    → us ≡ pieces_parts long (pieces last after) → misnames_macros (whole_tree kind (filled holes 0 kids) us) ≡ false
long_named reach holes short long last after kind kids us paired template same =
    let z : Forest = filled holes 0 kids in
    let n : ℕ = length (solid_parts short (solid_tokens after)) in
    let ts : List plain.Token = pieces_parts short (pieces last after) in
    let few : length (spell kids) ≡ n = ap length template.spells in
    let aligned : AreAligned holes 0 n ts us =
    subst (λ l. AreAligned holes 0 n ts l) (sym same)
    (aligned_parts reach holes 0 n short long last after paired.short_is paired.long_is paired.stand paired.insides refl) in
    named_whole (whole_tree kind z us)
    (whole_named kind z us (past (length (spell z)) us) template.own.wordless
    (λ w. filled_free w holes (fillings_spelled reach holes paired.fillings) 0 n kids ts us (omega (arith, few)) template.own.below aligned))

-- the filled template is one node
pub root_filled : (holes : Holes) (kind : SyntaxKind) (kids : Forest) → IsOwn holes 0 kind kids (IsTemplate holes 0 kids)
    → filled holes 0 (node kind kids) ≡ node kind (filled holes 0 kids)
root_filled holes kind kids own = ap (λ y. join y done) own.filled

record IsLong (reach : Reach) (holes : Holes) (long : List Part) (last : List ℕ) (after : List RawToken) (kind : SyntaxKind) (kids : Forest) : Type 0 where
  pub raw : List RawToken
  pub lexes : tokens (woven long last) ≡ Some raw
  pub texts : pieces (woven long last) raw ≡ pieces_parts long (pieces last after)
  pub fits : Fits (grammar_of reach) (grammar_of reach (Expr Anywhere)) done (filled holes 0 (node kind kids)) (solid_tokens raw) []

long_is : (reach : Reach) (holes : Holes) (short long : List Part) (last : List ℕ) (after : List RawToken) (kind : SyntaxKind) (kids : Forest)
    → ArePaired reach holes short long last after → IsTemplateOf reach holes short long after kind kids → core holes false 12 0 kind kids ≡ true
    → IsLong reach holes long last after kind kids
long_is reach holes short long last after kind kids paired template is =
    let lexed = woven_lexes long last after paired.long_is paired.lexes in
    let fits = long_fits reach holes short long last after kind kids paired.fillings paired.long_is paired.lexes paired.stand
    (append-nil (spell kids) ∙ template.spells) is in
    let same : fits.0 ≡ lexed.0 = some_same fits.0 lexed.0 (sym fits.1 ∙ lexed.1) in
    record {
      raw = lexed.0;
      lexes = lexed.1;
      texts = lexed.3;
      fits = subst (λ l. Fits (grammar_of reach) (grammar_of reach (Expr Anywhere)) done (filled holes 0 (node kind kids)) (solid_tokens l) []) same fits.2;
    }

pub long_whole : (reach : Reach) (holes : Holes) (short long : List Part) (last : List ℕ) (after : List RawToken) (name text : List ℕ) (raw : List RawToken)
    (kind : SyntaxKind) (kids : Forest) → ArePaired reach holes short long last after → trimmed name ≡ woven short last → trimmed text ≡ woven long last
    → IsBehind reach name raw kind kids → core holes false 12 0 kind kids ≡ true
    → (syntax : Syntax) × IsWholeOf reach text (filled holes 0 (node kind kids)) syntax
long_whole reach holes short long last after name text raw kind kids paired name_is text_is behind is =
    let template = template_of reach holes short long last after name raw kind kids paired name_is behind is in
    let made = long_is reach holes short long last after kind kids paired template is in
    let z : Forest = filled holes 0 kids in
    let us : List plain.Token = pieces (trimmed text) made.raw in
    let lexed = woven_lexes short last after paired.short_is paired.lexes in
    let same : raw ≡ lexed.0 = some_same raw lexed.0 (sym behind.lexes ∙ ap tokens name_is ∙ lexed.1) in
    let short_pieces : pieces (woven short last) raw ≡ pieces_parts short (pieces last after) = ap (pieces (woven short last)) same ∙ lexed.3 in
    let long_pieces : us ≡ pieces_parts long (pieces last after) = ap (λ l. pieces l made.raw) text_is ∙ made.texts in
    let outside : (begins_solid made.raw && begins_solid (reverse made.raw)) ≡ true =
    same_outside reach holes short long last after raw made.raw (woven short last) (trimmed text) paired.short_is paired.long_is paired.stand paired.insides
    paired.lexes short_pieces long_pieces behind.outside in
    let whole : Syntax = whole_tree kind z us in
    let root : filled holes 0 (node kind kids) ≡ node kind z = root_filled holes kind kids template.own in
    let fits : Fits (grammar_of reach) (grammar_of reach (Expr Anywhere)) done (node kind z) (solid_tokens made.raw) [] =
    subst (λ y. Fits (grammar_of reach) (grammar_of reach (Expr Anywhere)) done y (solid_tokens made.raw) []) root made.fits in
    let named : misnames_macros whole ≡ false = long_named reach holes short long last after kind kids us paired template long_pieces in (
      whole,
      record {
        raw = made.raw;
        kind = kind;
        kids = z;
        lexes = ap tokens text_is ∙ made.lexes;
        tree = root;
        whole = refl;
        fits = (made.raw, ap tokens text_is ∙ made.lexes, outside, (kind, z, fits, refl, named));
      },
    )

-- ** What is read.

pub long_read : (reach : Reach) (holes : Holes) (short long : List Part) (last : List ℕ) (after : List RawToken) (name text : List ℕ) (syntax : Syntax)
    → ArePaired reach holes short long last after → trimmed name ≡ woven short last → trimmed text ≡ woven long last → IsUtf8 (trimmed name)
    → length text < 2 ^ 32 → fragment_reading_of reach fragments.Expr name ≡ Ok syntax → is_core_tree holes false 12 syntax ≡ true
    → IsReadFilled reach holes name text syntax
long_read reach holes short long last after name text syntax paired name_is text_is utf8 few reads is =
    let forest = forest_behind reach name syntax utf8 reads in
    let template : core holes false 12 0 forest.kind forest.kids ≡ true =
    tree_core reach holes false 12 name forest.raw forest.kind forest.kids forest.behind (ap (is_core_tree holes false 12) (sym forest.whole) ∙ is) in
    let made = long_whole reach holes short long last after name text forest.raw forest.kind forest.kids paired name_is text_is forest.behind template in
    record {
      raw = forest.raw;
      kind = forest.kind;
      kids = forest.kids;
      template = forest.behind;
      short_is = forest.whole;
      is_core = template;
      long = made.0;
      whole = made.1;
      read = fragment_told reach fragments.Expr text made.0 few made.1.fits;
    }
