-- The parts of a short text, and those of the long one, in which insides stand in the place of the names.
use Rattle.std.proofs.Common.{◌≡◌, ℕ, ◌+◌, ◌-◌, ◌<◌, ◌≤◌, ◌==◌, ◌&&◌, Bool, true, false, if◌then◌else◌, List, [], ◌∷◌, ◌++◌, length, Some, refl, sym, ap, subst, ◌∙◌, arith}
use Rattle.std.specs.Prelude.{⊤, Option, All, max, reverse, unwrap_or}
use Rattle.std.specs.Str.{chars}
use Rattle.std.proofs.lemmas.Bool.{and_parts, eqb-true, not-true}
use Rattle.std.proofs.lemmas.List.{reverse-append, length-reverse}
use Rattle.std.proofs.lemmas.List.Elements.{All-head, All-tail}
use Rattle.ssr_syntax_kinds.specs.Kinds.{is_trivia, same_kind}
use Rattle.ssr_syntax_kinds.specs.declared.kinds.SyntaxKind.{SyntaxKind}
use Rattle.ssr_syntax_kinds.specs.declared.kinds.SyntaxKind.TheVariants as k
use Rattle.ssr_syntax_kinds.specs.declared.reach.Reach.{Reach}
use Rattle.ssr_syntax_kinds.proofs.Shared.{same_kind-equal}
use Rattle.ssr_syntax_lex.specs.Seams.{has_token_at, is_seam, ends_in_line_comment}
use Rattle.ssr_syntax_lex.specs.Cursor.{begins}
use Rattle.ssr_syntax_lex.specs.Raw.{token}
use Rattle.ssr_syntax_lex.specs.Tokens.{tokens, token_text}
use Rattle.ssr_syntax_lex.specs.Words.{word_kind}
use Rattle.ucd_derived.specs.Binary.{is_xid_start, is_xid_continue}
use Rattle.ucd_derived.specs.XidStartRanges.{xid_start_ranges}
use Rattle.ucd_derived.specs.XidContinueRanges.{xid_continue_ranges}
use Rattle.ucd_table.specs.Rows.{in_ranges}
use Rattle.std.specs.Char.{encode_utf8}
use Rattle.ssr_syntax_lex.specs.declared.tokens.RawToken.{RawToken}
use Rattle.ssr_syntax_tree.specs.Syntax.{Syntax, depth_of}
use Rattle.ssr_syntax_forms.specs.Trees.{height}
use Rattle.ssr_syntax_rows.specs.Solid.{begins_solid, solid_tokens, pieces}
use Rattle.ssr_syntax_rows.proofs.Shared.{whole-depth}
use Rattle.ssr_syntax_places.specs.Core.{Hole, is_single}
use Rattle.ssr_syntax_places.specs.Insides.{with_inside, IsLexed}
use Rattle.ssr_syntax_places.specs.LongTexts.{AreNamed, IsReadAlone, holes_in}
use Rattle.ssr_syntax_places.specs.Woven.{Part, Cut, woven, begins_seam, AreWoven, AreCuts, AreReplaced, cut_text, cuts_of}
use Rattle.ssr_syntax_places.proofs.Shared.{read_alone}
use Rattle.ssr_syntax_shorts.specs.Shorts.{Stretch, the_name, opening, closes, short_text, long_text, names_from, IsInside, AreStretches}
use Rattle.ssr_syntax_shorts.specs.Told.{IsCut}
use Rattle.ssr_syntax_shorts.specs.declared.stand_ins.Name.{Name}
use Rattle.ssr_syntax_shorts.proofs.Joined.{utf8_ascii}

-- ** Cuts.

abbrev pub cuts_from : List Stretch → List Cut
cuts_from [] = []
cuts_from (s ∷ ss) = record { front = s.front; opening = opening; inside = the_name } ∷ cuts_from ss

pub cuts_spell : (ss : List Stretch) (last : List ℕ) → cut_text (cuts_from ss) last ≡ short_text ss last
cuts_spell [] last = refl
cuts_spell (s ∷ ss) last = ap (with_inside s.front opening the_name) (cuts_spell ss last)

closes_seam : (text : List ℕ) → closes text ≡ true → begins_seam text ≡ true
closes_seam [] is = absurd (cc)
closes_seam (c ∷ cs) is = ap is_seam (eqb-true c 41 is)

pub cuts_are : (reach : Reach) (d at : ℕ) (raw : List RawToken) (ss : List Stretch) (last : List ℕ) → AreStretches reach d ss last
    → All (IsCut raw) (names_from at ss) → AreCuts at raw (cuts_from ss) last
cuts_are reach d at raw [] last are cuts = tt
cuts_are reach d at raw (s ∷ ss) last (utf8, shut, inside, are) cuts =
    let P : Name → Type 0 = IsCut raw in
    let name : Name = record { at = at + (length s.front + 1); bytes = length s.inside.text } in
    let rest : List Name = names_from (at + ((length s.front + 1) + 1)) ss in
    let here : IsCut raw name = All-head P name rest cuts in
    let before : at + length s.front ≡ (at + (length s.front + 1)) - 1 = omega arith in
    let after : at + ((length s.front + 1) + 1) ≡ (at + (length s.front + 1)) + 1 = omega arith in (
      utf8,
      utf8_ascii 120 refl (omega arith),
      refl,
      ap begins_seam (cuts_spell ss last) ∙ closes_seam (short_text ss last) shut,
      ap (λ n. has_token_at n raw) before ∙ here.0,
      ap (λ n. has_token_at n raw) after ∙ here.1,
      cuts_are reach d (at + ((length s.front + 1) + 1)) raw ss last are (All-tail P name rest cuts),
    )

-- ** The name alone.

name_alone : (raw : List RawToken) → tokens the_name ≡ Some raw → (length raw ≡ 1) × (is_single (solid_tokens raw) ≡ true)
unfolding tokens chars token word_kind is_xid_start is_xid_continue in_ranges xid_start_ranges xid_continue_ranges encode_utf8
name_alone raw e =
    let one : List RawToken = unwrap_or (tokens the_name) [] in
    let same : raw ≡ one = ap (λ o. unwrap_or o []) (sym e) in
    (ap length same, ap (λ l. is_single (solid_tokens l)) same)

-- what ends with neither white space nor a comment doesn't end with a comment to the end of a line
solid_front : (xs ys : List RawToken) → 0 < length xs → begins_solid (xs ++ ys) ≡ begins_solid xs
solid_front [] ys some = absurd (omega (arith, some))
solid_front (x ∷ xs) ys some = refl

no_comment : (kind : SyntaxKind) (b : Bool) → is_trivia kind ≡ false → (same_kind kind k.COMMENT && b) ≡ false
no_comment kind b solid = by (same_kind kind k.COMMENT) refl where
  by : (c : Bool) → same_kind kind k.COMMENT ≡ c → (same_kind kind k.COMMENT && b) ≡ false
  by false e = ap (λ x. x && b) e
  by true e = let clash : is_trivia kind ≡ true = ap is_trivia (same_kind-equal kind k.COMMENT e) in cc

solid_ended : (text : List ℕ) (raw : List RawToken) → begins_solid (reverse raw) ≡ true → ends_in_line_comment text raw ≡ false
solid_ended text [] is = refl
solid_ended text (t ∷ []) is = no_comment t.kind (begins "//" (token_text text t)) (not-true (is_trivia t.kind) is)
solid_ended text (t ∷ u ∷ us) is =
    solid_ended text (u ∷ us)
    (sym (solid_front (reverse (u ∷ us)) (reverse (t ∷ [])) (omega (arith, length-reverse (u ∷ us))))
    ∙ sym (ap begins_solid (reverse-append (t ∷ []) (u ∷ us))) ∙ is)

-- ** What stands in the place of the names.

abbrev pub AreLow : ℕ → List Hole → Type 0
AreLow d [] = ⊤
AreLow d (h ∷ hs) = (height h.tree ≤ 1 + d) × AreLow d hs

-- a part with a name, the same part with the inside that the name stands for, and their stretch
pub record IsMatched (p q : Part) (s : Stretch) : Type 0 where
  pub front : p.front ≡ s.front
  pub other_front : q.front ≡ s.front
  pub name : p.inside ≡ the_name
  pub inside : q.inside ≡ s.inside.text
  pub single : is_single (solid_tokens p.within) ≡ true

abbrev pub AreMatched : List Part → List Part → List Stretch → Type 0
AreMatched [] [] [] = ⊤
AreMatched (p ∷ ps) (q ∷ qs) (s ∷ ss) = IsMatched p q s × AreMatched ps qs ss
AreMatched _ _ _ = ⊥

pub record ArePut (reach : Reach) (d : ℕ) (ps : List Part) (ss : List Stretch) (last : List ℕ) : Type 0 where
  pub long : List Part
  pub holes : List Hole
  pub replaced : AreReplaced ps long
  pub named : AreNamed reach ps long holes
  pub low : AreLow d holes
  pub text : woven long last ≡ long_text ss last
  pub matched : AreMatched ps long ss

alone_low : (reach : Reach) (text : List ℕ) (syntax : Syntax) (d : ℕ) (alone : IsReadAlone reach text syntax) → depth_of syntax ≤ d
    → height alone.hole.tree ≤ 1 + d
alone_low reach text syntax d alone le =
    let kids = alone.inside.kids in
    let whole : depth_of syntax ≡ height kids =
    ap depth_of alone.whole ∙ whole-depth alone.inside.kind kids (pieces text alone.raw) in
    let tree : height alone.hole.tree ≡ max (1 + height kids) 0 = ap height alone.inside.tree in
    omega (arith, whole, tree, le)

inside_alone : (reach : Reach) (d : ℕ) (s : Stretch) → IsInside reach d s.inside → IsReadAlone reach s.inside.text s.inside.syntax
inside_alone reach d s is = read_alone reach s.inside.text s.inside.syntax is.utf8 is.alone is.some is.fits

inside_lexed : (reach : Reach) (d : ℕ) (s : Stretch) (is : IsInside reach d s.inside) → IsLexed s.inside.text (inside_alone reach d s is).raw
inside_lexed reach d s is =
    let alone = inside_alone reach d s is in
    let same : is.fits.0 ≡ alone.raw = some_is is.fits.0 alone.raw (sym is.fits.1 ∙ ap tokens is.alone ∙ alone.lexes) in
    record {
      utf8 = is.utf8;
      lexes = alone.lexes;
      ended = solid_ended s.inside.text alone.raw
          (subst (λ l. begins_solid (reverse l) ≡ true) same (and_parts (begins_solid is.fits.0) (begins_solid (reverse is.fits.0)) is.fits.2).1);
    } where
      some_is : (x y : List RawToken) → Some x ≡ Some y → x ≡ y
      some_is x y e = cc

abbrev first_cut : List Cut → Cut
first_cut [] = record { front = []; opening = 0; inside = [] }
first_cut (c ∷ cs) = c

abbrev other_cuts : List Cut → List Cut
other_cuts [] = []
other_cuts (c ∷ cs) = cs

inside_same : (a b inside other rest more : List ℕ) (c d : ℕ) → a ≡ b → c ≡ d → inside ≡ other → rest ≡ more → with_inside a c inside rest ≡ with_inside b d other more
inside_same a b inside other rest more c d e f g h =
    ap (λ l. with_inside l c inside rest) e ∙ ap (λ n. with_inside b n inside rest) f ∙ ap (λ l. with_inside b d l rest) g ∙ ap (with_inside b d other) h

pub put : (reach : Reach) (d : ℕ) (ps : List Part) (ss : List Stretch) (last : List ℕ) → cuts_of ps ≡ cuts_from ss → AreWoven ps last
    → AreStretches reach d ss last → ArePut reach d ps ss last
put reach d [] [] last e woven_is are =
    record { long = []; holes = []; replaced = tt; named = tt; low = tt; text = refl; matched = tt }
put reach d [] (s ∷ ss) last e woven_is are = absurd (omega (arith, ap length e))
put reach d (p ∷ ps) [] last e woven_is are = absurd (omega (arith, ap length e))
put reach d (p ∷ ps) (s ∷ ss) last e (utf8, opens, front_is, name_is, seam, all) (front_utf8, shut, inside, are) =
    let rest = put reach d ps ss last (ap other_cuts e) all are in
    let alone = inside_alone reach d s inside in
    let front : p.front ≡ s.front = ap (λ cs. (first_cut cs).front) e in
    let open_is : p.opening ≡ opening = ap (λ cs. (first_cut cs).opening) e in
    let name : p.inside ≡ the_name = ap (λ cs. (first_cut cs).inside) e in
    let one = name_alone p.within (ap tokens (sym name) ∙ name_is.lexes) in
    let q : Part = record { front = p.front; opening = p.opening; inside = s.inside.text; before = p.before; within = alone.raw } in
    record {
      long = q ∷ rest.long;
      holes = alone.hole ∷ rest.holes;
      replaced = (refl, refl, refl, inside_lexed reach d s inside, rest.replaced);
      named = (
        record { front = refl; opening = refl; one = one.0; single = one.1; tokens_are = alone.tokens_are; filling = alone.filling; inside = alone.inside },
        rest.named,
      );
      low = (alone_low reach s.inside.text s.inside.syntax d alone inside.deep, rest.low);
      text = inside_same p.front s.front s.inside.text s.inside.text (woven rest.long last) (long_text ss last) p.opening opening front open_is refl rest.text;
      matched = (record { front = front; other_front = front; name = name; inside = refl; single = one.1 }, rest.matched);
    }

-- what stands for a name isn't deeper
pub holes_low : (d at : ℕ) (ps : List Part) (hs : List Hole) (number : ℕ) (hole : Hole) → AreLow d hs → holes_in at ps hs number ≡ Some hole
    → height hole.tree ≤ 1 + d
holes_low d at [] hs number hole low e = absurd (cc)
holes_low d at (p ∷ ps) [] number hole low e = absurd (cc)
holes_low d at (p ∷ ps) (h ∷ hs) number hole low e =
    let place : ℕ = at + length (solid_tokens p.before) in
    pick (number == place) (holes_in (place + 1) ps hs number) (holes_low d (place + 1) ps hs number hole low.1) e where
      pick : (b : Bool) (o : Option Hole) → (o ≡ Some hole → height hole.tree ≤ 1 + d) → (if b then Some h else o) ≡ Some hole → height hole.tree ≤ 1 + d
      pick true o further e = let same : h ≡ hole = cc in subst (λ x. height (Hole.tree x) ≤ 1 + d) same low.0
      pick false o further e = further e
