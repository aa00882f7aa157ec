-- Laws of the parts that are set aside.
use Rattle.std.proofs.Common.{arith, ◌≡◌, ℕ, ◌≤◌, Bool, true, List, [], ◌∷◌, length, map, drop, get_or, subst, ap, sym, ◌∙◌, Option, Some, None, Result, Ok, Err, IfOk, IfSome}
use Rattle.std.specs.Prelude.{◌==◌, nat_eq, nat_lt, slice_get}
use Rattle.std.proofs.lemmas.Bool.{eqb-true, ltb-true}
use Rattle.std.proofs.lemmas.Option.{slice_get-get_or}
use Rattle.std.proofs.lemmas.List.{drop_all}
use Rattle.ssr_syntax_kinds.specs.declared.range.TextRange.{TextRange}
use Rattle.ssr_syntax_lex.specs.declared.tokens.RawToken.{RawToken}
use Rattle.ssr_base_trees.specs.Changes.{Change}
use Rattle.ssr_base_trees.specs.Origins.{Span, span_of}
use Rattle.ssr_drafts.specs.declared.units.Unit.{Unit as UnitOf}
use Rattle.ssr_set_aside.specs.Fronts.{bare}
use Rattle.ssr_set_aside.specs.Parts.{AreBytes, AreOfTokens, AreParts, AreTokens, AreUnits, IsUnit, no_part, no_unit, parts, unit}

-- what an answer says, if it says what implies that
pub ok_map : {A E : Type 0} (P Q : A → Type 0) (r : Result A E) → ((x : A) → P x → Q x) → IfOk r P → IfOk r Q
ok_map P Q (Ok x) f h = f x h
ok_map P Q (Err e) f h = tt

pub some_map : {A : Type 0} (P Q : A → Type 0) (r : Option A) → ((x : A) → P x → Q x) → IfSome r P → IfSome r Q
some_map P Q (Some x) f h = f x h
some_map P Q None f h = tt

-- bytes of tokens, told by another range
pub same_bytes : (tokens : List RawToken) (from to : ℕ) (a b : TextRange) → a.start ≡ b.start → nat_eq a.end b.end ≡ true
    → AreBytes tokens from to (span_of a) → AreBytes tokens from to (span_of b)
same_bytes tokens from to a b s e are =
    let e' : a.end ≡ b.end = eqb-true a.end b.end e in
    record {
      first = are.first;
      begins = are.begins;
      start = sym s ∙ are.start;
      before = are.before;
      follows = are.follows;
      last = are.last;
      ends = are.ends;
      end = sym e' ∙ are.end;
    }

-- units from a place on, if one begins there and the others behind it
pub unit_from : (text : List ℕ) (tokens : List RawToken) (u : UnitOf) (start at to : ℕ) → u.from ≡ at → IsUnit text tokens u.kind u.from u.to
    → ((x : ℕ) → AreUnits text tokens at x → AreUnits text tokens start x) → AreUnits text tokens u.to to → AreUnits text tokens start to
unit_from text tokens u start at to is one before rest =
    before to (subst (λ n. AreUnits text tokens n to) is (unit u.kind u.from u.to to one rest))

pub units_to : (text : List ℕ) (tokens : List RawToken) (at to : ℕ) → nat_eq at to ≡ true → AreUnits text tokens at to
units_to text tokens at to same = subst (λ n. AreUnits text tokens at n) (eqb-true at to same) (no_unit at)

-- no change is left, and no range
pub parts_none : (text plain : List ℕ) (tokens : List RawToken) (cs : List Change) (i : ℕ) (left : List TextRange) (b : Bool) → length cs ≤ i
    → b ≡ (length left == 0) → b ≡ true → AreOfTokens text plain tokens (drop i cs) (map span_of left)
parts_none text plain tokens cs i [] b h is holds = rw (drop_all i cs h) no_part
parts_none text plain tokens cs i (first ∷ others) b h is holds =
    let nothing : length (first ∷ others) ≡ 0 = eqb-true (length (first ∷ others)) 0 (sym is ∙ holds) in absurd (omega (arith, nothing))

-- the changes from some place on, written as the first of them and the others
pub parts_from : (text plain : List ℕ) (tokens : List RawToken) (cs left : List Change) (spans : List Span) → left ≡ cs
    → AreOfTokens text plain tokens cs spans → AreOfTokens text plain tokens left spans
parts_from text plain tokens cs left spans is are = subst (λ (left : List Change). AreOfTokens text plain tokens left spans) (sym is) are

-- parts by the tokens of a text
pub are_parts : (text plain : List ℕ) (tokens : List RawToken) (cs aside : List Change) (spans unsearched : List Span) → plain ≡ bare text
    → AreTokens text tokens → AreOfTokens text plain tokens cs spans → aside ≡ cs → unsearched ≡ spans → AreParts text aside unsearched
are_parts text plain tokens cs aside spans unsearched is are all same whole =
    let one : AreParts text cs spans = parts tokens cs spans are (subst (λ (plain : List ℕ). AreOfTokens text plain tokens cs spans) is all) in
    let two : AreParts text aside spans = subst (λ (aside : List Change). AreParts text aside spans) (sym same) one in
    subst (λ (spans : List Span). AreParts text aside spans) (sym whole) two

-- the token at a place, as it is looked up
pub got_token : (tokens : List RawToken) (place : ℕ) (token : RawToken) → true ≡ nat_lt place (length tokens) → token ≡ get_or tokens place token
    → slice_get tokens place ≡ Some token
got_token tokens place token within is = slice_get-get_or tokens place token (ltb-true place (length tokens) (sym within)) ∙ ap Some (sym is)
