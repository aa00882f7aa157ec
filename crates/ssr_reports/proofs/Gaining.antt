-- Laws of tokens that are written behind others.
use Rattle.std.proofs.Common.{◌≡◌, ℕ, ◌+◌, ◌<◌, ◌≤◌, List, [], ◌∷◌, ◌++◌, length, get_or, take, flat_map, refl, sym, ◌∙◌, ap, subst, append_assoc, append-nil, take_all, Ok, Vec, Global}
use Rattle.std.proofs.lemmas.List.{take_more, flat_map_more}
use Rattle.json.specs.Lex.{tokens}
use Rattle.json.specs.Print.{print}
use Rattle.ssr_reports.specs.declared.json_lines.Held.{Held}
use Rattle.json.specs.Token.{Token}
use Rattle.json.specs.Written.{Written, Writes}
use Rattle.ssr_reports.specs.JsonLines.{Gains, held_tokens, IsLineOf}

pub gains_one : {E : Type 0} (u : Unit {0}) (old new : Written) (t : Token) → Writes {E = E} (Ok u) old new t → Gains old new (t ∷ [])
gains_one u old new t w = record { before = w.room.0; tokens = w.ok }

pub gains_join : (a b c : Written) (xs ys : List Token) → Gains a b xs → Gains b c ys → Gains a c (xs ++ ys)
gains_join a b c xs ys f g = record {
  before = g.before ∙ f.before;
  tokens = g.tokens ∙ (ap (λ (t : List Token). t ++ ys) f.tokens ∙ append_assoc a.tokens xs ys);
}

pub gains_none : (a : Written) → Gains a a []
gains_none a = record { before = refl; tokens = sym (append-nil a.tokens) }

-- what one more placeholder holds
pub gains_more : (a b c : Written) (placeholders : List Held) (i : ℕ) (held : Held) → i < length placeholders → held ≡ get_or placeholders i held
    → Gains a b (flat_map held_tokens (take i placeholders)) → Gains b c (held_tokens held) → Gains a c (flat_map held_tokens (take (i + 1) placeholders))
gains_more a b c placeholders i held h is f g =
    let longer : take (i + 1) placeholders ≡ take i placeholders ++ held ∷ [] =
    take_more placeholders i held h ∙ ap (λ (x : Held). take i placeholders ++ x ∷ []) (sym is) in
    let told : flat_map held_tokens (take i placeholders) ++ held_tokens held ≡ flat_map held_tokens (take (i + 1) placeholders) =
    flat_map_more held_tokens [] (take i placeholders) held ∙ ap (flat_map held_tokens) (sym longer) in
    subst (λ (ts : List Token). Gains a c ts) told (gains_join a b c _ _ f g)

-- a line of the tokens that a writer gained from nothing
pub line_of : (a b : Written) (ts : List Token) (line : Vec ℕ Global) → Gains a b ts → a.before ≡ [] → a.tokens ≡ []
    → line.items ≡ (b.before ++ print b.tokens) ++ 10 ∷ [] → tokens (print b.tokens) ≡ b.tokens → IsLineOf ts line
line_of a b ts line g before none text back =
    let all : b.tokens ≡ ts = g.tokens ∙ ap (λ (t : List Token). t ++ ts) none in
    record {
      text = text ∙ (ap (λ (t : List ℕ). (t ++ print b.tokens) ++ 10 ∷ []) (g.before ∙ before) ∙ ap (λ (t : List Token). print t ++ 10 ∷ []) all);
      reads_back = subst (λ (t : List Token). tokens (print t) ≡ t) all back;
    }

pub gains_all : (a b : Written) (placeholders : List Held) (i : ℕ) → length placeholders ≤ i → Gains a b (flat_map held_tokens (take i placeholders))
    → Gains a b (flat_map held_tokens placeholders)
gains_all a b placeholders i h g = subst (λ (hs : List Held). Gains a b (flat_map held_tokens hs)) (take_all i placeholders h) g
