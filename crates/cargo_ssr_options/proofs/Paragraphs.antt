-- Rules that are gathered line by line.
use Rattle.std.proofs.Common.{ℕ, ◌≡◌, ◌+◌, ◌<◌, ◌≤◌, true, false, not, List, [], ◌∷◌, ◌++◌, length, map, filter, refl, sym, ◌∙◌, ap, arith, rules, drop, get_or, Bor}
use Rattle.std.proofs.lemmas.List.{append_assoc, drop_all, drop_more}
use Rattle.std.specs.List.{join_with_byte, slice_split, onto_first}
use Rattle.cargo_ssr_options.specs.RulesFile.{is_blank, is_comment, is_filled, rules_of_lines}
use Rattle.cargo_ssr_options.specs.Private.RulesFile.{closed, with_line}

-- a paragraph that began with a rule's lines, joined
abbrev pub begun : List ℕ → List (List ℕ)
begun [] = []
begun (byte ∷ rule) = (byte ∷ rule) ∷ []

filled-cons : (byte : ℕ) (rule : List ℕ) → is_filled (byte ∷ rule) ≡ true
filled-cons byte rule = first_of (search rules, grind arith)

abbrev pub onto_front : List (List ℕ) → List (List (List ℕ)) → List (List (List ℕ))
onto_front lines [] = lines ∷ []
onto_front lines (part ∷ parts) = (lines ++ part) ∷ parts

-- what the lines that are left come to, behind a rule that began
abbrev pub left : List ℕ → List (List ℕ) → List (List ℕ)
left rule ls = filter is_filled (map (join_with_byte 10) (onto_front (begun rule) (slice_split is_blank (filter (λ line. not (is_comment line)) ls))))

kept-none : (parts : List (List (List ℕ))) → filter is_filled (map (join_with_byte 10) (onto_front [] parts)) ≡ filter is_filled (map (join_with_byte 10) parts)
kept-none [] = refl
kept-none (part ∷ parts) = refl

pub left-none : (ls : List (List ℕ)) → left [] ls ≡ rules_of_lines ls
left-none ls = kept-none (slice_split is_blank (filter (λ line. not (is_comment line)) ls))

-- at the end the rule is closed
pub left-end : (rule : List ℕ) → left rule [] ≡ closed [] rule
left-end [] = refl
left-end (byte ∷ rule) = refl

-- a comment is passed over
pub left-comment : (rule line : List ℕ) (ls : List (List ℕ)) → is_comment line ≡ true → left rule (line ∷ ls) ≡ left rule ls
left-comment rule line ls e = rw e refl

closed-front : (rule : List ℕ) (parts : List (List (List ℕ))) → filter is_filled (map (join_with_byte 10) (onto_front (begun rule) ([] ∷ parts))) ≡ closed [] rule ++ filter is_filled (map (join_with_byte 10) parts)
closed-front [] parts = refl
closed-front (byte ∷ rule) parts = rw (filled-cons byte rule) refl

-- a blank line closes the rule
pub left-blank : (rule line : List ℕ) (ls : List (List ℕ)) → is_comment line ≡ false → is_blank line ≡ true → left rule (line ∷ ls) ≡ closed [] rule ++ left [] ls
left-blank rule line ls e blank =
    let others : List (List (List ℕ)) = slice_split is_blank (filter (λ line. not (is_comment line)) ls) in
    rw (e, blank) (closed-front rule others ∙ ap (λ rest. closed [] rule ++ rest) (sym (kept-none others)))

joined-more : (rule line : List ℕ) (part : List (List ℕ)) → join_with_byte 10 (rule ∷ line ∷ part) ≡ join_with_byte 10 ((rule ++ (10 ∷ line)) ∷ part)
joined-more rule line [] = refl
joined-more rule line (next ∷ part) = sym (append_assoc rule (10 ∷ line) (10 ∷ join_with_byte 10 (next ∷ part)))

onto-line : (rule : List ℕ) (byte : ℕ) (line : List ℕ) (parts : List (List (List ℕ))) → filter is_filled (map (join_with_byte 10) (onto_front (begun rule) (onto_first (byte ∷ line) parts))) ≡ filter is_filled (map (join_with_byte 10) (onto_front (begun (with_line rule (byte ∷ line))) parts))
onto-line [] byte line [] = refl
onto-line [] byte line (part ∷ parts) = refl
onto-line (b ∷ rule) byte line [] = rw (filled-cons b rule) refl
onto-line (b ∷ rule) byte line (part ∷ parts) = rw (filled-cons b rule) (ap (λ text. filter is_filled (text ∷ map (join_with_byte 10) parts)) (joined-more (b ∷ rule) (byte ∷ line) part))

-- any other line is one more of the rule
pub left-line : (rule line : List ℕ) (ls : List (List ℕ)) → is_comment line ≡ false → is_blank line ≡ false → left rule (line ∷ ls) ≡ left (with_line rule line) ls
left-line rule [] ls e blank = cc
left-line rule (byte ∷ line) ls e blank = rw (e, blank) (onto-line rule byte line (slice_split is_blank (filter (λ line. not (is_comment line)) ls)))

abbrev pub texts_of : List (Bor (List ℕ)) → List (List ℕ)
texts_of ls = map (λ line. line.now) ls

abbrev pub line_at : List (Bor (List ℕ)) → ℕ → Bor (List ℕ) → List ℕ
line_at ls i d = (get_or ls i d).now

cut : (rule : List ℕ) (ls : List (Bor (List ℕ))) (i : ℕ) (d : Bor (List ℕ)) → i < length ls → left rule (texts_of (drop i ls)) ≡ left rule (line_at ls i d ∷ texts_of (drop (i + 1) ls))
cut rule ls i d lt = ap (λ rest. left rule (texts_of rest)) (drop_more ls i d lt)

-- what was gathered and what the lines come to that are left stays the same from line to line
pub over_comment : (rules : List (List ℕ)) (rule : List ℕ) (ls : List (Bor (List ℕ))) (i : ℕ) (d : Bor (List ℕ)) (all : List (List ℕ)) → i < length ls → is_comment (line_at ls i d) ≡ true
    → rules ++ left rule (texts_of (drop i ls)) ≡ all → rules ++ left rule (texts_of (drop (i + 1) ls)) ≡ all
over_comment rules rule ls i d all lt e h =
    ap (λ rest. rules ++ rest) (sym (left-comment rule (line_at ls i d) (texts_of (drop (i + 1) ls)) e) ∙ sym (cut rule ls i d lt)) ∙ h

pub over_blank : (rules rules' : List (List ℕ)) (rule rule' : List ℕ) (ls : List (Bor (List ℕ))) (i : ℕ) (d : Bor (List ℕ)) (all : List (List ℕ)) → i < length ls → is_comment (line_at ls i d) ≡ false → is_blank (line_at ls i d) ≡ true
    → rules' ≡ closed rules rule → rule' ≡ []
    → rules ++ left rule (texts_of (drop i ls)) ≡ all → rules' ++ left rule' (texts_of (drop (i + 1) ls)) ≡ all
over_blank rules rules' rule rule' ls i d all lt e blank more none h =
    let rest : List (List ℕ) = texts_of (drop (i + 1) ls) in
    ap (λ r. r ++ left rule' rest) more
    ∙ ap (λ r. closed rules rule ++ left r rest) none
    ∙ append_assoc rules (closed [] rule) (left [] rest)
    ∙ ap (λ r. rules ++ r) (sym (left-blank rule (line_at ls i d) rest e blank) ∙ sym (cut rule ls i d lt))
    ∙ h

pub over_line : (rules rules' : List (List ℕ)) (rule rule' : List ℕ) (ls : List (Bor (List ℕ))) (i : ℕ) (d : Bor (List ℕ)) (all : List (List ℕ)) → i < length ls → is_comment (line_at ls i d) ≡ false → is_blank (line_at ls i d) ≡ false
    → rules' ≡ rules → rule' ≡ with_line rule (line_at ls i d)
    → rules ++ left rule (texts_of (drop i ls)) ≡ all → rules' ++ left rule' (texts_of (drop (i + 1) ls)) ≡ all
over_line rules rules' rule rule' ls i d all lt e blank same more h =
    let rest : List (List ℕ) = texts_of (drop (i + 1) ls) in
    ap (λ r. r ++ left rule' rest) same
    ∙ ap (λ r. rules ++ left r rest) more
    ∙ ap (λ r. rules ++ r) (sym (left-line rule (line_at ls i d) rest e blank) ∙ sym (cut rule ls i d lt))
    ∙ h

-- at the end all is gathered
pub all_gathered : (rules rules' : List (List ℕ)) (rule : List ℕ) (ls : List (Bor (List ℕ))) (i : ℕ) (all : List (List ℕ)) → length ls ≤ i → rules' ≡ closed rules rule
    → rules ++ left rule (texts_of (drop i ls)) ≡ all → rules' ≡ all
all_gathered rules rules' rule ls i all le more h =
    more ∙ ap (λ rest. rules ++ rest) (sym (left-end rule)) ∙ ap (λ rest. rules ++ left rule (texts_of rest)) (sym (drop_all i ls le)) ∙ h
