-- What a token leaves is the end of the text, without its first character.
use Rattle.std.proofs.Common.{◌≡◌, ℕ, suc, zero, ◌+◌, ◌<◌, ◌≤◌, ◌==◌, Bool, true, false, ◌&&◌, ◌||◌, if◌then◌else◌, [], ◌∷◌, ◌++◌, length, take, drop, refl, sym, ap, subst, ◌∙◌, arith, append_assoc, length-append, lit<, leb-true, eqb-true}
use Rattle.std.specs.Prelude.{Option, Some, None, encode_utf8, encode_utf8_all}
use Rattle.std.specs.Option.{option_map, option_map_or}
use Rattle.std.proofs.lemmas.List.{take-append-drop}
use Rattle.std.specs.Int.{is_in_range}
use Rattle.std.proofs.lemmas.Bool.{and_parts}
use Rattle.std.proofs.lemmas.Str.{encodes-append, length-encode, len_utf8_bounds}
use Rattle.unicode_ident.specs.Ident.{is_xid_start, is_xid_continue}
use Rattle.unicode_ident.proofs.IdentLemmas.{is_xid_continue-ascii, is_xid_start-is_xid_continue}
use Rattle.ssr_syntax_lex.specs.Cursor.{Chars, passes_at, begins, run, past}
use Rattle.ssr_syntax_lex.specs.Characters.{◌∈◌, the_char, is_whitespace, is_hash, is_digit, starts_word, continues_word, is_in_line, is_in_char}
use Rattle.ssr_syntax_lex.specs.Words.{mark_kind}
use Rattle.ssr_syntax_lex.specs.Numbers.{Part, with_run, takes_point, takes_sign, whole_run, with_point, with_sign, number}
use Rattle.ssr_syntax_lex.specs.Scan.{past_comments, past_quoted, past_raw, past_raw_string, past_apostrophe, past_char, begins_with_hashes}
use Rattle.ssr_syntax_lex.specs.Raw.{Taken, begins_string, past_string, begins_raw_identifier, begins_lifetime, punctuation, closed, token}
use Rattle.ssr_syntax_kinds.specs.declared.kinds.SyntaxKind.{SyntaxKind}
use Rattle.ssr_syntax_lex.specs.Tokens.{size}
use Rattle.ssr_syntax_lex.proofs.Eaten.{run-past}

-- the rest is an end of the characters
abbrev pub Follows : Chars → Chars → Type 0
Follows cs rest = (taken : Chars) × (cs ≡ taken ++ rest)

pub follows_itself : (cs : Chars) → Follows cs cs
follows_itself cs = ([], refl)

pub follows_on : (cs ds es : Chars) → Follows cs ds → Follows ds es → Follows cs es
follows_on cs ds es (xs, e) (ys, f) = (xs ++ ys, e ∙ (ap (λ zs. xs ++ zs) f ∙ sym (append_assoc xs ys es)))

pub follows_drop : (n : ℕ) (cs : Chars) → Follows cs (drop n cs)
follows_drop n cs = (take n cs, sym (take-append-drop n cs))

pub follows_past : (test : ℕ → Bool) (cs : Chars) → Follows cs (past test cs)
follows_past test cs = (run test cs, sym (run-past test cs))

pub follows_past_drop : (test : ℕ → Bool) (n : ℕ) (cs : Chars) → Follows cs (past test (drop n cs))
follows_past_drop test n cs = follows_on cs (drop n cs) _ (follows_drop n cs) (follows_past test (drop n cs))

-- a run takes its first character
past_first : (test : ℕ → Bool) (c : ℕ) (cs : Chars) → test c ≡ true → Follows cs (past test (c ∷ cs))
past_first test c cs passes =
    subst (Follows cs) (sym (ap (λ b. if b then past test cs else (c ∷ cs)) passes)) (follows_past test cs)

-- what begins a word or a number continues a word
underscore : (c : ℕ) → (c ∈ "_") ≡ true → is_xid_continue c ≡ true
underscore c e =
    let mark : the_char "_" ≡ c = sym (eqb-true c (the_char "_") e) in
    subst (λ d. is_xid_continue d ≡ true) mark (is_xid_continue-ascii (the_char "_") (lit< tt))

starts_continues : (c : ℕ) → starts_word c ≡ true → continues_word c ≡ true
starts_continues c starts =
    elim (is_xid_start c) as (λ b. is_xid_start c ≡ b → (b || (c ∈ "_")) ≡ true → is_xid_continue c ≡ true) [
      | true ↦ λ e _. is_xid_start-is_xid_continue c e
      | false ↦ λ _ e. underscore c e
    ] refl starts

below : {c : ℕ} → c ≤ 57 → c < 128
below h = omega arith

digit_continues : (c : ℕ) → is_digit c ≡ true → continues_word c ≡ true
digit_continues c digit =
    let small : c ≤ 57 = leb-true c 57 (and_parts _ _ digit).1 in
    is_xid_continue-ascii c (below small)
    ∙ ap (λ b. ((b || is_in_range 65 90 c) || is_in_range 97 122 c) || (c ∈ "_")) digit

-- whatever token an option holds leaves an end of these characters
abbrev pub Leaves : Chars → Option Taken → Type 0
Leaves cs o = (taken : Taken) → o ≡ Some taken → Follows cs taken.1

leaves_none : (cs : Chars) → Leaves cs None
leaves_none cs taken e = absurd (cc)

leaves_some : (cs : Chars) (kind : SyntaxKind) (rest : Chars) → Follows cs rest → Leaves cs (Some (kind, rest))
leaves_some cs kind rest follows taken e = subst (Follows cs) (ap (λ o. option_map_or (λ (t : Taken). t.1) o cs) e) follows

leaves_if : (cs : Chars) (b : Bool) (o p : Option Taken) → (b ≡ true → Leaves cs o) → Leaves cs p → Leaves cs (if b then o else p)
leaves_if cs true o p holds fails = holds refl
leaves_if cs false o p holds fails = fails

follows_point : (part : Part) → Follows part.1 (with_point part).1
follows_point part =
    elim (takes_point part) as (λ b. Follows part.1 (if b then with_run 1 part else part).1) [
      | true ↦ follows_past_drop continues_word 1 part.1
      | false ↦ follows_itself part.1
    ]

follows_sign : (part : Part) → Follows part.1 (with_sign part).1
follows_sign part =
    elim (takes_sign part) as (λ b. Follows part.1 (if b then with_run 2 part else part).1) [
      | true ↦ follows_past_drop continues_word 2 part.1
      | false ↦ follows_itself part.1
    ]

follows_either : (cs : Chars) (b : Bool) (x y : Taken) → Follows cs x.1 → Follows cs y.1 → Follows cs (if b then x else y).1
follows_either cs true x y left right = left
follows_either cs false x y left right = right

leaves_number : (dots c : ℕ) (cs : Chars) → is_digit c ≡ true → Follows cs (number dots (c ∷ cs)).1
unfolding number
leaves_number dots c cs digit =
    let whole : Follows cs (whole_run (c ∷ cs)).1 = past_first continues_word c cs (digit_continues c digit) in
    let pointed : Follows cs (with_point (whole_run (c ∷ cs))).1 = follows_on cs _ _ whole (follows_point (whole_run (c ∷ cs))) in
    let signed : Follows cs (with_sign (with_point (whole_run (c ∷ cs)))).1 = follows_on cs _ _ pointed (follows_sign (with_point (whole_run (c ∷ cs)))) in
    follows_either cs (dots == 1) _ _ (past_first is_digit c cs digit) signed

leaves_punctuation : (c : ℕ) (cs : Chars) → Leaves cs (punctuation (c ∷ cs))
leaves_punctuation c cs =
    elim (mark_kind c) as (λ o. Leaves cs (option_map (λ kind. let taken : Taken = (kind, cs) in taken) o)) [
      | None ↦ leaves_none cs
      | Some kind ↦ leaves_some cs kind cs (follows_itself cs)
    ]

-- whatever an option holds is an end of these characters
abbrev pub Ends : Chars → Option Chars → Type 0
Ends cs o = (rest : Chars) → o ≡ Some rest → Follows cs rest

pub ends_none : (cs : Chars) → Ends cs None
ends_none cs rest e = absurd (cc)

pub ends_some : (cs rest : Chars) → Follows cs rest → Ends cs (Some rest)
ends_some cs rest follows other e = subst (Follows cs) (ap (λ o. option_map_or (λ (xs : Chars). xs) o cs) e) follows

pub ends_if : (cs : Chars) (b : Bool) (o p : Option Chars) → Ends cs o → Ends cs p → Ends cs (if b then o else p)
ends_if cs true o p holds fails = holds
ends_if cs false o p holds fails = fails

pub ends_on : (cs ds : Chars) (o : Option Chars) → Follows cs ds → Ends ds o → Ends cs o
ends_on cs ds o follows ends rest e = follows_on cs ds rest follows (ends rest e)

follows_next : (c : ℕ) (cs : Chars) → Follows (c ∷ cs) cs
follows_next c cs = (c ∷ [], refl)

pub ends_comments : (depth : ℕ) (cs : Chars) → Ends cs (past_comments depth cs)
ends_comments zero cs = ends_some cs cs (follows_itself cs)
ends_comments (suc depth) [] = ends_none []
ends_comments (suc depth) (c ∷ []) = ends_none (c ∷ [])
ends_comments (suc depth) (c ∷ d ∷ cs) =
    let two : Follows (c ∷ d ∷ cs) cs = (c ∷ d ∷ [], refl) in
    ends_if (c ∷ d ∷ cs) (begins "/*" (c ∷ d ∷ cs)) _ _ (ends_on (c ∷ d ∷ cs) cs _ two (ends_comments (suc (suc depth)) cs))
    (ends_if (c ∷ d ∷ cs) (begins "*/" (c ∷ d ∷ cs)) _ _ (ends_on (c ∷ d ∷ cs) cs _ two (ends_comments depth cs))
    (ends_on (c ∷ d ∷ cs) (d ∷ cs) _ (follows_next c (d ∷ cs)) (ends_comments (suc depth) (d ∷ cs))))

pub ends_quoted : (escaped : Bool) (cs : Chars) → Ends cs (past_quoted escaped cs)
ends_quoted escaped [] = ends_none []
ends_quoted escaped (c ∷ cs) =
    ends_if (c ∷ cs) escaped _ _ (ends_on (c ∷ cs) cs _ (follows_next c cs) (ends_quoted false cs))
    (ends_if (c ∷ cs) (c ∈ "\"") _ _ (ends_some (c ∷ cs) cs (follows_next c cs))
    (ends_on (c ∷ cs) cs _ (follows_next c cs) (ends_quoted (c ∈ "\\") cs)))

pub ends_raw : (hashes : ℕ) (cs : Chars) → Ends cs (past_raw hashes cs)
ends_raw hashes [] = ends_none []
ends_raw hashes (c ∷ cs) =
    ends_if (c ∷ cs) (c ∈ "\"" && begins_with_hashes hashes cs) _ _
    (ends_some (c ∷ cs) (drop hashes cs) (follows_on (c ∷ cs) cs _ (follows_next c cs) (follows_drop hashes cs)))
    (ends_on (c ∷ cs) cs _ (follows_next c cs) (ends_raw hashes cs))

pub ends_raw_string : (cs : Chars) → Ends cs (past_raw_string cs)
ends_raw_string cs =
    ends_on cs (drop 1 (past is_hash cs)) _ (follows_on cs (past is_hash cs) _ (follows_past is_hash cs) (follows_drop 1 (past is_hash cs)))
    (ends_raw (length (run is_hash cs)) (drop 1 (past is_hash cs)))

slash_in_line : (c : ℕ) → (c ∈ "/") ≡ true → is_in_line c ≡ true
slash_in_line c slash = ap is_in_line (eqb-true c (the_char "/") slash)

-- a string takes its first character
pub ends_string : (c : ℕ) (cs : Chars) → Ends cs (past_string (c ∷ cs))
ends_string c cs = ends_if cs (begins "\"" (c ∷ cs)) _ _ (ends_quoted false cs) (ends_raw_string cs)

pub ends_apostrophe : (cs : Chars) → Ends cs (past_apostrophe cs)
ends_apostrophe cs = ends_if cs (begins "'" cs) _ _ (ends_some cs (drop 1 cs) (follows_drop 1 cs)) (ends_none cs)

pub ends_char : (cs : Chars) → Ends cs (past_char cs)
ends_char cs =
    ends_if cs (begins "\\" cs) _ _ (ends_on cs (past is_in_char (drop 2 cs)) _ (follows_past_drop is_in_char 2 cs) (ends_apostrophe (past is_in_char (drop 2 cs))))
    (ends_if cs (passes_at 0 is_in_char cs) _ _ (ends_on cs (drop 1 cs) _ (follows_drop 1 cs) (ends_apostrophe (drop 1 cs)))
    (ends_none cs))

leaves_closed : (cs : Chars) (kind : SyntaxKind) (o : Option Chars) → Ends cs o → Leaves cs (closed kind o)
leaves_closed cs kind None ends = leaves_none cs
leaves_closed cs kind (Some rest) ends = leaves_some cs kind rest (ends rest refl)

-- behind a prefix
pub ends_behind : (n : ℕ) (cs : Chars) (o : Option Chars) → Ends (drop n cs) o → Ends cs o
ends_behind n cs o ends = ends_on cs (drop n cs) o (follows_drop n cs) ends

prefixed_string : (cs : Chars) → Ends cs (past_string cs)
prefixed_string [] = ends_if [] false _ _ (ends_quoted false []) (ends_raw_string [])
prefixed_string (c ∷ cs) = ends_on (c ∷ cs) cs _ (follows_next c cs) (ends_string c cs)

pub token_leaves : (dots c : ℕ) (cs : Chars) → Leaves cs (token dots (c ∷ cs))
unfolding token
token_leaves dots c cs =
    leaves_if cs (passes_at 0 is_whitespace (c ∷ cs)) _ _ (λ white. leaves_some cs _ _ (past_first is_whitespace c cs white))
    (leaves_if cs (begins "//" (c ∷ cs)) _ _ (λ slashes. leaves_some cs _ _ (past_first is_in_line c cs (slash_in_line c (and_parts _ _ slashes).0)))
    (leaves_if cs (begins "/*" (c ∷ cs)) _ _ (λ _. leaves_closed cs _ _ (ends_behind 1 cs _ (ends_comments 1 (drop 1 cs))))
    (leaves_if cs (begins_string (c ∷ cs)) _ _ (λ _. leaves_closed cs _ _ (ends_string c cs))
    (leaves_if cs (begins "b" (c ∷ cs) && begins_string (drop 1 (c ∷ cs))) _ _ (λ _. leaves_closed cs _ _ (prefixed_string cs))
    (leaves_if cs (begins "c" (c ∷ cs) && begins_string (drop 1 (c ∷ cs))) _ _ (λ _. leaves_closed cs _ _ (prefixed_string cs))
    (leaves_if cs (begins "b'" (c ∷ cs)) _ _ (λ _. leaves_closed cs _ _ (ends_behind 1 cs _ (ends_char (drop 1 cs))))
    (leaves_if cs (begins_raw_identifier (c ∷ cs)) _ _ (λ _. leaves_some cs _ _ (follows_past_drop continues_word 1 cs))
    (leaves_if cs (passes_at 0 starts_word (c ∷ cs)) _ _ (λ starts. leaves_some cs _ _ (past_first continues_word c cs (starts_continues c starts)))
    (leaves_if cs (begins_lifetime (c ∷ cs)) _ _ (λ _. leaves_some cs _ _ (follows_past continues_word cs))
    (leaves_if cs (begins "'" (c ∷ cs)) _ _ (λ _. leaves_closed cs _ _ (ends_char cs))
    (leaves_if cs (passes_at 0 is_digit (c ∷ cs)) _ _ (λ digit. leaves_some cs _ _ (leaves_number dots c cs digit))
    (leaves_punctuation c cs))))))))))))

-- so it is shorter, in characters and in bytes
pub shorter : (c : ℕ) (cs rest : Chars) → Follows cs rest → (length rest ≤ length cs) × (size rest < size (c ∷ cs))
shorter c cs rest (taken, e) =
    let front : size cs ≡ length (encode_utf8_all taken) + size rest =
    ap size e ∙ (ap length (encodes-append taken rest) ∙ length-append (encode_utf8_all taken) (encode_utf8_all rest)) in
    let one : 1 ≤ length (encode_utf8 c) = omega (arith, length-encode c, len_utf8_bounds c) in (
      omega (arith, ap length e, length-append taken rest),
      omega (arith, front, one, length-append (encode_utf8 c) (encode_utf8_all cs)),
    )
