-- The rows that are left when the first character is known.
use Rattle.std.proofs.Common.{◌≡◌, ℕ, Bool, true, false, if◌then◌else◌, [], ◌∷◌, drop, refl, sym, ap, subst, ◌∙◌, lit<, ne_eqb, eqb-true}
use Rattle.std.specs.Prelude.{Option, Some, None, slice_get}
use Rattle.std.specs.Option.{option_map}
use Rattle.unicode_ident.proofs.IdentLemmas.{is_xid_start-ascii}
use Rattle.ssr_syntax_lex.proofs.WordLaws.{marks_apart}
use Rattle.ssr_syntax_lex.specs.Cursor.{Chars, is_at, begins, past}
use Rattle.ssr_syntax_lex.specs.Characters.{◌∈◌, the_char, is_whitespace, is_digit, starts_word, is_in_line}
use Rattle.ssr_syntax_lex.specs.Words.{mark_kind}
use Rattle.ssr_syntax_lex.specs.Numbers.{number}
use Rattle.ssr_syntax_lex.specs.Scan.{past_comments, past_quoted, past_raw_string, past_char}
use Rattle.ssr_syntax_lex.specs.Raw.{Taken, begins_raw_string, begins_string, past_string, begins_raw_identifier, begins_lifetime_behind, punctuation, kind_of_word, past_word, closed, token, fault_of}
use Rattle.ssr_syntax_lex.specs.Private.Steps.{IsPlain}
use Rattle.ssr_syntax_lex.specs.declared.fault.FaultKind.TheVariants as faults
use Rattle.ssr_syntax_kinds.specs.declared.kinds.SyntaxKind.{SyntaxKind}
use Rattle.ssr_syntax_kinds.specs.declared.kinds.SyntaxKind.TheVariants as k

first_is : (d c : ℕ) (cs : Chars) → slice_get (d ∷ cs) 0 ≡ Some c → c ≡ d
first_is d c cs e = cc

-- what holds where the first character stands in front, holds where it is the first
abbrev From : (Chars → Type 0) → ℕ → Type 0
From P c = (cs : Chars) → slice_get cs 0 ≡ Some c → P cs

from_front : (P : Chars → Type 0) (c : ℕ) → ((cs : Chars) → P (c ∷ cs)) → From P c
from_front P c holds [] e = absurd (cc)
from_front P c holds (d ∷ cs) e = subst (λ (x : ℕ). P (x ∷ cs)) (first_is d c cs e) (holds cs)

pub token_slash : (dots : ℕ) (cs : Chars) → slice_get cs 0 ≡ Some (the_char "/") → token dots cs ≡ (if is_at 1 "/" cs then Some (k.COMMENT, past is_in_line cs) else (if is_at 1 "*" cs then closed k.COMMENT (past_comments 1 (drop 2 cs)) else Some (k.SLASH, drop 1 cs)))
unfolding token mark_kind
token_slash dots = from_front (λ cs. token dots cs ≡ (if is_at 1 "/" cs then Some (k.COMMENT, past is_in_line cs) else (if is_at 1 "*" cs then closed k.COMMENT (past_comments 1 (drop 2 cs)) else Some (k.SLASH, drop 1 cs)))) (the_char "/")
    (λ cs. rw (is_xid_start-ascii (the_char "/") (lit< tt)) refl)

pub token_quote : (dots : ℕ) (cs : Chars) → slice_get cs 0 ≡ Some (the_char "\"") → token dots cs ≡ (closed k.STRING (past_quoted false (drop 1 cs)))
unfolding token
token_quote dots = from_front (λ cs. token dots cs ≡ (closed k.STRING (past_quoted false (drop 1 cs)))) (the_char "\"")
    (λ cs. refl)

pub token_r : (dots : ℕ) (cs : Chars) → slice_get cs 0 ≡ Some (the_char "r") → token dots cs ≡ (if begins_raw_string cs then closed k.STRING (past_raw_string (drop 1 cs)) else (if begins_raw_identifier cs then Some (k.IDENT, past_word (drop 2 cs)) else Some (kind_of_word cs, past_word cs)))
unfolding token
token_r dots = from_front (λ cs. token dots cs ≡ (if begins_raw_string cs then closed k.STRING (past_raw_string (drop 1 cs)) else (if begins_raw_identifier cs then Some (k.IDENT, past_word (drop 2 cs)) else Some (kind_of_word cs, past_word cs)))) (the_char "r")
    (λ cs. rw (is_xid_start-ascii (the_char "r") (lit< tt)) refl)

pub token_b : (dots : ℕ) (cs : Chars) → slice_get cs 0 ≡ Some (the_char "b") → token dots cs ≡ (if begins_string (drop 1 cs) then closed k.BYTE_STRING (past_string (drop 1 cs)) else (if is_at 1 "'" cs then closed k.BYTE (past_char (drop 2 cs)) else Some (kind_of_word cs, past_word cs)))
unfolding token
token_b dots = from_front (λ cs. token dots cs ≡ (if begins_string (drop 1 cs) then closed k.BYTE_STRING (past_string (drop 1 cs)) else (if is_at 1 "'" cs then closed k.BYTE (past_char (drop 2 cs)) else Some (kind_of_word cs, past_word cs)))) (the_char "b")
    (λ cs. rw (is_xid_start-ascii (the_char "b") (lit< tt)) refl)

pub token_c : (dots : ℕ) (cs : Chars) → slice_get cs 0 ≡ Some (the_char "c") → token dots cs ≡ (if begins_string (drop 1 cs) then closed k.C_STRING (past_string (drop 1 cs)) else Some (kind_of_word cs, past_word cs))
unfolding token
token_c dots = from_front (λ cs. token dots cs ≡ (if begins_string (drop 1 cs) then closed k.C_STRING (past_string (drop 1 cs)) else Some (kind_of_word cs, past_word cs))) (the_char "c")
    (λ cs. rw (is_xid_start-ascii (the_char "c") (lit< tt)) refl)

pub token_apostrophe : (dots : ℕ) (cs : Chars) → slice_get cs 0 ≡ Some (the_char "'") → token dots cs ≡ (if begins_lifetime_behind cs then Some (k.LIFETIME_IDENT, past_word (drop 1 cs)) else closed k.CHAR (past_char (drop 1 cs)))
unfolding token
token_apostrophe dots = from_front (λ cs. token dots cs ≡ (if begins_lifetime_behind cs then Some (k.LIFETIME_IDENT, past_word (drop 1 cs)) else closed k.CHAR (past_char (drop 1 cs)))) (the_char "'")
    (λ cs. rw (is_xid_start-ascii (the_char "'") (lit< tt)) refl)

other_at : (dots c : ℕ) (cs : Chars) → (c ≡ (the_char "/") → ⊥) → (c ≡ (the_char "\"") → ⊥) → (c ≡ (the_char "r") → ⊥) → (c ≡ (the_char "b") → ⊥) → (c ≡ (the_char "c") → ⊥) → (c ≡ (the_char "'") → ⊥) → token dots (c ∷ cs) ≡ (if is_whitespace c then Some (k.WHITESPACE, past is_whitespace (c ∷ cs)) else (if starts_word c then Some (kind_of_word (c ∷ cs), past_word (c ∷ cs)) else (if is_digit c then Some (number dots (c ∷ cs)) else punctuation (c ∷ cs))))
unfolding token
other_at dots c cs slash quote r b c_letter apostrophe =
    rw (ne_eqb c (the_char "/") slash, ne_eqb c (the_char "\"") quote, ne_eqb c (the_char "r") r, ne_eqb c (the_char "b") b, ne_eqb c (the_char "c") c_letter, ne_eqb c (the_char "'") apostrophe) refl

token_other : (dots c : ℕ) (cs : Chars) → slice_get cs 0 ≡ Some c → IsPlain c → token dots cs ≡ (if is_whitespace c then Some (k.WHITESPACE, past is_whitespace cs) else (if starts_word c then Some (kind_of_word cs, past_word cs) else (if is_digit c then Some (number dots cs) else punctuation cs)))
token_other dots c cs first plain = from_front (λ cs. token dots cs ≡ (if is_whitespace c then Some (k.WHITESPACE, past is_whitespace cs) else (if starts_word c then Some (kind_of_word cs, past_word cs) else (if is_digit c then Some (number dots cs) else punctuation cs)))) c (λ cs. other_at dots c cs plain.0 plain.1 plain.2 plain.3 plain.4 plain.5) cs first

other_row : (dots c : ℕ) (cs : Chars) (white word digit : Bool) → slice_get cs 0 ≡ Some c → IsPlain c → is_whitespace c ≡ white → starts_word c ≡ word → is_digit c ≡ digit → token dots cs ≡ (if white then Some (k.WHITESPACE, past is_whitespace cs) else (if word then Some (kind_of_word cs, past_word cs) else (if digit then Some (number dots cs) else punctuation cs)))
other_row dots c cs white word digit first plain is_white is_word is_a_digit =
    token_other dots c cs first plain
    ∙ (ap (λ b. if b then Some (k.WHITESPACE, past is_whitespace cs) else (if starts_word c then Some (kind_of_word cs, past_word cs) else (if is_digit c then Some (number dots cs) else punctuation cs))) is_white
    ∙ (ap (λ b. if white then Some (k.WHITESPACE, past is_whitespace cs) else (if b then Some (kind_of_word cs, past_word cs) else (if is_digit c then Some (number dots cs) else punctuation cs))) is_word
    ∙ ap (λ b. if white then Some (k.WHITESPACE, past is_whitespace cs) else (if word then Some (kind_of_word cs, past_word cs) else (if b then Some (number dots cs) else punctuation cs))) is_a_digit))

pub token_white : (dots c : ℕ) (cs : Chars) → slice_get cs 0 ≡ Some c → is_whitespace c ≡ true → token dots cs ≡ Some (k.WHITESPACE, past is_whitespace (drop 1 cs))
unfolding token
token_white dots c = from_front (λ cs. is_whitespace c ≡ true → token dots cs ≡ Some (k.WHITESPACE, past is_whitespace (drop 1 cs))) c
    (λ cs white. rw white refl)

pub token_word : (dots c : ℕ) (cs : Chars) → slice_get cs 0 ≡ Some c → IsPlain c → is_whitespace c ≡ false → starts_word c ≡ true → token dots cs ≡ Some (kind_of_word cs, past_word cs)
token_word dots c cs first plain white word = other_row dots c cs false true (is_digit c) first plain white word refl

pub token_number : (dots c : ℕ) (cs : Chars) → slice_get cs 0 ≡ Some c → IsPlain c → is_whitespace c ≡ false → starts_word c ≡ false → is_digit c ≡ true → token dots cs ≡ Some (number dots cs)
token_number dots c cs first plain white word digit = other_row dots c cs false false true first plain white word digit

marked : (c : ℕ) (mark : Option SyntaxKind) (cs : Chars) → slice_get cs 0 ≡ Some c → mark_kind c ≡ mark → punctuation cs ≡ option_map (λ kind. let taken : Taken = (kind, drop 1 cs) in taken) mark
marked c mark = from_front (λ cs. mark_kind c ≡ mark → punctuation cs ≡ option_map (λ kind. let taken : Taken = (kind, drop 1 cs) in taken) mark) c
    (λ cs e. ap (option_map (λ kind. let taken : Taken = (kind, cs) in taken)) e)

pub token_mark : (dots c : ℕ) (cs : Chars) (kind : SyntaxKind) → slice_get cs 0 ≡ Some c → IsPlain c → mark_kind c ≡ Some kind → token dots cs ≡ Some (kind, drop 1 cs)
token_mark dots c cs kind first plain mark =
    let apart = marks_apart c kind mark in
    other_row dots c cs false false false first plain apart.0 apart.1 apart.2 ∙ marked c (Some kind) cs first mark

pub token_unknown : (dots c : ℕ) (cs : Chars) → slice_get cs 0 ≡ Some c → IsPlain c → mark_kind c ≡ None → is_whitespace c ≡ false → starts_word c ≡ false → is_digit c ≡ false → token dots cs ≡ None
token_unknown dots c cs first plain mark white word digit = other_row dots c cs false false false first plain white word digit ∙ marked c None cs first mark

pub token_nothing : (dots : ℕ) (cs : Chars) → slice_get cs 0 ≡ None → token dots cs ≡ None
unfolding token
token_nothing dots [] e = refl
token_nothing dots (c ∷ cs) e = absurd (cc)

-- what a fault is then
pub fault_slash : (cs : Chars) → slice_get cs 0 ≡ Some (the_char "/") → fault_of cs ≡ faults.UnclosedComment
fault_slash = from_front (λ cs. fault_of cs ≡ faults.UnclosedComment) (the_char "/") (λ cs. refl)

pub fault_quote : (cs : Chars) → slice_get cs 0 ≡ Some (the_char "\"") → fault_of cs ≡ faults.UnclosedString
fault_quote = from_front (λ cs. fault_of cs ≡ faults.UnclosedString) (the_char "\"") (λ cs. refl)

pub fault_r : (cs : Chars) → slice_get cs 0 ≡ Some (the_char "r") → fault_of cs ≡ faults.UnclosedString
fault_r = from_front (λ cs. fault_of cs ≡ faults.UnclosedString) (the_char "r") (λ cs. refl)

pub fault_c : (cs : Chars) → slice_get cs 0 ≡ Some (the_char "c") → fault_of cs ≡ faults.UnclosedString
fault_c = from_front (λ cs. fault_of cs ≡ faults.UnclosedString) (the_char "c") (λ cs. refl)

pub fault_apostrophe : (cs : Chars) → slice_get cs 0 ≡ Some (the_char "'") → fault_of cs ≡ faults.UnclosedChar
fault_apostrophe = from_front (λ cs. fault_of cs ≡ faults.UnclosedChar) (the_char "'") (λ cs. refl)

string_no_byte : (d : ℕ) (ds : Chars) (b : Bool) → (d ∈ "'") ≡ b → begins_string (d ∷ ds) ≡ true → b ≡ false
string_no_byte d ds true e begins =
    let clash : false ≡ true = ap (λ x. begins_string (x ∷ ds)) (sym (eqb-true d (the_char "'") e)) ∙ begins in absurd (cc)
string_no_byte d ds false e begins = refl

string_at : (cs : Chars) → begins_string cs ≡ true → fault_of ((the_char "b") ∷ cs) ≡ faults.UnclosedString
string_at [] begins = absurd (cc)
string_at (d ∷ ds) begins =
    ap (λ b. if b then faults.UnclosedByte else faults.UnclosedString) (string_no_byte d ds (d ∈ "'") refl begins)

pub fault_b_string : (cs : Chars) → slice_get cs 0 ≡ Some (the_char "b") → begins_string (drop 1 cs) ≡ true → fault_of cs ≡ faults.UnclosedString
fault_b_string = from_front (λ cs. begins_string (drop 1 cs) ≡ true → fault_of cs ≡ faults.UnclosedString) (the_char "b") string_at

pub fault_b_byte : (cs : Chars) → slice_get cs 0 ≡ Some (the_char "b") → is_at 1 "'" cs ≡ true → fault_of cs ≡ faults.UnclosedByte
fault_b_byte = from_front (λ cs. is_at 1 "'" cs ≡ true → fault_of cs ≡ faults.UnclosedByte) (the_char "b")
    (λ cs byte. ap (λ b. if b then faults.UnclosedByte else faults.UnclosedString) byte)

plain_at : (c : ℕ) (cs : Chars) → IsPlain c → fault_of (c ∷ cs) ≡ faults.NoToken
plain_at c cs plain = rw (ne_eqb c (the_char "/") plain.0, ne_eqb c (the_char "'") plain.5, ne_eqb c (the_char "b") plain.3, ne_eqb c (the_char "\"") plain.1, ne_eqb c (the_char "r") plain.2, ne_eqb c (the_char "c") plain.4) refl

pub fault_plain : (c : ℕ) (cs : Chars) → slice_get cs 0 ≡ Some c → IsPlain c → fault_of cs ≡ faults.NoToken
fault_plain c cs first plain = from_front (λ cs. fault_of cs ≡ faults.NoToken) c (λ cs. plain_at c cs plain) cs first

pub fault_nothing : (cs : Chars) → slice_get cs 0 ≡ None → fault_of cs ≡ faults.NoToken
fault_nothing [] e = refl
fault_nothing (c ∷ cs) e = absurd (cc)

-- what the functions that know the first character need
pub ruleset slash_rows = (token_slash, fault_slash)

pub ruleset quote_rows = (token_quote, fault_quote)

pub ruleset r_rows = (token_r, fault_r)

pub ruleset b_rows = (token_b, fault_b_string, fault_b_byte)

pub ruleset c_rows = (token_c, fault_c)

pub ruleset apostrophe_rows = (token_apostrophe, fault_apostrophe)

pub ruleset plain_rows = (token_white, token_word, token_number)

pub ruleset no_rows = (token_nothing, fault_nothing)
