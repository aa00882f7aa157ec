-- How a token `self` is found that isn't followed by `::`.
use Rattle.std.proofs.Common.{◌≡◌, ℕ, ◌+◌, ◌≤◌, ◌&&◌, ◌||◌, not, Bool, true, false, List, drop, refl, sym, ap, ◌∙◌, arith}
use Rattle.std.specs.Prelude.{if◌then◌else◌}
use Rattle.std.proofs.lemmas.List.{drop_all}
use Rattle.ssr_syntax_kinds.specs.declared.kinds.SyntaxKind.TheVariants as k
use Rattle.ssr_syntax_kinds.specs.Kinds.{same_kind, is_trivia}
use Rattle.ssr_syntax_tree.specs.Syntax.{Token, Syntax, token_count, tokens_of}
use Rattle.ssr_syntax_tree.specs.Places.{HasToken, token_of}
use Rattle.ssr_syntax_tree.proofs.Shared.{length-tokens_in}
use Rattle.ide_ssr_resolved_rule.proofs.Shared.{tokens_left}
use Rattle.ide_ssr_search.specs.Permitted.{begins_with, is_double_colon, goes_on, names_self}

-- the answer, where `begun` says whether a `self` has come that trivia alone have followed so far
abbrev pub answer : Bool → List Token → Bool
answer begun tokens = (begun && not (goes_on tokens)) || names_self tokens

open_turn : (begun trivia colon own goes rest : Bool) → (begun && (not trivia && not colon)) ≡ false
    → ((begun && not (if trivia then goes else colon)) || ((own && not goes) || rest)) ≡ (((own || (begun && trivia)) && not goes) || rest)
open_turn false trivia colon true goes rest e = refl
open_turn false trivia colon false goes rest e = refl
open_turn true true colon true true rest e = refl
open_turn true true colon true false rest e = refl
open_turn true true colon false goes rest e = refl
open_turn true false true true goes rest e = refl
open_turn true false true false goes rest e = refl
open_turn true false false own goes rest e = let f : true ≡ false = e in cc

open_ends : (begun trivia colon goes rest : Bool) → (begun && (not trivia && not colon)) ≡ true → ((begun && not (if trivia then goes else colon)) || rest) ≡ true
open_ends false trivia colon goes rest e = let f : false ≡ true = e in cc
open_ends true true colon goes rest e = let f : false ≡ true = e in cc
open_ends true false true goes rest e = let f : false ≡ true = e in cc
open_ends true false false goes rest e = refl

-- a `:` in front of the tokens from a number on
pub colon_there : (s : Syntax) (n : ℕ) → HasToken s n → same_kind (token_of s n).kind k.COLON ≡ begins_with k.COLON (drop n (tokens_of s))
colon_there s n has = sym (ap (begins_with k.COLON) (tokens_left s n has))

pub no_colon : (s : Syntax) (n : ℕ) → token_count s.children ≤ n → false ≡ begins_with k.COLON (drop n (tokens_of s))
no_colon s n past = sym (ap (begins_with k.COLON) (drop_all n (tokens_of s) (omega (arith, length-tokens_in s.children))))

pub self_turn : (s : Syntax) (n : ℕ) (begun next : Bool) → HasToken s n
    → (begun && (not (is_trivia (token_of s n).kind) && not (is_double_colon (token_of s n) (drop (n + 1) (tokens_of s))))) ≡ false
    → next ≡ (same_kind (token_of s n).kind k.SELF_KW || (begun && is_trivia (token_of s n).kind))
    → answer begun (drop n (tokens_of s)) ≡ names_self (tokens_of s) → answer next (drop (n + 1) (tokens_of s)) ≡ names_self (tokens_of s)
self_turn s n begun next has on is so_far =
    let kind = (token_of s n).kind in
    let rest = drop (n + 1) (tokens_of s) in
    ap (λ b. answer b rest) is
    ∙ sym (open_turn begun (is_trivia kind) (is_double_colon (token_of s n) rest) (same_kind kind k.SELF_KW) (goes_on rest) (names_self rest) on)
    ∙ ap (answer begun) (sym (tokens_left s n has)) ∙ so_far

pub self_found : (s : Syntax) (n : ℕ) (begun : Bool) → HasToken s n
    → (begun && (not (is_trivia (token_of s n).kind) && not (is_double_colon (token_of s n) (drop (n + 1) (tokens_of s))))) ≡ true
    → answer begun (drop n (tokens_of s)) ≡ names_self (tokens_of s) → true ≡ names_self (tokens_of s)
self_found s n begun has ends so_far =
    let kind = (token_of s n).kind in
    let rest = drop (n + 1) (tokens_of s) in
    sym (open_ends begun (is_trivia kind) (is_double_colon (token_of s n) rest) (goes_on rest) ((same_kind kind k.SELF_KW && not (goes_on rest)) || names_self rest) ends)
    ∙ ap (answer begun) (sym (tokens_left s n has)) ∙ so_far

at_end : (begun : Bool) → ((begun && true) || false) ≡ begun
at_end true = refl
at_end false = refl

pub self_end : (s : Syntax) (n : ℕ) (begun : Bool) → token_count s.children ≤ n → answer begun (drop n (tokens_of s)) ≡ names_self (tokens_of s) → begun ≡ names_self (tokens_of s)
self_end s n begun all so_far =
    sym (at_end begun)
    ∙ ap (answer begun) (sym (drop_all n (tokens_of s) (omega (arith, length-tokens_in s.children)))) ∙ so_far
