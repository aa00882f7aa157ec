-- What the lexer answers, as tokens with their texts.
use Rattle.std.proofs.Common.{◌≡◌, ◌≢◌, ℕ, ◌<◌, ◌≤◌, ◌^◌, Bool, true, false, List, [], length, nat_lt, Option, Some, None, Err, refl, arith, ap, ◌∙◌, sym, cond, take, get_or, subst, ◌∷◌}
use Rattle.std.proofs.lemmas.List.{take_all, length-map, length-take}
use Rattle.std.proofs.lemmas.Bool.{lt-ltb}
use Rattle.std.proofs.lemmas.List.Elements.{All-get_or, All-from_recursion}
use Rattle.std.specs.List.{All, AllByRecursion}
use Rattle.std.specs.Str.{IsCharBoundary}
use Rattle.std.proofs.lemmas.Bool.Decides.{nat_tests}
use Rattle.ssr_syntax_lex.specs.declared.tokens.RawToken.{RawToken}
use Rattle.ssr_syntax_lex.specs.Tokens.{tokens, fault, HasNoTokens, TellsFault, TilesFrom, Tiles}
use Rattle.ssr_syntax_rows.specs.Solid.{pieces}
use Rattle.ssr_syntax.specs.Reading.{IsLexFault}
use Rattle.ssr_syntax.specs.declared.syntax_error.SyntaxError.{SyntaxError}
use Rattle.ssr_syntax.specs.declared.syntax_error.SyntaxError.TheVariants as unread
use Rattle.ssr_syntax.proofs.Shared.{boundary, tiles_count}
use Rattle.ssr_syntax_tree.specs.Syntax.{Token}
use Rattle.ide_ssr_rules.specs.Elements.{lexed, fault_in, side, elements}
use Rattle.ide_ssr_refusals.specs.declared.refusals.Refusal.TheVariants as r
use Rattle.std.specs.Option.{option_map, option_map_or}
use Rattle.std.specs.Prelude.{unwrap_or}
use Rattle.ssr_syntax_lex.specs.declared.tokens.LexError.{LexError}
use Rattle.ssr_syntax_lex.specs.declared.tokens.LexError.TheVariants as errors
use Rattle.ssr_syntax_lex.specs.Fault.{error_words}

pub lexed-tokens : (text : List ℕ) (raw : List RawToken) → length text < 2 ^ 32 → tokens text ≡ Some raw → lexed text ≡ Some (pieces text raw)
unfolding lexed
lexed-tokens text raw short is =
    ap (λ b. cond b (option_map (pieces text) (tokens text)) None) (lt-ltb (length text) (2 ^ 32) short)
    ∙ ap (option_map (pieces text)) is

-- what a text's tokens are
pub record AreLexed (text : List ℕ) (found : List Token) : Type 0 where
  pub raw : List RawToken
  pub are : tokens text ≡ Some raw
  pub seen : found ≡ pieces text raw

are_lexed : (text : List ℕ) (found : List Token) (o : Option (List RawToken)) → tokens text ≡ o → option_map (pieces text) o ≡ Some found → AreLexed text found
are_lexed text found None is h = cc
are_lexed text found (Some raw) is h = record { raw = raw; are = is; seen = cc }

short_lexed : (text : List ℕ) (found : List Token) (short : Bool) → cond short (option_map (pieces text) (tokens text)) None ≡ Some found → AreLexed text found
short_lexed text found true h = are_lexed text found (tokens text) refl h
short_lexed text found false h = cc

pub lexed_known : (text : List ℕ) (found : List Token) → lexed text ≡ Some found → AreLexed text found
unfolding lexed
lexed_known text found h = short_lexed text found (nat_lt (length text) (2 ^ 32)) h

-- what the lexer refuses has no tokens, and is told in these words
abbrev pub IsFault : List ℕ → List ℕ → Type 0
IsFault text words = (lexed text ≡ None) × (words ≡ fault_in text)

lexed-lacking : (text : List ℕ) → length text < 2 ^ 32 → tokens text ≡ None → lexed text ≡ None
unfolding lexed
lexed-lacking text short is =
    ap (λ b. cond b (option_map (pieces text) (tokens text)) None) (lt-ltb (length text) (2 ^ 32) short) ∙ ap (option_map (pieces text)) is

lexed-fault : (text words : List ℕ) → length text < 2 ^ 32 → tokens text ≡ None → fault text ≡ Some words → IsFault text words
unfolding fault_in
lexed-fault text words short is told =
    let shorter = lt-ltb (length text) (2 ^ 32) short in (
      lexed-lacking text short is,
      sym (ap (λ b. cond b (unwrap_or (fault text) []) (error_words errors.TooLong)) shorter ∙ ap (λ o. unwrap_or o []) told),
    )

lexed-long : (text : List ℕ) → 2 ^ 32 ≤ length text → IsFault text (error_words errors.TooLong)
unfolding lexed fault_in
lexed-long text long =
    let not_short : nat_lt (length text) (2 ^ 32) ≡ false = grind (arith, nat_tests) in (
      ap (λ b. cond b (option_map (pieces text) (tokens text)) None) not_short,
      sym (ap (λ b. cond b (unwrap_or (fault text) []) (error_words errors.TooLong)) not_short),
    )

-- what the lexer refuses, but for want of memory
pub lexed-refused : (text : List ℕ) (e : LexError) → HasNoTokens e text → TellsFault {R = List RawToken} (Err e) text → e ≢ errors.Memory → IsFault text (error_words e)
lexed-refused text (errors.Fault told) none is other = lexed-fault text (error_words (errors.Fault told)) none.0 none.1 is
lexed-refused text errors.TooLong none is other = lexed-long text none
lexed-refused text errors.Memory none is other = absurd (other refl)

-- what isn't lexed has no tokens
pub lexed_none : (text : List ℕ) (e : SyntaxError) → e ≢ unread.Memory → IsLexFault text e → lexed text ≡ None
lexed_none text unread.Lex other h = lexed-lacking text h.0 h.1
lexed_none text unread.TooLong other h = (lexed-long text h).0
lexed_none text unread.Memory other h = absurd (other refl)
lexed_none text unread.NoTree other h = absurd h
lexed_none text unread.TooDeep other h = absurd h

pub lexed-all : (text : List ℕ) (raw items : List RawToken) (found : List Token) (n : ℕ)
    → length text < 2 ^ 32 → tokens text ≡ Some raw → items ≡ raw → found ≡ pieces text (take n items) → length items ≤ n
    → lexed text ≡ Some found
lexed-all text raw items found n short is same made all =
    lexed-tokens text raw short is ∙ ap (λ ts. Some (pieces text ts)) (sym same) ∙ ap (λ ts. Some (pieces text ts)) (sym (take_all n items all)) ∙ ap Some (sym made)

pub side-tokens : (text : List ℕ) (found : List Token) → lexed text ≡ Some found → side text ≡ elements [] found
unfolding side
side-tokens text found is = ap (λ o. option_map_or (elements []) o (Err (r.LexerFault (fault_in text)))) is

pub side-fault : (text words : List ℕ) → IsFault text words → side text ≡ Err (r.LexerFault words)
unfolding side
side-fault text words is =
    ap (λ o. option_map_or (elements []) o (Err (r.LexerFault (fault_in text)))) is.0 ∙ ap (λ told. Err (r.LexerFault told)) (sym is.1)

-- where a token's text may be cut out of the text
pub record IsPlace (text : List ℕ) (raw : RawToken) : Type 0 where
  pub starts : IsCharBoundary text raw.range.start
  pub ends : IsCharBoundary text raw.range.end

places : (text : List ℕ) (start : ℕ) (raw : List RawToken) → TilesFrom text start raw → AllByRecursion (IsPlace text) raw
places text start [] is = tt
places text start (t ∷ raw) tiles = (
  record {
    starts = let P : ℕ → Type 0 = λ n. IsCharBoundary text n in subst P (sym tiles.0) tiles.2;
    ends = boundary text t.range.end raw tiles.3;
  },
  places text t.range.end raw tiles.3,
)

pub place_at : (text : List ℕ) (raw items : List RawToken) (i : ℕ) (t : RawToken) → Tiles text raw → items ≡ raw → i < length items → t ≡ get_or items i t → IsPlace text t
place_at text raw items i t tiles same small is =
    let P : RawToken → Type 0 = λ r. IsPlace text r in
    subst P (sym is) (All-get_or (IsPlace text) items i t small (subst (All (IsPlace text)) (sym same) (All-from_recursion (IsPlace text) raw (places text 0 raw tiles))))

length-pieces : (text : List ℕ) (raw : List RawToken) → length (pieces text raw) ≡ length raw
length-pieces text raw = length-map raw _

pub lexed_few : (text : List ℕ) (raw items : List RawToken) (found : List Token) (n : ℕ)
    → length text < 2 ^ 32 → Tiles text raw → items ≡ raw → found ≡ pieces text (take n items) → length found < 2 ^ 32
lexed_few text raw items found n short tiles same made =
    omega (arith, tiles_count text 0 raw tiles, ap length same, ap length made, length-pieces text (take n items), length-take n items)
