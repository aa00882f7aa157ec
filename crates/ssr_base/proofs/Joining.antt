-- How the origins of a tree's tokens are put together.
use Rattle.std.proofs.Common.{◌≡◌, ℕ, suc, ◌+◌, ◌-◌, ◌<◌, ◌≤◌, List, [], ◌∷◌, ◌++◌, length, map, take, drop, string_bytes, Option, true, refl, sym, ap, ◌∙◌, arith, ne_eqb, append_assoc}
use Rattle.std.proofs.lemmas.List.{drop_more, drop_all, map-append, append-nil}
use Rattle.std.proofs.lemmas.Option.{unwrap_or-slice_get}
use Rattle.std.proofs.lemmas.List.Elements.{All-nil, All-cons, All-take, All-drop, All-map}
use Rattle.std.specs.List.{AllPass}
use Rattle.std.specs.Prelude.{if◌then◌else◌}
use Rattle.ssr_syntax_kinds.specs.declared.kinds.SyntaxKind.TheVariants as k
use Rattle.ssr_syntax_kinds.specs.declared.range.TextRange.{TextRange}
use Rattle.ssr_syntax_tree.specs.Syntax.{Token, Syntax, tokens_of, token_count}
use Rattle.ssr_syntax_tree.specs.Places.{HasToken, token_of}
use Rattle.ssr_syntax_tree.proofs.Shared.{length-tokens_in}
use Rattle.ssr_syntax.specs.declared.expansions.ExpToken.{ExpToken}
use Rattle.ssr_base_trees.specs.Origins.{Cover, join, cover_of, cover_of_one, covered, fits_origin, plain_origin}
use Rattle.ssr_base.specs.Building.{origin_of, count_in, cover_of_tokens, joined_origins}
use Rattle.ssr_base_trees.proofs.Shared.{join-assoc, fit_covered}

-- ** The tokens that fill so many bytes.

count_next : (left : ℕ) (token : ExpToken) (tokens : List ExpToken) → 0 < left → count_in left (token ∷ tokens) ≡ suc (count_in (left - length (string_bytes token.text)) tokens)
count_next left token tokens more =
    let rest = count_in (left - length (string_bytes token.text)) tokens in
    let next : 1 + rest ≡ suc rest = omega arith in
    ap (λ b. if b then 0 else 1 + rest) (ne_eqb left 0 (λ e. omega (arith, e))) ∙ next

pub cover_next : (cover now : Cover) (left after : ℕ) (before : List ExpToken) (token : ExpToken) (others : List ExpToken)
    → before ≡ token ∷ others → 0 < left → now ≡ join cover (cover_of_one (origin_of token)) → after ≡ left - length (string_bytes token.text)
    → join now (cover_of_tokens (take (count_in after others) others)) ≡ join cover (cover_of_tokens (take (count_in left before) before))
cover_next cover now left after before token others is more joined less =
    let count = count_in (left - length (string_bytes token.text)) others in
    let one = cover_of_one (origin_of token) in
    let whole : cover_of_tokens (take (count_in left before) before) ≡ join one (cover_of_tokens (take count others)) =
    ap (λ ts. cover_of_tokens (take (count_in left ts) ts)) is ∙ ap (λ n. cover_of_tokens (take n (token ∷ others))) (count_next left token others more) in
    ap (λ n. join now (cover_of_tokens (take (count_in n others) others))) less
    ∙ ap (λ c. join c (cover_of_tokens (take count others))) joined
    ∙ join-assoc cover one (cover_of_tokens (take count others))
    ∙ ap (join cover) (sym whole)

pub drop_next : (left after : ℕ) (before : List ExpToken) (token : ExpToken) (others : List ExpToken)
    → before ≡ token ∷ others → 0 < left → after ≡ left - length (string_bytes token.text)
    → drop (count_in after others) others ≡ drop (count_in left before) before
drop_next left after before token others is more less =
    ap (λ n. drop (count_in n others) others) less
    ∙ ap (λ n. drop n (token ∷ others)) (sym (count_next left token others more))
    ∙ ap (λ ts. drop (count_in left ts) ts) (sym is)

-- ** The tokens of a tree, one by one.

-- the origins so far, and those of the tokens that are left
abbrev pub AreSoFar : Syntax → List ExpToken → List (Option TextRange) → ℕ → List ExpToken → Type 0
AreSoFar syntax tokens origins t rest =
    map plain_origin origins ++ joined_origins (drop t (tokens_of syntax)) rest ≡ joined_origins (tokens_of syntax) tokens

token_left : (syntax : Syntax) (t : ℕ) → HasToken syntax t → drop t (tokens_of syntax) ≡ token_of syntax t ∷ drop (t + 1) (tokens_of syntax)
unfolding token_of
token_left syntax t has =
    let none : Token = record { kind = k.WHITESPACE; text = [] } in
    drop_more (tokens_of syntax) t none (omega (arith, length-tokens_in syntax.children))
    ∙ ap (λ token. token ∷ drop (t + 1) (tokens_of syntax)) (sym (unwrap_or-slice_get (tokens_of syntax) t none))

pub so_far_next : (syntax : Syntax) (tokens : List ExpToken) (origins next : List (Option TextRange)) (t : ℕ) (rest others : List ExpToken) (origin : Option TextRange)
    → HasToken syntax t → AreSoFar syntax tokens origins t rest
    → plain_origin origin ≡ covered (cover_of_tokens (take (count_in (length (token_of syntax t).text) rest) rest))
    → others ≡ drop (count_in (length (token_of syntax t).text) rest) rest
    → next ≡ origins ++ origin ∷ []
    → AreSoFar syntax tokens next (t + 1) others
so_far_next syntax tokens origins next t rest others origin has so_far is left pushed =
    let later = drop (t + 1) (tokens_of syntax) in
    let count = count_in (length (token_of syntax t).text) rest in
    let front : map plain_origin next ≡ map plain_origin origins ++ plain_origin origin ∷ [] =
    ap (map plain_origin) pushed ∙ map-append plain_origin origins (origin ∷ []) in
    let step : joined_origins (drop t (tokens_of syntax)) rest ≡ plain_origin origin ∷ joined_origins later others =
    ap (λ ts. joined_origins ts rest) (token_left syntax t has)
    ∙ ap (λ o. o ∷ joined_origins later (drop count rest)) (sym is)
    ∙ ap (λ ts. plain_origin origin ∷ joined_origins later ts) (sym left) in
    ap (λ os. os ++ joined_origins later others) front
    ∙ append_assoc (map plain_origin origins) (plain_origin origin ∷ []) (joined_origins later others)
    ∙ ap (λ os. map plain_origin origins ++ os) (sym step)
    ∙ so_far

pub so_far_all : (syntax : Syntax) (tokens : List ExpToken) (origins : List (Option TextRange)) (t : ℕ) (rest : List ExpToken)
    → token_count syntax.children ≤ t → AreSoFar syntax tokens origins t rest → map plain_origin origins ≡ joined_origins (tokens_of syntax) tokens
so_far_all syntax tokens origins t rest past so_far =
    sym (append-nil (map plain_origin origins))
    ∙ ap (λ ts. map plain_origin origins ++ joined_origins ts rest) (sym (drop_all t (tokens_of syntax) (omega (arith, length-tokens_in syntax.children))))
    ∙ so_far

-- there are as many as tokens
pub length-joined_origins : (joined : List Token) (tokens : List ExpToken) → length (joined_origins joined tokens) ≡ length joined
length-joined_origins [] tokens = refl
length-joined_origins (token ∷ later) tokens =
    omega (arith, length-joined_origins later (drop (count_in (length token.text) tokens) tokens))

-- the origins of tokens that are joined of others that fit do so too
pub fit_joined : (text : List ℕ) (joined : List Token) (tokens : List ExpToken) → AllPass (λ token. fits_origin text (origin_of token)) tokens
    → AllPass (fits_origin text) (joined_origins joined tokens)
fit_joined text [] tokens fit = All-nil (λ o. fits_origin text o ≡ true)
fit_joined text (token ∷ later) tokens fit =
    let fits : ExpToken → Type 0 = λ token. fits_origin text (origin_of token) ≡ true in
    let count = count_in (length token.text) tokens in
    All-cons (λ o. fits_origin text o ≡ true) (covered (cover_of (map origin_of (take count tokens)))) (joined_origins later (drop count tokens))
    (fit_covered text (map origin_of (take count tokens))
    (All-map (λ o. fits_origin text o ≡ true) origin_of (take count tokens) (All-take fits count tokens fit)))
    (fit_joined text later (drop count tokens) (All-drop fits count tokens fit))
