-- Siblings without trivia: their nodes and tokens.
use Rattle.std.proofs.Common.{◌≡◌, ◌+◌, Bool, cond, not, List, ◌∷◌, ◌++◌, filter, refl, sym, ◌∙◌, ap}
use Rattle.std.proofs.lemmas.Bool.{cond_both}
use Rattle.std.proofs.lemmas.List.Elements.{filter-append}
use Rattle.ssr_syntax_kinds.specs.declared.kinds.SyntaxKind.{SyntaxKind}
use Rattle.ssr_syntax_kinds.specs.Kinds.{is_trivia}
use Rattle.ssr_syntax_tree.specs.Syntax.{Token, Forest, nothing, leaf, branch, node_count, tokens_in}
use Rattle.ide_ssr_matching.specs.Trivia.{stays, stripped, stripped_below}

-- what is the same of siblings without trivia is the same of what is below a node
pub either_below : (P : Forest → Type 0) (kind : SyntaxKind) (below : Forest) → P below → P (stripped below) → P (stripped_below kind below)
either_below P kind below own strips = cond_both (stays kind below) below (stripped below) P (λ _. own) (λ _. strips)

-- ** Nodes.

node_count_left : (siblings : Forest) → node_count (stripped siblings) ≡ node_count siblings
node_count_left nothing = refl
node_count_left (leaf token next) =
    cond_both (is_trivia token.kind) (stripped next) (leaf token (stripped next)) (λ rest. node_count rest ≡ node_count next)
    (λ _. node_count_left next) (λ _. node_count_left next)
node_count_left (branch kind below next) =
    let inner = either_below (λ rest. node_count rest ≡ node_count below) kind below refl (node_count_left below) in
    ap (λ n. 1 + (n + node_count (stripped next))) inner ∙ ap (λ n. 1 + (node_count below + n)) (node_count_left next)

pub node_count_below_left : (kind : SyntaxKind) (below : Forest) → node_count (stripped_below kind below) ≡ node_count below
node_count_below_left kind below = either_below (λ rest. node_count rest ≡ node_count below) kind below refl (node_count_left below)

-- ** Nothing more is left out a second time.

below_again : (kind : SyntaxKind) (below : Forest) → stripped (stripped below) ≡ stripped below
    → stripped_below kind (stripped_below kind below) ≡ stripped_below kind below
below_again kind below again =
    cond_both (stays kind below) below (stripped below) (λ rest. stripped_below kind rest ≡ rest)
    (λ is. ap (λ b. cond b below (stripped below)) is)
    (λ _. either_below (λ rest. rest ≡ stripped below) kind (stripped below) refl again)

stripped_again : (siblings : Forest) → stripped (stripped siblings) ≡ stripped siblings
stripped_again nothing = refl
stripped_again (leaf token next) =
    cond_both (is_trivia token.kind) (stripped next) (leaf token (stripped next)) (λ rest. stripped rest ≡ rest)
    (λ _. stripped_again next)
    (λ is. ap (λ b. cond b (stripped (stripped next)) (leaf token (stripped (stripped next)))) is ∙ ap (leaf token) (stripped_again next))
stripped_again (branch kind below next) =
    ap (λ rest. branch kind rest (stripped (stripped next))) (below_again kind below (stripped_again below))
    ∙ ap (branch kind (stripped_below kind below)) (stripped_again next)

pub stripped_below_again : (kind : SyntaxKind) (below : Forest) → stripped_below kind (stripped_below kind below) ≡ stripped_below kind below
stripped_below_again kind below = below_again kind below (stripped_again below)

-- ** Tokens.

abbrev pub is_solid : Token → Bool
is_solid token = not (is_trivia token.kind)

-- tokens but for trivia
abbrev pub solid_tokens : List Token → List Token
solid_tokens tokens = filter is_solid tokens

pub tokens_left : (siblings : Forest) → solid_tokens (tokens_in (stripped siblings)) ≡ solid_tokens (tokens_in siblings)
tokens_left nothing = refl
tokens_left (leaf token next) =
    cond_both (is_trivia token.kind) (stripped next) (leaf token (stripped next))
    (λ rest. solid_tokens (tokens_in rest) ≡ solid_tokens (token ∷ tokens_in next))
    (λ is. tokens_left next ∙ ap (λ b. cond (not b) (token ∷ solid_tokens (tokens_in next)) (solid_tokens (tokens_in next))) (sym is))
    (λ _. ap (λ rest. cond (is_solid token) (token ∷ rest) rest) (tokens_left next))
tokens_left (branch kind below next) =
    let inner =
    either_below (λ rest. solid_tokens (tokens_in rest) ≡ solid_tokens (tokens_in below)) kind below refl (tokens_left below)
    in
    filter-append is_solid (tokens_in (stripped_below kind below)) (tokens_in (stripped next))
    ∙ ap (λ tokens. tokens ++ solid_tokens (tokens_in (stripped next))) inner
    ∙ ap (λ tokens. solid_tokens (tokens_in below) ++ tokens) (tokens_left next)
    ∙ sym (filter-append is_solid (tokens_in below) (tokens_in next))
