-- For the logic alone: how it stores a plain tree, as the list of its symbols, a node's before those below it. There is
-- nothing to believe here, since that each tree is read back from its symbols is proved.
use Rattle.std.specs.Prelude.{ℕ, ◌≡◌, List, [], ◌∷◌, ◌++◌, Option, Some, None, refl}
use Rattle.std.specs.Coded.{Coded, code_by, coded×, coded_list, coded_ℕ, coded_option}
use Rattle.std.proofs.Common.{ap, ◌∙◌, sym, append_assoc, append-nil}
use Rattle.ssr_syntax_kinds.specs.declared.kinds.SyntaxKind.{SyntaxKind}
use Rattle.ssr_syntax_kinds.specs.contracts.kinds.SyntaxKind as kind
use Rattle.ssr_syntax_tree.specs.Syntax.{Forest, nothing, leaf, branch, Syntax}

-- a token has a kind and a text, a node a kind alone; neither is there where siblings end
abbrev pub Symbol : Type 0
Symbol = Option SyntaxKind × Option (List ℕ)

abbrev pub symbols : Forest → List Symbol
symbols nothing = (None, None) ∷ []
symbols (leaf token next) = (Some token.kind, Some token.text) ∷ symbols next
symbols (branch kind below next) = (Some kind, None) ∷ (symbols below ++ symbols next)

-- the siblings that a symbol begins, where `rest` are those read behind it
abbrev pub begun : Symbol → List Forest → List Forest
begun (Some kind, Some text) (next ∷ rest) = leaf (record { kind = kind; text = text }) next ∷ rest
begun (Some kind, None) (below ∷ next ∷ rest) = branch kind below next ∷ rest
begun (None, text) rest = nothing ∷ rest
begun symbol rest = rest

abbrev pub forests : List Symbol → List Forest
forests [] = []
forests (symbol ∷ rest) = begun symbol (forests rest)

abbrev pub first_forest : List Forest → Forest
first_forest [] = nothing
first_forest (forest ∷ rest) = forest

pub forests-symbols : (forest : Forest) (rest : List Symbol) → forests (symbols forest ++ rest) ≡ forest ∷ forests rest
forests-symbols nothing rest = refl
forests-symbols (leaf token next) rest = ap (begun (Some token.kind, Some token.text)) (forests-symbols next rest)
forests-symbols (branch kind below next) rest =
    ap
    (λ rest. begun (Some kind, None) (forests rest))
    (append_assoc (symbols below) (symbols next) rest)
    ∙ ap (begun (Some kind, None)) (forests-symbols below (symbols next ++ rest) ∙ ap (λ rest. below ∷ rest) (forests-symbols next rest))

abbrev pub syntax_code : Coded Syntax
syntax_code =
    code_by
    (SyntaxKind × List Symbol)
    (coded× kind.the_row.coded (coded_list (coded× (coded_option kind.the_row.coded) (coded_option (coded_list coded_ℕ)))))
    (λ syntax. (syntax.kind, symbols syntax.children))
    (λ stored. record { kind = stored.0; children = first_forest (forests stored.1) })
    (λ syntax. ap (λ forest. record { kind = syntax.kind; children = first_forest forest }) (ap forests (sym (append-nil (symbols syntax.children))) ∙ forests-symbols syntax.children []))
