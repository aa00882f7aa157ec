-- Kinds, looked for in lists.
use Rattle.std.specs.Prelude.{Bool, true, false, ◌||◌, List, [], ◌∷◌}
use Rattle.ssr_syntax_kinds.specs.declared.kinds.SyntaxKind.{SyntaxKind}
use Rattle.ssr_syntax_kinds.specs.Kinds.{same_kind}

-- a kind stands in a list
abbrev pub mem : SyntaxKind → List SyntaxKind → Bool
mem kind [] = false
mem kind (k ∷ ks) = same_kind kind k || mem kind ks

-- these kinds where all of Rust is read, and else none
unfoldable pub where_whole : Bool → List SyntaxKind → List SyntaxKind
where_whole true ks = ks
where_whole false ks = []
