-- Keywords and punctuation.
use Rattle.std.specs.Prelude.{ℕ, Bool, bytes_eq, List, [], ◌∷◌, Option, Some, None, codes, if◌then◌else◌}
use Rattle.std.specs.List.{list_any}
use Prim.Native.String.{String}
use Rattle.ssr_syntax_lex.specs.Characters.{◌∈◌}
use Rattle.ssr_syntax_kinds.specs.Kinds.{same_kind}
use Rattle.ssr_syntax_kinds.specs.declared.kinds.SyntaxKind.{SyntaxKind}
use Rattle.ssr_syntax_kinds.specs.declared.kinds.SyntaxKind.TheVariants as k

-- the keywords, each with its kind
abbrev pub keywords : List (String × SyntaxKind)
keywords =
    ("as", k.AS_KW) ∷
    ("async", k.ASYNC_KW) ∷
    ("await", k.AWAIT_KW) ∷
    ("break", k.BREAK_KW) ∷
    ("const", k.CONST_KW) ∷
    ("continue", k.CONTINUE_KW) ∷
    ("crate", k.CRATE_KW) ∷
    ("dyn", k.DYN_KW) ∷
    ("else", k.ELSE_KW) ∷
    ("enum", k.ENUM_KW) ∷
    ("extern", k.EXTERN_KW) ∷
    ("false", k.FALSE_KW) ∷
    ("fn", k.FN_KW) ∷
    ("for", k.FOR_KW) ∷
    ("if", k.IF_KW) ∷
    ("impl", k.IMPL_KW) ∷
    ("in", k.IN_KW) ∷
    ("let", k.LET_KW) ∷
    ("loop", k.LOOP_KW) ∷
    ("match", k.MATCH_KW) ∷
    ("mod", k.MOD_KW) ∷
    ("move", k.MOVE_KW) ∷
    ("mut", k.MUT_KW) ∷
    ("pub", k.PUB_KW) ∷
    ("ref", k.REF_KW) ∷
    ("return", k.RETURN_KW) ∷
    ("self", k.SELF_KW) ∷
    ("Self", k.SELF_TYPE_KW) ∷
    ("static", k.STATIC_KW) ∷
    ("struct", k.STRUCT_KW) ∷
    ("super", k.SUPER_KW) ∷
    ("trait", k.TRAIT_KW) ∷
    ("true", k.TRUE_KW) ∷
    ("type", k.TYPE_KW) ∷
    ("unsafe", k.UNSAFE_KW) ∷
    ("use", k.USE_KW) ∷
    ("where", k.WHERE_KW) ∷
    ("while", k.WHILE_KW) ∷
    ("abstract", k.ABSTRACT_KW) ∷
    ("become", k.BECOME_KW) ∷
    ("box", k.BOX_KW) ∷
    ("do", k.DO_KW) ∷
    ("final", k.FINAL_KW) ∷
    ("macro", k.MACRO_KW) ∷
    ("override", k.OVERRIDE_KW) ∷
    ("priv", k.PRIV_KW) ∷
    ("try", k.TRY_KW) ∷
    ("typeof", k.TYPEOF_KW) ∷
    ("unsized", k.UNSIZED_KW) ∷
    ("virtual", k.VIRTUAL_KW) ∷
    ("yield", k.YIELD_KW) ∷
    []

-- the kind that a table gives a word; an identifier's where the word isn't in it
abbrev pub kind_in : List (String × SyntaxKind) → List ℕ → SyntaxKind
kind_in [] word = k.IDENT
kind_in (row ∷ rows) word = if bytes_eq word (codes row.0) then row.1 else kind_in rows word

-- the words that are no identifiers, each with its kind
abbrev pub word_kinds : List (String × SyntaxKind)
word_kinds = ("_", k.UNDERSCORE) ∷ keywords

-- the kind of a word: a keyword's, that of `_`, or an identifier's
unfoldable pub word_kind : List ℕ → SyntaxKind
word_kind word = kind_in word_kinds word

-- the punctuation characters, each with its kind
abbrev pub marks : List (String × SyntaxKind)
marks =
    (";", k.SEMICOLON) ∷
    (",", k.COMMA) ∷
    ("(", k.L_PAREN) ∷
    (")", k.R_PAREN) ∷
    ("{", k.L_CURLY) ∷
    ("}", k.R_CURLY) ∷
    ("[", k.L_BRACK) ∷
    ("]", k.R_BRACK) ∷
    ("<", k.L_ANGLE) ∷
    (">", k.R_ANGLE) ∷
    ("@", k.AT) ∷
    ("#", k.POUND) ∷
    ("~", k.TILDE) ∷
    ("?", k.QUESTION) ∷
    ("$", k.DOLLAR) ∷
    ("&", k.AMP) ∷
    ("+", k.PLUS) ∷
    ("*", k.STAR) ∷
    ("/", k.SLASH) ∷
    ("^", k.CARET) ∷
    ("%", k.PERCENT) ∷
    (".", k.DOT) ∷
    (":", k.COLON) ∷
    ("=", k.EQ) ∷
    ("!", k.BANG) ∷
    ("-", k.MINUS) ∷
    ("|", k.PIPE) ∷
    []

-- the kind that a table gives a character, if the character is in it
abbrev pub mark_in : List (String × SyntaxKind) → ℕ → Option SyntaxKind
mark_in [] c = None
mark_in (row ∷ rows) c = if c ∈ row.0 then Some row.1 else mark_in rows c

-- the kind of a punctuation character
unfoldable pub mark_kind : ℕ → Option SyntaxKind
mark_kind c = mark_in marks c

-- whether this is a kind of punctuation
abbrev pub is_punctuation : SyntaxKind → Bool
is_punctuation kind = list_any (λ row. same_kind kind row.1) marks
