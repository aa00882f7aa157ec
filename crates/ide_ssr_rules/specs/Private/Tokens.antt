-- Private: what lexing a side answers.
use Rattle.std.specs.Prelude.{ℕ, ◌≡◌, ◌≢◌, List, Some, None, Result, Ok, Err}
use Rattle.std.specs.declared.alloc.Global.{Global}
use Rattle.std.specs.declared.vec.Vec.{Vec}
use Rattle.ssr_syntax_tree.specs.Syntax.{Token}
use Rattle.ssr_syntax_lex.specs.declared.tokens.LexError.{LexError}
use Rattle.ssr_syntax_lex.specs.declared.tokens.LexError.TheVariants.{Memory}
use Rattle.ssr_syntax_lex.specs.Fault.{error_words}
use Rattle.ide_ssr_rules.specs.Elements.{lexed, fault_in}

-- what lexing answers, seen as tokens with texts; for want of memory it says nothing
abbrev pub IsLexed : Result (Vec Token Global) LexError → List ℕ → Type 0
IsLexed (Ok v) text = lexed text ≡ Some v.items
IsLexed (Err error) text = error ≢ Memory → (lexed text ≡ None) × (error_words error ≡ fault_in text)
