-- The words for a text without raw tokens.
use Rattle.std.specs.Prelude.{ℕ, List, ◌++◌, codes, decimal}
use Rattle.ssr_syntax_lex.specs.declared.fault.FaultKind.{FaultKind}
use Rattle.ssr_syntax_lex.specs.declared.fault.FaultKind.TheVariants as faults
use Rattle.ssr_syntax_lex.specs.declared.tokens.LexFault.{LexFault}
use Rattle.ssr_syntax_lex.specs.declared.tokens.LexError.{LexError}
use Rattle.ssr_syntax_lex.specs.declared.tokens.LexError.TheVariants as errors

-- what begins where there is no token
abbrev pub kind_words : FaultKind → List ℕ
kind_words faults.UnclosedComment = codes "a block comment that is not closed"
kind_words faults.UnclosedString = codes "a string that is not closed"
kind_words faults.UnclosedByte = codes "a byte literal that is not closed"
kind_words faults.UnclosedChar = codes "a character literal that is not closed"
kind_words faults.NoToken = codes "a character that begins no token"

-- the same and the byte at which it begins
abbrev pub words_at : FaultKind → ℕ → List ℕ
words_at kind start = kind_words kind ++ (codes ", at byte " ++ decimal start)

-- the words that a fault is shown in
abbrev pub fault_words : LexFault → List ℕ
fault_words fault = words_at fault.kind fault.start

abbrev pub error_words : LexError → List ℕ
error_words errors.TooLong = codes "text too long"
error_words (errors.Fault fault) = fault_words fault
error_words errors.Memory = codes "out of memory"
