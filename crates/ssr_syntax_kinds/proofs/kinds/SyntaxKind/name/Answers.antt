use Rattle.std.proofs.Common.{◌≡◌, List, ℕ, refl, sym, ◌∙◌}
use Rattle.std.specs.Prelude.{slice_get, Some, map}
use denote.Enum.Declared.{tag_of}
use Rattle.ssr_syntax_kinds.specs.Kinds.{name}
use Rattle.ssr_syntax_kinds.specs.declared.kinds.TheConstants.{NAMES}
use Rattle.ssr_syntax_kinds.specs.declared.kinds.SyntaxKind.{SyntaxKind}
use Rattle.ssr_syntax_kinds.specs.declared.kinds.SyntaxKind.TheVariants as k
use Rattle.ssr_syntax_kinds.specs.contracts.kinds.SyntaxKind.{the_type}
use Rattle.ssr_syntax_kinds.proofs.kinds.SyntaxKind.name.Goals as goal

-- the table has each kind's name at its place
named : (kind : SyntaxKind) → slice_get (map (λ text. text.now) NAMES) (tag_of the_type kind) ≡ Some (name kind)
unfolding name
named k.WHITESPACE = refl
named _ = refl

same_text : (a b : List ℕ) → Some a ≡ Some b → a ≡ b
same_text a b e = cc

pub returns : goal.returns
returns c = same_text c.text_at.result.now (name c.args.self) (sym c.text_at.ensures ∙ named c.args.self)
