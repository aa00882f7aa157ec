-- The words that stand for tokens set aside.
use Rattle.std.specs.Prelude.{ℕ, List, [], codes}
use Rattle.ssr_drafts.specs.declared.form.Form.{Form}
use Rattle.ssr_drafts.specs.declared.form.Form.TheVariants as forms

-- what stands for the first bytes of a token of a form; blanks stand for all others
abbrev pub word_of : Form → List ℕ
word_of forms.Name = codes "x"
word_of forms.Inclusive = codes "="
word_of _ = []
