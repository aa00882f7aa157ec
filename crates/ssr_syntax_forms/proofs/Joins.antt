-- Forests side by side.
use Rattle.std.proofs.Common.{◌≡◌, ◌++◌, length, refl, sym, ap, ◌∙◌, append_assoc}
use Rattle.ssr_syntax_forms.specs.Trees.{Forest, done, leaf, tree, join, spell}
use Rattle.ssr_syntax_forms.specs.Parser.{Written, token_written, node_written}
use Rattle.ssr_syntax_forms.specs.Written.{writes}

pub spell-join : (x y : Forest) → spell (join x y) ≡ spell x ++ spell y
spell-join done y = refl
spell-join (leaf kind us x) y = ap (λ z. us ++ z) (spell-join x y) ∙ sym (append_assoc us (spell x) (spell y))
spell-join (tree kind kids x) y = ap (λ z. spell kids ++ z) (spell-join x y) ∙ sym (append_assoc (spell kids) (spell x) (spell y))

pub writes-join : (x y : Forest) (out : Written) → writes (join x y) out ≡ writes y (writes x out)
writes-join done y out = refl
writes-join (leaf kind us x) y out = writes-join x y (token_written kind (length us) out)
writes-join (tree kind kids x) y out = writes-join x y (node_written kind (length out.rows) out.place.next (writes kids out))
