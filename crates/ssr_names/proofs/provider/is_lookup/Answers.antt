-- Texts are compared by their bytes.
use Rattle.std.proofs.Common.{◌≡◌, ◌∙◌, ◌&&◌, Bool, List, map, ap, sym, string_bytes}
use Rattle.std.specs.Prelude.{String}
use Rattle.std.specs.Global.{Global}
use Rattle.std.specs.Cmp.Derive.Mapped.{pointwise-map}
use Rattle.std.specs.Cmp.Lexicographic.{pointwise}
use Rattle.std.specs.Str.{bytes_eq}
use Rattle.std.specs.String.{string_eq}
use Rattle.ssr_names.proofs.provider.is_lookup.Goals as goal

same_texts : (a b : List (String Global)) → pointwise string_eq a b ≡ pointwise bytes_eq (map string_bytes a) (map string_bytes b)
same_texts a b = sym (pointwise-map string_bytes bytes_eq a b)

pub returns-then-eq : goal.returns-then-eq
returns-then-eq c =
    let key : List (String Global) = c.args.key.now in
    let own : List (String Global) = c.args.row.now.path.items in
    c.eq-then-eq.ensures
    ∙ ap (λ (texts : List (String Global)). pointwise string_eq texts key) c.as_slice.ensures.value
    ∙ same_texts own key
    ∙ ap (λ (b : Bool). b && pointwise bytes_eq (map string_bytes own) (map string_bytes key)) c.if-eq.ensures
