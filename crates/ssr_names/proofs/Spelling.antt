-- The segments of a path, read from the last one on.
use Rattle.std.proofs.Common.{◌≡◌, ℕ, ◌+◌, ◌<◌, List, [], ◌∷◌, ◌++◌, length, take, get_or, Some, None, refl, sym, ap, ◌∙◌, subst, append_assoc, arith}
use Rattle.std.proofs.lemmas.List.{append-nil, reverse-append}
use Rattle.std.specs.Prelude.{reverse}
use Rattle.ssr_syntax_kinds.specs.declared.kinds.SyntaxKind.TheVariants as k
use Rattle.ssr_syntax_tree.specs.Syntax.{Syntax}
use Rattle.ssr_syntax_tree.specs.Places.{Node, parts_of}
use Rattle.ide_ssr_resolved_rule.specs.Paths.{first_of_kind, last_name}
use Rattle.ssr_names_items.specs.declared.names.Names.{Names}
use Rattle.ssr_names_items.specs.declared.table.Name.{Name}
use Rattle.ssr_names_items.specs.declared.table.Start.{Start}
use Rattle.ssr_names.specs.declared.code_paths.Segment.{Segment}
use Rattle.ssr_names.specs.declared.code_paths.Segment.TheVariants as kinds
use Rattle.ssr_names.specs.CodePaths.{AreRead, AreSegments, IsSegment, continued, read_name, read_word, segments_one, segments_more}
use Rattle.ssr_names.proofs.Following.{name_more}

module _ (names : Names) (stranger : Name) (tree : Syntax) (path at : Node) (found new : List Segment) (segment : Segment)
    (added : new ≡ found ++ segment ∷ []) (is : IsSegment names stranger (last_name at.children) segment)
    (so_far : (first : List Segment) → AreSegments names stranger tree at first → AreSegments names stranger tree path (first ++ reverse found)) where
  turned : reverse new ≡ segment ∷ reverse found
  turned = ap reverse added ∙ reverse-append found (segment ∷ [])

  pub segments_on : (front : Node) → first_of_kind k.PATH (parts_of at) ≡ Some front → (first : List Segment) → AreSegments names stranger tree front first
      → AreSegments names stranger tree path (first ++ reverse new)
  segments_on front here first are =
      let more = so_far (first ++ segment ∷ []) (segments_more at front first segment here are is) in
      subst (AreSegments names stranger tree path) (append_assoc first (segment ∷ []) (reverse found) ∙ sym (ap (λ ss. first ++ ss) turned)) more

  pub segments_end : first_of_kind k.PATH (parts_of at) ≡ None → AreSegments names stranger tree path (reverse new)
  segments_end none =
      subst (AreSegments names stranger tree path) (sym turned) (so_far (segment ∷ []) (segments_one at segment none is))

-- before any is read
pub segments_none : (names : Names) (stranger : Name) (tree : Syntax) (path : Node) (first : List Segment) → AreSegments names stranger tree path first
    → AreSegments names stranger tree path (first ++ [])
segments_none names stranger tree path first are = subst (AreSegments names stranger tree path) (sym (append-nil first)) are

-- ** The names behind the words of the language, one by one.

pub none_long : (names : List Name) → length names ≡ 0 → names ≡ []
none_long [] is = refl
none_long (name ∷ names) is = absurd (omega arith)

module _ (start before : Start) (segments : List Segment) (i : ℕ) (s : Segment) (names : List Name) (within : i < length segments) (is : get_or segments i s ≡ s)
    (had : AreRead start (take i segments) before names) where
  pub read_on_name : (name : Name) (new : List Name) → s ≡ kinds.Name name → new ≡ names ++ name ∷ [] → AreRead start (take (i + 1) segments) before new
  read_on_name name new same added =
      subst (AreRead start (take (i + 1) segments) before) (sym added)
      (subst (λ ss. AreRead start ss before (names ++ name ∷ [])) (sym (name_more segments i s within is ∙ ap (λ x. take i segments ++ x ∷ []) same))
      (read_name (take i segments) name before names had))

  pub read_on_word : (after : Start) → names ≡ [] → continued before s ≡ Some after → AreRead start (take (i + 1) segments) after names
  read_on_word after none goes =
      subst (AreRead start (take (i + 1) segments) after) (sym none)
      (subst (λ ss. AreRead start ss after []) (sym (name_more segments i s within is))
      (read_word (take i segments) s before after (subst (AreRead start (take i segments) before) none had) goes))
