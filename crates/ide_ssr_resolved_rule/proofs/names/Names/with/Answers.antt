use Rattle.std.proofs.Common.{◌≡◌, ℕ, List, Option, Some, true, false, ap, ◌∙◌, sym, bytes_eq, Bor, nat_cmp}
use Rattle.std.proofs.lemmas.Map.Text.{btree_map_updates_str}
use Rattle.std.specs.BTreeMap.{get_by, BTreeMap}
use Rattle.std.specs.Cmp.Lexicographic.{slice_cmp}
use Rattle.std.specs.List.{position_from}
use Rattle.std.specs.Prelude.{cond}
use Rattle.ide_ssr_resolved_rule.specs.Names.{has}
use Rattle.ide_ssr_resolved_rule.proofs.NamePlaces.{known_again, new_name}
use Rattle.ide_ssr_resolved_rule.proofs.names.Names.with.Goals as goal
use Rattle.ide_ssr_resolved_rule.proofs.names.Names.with.Goals.{then-not-is_known+in_ok-insert, else-not-is_known}

pub invariant_of-result : goal.invariant_of-result
invariant_of-result c = λ text.
    let names = c.self.inside.names.items in
    let name = c.args.name.now in
    let at : BTreeMap (Bor (List ℕ)) ℕ → Option ℕ = λ m. get_by (λ known. slice_cmp nat_cmp text known.now) m in
    let pushed = ap (position_from (bytes_eq text) 0) (sym c.in_ok-push.ensures.items) in
    elim c.if-not-is_known.branch [
      | then-not-is_known+in_ok-insert w ↦
          let new : has names name ≡ false = ap (λ ns. has ns name) c.self.view_is ∙ sym w.if-not-is_known.ensures in
          ap at w.places-is
          ∙ btree_map_updates_str name c.self.inside.places w.insert.new.self (Some c.len-place.result) w.in_ok-insert.ensures.updates text
          ∙ ap (cond (bytes_eq name text) (Some c.len-place.result)) (c.self.invariant text)
          ∙ ap (λ n. cond (bytes_eq name text) (Some n) (position_from (bytes_eq text) 0 names)) (c.len-place.ensures ∙ c.self.inside.names.ok.0)
          ∙ sym (new_name names name text new) ∙ pushed
      | else-not-is_known w ↦
          let known : has names name ≡ true = ap (λ ns. has ns name) c.self.view_is ∙ sym w.if-not-is_known.ensures in
          ap at w.places-is ∙ c.self.invariant text ∙ sym (known_again names name text known) ∙ pushed
    ]
