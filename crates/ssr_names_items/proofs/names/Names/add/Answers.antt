use Rattle.std.proofs.Common.{◌≡◌, ℕ, List, Some, ◌∙◌, sym, subst, string_bytes, bytes_eq}
use Rattle.std.proofs.lemmas.Map.Text.{btree_map_updates_text}
use Rattle.std.specs.BTreeMap.{get_by_text}
use Rattle.std.specs.Map.{update}
use Rattle.ssr_names_items.specs.declared.table.Name.{Name}
use Rattle.ssr_names_items.specs.Names.{bare}
use Rattle.ssr_names_items.proofs.Numbering.{still_numbered, now_numbered}
use Rattle.ssr_names_items.proofs.names.Names.add.Goals as goal

pub returns-clause-kept : goal.returns-clause-kept
returns-clause-kept c = λ text name had.
    let old = get_by_text c.args.self.now.numbers in
    let new = get_by_text c.insert.new.self in
    let added : Name = record { 0 = c.len-2.result } in
    still_numbered old new (bare c.args.text.now) added (sym c.in_default.ensures)
    (subst (λ (bs : List ℕ). (cs : List ℕ) → new cs ≡ update bytes_eq old bs (Some added) cs) (c.in_ok-key.ensures.ok ∙ c.bare.ensures)
    (btree_map_updates_text (string_bytes c.in_ok-key.key) c.args.self.now.numbers c.insert.new.self (Some added) c.in_ok-insert.ensures.updates))
    (bare text) name had

pub returns-clause-numbered : goal.returns-clause-numbered
returns-clause-numbered c =
    let old = get_by_text c.args.self.now.numbers in
    let new = get_by_text c.insert.new.self in
    let added : Name = record { 0 = c.len-2.result } in
    now_numbered old new (bare c.args.text.now) added
    (subst (λ (bs : List ℕ). (cs : List ℕ) → new cs ≡ update bytes_eq old bs (Some added) cs) (c.in_ok-key.ensures.ok ∙ c.bare.ensures)
    (btree_map_updates_text (string_bytes c.in_ok-key.key) c.args.self.now.numbers c.insert.new.self (Some added) c.in_ok-insert.ensures.updates))
