use Rattle.std.proofs.Common.{◌≡◌, ◌∙◌, ◌∷◌, [], arith, ap, length, List, refl, sym}
use Rattle.std.specs.BTreeMap.{get, is_at}
use Rattle.std.specs.Map.{lookup}
use Rattle.std.specs.Option.{option_or}
use Rattle.ssr_facts.proofs.Lists.{option_or_none}
use Rattle.ssr_facts.proofs.Rows.{last_row_put}
use Rattle.ssr_facts.proofs.grouping.first_rows.Goals as goal

none_left : {A : Type 0} (rows : List A) → length rows ≡ 0 → rows ≡ []
none_left [] is = refl
none_left (row ∷ rows) is = absurd (omega (arith, is))

pub loop-key-init : goal.loop-key-init
loop-key-init g c = λ q. ap (option_or (lookup (is_at (g.K.Ord.cmp q)) c.args.rows.items)) (ap (lookup (is_at (g.K.Ord.cmp q))) c.new-map.ensures.empty) ∙ option_or_none _

pub loop-key-preserved : goal.loop-key-preserved
loop-key-preserved g c =
    last_row_put g.met.K.Ord.total c.loop-key.map c.insert.new.self c.loop-key.rows.items c.pop.new.self.items c.args.rows.items c.in-Some.key c.in-Some.value
    c.in-Some.ensures.items c.in_ok-insert.ensures.updates.0 c.loop-key.invariant

pub loop-key-preserved-in_ok-insert : goal.loop-key-preserved-in_ok-insert
loop-key-preserved-in_ok-insert g c =
    last_row_put g.met.K.Ord.total c.loop-key.map c.insert.new.self c.loop-key.rows.items c.pop.new.self.items c.args.rows.items c.in-Some.key c.in-Some.value
    c.in-Some.ensures.items c.in_ok-insert.ensures.updates.0 c.loop-key.invariant

pub returns : goal.returns
returns g c =
    λ key.
    sym (ap (λ rows. option_or (lookup (is_at (g.K.Ord.cmp key)) rows) (get g.K.Ord.cmp c.loop-key.map key)) (none_left c.loop-key.rows.items (sym c.loop-key.rows.ok.0 ∙ c.in_default.ensures.cases.0)))
    ∙ c.loop-key.invariant key
