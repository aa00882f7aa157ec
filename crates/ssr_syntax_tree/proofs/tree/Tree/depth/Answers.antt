use Rattle.std.proofs.Common.{◌≡◌, ℕ, ◌<◌, true, false, ap, arith, rules, inl, inr}
use Rattle.std.proofs.lemmas.Bool.{cases_lt}
use Rattle.ssr_syntax_tree.specs.Places.{node_of, depth_at}
use Rattle.ssr_syntax_tree.proofs.Places.{parent_before, depth_at-parent, depth_at-root}
use Rattle.ssr_syntax_tree.proofs.tree.Tree.depth.Goals as goal

behind : (n : ℕ) → (n ≡ 0 → true ≡ false) → 0 < n
behind n h = elim (cases_lt 0 n) [ inl some ↦ some | inr none ↦ let e : n ≡ 0 = omega arith in let f = h e in cc ]

pub overflow_add-depth : goal.overflow_add-depth
overflow_add-depth c = omega (arith, behind c.loop-parent.at c.in-Some.ensures.root.1)

pub loop-parent-smaller : goal.loop-parent-smaller
loop-parent-smaller c =
    let above = behind c.loop-parent.at c.in-Some.ensures.root.1 in
    omega (arith, c.in-Some.ensures.value, parent_before c.args.self.now c.loop-parent.at c.loop-parent.invariant.has above)

pub loop-parent-preserved : goal.loop-parent-preserved
loop-parent-preserved c =
    let above = behind c.loop-parent.at c.in-Some.ensures.root.1 in
    let value = c.in-Some.ensures.value in
    let same : depth_at c.args.self.now c.in-Some.parent.0 ≡ depth_at c.args.self.now (node_of c.args.self.now c.loop-parent.at).parent = ap (depth_at c.args.self.now) value in
    record {
      has = c.in-Some.ensures.has;
      total = omega (arith, same, c.loop-parent.invariant.total, depth_at-parent c.args.self.now c.loop-parent.at c.loop-parent.invariant.has above);
      small = omega (arith, value, c.loop-parent.invariant.small, parent_before c.args.self.now c.loop-parent.at c.loop-parent.invariant.has above);
    }

pub returns : goal.returns
returns c =
    let root : c.loop-parent.at ≡ 0 = c.in_default.ensures.root.0 (search rules) in
    omega (arith, c.loop-parent.invariant.total, ap (depth_at c.args.self.now) root, depth_at-root c.args.self.now)
