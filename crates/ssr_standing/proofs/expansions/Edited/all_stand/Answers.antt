use Rattle.std.proofs.Common.{◌≡◌, ◌∙◌, ◌+◌, false, length, ℕ, ap, map, sym, arith}
use Rattle.ssr_base_trees.specs.Origins.{span_of}
use Rattle.ssr_standing.specs.Expansions.{first_stand, stands_for}
use Rattle.ssr_standing.proofs.Calls.{one_falls, one_stands}
use Rattle.ssr_standing.proofs.expansions.Edited.all_stand.Goals as goal

pub stands_for-requires : goal.stands_for-requires
stands_for-requires c = ap (map span_of) c.loop-number.invariant.places ∙ c.args.self.now.placed

pub overflow_add-tree : goal.overflow_add-tree
overflow_add-tree c = omega (arith, c.file_count-first.ensures.count, c.file_count-first.ensures.built.few)

pub loop-number-preserved : goal.loop-number-preserved
loop-number-preserved c =
    let w = c.args.self.now.file.now.trees.now in
    let n : ℕ = c.args.self.now.file.now.number in
    let file = c.args.self.now.file.now.tree.now in
    let cs = c.args.self.now.edit.now in
    let i : ℕ = c.loop-number.number in
    let is : c.in_ok-stands.stands ≡ stands_for w n file cs (length w.files + i) =
    c.in_ok-stands.ensures.answer ∙ ap (λ (k : ℕ). stands_for w n file cs (k + i)) c.file_count-first.ensures.count in
    record {
      so_far = one_stands w n file cs i c.in_ok-stands.stands is (cc) c.loop-number.invariant.so_far;
      places = c.stands_for.ensures.places ∙ c.loop-number.invariant.places;
    }

pub returns-then-not-stands : goal.returns-then-not-stands
returns-then-not-stands c =
    let w = c.args.self.now.file.now.trees.now in
    let n : ℕ = c.args.self.now.file.now.number in
    let file = c.args.self.now.file.now.tree.now in
    let cs = c.args.self.now.edit.now in
    let i : ℕ = c.loop-number.number in
    let is : c.in_ok-stands.stands ≡ stands_for w n file cs (length w.files + i) =
    c.in_ok-stands.ensures.answer ∙ ap (λ (k : ℕ). stands_for w n file cs (k + i)) c.file_count-first.ensures.count in
    let falls : c.in_ok-stands.stands ≡ false = cc in
    sym (one_falls w n file cs i (length w.expansions) (omega arith) (sym is ∙ falls))

pub returns : goal.returns
returns c =
    let w = c.args.self.now.file.now.trees.now in
    let same : c.loop-number.number ≡ length w.expansions = omega arith in
    sym (sym (ap (first_stand w c.args.self.now.file.now.number c.args.self.now.file.now.tree.now c.args.self.now.edit.now) same)
    ∙ c.loop-number.invariant.so_far)
