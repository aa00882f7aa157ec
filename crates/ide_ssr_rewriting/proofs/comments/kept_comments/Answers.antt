use Rattle.std.proofs.Common.{◌≡◌, ℕ, ◌+◌, ◌-◌, ◌<◌, ◌≤◌, ◌==◌, ◌&&◌, min, max, All, map, filter, subst, arith, rules, ap, sym, ◌∙◌}
use Rattle.std.specs.List.{range_with_len}
use Rattle.std.proofs.lemmas.Bool.{and_parts, eqb-true}
use Rattle.std.proofs.lemmas.List.Elements.{All-push}
use Rattle.ssr_syntax_tree.specs.declared.number.TokenNo.{TokenNo}
use Rattle.ssr_syntax_tree.specs.Syntax.{token_count}
use Rattle.ssr_syntax_tree.specs.Places.{HasToken, node_of, token_of}
use Rattle.ide_ssr_rewriting.specs.Comments.{is_comment, is_kept_comment, kept_comments}
use Rattle.ide_ssr_rewriting.specs.Private.Comments.{bound_from}
use Rattle.ide_ssr_rewriting.proofs.Bound.{kept, unkept, not_kept, one_passed, passed-over}
use Rattle.ide_ssr_rewriting.proofs.Passed.{passed, passed-taken}
use Rattle.ide_ssr_rewriting.proofs.comments.kept_comments.Goals as goal
use Rattle.ide_ssr_rewriting.proofs.comments.kept_comments.Goals.{then-is_kept_comment+in_ok-push, else-is_kept_comment}

pub loop-number-preserved : goal.loop-number-preserved
loop-number-preserved c =
    let code = c.args.tree.now in
    let bindings = c.args.bindings.now in
    let number : ℕ = c.loop-number.number in
    let node = node_of code c.args.node.0 in
    let steps : ℕ = c.min-number.result in
    let token : TokenNo = record { 0 = number } in
    let bound : c.bound_from-bound.result ≡ bound_from code token bindings = c.bound_from-bound.ensures in
    let tested : c.is_kept_comment.result ≡ (is_comment (token_of code number).kind && c.bound_from-bound.result == 0) = c.is_kept_comment.ensures in
    let many : steps ≡ min (max (bound_from code token bindings) 1) (node.first + token_count node.children - number) = search rules steps 200000 in
    let from : node.first ≤ number = c.loop-number.invariant.from in
    let has : HasToken code number = omega arith in
    let In : TokenNo → Type 0 = λ token. HasToken code token.0 in
    elim c.if-is_kept_comment.branch [
      | then-is_kept_comment+in_ok-push w ↦
          let items = ap (λ v. v.items) w.comments-is ∙ w.in_ok-push.ensures.items in
          let both = and_parts (is_comment (token_of code number).kind) (c.bound_from-bound.result == 0) (sym tested ∙ w.if-is_kept_comment.true) in
          let none : bound_from code token bindings ≡ 0 = sym bound ∙ eqb-true c.bound_from-bound.result 0 both.1 in
          record {
            kept = passed-taken (is_kept_comment code bindings) _ _ _ _ from c.loop-number.invariant.kept (kept code bindings token none both.0) items
                ∙ ap (λ (n : ℕ). passed (is_kept_comment code bindings) node.first (number + n)) (one_passed _ _ _ none (omega arith) many);
            has = subst (All In) (sym items) (All-push In c.loop-number.comments.items (record { 0 = number }) c.loop-number.invariant.has has);
            from = omega arith;
            within = omega (arith, many);
          }
      | else-is_kept_comment w ↦
          let items = ap (λ v. v.items) w.comments-is in
          let plain =
          not_kept (is_comment (token_of code number).kind) c.bound_from-bound.result (bound_from code token bindings) bound
          (sym tested ∙ w.if-is_kept_comment.false) in
          record {
            kept = items ∙ passed-over (is_kept_comment code bindings) node.first number steps _ from c.loop-number.invariant.kept
                (λ n le lt. unkept code bindings token (record { 0 = n }) _ plain le (subst (λ (steps : ℕ). n < number + steps) many lt));
            has = subst (All In) (sym items) c.loop-number.invariant.has;
            from = omega arith;
            within = omega (arith, many);
          }
    ]

pub returns-clause-comments : goal.returns-clause-comments
unfolding kept_comments
returns-clause-comments c =
    let code = c.args.tree.now in
    let node = node_of code c.args.node.0 in
    let all : c.loop-number.number - node.first ≡ token_count node.children = omega arith in
    c.loop-number.invariant.kept
    ∙ ap (λ (n : ℕ). filter (is_kept_comment code c.args.bindings.now) (map (λ t. record { 0 = t }) (range_with_len node.first n))) all
