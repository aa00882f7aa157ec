use Rattle.std.proofs.Common.{◌≡◌, ◌∙◌, ℕ, List, [], ap, map, arith}
use Rattle.std.specs.Prelude.{None}
use Rattle.ssr_syntax_tree.specs.Syntax.{token_count}
use Rattle.ssr_base_trees.specs.Origins.{Span, plain_origin, span_of}
use Rattle.ssr_standing.specs.Expansions.{Spelled, change_of, opening, with_first}
use Rattle.ssr_standing.specs.Ranges.{old_place}
use Rattle.ssr_standing.specs.Private.Spelling.{shown}
use Rattle.ssr_standing.proofs.Spelled.{one_token, root_kind}
use Rattle.ssr_standing.proofs.expansions.spelled.Goals as goal

with_text : List ℕ → Spelled
with_text text = record { text = text; places = []; behind = None; change = None }

pub loop-token-init : goal.loop-token-init
unfolding with_text
loop-token-init c = record {
  so_far = c.in_ok-speller.ensures ∙ ap with_text (c.opening.ensures ∙ ap opening (c.kind.ensures ∙ root_kind c.args.tree.now));
  places = c.requires;
}

pub loop-token-preserved : goal.loop-token-preserved
unfolding with_text
loop-token-preserved c =
    let same : map span_of c.change_of-change.new.self.places.now ≡ map old_place c.args.edit.now =
    ap (map span_of) c.change_of-change.ensures.places ∙ c.loop-token.invariant.places in
    record {
      so_far =
          one_token c.args.trees.now c.args.edit.now c.args.number c.args.tree.now (with_text (opening c.args.tree.now.kind)) c.loop-token.token
          (shown c.loop-token.speller) (shown c.add.new.self) c.token_text.result.now (plain_origin c.origin_of-origin.result) c.change_of-change.result
          c.token_text.ensures c.origin_of-origin.ensures
          (c.change_of-change.ensures.answer
          ∙ ap (λ (ps : List Span). change_of ps (plain_origin c.origin_of-origin.result)) same)
          c.in_ok-add.ensures c.loop-token.invariant.so_far;
      places = same;
    }

pub returns : goal.returns
unfolding with_text
returns c =
    let same : c.loop-token.token ≡ token_count c.args.tree.now.children = omega arith in
    c.loop-token.invariant.so_far
    ∙ ap (with_first c.args.trees.now c.args.edit.now c.args.number c.args.tree.now (with_text (opening c.args.tree.now.kind))) same
