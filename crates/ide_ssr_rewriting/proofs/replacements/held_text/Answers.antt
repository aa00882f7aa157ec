use Rattle.std.proofs.Common.{◌∙◌, List, ℕ, ap, arith, subst, sym}
use Rattle.std.specs.Prelude.{Option, option_map, slice_range}
use Rattle.std.proofs.lemmas.Bool.{eqb-true}
use Rattle.ssr_base_trees.specs.declared.ids.FileRange.{FileRange}
use Rattle.ssr_base_trees.specs.Workspace.{file_span_of}
use Rattle.ide_ssr_rewriting.specs.Clashes.{Rewrite}
use Rattle.ide_ssr_rewriting.specs.Private.Replacements.{IsOf}
use Rattle.ide_ssr_rewriting.specs.Replacements.{held_text, rewritten}
use Rattle.ide_ssr_rewriting.proofs.Fittings.{empty_held}
use Rattle.ide_ssr_rewriting.proofs.Whole.{whole_held}
use Rattle.ide_ssr_rewriting.proofs.Written.{begins_between, ends_between, of_range}
use Rattle.ide_ssr_rewriting.proofs.replacements.held_text.Goals as goal

pub between-held-requires : goal.between-held-requires
between-held-requires c =
    let w = c.args.workspace.now in
    let range = c.in-Some.range in
    let list = c.args.list.items in
    let is = of_range w range c.args.range list c.in-Some.is c.requires in
    record {
      from = begins_between w range list is c.file_text-text.result.now c.file_text-text.ensures;
      to = ends_between w range list is c.file_text-text.result.now c.file_text-text.ensures;
    }

pub returns-then-is_empty : goal.returns-then-is_empty
returns-then-is_empty c =
    let range = c.in-Some.range in
    c.between-held.ensures ∙ ap (λ (text : List ℕ). slice_range text range.range.start range.range.end) c.file_text-text.ensures
    ∙ empty_held c.args.workspace.now c.args.front.now range c.args.range c.args.list.items c.in-Some.is
    (omega (arith, c.args.list.ok.0, eqb-true c.args.list.len 0 (sym c.is_empty.ensures ∙ c.if-is_empty.true)))

pub returns-in-Ok : goal.returns-in-Ok
returns-in-Ok c =
    let w = c.args.workspace.now in
    let front : List ℕ = c.args.front.now in
    let list : List Rewrite = c.args.list.items in
    whole_held w front (file_span_of c.in-Some.range) list c.in-Ok.whole c.in-Ok.ensures.whole.0 c.in-Ok.ensures.whole.1
    ∙ ap (λ (o : Option FileRange). held_text w front (option_map file_span_of o) list) (sym c.in-Some.is)

pub rewritten-requires : goal.rewritten-requires
rewritten-requires c =
    let w = c.args.workspace.now in
    subst (IsOf w (file_span_of c.in-Some.range)) (sym c.in-Err.ensures.list)
    (of_range w c.in-Some.range c.args.range c.args.list.items c.in-Some.is c.requires)

pub returns-in_ok-made-in-Err : goal.returns-in_ok-made-in-Err
returns-in_ok-made-in-Err c =
    let w = c.args.workspace.now in
    let front : List ℕ = c.args.front.now in
    c.in_ok-made-in-Err.ensures
    ∙ ap (rewritten w front (file_span_of c.in-Some.range)) c.in-Err.ensures.list
    ∙ ap (λ (o : Option FileRange). held_text w front (option_map file_span_of o) c.args.list.items) (sym c.in-Some.is)
