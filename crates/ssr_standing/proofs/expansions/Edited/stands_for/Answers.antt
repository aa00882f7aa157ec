use Rattle.std.proofs.Common.{◌∙◌, true, List, ap, map, refl, sym}
use Rattle.std.specs.Prelude.{Option, None, Some}
use Rattle.std.specs.Option.{option_map}
use Rattle.ssr_syntax_tree.specs.Syntax.{Syntax, source_of}
use Rattle.ssr_base_trees.specs.Changes.{Change}
use Rattle.ssr_base_trees.specs.Origins.{Span, span_of}
use Rattle.ssr_standing.specs.Expansions.{as_they_are, both_agree, read_with, stands_for}
use Rattle.ssr_standing.specs.Private.Expansions.{read_of}
use Rattle.ssr_standing.specs.Ranges.{old_place}
use Rattle.ssr_standing.proofs.Calls.{told_is, unchanged_stands}
use Rattle.ssr_standing.proofs.Spelled.{same_places}
use Rattle.ssr_standing.proofs.Standings.{if_ok_same}
use Rattle.ssr_standing.proofs.expansions.Edited.stands_for.Goals as goal

pub returns-then-not-is_changed-clause-answer : goal.returns-then-not-is_changed-clause-answer
returns-then-not-is_changed-clause-answer c =
    unchanged_stands c.args.self.now.file.now.trees.now c.args.self.now.file.now.number c.args.self.now.file.now.tree.now c.args.self.now.edit.now c.args.number
    c.is_changed.result c.is_changed.ensures.answer (cc)

pub returns-in_default-clause-answer : goal.returns-in_default-clause-answer
returns-in_default-clause-answer c =
    told_is c.args.self.now.file.now.trees.now c.args.self.now.file.now.number c.args.self.now.file.now.tree.now c.args.self.now.edit.now c.args.number
    c.is_changed.result true None None c.is_changed.ensures.answer (cc) c.in_default.ensures refl

pub read_with-requires : goal.read_with-requires
read_with-requires c =
    ap (map span_of) c.is_changed.ensures.places ∙ c.requires
    ∙ sym (ap (λ (cs : List Change). map old_place cs) c.args.self.now.unchanged ∙ same_places (source_of c.args.self.now.file.now.tree.now) c.args.self.now.edit.now)

pub read_with-requires-2 : goal.read_with-requires-2
read_with-requires-2 c = ap (map span_of) c.is_changed.ensures.places ∙ c.requires

pub returns-clause-answer : goal.returns-clause-answer
returns-clause-answer c =
    let w = c.args.self.now.file.now.trees.now in
    let n = c.args.self.now.file.now.number in
    let file = c.args.self.now.file.now.tree.now in
    let cs : List Change = c.args.self.now.edit.now in
    let t = c.args.number in
    let tree = c.in-Some.tree.now in
    let new : Option (Syntax × List Span) = option_map read_of c.in_ok-new.new in
    if_ok_same c.both_agree.result (both_agree (option_map read_of c.in_ok-old.old) new) (stands_for w n file cs t) c.both_agree.ensures
    (ap (λ (old : Option (Syntax × List Span)). both_agree old new)
    (c.in_ok-old.ensures ∙ ap (λ (cs : List Change). read_with w cs t tree) c.args.self.now.unchanged)
    ∙ ap (both_agree (read_with w (as_they_are file cs) t tree)) c.in_ok-new.ensures
    ∙ told_is w n file cs t c.is_changed.result true (Some tree) (Some tree) c.is_changed.ensures.answer (cc) c.in-Some.ensures refl)
