use Rattle.std.proofs.Common.{◌≡◌, ◌∙◌, ap, sym, subst, false, Some}
use Rattle.std.specs.Prelude.{option_map}
use Rattle.std.specs.Option.{option_copied}
use Rattle.ssr_syntax_tree.specs.Places.{node_of, parts_of}
use Rattle.ssr_syntax_tree.specs.declared.number.NodeNo.{NodeNo}
use Rattle.ide_ssr_search.specs.Private.Words.{first_text, node_behind, MatchesByChildren}
use Rattle.ide_ssr_search.proofs.Asked.{root_node}
use Rattle.ide_ssr_search.proofs.AskedWords.{word_of_root}
use Rattle.ide_ssr_search.proofs.words.word_asked.Goals as goal

pub returns : goal.returns
returns c =
    let rule = c.args.rule.now in
    let lent = c.pattern-pattern.result.now in
    let below = c.in_ok-behind.behind.0 in
    let root_is = root_node rule.pattern in
    word_of_root rule (node_of rule.pattern below) (option_copied c.first_text.result)
    (subst (MatchesByChildren rule) root_is (c.is_by_children.ensures c.if-not-is_by_children.false))
    (subst (λ p. node_behind false (parts_of p) ≡ Some (node_of rule.pattern below)) root_is
    (subst (λ s. node_behind false (parts_of (node_of s 0)) ≡ Some (node_of s below)) c.pattern-pattern.ensures
    (sym c.node_behind.ensures.is ∙ ap (option_map (λ (n : NodeNo). node_of lent n.0)) c.in_ok-behind.was)))
    (c.is_by_children-2.ensures c.if-not-is_by_children-2.false)
    (c.first_text.ensures ∙ ap (λ s. first_text (parts_of (node_of s below))) c.pattern-pattern.ensures)
