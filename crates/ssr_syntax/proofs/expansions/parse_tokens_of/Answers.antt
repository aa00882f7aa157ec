use Rattle.std.proofs.Common.{◌∙◌, ap}
use Rattle.std.specs.Prelude.{string_bytes}
use Rattle.ssr_syntax.specs.Expansions.{expansion_text, expansion_reading_of}
use Rattle.ssr_syntax.specs.Reading.{Answers}
use Rattle.ssr_syntax.specs.Private.Reading.{IsCut}
use Rattle.ssr_syntax_rows.specs.SolidKinds.{solid_kinds}
use Rattle.ssr_syntax.proofs.Texts.{told_on}
use Rattle.ssr_syntax.proofs.ExpansionTokens.{expansion_cut}
use Rattle.ssr_syntax.proofs.ExpansionLaws.{expansion_answers, expansion_complete, expansion_too_long, expansion_fault, expansion_given}
use Rattle.ssr_syntax.proofs.expansions.parse_tokens_of.Goals as goal
use Rattle.ssr_syntax.proofs.expansions.parse_tokens_of.Goals.{In_ok-solid, After-read_solid}

pub returns-in_err-check_length-clause-answers : goal.returns-in_err-check_length-clause-answers
returns-in_err-check_length-clause-answers c =
    let text = expansion_text c.args.tokens.now in
    told_on c.in_err-check_length.field-0.0 c.from_residual.result (expansion_reading_of c.args.reach c.args.kind c.args.tokens.now) text
    c.from_residual.ensures.0 c.from_residual.ensures.1
    (expansion_too_long c.args.reach c.args.kind c.args.tokens.now c.in_err-check_length.field-0.0 c.in_err-check_length.ensures.long)

pub returns-in_err-gathered-clause-answers : goal.returns-in_err-gathered-clause-answers
returns-in_err-gathered-clause-answers c =
    let text = expansion_text c.args.tokens.now in
    told_on c.in_err-gathered.field-0.0 c.from_residual-in_err-gathered.result (expansion_reading_of c.args.reach c.args.kind c.args.tokens.now) text
    c.from_residual-in_err-gathered.ensures.0 c.from_residual-in_err-gathered.ensures.1
    (expansion_fault c.args.reach c.args.kind c.args.tokens.now c.in_err-gathered.field-0.0 c.in_ok-check_length.ensures.short c.in_err-gathered.ensures)

-- the text is cut into the tokens
cut_is : (c : In_ok-solid) → IsCut (string_bytes c.in_ok-gathered.gathered.text) c.in_ok-gathered.gathered.rows c.in_ok-solid.solid.items c.in_ok-gathered.ensures.0
cut_is c =
    let g = c.in_ok-gathered.ensures in
    expansion_cut c.args.tokens.now (string_bytes c.in_ok-gathered.gathered.text) c.in_ok-gathered.gathered.rows
    c.in_ok-gathered.gathered.kinds.items c.in_ok-solid.solid.items g.0 g.1.0 g.1.1 g.1.2 g.1.3
    (c.in_ok-solid.ensures ∙ ap solid_kinds c.deref.ensures.value)

pub read_solid-requires-clause-cut : goal.read_solid-requires-clause-cut
read_solid-requires-clause-cut c = (c.in_ok-gathered.ensures.0, cut_is (goal.at.read_solid-requires-clause-cut c).In_ok-solid)

-- the tokens are read as the text that they spell
reads : (c : After-read_solid) → Answers c.read_solid.result (expansion_reading_of c.args.reach c.args.kind c.args.tokens.now) (expansion_text c.args.tokens.now)
reads c =
    let g = c.in_ok-gathered.ensures in
    expansion_given c.args.reach c.args.kind c.args.tokens.now c.goal.result (string_bytes c.in_ok-gathered.gathered.text) g.0 c.read_solid.result
    c.in_ok-check_length.ensures.short g.1.0 c.goal.ensures g.1.1
    (c.read_solid.ensures g.0 (cut_is (goal.at.returns-clause-answers c).In_ok-solid))

pub returns-clause-answers : goal.returns-clause-answers
returns-clause-answers c = reads (goal.at.returns-clause-answers c).After-read_solid

pub returns-clause-sound : goal.returns-clause-sound
returns-clause-sound c =
    expansion_answers c.args.reach c.args.kind c.args.tokens.now c.read_solid.result (reads (goal.at.returns-clause-sound c).After-read_solid)

pub returns-clause-complete : goal.returns-clause-complete
returns-clause-complete c syntax short fits =
    expansion_complete c.args.reach c.args.kind c.args.tokens.now syntax c.read_solid.result short fits (reads (goal.at.returns-clause-complete c).After-read_solid)
