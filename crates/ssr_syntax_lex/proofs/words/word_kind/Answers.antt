use Rattle.std.proofs.Common.{◌∙◌, arith}
use Rattle.ssr_syntax_lex.proofs.WordLaws.{first_is, kind_by_letter, kind_of_nothing}
use Rattle.ssr_syntax_lex.proofs.words.word_kind.Goals as goal

pub returns-in-None : goal.returns-in-None
returns-in-None c = kind_of_nothing c.args.word.now c.as_bytes.result.now c.as_bytes.ensures.value c.in-None.ensures.value

pub returns-in-Some-0-to-96 : goal.returns-in-Some-0-to-96
returns-in-Some-0-to-96 c =
    let arm = c.in-Some-0-to-96 in
    c.kind_before_a.ensures ∙ kind_by_letter 0 96 arm.field-0.now c.args.word.now c.as_bytes.result.now c.as_bytes.ensures.value arm.ensures.value (omega arith) (omega arith)

pub returns-in-Some-97-to-98 : goal.returns-in-Some-97-to-98
returns-in-Some-97-to-98 c =
    let arm = c.in-Some-97-to-98 in
    c.kind_from_a.ensures ∙ kind_by_letter 97 98 arm.field-0.now c.args.word.now c.as_bytes.result.now c.as_bytes.ensures.value arm.ensures.value (omega arith) (omega arith)

pub returns-in-Some-99-to-100 : goal.returns-in-Some-99-to-100
returns-in-Some-99-to-100 c =
    let arm = c.in-Some-99-to-100 in
    c.kind_from_c.ensures ∙ kind_by_letter 99 100 arm.field-0.now c.args.word.now c.as_bytes.result.now c.as_bytes.ensures.value arm.ensures.value (omega arith) (omega arith)

pub returns-in-Some-101-to-104 : goal.returns-in-Some-101-to-104
returns-in-Some-101-to-104 c =
    let arm = c.in-Some-101-to-104 in
    c.kind_from_e.ensures ∙ kind_by_letter 101 104 arm.field-0.now c.args.word.now c.as_bytes.result.now c.as_bytes.ensures.value arm.ensures.value (omega arith) (omega arith)

pub returns-in-Some-105-to-108 : goal.returns-in-Some-105-to-108
returns-in-Some-105-to-108 c =
    let arm = c.in-Some-105-to-108 in
    c.kind_from_i.ensures ∙ kind_by_letter 105 108 arm.field-0.now c.args.word.now c.as_bytes.result.now c.as_bytes.ensures.value arm.ensures.value (omega arith) (omega arith)

pub returns-in-Some-109-to-113 : goal.returns-in-Some-109-to-113
returns-in-Some-109-to-113 c =
    let arm = c.in-Some-109-to-113 in
    c.kind_from_m.ensures ∙ kind_by_letter 109 113 arm.field-0.now c.args.word.now c.as_bytes.result.now c.as_bytes.ensures.value arm.ensures.value (omega arith) (omega arith)

pub returns-in-Some-114-to-115 : goal.returns-in-Some-114-to-115
returns-in-Some-114-to-115 c =
    let arm = c.in-Some-114-to-115 in
    c.kind_from_r.ensures ∙ kind_by_letter 114 115 arm.field-0.now c.args.word.now c.as_bytes.result.now c.as_bytes.ensures.value arm.ensures.value (omega arith) (omega arith)

pub returns-in-Some-eq116 : goal.returns-in-Some-eq116
returns-in-Some-eq116 c =
    let arm = c.in-Some-eq116 in
    c.kind_from_t.ensures ∙ kind_by_letter 116 116 arm.field-0.now c.args.word.now c.as_bytes.result.now c.as_bytes.ensures.value arm.ensures.value (omega arith) (omega arith)

pub returns-in-Some-117-to-255 : goal.returns-in-Some-117-to-255
returns-in-Some-117-to-255 c =
    let arm = c.in-Some-117-to-255 in
    let first = first_is arm.field-0.now c.args.word.now c.as_bytes.result.now c.as_bytes.ensures.value arm.ensures.value in
    c.kind_from_u.ensures ∙ kind_by_letter 117 255 arm.field-0.now c.args.word.now c.as_bytes.result.now c.as_bytes.ensures.value arm.ensures.value (omega arith) (omega (arith, c.type_inv.word 0))
