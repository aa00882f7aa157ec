use Rattle.ssr_package.proofs.reading.Reading.read_here.Goals as goal

pub returns-in_err-add-in-Ok : goal.returns-in_err-add-in-Ok
returns-in_err-add-in-Ok g c =
    c.add.ensures _ c.read.ensures.kept (rw c.as_str-3.ensures.value at (rw c.in-Ok.is at c.in_ok-text.ensures.text))

pub returns-in_ok-add-in-Ok : goal.returns-in_ok-add-in-Ok
returns-in_ok-add-in-Ok g c =
    c.add.ensures _ c.read.ensures.kept (rw c.as_str-3.ensures.value at (rw c.in-Ok.is at c.in_ok-text.ensures.text))
