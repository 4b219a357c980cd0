use mathlib.Core.Path.{◌≡◌, refl, ◌∙◌}
use Rattle.swift.specs.Lines.{sheet_with, parts_of}
use Rattle.swift.specs.Promises.{read_answer, read_tests}
use Rattle.swift.proofs.Reading.{reading, read_out, is-marked-long, fits-as}
use Rattle.swift.proofs.read.read_lines.Goals as goal

pub returns-then-sheet-ne-SHEET_SIZE : goal.returns-then-sheet-ne-SHEET_SIZE
unfolding read_answer read_tests
returns-then-sheet-ne-SHEET_SIZE c = search (reading, read_out 0)

pub returns-then-not-has_marks : goal.returns-then-not-has_marks
unfolding read_answer read_tests
returns-then-not-has_marks c = search (reading, read_out 1)

pub put_bank_texts-requires : goal.put_bank_texts-requires
put_bank_texts-requires c = (refl, (is-marked-long c.args.block.now _ c.has_marks.ensures c.if-not-has_marks.false-raw).0)

pub put_payee_texts-requires : goal.put_payee_texts-requires
put_payee_texts-requires c =
    let n = is-marked-long c.args.block.now _ c.has_marks.ensures c.if-not-has_marks.false-raw in
    (c.put_bank_texts.ensures, n.0, n.1)

pub returns-then-not-is_fit : goal.returns-then-not-is_fit
unfolding read_answer read_tests
returns-then-not-is_fit c =
    let f = fits-as _ _ c.has_marks.ensures c.if-not-has_marks.false-raw _ c.put_payee_texts.ensures _ c.is_fit.ensures _ c.if-not-is_fit.true-raw in
    search (reading, read_out 1)

pub returns : goal.returns
unfolding read_answer read_tests
returns c =
    let f = fits-as _ _ c.has_marks.ensures c.if-not-has_marks.false-raw _ c.put_payee_texts.ensures _ c.is_fit.ensures _ c.if-not-is_fit.false-raw in
    let w : c.copy_from_slice.new.self ≡ sheet_with (parts_of c.args.block.now) = c.copy_from_slice.ensures.after ∙ c.put_payee_texts.ensures in
    search (reading, read_out 2)
