use Rattle.swift.proofs.Writing.{not-formed, not-dated, not-kept, other-class, too-short, room_for, write-whole}
use Rattle.swift.proofs.write.write_lines.Goals as goal

pub returns-then-not-well_formed : goal.returns-then-not-well_formed
returns-then-not-well_formed c = not-formed _ _ _ _ c.well_formed-2.ensures c.if-not-well_formed.true

pub returns-then-not-are_fit : goal.returns-then-not-are_fit
returns-then-not-are_fit c = not-dated _ _ _ _ c.well_formed-2.ensures c.if-not-well_formed.false _ c.are_fit.ensures c.if-not-are_fit.true

pub returns-in-Some : goal.returns-in-Some
returns-in-Some c =
    not-kept _ _ _ _ c.well_formed-2.ensures c.if-not-well_formed.false _ c.are_fit.ensures c.if-not-are_fit.false _ c.facts_of-facts.ensures.0 _ c.broken.ensures.0 _ c.in-Some.is _ (assumption)

pub returns-then-not-is_class_a : goal.returns-then-not-is_class_a
returns-then-not-is_class_a c =
    other-class _ _ _ _ c.well_formed-2.ensures c.if-not-well_formed.false _ c.are_fit.ensures c.if-not-are_fit.false _ c.facts_of-facts.ensures.0 _ c.broken.ensures.0 c.in_default.is
    _ c.is_class_a.ensures.0 c.if-not-is_class_a.true

pub returns-then-buffer-text : goal.returns-then-buffer-text
returns-then-buffer-text c =
    too-short _ _ _ _ c.well_formed-2.ensures c.if-not-well_formed.false _ c.are_fit.ensures c.if-not-are_fit.false _ c.facts_of-facts.ensures.0 _ c.broken.ensures.0 c.in_default.is
    _ c.is_class_a.ensures.0 c.if-not-is_class_a.false _ c.text.ensures c.if-buffer-text.true

pub put_lines-requires : goal.put_lines-requires
put_lines-requires c =
    room_for _ _ c.args.buffer.now _ c.well_formed-2.ensures c.if-not-well_formed.false _ c.are_fit.ensures c.if-not-are_fit.false _ c.facts_of-facts.ensures.0 _ c.broken.ensures.0 c.in_default.is
    _ c.is_class_a.ensures.0 c.if-not-is_class_a.false _ c.text.ensures c.if-buffer-text.false

pub returns : goal.returns
returns c =
    write-whole _ _ _ _ c.well_formed-2.ensures c.if-not-well_formed.false _ c.are_fit.ensures c.if-not-are_fit.false _ c.facts_of-facts.ensures.0 _ c.broken.ensures.0 c.in_default.is
    _ c.is_class_a.ensures.0 c.if-not-is_class_a.false _ c.text.ensures c.if-buffer-text.false _ _ c.put_lines.ensures
