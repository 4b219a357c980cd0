use mathlib.Core.Path.{refl, ap, ◌∙◌}
use Rattle.texts.specs.Refusals.{refusal_number}
use Rattle.sheets.specs.declared.sheet.Field.{Field}
use Rattle.rules.specs.declared.rules.RuleNumber.{RuleNumber}
use Rattle.report.proofs.Ending.{refused-short, impossible-short, broken-short, end-room, ok-line, ok-room, end-filled, end-impossible, end-broken, end_refused}
use Rattle.report.proofs.end.put_end.Goals as goal

pub put_line-requires : goal.put_line-requires
put_line-requires c = ok-line c.args.page.now c.requires _

pub put_fields-requires : goal.put_fields-requires
put_fields-requires c = ok-room c.args.page.now c.requires _ _ c.put_line.ensures

pub put_line-requires-in-Err-Impossible : goal.put_line-requires-in-Err-Impossible
put_line-requires-in-Err-Impossible c = end-room c.args.page.now c.requires _ (impossible-short _ _)

pub put_line-requires-in-Err-Broken : goal.put_line-requires-in-Err-Broken
put_line-requires-in-Err-Broken c = end-room c.args.page.now c.requires _ (broken-short _ _ _)

pub put_line-requires-in-Err-Refused : goal.put_line-requires-in-Err-Refused
put_line-requires-in-Err-Refused c = end-room c.args.page.now c.requires _ (refused-short _)

pub returns-in-Ok : goal.returns-in-Ok
returns-in-Ok c =
    let w = c.put_fields.ensures in end-filled c.args.page.now c.requires _ _ _ c.complete_draft.ensures _ _ _ _ c.in-Ok.is refl c.put_line.ensures w.0 w.1

pub returns-in-Err-Impossible : goal.returns-in-Err-Impossible
returns-in-Err-Impossible c =
    let i = c.in-Err-Impossible in
    end-impossible c.args.page.now c.requires _ _ _ c.complete_draft.ensures _ _ i.is _ _ _ c.number_of.ensures.0 i.field-0-is i.count-is
    c.put_line-in-Err-Impossible.ensures

pub returns-in-Err-Broken : goal.returns-in-Err-Broken
returns-in-Err-Broken c =
    let i = c.in-Err-Broken in
    end-broken c.args.page.now c.requires _ _ _ c.complete_draft.ensures _ _ i.is _ _ _ _ _ c.number_of-in-Err-Broken.ensures.0 i.field-0-is
    (c.from.ensures ∙ ap (λ (f : Field). f.0) i.field-is)
    (c.from-in-Err-Broken.ensures ∙ ap (λ (u : RuleNumber). u.0) i.rule-is)
    c.put_line-in-Err-Broken.ensures

pub returns-in-Err-Refused : goal.returns-in-Err-Refused
returns-in-Err-Refused c =
    let i = c.in-Err-Refused in
    end_refused c.args.page.now c.requires _ _ _ c.complete_draft.ensures _ _ i.is _ _ i.field-0-is
    (c.number_of-in-Err-Refused.ensures.0 ∙ ap refusal_number i.refusal-is)
    c.put_line-in-Err-Refused.ensures
