use Rattle.std.proofs.lemmas.Result.{err_from_is_err_and}
use Rattle.drafts.proofs.DraftPromises.{posts, post-unread, post-clash, post-newer, post-still}
use Rattle.drafts.proofs.draft.post.Goals as goal

pub returns-then-not-well_formed : goal.returns-then-not-well_formed
returns-then-not-well_formed c = search posts

pub returns-in_err-heading : goal.returns-in_err-heading
returns-in_err-heading c =
    let p = err_from_is_err_and c.from_residual.result c.from_residual.ensures.1 in
    rw (p.1, p.2) (post-unread _ _ c.type_inv.message _ c.well_formed-2.ensures c.if-not-well_formed.false _ c.read.ensures _ c.in_err-heading.was)

pub returns-in_err-standing : goal.returns-in_err-standing
returns-in_err-standing c =
    let p = err_from_is_err_and c.from_residual-in_err-standing.result c.from_residual-in_err-standing.ensures.1 in
    rw (p.1, p.2)
    (post-clash _ _ c.type_inv.message _ c.well_formed-2.ensures c.if-not-well_formed.false _ c.read.ensures _ c.in_ok-heading.was _ c.message_text-text.ensures _ c.slot_of-slot.ensures _ c.slot_in.ensures _ c.stands.ensures _ c.in_err-standing.was)

pub returns-then-eq : goal.returns-then-eq
returns-then-eq c =
    post-newer _ _ c.type_inv.message _ c.well_formed-2.ensures c.if-not-well_formed.false _ c.read.ensures _ c.in_ok-heading.was _ c.message_text-text.ensures _ c.slot_of-slot.ensures _ c.slot_in.ensures _ c.stands.ensures _ _ _ c.in_ok-standing.was c.eq.ensures c.if-eq.true c.put_text.ensures

pub returns-else-eq : goal.returns-else-eq
returns-else-eq c =
    post-still _ _ c.type_inv.message _ c.well_formed-2.ensures c.if-not-well_formed.false _ c.read.ensures _ c.in_ok-heading.was _ c.message_text-text.ensures _ c.slot_of-slot.ensures _ c.slot_in.ensures _ c.stands.ensures _ _ c.in_ok-standing.was c.eq.ensures c.if-eq.false
