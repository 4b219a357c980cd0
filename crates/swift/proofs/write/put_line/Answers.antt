use Rattle.std.proofs.Common.{rules}
use Rattle.swift.proofs.Writing.{put-start, put-room, put-more, put-end}
use Rattle.swift.proofs.write.put_line.Goals as goal

pub loop-piece-init : goal.loop-piece-init
loop-piece-init c = let a = c.args in put-start a.out.now a.at a.pieces.now c.requires

pub overflow_add-behind : goal.overflow_add-behind
overflow_add-behind c =
    let a = c.args in
    let l = c.loop-piece in
    search (rules, put-room a.out.now a.at a.pieces.now c.requires l.piece-index l.behind l.out l.invariant)

pub loop-piece-preserved : goal.loop-piece-preserved
loop-piece-preserved c =
    let a = c.args in
    let l = c.loop-piece in
    put-more a.out.now a.at a.pieces.now c.requires l.piece-index l.behind l.out l.invariant _ _ (search rules) c.put.ensures

pub returns : goal.returns
returns c =
    let a = c.args in
    let l = c.loop-piece in
    put-end a.out.now a.at a.pieces.now c.requires l.piece-index l.behind l.out l.invariant _ (search rules) c.put-2.ensures
