use mathlib.Core.Path.{◌≡◌, refl, sym}
use native.Mathlib.Numerals.{add-one}
use native.Mathlib.Omega.{arith}
use lib.ListN.{length, length-set}
use lib.Seq.{paste-zero, paste-suc, take-length}
use Rattle.texts.specs.Buffers.{put}
use Rattle.texts.proofs.Puts.{put-fits, put-not}
use Rattle.texts.proofs.buffers.put.Goals as goal
use Rattle.texts.proofs.buffers.put.Goals.{else-at-dst-via-then-at-dst+else-src-dst, else-at-dst-via-else-at-dst}

pub loop-j-init : goal.loop-j-init
loop-j-init c = let a = c.args in (omega arith, paste-zero a.dst.now a.at a.src.now, refl)

pub loop-j-preserved : goal.loop-j-preserved
loop-j-preserved c =
    let a = c.args in
    let step = paste-suc a.dst.now a.at a.src.now c.loop-j.j 0 (omega arith) (omega arith) in
    (omega arith, rw (c.loop-j.invariant.1, add-one) step, simp length-set (omega arith))

pub shape_of-dst : goal.shape_of-dst
shape_of-dst c = c.loop-j.invariant.2

pub returns-after-loop-j : goal.returns-after-loop-j
unfolding put
returns-after-loop-j c =
    let a = c.args in
    let e : c.loop-j.j ≡ length a.src.now = omega arith in
    rw (c.loop-j.invariant.1, e, put-fits a.dst.now a.at a.src.now (omega arith), take-length)

pub returns-else-at-dst : goal.returns-else-at-dst
returns-else-at-dst c =
    sym (put-not c.args.dst.now c.args.at c.args.src.now (elim c.else-at-dst.branch [ else-at-dst-via-then-at-dst+else-src-dst w ↦ omega arith | else-at-dst-via-else-at-dst w ↦ omega arith ]))
