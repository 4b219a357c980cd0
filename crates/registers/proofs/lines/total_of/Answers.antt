use mathlib.Core.Path.{◌≡◌, refl, ap, ◌∙◌}
use mathlib.Core.List.{List}
use Prim.Native.Nat.{ℕ, ◌/◌, ◌+◌, ◌<◌}
use native.Mathlib.Omega.{arith}
use lib.ListN.{length}
use Rattle.registers.specs.Register.{line_of, total_of}
use Rattle.registers.specs.Working.Parts.{line_at}
use Rattle.registers.proofs.Registers.{total-next, total-most, lines-all, chunk_at}
use Rattle.registers.proofs.lines.total_of.Goals as goal
use Rattle.registers.proofs.lines.total_of.Goals.{After-kopecks_of-sum}

more : (c : After-kopecks_of-sum) → c.loop-line.line-index < length c.args.register.now / 20
more c = omega (arith, c.as_chunks.ensures.front_len, c.loop-line-test.true)

-- the kopecks of the line at hand
kopecks : (c : After-kopecks_of-sum) → c.kopecks_of-sum.result.0 ≡ (line_at c.args.register.now c.loop-line.line-index).1
kopecks c = c.kopecks_of-sum.ensures ∙ ap (λ (b : List ℕ). (line_of b).1) (chunk_at c.args.register.now _ c.as_chunks.ensures.front c.loop-line.line-index (more c) _)

pub loop-line-init : goal.loop-line-init
unfolding total_of
loop-line-init c = refl

pub overflow_add-sum : goal.overflow_add-sum
overflow_add-sum c =
    let t = c.args.register.now in
    let k = (goal.at.overflow_add-sum c).After-kopecks_of-sum in
    record { fits = omega (arith, c.loop-line.invariant, kopecks k, more k, total-next t c.loop-line.line-index (more k), total-most t c.requires (c.loop-line.line-index + 1) (omega (arith, more k))) }

pub loop-line-preserved : goal.loop-line-preserved
loop-line-preserved c =
    let k = (goal.at.loop-line-preserved c).After-kopecks_of-sum in
    omega (arith, c.loop-line.invariant, kopecks k, total-next c.args.register.now c.loop-line.line-index (more k))

pub returns : goal.returns
returns c =
    let t = c.args.register.now in
    let l = c.loop-line in
    let a = c.as_chunks.ensures.front_len in (
      l.invariant ∙ ap total_of (lines-all t l.line-index (omega (arith, a, c.loop-line-test.false))),
      omega (arith, l.invariant, total-most t c.requires l.line-index (omega (arith, a, l.auto.line-index-end))),
    )
