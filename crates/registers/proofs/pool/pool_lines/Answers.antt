use mathlib.Core.Path.{◌≡◌, ap, ◌∙◌}
use mathlib.Core.List.{List}
use Prim.Native.Nat.{ℕ, ◌/◌, ◌*◌, ◌<◌}
use native.Mathlib.Omega.{arith}
use lib.ListN.{length, take, drop, get_or}
use Rattle.texts.specs.Texts.{number}
use Rattle.registers.specs.Register.{line_of}
use Rattle.texts.specs.Working.Writing.{put_at}
use Rattle.registers.specs.Working.Parts.{line_at}
use Rattle.registers.proofs.Registers.{chunk_at}
use Rattle.registers.proofs.Outputs.{none_yet, all-pooled, Turn, add-asked, sum-grown, line-copied}
use Rattle.registers.proofs.pool.pool_lines.Goals as goal
use Rattle.registers.proofs.pool.pool_lines.Goals.{In-loop-line, After-place_of, in-Some, in-None}

more : (c : In-loop-line) → c.loop-line.line-index < length c.args.register.now / 20
more c = omega (arith, c.as_chunks.ensures.front_len, c.loop-line-test.true)

-- the bytes of the line at hand
bytes : (c : In-loop-line) (d : List ℕ) → get_or c.as_chunks.result.0.now c.loop-line.line-index d ≡ take 20 (drop (c.loop-line.line-index * 20) c.args.register.now)
bytes c d = chunk_at c.args.register.now _ c.as_chunks.ensures.front c.loop-line.line-index (more c) d

kopecks : (c : In-loop-line) (d : List ℕ) → (line_of (get_or c.as_chunks.result.0.now c.loop-line.line-index d)).1 ≡ (line_at c.args.register.now c.loop-line.line-index).1
kopecks c d = ap (λ (b : List ℕ). (line_of b).1) (bytes c d)

-- what is known where the INN was looked for
turn : (c : After-place_of) → Turn c.args.register.now c.args.output.now c.loop-line.line-index c.loop-line.inns.count c.loop-line.inns.numbers c.loop-line.output c.number-inn.result c.place_of.result
turn c = record {
  before = c.loop-line.invariant;
  more = omega (arith, c.as_chunks.ensures.front_len, c.loop-line-test.true);
  inn = c.number-inn.ensures.value (omega arith) ∙ ap (number 12) (c.inn_of.ensures ∙ ap (take 12) (chunk_at c.args.register.now _ c.as_chunks.ensures.front c.loop-line.line-index (omega (arith, c.as_chunks.ensures.front_len, c.loop-line-test.true)) _));
  finds = c.place_of.ensures;
}

pub loop-line-init : goal.loop-line-init
loop-line-init c = none_yet _ _ _ _ c.requires c.none-inns.ensures.0 c.none-inns.ensures.1

pub add-requires : goal.add-requires
add-requires c = add-asked (turn (goal.at.add-requires c).After-place_of) c.in-Some.place c.in-Some.is c.kopecks_of.result.0 (c.kopecks_of.ensures ∙ kopecks (goal.at.add-requires c).In-loop-line _)

pub loop-line-preserved : goal.loop-line-preserved
loop-line-preserved c =
    let l = c.loop-line in
    let t = turn (goal.at.loop-line-preserved c).After-place_of in
    let k = (goal.at.loop-line-preserved c).In-loop-line in
    elim c.match-place_of.branch [
      | in-Some w ↦ rw (w.inns-is, w.output-is) (sum-grown t w.in-Some.place w.in-Some.is w.kopecks_of.result.0 _ (w.kopecks_of.ensures ∙ kopecks k _) w.add.ensures)
      | in-None w ↦ rw (w.inns-is, w.output-is, w.push.ensures.0, w.push.ensures.1)
          (line-copied t w.in-None.is (λ j. (c.type_inv.register j).fits) _ (w.put.ensures ∙ ap (put_at l.output (l.inns.count * 20)) (bytes k _)))
    ]

pub returns : goal.returns
returns c = all-pooled c.loop-line.invariant (omega (arith, c.as_chunks.ensures.front_len, c.loop-line-test.false))
