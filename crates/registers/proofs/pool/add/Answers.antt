use mathlib.Core.Path.{ap, ◌∙◌}
use Prim.Native.Nat.{ℕ, ◌+◌, ◌*◌}
use native.Mathlib.Omega.{arith}
use Rattle.texts.specs.Numbers.{bytes_of}
use Rattle.texts.specs.Working.Writing.{put_at}
use Rattle.texts.proofs.Puts.{put-fits}
use Rattle.registers.specs.Working.Parts.{big_at}
use Rattle.registers.proofs.pool.add.Goals as goal

pub returns : goal.returns
returns c =
    let o = c.args.output.now in
    let at = c.args.place * 20 + 12 in
    c.put.ensures
    ∙ ap (put_at o at) (c.bytes_of.ensures ∙ ap (λ (k : ℕ). bytes_of 8 (k + c.args.kopecks.0)) c.number_at.ensures)
    ∙ put-fits o at (bytes_of 8 (big_at o at + c.args.kopecks.0)) (omega (arith, c.requires.0))
