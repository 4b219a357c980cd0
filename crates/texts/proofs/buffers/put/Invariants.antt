use Prim.Native.Nat.{◌≤◌}
use mathlib.Core.Path.{◌≡◌}
use lib.ListN.{length}
use lib.Seq.{paste}
use Rattle.texts.proofs.buffers.put.Given as goal

-- At the loop's head the first j bytes of `src` are in, which is `lib.Seq`'s `paste`.
abbrev pub invariant-loop-j : goal.invariant-loop-j
invariant-loop-j l = (l.j ≤ length l.src) × (l.dst ≡ paste l.initial.dst l.at l.src l.j) × (length l.dst ≡ length l.initial.dst)
