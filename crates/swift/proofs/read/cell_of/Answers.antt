use Rattle.std.proofs.Common.{◌∷◌, length, arith}
use Rattle.std.specs.Prelude.{replicate}
use Rattle.texts.proofs.Puts.{put_mid-put}
use Rattle.swift.proofs.Cells.{cell-made}
use Rattle.swift.proofs.read.cell_of.Goals as goal

pub returns : goal.returns
returns c =
    let t = c.args.t.now in
    cell-made t _ c.requires (put_mid-put (length t ∷ replicate 25 0) 1 t _ c.copy_from_slice.ensures.after (omega arith))
