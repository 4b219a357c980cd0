-- The revision in a slot's bytes, and the bytes of a slot.
use mathlib.Core.Path.{◌≡◌, refl, ap, ◌∙◌}
use mathlib.Core.List.{List, [], ◌∷◌, ◌++◌}
use Prim.Native.Nat.{ℕ, ◌+◌, ◌-◌, ◌≤◌}
use native.Mathlib.Omega.{arith}
use lib.ListN.{length, get_or, replicate}
use Rattle.texts.specs.Numbers.{big, bytes_of}
use Rattle.texts.specs.Buffers.{put}
use Rattle.texts.specs.Working.Writing.{put_at}
use Rattle.texts.proofs.Puts.{put_next, put-zeros}
use Rattle.sheets.specs.Sheet.{text_max, cell}
use Rattle.drafts.specs.Revision.{◌by◌}
use Rattle.drafts.specs.Message.{revision_size}
use Rattle.drafts.specs.Draft.{cell_place, slot_size, slot_revision, slot_bytes}
use Rattle.drafts.specs.declared.revision.Revision.{Revision}
use Rattle.drafts.proofs.Messages.{revision-is}

-- ---- the revision of a slot

pub slot_read : (s : List ℕ) (a b c d p n : ℕ) → a ≡ get_or s 0 0 → b ≡ get_or s 1 0 → c ≡ get_or s 2 0 → d ≡ get_or s 3 0 → p ≡ get_or s revision_size 0 → n ≡ big (a ∷ b ∷ c ∷ d ∷ [])
    → record { number = n; party = record { 0 = p } } ≡ slot_revision s
unfolding slot_revision
slot_read s a b c d p n ea eb ec ed ep en = revision-is (n by p) _ _ (en ∙ rw (ea, eb, ec, ed)) ep

-- ---- the bytes of a slot

-- the text begins behind the cell's length, a byte
pub slot-made : (v : Revision) (n : ℕ) (t d x y z : List ℕ) → length t ≤ text_max → n ≡ v.number → d ≡ bytes_of revision_size n → x ≡ put_at (replicate slot_size 0) 0 d
    → y ≡ put_at x revision_size (v.party.0 ∷ length t ∷ []) → z ≡ put_at y (cell_place + 1) t → z ≡ slot_bytes v t
unfolding slot_bytes cell put put_at
slot-made v n t d x y z l en ed ex ey ez =
    let o : List ℕ = replicate slot_size 0 in
    let s : List ℕ = bytes_of revision_size v.number ++ (v.party.0 ∷ length t ∷ []) in
    let fy : y ≡ put o 0 s = rw (ey, ex, ed, en) in
    let fz : z ≡ put o 0 (s ++ t) = ez ∙ put_next o s t y (cell_place + 1) refl (omega arith) fy in
    let k : slot_size ≡ cell_place + 1 + length t + (text_max - length t) = omega arith in
    let m : length (s ++ t) ≡ cell_place + 1 + length t = omega arith in
    fz ∙ ap (λ (j : ℕ). put (replicate j 0) 0 (s ++ t)) k ∙ put-zeros (s ++ t) (cell_place + 1 + length t) (text_max - length t) m
