-- What the account of a list of postings asks of a slot, what the test of a draft asks of it beside its cell, what `put_text` and `put_sheet`
-- leave, and which sizes a version takes.
use Rattle.std.specs.Prelude.{Bool, cond, not, ◌&&◌, List, ℕ, zero, suc, ◌+◌, ◌*◌, eqb, leb, length, get_or, true}
use Rattle.texts.specs.Working.Writing.{put_at}
use Rattle.sheets.specs.Sheet.{sheet_size, text_max}
use Rattle.drafts.specs.Revision.{known_party, rank}
use Rattle.drafts.specs.Message.{least_l, most_l}
use Rattle.drafts.specs.Draft.{cell_place, slot_size, draft_size, slot_in, slot_revision, slot_bytes, draft_sheet}
use Rattle.drafts.specs.declared.revision.Revision.{Revision}

-- the length of a slot's text, as its byte says
abbrev pub length_in : List ℕ → ℕ → ℕ
length_in d i = get_or d (i * slot_size + cell_place) 0

-- the rank of what a slot holds, by which a message's, `rank_of`, is measured
unfoldable pub slot_rank : List ℕ → ℕ
slot_rank s = rank (slot_revision s)

-- what a buffer that held s holds after the sheet of d was put into it: s where one of them has another size
unfoldable pub sheet_into : List ℕ → List ℕ → List ℕ
sheet_into d s = cond (eqb (length d) draft_size && eqb (length s) sheet_size) (draft_sheet d) s

-- what a draft d holds after the text t of the revision v was put into slot i: d where t is too long
unfoldable pub text_put : List ℕ → ℕ → Revision → List ℕ → List ℕ
text_put d i v t = cond (leb (length t) text_max) (put_at d (i * slot_size) (slot_bytes v t)) d

-- what stands before a slot's text fits it
unfoldable pub head_fits : List ℕ → Bool
head_fits s = cond (eqb (slot_revision s).number 0) (eqb (slot_revision s).party.0 0 && eqb (get_or s cell_place 0) 0) (known_party (slot_revision s).party.0)

-- and in the first n slots
unfoldable pub heads_fit : List ℕ → ℕ → Bool
heads_fit d zero = true
heads_fit d (suc n) = heads_fit d n && head_fits (slot_in d n)

-- whether a message of the version w may have n bytes, of those that one of either version may have
unfoldable pub takes : ℕ → ℕ → Bool
takes w n = cond (eqb w 2) (not (eqb n (least_l 1 + 2))) (not (eqb n (most_l 2 + 2)))
