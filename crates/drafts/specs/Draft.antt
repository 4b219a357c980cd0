-- The draft (document 01, "Draft and sheet"; R-8).
use Rattle.std.specs.Prelude.{Bool, true, false, cond, not, ◌&&◌, List, [], ◌∷◌, ◌++◌, ℕ, zero, suc, ◌+◌, ◌*◌, eqb, length, get_or, replicate, Result, Ok, Err}
use Rattle.texts.specs.Quoted.{Text, bytes}
use Rattle.texts.specs.Texts.{between, same, blank}
use Rattle.texts.specs.Numbers.{big, bytes_of, bytes_at}
use Rattle.texts.specs.Buffers.{put}
use Rattle.texts.specs.Answers.{Answer, success, refusal, Test, ◌refuses◌, answer_by, buffer_by}
use Rattle.sheets.specs.Sheet.{slot_count, slot_of, cell_size, sheet_size, cell, cell_text, cell_ok}
use Rattle.drafts.specs.Revision.{known_party, ◌by◌, rank, comparison}
use Rattle.drafts.specs.Message.{revision_size, message_field, revision_of, message_text, read_tests}
use Rattle.drafts.specs.declared.revision.Revision.{Revision}
use Rattle.drafts.specs.declared.revision.Standing.{Standing}
use Rattle.drafts.specs.declared.revision.Standing.TheVariants.{Newer, Same, Older}
use Rattle.texts.specs.declared.answers.Refusal.{Refusal}
use Rattle.texts.specs.Refusals.{refusal_number}

-- a slot: "revision (4, big-endian, 0 = never given)", "a party byte after its revision", "text length (1), text padded with zero bytes to
-- 25": a sheet's cell ends it
abbrev pub cell_place : ℕ
cell_place = revision_size + 1

-- "it has 31 bytes and a draft 465"
abbrev pub slot_size : ℕ
slot_size = cell_place + cell_size

abbrev pub draft_size : ℕ
draft_size = slot_count * slot_size

unfoldable pub slot_in : List ℕ → ℕ → List ℕ
slot_in d i = between d (i * slot_size) (i * slot_size + slot_size)

unfoldable pub slot_revision : List ℕ → Revision
slot_revision s = big (bytes_at s 0 revision_size) by get_or s revision_size 0

unfoldable pub slot_cell : List ℕ → List ℕ
slot_cell s = between s cell_place slot_size

unfoldable pub slot_text : List ℕ → Text
slot_text s = cell_text (slot_cell s)

unfoldable pub slot_bytes : Revision → Text → List ℕ
slot_bytes v t = bytes_of revision_size v.number ++ (v.party.0 ∷ cell t)

-- the rank of a message is that of its revision and party; a slot that was never given has rank 0, which no readable message has
unfoldable pub rank_of : List ℕ → ℕ
rank_of m = rank (revision_of m)

-- the slot that holds the message m
unfoldable pub slot_with : List ℕ → List ℕ
slot_with m = slot_bytes (revision_of m) (message_text m)

-- "0 exactly if the revision is 0 and otherwise 1 or 2"
abbrev pub party_fits : Revision → Bool
party_fits v = cond (eqb v.number 0) (eqb v.party.0 0) (known_party v.party.0)

-- "Malformed: another size, a length above 25, a nonzero pad byte; in a draft also revision 0 with a text", and a party that does not fit
unfoldable pub slot_formed : List ℕ → Bool
slot_formed s = cell_ok (slot_cell s) && (party_fits (slot_revision s) && not (eqb (slot_revision s).number 0 && not (blank (slot_text s))))

-- the first n slots
unfoldable pub slots_formed : List ℕ → ℕ → Bool
slots_formed d zero = true
slots_formed d (suc n) = slots_formed d n && slot_formed (slot_in d n)

unfoldable pub draft_formed : List ℕ → Bool
draft_formed d = eqb (length d) draft_size && slots_formed d slot_count

-- "Fresh: all zero"; for fresh, size not 465
unfoldable pub fresh_draft : List ℕ
fresh_draft = replicate draft_size 0

unfoldable pub begin_tests : List ℕ → List Test
begin_tests d = (not (eqb (length d) draft_size) refuses 1) ∷ []

unfoldable pub beginning_of : List ℕ → Answer
beginning_of d = answer_by (begin_tests d) []

unfoldable pub begun_from : List ℕ → List ℕ
begun_from d = buffer_by (begin_tests d) fresh_draft d

abbrev pub begin_answer : Result Unit Refusal → Answer
begin_answer (Ok u) = success []
begin_answer (Err n) = refusal (refusal_number n) []

-- "Posting a message, by its revision against the slot's", and by the party
unfoldable pub slot_comparison : List ℕ → Revision → Text → Result Standing Refusal
slot_comparison s v t = comparison v (slot_revision s) (same (slot_text s) t)

-- how a message stands to the slot of its field
unfoldable pub comparison_of : List ℕ → List ℕ → Result Standing Refusal
comparison_of d m = slot_comparison (slot_in d (slot_of (message_field m))) (revision_of m) (message_text m)

abbrev pub clashes : Result Standing Refusal → Bool
clashes (Ok st) = false
clashes (Err n) = true

abbrev pub word : Result Standing Refusal → Text
word (Ok Newer) = bytes "newer"
word (Ok Same) = bytes "same"
word (Ok Older) = bytes "older"
word (Err n) = []

-- the draft afterwards, by how the message stands to its slot: "the last two change nothing"
abbrev pub draft_by : Result Standing Refusal → List ℕ → List ℕ → List ℕ
draft_by (Ok Newer) new old = new
draft_by (Ok Same) new old = old
draft_by (Ok Older) new old = old
draft_by (Err n) new old = old

unfoldable pub post_tests : List ℕ → List ℕ → List Test
post_tests d m = (not (draft_formed d) refuses 1) ∷ (read_tests m ++ ((clashes (comparison_of d m) refuses 6) ∷ []))

unfoldable pub posting_of : List ℕ → List ℕ → Answer
posting_of d m = answer_by (post_tests d m) (word (comparison_of d m))

-- the draft with the message in its field's slot
unfoldable pub stored : List ℕ → List ℕ → List ℕ
stored d m = put d (slot_of (message_field m) * slot_size) (slot_with m)

unfoldable pub posted_to : List ℕ → List ℕ → List ℕ
posted_to d m = buffer_by (post_tests d m) (draft_by (comparison_of d m) (stored d m) d) d

abbrev pub post_answer : Result Standing Refusal → Answer
post_answer (Ok Newer) = success (bytes "newer")
post_answer (Ok Same) = success (bytes "same")
post_answer (Ok Older) = success (bytes "older")
post_answer (Err n) = refusal (refusal_number n) []

-- "Copying a draft to a sheet drops the revisions; what it gives is the draft's sheet": the first n cells, and all 15
unfoldable pub cells : List ℕ → ℕ → List ℕ
cells d zero = []
cells d (suc n) = cells d n ++ slot_cell (slot_in d n)

unfoldable pub draft_sheet : List ℕ → List ℕ
draft_sheet d = cells d slot_count

-- "draft or sheet malformed", "output: a sheet not of 390"
unfoldable pub copy_tests : List ℕ → List ℕ → List Test
copy_tests d s = (not (draft_formed d) refuses 1) ∷ (not (eqb (length s) sheet_size) refuses 7) ∷ []

unfoldable pub copying_of : List ℕ → List ℕ → Answer
copying_of d s = answer_by (copy_tests d s) []

unfoldable pub copied_to : List ℕ → List ℕ → List ℕ
copied_to d s = buffer_by (copy_tests d s) (draft_sheet d) s

abbrev pub copy_answer : Result Unit Refusal → Answer
copy_answer (Ok u) = success []
copy_answer (Err n) = refusal (refusal_number n) []
