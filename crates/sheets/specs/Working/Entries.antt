-- The entries that completion puts into the blank fields 101, 106, 108 and 109, a sheet with one put in, and the facts of such a sheet.
use Rattle.std.specs.Prelude.{◌≡◌, Bool, not, cond, ◌&&◌, List, [], ◌∷◌, ℕ, ◌+◌, ◌*◌, leb, length, get_or}
use Rattle.texts.specs.Quoted.{Text}
use Rattle.texts.specs.Texts.{blank}
use Rattle.texts.specs.Working.Writing.{put_at}
use Rattle.sheets.specs.Sheet.{Sheet, cell, cell_size, text_of}
use Rattle.sheets.specs.Lists.{zero_texts, basis_texts}
use Rattle.sheets.specs.Dates.{texts_in}
use Rattle.sheets.specs.Working.Facts.{standing_of, basis_of, document_of, day_of, Read}
use Rattle.sheets.specs.declared.dates.Dates.{Dates}
use Rattle.sheets.specs.declared.dates.Force.{Force}
use Rattle.sheets.specs.declared.facts.Standing.{Standing}
use Rattle.sheets.specs.declared.facts.Basis.{Basis}
use Rattle.sheets.specs.declared.facts.Document.{Document}
use Rattle.sheets.specs.declared.facts.Day.{Day}
use Rattle.sheets.specs.declared.facts.Facts.{Facts}

-- how many entries the lists of 106, and of 108 and 109 have
abbrev pub basis_count : ℕ
basis_count = length basis_texts

abbrev pub zero_count : ℕ
zero_count = length zero_texts

-- how the code keeps an entry: its length and two bytes
unfoldable pub row_of : Text → List ℕ
row_of t = length t ∷ get_or t 0 0 ∷ get_or t 1 0 ∷ []

-- a sheet with the cell x in slot k, if that is blank
unfoldable pub filled_at : Sheet → ℕ → List ℕ → Sheet
filled_at s k x = cond (blank (text_of s k)) (put_at s (k * cell_size) x) s

-- where entry k of the list in force stands among all statuses: 02 is the second of these, 32 and 33 are the last
abbrev pub past02 : Force → ℕ → ℕ
past02 F k = k + cond (leb 1 k && not F.s02) 1 0

unfoldable pub place_in : Force → ℕ → ℕ
place_in F k = past02 F k + cond (leb 21 (past02 F k) && not F.s32) 1 0

unfoldable pub count_in : Force → ℕ
count_in F = 20 + cond F.s02 1 0 + cond F.s32 1 0 + cond F.s33 1 0

-- the facts of a field with entry k of its list, where the field is blank
abbrev pub status_at : Facts → ℕ → Standing
status_at f k = cond f.status.blank (standing_of f.force (get_or (texts_in f.force) k [])) f.status

abbrev pub basis_at : Facts → ℕ → Basis
basis_at f k = cond f.basis.blank (basis_of (get_or basis_texts k [])) f.basis

abbrev pub document_at : Facts → ℕ → Document
document_at f k = cond f.document.blank (document_of (get_or zero_texts k [])) f.document

abbrev pub day_at : Facts → ℕ → Day
day_at f k = cond f.day.blank (day_of (get_or zero_texts k [])) f.day

-- facts with those of the four fields that a filling can vary
abbrev pub with_all : Facts → Standing → Basis → Document → Day → Facts
with_all f a b c d = record { banking = f.banking; parties = f.parties; classifiers = f.classifiers; force = f.force; status = a; basis = b; document = c; day = d }

-- the facts g with those of one field, as f has it with entry k
abbrev pub with_status : Facts → Facts → ℕ → Facts
with_status g f k = with_all g (status_at f k) g.basis g.document g.day

abbrev pub with_basis : Facts → Facts → ℕ → Facts
with_basis g f k = with_all g g.status (basis_at f k) g.document g.day

abbrev pub with_document : Facts → Facts → ℕ → Facts
with_document g f k = with_all g g.status g.basis (document_at f k) g.day

abbrev pub with_day : Facts → Facts → ℕ → Facts
with_day g f k = with_all g g.status g.basis g.document (day_at f k)

-- b is whether the text in slot j is blank, of each sheet that f was read of
abbrev pub TellsBlank : Facts → ℕ → Bool → Type 0
TellsBlank f j b = (D : Dates) (s : Sheet) → Read D f s → b ≡ blank (text_of s j)

-- r are the facts of a sheet t, which g was read of, with entry k of a list in slot j, where f was read of a sheet that has the same text there
abbrev pub FillsSlot : Facts → Facts → ℕ → List Text → ℕ → Facts → Type 0
FillsSlot g f j ts k r = (D : Dates) (s t : Sheet) → Read D f s → Read D g t → text_of t j ≡ text_of s j → Read D r (filled_at t j (cell (get_or ts k [])))
