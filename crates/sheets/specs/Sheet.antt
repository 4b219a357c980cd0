-- Fields and sheets (document 01, "Fields and messages", "Draft and sheet").
use Rattle.std.specs.Prelude.{Bool, not, cond, ◌&&◌, List, [], ◌∷◌, ◌++◌, ℕ, suc, ◌+◌, ◌-◌, ◌*◌, leb, eqb, length, get_or, replicate}
use Rattle.texts.specs.Quoted.{Text}
use Rattle.texts.specs.Texts.{between, blank, every, are}

infixl 80 ◌⟨◌⟩
-- "Fifteen fields, in slots 0 to 14"
abbrev pub fields : List ℕ
fields = 14 ∷ 15 ∷ 17 ∷ 22 ∷ 60 ∷ 61 ∷ 101 ∷ 102 ∷ 103 ∷ 104 ∷ 105 ∷ 106 ∷ 107 ∷ 108 ∷ 109 ∷ []

abbrev pub slot_count : ℕ
slot_count = length fields

abbrev pub slots : List ℕ
slots = 0 ∷ 1 ∷ 2 ∷ 3 ∷ 4 ∷ 5 ∷ 6 ∷ 7 ∷ 8 ∷ 9 ∷ 10 ∷ 11 ∷ 12 ∷ 13 ∷ 14 ∷ []

-- the place of the first x in a list, its length where there is none
abbrev pub place_of : ℕ → List ℕ → ℕ
place_of x [] = 0
place_of x (y ∷ ys) = cond (eqb x y) 0 (suc (place_of x ys))

-- the slot of a field, slot_count where the field is not listed; the field of a slot
unfoldable pub slot_of : ℕ → ℕ
slot_of f = place_of f fields

abbrev pub field_in : ℕ → ℕ
field_in k = get_or fields k 0

-- "A text has 0 to 25 bytes"
abbrev pub text_max : ℕ
text_max = 25

abbrev pub short : Text → Bool
short t = leb (length t) text_max

-- a cell, as a sheet's slot is one and a draft's ends in one: "text length, text padded to 25"
abbrev pub cell_size : ℕ
cell_size = 1 + text_max

unfoldable pub cell : Text → List ℕ
cell t = length t ∷ (t ++ replicate (text_max - length t) 0)

unfoldable pub cell_text : List ℕ → Text
cell_text c = between c 1 (1 + get_or c 0 0)

-- "Malformed: .. a length above 25, a nonzero pad byte"
unfoldable pub cell_ok : List ℕ → Bool
cell_ok c = leb (get_or c 0 0) text_max && every (are 0) (between c (1 + get_or c 0 0) cell_size)

-- "A sheet has 390 bytes, slot i at 26 × i"
abbrev pub Sheet : Type 0
Sheet = List ℕ

-- the sheet of texts, slot by slot
unfoldable pub cells : List Text → Sheet
cells [] = []
cells (t ∷ ts) = cell t ++ cells ts

abbrev pub sheet_size : ℕ
sheet_size = slot_count * cell_size

unfoldable pub cell_of : List ℕ → ℕ → List ℕ
cell_of s k = between s (k * cell_size) (k * cell_size + cell_size)

-- the text in slot k
unfoldable pub text_of : List ℕ → ℕ → Text
text_of s k = cell_text (cell_of s k)

unfoldable pub slot_ok : List ℕ → ℕ → Bool
slot_ok s k = cell_ok (cell_of s k)

abbrev pub well_formed : List ℕ → Bool
well_formed s = eqb (length s) sheet_size && every (slot_ok s) slots

-- the text of field f
unfoldable pub ◌⟨◌⟩ : List ℕ → ℕ → Text
s ⟨ f ⟩ = text_of s (slot_of f)

-- the field in slot k is not blank
unfoldable pub given : List ℕ → ℕ → Bool
given s k = not (blank (text_of s k))
