-- Fillings of a sheet, their order and their places (document 01, "Completion"), over any lists and any test. The first part, up to `FirstFilling`,
-- says what a filling, its place and the first filling are, without a search. The second, "all fillings, in order", computes the same by looking
-- through a list of all. That both agree is proved in proofs/First (`found_first`, `None-passes`, `none-all`).
use Rattle.std.specs.Prelude.{◌≡◌, ◌↔◌, Bool, true, false, not, cond, ◌&&◌, ℕ, suc, ◌+◌, ◌*◌, ◌<◌, ◌≤◌, ltb, length}
use mathlib.Core.List.{List, [], ◌∷◌, ◌++◌, map, Memᴰ}
use Rattle.texts.specs.Quoted.{Text}
use Rattle.texts.specs.Texts.{any, same, blank}
use Rattle.sheets.specs.Sheet.{Sheet, slots, slot_count, sheet_size, cell, cell_of, text_of}

-- The list of each slot: the texts that may be put into its field where it is blank; empty for a field that has none. Which they are for an order,
-- orders: Fillings says (`lists`). A sheet has a cell for each slot: 26 bytes, the text's length, the text, zero bytes (sheets: Sheet).
abbrev pub Lists : Type 0
Lists = ℕ → List Text

-- no text stands in a list twice
unfoldable pub distinct : List Text → Bool
distinct [] = true
distinct (t ∷ ts) = not (any (same t) ts) && distinct ts

-- a blank field that has a list
unfoldable pub to_fill : Lists → Sheet → ℕ → Bool
to_fill L s k = ltb 0 (length (L k)) && blank (text_of s k)

-- "A filling is the draft's sheet with one list entry put into every blank field that has a list, all other fields unchanged": what slot k of a
-- filling of s may hold, in the list's order
unfoldable pub choices : Lists → Sheet → ℕ → List (List ℕ)
choices L s k = cond (to_fill L s k) (map cell (L k)) (cell_of s k ∷ [])

-- f is a filling of s: it has a sheet's size, and in each slot one of the choices
pub record Filling (L : Lists) (s f : Sheet) : Type 0 where
  pub sized : length f ≡ sheet_size
  pub slot : (k : ℕ) → k < slot_count → Memᴰ (cell_of f k) (choices L s k)

-- how many entries of a list stand before x
abbrev pub entry_place : List (List ℕ) → List ℕ → ℕ
entry_place [] x = 0
entry_place (y ∷ ys) x = cond (same x y) 0 (suc (entry_place ys x))

-- "Of two fillings the earlier is the one with the earlier list entry in the first of these .. fields where they differ", in slot order:
-- no other field of a filling has a choice. Here g is the earlier and f the later; `at` is the first slot where they differ
pub record Earlier (L : Lists) (s g f : Sheet) : Type 0 where
  pub at : ℕ
  pub inside : at < slot_count
  pub same : (j : ℕ) → j < at → cell_of g j ≡ cell_of f j
  pub less : entry_place (choices L s at) (cell_of g at) < entry_place (choices L s at) (cell_of f at)

-- "a filling's place is one more than the number of earlier ones": n is the place of f. There is a list that holds each filling earlier than f,
-- and nothing else (`holds`), none of them twice (`once`)
pub record Place (L : Lists) (s f : Sheet) (n : ℕ) : Type 0 where
  pub list : List Sheet
  pub count : n ≡ suc (length list)
  pub holds : (g : Sheet) → Memᴰ g list ↔ (Filling L s g × Earlier L s g f)
  pub once : (a b c : List Sheet) (g : Sheet) → list ≡ a ++ (g ∷ (b ++ (g ∷ c))) → ⊥

-- as many as are listed, or one
abbrev pub width : Bool → ℕ → ℕ
width listed n = cond listed n 1

abbrev pub times : List ℕ → ℕ
times [] = 1
times (n ∷ ns) = n * times ns

-- "there are at most 22 × 12 × 2 × 2 = 1,056": where every field that has a list is blank
abbrev pub most_fillings : Lists → ℕ
most_fillings L = times (map (λ (k : ℕ). width (ltb 0 (length (L k))) (length (L k))) slots)

-- n is the number of all fillings of s: the list has each once; "there are at most .., and one if nothing is to be filled"
pub record All (L : Lists) (s : Sheet) (n : ℕ) : Type 0 where
  pub list : List Sheet
  pub count : n ≡ length list
  pub holds : (g : Sheet) → Memᴰ g list ↔ Filling L s g
  pub once : (a b c : List Sheet) (g : Sheet) → list ≡ a ++ (g ∷ (b ++ (g ∷ c))) → ⊥
  pub most : n ≤ most_fillings L
  pub one : ((k : ℕ) → to_fill L s k ≡ false) → n ≡ 1

-- t is the first filling of s that passes the test, and n is its place (demand 3)
pub record FirstFilling (L : Lists) (good : Sheet → Bool) (s t : Sheet) (n : ℕ) : Type 0 where
  pub filling : Filling L s t
  pub keeps : good t ≡ true
  -- "every field that was not blank unchanged"
  pub unchanged : (k : ℕ) → k < slot_count → blank (text_of s k) ≡ false → cell_of t k ≡ cell_of s k
  -- "the count is its place in the order"
  pub place : Place L s t n
  -- "no earlier filling keeps them"
  pub first : (g : Sheet) → Filling L s g → Earlier L s g t → good g ≡ false

-- ---- all fillings, in order

-- one of each list, the first list's varying slowest ("101 varies slowest, then 106, 108, 109": the order of their slots)
abbrev pub each : {A : Type 0} → List A → List (List A) → List (List A)
each [] rest = []
each {A} (x ∷ xs) rest = map (λ (r : List A). x ∷ r) rest ++ each xs rest

abbrev pub product : {A : Type 0} → List (List A) → List (List A)
product [] = [] ∷ []
product (c ∷ cs) = each c (product cs)

abbrev pub joined : {A : Type 0} → List (List A) → List A
joined [] = []
joined (x ∷ xs) = x ++ joined xs

unfoldable pub fillings : Lists → Sheet → List Sheet
fillings L s = map joined (product (map (choices L s) slots))

-- what looking through a list for the first that passes finds, n having been passed before: the place and what passes, or how
-- many there are
pub data Look (A : Type 0) : Type 0 where
  found : ℕ → A → Look A
  none : ℕ → Look A

unfoldable pub look : {A : Type 0} → (A → Bool) → ℕ → List A → Look A
look p n [] = none n
look p n (x ∷ xs) = cond (p x) (found (n + 1) x) (look p (n + 1) xs)

-- "the first filling that keeps all rules, the count of fillings up to and including it"
unfoldable pub first_filling : Lists → (Sheet → Bool) → Sheet → Look Sheet
first_filling L good s = look good 0 (fillings L s)
