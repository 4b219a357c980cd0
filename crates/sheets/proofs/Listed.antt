-- The facts of a list's entry, read off the code's tables.
use mathlib.Core.Path.{◌≡◌, refl, ap, sym, ◌∙◌}
use mathlib.Core.Bool.{Bool, true, false, not, ◌&&◌}
use mathlib.Core.List.{List, [], ◌∷◌, map}
use Prim.Native.Nat.{ℕ, zero, suc, ◌+◌, ◌-◌, ◌/◌, ◌%◌, ◌≤◌, ◌<◌}
use native.Mathlib.Decide.{dec_lt}
use native.Mathlib.Omega.{arith}
use borrow.Author.Tests.{le-leb, le-ltb, ne_eqb, not-true}
use Rattle.texts.proofs.Codes.{same_true}
use lib.Dec.{leb, ltb, eqb}
use lib.ListN.{length, get_or, get_or-append, get_or-eq_default}
use lib.Seq.{get_or-append-add}
use Rattle.std.specs.Int.{from_bool}
use Rattle.texts.specs.Quoted.{Text, words}
use Rattle.texts.specs.Texts.{every, any, same, between, value_of, value, number, ◌is_one_of◌}
use Rattle.sheets.specs.Forms.{person, document, pension, date}
use Rattle.sheets.specs.Lists.{statuses, letter_pairs, basis_texts, zero_texts}
use Rattle.sheets.specs.Working.Entries.{basis_count, zero_count, row_of, place_in, count_in}
use Rattle.sheets.specs.Working.Facts.{numbers_of, standing_by, standing_of, basis_of, document_of, day_of, facts_by, Read}
use Rattle.sheets.specs.Dates.{force_of, texts_in, status_texts, status_count}
use Rattle.sheets.specs.Sheet.{Sheet}
use Rattle.sheets.specs.declared.dates.Dates.{Dates}
use Rattle.sheets.specs.declared.facts.Facts.{Facts}
use Rattle.sheets.specs.declared.facts.Standing.{Standing}
use Rattle.sheets.specs.declared.facts.Basis.{Basis}
use Rattle.sheets.specs.declared.facts.Document.{Document}
use Rattle.sheets.specs.declared.facts.Day.{Day}
use Rattle.sheets.specs.declared.dates.Force.{Force}
use Rattle.sheets.proofs.InForce.{listed-entry, each_place, every_in, entry_in, one-if, count-is, count-bounds, places-in}
use Rattle.sheets.proofs.Ways.{standing-is}

-- what a table of values holds at a place within it, and a list of texts past its end
pub in_list : {A : Type 0} (g : Text → A) (d : A) (ts : List Text) (k : ℕ) → k < length ts → get_or (map g ts) k d ≡ g (get_or ts k [])
in_list g d [] k h = absurd (omega arith)
in_list g d (t ∷ ts) zero h = refl
in_list g d (t ∷ ts) (suc k) h = in_list g d ts k (omega arith)

-- and the same at any place, where past the end stands what is made of the blank
pub mapped : {A : Type 0} (g : Text → A) (ts : List Text) (k : ℕ) → get_or (map g ts) k (g []) ≡ g (get_or ts k [])
mapped g [] k = refl
mapped g (t ∷ ts) zero = refl
mapped g (t ∷ ts) (suc k) = mapped g ts k

past-list : (ts : List Text) (k : ℕ) → length ts ≤ k → [] ≡ get_or ts k []
past-list ts k h = sym (get_or-eq_default ts [] h)

-- ---- the facts of an entry: of 101 by its number, of the others by their place

pub status-past : (F : Force) (k n : ℕ) (r : Standing) → n ≡ count_in F → n ≤ k → r ≡ standing_of F [] → r ≡ standing_of F (get_or (texts_in F) k [])
status-past F k n r c h e = e ∙ ap (standing_of F) (past-list (texts_in F) k (omega (arith, count-is F)))

pub status-entry : (F : Force) (k n m : ℕ) (r : Standing) → n ≡ count_in F → k < n → m ≡ number 2 (get_or (texts_in F) k []) → r ≡ standing_by m false true → r ≡ standing_of F (get_or (texts_in F) k [])
unfolding every
status-entry F k n m r c h em e =
    let t = get_or (texts_in F) k [] in
    let b = not-true (eqb (length t) 0) (entry_in (λ (u : Text). not (eqb (length u) 0)) (texts_in F) k (every_in _ F refl) (omega (arith, count-is F))) in
    standing-is F t m true r em (sym (listed-entry (texts_in F) k (omega (arith, count-is F)))) (e ∙ ap (λ (x : Bool). standing_by m x true) (sym b))

at_place : {A : Type 0} (g : ℕ → A) (d : A) (ts : List Text) (k : ℕ) → k < length ts → get_or (each_place g ts) k d ≡ g k
at_place g d [] k h = absurd (omega arith)
at_place g d (t ∷ ts) zero h = refl
at_place g d (t ∷ ts) (suc k) h = at_place (λ (j : ℕ). g (suc j)) d ts k (omega arith)

-- by one computation over the list
placed : {A : Type 0} (g : ℕ → A) (of : Text → A) (ts : List Text) → each_place g ts ≡ map of ts → (k : ℕ) → k < length ts → g k ≡ of (get_or ts k [])
placed g of ts e k h = sym (at_place g (g 0) ts k h) ∙ ap (λ (l : List _). get_or l k (g 0)) e ∙ in_list of (g 0) ts k h

-- number_in
pub number_in : (F : Force) (k : ℕ) → k < count_in F → get_or (numbers_of 2 statuses) (place_in F k) 0 ≡ number 2 (get_or (texts_in F) k [])
number_in F k h = placed _ (number 2) (texts_in F) (places-in F) k (omega (arith, count-is F))

pub number-made : (F : Force) (k x y r : ℕ) → k < count_in F → x ≡ from_bool (leb 1 k && not F.s02) → y ≡ from_bool (leb 21 (k + x) && not F.s32)
    → r ≡ get_or (numbers_of 2 statuses) (k + x + y) 0 → r ≡ number 2 (get_or (texts_in F) k [])
unfolding place_in
number-made F k x y r h ex ey er = er ∙ cc (number_in F k h, one-if (leb 1 k && not F.s02), one-if (leb 21 (k + x) && not F.s32))

-- status_at

-- status_count
pub status-count : (f : Facts) (n : ℕ) → n ≡ count_in f.force → ((D : Dates) (s : Sheet) → Read D f s → n ≡ status_count D) × ((20 ≤ n) × ((n ≤ 23) × (n ≡ count_in f.force)))
unfolding facts_by
status-count f n e = (
  λ D s o. e ∙ count-is f.force ∙ ap (λ (g : Facts). length (texts_in g.force)) o.facts,
  (omega (arith, (count-bounds f.force).0), (omega (arith, (count-bounds f.force).1), e)),
)

-- and past its end
by_place : {A : Type 0} (g : ℕ → A) (of : Text → A) (ts : List Text) → each_place g ts ≡ map of ts → ((k : ℕ) → length ts ≤ k → g k ≡ of []) → (k : ℕ) → g k ≡ of (get_or ts k [])
by_place g of ts e past k =
    elim (dec_lt k (length ts)) [
      | yes h ↦ placed g of ts e k h
      | no n ↦ past k (omega arith) ∙ ap of (past-list ts k (omega arith))
    ]

abbrev basis_by : ℕ → Basis
basis_by k = record { blank = leb basis_count k; zero = eqb k 0; zeros = eqb k 1; letters = leb zero_count k && ltb k basis_count }

pub basis-entry : (k : ℕ) → basis_by k ≡ basis_of (get_or basis_texts k [])
unfolding basis_of same ◌is_one_of◌ any
basis-entry =
    by_place basis_by basis_of basis_texts refl
    (λ k h. simp (le-leb basis_count k h, ne_eqb k 0 (λ e. omega arith), ne_eqb k 1 (λ e. omega arith), le-leb zero_count k (omega arith), le-ltb k basis_count h))

abbrev document_by : ℕ → Document
document_by k = record { blank = leb zero_count k; fit = ltb k zero_count; person = false; pension = true; zero = eqb k 0; zeros = eqb k 1 }

pub document-entry : (k : ℕ) → document_by k ≡ document_of (get_or zero_texts k [])
unfolding document_of document person pension same ◌is_one_of◌ any every between
document-entry =
    by_place document_by document_of zero_texts refl
    (λ k h. simp (le-leb zero_count k h, le-ltb k zero_count h, ne_eqb k 0 (λ e. omega arith), ne_eqb k 1 (λ e. omega arith)))

abbrev day_by : ℕ → Day
day_by k = record { blank = leb zero_count k; zero = eqb k 0; zeros = eqb k 1; date = false }

pub day-entry : (k : ℕ) → day_by k ≡ day_of (get_or zero_texts k [])
unfolding day_of date same
day-entry =
    by_place day_by day_of zero_texts refl (λ k h. simp (le-leb zero_count k h, ne_eqb k 0 (λ e. omega arith), ne_eqb k 1 (λ e. omega arith)))

-- ---- rows: the blank past the end; a status by its number; "0", "00", and a letter pair

pub past_row : (ts : List Text) (k : ℕ) → length ts ≤ k → 0 ∷ 0 ∷ 0 ∷ [] ≡ row_of (get_or ts k [])
unfolding row_of
past_row ts k h = ap row_of (past-list ts k h)

-- a table of rows that are made of a table's values
made_row : {A : Type 0} (g : Text → A) (d : A) (row : A → List ℕ) (ts : List Text) (k : ℕ) → map (λ (t : Text). row (g t)) ts ≡ map row_of ts → k < length ts → row (get_or (map g ts) k d) ≡ row_of (get_or ts k [])
made_row g d row ts k e h =
    ap row (in_list g d ts k h) ∙ sym (in_list (λ (t : Text). row (g t)) [] ts k h) ∙ ap (λ (l : List (List ℕ)). get_or l k []) e ∙ in_list row_of [] ts k h

abbrev status_row : ℕ → List ℕ
status_row n = 2 ∷ (48 + n / 10 % 10) ∷ (48 + n % 10) ∷ []

pub status-past-row : (D : Dates) (F : Force) (k n : ℕ) → F ≡ force_of D → n ≡ count_in F → n ≤ k → 0 ∷ 0 ∷ 0 ∷ [] ≡ row_of (get_or (status_texts D) k [])
status-past-row D F k n e c h = past_row (texts_in F) k (omega (arith, count-is F)) ∙ ap (λ (G : Force). row_of (get_or (texts_in G) k [])) e

pub status-made : (D : Dates) (F : Force) (k n m : ℕ) → F ≡ force_of D → n ≡ count_in F → k < n → m ≡ number 2 (get_or (texts_in F) k []) → status_row m ≡ row_of (get_or (status_texts D) k [])
unfolding row_of every same number value value_of
status-made D F k n m eF c h e =
    ap status_row e ∙ same_true _ _ (entry_in (λ (t : Text). same (status_row (number 2 t)) (row_of t)) (texts_in F) k (every_in _ F refl) (omega (arith, count-is F)))
    ∙ ap (λ (G : Force). row_of (get_or (texts_in G) k [])) eF

pub basis-zero : (k : ℕ) (r : List ℕ) → k < zero_count → r ≡ row_of (get_or zero_texts k []) → r ≡ row_of (get_or basis_texts k [])
basis-zero k r h e = e ∙ ap row_of (sym (get_or-append zero_texts (words letter_pairs) [] k h))

pub basis-pair : (k : ℕ) → zero_count ≤ k → k < basis_count → 2 ∷ get_or (get_or (words letter_pairs) (k - zero_count) []) 0 0 ∷ get_or (get_or (words letter_pairs) (k - zero_count) []) 1 0 ∷ [] ≡ row_of (get_or basis_texts k [])
unfolding row_of
basis-pair k l h =
    let j = k - zero_count in
    let e : k ≡ zero_count + j = omega arith in
    made_row (λ (t : Text). t) [] (λ (t : Text). 2 ∷ get_or t 0 0 ∷ get_or t 1 0 ∷ []) (words letter_pairs) j refl (omega arith)
    ∙ ap row_of (sym (get_or-append-add zero_texts (words letter_pairs) j []) ∙ ap (λ (n : ℕ). get_or basis_texts n []) (sym e))
