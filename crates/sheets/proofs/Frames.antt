-- A sheet with a cell put into a slot that is blank: its texts, and what is read of it.
use mathlib.Core.Path.{◌≡◌, refl, sym, ap, ◌∙◌, fun_ext}
use mathlib.Core.Bool.{Bool, true, false, cond}
use mathlib.Core.List.{List, [], ◌∷◌}
use mathlib.Core.Logic.{inl, inr}
use Prim.Native.Nat.{ℕ, zero, suc, ◌+◌, ◌-◌, ◌*◌, ◌<◌, ◌≤◌}
use native.Mathlib.Decide.{ℕ_discrete, dec_lt}
use native.Mathlib.Omega.{arith}
use borrow.Author.Tests.{eq-eqb, ne_eqb, leb-true}
use lib.Dec.{eqb}
use lib.ListN.{length, get_or, take, drop, replicate, length-append, length-take, length-drop, length-replicate}
use lib.Seq.{take_at}
use Rattle.texts.specs.Quoted.{Text}
use Rattle.texts.specs.Texts.{between, blank, every}
use Rattle.texts.specs.Buffers.{put}
use Rattle.texts.specs.Working.Writing.{put_at}
use Rattle.texts.proofs.Bools.{both}
use Rattle.texts.proofs.Puts.{put-fits, length-put, part-put, mid-put}
use Rattle.sheets.specs.Sheet.{Sheet, slot_count, text_max, short, cell_size, sheet_size, cell, cell_text, cell_of, text_of}
use Rattle.sheets.specs.Working.Facts.{standing_of, basis_of, document_of, day_of, facts_by, facts_of, Read}
use Rattle.sheets.specs.Lists.{basis_texts, zero_texts}
use Rattle.sheets.specs.Dates.{force_of, status_texts}
use Rattle.sheets.specs.declared.dates.Dates.{Dates}
use Rattle.sheets.proofs.InForce.{every_in}
use Rattle.sheets.specs.Working.Entries.{filled_at, status_at, basis_at, document_at, day_at, with_all}
use Rattle.sheets.specs.declared.facts.Standing.{Standing}
use Rattle.sheets.specs.declared.facts.Basis.{Basis}
use Rattle.sheets.specs.declared.facts.Document.{Document}
use Rattle.sheets.specs.declared.facts.Day.{Day}
use Rattle.sheets.specs.declared.facts.Facts.{Facts}

-- a text as a cell
pub text-cell : (t : Text) → cell_text (cell t) ≡ t
unfolding cell_text cell between
text-cell t =
    let e : 1 + length t - 1 ≡ length t = omega arith in
    rw e (take_at t (replicate (text_max - length t) 0) (length t) refl)

pub length-cell : (t : Text) → length t ≤ text_max → length (cell t) ≡ cell_size
unfolding cell
length-cell t h = simp (length-append, length-replicate) (omega arith)

-- a text of a sheet
pub text-short : (s : Sheet) (k : ℕ) → length (text_of s k) ≤ text_max
unfolding text_of cell_of cell_text between
text-short s k =
    let a = k * cell_size in
    let c = take (a + cell_size - a) (drop a s) in
    omega (arith, length-take (1 + get_or c 0 0 - 1) (drop 1 c), length-drop 1 c, length-take (a + cell_size - a) (drop a s))

-- an entry of a list of short texts
entry-short : (ts : List Text) (k : ℕ) → every short ts ≡ true → length (get_or ts k []) ≤ text_max
unfolding every
entry-short [] k h = omega arith
entry-short (t ∷ ts) zero h = leb-true (length t) text_max (both (short t) (every short ts) h).0
entry-short (t ∷ ts) (suc k) h = entry-short ts k (both (short t) (every short ts) h).1

pub status-sized : (D : Dates) (k : ℕ) → length (cell (get_or (status_texts D) k [])) ≡ cell_size
unfolding every
status-sized D k = length-cell (get_or (status_texts D) k []) (entry-short (status_texts D) k (every_in short (force_of D) refl))

pub basis-sized : (k : ℕ) → length (cell (get_or basis_texts k [])) ≡ cell_size
unfolding every
basis-sized k = length-cell (get_or basis_texts k []) (entry-short basis_texts k refl)

pub zero-sized : (k : ℕ) → length (cell (get_or zero_texts k [])) ≡ cell_size
unfolding every
zero-sized k = length-cell (get_or zero_texts k []) (entry-short zero_texts k refl)

pub cell-part : (s : List ℕ) (j : ℕ) → cell_of s j ≡ take cell_size (drop (j * cell_size) s)
unfolding cell_of between
cell-part s j = let e : j * cell_size + cell_size - j * cell_size ≡ cell_size = omega arith in rw e

-- one of two lists
either : (P : List ℕ → Type 0) (b : Bool) {l m : List ℕ} → P l → P m → P (cond b l m)
either P true p q = p
either P false p q = q

-- what a filling chooses by whether a field is blank
module _ {X : Type 0} {z : X} (b : Bool) (x y : X) where
  pub blank-so : b ≡ true → z ≡ x → z ≡ cond b x y
  blank-so e h = h ∙ ap (λ (c : Bool). cond c x y) (sym e)

  pub given-so : b ≡ false → z ≡ y → z ≡ cond b x y
  given-so e h = h ∙ ap (λ (c : Bool). cond c x y) (sym e)

chosen : {X : Type 0} (h : List ℕ → X) (b : Bool) (t u : List ℕ) → cond b (h t) (h u) ≡ h (cond b t u)
chosen h true t u = refl
chosen h false t u = refl

-- the texts of a sheet with t in slot k, if that is blank
abbrev pub refilled : (ℕ → Text) → ℕ → Text → ℕ → Text
refilled T k t j = cond (eqb j k) (cond (blank (T k)) t (T k)) (T j)

module _ (s x : List ℕ) (k : ℕ) (size : length s ≡ sheet_size) (lk : k < slot_count) (lx : length x ≡ cell_size) where
  put_is : put_at s (k * cell_size) x ≡ put s (k * cell_size) x
  put_is = put-fits s (k * cell_size) x (omega arith)

  put_same : cell_of (put_at s (k * cell_size) x) k ≡ x
  put_same = cell-part (put_at s (k * cell_size) x) k ∙ ap (λ (l : List ℕ). take cell_size (drop (k * cell_size) l)) put_is ∙ mid-put s (k * cell_size) x cell_size lx (omega arith)

  put-length : length (put_at s (k * cell_size) x) ≡ sheet_size
  put-length = ap length put_is ∙ length-put s (k * cell_size) x (omega arith) ∙ size

  put_other : (j : ℕ) → (j ≡ k → ⊥) → cell_of (put_at s (k * cell_size) x) j ≡ cell_of s j
  put_other j n =
      cell-part (put_at s (k * cell_size) x) j ∙ ap (λ (l : List ℕ). take cell_size (drop (j * cell_size) l)) put_is
      ∙ part-put s (k * cell_size) x (j * cell_size) cell_size (elim (dec_lt j k) [ yes p ↦ inl (omega arith) | no q ↦ inr (omega arith) ]) (omega arith)
      ∙ sym (cell-part s j)

  pub filled-length : length (filled_at s k x) ≡ sheet_size
  unfolding filled_at
  filled-length = either (λ l. length l ≡ sheet_size) (blank (text_of s k)) put-length size

  pub filled-other : (j : ℕ) → (j ≡ k → ⊥) → text_of (filled_at s k x) j ≡ text_of s j
  unfolding filled_at text_of
  filled-other j n = ap cell_text (either (λ l. cell_of l j ≡ cell_of s j) (blank (text_of s k)) (put_other j n) refl)

  filled-same : text_of (filled_at s k x) k ≡ cond (blank (text_of s k)) (cell_text x) (text_of s k)
  unfolding filled_at text_of
  filled-same = sym (chosen (λ l. cell_text (cell_of l k)) (blank (text_of s k)) _ s) ∙ ap (λ (l : List ℕ). cond (blank (text_of s k)) (cell_text l) (text_of s k)) put_same

  filled-texts : (j : ℕ) → text_of (filled_at s k x) j ≡ refilled (text_of s) k (cell_text x) j
  filled-texts j =
      elim (ℕ_discrete j k) [
        | yes e ↦ simp (eq-eqb j k e) (ap (text_of (filled_at s k x)) e ∙ filled-same)
        | no n ↦ simp (ne_eqb j k n) (filled-other j n)
      ]

facts-filled : (D : Dates) (s : Sheet) (k : ℕ) (t : Text) → length s ≡ sheet_size → k < slot_count → length (cell t) ≡ cell_size → facts_of D (filled_at s k (cell t)) ≡ facts_by D (refilled (text_of s) k t)
facts-filled D s k t size lk lx = ap (facts_by D) (fun_ext (filled-texts s (cell t) k size lk lx)) ∙ ap (λ (u : Text). facts_by D (refilled (text_of s) k u)) (text-cell t)

-- which of the fields that can vary are blank
pub blank-fields : (D : Dates) (f : Facts) (s : Sheet) → Read D f s
    → (f.status.blank ≡ blank (text_of s 6)) × ((f.basis.blank ≡ blank (text_of s 11)) × ((f.document.blank ≡ blank (text_of s 13)) × (f.day.blank ≡ blank (text_of s 14))))
unfolding facts_by standing_of basis_of document_of day_of
blank-fields D f s o = rw o.facts (refl, (refl, (refl, refl)))

-- what is read of a sheet with an entry in such a field: `of` reads the field's facts off its text, `set` puts facts in
module _ (D : Dates) {X : Type 0} (of : Text → X) (set : Facts → X → Facts) (j : ℕ) (lj : j < slot_count) (ts : List Text) (short-ts : every short ts ≡ true)
    (puts : (t : Sheet) (x : Text) → set (facts_of D t) (of (cond (blank (text_of t j)) x (text_of t j))) ≡ facts_by D (refilled (text_of t) j x)) where
  -- of a sheet t that has in the field what s has
  filled_in : (g : Facts) (k : ℕ) (s t : Sheet) → Read D g t → text_of t j ≡ text_of s j → (y : X) → y ≡ cond (blank (text_of s j)) (of (get_or ts k [])) (of (text_of s j))
      → Read D (set g y) (filled_at t j (cell (get_or ts k [])))
  filled_in g k s t p e y hy =
      let x = get_or ts k [] in
      let lx = length-cell x (entry-short ts k short-ts) in
      let z : y ≡ of (cond (blank (text_of t j)) x (text_of t j)) = hy ∙ ap (λ (v : Text). cond (blank v) (of x) (of v)) (sym e) ∙ chosen of (blank (text_of t j)) x (text_of t j) in
      record {
        size = filled-length t (cell x) j p.size lj lx;
        facts = (λ i. set (p.facts i) (z i)) ∙ puts t x ∙ sym (facts-filled D t j x p.size lj lx);
      }

module _ (D : Dates) (f g : Facts) (k : ℕ) (s t : Sheet) (o : Read D f s) (p : Read D g t) where
  pub status-filled : text_of t 6 ≡ text_of s 6 → (y : Standing) → y ≡ status_at f k → Read D (with_all g y g.basis g.document g.day) (filled_at t 6 (cell (get_or (status_texts D) k [])))
  unfolding every facts_by standing_of
  status-filled e y hy =
      filled_in D (standing_of (force_of D)) (λ h x. with_all h x h.basis h.document h.day) 6 (omega arith) (status_texts D) (every_in short (force_of D) refl) (λ u x. refl) g k s t p e y (hy ∙ ap (λ (h : Facts). status_at h k) o.facts)

  pub basis-filled : text_of t 11 ≡ text_of s 11 → (y : Basis) → y ≡ basis_at f k → Read D (with_all g g.status y g.document g.day) (filled_at t 11 (cell (get_or basis_texts k [])))
  unfolding every facts_by basis_of
  basis-filled e y hy =
      filled_in D basis_of (λ h x. with_all h h.status x h.document h.day) 11 (omega arith) basis_texts refl (λ u x. refl) g k s t p e y (hy ∙ ap (λ (h : Facts). basis_at h k) o.facts)

  pub document-filled : text_of t 13 ≡ text_of s 13 → (y : Document) → y ≡ document_at f k → Read D (with_all g g.status g.basis y g.day) (filled_at t 13 (cell (get_or zero_texts k [])))
  unfolding every facts_by document_of
  document-filled e y hy =
      filled_in D document_of (λ h x. with_all h h.status h.basis x h.day) 13 (omega arith) zero_texts refl (λ u x. refl) g k s t p e y (hy ∙ ap (λ (h : Facts). document_at h k) o.facts)

  pub day-filled : text_of t 14 ≡ text_of s 14 → (y : Day) → y ≡ day_at f k → Read D (with_all g g.status g.basis g.document y) (filled_at t 14 (cell (get_or zero_texts k [])))
  unfolding every facts_by day_of
  day-filled e y hy =
      filled_in D day_of (λ h x. with_all h h.status h.basis h.document x) 14 (omega arith) zero_texts refl (λ u x. refl) g k s t p e y (hy ∙ ap (λ (h : Facts). day_at h k) o.facts)
