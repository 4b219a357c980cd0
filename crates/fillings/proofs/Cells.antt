-- A sheet is its cells one after another, and an entry put into a slot is a cell of it replaced.
use mathlib.Core.Path.{◌≡◌, refl, sym, ap, ◌∙◌, subst}
use mathlib.Core.Bool.{Bool, true, false, cond}
use mathlib.Core.List.{List, [], ◌∷◌, ◌++◌, map, append_assoc}
use Prim.Native.Nat.{ℕ, zero, suc, ◌+◌, ◌-◌, ◌*◌, ◌<◌, ◌≤◌}
use native.Mathlib.Omega.{arith}
use lib.ListN.{length, get_or, take, drop, set, length-append, length-set, length-take, length-drop}
use lib.Seq.{take_at, drop_at, drop-drop, take_all, take-add, take-append-add, drop-append-add, set-get_or}
use Rattle.texts.specs.Texts.{between, blank}
use Rattle.texts.specs.Buffers.{put}
use Rattle.texts.specs.Working.Writing.{put_at}
use Rattle.texts.proofs.Puts.{put-fits}
use Rattle.sheets.specs.Sheet.{slots, cell_text, cell_of, text_of, cell_size, sheet_size, slot_count}
use Rattle.fillings.specs.Fillings.{joined}
use Rattle.fillings.specs.Working.Places.{places}
use Rattle.sheets.specs.Working.Entries.{filled_at}
use Rattle.fillings.specs.Working.Entering.{Entry, filled_with}

abbrev pub Cells : Type 0
Cells = List (List ℕ)

abbrev pub Sized : Cells → Type 0
Sized [] = Unit {0}
Sized (c ∷ cs) = (length c ≡ cell_size) × Sized cs

pub sized-by : (cs : Cells) → ((k : ℕ) → k < length cs → length (get_or cs k []) ≡ cell_size) → Sized cs
sized-by [] w = tt
sized-by (c ∷ cs) w = (w 0 (omega arith), sized-by cs (λ k l. w (suc k) (omega arith)))

pub length-joined : (cs : Cells) → Sized cs → length (joined cs) ≡ length cs * cell_size
length-joined [] z = refl
length-joined (c ∷ cs) z =
    let a = z.0 in
    let b = length-joined cs z.1 in
    length-append c (joined cs) ∙ omega arith

-- the cell at a place
pub cell-joined : (cs : Cells) (k : ℕ) → Sized cs → k < length cs → cell_of (joined cs) k ≡ get_or cs k []
unfolding cell_of between
cell-joined [] k z h = absurd (omega arith)
cell-joined (c ∷ cs) zero z h = take_at c (joined cs) cell_size z.0
cell-joined (c ∷ cs) (suc k) z h =
    let a = z.0 in
    let e : suc k * cell_size ≡ length c + k * cell_size = omega arith in
    let f : length c + k * cell_size + cell_size - (length c + k * cell_size) ≡ k * cell_size + cell_size - k * cell_size = omega arith in
    rw (e, f, drop-append-add c (joined cs) (k * cell_size)) (cell-joined cs k z.1 (omega arith))

-- a sheet is its cells
cells-from : (s : List ℕ) (n i : ℕ) → joined (map (cell_of s) (places n i)) ≡ take (n * cell_size) (drop (i * cell_size) s)
unfolding cell_of between places
cells-from s zero i = refl
cells-from s (suc n) i =
    let e : suc n * cell_size ≡ cell_size + n * cell_size = omega arith in
    let f : i * cell_size + cell_size - i * cell_size ≡ cell_size = omega arith in
    let g : suc i * cell_size ≡ i * cell_size + cell_size = omega arith in
    rw (e, f, take-add cell_size (n * cell_size) (drop (i * cell_size) s)) (ap (λ (x : List ℕ). take cell_size (drop (i * cell_size) s) ++ x) (cells-from s n (suc i) ∙ rw (g, drop-drop cell_size (i * cell_size) s)))

pub joined-cells : (s : List ℕ) → length s ≡ sheet_size → joined (map (cell_of s) slots) ≡ s
unfolding places
joined-cells s h = cells-from s slot_count 0 ∙ take_all sheet_size s (omega arith)

-- the cells of a sheet are 26 bytes long
pub length-cellOf : (s : List ℕ) (k : ℕ) → k * cell_size + cell_size ≤ length s → length (cell_of s k) ≡ cell_size
unfolding cell_of between
length-cellOf s k h = simp (length-take, length-drop) (omega arith)

sized-from : (s : List ℕ) (n i : ℕ) → i * cell_size + n * cell_size ≤ length s → Sized (map (cell_of s) (places n i))
unfolding places
sized-from s zero i h = tt
sized-from s (suc n) i h = (length-cellOf s i (omega arith), sized-from s n (suc i) (omega arith))

pub sized-cells : (s : List ℕ) → length s ≡ sheet_size → Sized (map (cell_of s) slots)
unfolding places
sized-cells s h = sized-from s slot_count 0 (omega arith)

-- a cell replaced
put-joined : (cs : Cells) (k : ℕ) (x : List ℕ) → Sized cs → k < length cs → length x ≡ cell_size → put (joined cs) (k * cell_size) x ≡ joined (set cs k x)
unfolding put
put-joined [] k x z h l = absurd (omega arith)
put-joined (c ∷ cs) zero x z h l =
    let e : 0 + length x ≡ cell_size = omega arith in
    rw e (ap (λ (t : List ℕ). x ++ t) (drop_at c (joined cs) cell_size z.0))
put-joined (c ∷ cs) (suc k) x z h l =
    let a = z.0 in
    let e : suc k * cell_size ≡ length c + k * cell_size = omega arith in
    let f : length c + k * cell_size + length x ≡ length c + (k * cell_size + length x) = omega arith in
    rw (e, f, take-append-add c (joined cs) (k * cell_size), drop-append-add c (joined cs) (k * cell_size + length x), append_assoc c (take (k * cell_size) (joined cs)) x, append_assoc c)
    (ap (λ (t : List ℕ). c ++ t) (put-joined cs k x z.1 (omega arith) l))

sized_set : (cs : Cells) (k : ℕ) (x : List ℕ) → Sized cs → length x ≡ cell_size → Sized (set cs k x)
sized_set [] k x z l = z
sized_set (c ∷ cs) zero x z l = (l, z.1)
sized_set (c ∷ cs) (suc k) x z l = (z.0, sized_set cs k x z.1 l)

-- an entry put into a slot that is blank
abbrev pub fill_cell : Cells → Entry → Cells
fill_cell cs e = set cs e.0 (cond (blank (cell_text (get_or cs e.0 []))) e.1 (get_or cs e.0 []))

abbrev pub fill_cells : Cells → List Entry → Cells
fill_cells cs [] = cs
fill_cells cs (e ∷ es) = fill_cells (fill_cell cs e) es

-- an entry for a slot below n, of 26 bytes
abbrev pub Fit : ℕ → List Entry → Type 0
Fit n [] = Unit {0}
Fit n (e ∷ es) = ((e.0 < n) × (length e.1 ≡ cell_size)) × Fit n es

fill-joined : (cs : Cells) (e : Entry) → Sized cs → e.0 < length cs → length e.1 ≡ cell_size → (filled_at (joined cs) e.0 e.1 ≡ joined (fill_cell cs e)) × Sized (fill_cell cs e)
unfolding filled_at text_of
fill-joined cs e z h l = rw (cell-joined cs e.0 z h) (go (blank (cell_text (get_or cs e.0 []))))
  where
    filled : Bool → Cells
    filled b = set cs e.0 (cond b e.1 (get_or cs e.0 []))

    go : (b : Bool) → (cond b (put_at (joined cs) (e.0 * cell_size) e.1) (joined cs) ≡ joined (filled b)) × Sized (filled b)
    go true = (put-fits (joined cs) (e.0 * cell_size) e.1 (omega (arith, length-joined cs z)) ∙ put-joined cs e.0 e.1 z h l, sized_set cs e.0 e.1 z l)
    go false = let s = sym (set-get_or cs e.0 []) in (ap joined s, subst Sized s z)

pub filled-joined : (es : List Entry) (cs : Cells) → Sized cs → Fit (length cs) es → (filled_with (joined cs) es ≡ joined (fill_cells cs es)) × Sized (fill_cells cs es)
filled-joined [] cs z f = (refl, z)
filled-joined (e ∷ es) cs z f =
    let w = fill-joined cs e z f.0.0 f.0.1 in
    let l = length-set cs e.0 (cond (blank (cell_text (get_or cs e.0 []))) e.1 (get_or cs e.0 [])) in
    let r = filled-joined es (fill_cell cs e) w.1 (rw l f.1) in
    (ap (λ (s : List ℕ). filled_with s es) w.0 ∙ r.0, r.1)
