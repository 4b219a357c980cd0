-- Cells at equal distances, tested one after another.
use Rattle.std.specs.List.{list_all, range_with_len}
use mathlib.Core.Path.{◌≡◌, refl, ap, ◌∙◌}
use mathlib.Core.Bool.{Bool, true, false, ◌&&◌}
use mathlib.Core.List.{List}
use Prim.Native.Nat.{ℕ, zero, suc, ◌+◌, ◌-◌, ◌*◌, ◌<◌, ◌≤◌}
use native.Mathlib.Omega.{arith}
use borrow.Author.Tests.{le-leb, lt-leb}
use lib.ListN.{length, take, drop}
use Rattle.texts.specs.Texts.{between, every}
use Rattle.texts.proofs.Bools.{both, and2}
use Rattle.sheets.specs.Sheet.{slot_count, cell_size, cell_ok, cell_of, slot_ok, sheet_size, well_formed}
use Rattle.sheets.specs.Working.Cells.{cell_at, cells_at}

-- a cell of the loop
pub cell-inside : (t : List ℕ) (a : ℕ) (b : Bool) → a + cell_size ≤ length t → b ≡ cell_ok (take (a + cell_size - a) (drop a t)) → b ≡ cell_at t a
unfolding cell_at between
cell-inside t a b h e = e ∙ rw (le-leb (a + cell_size) (length t) h)

pub cell-past : (t : List ℕ) (a : ℕ) → length t < a + cell_size → false ≡ cell_at t a
unfolding cell_at
cell-past t a h = rw (lt-leb (a + cell_size) (length t) h)

-- those from the i-th on, one after another, and all
module _ (w : ℕ) (t : List ℕ) (a : ℕ) where
  cells-on : (i n : ℕ) → list_all (λ (k : ℕ). cell_at t (a + k * w)) (range_with_len i n) ≡ cells_at w n t (a + i * w)
  unfolding cells_at
  cells-on i zero = refl
  cells-on i (suc n) =
      let e : a + (i + 1) * w ≡ a + i * w + w = omega arith in
      ap (λ (b : Bool). cell_at t (a + i * w) && b) (cells-on (i + 1) n ∙ ap (cells_at w n t) e)

  pub cells-all : (n : ℕ) → list_all (λ (k : ℕ). cell_at t (a + k * w)) (range_with_len 0 n) ≡ cells_at w n t a
  cells-all n =
      let e : a + 0 * w ≡ a = omega arith in
      cells-on 0 n ∙ ap (cells_at w n t) e

-- what holds of all of them holds of each, and the other way
pub cells-each : (w : ℕ) (t : List ℕ) (n a : ℕ) → cells_at w n t a ≡ true → (i : ℕ) → i < n → cell_at t (a + i * w) ≡ true
unfolding cells_at
cells-each w t zero a e i h = absurd (omega arith)
cells-each w t (suc n) a e zero h = let k : a + 0 * w ≡ a = omega arith in rw k (both (cell_at t a) (cells_at w n t (a + w)) e).0
cells-each w t (suc n) a e (suc i) h =
    let k : a + suc i * w ≡ a + w + i * w = omega arith in
    rw k (cells-each w t n (a + w) (both (cell_at t a) (cells_at w n t (a + w)) e).1 i (omega arith))

pub cells-by : (w : ℕ) (t : List ℕ) (n a : ℕ) → ((i : ℕ) → i < n → cell_at t (a + i * w) ≡ true) → cells_at w n t a ≡ true
unfolding cells_at
cells-by w t zero a f = refl
cells-by w t (suc n) a f =
    and2 (cell_at t a) (cells_at w n t (a + w)) (let k : a ≡ a + 0 * w = omega arith in rw k (f 0 (omega arith)))
    (cells-by w t n (a + w) (λ i h. let k : a + w + i * w ≡ a + suc i * w = omega arith in rw k (f (suc i) (omega arith))))

-- a sheet's
pub sheet-cells : (s : List ℕ) → length s ≡ sheet_size → cells_at cell_size slot_count s 0 ≡ well_formed s
unfolding cells_at cell_at slot_ok cell_of every
sheet-cells s z = rw z refl
