-- Sheets made of cells: their texts, and a cell put in.
use mathlib.Core.Path.{◌≡◌, refl, sym, ap, ◌∙◌}
use mathlib.Core.Bool.{true}
use mathlib.Core.List.{List, [], ◌∷◌, ◌++◌, append_assoc}
use Prim.Native.Nat.{ℕ, zero, suc, ◌+◌, ◌-◌, ◌*◌, ◌<◌, ◌≤◌}
use native.Mathlib.Omega.{arith}
use borrow.Author.Tests.{leb-true, le-leb}
use lib.ListN.{length, get_or, take, drop, set, replicate, length-append, length-take, length-set}
use lib.Seq.{take_at, drop_at, drop-nil, drop-cons, take-append-add, drop-append-add}
use Rattle.texts.specs.Quoted.{Text}
use Rattle.texts.specs.Texts.{every, between}
use Rattle.texts.specs.Buffers.{put}
use Rattle.texts.specs.Working.Writing.{put_at}
use Rattle.texts.proofs.Bools.{both, and2}
use Rattle.texts.proofs.Puts.{put-fits, put_next, put-zeros}
use Rattle.sheets.specs.Sheet.{slot_count, text_max, short, cell_size, sheet_size, cell, cells, cell_text, text_of}
use Rattle.sheets.proofs.Frames.{text-cell, length-cell, cell-part}
use Rattle.sheets.proofs.InForce.{entry_in}
use Rattle.swift.specs.Lines.{slot_texts, sheet_with, parts_of}
use Rattle.swift.specs.Working.Places.{most_lines, bank_parts_of}

cell-sized : (t : Text) → short t ≡ true → length (cell t) ≡ cell_size
cell-sized t h = length-cell t (leb-true (length t) text_max h)

pub length-cells : (ts : List Text) → every short ts ≡ true → length (cells ts) ≡ length ts * cell_size
unfolding every cells
length-cells [] h = refl
length-cells (t ∷ ts) h =
    let q = both (short t) (every short ts) h in
    omega (arith, length-append (cell t) (cells ts), cell-sized t q.0, length-cells ts q.1)

drop_cells : (ts : List Text) (k : ℕ) → every short ts ≡ true → drop (k * cell_size) (cells ts) ≡ cells (drop k ts)
unfolding every cells
drop_cells [] k h = drop-nil (k * cell_size) ∙ sym (ap cells (drop-nil k))
drop_cells (t ∷ ts) zero h = refl
drop_cells (t ∷ ts) (suc k) h =
    let q = both (short t) (every short ts) h in
    let l = cell-sized t q.0 in
    let a : suc k * cell_size ≡ length (cell t) + k * cell_size = omega arith in
    ap (λ (n : ℕ). drop n (cell t ++ cells ts)) a ∙ drop-append-add (cell t) (cells ts) (k * cell_size) ∙ drop_cells ts k q.1

-- the text in a slot
pub text-cells : (ts : List Text) (k : ℕ) → every short ts ≡ true → k < length ts → text_of (cells ts) k ≡ get_or ts k []
unfolding text_of cells
text-cells ts k h l =
    let x = get_or ts k [] in
    let m = cell-sized x (entry_in short ts k h l) in
    ap cell_text (cell-part (cells ts) k ∙ ap (take cell_size) (drop_cells ts k h ∙ ap cells (drop-cons ts k [] l)) ∙ take_at (cell x) (cells (drop (suc k) ts)) cell_size m)
    ∙ text-cell x

-- a cell put into a slot
pub cells-put : (ts : List Text) (k : ℕ) (t : Text) → every short ts ≡ true → k < length ts → length t ≤ text_max → put (cells ts) (k * cell_size) (cell t) ≡ cells (set ts k t)
unfolding every cells put
cells-put [] k t h l s = absurd (omega arith)
cells-put (u ∷ us) zero t h l s =
    let q = both (short u) (every short us) h in
    let a : length (cell u) ≡ zero * cell_size + length (cell t) = omega (arith, cell-sized u q.0, length-cell t s) in
    ap (λ (x : List ℕ). cell t ++ x) (drop_at (cell u) (cells us) (zero * cell_size + length (cell t)) a)
cells-put (u ∷ us) (suc k) t h l s =
    let q = both (short u) (every short us) h in
    let m = cell-sized u q.0 in
    let L = cell u ++ cells us in
    let n = k * cell_size in
    let A = take n (cells us) in
    let B = drop (n + length (cell t)) (cells us) in
    let a : suc k * cell_size ≡ length (cell u) + n = omega arith in
    let b : suc k * cell_size + length (cell t) ≡ length (cell u) + (n + length (cell t)) = omega arith in
    (λ i. take (a i) L ++ cell t ++ drop (b i) L)
    ∙ (λ i. take-append-add (cell u) (cells us) n i ++ cell t ++ drop-append-add (cell u) (cells us) (n + length (cell t)) i)
    ∙ ap (λ (x : List ℕ). x ++ B) (append_assoc (cell u) A (cell t))
    ∙ append_assoc (cell u) (A ++ cell t) B
    ∙ ap (λ (x : List ℕ). cell u ++ x) (cells-put us k t q.1 (omega arith) s)

-- ---- cell_of, put_text

pub cell-made : (t y : List ℕ) → length t ≤ text_max → y ≡ put_at (length t ∷ replicate text_max 0) 1 t → y ≡ cell t
unfolding cell put
cell-made t y l ey =
    let z : List ℕ = replicate cell_size 0 in
    let s : List ℕ = length t ∷ [] in
    let fy : y ≡ put z 0 (s ++ t) = ey ∙ put_next z s t (length t ∷ replicate text_max 0) 1 refl (omega arith) refl in
    let n : cell_size ≡ 1 + length t + (text_max - length t) = omega arith in
    let m : length (s ++ t) ≡ 1 + length t = omega arith in
    fy ∙ ap (λ (k : ℕ). put (replicate k 0) 0 (s ++ t)) n ∙ put-zeros (s ++ t) (1 + length t) (text_max - length t) m

pub between-long : (b : Text) (o n : ℕ) → length (between b o n) ≤ n - o
unfolding between
between-long b o n = omega (arith, length-take (n - o) (drop o b))

pub part-short : (b t : Text) (a e : ℕ) → e ≤ a + text_max → t ≡ between b a e → length t ≤ text_max
part-short b t a e h p = omega (arith, ap length p, between-long b a e)

-- ---- put_bank_texts, put_payee_texts: a sheet of fifteen short texts

pub record Sheets (s : List ℕ) (ts : List Text) : Type 0 where
  pub is : s ≡ cells ts
  pub short : every short ts ≡ true
  pub count : length ts ≡ slot_count

short-set : (ts : List Text) (k : ℕ) (t : Text) → every short ts ≡ true → short t ≡ true → every short (set ts k t) ≡ true
unfolding every
short-set [] k t h e = refl
short-set (u ∷ us) zero t h e = let q = both (short u) (every short us) h in and2 (short t) (every short us) e q.1
short-set (u ∷ us) (suc k) t h e = let q = both (short u) (every short us) h in and2 (short u) (every short (set us k t)) q.0 (short-set us k t q.1 e)

part-is-short : (b : Text) (a z : ℕ) → z ≤ a + text_max → short (between b a z) ≡ true
part-is-short b a z h = le-leb (length (between b a z)) text_max (part-short b (between b a z) a z h refl)

step : (ts : List Text) (k : ℕ) (b s e : List ℕ) (a z : ℕ) → Sheets s ts → k < slot_count → z ≤ a + text_max → e ≡ put_at s (k * cell_size) (cell (between b a z)) → Sheets e (set ts k (between b a z))
step ts k b s e a z S l m q =
    let t = between b a z in
    let n : length t ≤ text_max = part-short b t a z m refl in
    let o = length-cell t n in
    let c = S.count in
    let g = length-cells ts S.short in
    record {
      is = q ∙ rw S.is (put-fits (cells ts) (k * cell_size) (cell t) (omega arith)) ∙ cells-put ts k t S.short (omega arith) n;
      short = short-set ts k t S.short (part-is-short b a z m);
      count = length-set ts k t ∙ c;
    }

empty : Sheets (replicate sheet_size 0) (replicate slot_count [])
unfolding cells cell every
empty = record { is = refl; short = refl; count = refl }

pub parts-short : (b : Text) → length b ≤ most_lines → every short (slot_texts (parts_of b)) ≡ true
unfolding parts_of every
parts-short b l =
    rw (part-is-short b 18 27 (omega arith), part-is-short b 28 48 (omega arith), part-is-short b 54 74 (omega arith), part-is-short b 111 (length b - 1) (omega arith), part-is-short b 78 88 (omega arith), part-is-short b 6 8 (omega arith), part-is-short b 92 101 (omega arith))

bank-short : (b : Text) → every short (slot_texts (bank_parts_of b)) ≡ true
unfolding parts_of every
bank-short b =
    rw (part-is-short b 18 27 (omega arith), part-is-short b 28 48 (omega arith), part-is-short b 54 74 (omega arith), part-is-short b 6 8 (omega arith))

pub bank-put : (b s0 s1 s2 s3 s4 : List ℕ) → s0 ≡ replicate sheet_size 0
    → s1 ≡ put_at s0 (6 * cell_size) (cell (between b 6 8))
    → s2 ≡ put_at s1 (0 * cell_size) (cell (between b 18 27))
    → s3 ≡ put_at s2 (1 * cell_size) (cell (between b 28 48))
    → s4 ≡ put_at s3 (2 * cell_size) (cell (between b 54 74))
    → s4 ≡ sheet_with (bank_parts_of b)
unfolding parts_of
bank-put b s0 s1 s2 s3 s4 z h1 h2 h3 h4 =
    let S0 : Sheets s0 (replicate slot_count []) = rw z empty in
    let S1 = step _ 6 b s0 s1 6 8 S0 (omega arith) (omega arith) h1 in
    let S2 = step _ 0 b s1 s2 18 27 S1 (omega arith) (omega arith) h2 in
    let S3 = step _ 1 b s2 s3 28 48 S2 (omega arith) (omega arith) h3 in
    let S4 = step _ 2 b s3 s4 54 74 S3 (omega arith) (omega arith) h4 in
    S4.is

pub payee-put : (b s0 s1 s2 s3 : List ℕ) → s0 ≡ sheet_with (bank_parts_of b) → length b ≤ most_lines
    → s1 ≡ put_at s0 (5 * cell_size) (cell (between b 78 88))
    → s2 ≡ put_at s1 (8 * cell_size) (cell (between b 92 101))
    → s3 ≡ put_at s2 (3 * cell_size) (cell (between b 111 (length b - 1)))
    → s3 ≡ sheet_with (parts_of b)
unfolding parts_of
payee-put b s0 s1 s2 s3 z l h1 h2 h3 =
    let S0 : Sheets s0 (slot_texts (bank_parts_of b)) = record { is = z; short = bank-short b; count = refl } in
    let S1 = step _ 5 b s0 s1 78 88 S0 (omega arith) (omega arith) h1 in
    let S2 = step _ 8 b s1 s2 92 101 S1 (omega arith) (omega arith) h2 in
    let S3 = step _ 3 b s2 s3 111 (length b - 1) S2 (omega arith) (omega arith) h3 in
    S3.is
