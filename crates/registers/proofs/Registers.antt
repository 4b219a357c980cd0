-- A register's bytes as lines: where each stands, what the loops over them keep, and a right register taken apart.
use mathlib.Core.Path.{◌≡◌, refl, ap, sym, ◌∙◌}
use mathlib.Core.Bool.{Bool, true, ◌&&◌}
use mathlib.Core.List.{List, [], ◌∷◌, ◌++◌, map}
use Prim.Native.Nat.{ℕ, zero, suc, ◌+◌, ◌*◌, ◌/◌, ◌%◌, ◌≤◌, ◌<◌}
use native.Mathlib.Numerals.{add-one}
use native.Mathlib.Omega.{arith}
use borrow.Author.Tests.{leb-true, le-leb, eqb-true, eq-eqb}
use lib.Dec.{leb, eqb}
use lib.ListN.{length, take, drop, get_or, take-append-drop, length-drop}
use lib.Seq.{length-take-le, take_all, take-suc, take-add, drop_at, drop-cons, drop-drop, take-take}
use Rattle.std.specs.List.{list_all}
use Rattle.std.specs.Simd.{first_chunks}
use Rattle.texts.specs.Numbers.{Bytes, big, bytes_at}
use Rattle.texts.proofs.Big.{each_at, bytes-big}
use Rattle.texts.proofs.Bools.{both, and2}
use Rattle.sheets.specs.Forms.{inn12}
use Rattle.amounts.specs.Amount.{is_amount}
use Rattle.amounts.proofs.Ranges.{amount-is, is-amount}
use Rattle.registers.specs.Register.{Line, line_of, line_bytes, lines_in, lines_of, line_right, lines_right, register_right, order_right, most_order, total_of}
use Rattle.registers.specs.Pool.{HasLines, IsRegister}
use Rattle.registers.specs.Working.Parts.{line_at, big_at}

-- ---- the bytes of a line

take-bytes : (t : List ℕ) (at k : ℕ) → at + k ≤ length t → take k (drop at t) ≡ bytes_at t at k
take-bytes t at zero h = refl
take-bytes t at (suc k) h = cc (drop-cons t at 0 (omega arith), take-bytes t (suc at) k (omega arith))

module _ (t : List ℕ) (i : ℕ) (h : i * 20 + 20 ≤ length t) where
  -- the bytes of the kopecks
  last-eight : drop 12 (take 20 (drop (i * 20) t)) ≡ bytes_at t (i * 20 + 12) 8
  last-eight =
      let x = drop (i * 20) t in
      let l = length-take-le 12 x (omega (arith, length-drop (i * 20) t)) in
      cc (take-add 12 8 x, drop_at (take 12 x) (take 8 (drop 12 x)) 12 l, drop-drop 12 (i * 20) t, take-bytes t (i * 20 + 12) 8 (omega arith))

  pub kopecks-part : big_at t (i * 20 + 12) ≡ (line_at t i).1
  kopecks-part = ap big (take-bytes t (i * 20 + 12) 8 (omega arith) ∙ sym last-eight)

  -- a line's bytes are those of its INN and its kopecks
  pub line-whole : Bytes t → take 20 (drop (i * 20) t) ≡ line_bytes (line_at t i)
  line-whole f =
      cc (last-eight, bytes-big (bytes_at t (i * 20 + 12) 8) (each_at t (i * 20 + 12) 8 f), take-append-drop 12 (take 20 (drop (i * 20) t)))

-- ---- the lines

length-lines : (n : ℕ) (t : List ℕ) → length (lines_in n t) ≡ n
unfolding lines_in
length-lines zero t = refl
length-lines (suc n) t = ap suc (length-lines n (drop 20 t))

line-at : (n : ℕ) (t : List ℕ) (i : ℕ) → i < n → get_or (lines_in n t) i ([], 0) ≡ line_at t i
unfolding lines_in
line-at zero t i h = absurd (omega arith)
line-at (suc n) t zero h = refl
line-at (suc n) t (suc i) h =
    let e : 20 + i * 20 ≡ suc i * 20 = omega arith in
    cc (line-at n (drop 20 t) i (omega arith), drop-drop (i * 20) 20 t)

-- the lines of the arrays into which the bytes are cut
lines-chunks : (n : ℕ) (t : List ℕ) → map line_of (first_chunks 20 n t) ≡ lines_in n t
unfolding lines_in
lines-chunks zero t = refl
lines-chunks (suc n) t = ap (λ (ls : List Line). line_of (take 20 t) ∷ ls) (lines-chunks n (drop 20 t))

chunk-at : (n : ℕ) (t : List ℕ) (i : ℕ) → i < n → (d : List ℕ) → get_or (first_chunks 20 n t) i d ≡ take 20 (drop (i * 20) t)
chunk-at zero t i h d = absurd (omega arith)
chunk-at (suc n) t zero h d = refl
chunk-at (suc n) t (suc i) h d =
    let e : 20 + i * 20 ≡ suc i * 20 = omega arith in
    chunk-at n (drop 20 t) i (omega arith) d ∙ ap (take 20) (drop-drop (i * 20) 20 t ∙ ap (λ (k : ℕ). drop k t) e)

right-chunks : (cs : List (List ℕ)) → list_all (λ (b : List ℕ). line_right (line_of b)) cs ≡ lines_right (map line_of cs)
unfolding lines_right
right-chunks [] = refl
right-chunks (b ∷ cs) = ap (λ (r : Bool). line_right (line_of b) && r) (right-chunks cs)

total-more : (ls : List Line) (l : Line) → total_of (ls ++ l ∷ []) ≡ total_of ls + l.1
unfolding total_of
total-more [] l = omega arith
total-more (k ∷ ks) l = omega (arith, total-more ks l)

-- cs are the arrays of t
module _ (t : List ℕ) (cs : List (List ℕ)) (e : cs ≡ first_chunks 20 (length t / 20) t) where
  pub right-lines : list_all (λ (b : List ℕ). line_right (line_of b)) cs ≡ lines_right (lines_of t)
  right-lines = right-chunks cs ∙ ap lines_right (ap (map line_of) e ∙ lines-chunks (length t / 20) t)

  pub chunk_at : (i : ℕ) → i < length t / 20 → (d : List ℕ) → get_or cs i d ≡ take 20 (drop (i * 20) t)
  chunk_at i h d = ap (λ (l : List (List ℕ)). get_or l i d) e ∙ chunk-at (length t / 20) t i h d

-- what the loops keep is said of the lines before i: one line more, and all
module _ (t : List ℕ) where
  pub lines-length : length (lines_of t) ≡ length t / 20
  lines-length = length-lines (length t / 20) t

  module _ (i : ℕ) where
    pub lines-all : length t / 20 ≤ i → take i (lines_of t) ≡ lines_of t
    lines-all h = take_all i (lines_of t) (omega (arith, lines-length))

    module _ (h : i < length t / 20) where
      pub lines_at : get_or (lines_of t) i ([], 0) ≡ line_at t i
      lines_at = line-at (length t / 20) t i h

      pub lines_next : take (i + 1) (lines_of t) ≡ take i (lines_of t) ++ line_at t i ∷ []
      lines_next = rw (add-one i, ← lines_at) (take-suc (lines_of t) i ([], 0) (omega (arith, lines-length)))

      pub total-next : total_of (take (i + 1) (lines_of t)) ≡ total_of (take i (lines_of t)) + (line_at t i).1
      total-next = ap total_of lines_next ∙ total-more (take i (lines_of t)) (line_at t i)

  -- the register's bytes are those of its lines
  has-lines : HasLines t (lines_of t)
  has-lines = record {
    inns = λ i h. let k : i < length t / 20 = omega (arith, lines-length) in sym (take-take 12 20 (drop (i * 20) t) (omega arith)) ∙ ap (λ (l : Line). l.0) (sym (lines_at i k));
    kopecks = λ i h. let k : i < length t / 20 = omega (arith, lines-length) in kopecks-part t i (omega arith) ∙ ap (λ (l : Line). l.1) (sym (lines_at i k));
  }

-- ---- a right register, taken apart

pub right-at : (ls : List Line) → lines_right ls ≡ true → (i : ℕ) → i < length ls → (inn12 (get_or ls i ([], 0)).0 ≡ true) × (is_amount (get_or ls i ([], 0)).1 ≡ true)
unfolding lines_right
right-at [] e i h = absurd (omega arith)
right-at (l ∷ ls) e zero h = both (inn12 l.0) (is_amount l.1) (both (line_right l) (lines_right ls) e).0
right-at (l ∷ ls) e (suc i) h = right-at ls (both (line_right l) (lines_right ls) e).1 i (omega arith)

at_right : (ls : List Line) → ((i : ℕ) → i < length ls → (inn12 (get_or ls i ([], 0)).0 ≡ true) × (is_amount (get_or ls i ([], 0)).1 ≡ true)) → lines_right ls ≡ true
unfolding lines_right
at_right [] f = refl
at_right (l ∷ ls) f =
    let p = f 0 (omega arith) in
    and2 (line_right l) (lines_right ls) (and2 (inn12 l.0) (is_amount l.1) p.0 p.1) (at_right ls (λ i h. f (suc i) (omega arith)))

total_first : (ls : List Line) → lines_right ls ≡ true → (i : ℕ) → total_of (take i ls) ≤ i * 1000000000000
unfolding lines_right total_of
total_first ls e zero = omega arith
total_first [] e (suc i) = omega arith
total_first (l ∷ ls) e (suc i) =
    let p = both (line_right l) (lines_right ls) e in
    omega (arith, (amount-is l.1 (both (inn12 l.0) (is_amount l.1) p.0).1).1, total_first ls p.1 i)

module _ (t : List ℕ) where
  pub whole_of : register_right t ≡ true → (length t % 20 ≡ 0) × (1 ≤ length t / 20) × (length t / 20 ≤ 500) × (lines_right (lines_of t) ≡ true)
  whole_of e =
      let p = both ((eqb (length t % 20) 0 && leb 1 (length t / 20)) && leb (length t / 20) 500) (lines_right (lines_of t)) e in
      let q = both (eqb (length t % 20) 0 && leb 1 (length t / 20)) (leb (length t / 20) 500) p.0 in
      let r = both (eqb (length t % 20) 0) (leb 1 (length t / 20)) q.0 in
      (eqb-true _ _ r.0, leb-true _ _ r.1, leb-true _ _ q.1, p.1)

  pub total-most : register_right t ≡ true → (i : ℕ) → i ≤ length t / 20 → total_of (take i (lines_of t)) ≤ 500000000000000
  total-most e i h = let w = whole_of e in omega (arith, total_first (lines_of t) w.3 i)

  module _ (a : ℕ) where
    pub is-register : (register_right t && order_right a) ≡ true → IsRegister t a
    is-register e =
        let p = both (register_right t) (order_right a) e in
        let o = both (leb 1 a) (leb a most_order) p.1 in
        let w = whole_of p.0 in
        let l = lines-length t in
        let r = right-at (lines_of t) w.3 in
        record {
          lines = has-lines t;
          whole = omega arith;
          some = omega arith;
          most = omega arith;
          inns = λ i h. (r i h).0;
          amounts = λ i h. amount-is (get_or (lines_of t) i ([], 0)).1 (r i h).1;
          orders = (leb-true _ _ o.0, leb-true _ _ o.1);
        }

    pub register-is : IsRegister t a → (register_right t && order_right a) ≡ true
    register-is g =
        let l = lines-length t in
        simp (
          eq-eqb (length t % 20) 0 (omega (arith, g.whole)),
          le-leb 1 (length t / 20) (omega (arith, g.some)),
          le-leb (length t / 20) 500 (omega (arith, g.most)),
          at_right (lines_of t) (λ i h. (g.inns i h, is-amount (get_or (lines_of t) i ([], 0)).1 (g.amounts i h).0 (g.amounts i h).1)),
          le-leb 1 a g.orders.0,
          le-leb a most_order g.orders.1,
        )
