-- Pooling into the output: at the loop's head the lines before i, pooled, stand at the output's start, and the numbers of
-- their INNs in the table. A line more is added to the sum of its INN, or copied behind them.
use mathlib.Core.Path.{◌≡◌, refl, ap, sym, ◌∙◌}
use mathlib.Core.Bool.{true, ◌&&◌}
use mathlib.Core.List.{List, [], ◌∷◌, ◌++◌, map, append_assoc, append-nil, map-append}
use Prim.Native.Nat.{ℕ, zero, suc, ◌+◌, ◌*◌, ◌/◌, ◌^◌, ◌≤◌, ◌<◌}
use native.Mathlib.Numerals.{add-one}
use native.Mathlib.Omega.{arith}
use borrow.Author.Tests.{eq-eqb}
use lib.ListN.{length, take, drop, get_or, set, length-append, length-set, length-map, get_or-map}
use lib.Seq.{drop-cons, take_at, drop_at, set-get_or, set_split, get_or-take, take-suc-set, map-set_same}
use Rattle.std.specs.Prelude.{Option, Some, None}
use Rattle.texts.specs.Quoted.{Text}
use Rattle.texts.specs.Texts.{same, digits, digits_not_00, number}
use Rattle.texts.specs.Numbers.{Bytes, bytes_of}
use Rattle.texts.specs.Buffers.{put}
use Rattle.texts.specs.Working.Writing.{put_at}
use Rattle.texts.proofs.Bools.{cases, both}
use Rattle.texts.proofs.Big.{big-bytes}
use Rattle.texts.proofs.Codes.{same_true, digits-coded, is_number}
use Rattle.texts.proofs.Numerals.{digits-sized}
use Rattle.texts.proofs.Puts.{length-put, put-none, put_next}
use Rattle.sheets.specs.Forms.{check_digit, weights11, weights12, inn12}
use Rattle.amounts.specs.Amount.{is_amount}
use Rattle.registers.specs.Register.{Line, line_bytes, lines_bytes, lines_of, line_right, lines_right, register_right, pooled, appearing, total_of}
use Rattle.registers.specs.Working.Parts.{line_at, big_at, Finds}
use Rattle.registers.proofs.Pooling.{others, pooled-none, pooled-first, pooled-total, HasAt, pooled-at, pooled-new}
use Rattle.registers.proofs.Registers.{line-whole, right-at, lines-length, lines_at, lines-all, lines_next, total-next, total-most, whole_of}

-- ---- the bytes of lines

lines-append : (ks ls : List Line) → lines_bytes (ks ++ ls) ≡ lines_bytes ks ++ lines_bytes ls
unfolding lines_bytes
lines-append [] ls = refl
lines-append (k ∷ ks) ls = cc (lines-append ks ls, append_assoc (line_bytes k) (lines_bytes ks) (lines_bytes ls))

-- each INN is of twelve bytes
abbrev pub Sized : List Line → Type 0
Sized [] = Unit
Sized (p ∷ ps) = (length p.0 ≡ 12) × Sized ps

pub lines_long : (ps : List Line) → Sized ps → length (lines_bytes ps) ≡ length ps * 20
unfolding lines_bytes
lines_long [] s = refl
lines_long (p ∷ ps) s = simp length-append (omega (arith, s.0, lines_long ps s.1))

-- the bytes before the sum of line k
abbrev front : List Line → ℕ → List ℕ
front ps k = lines_bytes (take k ps) ++ (get_or ps k ([], 0)).0

front_long : (ps : List Line) → Sized ps → (k : ℕ) → k < length ps → length (front ps k) ≡ k * 20 + 12
unfolding lines_bytes
front_long [] s k h = absurd (omega arith)
front_long (p ∷ ps) s zero h = s.0
front_long (p ∷ ps) s (suc k) h = simp length-append (omega (arith, s.0, simp length-append at (front_long ps s.1 k (omega arith))))

sized-at : (ps : List Line) → Sized ps → (k : ℕ) → k < length ps → length (get_or ps k ([], 0)).0 ≡ 12
sized-at [] s k h = absurd (omega arith)
sized-at (p ∷ ps) s zero h = s.0
sized-at (p ∷ ps) s (suc k) h = sized-at ps s.1 k (omega arith)

-- the sum of line k, in the output and changed there
module _ (o : List ℕ) (ps : List Line) (s : Sized ps) (k : ℕ) (h : k < length ps) where
  abbrev here : Line
  here = get_or ps k ([], 0)

  abbrev back : List ℕ
  back = lines_bytes (drop (suc k) ps) ++ drop (length (front ps k) + 8 + length (lines_bytes (drop (suc k) ps))) o

  -- the output with n as the sum
  with-sum : (n : ℕ) → put o 0 (lines_bytes (set ps k (here.0, n))) ≡ front ps k ++ (bytes_of 8 n ++ back)
  unfolding put lines_bytes
  with-sum n =
      let e = ap lines_bytes (set_split ps k (here.0, n) h) ∙ lines-append (take k ps) ((here.0, n) ∷ drop (suc k) ps) in
      let l : 0 + length (lines_bytes (set ps k (here.0, n))) ≡ length (front ps k) + 8 + length (lines_bytes (drop (suc k) ps)) = rw e (simp length-append (omega arith)) in
      rw (l, e) (simp append_assoc)

  as-it-is : put o 0 (lines_bytes ps) ≡ front ps k ++ (bytes_of 8 here.1 ++ back)
  as-it-is = ap (λ (qs : List Line). put o 0 (lines_bytes qs)) (sym (set-get_or ps k ([], 0))) ∙ with-sum here.1

  pub read-sum : here.1 < 2 ^ 64 → big_at (put o 0 (lines_bytes ps)) (k * 20 + 12) ≡ here.1
  read-sum b = cc (as-it-is, drop_at (front ps k) (bytes_of 8 here.1 ++ back) (k * 20 + 12) (front_long ps s k h), big-bytes 8 here.1 b)

  pub read-inn : take 12 (drop (k * 20) (put o 0 (lines_bytes ps))) ≡ here.0
  read-inn =
      let g = lines_bytes (take k ps) in
      let d = sized-at ps s k h in
      let l : length g ≡ k * 20 = omega (arith, front_long ps s k h, length-append g here.0) in
      cc (as-it-is, append_assoc g here.0 (bytes_of 8 here.1 ++ back), drop_at g (here.0 ++ (bytes_of 8 here.1 ++ back)) (k * 20) l, take_at here.0 (bytes_of 8 here.1 ++ back) 12 d)

  pub put-sum : (n : ℕ) → put (put o 0 (lines_bytes ps)) (k * 20 + 12) (bytes_of 8 n) ≡ put o 0 (lines_bytes (set ps k (here.0, n)))
  unfolding put
  put-sum n =
      let y = bytes_of 8 here.1 in
      let l = front_long ps s k h in
      let d = drop_at (front ps k ++ y) back (k * 20 + 12 + 8) (length-append (front ps k) y ∙ omega arith) in
      cc (as-it-is, with-sum n, take_at (front ps k) (y ++ back) (k * 20 + 12) l, append_assoc (front ps k) y back, append_assoc (front ps k) (bytes_of 8 n) back)

-- ---- what is known of the lines before i

digits-12 : (t : Text) → inn12 t ≡ true → digits 12 t ≡ true
digits-12 t e = (both (digits 12 t) _ (both (digits_not_00 12 t) (check_digit weights11 t && check_digit weights12 t) e).0).0

sized-others : (t : Text) (ps : List Line) → Sized ps → Sized (others t ps)
sized-others t [] s = tt
sized-others t (p ∷ ps) s = cases (same p.0 t) (λ e. rw e (sized-others t ps s.1)) (λ e. rw e (s.0, sized-others t ps s.1))

pub pooled-sized : (ls : List Line) (i : ℕ) → lines_right ls ≡ true → Sized (pooled (take i ls))
unfolding lines_right
pooled-sized ls zero e = rw pooled-none tt
pooled-sized [] (suc i) e = rw pooled-none tt
pooled-sized (l ∷ ls) (suc i) e =
    let p = both (line_right l) (lines_right ls) e in
    let d = digits-12 l.0 (both (inn12 l.0) (is_amount l.1) p.0).0 in
    rw (pooled-first l (take i ls)) (digits-sized l.0 12 true (sym d) refl, sized-others l.0 (pooled (take i ls)) (pooled-sized ls i p.1))

pub at_most : (ps : List Line) (j : ℕ) → j < length ps → (get_or ps j ([], 0)).1 ≤ total_of ps
unfolding total_of
at_most [] j h = absurd (omega arith)
at_most (p ∷ ps) zero h = omega arith
at_most (p ∷ ps) (suc j) h = omega (arith, at_most ps j (omega arith))

-- the number of a line's INN
abbrev inn_number : Line → ℕ
inn_number l = number 12 l.0

-- ---- the loop

-- the lines before i, pooled
abbrev pub first : List ℕ → ℕ → List Line
first t i = pooled (take i (lines_of t))

pub record SoFar (t o : List ℕ) (i count : ℕ) (numbers output : List ℕ) : Type 0 where
  pub asked : (register_right t ≡ true) × (10000 ≤ length o)
  pub within : i ≤ length t / 20
  pub few : count ≤ i
  pub many : count ≡ length (first t i)
  pub room : length numbers ≡ 500
  pub known : take count numbers ≡ map inn_number (first t i)
  pub bytes : output ≡ put o 0 (lines_bytes (first t i))

pub none_yet : (t o : List ℕ) (count : ℕ) (numbers : List ℕ) → (register_right t ≡ true) × (10000 ≤ length o) → count ≡ 0 → length numbers ≡ 500 → SoFar t o 0 count numbers o
unfolding pooled appearing lines_bytes
none_yet t o count numbers a z l = record { asked = a; within = omega arith; few = omega arith; many = z; room = l; known = rw z refl; bytes = sym (put-none o) }

module _ {t o : List ℕ} {i count : ℕ} {numbers output : List ℕ} (s : SoFar t o i count numbers output) where
  abbrev all_right : lines_right (lines_of t) ≡ true
  all_right = (whole_of t s.asked.0).3

  pub most-lines : length t / 20 ≤ 500
  most-lines = (whole_of t s.asked.0).2

  inn-digits : i < length t / 20 → digits 12 (line_at t i).0 ≡ true
  inn-digits h =
      let q = (right-at (lines_of t) all_right i (omega (arith, lines-length t, h))).0 in
      digits-12 (line_at t i).0 (ap (λ (l : Line). inn12 l.0) (sym (lines_at t i h)) ∙ q)

  bytes-long : length (lines_bytes (first t i)) ≡ count * 20
  bytes-long = lines_long (first t i) (pooled-sized (lines_of t) i all_right) ∙ omega (arith, s.many)

  pub kept-long : length output ≡ length o
  kept-long = ap length s.bytes ∙ length-put o 0 (lines_bytes (first t i)) (omega (arith, bytes-long, s.few, s.within, most-lines, s.asked.1))

  pub all-pooled : length t / 20 ≤ i → (count ≡ length (pooled (lines_of t))) × (output ≡ put o 0 (lines_bytes (pooled (lines_of t))))
  all-pooled h =
      let e = lines-all t i h in
      (cc s.many, cc s.bytes)

-- a turn of the loop: line i has the INN whose number n was looked for and found at `place`, or not
pub record Turn (t o : List ℕ) (i count : ℕ) (numbers output : List ℕ) (n : ℕ) (place : Option ℕ) : Type 0 where
  pub before : SoFar t o i count numbers output
  pub more : i < length t / 20
  pub inn : n ≡ number 12 (line_at t i).0
  pub finds : Finds numbers count n place

module _ {t o : List ℕ} {i count : ℕ} {numbers output : List ℕ} {n : ℕ} {place : Option ℕ} (w : Turn t o i count numbers output n place) where
  abbrev line : Line
  line = line_at t i

  abbrev lines : List Line
  lines = first t i

  number_at : (j : ℕ) → j < count → get_or numbers j 0 ≡ inn_number (get_or lines j ([], 0))
  number_at j k =
      let m : j < length (map inn_number lines) = omega (arith, length-map lines inn_number, w.before.many, k) in
      cc (get_or-take count numbers j 0 k, w.before.known, drop-cons (map inn_number lines) j 0 m, drop-cons (map inn_number lines) j (inn_number ([], 0)) m, get_or-map inn_number lines j ([], 0))

  known_at : (k : ℕ) → place ≡ Some k → HasAt line lines k
  known_at k p =
      let u = line.0 in
      let v = (get_or lines k ([], 0)).0 in
      let f = w.finds.found k p in
      let e : number 12 u ≡ number 12 v = sym w.inn ∙ sym f.1 ∙ number_at k f.0 in
      same_true v u (is_number 12 v u (digits-coded 12 u (inn-digits w.before w.more)) ∙ eq-eqb (number 12 u) (number 12 v) e)

  has-none : place ≡ None → (j : ℕ) → j < length lines → HasAt line lines j → ⊥
  has-none k j l e =
      let m : j < count = omega (arith, w.before.many, l) in
      w.finds.missing k j m (number_at j m ∙ ap (number 12) e ∙ sym w.inn)

  pub table-room : count < 500
  table-room = omega (arith, w.before.few, w.more, most-lines w.before)

  -- the INN is known: its sum grows
  module _ (at : ℕ) (p : place ≡ Some at) where
    known : at < count
    known = (w.finds.found at p).0

    below : at < length lines
    below = omega (arith, w.before.many, known)

    sum-small : (get_or lines at ([], 0)).1 ≤ 500000000000000
    sum-small = omega (arith, at_most lines at below, pooled-total (take i (lines_of t)), total-most t w.before.asked.0 i w.before.within)

    sum-read : big_at output (at * 20 + 12) ≡ (get_or lines at ([], 0)).1
    sum-read = ap (λ (d : List ℕ). big_at d (at * 20 + 12)) w.before.bytes ∙ read-sum o lines (pooled-sized (lines_of t) i (all_right w.before)) at below (omega (arith, sum-small))

    pub add-asked : (v : ℕ) → v ≡ line.1 → (at * 20 + 20 ≤ length output) × (big_at output (at * 20 + 12) + v < 2 ^ 64)
    add-asked v e = (
      omega (arith, kept-long w.before, w.before.asked.1, w.before.few, w.before.within, most-lines w.before, known),
      omega (arith, sum-read, sum-small, e, total-next t i w.more, total-most t w.before.asked.0 (i + 1) (omega (arith, w.more))),
    )

    pub sum-grown : (v : ℕ) (e : List ℕ) → v ≡ line.1 → e ≡ put output (at * 20 + 12) (bytes_of 8 (big_at output (at * 20 + 12) + v)) → SoFar t o (i + 1) count numbers e
    sum-grown v e ev ee =
        let l = get_or lines at ([], 0) in
        let q : first t (i + 1) ≡ set lines at (l.0, l.1 + line.1) = ap pooled (lines_next t i w.more) ∙ pooled-at line (take i (lines_of t)) at below (known_at at p) in
        record {
          asked = w.before.asked;
          within = omega (arith, w.more);
          few = omega (arith, w.before.few);
          many = cc (w.before.many, q, length-set lines at (l.0, l.1 + line.1));
          room = w.before.room;
          known = cc (w.before.known, q, map-set_same inn_number lines at (l.0, l.1 + line.1) ([], 0) refl);
          bytes = cc (ee, w.before.bytes, sum-read, ev, put-sum o lines (pooled-sized (lines_of t) i (all_right w.before)) at below (l.1 + line.1), q);
        }

  -- the INN is new: its line is copied
  pub line-copied : place ≡ None → Bytes t → (e : List ℕ) → e ≡ put_at output (count * 20) (take 20 (drop (i * 20) t)) → SoFar t o (i + 1) (count + 1) (set numbers count n) e
  unfolding lines_bytes
  line-copied k f e ee =
      let q : first t (i + 1) ≡ lines ++ line ∷ [] = ap pooled (lines_next t i w.more) ∙ pooled-new line (take i (lines_of t)) (has-none k) in
      let b = line-whole t i (omega (arith, w.more)) f in
      let c : count < length numbers = omega (arith, w.before.room, table-room) in
      let d = digits-sized line.0 12 true (sym (inn-digits w.before w.more)) refl in
      let m = lines_long (line ∷ []) (d, tt) in
      let next = put_next o (lines_bytes lines) (lines_bytes (line ∷ [])) output (count * 20) (bytes-long w.before) (omega (arith, m, c, w.before.room, w.before.asked.1)) w.before.bytes in
      record {
        asked = w.before.asked;
        within = omega (arith, w.more);
        few = omega (arith, w.before.few);
        many = cc (w.before.many, q, length-append lines (line ∷ []));
        room = length-set numbers count n ∙ w.before.room;
        known = cc (add-one count, take-suc-set numbers count n c, w.before.known, w.inn, q, map-append inn_number lines (line ∷ []));
        bytes = cc (ee, b, append-nil (line_bytes line), next, q, lines-append lines (line ∷ []));
      }
