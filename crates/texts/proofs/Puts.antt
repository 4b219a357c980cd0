-- Laws of `put`: what stands before, in and behind the part that was put in.
use mathlib.Core.Path.{◌≡◌, refl, sym, ap, ◌∙◌}
use mathlib.Core.List.{List, [], ◌++◌, append_assoc, append-nil}
use mathlib.Core.Logic.{◌⊎◌, inl, inr}
use Prim.Native.Nat.{ℕ, ◌+◌, ◌-◌, ◌<◌, ◌≤◌}
use native.Mathlib.Nat.{zero-add}
use native.Mathlib.Omega.{arith}
use borrow.Rule.Slice.PartMut.{put_mid}
use borrow.Author.Tests.{le-leb, lt-leb}
use lib.ListN.{length, take, drop, replicate, length-append, length-drop, length-replicate, take-append-drop, replicate-append-replicate}
use lib.Seq.{take_at, drop_at, drop-length, length-take-le, drop-drop, take-append-le, drop-append-le}
use Rattle.texts.specs.Buffers.{put}
use Rattle.texts.specs.Working.Writing.{put_at, Wrote}

-- a part of the front
part-front : (x r : List ℕ) (a n : ℕ) → a + n ≤ length x → take n (drop a (x ++ r)) ≡ take n (drop a x)
part-front x r a n h = rw (drop-append-le a x r (omega arith)) (take-append-le n (drop a x) r (omega (arith, length-drop a x)))

module _ (d : List ℕ) (at : ℕ) (s : List ℕ) where
  pub put-fits : at + length s ≤ length d → put_at d at s ≡ put d at s
  unfolding put_at
  put-fits h = simp (le-leb _ _ h)

  pub put-not : length d < at + length s → put_at d at s ≡ d
  unfolding put_at
  put-not h = simp (lt-leb _ _ h)

  -- what std says of a part that was copied over
  pub put_mid-put : (x : List ℕ) → x ≡ s → at + length s ≤ length d → put_mid at (at + length s - at) d x ≡ put_at d at s
  unfolding put_at put
  put_mid-put x e h =
      let k : at + length s - at ≡ length s = omega arith in
      rw (e, k, drop-drop (length s) at d) (sym (append_assoc (take at d) s _) ∙ sym (put-fits h))

  pub length-put : at + length s ≤ length d → length (put d at s) ≡ length d
  unfolding put
  length-put h = simp (length-append, length-drop, length-take-le at d (omega arith)) (omega arith)

  front : at ≤ length d → length (take at d ++ s) ≡ at + length s
  front l = length-append (take at d) s ∙ simp (length-take-le at d l)

  pub drop-put : (k : ℕ) → at + length s ≤ k → at ≤ length d → drop k (put d at s) ≡ drop k d
  unfolding put
  drop-put k h l =
      let e : at + length s + (k - (at + length s)) ≡ k = omega arith in
      rw (← e, ← drop-drop (k - (at + length s)) (at + length s) d, ← drop-drop (k - (at + length s)) (at + length s) (take at d ++ s ++ drop (at + length s) d))
      (ap (drop (k - (at + length s))) (drop_at (take at d ++ s) (drop (at + length s) d) (at + length s) (front l)))

  pub mid-put : (n : ℕ) → length s ≡ n → at ≤ length d → take n (drop at (put d at s)) ≡ s
  unfolding put
  mid-put n e l =
      rw (append_assoc, drop_at (take at d) (s ++ drop (at + length s) d) at (length-take-le at d l)) (take_at s (drop (at + length s) d) n e)

  -- a part that ends before what was put in, or begins behind it
  pub part-put : (a n : ℕ) → (a + n ≤ at) ⊎ (at + length s ≤ a) → at + length s ≤ length d → take n (drop a (put d at s)) ≡ take n (drop a d)
  unfolding put
  part-put a n (inl h) l =
      let e = length-take-le at d (omega arith) in
      let f = front (omega arith) in
      part-front (take at d ++ s) (drop (at + length s) d) a n (omega arith)
      ∙ part-front (take at d) s a n (omega arith)
      ∙ sym (part-front (take at d) (drop at d) a n (omega arith))
      ∙ rw (take-append-drop at d)
  part-put a n (inr h) l = ap (take n) (drop-put a h (omega arith))

  -- what is put in behind what was put in
  pub put-put : (t : List ℕ) (n : ℕ) → at + length s ≡ n → n + length t ≤ length d → put (put d at s) n t ≡ put d at (s ++ t)
  unfolding put
  put-put t n e h =
      let l : length (take at d ++ s) ≡ n = front (omega arith) ∙ e in
      let m : n + length t ≡ at + length (s ++ t) = omega (arith, length-append s t) in
      rw (take_at (take at d ++ s) (drop (at + length s) d) n l, drop-put (n + length t) (omega arith) (omega arith), m, append_assoc (take at d) s t)

-- the whole replaced, and nothing put in
pub put_whole : (d s : List ℕ) → length s ≡ length d → put d 0 s ≡ s
unfolding put
put_whole d s e = rw (zero-add, e, drop-length) (append-nil s)

pub put-none : (d : List ℕ) → put d 0 [] ≡ d
unfolding put
put-none d = refl

-- a loop's turn: the next piece comes behind the pieces so far
pub put_next : (d s t x : List ℕ) (n : ℕ) → length s ≡ n → n + length t ≤ length d → x ≡ put d 0 s → put_at x n t ≡ put d 0 (s ++ t)
put_next d s t x n e h p =
    let l : length x ≡ length d = ap length p ∙ length-put d 0 s (omega arith) in
    put-fits x n t (omega arith) ∙ rw p (put-put d 0 s t n (omega arith) h)

-- put into zero bytes, the rest stays zero
pub put-zeros : (s : List ℕ) (n k : ℕ) → length s ≡ n → put (replicate (n + k) 0) 0 s ≡ s ++ replicate k 0
unfolding put
put-zeros s n k e = rw (zero-add, e, ← replicate-append-replicate {A = ℕ} n k 0, drop_at {A = ℕ} (replicate n 0) (replicate k 0) n (length-replicate {A = ℕ} n 0))

-- the same text by another name; what is written behind what was written
pub wrote_as : (b e : List ℕ) (at r : ℕ) (t u : List ℕ) → t ≡ u → Wrote b at t r e → Wrote b at u r e
wrote_as b e at r t u h w = (w.0 ∙ ap (put b at) h, w.1 ∙ ap (λ (x : List ℕ). at + length x) h)

pub wrote_then : (b c e : List ℕ) (at r q : ℕ) (t u : List ℕ) → Wrote b at t r c → Wrote c r u q e → q ≤ length b → Wrote b at (t ++ u) q e
wrote_then b c e at r q t u w v h = (
  v.0 ∙ rw (w.0, w.1) (put-put b at t u (at + length t) refl (omega (arith, w.1, v.1))),
  omega (arith, w.1, v.1, length-append t u),
)
