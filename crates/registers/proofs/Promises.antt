-- What `pool` promises, on each way through it.
use mathlib.Core.Path.{◌≡◌, refl, ap, sym, ◌∙◌}
use mathlib.Core.Bool.{Bool, true, false, ◌&&◌, true≢false}
use mathlib.Core.List.{List, [], ◌∷◌}
use Prim.Native.Nat.{ℕ, suc, ◌+◌, ◌-◌, ◌*◌, ◌/◌, ◌≤◌, ◌<◌}
use native.Mathlib.Omega.{arith}
use borrow.Author.Tests.{lt-ltb, le-ltb, eq-eqb, ne_eqb}
use lib.IntN.{ℤ, pos, negsuc, ◌+ℤ◌}
use lib.ListN.{length, take, drop}
use lib.Seq.{take-length}
use Rattle.texts.specs.Numbers.{big}
use Rattle.texts.specs.Answers.{success, refusal}
use Rattle.texts.specs.Buffers.{put}
use Rattle.texts.proofs.Bools.{both}
use Rattle.texts.proofs.Puts.{mid-put, drop-put}
use Rattle.texts.proofs.Refusals.{no-success, Way, way_out}
use Rattle.registers.specs.Register.{Line, lines_bytes, lines_of, register_right, order_right, pooled, total_of}
use Rattle.registers.specs.Pool.{output_size, more, less, pool_tests, pooling, pooled_to, pool_answer, HasLines, IsRegister, Pools}
use Rattle.std.specs.Prelude.{Result, Ok, Err}
use Rattle.texts.specs.Refusals.{refusal_number}
use Rattle.texts.specs.declared.answers.Refusal.{Refusal}
use Rattle.texts.specs.declared.answers.Refusal.TheVariants.{WrongSize, BadRegister}
use Rattle.registers.specs.declared.pool.Unpooled.{Unpooled}
use Rattle.registers.specs.declared.pool.Unpooled.TheVariants.{Differs, Refused}
use Rattle.registers.proofs.Pooling.{pooled-total, is-pool}
use Rattle.registers.proofs.Registers.{whole_of, lines-all, total-most, is-register, register-is}
use Rattle.registers.proofs.Outputs.{lines_long, pooled-sized, at_most, read-inn, read-sum}

-- the signed difference of two amounts
abbrev Difference : ℕ → ℕ → ℤ → Type 0
Difference t a r = (more r ≡ t - a) × (less r ≡ a - t)

signed-sum : (s a : ℕ) (d : ℤ) → Difference s a d → pos s ≡ pos a +ℤ d
signed-sum s a (pos m) (y, z) = let q : s ≡ a + m = omega arith in ap pos q
signed-sum s a (negsuc m) (y, z) =
    let q : a - suc m ≡ s = omega arith in
    rw (le-ltb a (suc m) (omega arith)) (ap pos (sym q))

-- what is known where 7 and 16 are not answered
pub record Passed (t : List ℕ) (a : ℕ) (o : List ℕ) : Type 0 where
  pub room : output_size ≤ length o
  pub right : (register_right t && order_right a) ≡ true

module _ (t : List ℕ) (a : ℕ) (o : List ℕ) where
  abbrev total : ℕ
  total = total_of (lines_of t)

  abbrev lines : List Line
  lines = pooled (lines_of t)

  abbrev bytes : List ℕ
  bytes = lines_bytes lines

  -- the answer and the output, by the way out
  pool-out : (k : ℕ) (x : Result ℕ Unpooled) (e : List ℕ) → Way (length lines ∷ []) (put o 0 bytes) o (pool_answer x) e ((pool_answer x ≡ pooling t a o) × (e ≡ pooled_to t a o)) k (pool_tests t a o)
  unfolding pooling pooled_to
  pool-out k x e = way_out _ _ _ _ e _ k (pool_tests t a o) (λ p q. (p, q))

  -- one of 7 and 16
  refuses : (j : Refusal) (k : ℕ) → refusal_number j ≡ k → (1 ≤ k) × (k ≤ 16) → (refusal k [] ≡ pooling t a o) × (o ≡ pooled_to t a o)
      → (length o < output_size → k ≡ 7) × (output_size ≤ length o → (k ≡ 16) × (IsRegister t a → ⊥)) → Pools t a o (Err (Refused j)) o
  unfolding pool_answer
  refuses j k ej (low, high) p w = record {
    answer = ap (λ (m : ℕ). refusal m []) ej ∙ p.0;
    output = p.1;
    exactly = (λ z. absurd (omega (arith, z, ej)), λ g. absurd ((w.1 g.0).1 g.1));
    refused = λ n vs h. refl;
    others = λ n vs h. let q : n ≡ k = cc in rw q (w.0, λ l f. (w.1 l).0, λ l g. absurd ((w.1 l).1 g));
    differs = λ m l h. let q : k ≡ 17 = cc in absurd (omega arith);
    made = λ n h. absurd (no-success (refusal_number j) [] (n ∷ []) h);
    holds = λ n h. absurd (no-success (refusal_number j) [] (n ∷ []) (ap pool_answer h));
    signed = λ d h. let f = ap pool_answer h in let q : k ≡ 17 = cc in absurd (omega arith);
    number = λ n h. let q : refusal_number n ≡ k = cc in (λ l. q ∙ w.0 l, λ l. (q ∙ (w.1 l).0, (w.1 l).1), refl);
  }

  pub refused-7 : length o < output_size → Pools t a o (Err (Refused WrongSize)) o
  unfolding pool_tests pool_answer
  refused-7 l = refuses WrongSize 7 refl (omega arith, omega arith) (pool-out 0 (Err (Refused WrongSize)) o (lt-ltb _ _ l) refl refl) (λ m. refl, λ m. absurd (omega arith))

  pub refused-16 : output_size ≤ length o → (p q : Bool) → p ≡ register_right t → q ≡ order_right a → (p && q) ≡ false → Pools t a o (Err (Refused BadRegister)) o
  unfolding pool_tests pool_answer
  refused-16 l p q ep eq h =
      let s : (register_right t && order_right a) ≡ false = rw (← ep, ← eq) h in
      refuses BadRegister 16 refl (omega arith, omega arith) (pool-out 1 (Err (Refused BadRegister)) o (le-ltb _ _ l) (rw s) refl refl)
      (λ m. absurd (omega arith), λ m. (refl, λ g. true≢false (sym (register-is t a g) ∙ s)))

  module _ (w : Passed t a o) (s : ℕ) (es : s ≡ total) where
    right : IsRegister t a
    right = is-register t a w.right

    pub differs-17 : (s ≡ a → ⊥) → (d : ℤ) → Difference s a d → Pools t a o (Err (Differs d)) o
    unfolding pool_tests pool_answer
    differs-17 n d f =
        let p = pool-out 2 (Err (Differs d)) o (le-ltb _ _ w.room) (rw w.right) (rw (← es, ne_eqb s a n)) (rw (f.0, f.1, es)) refl in
        record {
          answer = p.0;
          output = p.1;
          exactly = (λ z. absurd (omega arith), λ g. absurd (n (es ∙ g.2)));
          refused = λ k vs h. refl;
          others = λ k vs h. let q : k ≡ 17 = cc in (λ l. absurd (omega (arith, w.room)), λ l g. absurd (g right), λ l g. q);
          differs = λ m l h. let y : more d ≡ m = cc in let z : less d ≡ l = cc in (right, omega (arith, f.0, f.1, es));
          made = λ k h. absurd (no-success 17 (more d ∷ less d ∷ []) (k ∷ []) h);
          holds = λ k h. absurd (no-success 17 (more d ∷ less d ∷ []) (k ∷ []) (ap pool_answer h));
          signed = λ c h. let q : c ≡ d = cc in rw q (w.room, right, rw (← es) (signed-sum s a d f), λ z. n (omega (arith, f.0, f.1, ap more z, ap less z)), refl);
          number = λ k h. let g = ap pool_answer h in let z : ◌≡◌ {A = ℕ} 2 0 = cc in absurd (omega arith);
        }

    pub made-0 : s ≡ a → (n : ℕ) (e : List ℕ) → (n ≡ length lines) × (e ≡ put o 0 bytes) → Pools t a o (Ok n) e
    unfolding pool_tests pool_answer
    made-0 q n e (en, ee) =
        let p = pool-out 3 (Ok n) e (le-ltb _ _ w.room) (rw w.right) (rw (← es, eq-eqb s a q)) (rw en) ee in
        let no : (k : ℕ) (vs : List ℕ) → success (n ∷ []) ≡ refusal k vs → ⊥ = λ k vs h. no-success k vs (n ∷ []) (sym h) in
        let agree : total ≡ a = sym es ∙ q in
        let u = (both (register_right t) (order_right a) w.right).0 in
        let sized = rw take-length at (pooled-sized (lines_of t) (length (lines_of t)) (whole_of t u).3) in
        let b : length bytes ≡ 20 * n = omega (arith, lines_long lines sized, en) in
        let m : total ≤ 500000000000000 = rw (lines-all t (length t / 20) (omega arith)) at (total-most t u (length t / 20) (omega arith)) in
        let rest : drop (20 * n) e ≡ drop (20 * n) o = ap (drop (20 * n)) ee ∙ drop-put o 0 bytes (20 * n) (omega (arith, b)) (omega arith) in
        let c : 20 * n ≡ n * 20 = omega arith in
        let has : HasLines e lines = record {
          inns = λ i l. ap (λ (d : List ℕ). take 12 (drop (i * 20) d)) ee ∙ read-inn o lines sized i l;
          kopecks = λ i l. ap (λ (d : List ℕ). big (take 8 (drop (i * 20 + 12) d))) ee ∙ read-sum o lines sized i l (omega (arith, at_most lines i l, pooled-total (lines_of t), m));
        } in
        let pool = is-pool (lines_of t) in
        record {
          answer = p.0;
          output = p.1;
          exactly = (λ z. (w.room, right, agree), λ g. refl);
          refused = λ k vs h. absurd (no k vs h);
          others = λ k vs h. absurd (no k vs h);
          differs = λ k l h. absurd (no 17 (k ∷ l ∷ []) h);
          made = λ k h. let y : k ≡ n = cc in rw y (lines, sym en, ap (take (20 * n)) ee ∙ mid-put o 0 bytes (20 * n) b (omega arith), rest, pool, pooled-total (lines_of t) ∙ agree);
          holds = λ k h. let y : k ≡ n = cc in rw y (w.room, right, (lines_of t, lines, omega (arith, right.whole), right.lines, sym en, has, rw c at rest, pool, agree));
          signed = λ d h. absurd (no 17 (more d ∷ less d ∷ []) (ap pool_answer h));
          number = λ k h. absurd (no (refusal_number k) [] (ap pool_answer h));
        }
