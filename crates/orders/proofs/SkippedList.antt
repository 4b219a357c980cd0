-- R-14: the skipped statuses, each once.
use mathlib.Core.Path.{◌≡◌, refl, sym, ap, ◌∙◌}
use mathlib.Core.Logic.{⊎_elim}
use mathlib.Core.Bool.{Bool, true, false, not, cond, ◌||◌, false≢true}
use mathlib.Core.List.Memᴰ
use mathlib.Core.List.{List, [], ◌∷◌, Memᴰ}
use Prim.Native.Nat.{ℕ, zero, suc, ◌+◌}
use native.Mathlib.Omega.{arith}
use borrow.Author.Tests.{not-true}
use lib.ListN.{length, take}
use Rattle.texts.specs.Texts.{any, same}
use Rattle.texts.proofs.Bools.{both, and2}
use Rattle.sheets.specs.Sheet.{Sheet, cell_of}
use Rattle.sheets.specs.Dates.{those}
use Rattle.sheets.specs.declared.dates.Dates.{Dates}
use Rattle.fillings.specs.Fillings.{distinct, entry_place, Look, found, none}
use Rattle.fillings.specs.Filled.{tally}
use Rattle.fillings.proofs.Distinct.{choice-once}
use Rattle.orders.specs.Fillings.{first_filling}
use Rattle.orders.specs.Skipping.{status_slot, statuses_of, fails, up_to, skipped_of, AreSkipped}
use Rattle.orders.proofs.Caught.{alike-by, fails-each, all-skipped}
use Rattle.orders.proofs.Lists.{proper}

module _ (p : List ℕ → Bool) where
  tally-those : (l : List (List ℕ)) → tally p l ≡ length (those p l)
  tally-those [] = refl
  tally-those (x ∷ l) = go (p x) (tally-those l)
    where
      go : (b : Bool) → tally p l ≡ length (those p l) → cond b 1 0 + tally p l ≡ length (cond b (x ∷ those p l) (those p l))
      go true e = omega (arith, e)
      go false e = omega (arith, e)

  of-those : (l : List (List ℕ)) (x : List ℕ) → Memᴰ x (those p l) → Memᴰ x l × (p x ≡ true)
  of-those [] x m = absurd (Memᴰ.not-nil m)
  of-those (y ∷ l) x m = go (p y) refl m (of-those l x)
    where
      go : (b : Bool) → p y ≡ b → Memᴰ x (cond b (y ∷ those p l) (those p l)) → (Memᴰ x (those p l) → Memᴰ x l × (p x ≡ true)) → Memᴰ x (y ∷ l) × (p x ≡ true)
      go true e n f = ⊎_elim (λ h. (Memᴰ.head h, ap p h ∙ e)) (λ t. let q = f t in (Memᴰ.tail q.0, q.1)) (Memᴰ.cases_cons n)
      go false e n f = let q = f n in (Memᴰ.tail q.0, q.1)

  in-those : (l : List (List ℕ)) (x : List ℕ) → Memᴰ x l → p x ≡ true → Memᴰ x (those p l)
  in-those [] x m e = absurd (Memᴰ.not-nil m)
  in-those (y ∷ l) x m e = go (p y) refl (λ t. in-those l x t e)
    where
      go : (b : Bool) → p y ≡ b → (Memᴰ x l → Memᴰ x (those p l)) → Memᴰ x (cond b (y ∷ those p l) (those p l))
      go true h f = ⊎_elim (λ k. Memᴰ.head k) (λ t. Memᴰ.tail (f t)) (Memᴰ.cases_cons m)
      go false h f = ⊎_elim (λ k. absurd (false≢true (sym h ∙ ap p (sym k) ∙ e))) f (Memᴰ.cases_cons m)

  -- what none of a list is, none of those is
  none-those : (q : List ℕ → Bool) (l : List (List ℕ)) → any q l ≡ false → any q (those p l) ≡ false
  unfolding any
  none-those q [] e = refl
  none-those q (x ∷ l) e = go (p x) (q x) refl e (λ h. none-those q l h)
    where
      go : (b c : Bool) → q x ≡ c → (c || any q l) ≡ false → (any q l ≡ false → any q (those p l) ≡ false) → any q (cond b (x ∷ those p l) (those p l)) ≡ false
      go b true y h k = absurd (false≢true (sym h))
      go true false y h k = rw y (k h)
      go false false y h k = k h

  once-those : (l : List (List ℕ)) → distinct l ≡ true → distinct (those p l) ≡ true
  unfolding distinct
  once-those [] e = refl
  once-those (x ∷ l) e =
      let w = both (not (any (same x) l)) (distinct l) e in
      go (p x) (once-those l w.1) (ap not (none-those (same x) l (not-true (any (same x) l) w.0)))
    where
      go : (b : Bool) → distinct (those p l) ≡ true → not (any (same x) (those p l)) ≡ true → distinct (cond b (x ∷ those p l) (those p l)) ≡ true
      go true d n = and2 (not (any (same x) (those p l))) (distinct (those p l)) n d
      go false d n = d

-- the same of the first of a list
none-take : (q : List ℕ → Bool) (n : ℕ) (l : List (List ℕ)) → any q l ≡ false → any q (take n l) ≡ false
unfolding any
none-take q zero l e = refl
none-take q (suc n) [] e = refl
none-take q (suc n) (x ∷ l) e = go (q x) e (none-take q n l)
  where
    go : (c : Bool) → (c || any q l) ≡ false → (any q l ≡ false → any q (take n l) ≡ false) → (c || any q (take n l)) ≡ false
    go true h k = h
    go false h k = k h

once-take : (n : ℕ) (l : List (List ℕ)) → distinct l ≡ true → distinct (take n l) ≡ true
unfolding distinct
once-take zero l e = refl
once-take (suc n) [] e = refl
once-take (suc n) (x ∷ l) e =
    let w = both (not (any (same x) l)) (distinct l) e in
    and2 (not (any (same x) (take n l))) (distinct (take n l)) (ap not (none-take (same x) n l (not-true (any (same x) l) w.0))) (once-take n l w.1)

once-up : (xs : List (List ℕ)) (k : Look Sheet) → distinct xs ≡ true → distinct (up_to xs k) ≡ true
once-up xs (found n t) e = once-take (suc (entry_place xs (cell_of t status_slot))) xs e
once-up xs (none n) e = e

pub are-skipped : (D : Dates) (s : Sheet) → AreSkipped D s (skipped_of D s)
unfolding skipped_of
are-skipped D s =
    let us = up_to (statuses_of D s) (first_filling D s) in
    record {
      list = those (fails D s) us;
      count = tally-those (fails D s) us;
      holds = λ x. (of-those (fails D s) us x, λ h. in-those (fails D s) us x h.0 h.1);
      once = once-those (fails D s) us (once-up (statuses_of D s) (first_filling D s) (choice-once (proper D) s status_slot));
      alike = alike-by D s;
      caught = λ z b n. (fails-each D s z b n, all-skipped D s z b n);
    }
