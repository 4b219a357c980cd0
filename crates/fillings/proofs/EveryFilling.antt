-- The list of fillings holds each filling of a sheet, and nothing else; a field that is not blank stays.
use mathlib.Core.Path.{◌≡◌, refl, sym, ap, ◌∙◌, subst}
use mathlib.Core.Logic.{⊎_elim}
use mathlib.Core.Bool.{Bool, true, false, not, cond, and-false}
use mathlib.Core.List.{List, [], ◌∷◌, map, Memᴰ}
use Prim.Native.Nat.{ℕ, zero, suc, ◌+◌, ◌<◌, ◌≤◌}
use native.Mathlib.Nat.{zero-add}
use native.Mathlib.Omega.{arith}
use borrow.Author.Tests.{leb-true, ne_eqb}
use lib.Dec.{leb}
use lib.ListN.{length, get_or}
use Rattle.texts.specs.Quoted.{Text}
use Rattle.texts.specs.Texts.{every, blank}
use Rattle.texts.proofs.Bools.{both}
use Rattle.sheets.specs.Sheet.{Sheet, cell, cell_text, slots, cell_of, text_of, text_max, given, cell_size, sheet_size, slot_count}
use Rattle.sheets.proofs.Frames.{text-cell, length-cell}
use Rattle.fillings.specs.Fillings.{Lists, to_fill, choices, each, product, joined, fillings, Filling}
use Rattle.fillings.specs.Working.Proper.{entry, Proper}
use Rattle.fillings.specs.Working.Places.{places}
use Rattle.fillings.proofs.Cells.{Sized, length-cellOf, sized-by, length-joined, cell-joined, joined-cells}

-- ---- one of each list

-- r has one entry of each list
pub data Drawn {A : Type 0} : List (List A) → List A → Type 0 where
  nothing : Drawn [] []
  one : {c r : List A} {cs : List (List A)} {x : A} → Memᴰ x c → Drawn cs r → Drawn (c ∷ cs) (x ∷ r)

module _ {A : Type 0} where
  -- a member of `each c rest` is an entry of c in front of a member of rest
  pub each-cases : (c : List A) (rest : List (List A)) (r : List A) → Memᴰ r (each c rest) → (x : A) × (t : List A) × Memᴰ x c × Memᴰ t rest × (x ∷ t ≡ r)
  each-cases [] rest r h = absurd (mathlib.Core.List.Memᴰ.not-nil h)
  each-cases (y ∷ c) rest r h =
      ⊎_elim
      (λ (q : Memᴰ r (map (λ (t : List A). y ∷ t) rest)). let w = mathlib.Core.List.Memᴰ.of_map (λ (t : List A). y ∷ t) rest q in (y, w.0, mathlib.Core.List.Memᴰ.head refl, w.1, w.2))
      (λ (q : Memᴰ r (each c rest)). let w = each-cases c rest r q in (w.0, w.1, mathlib.Core.List.Memᴰ.tail w.2, w.3, w.4))
      (mathlib.Core.List.Memᴰ.append_cases (map (λ (t : List A). y ∷ t) rest) h)

  pub product-drawn : (cs : List (List A)) (r : List A) → Memᴰ r (product cs) → Drawn cs r
  product-drawn [] r h = subst (Drawn []) (sym (mathlib.Core.List.Memᴰ.eq_of_singleton h)) nothing
  product-drawn (c ∷ cs) r h = let w = each-cases c (product cs) r h in subst (Drawn (c ∷ cs)) w.4 (one w.2 (product-drawn cs w.1 w.3))

  pub each_holds : {x : A} {c : List A} → Memᴰ x c → (rest : List (List A)) (r : List A) → Memᴰ r rest → Memᴰ (x ∷ r) (each c rest)
  each_holds (mathlib.Core.List.Memᴰ.head {x = y} {xs = ys} e) rest r q =
      mathlib.Core.List.Memᴰ.append_left (each ys rest) (mathlib.Core.List.Memᴰ.cast (ap (λ (z : A). z ∷ r) e) (mathlib.Core.List.Memᴰ.map (λ (t : List A). y ∷ t) q))
  each_holds (mathlib.Core.List.Memᴰ.tail {x = y} m) rest r q = mathlib.Core.List.Memᴰ.append_right (map (λ (t : List A). y ∷ t) rest) (each_holds m rest r q)

  drawn-product : {cs : List (List A)} {r : List A} → Drawn cs r → Memᴰ r (product cs)
  drawn-product nothing = mathlib.Core.List.Memᴰ.head refl
  drawn-product (one {r = r} {cs = cs} m d) = each_holds m (product cs) r (drawn-product d)

  length-drawn : {cs : List (List A)} {r : List A} → Drawn cs r → length r ≡ length cs
  length-drawn nothing = refl
  length-drawn (one m d) = ap suc (length-drawn d)

  drawn-at : (z : A) {cs : List (List A)} {r : List A} → Drawn cs r → (k : ℕ) → k < length cs → Memᴰ (get_or r k z) (get_or cs k [])
  drawn-at z nothing k l = absurd (omega arith)
  drawn-at z (one m d) zero l = m
  drawn-at z (one m d) (suc k) l = drawn-at z d k (omega arith)

  -- each entry of a list passes, by its place and as a member
  pub every-at : (p : A → Bool) (z : A) → p z ≡ true → (l : List A) → every p l ≡ true → (k : ℕ) → p (get_or l k z) ≡ true
  unfolding every
  every-at p z e [] h k = e
  every-at p z e (x ∷ l) h zero = (both (p x) (every p l) h).0
  every-at p z e (x ∷ l) h (suc k) = every-at p z e l (both (p x) (every p l) h).1 k

  pub every-mem : (p : A → Bool) {x : A} {l : List A} → every p l ≡ true → Memᴰ x l → p x ≡ true
  unfolding every
  every-mem p h (mathlib.Core.List.Memᴰ.head {x = y} {xs = l} e) = ap p e ∙ (both (p y) (every p l) h).0
  every-mem p h (mathlib.Core.List.Memᴰ.tail {x = y} {xs = l} m) = every-mem p (both (p y) (every p l) h).1 m

  pub at_places : (g : ℕ → A) (z : A) (n i k : ℕ) → k < n → get_or (map g (places n i)) k z ≡ g (i + k)
  unfolding places
  at_places g z zero i k l = absurd (omega arith)
  at_places g z (suc n) i zero l = ap g (omega arith)
  at_places g z (suc n) i (suc k) l = at_places g z n (suc i) k (omega arith) ∙ ap g (omega arith)

  pub at_slots : (g : ℕ → A) (z : A) (k : ℕ) → k < slot_count → get_or (map g slots) k z ≡ g k
  unfolding places
  at_slots g z k l = at_places g z slot_count 0 k l ∙ ap g (zero-add k)

pub length-places : (n i : ℕ) → length (places n i) ≡ n
unfolding places
length-places zero i = refl
length-places (suc n) i = ap suc (length-places n (suc i))

-- ---- fillings

-- an entry has 1 to 25 bytes
pub entry-sized : {L : Lists} → Proper L → (k : ℕ) (t : Text) → Memᴰ t (L k) → (1 ≤ length t) × (length t ≤ text_max)
entry-sized {L} P k t m =
    let p = both (leb 1 (length t)) (leb (length t) text_max) (every-mem entry (P.entries k) m) in
    (leb-true 1 (length t) p.0, leb-true (length t) text_max p.1)

module _ {L : Lists} (P : Proper L) (s : Sheet) where
  -- a field that is not blank stays
  pub given_stays : (f : Sheet) → Filling L s f → (k : ℕ) → k < slot_count → blank (text_of s k) ≡ false → cell_of f k ≡ cell_of s k
  unfolding choices to_fill
  given_stays f w k l e = mathlib.Core.List.Memᴰ.eq_of_singleton (rw (e, and-false) at (w.slot k l))

  -- what is put in is no blank
  pub choice-given : (k : ℕ) (x : List ℕ) → Memᴰ x (choices L s k) → not (blank (cell_text x)) ≡ cond (to_fill L s k) true (given s k)
  unfolding choices given text_of
  choice-given k x = go (to_fill L s k)
    where
      go : (b : Bool) → Memᴰ x (cond b (map cell (L k)) (cell_of s k ∷ [])) → not (blank (cell_text x)) ≡ cond b true (given s k)
      go true m =
          let w = mathlib.Core.List.Memᴰ.of_map cell (L k) m in
          let z = entry-sized P k w.0 w.1 in
          ap (λ (y : List ℕ). not (blank (cell_text y))) (sym w.2) ∙ rw (text-cell w.0, ne_eqb (length w.0) 0 (λ e. omega arith))
      go false m = ap (λ (y : List ℕ). not (blank (cell_text y))) (mathlib.Core.List.Memᴰ.eq_of_singleton m)

  module _ (sized : length s ≡ sheet_size) where
    pub choice-length : (k : ℕ) → k < slot_count → (x : List ℕ) → Memᴰ x (choices L s k) → length x ≡ cell_size
    unfolding choices
    choice-length k l x = go (to_fill L s k)
      where
        go : (b : Bool) → Memᴰ x (cond b (map cell (L k)) (cell_of s k ∷ [])) → length x ≡ cell_size
        go true m = let w = mathlib.Core.List.Memᴰ.of_map cell (L k) m in ap length (sym w.2) ∙ length-cell w.0 (entry-sized P k w.0 w.1).1
        go false m = ap length (mathlib.Core.List.Memᴰ.eq_of_singleton m) ∙ length-cellOf s k (omega arith)

    module _ (r : List (List ℕ)) (d : Drawn (map (choices L s) slots) r) where
      pub drawn-choice : (k : ℕ) → k < slot_count → Memᴰ (get_or r k []) (choices L s k)
      drawn-choice k l = subst (Memᴰ (get_or r k [])) (at_slots (choices L s) [] k l) (drawn-at [] d k l)

      drawn-sized : Sized r
      drawn-sized = sized-by r (λ k l. let h : k < slot_count = omega (arith, length-drawn d) in choice-length k h (get_or r k []) (drawn-choice k h))

      pub drawn-cell : (k : ℕ) → k < slot_count → cell_of (joined r) k ≡ get_or r k []
      drawn-cell k l = cell-joined r k drawn-sized (omega (arith, length-drawn d))

      drawn-filling : Filling L s (joined r)
      drawn-filling = record {
        sized = length-joined r drawn-sized ∙ omega (arith, length-drawn d);
        slot = λ k l. mathlib.Core.List.Memᴰ.cast (drawn-cell k l) (drawn-choice k l);
      }

    -- what the list holds is a filling
    pub filling-of : (f : Sheet) → Memᴰ f (fillings L s) → Filling L s f
    unfolding fillings
    filling-of f h =
        let w = mathlib.Core.List.Memᴰ.of_map joined (product (map (choices L s) slots)) h in
        subst (Filling L s) w.2 (drawn-filling w.0 (product-drawn (map (choices L s) slots) w.0 w.1))

    cells-drawn : (f : Sheet) → Filling L s f → (n i : ℕ) → i + n ≤ slot_count → Drawn (map (choices L s) (places n i)) (map (cell_of f) (places n i))
    unfolding places
    cells-drawn f w zero i b = nothing
    cells-drawn f w (suc n) i b = one (w.slot i (omega arith)) (cells-drawn f w n (suc i) (omega arith))

    -- and it holds each filling
    pub of-filling : (f : Sheet) → Filling L s f → Memᴰ f (fillings L s)
    unfolding fillings places
    of-filling f w =
        mathlib.Core.List.Memᴰ.cast (sym (joined-cells f w.sized))
        (mathlib.Core.List.Memᴰ.map joined (drawn-product (cells-drawn f w slot_count 0 (omega arith))))
