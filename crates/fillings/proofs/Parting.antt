-- R-14: the fillings of a sheet are, entry by entry of the field that varies slowest, the fillings of the sheet with that entry; so that an
-- entry of which no filling passes may be skipped whole.
use mathlib.Core.Path.{◌≡◌, refl, sym, ap, ◌∙◌, fun_ext}
use mathlib.Core.Bool.{Bool, true, false, not, cond, ◌&&◌, and-false}
use mathlib.Core.List.Memᴰ
use mathlib.Core.List.{List, [], ◌∷◌, ◌++◌, map, map-map, map-append, append-nil, Memᴰ}
use Prim.Native.Nat.{ℕ, zero, suc, ◌+◌, ◌<◌, ◌≤◌}
use native.Mathlib.Decide.{ℕ_discrete}
use native.Mathlib.Omega.{arith}
use borrow.Author.Tests.{lt-ltb, ltb-true}
use lib.Dec.{ltb}
use lib.ListN.{length, get_or, set, length-set}
use lib.Seq.{ext_get_or, get_or-set_same, get_or-set_other}
use Rattle.texts.specs.Texts.{blank}
use Rattle.sheets.specs.Sheet.{Sheet, slots, cell_text, cell_of, text_of, given, cell_size, sheet_size, slot_count}
use Rattle.sheets.specs.Working.Entries.{filled_at}
use Rattle.sheets.proofs.Frames.{filled-length}
use Rattle.fillings.specs.Fillings.{Lists, to_fill, choices, each, product, joined, Filling, width, look, fillings, first_filling}
use Rattle.fillings.specs.Working.Proper.{Proper}
use Rattle.fillings.specs.Working.Parts.{or_else, look_by}
use Rattle.fillings.proofs.Cells.{Cells, joined-cells, sized-cells, cell-joined, filled-joined, fill_cell}
use Rattle.fillings.proofs.EveryFilling.{at_slots, choice-given, choice-length, filling-of}
use Rattle.fillings.proofs.Counting.{length-choices}
use Rattle.fillings.proofs.Looking.{NonePass, look-over, look-append}
use Rattle.fillings.proofs.Taking.{choices_alike, fill-given}

-- ---- products

map-joined : {A B : Type 0} (g : A → B) (ls : List (List A)) → map g (joined ls) ≡ joined (map (map g) ls)
map-joined g [] = refl
map-joined {A} {B} g (l ∷ ls) = map-append g l (joined ls) ∙ ap (λ (k : List B). map g l ++ k) (map-joined g ls)

map-members : {A B : Type 0} (f g : A → B) (l : List A) → ((x : A) → Memᴰ x l → f x ≡ g x) → map f l ≡ map g l
map-members f g [] e = refl
map-members f g (x ∷ l) e = λ i. e x (Memᴰ.head refl) i ∷ map-members f g l (λ y m. e y (Memᴰ.tail m)) i

module _ {A : Type 0} where
  each-parts : (c : List A) (R : List (List A)) → each c R ≡ joined (map (λ (x : A). each (x ∷ []) R) c)
  each-parts [] R = refl
  each-parts (x ∷ c) R = λ i. sym (append-nil (map (λ (r : List A). x ∷ r) R)) i ++ each-parts c R i

  -- by the entries of list k, where those before have one entry each
  product-parts : (cs : List (List A)) (k : ℕ) → k < length cs → ((j : ℕ) → j < k → length (get_or cs j []) ≡ 1) → product cs ≡ joined (map (λ (x : A). product (set cs k (x ∷ []))) (get_or cs k []))
  product-parts [] k h o = absurd (omega arith)
  product-parts (c ∷ cs) zero h o = each-parts c (product cs)
  product-parts (c ∷ cs) (suc k) h o = go c (o 0 (omega arith)) (product-parts cs k (omega arith) (λ j l. o (suc j) (omega arith)))
    where
      go : (c : List A) → length c ≡ 1 → product cs ≡ joined (map (λ (x : A). product (set cs k (x ∷ []))) (get_or cs k []))
          → each c (product cs) ≡ joined (map (λ (x : A). each c (product (set cs k (x ∷ [])))) (get_or cs k []))
      go [] e i = absurd (omega arith)
      go (a ∷ b ∷ c) e i = absurd (omega arith)
      go (a ∷ []) e i =
          let front : List A → List A = λ r. a ∷ r in
          append-nil (map front (product cs)) ∙ ap (map front) i ∙ map-joined front (map (λ (x : A). product (set cs k (x ∷ []))) (get_or cs k []))
          ∙ ap joined (map-map (map front) (λ (x : A). product (set cs k (x ∷ []))) (get_or cs k [])
          ∙ map-members (λ (x : A). map front (product (set cs k (x ∷ [])))) (λ (x : A). each (a ∷ []) (product (set cs k (x ∷ [])))) (get_or cs k []) (λ x m. sym (append-nil (map front (product (set cs k (x ∷ [])))))))

-- ---- part by part

pub look-by : {A X : Type 0} (p : A → Bool) (part : X → List A) (skip : X → Bool) (xs : List X) (n : ℕ) → ((x : X) → Memᴰ x xs → skip x ≡ true → NonePass p (part x))
    → look_by p part skip n xs ≡ look p n (joined (map part xs))
unfolding look_by look
look-by p part skip [] n h = refl
look-by {A} {X} p part skip (x ∷ xs) n h =
    go (skip x) refl (λ m. look-by p part skip xs m (λ y q. h y (Memᴰ.tail q)))
  where
    go : (b : Bool) → skip x ≡ b → ((m : ℕ) → look_by p part skip m xs ≡ look p m (joined (map part xs)))
        → cond b (look_by p part skip (n + length (part x)) xs) (or_else (look p n (part x)) (λ (m : ℕ). look_by p part skip m xs)) ≡ look p n (part x ++ joined (map part xs))
    go true e i = i (n + length (part x)) ∙ sym (look-over p (part x) (joined (map part xs)) n (h x (Memᴰ.head refl) e))
    go false e i = ap (or_else (look p n (part x))) (fun_ext i) ∙ sym (look-append p (part x) (joined (map part xs)) n)

-- ---- fillings

-- a cell put into a blank slot
module _ (s : Sheet) (z : length s ≡ sheet_size) (k : ℕ) (lk : k < slot_count) (x : List ℕ) (lx : length x ≡ cell_size) where
  put-cell : (j : ℕ) → j < slot_count → cell_of (filled_at s k x) j ≡ get_or (fill_cell (map (cell_of s) slots) (k, x)) j []
  put-cell j l =
      let w = filled-joined ((k, x) ∷ []) (map (cell_of s) slots) (sized-cells s z) ((lk, lx), tt) in
      ap (λ (t : Sheet). cell_of (filled_at t k x) j) (sym (joined-cells s z)) ∙ ap (λ (t : Sheet). cell_of t j) w.0
      ∙ cell-joined (fill_cell (map (cell_of s) slots) (k, x)) j w.1 (omega (arith, length-set (map (cell_of s) slots) k (cond (blank (cell_text (get_or (map (cell_of s) slots) k []))) x (get_or (map (cell_of s) slots) k []))))

  pub put_other : (j : ℕ) → j < slot_count → (j ≡ k → ⊥) → cell_of (filled_at s k x) j ≡ cell_of s j
  put_other j l n = put-cell j l ∙ get_or-set_other (map (cell_of s) slots) k j _ [] n ∙ at_slots (cell_of s) [] j l

  pub put_same : cell_of (filled_at s k x) k ≡ cond (blank (text_of s k)) x (cell_of s k)
  unfolding text_of
  put_same = put-cell k lk ∙ get_or-set_same (map (cell_of s) slots) k _ [] lk ∙ rw (at_slots (cell_of s) [] k lk)

module _ {L : Lists} (P : Proper L) (s : Sheet) (z : length s ≡ sheet_size) (k : ℕ) (lk : k < slot_count) (some : 0 < length (L k)) (ones : (j : ℕ) → j < k → length (L j) ≤ 1) where
  module _ (x : List ℕ) (m : Memᴰ x (choices L s k)) where
    -- with an entry put in, no blank is left there
    entry-given : not (blank (cell_text x)) ≡ true
    unfolding to_fill given
    entry-given = choice-given P s k x m ∙ rw (lt-ltb 0 (length (L k)) some) (go (blank (text_of s k)))
      where
        go : (b : Bool) → cond (true && b) true (not b) ≡ true
        go true = refl
        go false = refl

    pub put-length : length (filled_at s k x) ≡ sheet_size
    put-length = filled-length s x k z lk (choice-length P s z k lk x m)

    size_of : length x ≡ cell_size
    size_of = choice-length P s z k lk x m

    put-there : cell_of (filled_at s k x) k ≡ x
    unfolding choices to_fill
    put-there = put_same s z k lk x size_of ∙ go (blank (text_of s k)) refl
      where
        go : (b : Bool) → blank (text_of s k) ≡ b → cond b x (cell_of s k) ≡ x
        go true e = refl
        go false e = sym (Memᴰ.eq_of_singleton (rw (e, and-false) at m))

    choices-put : map (choices L (filled_at s k x)) slots ≡ set (map (choices L s) slots) k (x ∷ [])
    choices-put =
        ext_get_or [] (map (choices L (filled_at s k x)) slots) (set (map (choices L s) slots) k (x ∷ []))
        (sym (length-set (map (choices L s) slots) k (x ∷ [])))
        (λ j l.
        at_slots (choices L (filled_at s k x)) [] j l
        ∙ elim (ℕ_discrete j k) [
          | yes e ↦ ap (choices L (filled_at s k x)) e ∙ (fill-given L (filled_at s k x) k x put-there entry-given).1 ∙ sym (ap (λ (i : ℕ). get_or (set (map (choices L s) slots) k (x ∷ [])) i []) e ∙ get_or-set_same (map (choices L s) slots) k (x ∷ []) [] lk)
          | no n ↦ choices_alike L s (filled_at s k x) j (put_other s z k lk x size_of j l n) ∙ sym (get_or-set_other (map (choices L s) slots) k j (x ∷ []) [] n ∙ at_slots (choices L s) [] j l)
        ])

  single : (j : ℕ) → j < k → length (get_or (map (choices L s) slots) j []) ≡ 1
  unfolding to_fill
  single j l = ap length (at_slots (choices L s) [] j (omega arith)) ∙ length-choices L s j ∙ go (ltb 0 (length (L j))) (blank (text_of s j)) (ltb-true 0 (length (L j)))
    where
      go : (a b : Bool) → (a ≡ true → 0 < length (L j)) → width (a && b) (length (L j)) ≡ 1
      go true true h = omega (arith, ones j l, h refl)
      go true false h = refl
      go false b h = refl

  pub by-entry : fillings L s ≡ joined (map (λ (x : List ℕ). fillings L (filled_at s k x)) (choices L s k))
  unfolding fillings
  by-entry =
      let cs = map (choices L s) slots in
      let part : List ℕ → List Cells = λ x. product (set cs k (x ∷ [])) in
      ap (map joined) (product-parts cs k lk single) ∙ map-joined joined (map part (get_or cs k []))
      ∙ ap joined (map-map (map joined) part (get_or cs k []) ∙ ap (map (λ (x : List ℕ). map joined (part x))) (at_slots (choices L s) [] k lk)
      ∙ map-members (λ (x : List ℕ). map joined (part x)) (λ (x : List ℕ). map joined (product (map (choices L (filled_at s k x)) slots))) (choices L s k) (λ x m. ap (λ (c : List Cells). map joined (product c)) (sym (choices-put x m))))

  -- a search that skips entries of which no filling passes, and counts theirs, finds what the search through all finds
  pub skipping : (good : Sheet → Bool) (skip : List ℕ → Bool) → ((x : List ℕ) → Memᴰ x (choices L s k) → skip x ≡ true → (f : Sheet) → Filling L (filled_at s k x) f → good f ≡ false)
      → look_by good (λ (x : List ℕ). fillings L (filled_at s k x)) skip 0 (choices L s k) ≡ first_filling L good s
  unfolding first_filling
  skipping good skip h =
      look-by good (λ (x : List ℕ). fillings L (filled_at s k x)) skip (choices L s k) 0
      (λ x m e g q. h x m e g (filling-of P (filled_at s k x) (put-length x m) g q))
      ∙ ap (look good 0) (sym by-entry)
