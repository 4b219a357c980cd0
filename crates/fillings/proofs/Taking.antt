-- R-9: a draft that takes up some of its proposal has the same first filling, at a place no later.
use mathlib.Core.Path.{◌≡◌, refl, sym, ap, ◌∙◌}
use mathlib.Core.Bool.{Bool, true, false, not, cond, ◌&&◌, and-false}
use mathlib.Core.List.{List, [], ◌∷◌, map}
use Prim.Native.Nat.{ℕ, zero, suc, ◌+◌, ◌<◌, ◌≤◌}
use native.Mathlib.Omega.{arith}
use borrow.Author.Tests.{not-true}
use lib.Dec.{ltb}
use lib.ListN.{length, get_or}
use Rattle.texts.specs.Texts.{blank, same}
use Rattle.texts.proofs.Codes.{same_self}
use Rattle.sheets.specs.Sheet.{Sheet, slots, cell, cell_text, cell_of, text_of, sheet_size, slot_count}
use Rattle.fillings.specs.Fillings.{Lists, to_fill, choices, product, joined, Filling, Look, found, none, look, fillings, first_filling}
use Rattle.fillings.specs.Working.Proper.{Proper}
use Rattle.fillings.specs.Working.Taken.{Taken, Again}
use Rattle.fillings.specs.Working.Places.{places}
use Rattle.fillings.specs.Working.Parts.{map_look}
use Rattle.fillings.proofs.EveryFilling.{Drawn, product-drawn, drawn-cell, choice-given}
use Rattle.fillings.proofs.Distinct.{choice-once}
use Rattle.fillings.proofs.Looking.{look-found, look-map, look-member}
use Rattle.fillings.proofs.First.{found_first}
use Rattle.fillings.proofs.Kept.{keep, each_passes, keep_all, keep_one, product-keep, all_pass, keep-first}

-- sheets with one cell have there one choice
pub fill-alike : (L : Lists) (s u : Sheet) (k : ℕ) → cell_of u k ≡ cell_of s k → to_fill L u k ≡ to_fill L s k
unfolding to_fill text_of
fill-alike L s u k e = ap (λ (c : List ℕ). ltb 0 (length (L k)) && blank (cell_text c)) e

pub choices_alike : (L : Lists) (s u : Sheet) (k : ℕ) → cell_of u k ≡ cell_of s k → choices L u k ≡ choices L s k
unfolding choices
choices_alike L s u k e = λ i. cond (fill-alike L s u k e i) (map cell (L k)) (e i ∷ [])

-- a slot with a cell that is no blank is not to be filled
pub fill-given : (L : Lists) (u : Sheet) (k : ℕ) (x : List ℕ) → cell_of u k ≡ x → not (blank (cell_text x)) ≡ true → (to_fill L u k ≡ false) × (choices L u k ≡ x ∷ [])
unfolding choices to_fill text_of
fill-given L u k x e h =
    let b : blank (cell_text (cell_of u k)) ≡ false = ap (λ (c : List ℕ). blank (cell_text c)) e ∙ not-true (blank (cell_text x)) h in
    (rw (b, and-false), rw (b, and-false) (ap (λ (c : List ℕ). c ∷ []) e))

-- what is the same of every slot is the same of all
pub map-slots : {A : Type 0} (f g : ℕ → A) → ((k : ℕ) → k < slot_count → f k ≡ g k) → map f slots ≡ map g slots
unfolding places
map-slots {A} f g e = go slot_count 0 (omega arith)
  where
    go : (n i : ℕ) → i + n ≤ slot_count → map f (places n i) ≡ map g (places n i)
    go zero i b = refl
    go (suc n) i b = λ j. e i (omega arith) j ∷ go n (suc i) (omega arith) j

module _ {L : Lists} (P : Proper L) (good : Sheet → Bool) (chosen : ℕ → Bool) (s f u : Sheet) (z : length s ≡ sheet_size) (T : Taken L chosen s f u) where
  -- the entries that stay possible
  stays : ℕ → List ℕ → Bool
  stays k x = cond (to_fill L s k && chosen k) (same x (cell_of f k)) true

  module _ (w : Filling L s f) (k : ℕ) (l : k < slot_count) where
    slot-by : (a c : Bool) → to_fill L s k ≡ a → cell_of u k ≡ cond (a && c) (cell_of f k) (cell_of s k)
        → (to_fill L u k ≡ (a && not c)) × (choices L u k ≡ keep (λ (x : List ℕ). cond (a && c) (same x (cell_of f k)) true) (choices L s k))
    slot-by true true e h =
        let g = fill-given L u k (cell_of f k) h (choice-given P s k (cell_of f k) (w.slot k l) ∙ rw e) in
        (g.0, g.1 ∙ sym (keep_one (cell_of f k) (w.slot k l) (choice-once P s k)))
    slot-by true false e h = (fill-alike L s u k h ∙ e, choices_alike L s u k h ∙ sym (keep_all (λ (x : List ℕ). true) (choices L s k) (λ x m. refl)))
    slot-by false c e h = (fill-alike L s u k h ∙ e, choices_alike L s u k h ∙ sym (keep_all (λ (x : List ℕ). true) (choices L s k) (λ x m. refl)))

    slot_is : (to_fill L u k ≡ (to_fill L s k && not (chosen k))) × (choices L u k ≡ keep (stays k) (choices L s k))
    unfolding stays
    slot_is = slot-by (to_fill L s k) (chosen k) refl (T.slot k l)

  -- the proposed filling stays possible
  proposed : (r : List (List ℕ)) → Drawn (map (choices L s) slots) r → joined r ≡ f → (k : ℕ) → k < slot_count → stays k (get_or r k []) ≡ true
  unfolding stays
  proposed r d e k l = go (to_fill L s k && chosen k) (sym (drawn-cell P s z r d k l) ∙ ap (λ (g : Sheet). cell_of g k) e)
    where
      go : (b : Bool) → get_or r k [] ≡ cell_of f k → cond b (same (get_or r k []) (cell_of f k)) true ≡ true
      go true h = rw h (same_self (cell_of f k))
      go false h = refl

  look-cases : (n : ℕ) (o : Look (List (List ℕ))) → map_look joined o ≡ found n f → (r : List (List ℕ)) × (o ≡ found n r) × (joined r ≡ f)
  look-cases n (found m r) e = (r, cc, cc)
  look-cases n (none m) e = let y : ◌≡◌ {A = ℕ} 0 1 = cc in absurd (omega arith)

  pub taken-up : (n : ℕ) → first_filling L good s ≡ found n f → Again L good chosen s f u n
  unfolding first_filling fillings places
  taken-up n e =
      let w : Filling L s f = (found_first P s z good n f e).filling in
      let test : List (List ℕ) → Bool = λ r. good (joined r) in
      let R = product (map (choices L s) slots) in
      let kept : product (map (choices L u) slots) ≡ keep (each_passes stays slots) R = ap product (map-slots (choices L u) (λ (k : ℕ). keep (stays k) (choices L s k)) (λ k l. (slot_is w k l).1)) ∙ product-keep stays (choices L s) slots in
      let (r, o, j) = look-cases n (look test 0 R) (sym (look-map good joined R 0) ∙ e) in
      let d = product-drawn (map (choices L s) slots) r (look-member test R n r o) in
      let (m, q, h) = keep-first test (each_passes stays slots) R n r (look-found test R n r o) (all_pass stays [] slot_count 0 r (λ k l. ap (λ (i : ℕ). stays i (get_or r k [])) (omega arith) ∙ proposed r d j k l)) in
      record {
        count = m;
        same = ap (λ (l : List (List (List ℕ))). look good 0 (map joined l)) kept ∙ look-map good joined (keep (each_passes stays slots) R) 0 ∙ ap (map_look joined) q ∙ ap (found m) j;
        less = h;
        filled = λ k l. (slot_is w k l).0;
      }
