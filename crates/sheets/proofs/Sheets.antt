-- Fields and their slots.
use mathlib.Core.Path.{◌≡◌, refl, ap, sym, ◌∙◌}
use mathlib.Core.List.{List, [], ◌∷◌}
use Prim.Native.Nat.{ℕ, suc}
use borrow.Author.Tests.{ne_eqb}
use lib.ListN.{length}
use Rattle.texts.proofs.Arms.{Rest, rest-first}
use Rattle.sheets.specs.Sheet.{fields, place_of, slot_of}

pub slot_is : (f k r : ℕ) → f ≡ k → r ≡ place_of k fields → r ≡ slot_of f
unfolding slot_of
slot_is f k r e h = h ∙ ap (λ (x : ℕ). place_of x fields) (sym e)

no_place : (acc : Type 0) (x : ℕ) (ks : List ℕ) → Rest acc x ks → length ks ≡ place_of x ks
no_place acc x [] t = refl
no_place acc x (k ∷ ks) t = simp (ne_eqb x k (rest-first acc x k ks t)) (ap suc (no_place (acc × (x ≡ k → ⊥)) x ks t))

pub no_slot : (f : ℕ) → Rest (Unit {0}) f fields → 15 ≡ slot_of f
unfolding slot_of
no_slot f t = no_place (Unit {0}) f fields t
