-- The fillings of a sheet by places in the lists: what a search that goes through places needs.
use mathlib.Core.Path.{◌≡◌, refl, sym, ap, ◌∙◌}
use mathlib.Core.Bool.{Bool, true, false, cond}
use mathlib.Core.List.{List, [], ◌∷◌, map, map-append, map-map, append-nil}
use Prim.Native.Nat.{ℕ}
use native.Mathlib.Nat.{zero-add}
use native.Mathlib.Omega.{arith}
use lib.ListN.{length, get_or, drop, length-map, get_or-map}
use lib.Seq.{ext_get_or}
use Rattle.sheets.specs.Sheet.{Sheet, cell, cell_of}
use Rattle.fillings.specs.Fillings.{Lists, to_fill, choices, each, product, width}
use Rattle.fillings.specs.Working.Places.{places}
use Rattle.fillings.proofs.Cells.{Cells}
use Rattle.fillings.proofs.EveryFilling.{at_places, length-places}

-- the cell of slot j with entry i of its list, where it is to be filled
unfoldable pub pick_cell : Lists → Sheet → ℕ → ℕ → List ℕ
pick_cell L s j i = cond (to_fill L s j) (cell (get_or (L j) i [])) (cell_of s j)

-- a list by its places
by-places : {A B : Type 0} (g : A → B) (d : A) (l : List A) → map g l ≡ map (λ (i : ℕ). g (get_or l i d)) (places (length l) 0)
by-places {A} {B} g d l =
    let h : ℕ → B = λ i. g (get_or l i d) in
    ext_get_or (g d) (map g l) (map h (places (length l) 0))
    (length-map l g ∙ sym (length-map (places (length l) 0) h ∙ length-places (length l) 0))
    (λ k b. get_or-map g l k d ∙ sym (at_places h (g d) (length l) 0 k (omega (arith, length-map l g)) ∙ ap h (zero-add k)))

choices-picked : (L : Lists) (s : Sheet) (j n : ℕ) → n ≡ width (to_fill L s j) (length (L j)) → choices L s j ≡ map (pick_cell L s j) (places n 0)
unfolding choices pick_cell places
choices-picked L s j n w = rw w (go (to_fill L s j))
  where
    go : (b : Bool) → cond b (map cell (L j)) (cell_of s j ∷ []) ≡ map (λ (i : ℕ). cond b (cell (get_or (L j) i [])) (cell_of s j)) (places (width b (length (L j))) 0)
    go true = by-places cell [] (L j)
    go false = refl

-- products of mapped lists
map_each : {X Y : Type 0} (g : X → Y) (h : List X → List Y) (xs : List X) (ps : List (List X)) (d : X) → each (map g xs) (map h ps) ≡ map (λ (q : List X). g (get_or q 0 d) ∷ h (drop 1 q)) (each xs ps)
map_each g h [] ps d = refl
map_each {X} {Y} g h (x ∷ xs) ps d = simp (map-append, map-map, map_each g h xs ps d)

-- the product of cs is what h makes of ps
pub record Made (cs : List Cells) (h : List ℕ → Cells) (ps : List (List ℕ)) : Type 0 where
  pub eq : product cs ≡ map h ps

-- one level of the product, with its list, and one with a single choice
module _ (L : Lists) (s : Sheet) {cs : List Cells} {h : List ℕ → Cells} {ps : List (List ℕ)} (e : Made cs h ps) (j : ℕ) where
  pub listed : (n : ℕ) → n ≡ width (to_fill L s j) (length (L j)) → Made (choices L s j ∷ cs) (λ (q : List ℕ). pick_cell L s j (get_or q 0 0) ∷ h (drop 1 q)) (each (places n 0) ps)
  listed n w = record { eq = (λ m. each (choices-picked L s j n w m) (e.eq m)) ∙ map_each (pick_cell L s j) h (places n 0) ps 0 }

  pub single : 1 ≡ width (to_fill L s j) (length (L j)) → Made (choices L s j ∷ cs) (λ (q : List ℕ). pick_cell L s j 0 ∷ h q) ps
  unfolding places
  single w = record { eq = (λ m. each (choices-picked L s j 1 w m) (e.eq m)) ∙ append-nil _ ∙ map-map _ h ps }

pub width_one : (b : Bool) → 1 ≡ width b 1
width_one true = refl
width_one false = refl
