-- No choice of a field stands in its list twice.
use mathlib.Core.Path.{◌≡◌, refl, sym, ap, ◌∙◌}
use mathlib.Core.Bool.{Bool, true, false, not, cond, ◌&&◌, ◌||◌, or-true, false≢true}
use mathlib.Core.List.{List, [], ◌∷◌, map, Memᴰ}
use Prim.Native.Nat.{ℕ}
use borrow.Author.Tests.{not-true}
use Rattle.texts.specs.Quoted.{Text}
use Rattle.texts.specs.Texts.{any, same}
use Rattle.texts.proofs.Bools.{alike}
use Rattle.texts.proofs.Codes.{same_true, same_self}
use Rattle.sheets.specs.Sheet.{Sheet, cell, cell_text, cell_of}
use Rattle.sheets.proofs.Frames.{text-cell}
use Rattle.fillings.specs.Fillings.{Lists, distinct, to_fill, choices}
use Rattle.fillings.specs.Working.Proper.{Proper}

-- cells are the same only where their texts are
same-cell : (t u : Text) → same (cell t) (cell u) ≡ same t u
same-cell t u =
    alike (same (cell t) (cell u)) (same t u)
    (λ e. ap (same t) (sym (text-cell u) ∙ ap cell_text (sym (same_true (cell t) (cell u) e)) ∙ text-cell t) ∙ same_self t)
    (λ e. ap (λ (v : Text). same (cell t) (cell v)) (sym (same_true t u e)) ∙ same_self (cell t))

any-cell : (t : Text) (ts : List Text) → any (same (cell t)) (map cell ts) ≡ any (same t) ts
unfolding any
any-cell t [] = refl
any-cell t (u ∷ ts) = λ i. same-cell t u i || any-cell t ts i

distinct-cells : (ts : List Text) → distinct (map cell ts) ≡ distinct ts
unfolding distinct
distinct-cells [] = refl
distinct-cells (t ∷ ts) = λ i. not (any-cell t ts i) && distinct-cells ts i

pub choice-once : {L : Lists} → Proper L → (s : Sheet) (k : ℕ) → distinct (choices L s k) ≡ true
unfolding choices distinct any
choice-once {L} P s k = go (to_fill L s k)
  where
    go : (b : Bool) → distinct (cond b (map cell (L k)) (cell_of s k ∷ [])) ≡ true
    go true = distinct-cells (L k) ∙ P.once k
    go false = refl

-- of a list in which x is not, no member is x
pub any-member : {A : Type 0} (p : A → Bool) {y : A} {l : List A} → Memᴰ y l → p y ≡ true → any p l ≡ true
unfolding any
any-member p (Memᴰ.head {x = x} {xs = l} e) h = rw (← e, h)
any-member p (Memᴰ.tail {x = x} {xs = l} m) h = rw (any-member p m h) (or-true (p x))

pub distinct-not : (x : List ℕ) (l : List (List ℕ)) → not (any (same x) l) ≡ true → (y : List ℕ) → Memᴰ y l → (same y x ≡ false) × (same x y ≡ false)
distinct-not x l h y m =
    let n = not-true (any (same x) l) h in (
      unless (same y x) (λ e. false≢true (sym n ∙ any-member (same x) m (ap (same x) (same_true y x e) ∙ same_self x))),
      unless (same x y) (λ e. false≢true (sym n ∙ any-member (same x) m e)),
    )
  where
    unless : (b : Bool) → (b ≡ true → ⊥) → b ≡ false
    unless true h = absurd (h refl)
    unless false h = refl
