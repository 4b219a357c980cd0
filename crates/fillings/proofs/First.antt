-- What looking through the fillings finds: the first that passes, with its place; none exactly where none passes, with the count of all.
use mathlib.Core.Path.{◌≡◌, refl, sym, ◌∙◌, subst}
use mathlib.Core.Bool.{Bool, false, true≢false}
use Prim.Native.Nat.{ℕ}
use lib.ListN.{length}
use Rattle.sheets.specs.Sheet.{Sheet, sheet_size}
use Rattle.fillings.specs.Fillings.{Lists, Filling, Place, All, FirstFilling, found, none, fillings, first_filling}
use Rattle.fillings.specs.Working.Proper.{Proper}
use Rattle.fillings.proofs.EveryFilling.{filling-of, of-filling, given_stays}
use Rattle.fillings.proofs.Looking.{look-found, look_none, look-member}
use Rattle.fillings.proofs.Order.{earlier-before, place_of, once-all}
use Rattle.fillings.proofs.Counting.{fillings-most, fillings-one}

module _ {L : Lists} (P : Proper L) (s : Sheet) (z : length s ≡ sheet_size) where
  pub all-fillings : All L s (length (fillings L s))
  all-fillings = record {
    list = fillings L s;
    count = refl;
    holds = λ g. (filling-of P s z g, of-filling P s z g);
    once = once-all P s z;
    most = fillings-most L s;
    one = fillings-one L s;
  }

  module _ (good : Sheet → Bool) where
    pub found_first : (n : ℕ) (t : Sheet) → first_filling L good s ≡ found n t → FirstFilling L good s t n
    unfolding first_filling
    found_first n t e =
        let w = look-found good (fillings L s) n t e in
        let m = look-member good (fillings L s) n t e in
        record {
          filling = filling-of P s z t m;
          keeps = w.passes;
          unchanged = given_stays P s t (filling-of P s z t m);
          place = subst (Place L s t) (sym w.place) (place_of P s z w.before w.after t w.split);
          first = λ g p q. w.fails g (earlier-before P s z w.before w.after t w.split g p q);
        }

    pub found_some : (n : ℕ) (t : Sheet) → first_filling L good s ≡ found n t → ((f : Sheet) → Filling L s f → good f ≡ false) → ⊥
    found_some n t e h = let w = found_first n t e in true≢false (sym w.keeps ∙ h t w.filling)

    pub none_passes : (n : ℕ) → first_filling L good s ≡ none n → (f : Sheet) → Filling L s f → good f ≡ false
    unfolding first_filling
    none_passes n e f w = (look_none good (fillings L s) n e).1 f (of-filling P s z f w)

    pub none-all : (n : ℕ) → first_filling L good s ≡ none n → All L s n
    unfolding first_filling
    none-all n e = subst (All L s) (sym (look_none good (fillings L s) n e).0) all-fillings
