-- R-14: one verdict for all fillings of a status; and where the test ahead names a rule, every status is skipped.
use mathlib.Core.Path.{◌≡◌, refl, sym, ap, ◌∙◌}
use mathlib.Core.Bool.{Bool, true, false, not, cond, false≢true}
use mathlib.Core.List.{List, [], ◌∷◌, Memᴰ}
use Prim.Native.Nat.{ℕ, suc, ◌<◌}
use native.Mathlib.Omega.{arith}
use borrow.Author.Tests.{ne_eqb}
use lib.ListN.{length, get_or}
use Rattle.texts.specs.Texts.{every, any, are, among, blank}
use Rattle.texts.proofs.Bools.{and2, cases}
use Rattle.texts.proofs.Every.{every-member, every-within}
use Rattle.sheets.specs.Sheet.{Sheet, slot_of, cell_of, text_of, given, ◌⟨◌⟩, sheet_size}
use Rattle.sheets.specs.Forms.{inn10, kpp}
use Rattle.sheets.specs.Dates.{status_count}
use Rattle.sheets.specs.declared.dates.Dates.{Dates}
use Rattle.rules.specs.Rules.{budget, needed, rules, test_of, ahead, keeps, keeps_all}
use Rattle.rules.specs.Working.Groups.{fixed_rules}
use Rattle.rules.proofs.First.{kept-none}
use Rattle.rules.proofs.Reading.{spared}
use Rattle.fillings.specs.Fillings as of
use Rattle.fillings.specs.Fillings.{width, Look, found, none}
use Rattle.fillings.specs.Filled.{tally}
use Rattle.fillings.proofs.EveryFilling.{choice-given}
use Rattle.fillings.proofs.First.{found_some}
use Rattle.orders.specs.Fillings.{list_of, to_fill, Filling, first_filling}
use Rattle.orders.specs.Pretest.{broken_by_all}
use Rattle.orders.specs.Skipping.{quick_rules, statuses_of, fails, up_to, skipped_of}
use Rattle.orders.specs.Working.Entering.{base_of, varying}
use Rattle.orders.proofs.Ahead.{alike, earliest, first-filling, first-budget, first-broken}
use Rattle.orders.proofs.Lists.{proper, status-blank}
use Rattle.orders.proofs.Passing.{unkept}
use Rattle.orders.proofs.Skipping.{length-statuses, with-status, fails_by}

-- where a member stands
at_of : {x : List ℕ} {l : List (List ℕ)} → Memᴰ x l → (a : ℕ) × (a < length l) × (get_or l a [] ≡ x)
at_of (Memᴰ.head q) = (0, omega arith, sym q)
at_of (Memᴰ.tail m) = let (a, h, e) = at_of m in (suc a, omega arith, e)

tally-every : (p : List ℕ → Bool) (l : List (List ℕ)) → ((x : List ℕ) → Memᴰ x l → p x ≡ true) → tally p l ≡ length l
tally-every p [] h = refl
tally-every p (x ∷ l) h = rw (h x (Memᴰ.head refl)) (omega (arith, tally-every p l (λ y m. h y (Memᴰ.tail m))))

-- a text of a form that the blank has not is given
not-blank : (p : List ℕ → Bool) → p [] ≡ false → (t : List ℕ) → p t ≡ true → not (blank t) ≡ true
not-blank p e [] h = absurd (false≢true (sym e ∙ h))
not-blank p e (x ∷ t) h = ap not (ne_eqb (suc (length t)) 0 (λ z. omega arith))

module _ (D : Dates) (s : Sheet) (size : length s ≡ sheet_size) where
  pub alike-by : (f : Sheet) → Filling D s f → not (every (keeps D f) quick_rules) ≡ fails D s (cell_of f 6)
  alike-by f w =
      let (a, h, e) = at_of (w.slot 6 (omega arith)) in
      fails_by D s size a (omega (arith, length-statuses D s size)) f w (sym e) ∙ ap (fails D s) e

  -- a field that has a list is given in every filling
  listed-given : (f : Sheet) → Filling D s f → (k : ℕ) → k < 15 → to_fill D s k ≡ blank (text_of s k) → given f k ≡ true
  unfolding given text_of
  listed-given f w k h e = choice-given (proper D) s k (cell_of f k) (w.slot k h) ∙ rw e (go (blank (text_of s k)))
    where
      go : (b : Bool) → cond b true (not b) ≡ true
      go true = refl
      go false = refl

  -- rule 6 asks of 61 and 103 less than rules 9 and 12, and the other fields have a list
  module _ (b : budget s ≡ true) (k : every (keeps D (earliest D s size)) fixed_rules ≡ true) where
    paid : budget (earliest D s size) ≡ true
    paid = first-budget D s size ∙ b

    kept : (n : ℕ) → among n fixed_rules ≡ true → keeps D (earliest D s size) n ≡ true
    kept n m = every-member (keeps D (earliest D s size)) fixed_rules n m k

    -- by slot
    needed-given : every (given (earliest D s size)) needed ≡ true
    unfolding every any are among of.to_fill list_of given keeps rules test_of slot_of ◌⟨◌⟩
    needed-given =
        let f = earliest D s size in
        let g : (j : ℕ) → j < 15 → to_fill D s j ≡ blank (text_of s j) → not (blank (text_of f j)) ≡ true = listed-given f (first-filling D s size) in
        let g5 = not-blank inn10 refl (text_of f 5) (rw paid at (kept 9 refl)) in
        let g8 = not-blank kpp refl (text_of f 8) (rw paid at (kept 12 refl)) in
        rw (g 3 (omega arith) refl, g 4 (omega arith) refl, g5, g 6 (omega arith) (status-blank D s), g 7 (omega arith) refl, g8, g 9 (omega arith) refl, g 10 (omega arith) refl, g 11 (omega arith) refl, g 12 (omega arith) refl, g 13 (omega arith) refl, g 14 (omega arith) refl)

    six : keeps D (earliest D s size) 6 ≡ true
    unfolding keeps rules test_of
    six = rw paid needed-given

    all-kept : broken_by_all D s ≡ 0
    unfolding every any are among
    all-kept = first-broken D s size ∙ kept-none (keeps D (earliest D s size)) ahead (every-within (keeps D (earliest D s size)) (6 ∷ fixed_rules) ahead refl (and2 (keeps D (earliest D s size) 6) (every (keeps D (earliest D s size)) fixed_rules) six k))

  module _ (b : budget s ≡ true) (n : broken_by_all D s ≡ 0 → ⊥) where
    -- every filling breaks one of the rules, as the first does
    quick-broken : (f : Sheet) → Filling D s f → every (keeps D f) quick_rules ≡ false
    unfolding every any are among
    quick-broken f w = cases (every (keeps D f) quick_rules) (λ t. absurd (n (all-kept b (first-kept t)))) (λ e. e)
      where
        first-kept : every (keeps D f) quick_rules ≡ true → every (keeps D (earliest D s size)) fixed_rules ≡ true
        first-kept t =
            spared D varying (earliest D s size) f (alike D s size (earliest D s size) f (first-filling D s size) w) fixed_rules refl
            ∙ every-within (keeps D f) quick_rules fixed_rules refl t

    pub fails-each : (x : List ℕ) → Memᴰ x (statuses_of D s) → fails D s x ≡ true
    fails-each x m =
        let (a, h, e) = at_of m in
        let l : a < width (blank (text_of (base_of s) 6)) (status_count D) = omega (arith, length-statuses D s size) in
        let (f, w, c) = with-status D s size a l in
        ap (fails D s) (sym e) ∙ sym (fails_by D s size a l f w c) ∙ ap not (quick-broken f w)

    pub all-skipped : skipped_of D s ≡ length (statuses_of D s)
    unfolding skipped_of every any are among
    all-skipped = go (first_filling D s) refl
      where
        go : (o : Look Sheet) → first_filling D s ≡ o → tally (fails D s) (up_to (statuses_of D s) o) ≡ length (statuses_of D s)
        go (found i t) e = absurd (found_some (proper D) s size (keeps_all D) i t e (λ f w. unkept D f quick_rules refl (quick-broken f w)))
        go (none i) e = tally-every (fails D s) (statuses_of D s) fails-each
