-- R-9: completing a draft that has taken up some of its proposal answers the same sheet, and a count no larger.
use mathlib.Core.Path.{◌≡◌, refl, sym, ap, ◌∙◌, subst}
use mathlib.Core.Bool.{Bool, true}
use mathlib.Core.List.{List, [], ◌∷◌}
use Prim.Native.Nat.{ℕ, ◌<◌}
use native.Mathlib.Decide.{ℕ_discrete}
use native.Mathlib.Omega.{arith}
use lib.Count.{ones}
use lib.ListN.{length}
use Rattle.texts.specs.Texts.{every}
use Rattle.texts.specs.Answers.{Answer, success, number_of}
use Rattle.texts.proofs.Bools.{cases}
use Rattle.texts.proofs.Refusals.{no-success}
use Rattle.sheets.specs.Sheet.{slot_of, cell_text, text_of, ◌⟨◌⟩, sheet_size}
use Rattle.sheets.specs.Dates.{dates_fit}
use Rattle.sheets.specs.declared.dates.Dates.{Dates}
use Rattle.rules.specs.Rules.{rules, test_of, keeps, keeps_all}
use Rattle.drafts.specs.Draft.{draft_formed, draft_sheet}
use Rattle.fillings.specs.Fillings as of
use Rattle.fillings.specs.Fillings.{Look, found, none}
use Rattle.fillings.specs.Working.Taken.{Taken}
use Rattle.fillings.proofs.Counting.{filled-set}
use Rattle.fillings.proofs.Taking.{taken-up}
use Rattle.orders.specs.Fillings.{list_of, first_filling, set_of, FilledSet}
use Rattle.orders.specs.Complete.{budget_payment, completing, completed}
use Rattle.orders.specs.Whole.{Unpaid, broken, ordinary}
use Rattle.orders.specs.Again.{CompletesAgain}
use Rattle.orders.proofs.Lists.{proper}
use Rattle.orders.proofs.Whole.{length-draftSheet, look_answer, look_sheet, answer-is, sheet-is, malformed-by, sized-by, undated-by, unpaid-by}

-- ---- what a success means

not-unpaid : (D : Dates) (s : List ℕ) (a : Answer) (vs : List ℕ) → a ≡ success vs → Unpaid D s a → ⊥
not-unpaid D s a vs e (broken before after n q k p) = no-success 8 _ vs e
not-unpaid D s a vs e (ordinary k c) = no-success 9 _ vs e

module _ (D : Dates) (d b : List ℕ) (n set k : ℕ) (e : completing D d b ≡ success (n ∷ set ∷ k ∷ [])) where
  number-0 : number_of (completing D d b) ≡ 0
  number-0 = ap number_of e

  pub was-formed : draft_formed d ≡ true
  was-formed = cases (draft_formed d) (λ h. h) (λ h. absurd (omega (arith, number-0, (malformed-by D d b).1 h)))

  pub was-sized : length b ≡ sheet_size
  was-sized = elim (ℕ_discrete (length b) sheet_size) [
    | yes h ↦ h
    | no h ↦ absurd (omega (arith, number-0, (sized-by D d b was-formed).1 h))
  ]

  pub was-fit : dates_fit D ≡ true
  was-fit = cases (dates_fit D) (λ h. h) (λ h. absurd (omega (arith, number-0, (undated-by D d b was-formed was-sized).1 h)))

  pub was-paid : budget_payment D (draft_sheet d) ≡ true
  was-paid = cases (budget_payment D (draft_sheet d)) (λ h. h) (λ h. absurd (not-unpaid D (draft_sheet d) (completing D d b) _ e (unpaid-by D d b was-formed was-sized was-fit h)))

  was : (first_filling D (draft_sheet d) ≡ found n (completed D d b)) × (set_of D (draft_sheet d) ≡ set) × (ones (set_of D (draft_sheet d)) ≡ k)
  was = go (first_filling D (draft_sheet d)) (sym (answer-is D d b was-formed was-sized was-fit was-paid) ∙ e) (sheet-is D d b was-formed was-sized was-fit was-paid)
    where
      go : (o : Look (List ℕ)) → look_answer D (draft_sheet d) o ≡ success (n ∷ set ∷ k ∷ []) → completed D d b ≡ look_sheet b o
          → (o ≡ found n (completed D d b)) × (set_of D (draft_sheet d) ≡ set) × (ones (set_of D (draft_sheet d)) ≡ k)
      go (found m t) h q = let z : m ≡ n = cc in ((λ i. found (z i) (sym q i)), cc, cc)
      go (none m) h q = absurd (no-success 10 _ _ h)

  pub was-found : first_filling D (draft_sheet d) ≡ found n (completed D d b)
  was-found = was.0

  -- the set is that of the slots to be filled
  pub was-set : FilledSet D (draft_sheet d) set k
  was-set = subst (λ (x : ℕ). FilledSet D (draft_sheet d) x k) was.1 (subst (FilledSet D (draft_sheet d) (set_of D (draft_sheet d))) was.2 (filled-set (list_of D) (draft_sheet d)))

-- ---- taken up

-- at the dates D completing d into b gave a sheet with the count n, the set and how many it has; e is a well-formed draft whose sheet is
-- d's with a choice of the proposed values taken up
pub record Takes (D : Dates) (chosen : ℕ → Bool) (d b : List ℕ) (n set k : ℕ) (e : List ℕ) : Type 0 where
  pub success : completing D d b ≡ success (n ∷ set ∷ k ∷ [])
  pub formed : draft_formed e ≡ true
  pub taken : Taken (list_of D) chosen (draft_sheet d) (completed D d b) (draft_sheet e)

module _ (D : Dates) (chosen : ℕ → Bool) (d b : List ℕ) (n set k : ℕ) (e c : List ℕ) (T : Takes D chosen d b n set k e) (size : length c ≡ sheet_size) where
  -- a field that has no list stays
  stays : (i : ℕ) → i < 15 → length (list_of D i) ≡ 0 → text_of (draft_sheet e) i ≡ text_of (draft_sheet d) i
  unfolding text_of of.to_fill
  stays i l h = ap cell_text (T.taken.slot i l ∙ rw h)

  -- so do 14, 15 and 17, and with them the class
  paid-still : budget_payment D (draft_sheet e) ≡ true
  unfolding budget_payment every keeps rules test_of ◌⟨◌⟩ slot_of list_of
  paid-still = cc (stays 0 (omega arith) refl, stays 1 (omega arith) refl, stays 2 (omega arith) refl, was-paid D d b n set k T.success)

  -- "For every completed draft .. At the same date and record the draft must then complete to the very same sheet"
  pub taken-completes : CompletesAgain D chosen d b n e c
  taken-completes =
      let fit = was-fit D d b n set k T.success in
      let w = taken-up (proper D) (keeps_all D) chosen (draft_sheet d) (completed D d b) (draft_sheet e) (length-draftSheet d (was-formed D d b n set k T.success)) T.taken n (was-found D d b n set k T.success) in
      record {
        count = w.count;
        set = set_of D (draft_sheet e);
        ones = ones (set_of D (draft_sheet e));
        answer = answer-is D e c T.formed size fit paid-still ∙ ap (look_answer D (draft_sheet e)) w.same;
        sheet = sheet-is D e c T.formed size fit paid-still ∙ ap (look_sheet c) w.same;
        less = w.less;
        filled = filled-set (list_of D) (draft_sheet e);
        lost = w.filled;
      }
