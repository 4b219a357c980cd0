-- Demand 3: from the two equations that the code of `complete` meets, the parts of its promise (WholeLaw has the whole).
use mathlib.Core.Path.{◌≡◌, refl, sym, ◌∙◌, subst}
use mathlib.Core.Logic.{◌↔◌}
use mathlib.Core.Bool.{Bool, true, false, not, ◌&&◌, true≢false, false≢true}
use mathlib.Core.List.{List, [], ◌∷◌}
use Prim.Native.Nat.{ℕ}
use native.Mathlib.Omega.{arith}
use borrow.Author.Tests.{ne_eqb}
use lib.Count.{ones}
use lib.Dec.{eqb}
use lib.ListN.{length}
use Rattle.texts.specs.Refusals.{refusal_number}
use Rattle.texts.specs.Texts.{every}
use Rattle.texts.specs.Answers.{Answer, success, refusal, number_of, ◌refuses◌, ◌refuses◌with◌, answer_by, buffer_by}
use Rattle.texts.proofs.Bools.{both, cases}
use Rattle.texts.proofs.Refusals.{no-success, never}
use Rattle.rules.specs.Rules.{budget, basic, keeps, keeps_all}
use Rattle.rules.proofs.First.{numbered, kept-none, none_kept, split}
use Rattle.rules.proofs.Judging.{ordinary-class}
use Rattle.drafts.specs.Draft.{draft_formed, draft_sheet}
use Rattle.drafts.specs.Promises.{Postings}
use Rattle.drafts.proofs.Slots.{Formed, formed-means, formed-by}
use Rattle.drafts.proofs.EndSlots.{all-formed}
use Rattle.drafts.proofs.DraftSheets.{length-sheet}
use Rattle.sheets.specs.Dates.{dates_fit}
use Rattle.sheets.specs.declared.dates.Dates.{Dates}
use Rattle.fillings.specs.Fillings.{Look, found, none}
use Rattle.fillings.proofs.First.{found_first, found_some, none_passes, none-all}
use Rattle.fillings.proofs.Counting.{filled-set}
use Rattle.orders.specs.Fillings.{list_of, Filling, All, first_filling, FirstFilling, set_of, FilledSet}
use Rattle.orders.specs.Complete.{budget_payment, complete_answer, nothing, counted, sheet_in, sheet_tests, complete_tests, completing, completed}
use Rattle.orders.specs.Whole.{count_of, Unpaid, broken, ordinary}
use Rattle.orders.specs.declared.complete.Filled.{Filled}
use Rattle.orders.specs.declared.complete.Incomplete.{Incomplete}
use Rattle.orders.specs.declared.complete.Incomplete.TheVariants.{Impossible, Broken, Refused}
use Rattle.std.specs.Prelude.{Result, Ok, Err}
use Rattle.orders.proofs.Lists.{proper}
use Rattle.sheets.specs.Sheet.{sheet_size}

pub length-draftSheet : (d : List ℕ) → draft_formed d ≡ true → length (draft_sheet d) ≡ sheet_size
length-draftSheet d f = length-sheet d (formed-means d f).sized

-- postings leave a well-formed draft
pub left-formed : (ms : List (List ℕ)) (d : List ℕ) → Postings ms d → draft_formed d ≡ true
left-formed ms d L = formed-by d (subst Formed (sym L.draft) (all-formed ms L.strings))

-- what is answered and left where only the look is left to test
abbrev pub look_answer : Dates → List ℕ → Look (List ℕ) → Answer
look_answer D s o = answer_by ((nothing o refuses 10 with (counted o ∷ [])) ∷ []) (counted o ∷ set_of D s ∷ ones (set_of D s) ∷ [])

abbrev pub look_sheet : List ℕ → Look (List ℕ) → List ℕ
look_sheet b o = buffer_by ((nothing o refuses 10 with (counted o ∷ [])) ∷ []) (sheet_in b o) b

-- completing a well-formed budget payment is what looking through its fillings finds
module _ (D : Dates) (d b : List ℕ) (f : draft_formed d ≡ true) (z : length b ≡ sheet_size) (t : dates_fit D ≡ true) (p : budget_payment D (draft_sheet d) ≡ true) where
  kept : (every (keeps D (draft_sheet d)) basic ≡ true) × (budget (draft_sheet d) ≡ true)
  unfolding budget_payment
  kept = both (every (keeps D (draft_sheet d)) basic) (budget (draft_sheet d)) p

  pub answer-is : completing D d b ≡ look_answer D (draft_sheet d) (first_filling D (draft_sheet d))
  unfolding completing complete_tests sheet_tests
  answer-is = rw (f, z, t, kept-none (keeps D (draft_sheet d)) basic kept.0, kept.1)

  pub sheet-is : completed D d b ≡ look_sheet b (first_filling D (draft_sheet d))
  unfolding completed complete_tests sheet_tests
  sheet-is = rw (f, z, t, kept-none (keeps D (draft_sheet d)) basic kept.0, kept.1)

-- the promise, by what the look found
module _ (D : Dates) (s b : List ℕ) (z : length s ≡ sheet_size) where
  pub refused-by : (o : Look (List ℕ)) → first_filling D s ≡ o → (number_of (look_answer D s o) ≡ 10) ↔ ((f : List ℕ) → Filling D s f → keeps_all D f ≡ false)
  refused-by (found n t) e = (λ q. absurd (omega arith), λ h. absurd (found_some (proper D) s z (keeps_all D) n t e h))
  refused-by (none n) e = (λ q. none_passes (proper D) s z (keeps_all D) n e, λ h. refl)

  pub filled-by : (o : Look (List ℕ)) → first_filling D s ≡ o → (number_of (look_answer D s o) ≡ 10 → ⊥) → FirstFilling D s (look_sheet b o) (count_of (look_answer D s o))
  filled-by (found n t) e h = found_first (proper D) s z (keeps_all D) n t e
  filled-by (none n) e h = absurd (h refl)

  pub all-by : (o : Look (List ℕ)) → first_filling D s ≡ o → number_of (look_answer D s o) ≡ 10 → (look_answer D s o ≡ refusal 10 (count_of (look_answer D s o) ∷ [])) × All D s (count_of (look_answer D s o))
  all-by (found n t) e h = absurd (omega arith)
  all-by (none n) e h = (refl, none-all (proper D) s z (keeps_all D) n e)

  pub answered-by : (o : Look (List ℕ)) → (number_of (look_answer D s o) ≡ 10 → ⊥) → (set : ℕ) × (k : ℕ) × (look_answer D s o ≡ success (count_of (look_answer D s o) ∷ set ∷ k ∷ [])) × FilledSet D s set k
  answered-by (found n t) h = (set_of D s, ones (set_of D s), refl, filled-set (list_of D) s)
  answered-by (none n) h = absurd (h refl)

pub basic-numbered : every numbered basic ≡ true
unfolding every
basic-numbered = refl

-- a draft that is no budget payment
module _ (D : Dates) (d b : List ℕ) (f : draft_formed d ≡ true) (z : length b ≡ sheet_size) (t : dates_fit D ≡ true) where
  pub unpaid-by : budget_payment D (draft_sheet d) ≡ false → Unpaid D (draft_sheet d) (completing D d b)
  unfolding completing complete_tests sheet_tests budget_payment
  unpaid-by p = go (every (keeps D (draft_sheet d)) basic) (budget (draft_sheet d)) refl refl p
    where
      go : (k c : Bool) → every (keeps D (draft_sheet d)) basic ≡ k → budget (draft_sheet d) ≡ c → (k && c) ≡ false → Unpaid D (draft_sheet d) (completing D d b)
      go true true ek ec h = absurd (true≢false h)
      go true false ek ec h = rw (f, z, t, kept-none (keeps D (draft_sheet d)) basic ek, ec) (ordinary ek (ordinary-class (draft_sheet d) ec))
      go false c ek ec h =
          let s = draft_sheet d in
          let (before, n, after, e, k, p, i) = split (keeps D s) basic (λ q. false≢true (sym ek ∙ q)) in
          let y : n ≡ 0 → ⊥ = λ q. false≢true (sym ek ∙ none_kept (keeps D s) basic basic-numbered (i ∙ q)) in
          rw (f, z, t, i, ne_eqb n 0 y) (broken before after n e k p)

-- refusals: a test that is true, and no other, gives its number
pub filled_of : (r : Result Filled Incomplete) (n set k : ℕ) → complete_answer r ≡ success (n ∷ set ∷ k ∷ []) → r ≡ Ok (record { count = n; set = set; ones = k })
unfolding complete_answer
filled_of (Ok f) n set k e = let a : f.count ≡ n = cc in let b : f.set ≡ set = cc in let c : f.ones ≡ k = cc in λ i. Ok (record { count = a i; set = b i; ones = c i })
filled_of (Err (Impossible m)) n set k e = absurd (no-success 10 _ _ e)
filled_of (Err (Broken g m)) n set k e = absurd (no-success 8 _ _ e)
filled_of (Err (Refused m)) n set k e = absurd (no-success (refusal_number m) _ _ e)

module _ (D : Dates) (d b : List ℕ) where
  values : List ℕ
  values = counted (first_filling D (draft_sheet d)) ∷ set_of D (draft_sheet d) ∷ ones (set_of D (draft_sheet d)) ∷ []

  pub malformed-by : (number_of (completing D d b) ≡ 1) ↔ (draft_formed d ≡ false)
  unfolding completing complete_tests sheet_tests values
  malformed-by = (
    λ h. cases (draft_formed d) (λ e. absurd (never 1 values ((not (eqb (length b) sheet_size) refuses 7) ∷ (not (dates_fit D) refuses 12) ∷ sheet_tests D (draft_sheet d)) (λ z. omega arith) refl (rw e at h))) (λ e. e),
    λ w. rw w,
  )

  pub sized-by : draft_formed d ≡ true → (number_of (completing D d b) ≡ 7) ↔ (length b ≡ sheet_size → ⊥)
  unfolding completing complete_tests sheet_tests values
  sized-by w = (
    λ h l. never 7 values ((not (dates_fit D) refuses 12) ∷ sheet_tests D (draft_sheet d)) (λ z. omega arith) refl (rw (w, l) at h),
    λ n. simp (w, ne_eqb (length b) sheet_size n),
  )

  pub undated-by : draft_formed d ≡ true → length b ≡ sheet_size → (number_of (completing D d b) ≡ 12) ↔ (dates_fit D ≡ false)
  unfolding completing complete_tests sheet_tests values
  undated-by w z = (
    λ h. cases (dates_fit D) (λ e. absurd (never 12 values (sheet_tests D (draft_sheet d)) (λ y. omega arith) refl (rw (w, z, e) at h))) (λ e. e),
    λ t. rw (w, z, t),
  )
