-- What `quick` and `pretest` begin with, and what `quick` completes to.
use mathlib.Core.Path.{◌≡◌, refl, sym, ap, ◌∙◌, subst}
use mathlib.Core.Bool.{Bool, true, false, cond}
use mathlib.Core.List.{List, [], ◌∷◌}
use Prim.Native.Nat.{ℕ}
use native.Mathlib.Omega.{arith}
use borrow.Author.Tests.{ne_eqb}
use lib.Count.{ones}
use lib.ListN.{length}
use Rattle.texts.specs.declared.answers.Refusal.TheVariants.{NotBudget}
use Rattle.texts.specs.Texts.{every}
use Rattle.texts.specs.Answers.{refusal}
use Rattle.texts.specs.Working.Writing.{put_at}
use Rattle.texts.proofs.Puts.{put-fits, put_whole}
use Rattle.texts.proofs.Refusals.{Way, way_out}
use Rattle.rules.specs.Rules.{budget, rules, test_of, basic, field_of, keeps, first_not, first_broken}
use Rattle.sheets.specs.Working.Facts.{Read}
use Rattle.rules.proofs.First.{none_kept}
use Rattle.sheets.specs.declared.facts.Facts.{Facts}
use Rattle.rules.specs.declared.rules.RuleNumber.{RuleNumber}
use Rattle.sheets.specs.declared.sheet.Field.{Field}
use Rattle.drafts.specs.Draft.{draft_formed, draft_sheet}
use Rattle.drafts.specs.Working.Steps.{sheet_into}
use Rattle.drafts.proofs.Slots.{formed-means}
use Rattle.drafts.proofs.DraftSheets.{sheet-into}
use Rattle.sheets.specs.Dates.{dates_fit}
use Rattle.sheets.specs.declared.dates.Dates.{Dates}
use Rattle.fillings.specs.Fillings.{Look, found, none}
use Rattle.fillings.specs.Working.Parts.{map_look}
use Rattle.orders.specs.Fillings.{first_filling, set_of}
use Rattle.orders.specs.Working.Search.{first_pick}
use Rattle.orders.specs.Working.Found.{pick_of}
use Rattle.orders.specs.Working.Entering.{base_of, picked_of}
use Rattle.orders.specs.Complete.{budget_payment, complete_answer, counted, sheet_in, sheet_tests, complete_tests, completing, completed}
use Rattle.orders.specs.Whole.{Completes}
use Rattle.orders.specs.declared.search.Pick.{Pick}
use Rattle.orders.specs.declared.complete.Filled.{Filled}
use Rattle.orders.specs.declared.complete.Incomplete.{Incomplete}
use Rattle.orders.specs.declared.complete.Incomplete.TheVariants.{Impossible, Broken, Refused}
use Rattle.orders.specs.Working.Paying.{Pays, Payable}
use Rattle.std.specs.Prelude.{Result, Ok, Err}
use Rattle.orders.proofs.Keeping.{base-budget, base-basic, base-broken, base-length, first-is, picked-length}
use Rattle.orders.proofs.TakingUp.{completes-by}
use Rattle.orders.proofs.Whole.{basic-numbered, length-draftSheet, answer-is, sheet-is, look_answer, look_sheet}
use Rattle.sheets.specs.Sheet.{sheet_size}

-- the fields of rules 1 to 3 are the same of every sheet
basic-field : (D : Dates) (s t : List ℕ) (n : ℕ) → first_broken D s basic ≡ n → field_of rules n s ≡ field_of rules n t
unfolding first_not field_of rules
basic-field D s t n e = rw (← e) (go (keeps D s 1) (keeps D s 2) (keeps D s 3))
  where
    go : (a b c : Bool) → field_of rules (cond a (cond b (cond c 0 3) 2) 1) s ≡ field_of rules (cond a (cond b (cond c 0 3) 2) 1) t
    go true true true = refl
    go true true false = refl
    go true false c = refl
    go false b c = refl

-- ---- what `quick` and `pretest` begin with

-- the well-formed draft d has a sheet of which the base is u
pub record Prepared (d u : List ℕ) : Type 0 where
  pub formed : draft_formed d ≡ true
  pub size : length (draft_sheet d) ≡ sheet_size
  pub base : u ≡ base_of (draft_sheet d)

pub prepared : (d : List ℕ) → true ≡ draft_formed d → (o s : List ℕ) → length o ≡ sheet_size → s ≡ sheet_into d o → (u : List ℕ) → u ≡ base_of s → Prepared d u
prepared d f o s lo hs u hu =
    let formed : draft_formed d ≡ true = sym f in
    let sheet : s ≡ draft_sheet d = hs ∙ sheet-into d o (formed-means d formed).sized lo in
    record { formed = formed; size = length-draftSheet d formed; base = hu ∙ ap base_of sheet }

module _ {d u : List ℕ} (B : Prepared d u) where
  pub base-sized : (D : Dates) → length u ≡ sheet_size
  base-sized D = ap length B.base ∙ base-length D (draft_sheet d) B.size

module _ (E : Dates) {d u : List ℕ} (B : Prepared d u) {n : ℕ} (h : first_broken E u basic ≡ n) where
  -- the same at all dates
  pub first-at : (F : Dates) → first_broken F (draft_sheet d) basic ≡ n
  unfolding first_not keeps rules test_of
  first-at F = sym (base-broken E (draft_sheet d) B.size) ∙ ap (λ (v : List ℕ). first_broken E v basic) (sym B.base) ∙ h

  pub beside-8 : (F : Dates) (f : ℕ) → f ≡ field_of rules n u → refusal 8 (f ∷ n ∷ []) ≡ refusal 8 (field_of rules (first_broken F (draft_sheet d) basic) (draft_sheet d) ∷ first_broken F (draft_sheet d) basic ∷ [])
  beside-8 F f j = rw (first-at F) (ap (λ (k : ℕ). refusal 8 (k ∷ n ∷ [])) (j ∙ sym (basic-field E (draft_sheet d) u n (first-at E))))

module _ (E : Dates) {d u : List ℕ} (B : Prepared d u) where
  pub class-is : (b : Bool) → budget u ≡ b → budget (draft_sheet d) ≡ b
  class-is b h = sym (base-budget E (draft_sheet d) B.size) ∙ ap budget (sym B.base) ∙ h

  pub kept_by : first_broken E u basic ≡ 0 → every (keeps E (draft_sheet d)) basic ≡ true
  kept_by h = none_kept (keeps E (draft_sheet d)) basic basic-numbered (first-at E B h E)

  pub pays-by : first_broken E u basic ≡ 0 → budget u ≡ true → budget_payment E (draft_sheet d) ≡ true
  unfolding budget_payment
  pays-by h p = rw (kept_by h, class-is true p)

-- ---- what `quick` completes to

-- the ways out of completion
pub complete-out : (k : ℕ) (D : Dates) (d b : List ℕ) (r : Result Filled Incomplete) (t : List ℕ)
    → Way (counted (first_filling D (draft_sheet d)) ∷ set_of D (draft_sheet d) ∷ ones (set_of D (draft_sheet d)) ∷ []) (sheet_in b (first_filling D (draft_sheet d))) b (complete_answer r) t (Completes D d b r t) k (complete_tests D d b)
unfolding completing completed
complete-out k D d b r t = way_out _ _ _ _ t _ k (complete_tests D d b) (completes-by D d b r t)

module _ {D : Dates} {d u : List ℕ} (b : List ℕ) (E : (length b ≡ sheet_size) × (dates_fit D ≡ true)) (B : Prepared d u) where
  pub broken-8 : (f : Field) (g : RuleNumber) → (g.0 ≡ 0 → ⊥) → first_broken D u basic ≡ g.0 → f.0 ≡ field_of rules g.0 u → Completes D d b (Err (Broken f g)) b
  unfolding complete_answer complete_tests sheet_tests
  broken-8 f g y h j = complete-out 3 D d b (Err (Broken f g)) b (rw B.formed) (rw E.0) (rw E.1) (rw (first-at D B h D, ne_eqb g.0 0 y)) (beside-8 D B h D f.0 j) refl

  pub refused-9 : first_broken D u basic ≡ 0 → budget u ≡ false → Completes D d b (Err (Refused NotBudget)) b
  unfolding complete_answer complete_tests sheet_tests
  refused-9 h r = complete-out 4 D d b (Err (Refused NotBudget)) b (rw B.formed) (rw E.0) (rw E.1) (rw (first-at D B h D)) (rw (class-is D B false r)) refl refl

-- the facts are a payment's
module _ {D : Dates} {d u : List ℕ} {n : ℕ} (z : n ≡ sheet_size) (g : true ≡ dates_fit D) (B : Prepared d u) where
  pub payable : (x : Facts) → Pays D u (Ok x) → Payable D d n x u
  payable x p = let (r, h, c) = p (base-sized B D) in record {
    formed = B.formed;
    sized = z;
    fit = sym g;
    base = B.base;
    payment = record {
      read = subst (Read D x) B.base r;
      class = base-budget D (draft_sheet d) B.size ∙ class-is D B true c;
      basics = base-basic D (draft_sheet d) B.size ∙ kept_by D B h;
    };
  }

module _ {D : Dates} {d u : List ℕ} {x : Facts} (b : List ℕ) (P : Payable D d (length b) x u) where
  pub size-of : length (draft_sheet d) ≡ sheet_size
  size-of = length-draftSheet d P.formed

  paid : budget_payment D (draft_sheet d) ≡ true
  unfolding budget_payment
  paid = rw (sym (base-basic D (draft_sheet d) size-of) ∙ P.payment.basics, sym (base-budget D (draft_sheet d) size-of) ∙ P.payment.class)

  -- what the search found, as a look through the fillings
  looks : (l : Look (List ℕ)) → first_pick D (base_of (draft_sheet d)) ≡ l → (o : Look (List ℕ)) → o ≡ map_look (picked_of D (base_of (draft_sheet d))) l
      → (look_answer D (draft_sheet d) o ≡ completing D d b) × (look_sheet b o ≡ completed D d b)
  looks l e o q =
      let f : first_filling D (draft_sheet d) ≡ o = first-is D (draft_sheet d) size-of ∙ ap (map_look (picked_of D (base_of (draft_sheet d)))) e ∙ sym q in
      (ap (look_answer D (draft_sheet d)) (sym f) ∙ sym (answer-is D d b P.formed P.sized P.fit paid), ap (look_sheet b) (sym f) ∙ sym (sheet-is D d b P.formed P.sized P.fit paid))

  pub refused-10 : (n : ℕ) → first_pick D (base_of (draft_sheet d)) ≡ none n → Completes D d b (Err (Impossible n)) b
  unfolding complete_answer
  refused-10 n e = let l = looks (none n) e (none n) refl in completes-by D d b (Err (Impossible n)) b l.0 l.1

  pub filled-first : (n set : ℕ) (q : List ℕ) (p : Pick) (v f : List ℕ) → set ≡ set_of D (draft_sheet d) → first_pick D (base_of (draft_sheet d)) ≡ found n q → p ≡ pick_of q
      → v ≡ picked_of D u (p.status ∷ p.basis ∷ p.document ∷ p.day ∷ []) → f ≡ put_at b 0 v → Completes D d b (Ok (record { count = n; set = set; ones = ones set })) f
  unfolding complete_answer picked_of
  filled-first n set q p v f hs lq pq hv hf =
      let c1 : v ≡ picked_of D (base_of (draft_sheet d)) q = hv ∙ (λ i. picked_of D (P.base i) ((pq i).status ∷ (pq i).basis ∷ (pq i).document ∷ (pq i).day ∷ [])) in
      let c2 : length v ≡ sheet_size = ap length c1 ∙ picked-length D (draft_sheet d) size-of q in
      let c3 : f ≡ v = hf ∙ put-fits b 0 v (omega (arith, P.sized)) ∙ put_whole b v (omega (arith, P.sized)) in
      let l = looks (found n q) lq (found n v) (ap (found n) c1) in
      completes-by D d b (Ok (record { count = n; set = set; ones = ones set })) f ((λ i. complete_answer (Ok (record { count = n; set = hs i; ones = ones (hs i) }))) ∙ l.0) (c3 ∙ l.1)
