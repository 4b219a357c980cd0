-- R-14: the ways through `quick`.
use mathlib.Core.Path.{◌≡◌, refl, sym, ap, ◌∙◌, subst}
use mathlib.Core.Bool.{Bool, true, false}
use mathlib.Core.List.{List, [], ◌∷◌}
use Prim.Native.Nat.{ℕ, ◌+◌}
use native.Mathlib.Omega.{arith}
use lib.Count.{ones}
use lib.ListN.{length, get_or}
use Rattle.texts.specs.declared.answers.Refusal.TheVariants.{Malformed, Undated, WrongSize}
use Rattle.texts.specs.Texts.{blank}
use Rattle.texts.specs.Working.Writing.{put_at}
use Rattle.texts.specs.declared.answers.Refusal.{Refusal}
use Rattle.sheets.specs.Sheet.{text_of, sheet_size}
use Rattle.sheets.specs.Dates.{dates_fit, status_count}
use Rattle.sheets.specs.declared.dates.Dates.{Dates}
use Rattle.sheets.specs.declared.facts.Facts.{Facts}
use Rattle.sheets.specs.declared.sheet.Field.{Field}
use Rattle.rules.specs.declared.rules.RuleNumber.{RuleNumber}
use Rattle.drafts.specs.Draft.{draft_formed, draft_sheet}
use Rattle.fillings.specs.Fillings.{width, Look, found, none}
use Rattle.fillings.specs.Filled.{tally}
use Rattle.fillings.specs.Working.Places.{places}
use Rattle.orders.specs.Fillings.{set_of}
use Rattle.orders.specs.Complete.{complete_answer}
use Rattle.orders.specs.Whole.{Completes}
use Rattle.orders.specs.Skipping.{skipped_of, with_skipped, quickening, quick_answer, Quickens}
use Rattle.orders.specs.Working.Search.{first_pick, Payment}
use Rattle.orders.specs.Working.Found.{pick_of, found_by, found_of}
use Rattle.orders.specs.Working.Entering.{base_of, picked_of}
use Rattle.orders.specs.Working.Quick.{skips}
use Rattle.orders.specs.declared.search.Pick.{Pick}
use Rattle.orders.specs.declared.search.Found.{Found}
use Rattle.orders.specs.declared.complete.Incomplete.TheVariants.{Impossible, Broken, Refused}
use Rattle.orders.specs.Working.Paying.{Pays, Payable, Ready, incomplete_by}
use Rattle.orders.specs.declared.complete.Incomplete.{Incomplete}
use Rattle.rules.specs.declared.check.Rejection.{Rejection}
use Rattle.rules.specs.declared.check.Rejection.TheVariants.{Broken as RejectBroken, Refused as RejectRefused}
use Rattle.orders.specs.Complete.{complete_tests}
use borrow.Author.Tests.{eq-eqb, ne_eqb}
use Rattle.orders.proofs.Completing.{Prepared, base-sized, complete-out, broken-8, refused-9, size-of, refused-10, filled-first}
use Rattle.std.specs.Prelude.{Some, None, Result, Ok, Err, IsErrAnd}
use Rattle.orders.proofs.Keeping.{picked-alike, base-length}
use Rattle.orders.proofs.Skipping.{skipped-none, skipped-found}
use Rattle.orders.proofs.SkippedList.{are-skipped}

-- neither a sheet nor 10
module _ {D : Dates} {d b t : List ℕ} where
  pub quick-refused : {n : Refusal} → Completes D d b (Err (Refused n)) t → Quickens D d b (record { completed = Err (Refused n); skipped = 0 }) t
  unfolding quick_answer quickening with_skipped complete_answer
  quick-refused c = record {
    answer = ap (with_skipped (skipped_of D (draft_sheet d))) c.answer;
    completes = c;
    filled = λ f e. let z : ◌≡◌ {A = ℕ} 0 1 = cc in absurd (omega arith);
    impossible = λ n e. let z : ◌≡◌ {A = ℕ} 0 1 = cc in absurd (omega arith);
    others = λ h k. refl;
    exactly = are-skipped D (draft_sheet d);
  }

  pub quick-broken : {f : Field} {g : RuleNumber} → Completes D d b (Err (Broken f g)) t → Quickens D d b (record { completed = Err (Broken f g); skipped = 0 }) t
  unfolding quick_answer quickening with_skipped complete_answer
  quick-broken c = record {
    answer = ap (with_skipped (skipped_of D (draft_sheet d))) c.answer;
    completes = c;
    filled = λ f e. let z : ◌≡◌ {A = ℕ} 0 1 = cc in absurd (omega arith);
    impossible = λ n e. let z : ◌≡◌ {A = ℕ} 0 1 = cc in absurd (omega arith);
    others = λ h k. refl;
    exactly = are-skipped D (draft_sheet d);
  }

-- the ways out of `ready`, into a buffer of n bytes
module _ (D : Dates) (d : List ℕ) (n : ℕ) where
  pub ready-1 : false ≡ draft_formed d → (b : List ℕ) → length b ≡ n → Quickens D d b (record { completed = Err (Refused Malformed); skipped = 0 }) b
  unfolding complete_answer complete_tests
  ready-1 f b l = quick-refused (complete-out 0 D d b (Err (Refused Malformed)) b (rw (← f) refl) refl refl)

  module _ (f : true ≡ draft_formed d) where
    pub ready-7 : (n ≡ sheet_size → ⊥) → (b : List ℕ) → length b ≡ n → Quickens D d b (record { completed = Err (Refused WrongSize); skipped = 0 }) b
    unfolding complete_answer complete_tests
    ready-7 z b l = quick-refused (complete-out 1 D d b (Err (Refused WrongSize)) b (rw (← f) refl) (rw (ne_eqb (length b) sheet_size (λ e. z (sym l ∙ e))) refl) refl refl)

    module _ (z : n ≡ sheet_size) where
      pub ready-12 : false ≡ dates_fit D → (b : List ℕ) → length b ≡ n → Quickens D d b (record { completed = Err (Refused Undated); skipped = 0 }) b
      unfolding complete_answer complete_tests
      ready-12 g b l = quick-refused (complete-out 2 D d b (Err (Refused Undated)) b (rw (← f) refl) (rw (eq-eqb (length b) sheet_size (l ∙ z)) refl) (rw (← g) refl) refl refl)

      -- what is asked of the sheet's payment
      pub ready-unpaid : true ≡ dates_fit D → (u : List ℕ) → Prepared d u → (r : Rejection) → Pays D u (Err r) → (e : Incomplete) → e ≡ incomplete_by r → Ready D d n (Err e) u
      ready-unpaid g u B (RejectBroken t k) p e q =
          let (y, h, j) = p (base-sized B D) in
          λ b l. subst (λ (x : Incomplete). Quickens D d b (record { completed = Err x; skipped = 0 }) b) (sym q) (quick-broken (broken-8 b (l ∙ z, sym g) B t k y h j))
      ready-unpaid g u B (RejectRefused k) p e q =
          let (y, h, j) = p (base-sized B D) in
          λ b l. subst (λ (x : Incomplete). Quickens D d b (record { completed = Err x; skipped = 0 }) b) (sym (q ∙ ap Refused y)) (quick-refused (refused-9 b (l ∙ z, sym g) B h j))

      pub ready-by : true ≡ dates_fit D → (u : List ℕ) → Prepared d u → (r : Rejection) → Pays D u (Err r) → (e : Result Facts Incomplete) → IsErrAnd e (λ (x : Incomplete). x ≡ incomplete_by r) → Ready D d n e u
      ready-by g u B r p (Ok x) q = absurd q
      ready-by g u B r p (Err e) q = ready-unpaid g u B r p e q

-- what the search answered
nothing-cases : (p : ℕ → Bool) (w : ℕ) (l : Look (List ℕ)) (m : Found) → m ≡ found_by p w l → m.pick ≡ None → (l ≡ none m.count) × (m.skipped ≡ tally p (places w 0))
nothing-cases p w (found n q) m e h = let z : ◌≡◌ {A = ℕ} 0 1 = cc in absurd (omega arith)
nothing-cases p w (none n) m e h = (cc, cc)

place-cases : (p : ℕ → Bool) (w : ℕ) (l : Look (List ℕ)) (m : Found) (c : Pick) → m ≡ found_by p w l → m.pick ≡ Some c → (q : List ℕ) × (l ≡ found m.count q) × (c ≡ pick_of q) × (m.skipped ≡ tally p (places (get_or q 0 0 + 1) 0))
place-cases p w (found n q) m c e h = (q, cc, cc, cc)
place-cases p w (none n) m c e h = let z : ◌≡◌ {A = ℕ} 0 1 = cc in absurd (omega arith)

-- `fill_found` left w in the work that held u, of the set of the filled slots
abbrev pub Fills : Dates → List ℕ → ℕ → Pick → List ℕ → Type 0
Fills D u set p w = (s : List ℕ) → length s ≡ sheet_size → set ≡ set_of D s → u ≡ base_of s → w ≡ picked_of D u (p.status ∷ p.basis ∷ p.document ∷ p.day ∷ [])

module _ {D : Dates} {d u : List ℕ} {x : Facts} (b : List ℕ) (P : Payable D d (length b) x u) where
  module _ (set : ℕ) (p : Pick) (w : List ℕ) (hset : (F : Dates) → draft_formed d ≡ true → set ≡ set_of F (draft_sheet d)) (hw : Fills D u set p w) where
    filled-by : w ≡ picked_of D u (p.status ∷ p.basis ∷ p.document ∷ p.day ∷ [])
    filled-by = hw (draft_sheet d) (size-of b P) (hset D P.formed) P.base

    pub filled-long : sheet_size ≡ length w
    filled-long = sym (ap length filled-by ∙ (picked-alike D u _ (ap length P.base ∙ base-length D (draft_sheet d) (size-of b P))).0)

  module _ (m : Found) (hm : (D : Dates) (v : List ℕ) → Payment D x v → m ≡ found_of D v) where
    sought : m ≡ found_by (skips D (base_of (draft_sheet d))) (width (blank (text_of (base_of (draft_sheet d)) 6)) (status_count D)) (first_pick D (base_of (draft_sheet d)))
    unfolding found_of
    sought = hm D (base_of (draft_sheet d)) P.payment

    pub quick-10 : m.pick ≡ None → Quickens D d b (record { completed = Err (Impossible m.count); skipped = m.skipped }) b
    unfolding quick_answer quickening with_skipped complete_answer
    quick-10 e =
        let (l, h) = nothing-cases _ _ (first_pick D (base_of (draft_sheet d))) m sought e in
        let q : m.skipped ≡ skipped_of D (draft_sheet d) = h ∙ skipped-none D (draft_sheet d) (size-of b P) m.count l in
        let w = refused-10 b P m.count l in
        record {
          answer = λ i. with_skipped (q i) (w.answer i);
          completes = w;
          filled = λ f j. q;
          impossible = λ i j. q;
          others = λ h j. absurd (j m.count refl);
          exactly = are-skipped D (draft_sheet d);
        }

    pub quick-filled : (set : ℕ) (p : Pick) (w f : List ℕ) → ((F : Dates) → draft_formed d ≡ true → set ≡ set_of F (draft_sheet d)) → m.pick ≡ Some p → Fills D u set p w → f ≡ put_at b 0 w
        → Quickens D d b (record { completed = Ok (record { count = m.count; set = set; ones = ones set }); skipped = m.skipped }) f
    unfolding quick_answer quickening
    quick-filled set p w f hset e hw hf =
        let (q, l, pq, h) = place-cases _ _ (first_pick D (base_of (draft_sheet d))) m p sought e in
        let c : m.skipped ≡ skipped_of D (draft_sheet d) = h ∙ skipped-found D (draft_sheet d) (size-of b P) m.count q l in
        let a = filled-first b P m.count set q p w f (hset D P.formed) l pq (filled-by set p w hset hw) hf in
        record {
          answer = λ i. with_skipped (c i) (a.answer i);
          completes = a;
          filled = λ h j. c;
          impossible = λ i j. c;
          others = λ h j. absurd (h _ refl);
          exactly = are-skipped D (draft_sheet d);
        }
