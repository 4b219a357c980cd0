-- What `pretest` promises, by its definition, and the ways through it.
use mathlib.Core.Path.{◌≡◌, refl, sym, ap, ◌∙◌, subst}
use mathlib.Core.Logic.{◌↔◌}
use mathlib.Core.Bool.{Bool, true, false, not, true≢false}
use mathlib.Core.List.{List, [], ◌∷◌, ◌++◌, Memᴰ}
use Prim.Native.Nat.{ℕ}
use native.Mathlib.Omega.{arith}
use borrow.Author.Tests.{eqb-true, eq-eqb, ne_eqb, not-false}
use lib.ListN.{length, get_or}
use Rattle.texts.specs.Refusals.{refusal_number}
use Rattle.texts.specs.declared.answers.Refusal.TheVariants.{Malformed, NotBudget}
use Rattle.texts.specs.declared.answers.Refusal.{Refusal}
use Rattle.texts.specs.Texts.{every, any, are, among}
use Rattle.texts.specs.Answers.{success, refusal, number_of, Test, test, ◌refuses◌with◌, answer_by}
use Rattle.texts.proofs.Bools.{both}
use Rattle.texts.proofs.Refusals.{no-success, none_of, succeeded, refused, Way, way_out}
use Rattle.rules.specs.Rules.{budget, rules, test_of, order, basic, ahead, field_of, keeps, first_not, first_broken, rule_named}
use Rattle.texts.specs.Quoted.{Text}
use Rattle.sheets.specs.Sheet.{Sheet, cell, sheet_size}
use Rattle.sheets.specs.Lists.{basis_texts, zero_texts}
use Rattle.sheets.specs.Dates.{force_of, dates_fit}
use Rattle.sheets.proofs.InForce.{first-in}
use Rattle.sheets.specs.declared.dates.Dates.{Dates}
use Rattle.rules.proofs.First.{none_kept, kept-none, split, named-some, named-none}
use Rattle.rules.specs.declared.rules.RuleNumber.{RuleNumber}
use Rattle.sheets.specs.Working.Facts.{Read}
use Rattle.sheets.specs.declared.facts.Facts.{Facts}
use Rattle.sheets.specs.declared.sheet.Field.{Field}
use Rattle.drafts.specs.Draft.{draft_formed, draft_sheet}
use Rattle.fillings.specs.Working.Entering.{filled_with}
use Rattle.fillings.proofs.EveryFilling.{every-mem}
use Rattle.orders.specs.Fillings.{Filling, first_filling}
use Rattle.orders.specs.Complete.{budget_payment, nothing, counted, sheet_tests, complete_tests, completing}
use Rattle.orders.specs.Whole.{count_of}
use Rattle.orders.specs.Pretest.{broken_by_all, named_field, pretest_answer, pretest_tests, pretesting, Names, Pretests}
use Rattle.orders.specs.Working.Entering.{picked_of}
use Rattle.orders.specs.declared.pretest.Named.{Named}
use Rattle.rules.specs.declared.check.Rejection.{Rejection}
use Rattle.rules.specs.declared.check.Rejection.TheVariants.{Broken, Refused}
use Rattle.orders.specs.Working.Paying.{Pays}
use Rattle.std.specs.Prelude.{Option, Some, None, Result, Ok, Err, IsErrAnd}
use Rattle.orders.proofs.Ahead.{every-alike, earliest, first-filling, first-budget, like-first, fields-first, first-broken, named-field}
use Rattle.orders.proofs.Keeping.{picked-length}
use Rattle.orders.proofs.Passing.{unkept}
use Rattle.orders.proofs.Completing.{Prepared, base-sized, class-is, first-at, beside-8, pays-by}
use Rattle.orders.proofs.Whole.{basic-numbered, length-draftSheet, answer-is, look_answer, refused-by, all-by}

-- a refusal with another number than that of the last test is one of the tests before it
before-10 : (us ws : List ℕ) (n : ℕ) (vs : List ℕ) → (n ≡ 10 → ⊥) → (z : Bool) (cs : List ℕ) (ts : List Test) → answer_by (ts ++ (z refuses 10 with cs) ∷ []) ws ≡ refusal n vs → answer_by ts us ≡ refusal n vs
before-10 us ws n vs o true cs [] e = let a : n ≡ 10 = cc in absurd (o a)
before-10 us ws n vs o false cs [] e = absurd (no-success n vs ws (sym e))
before-10 us ws n vs o z cs (test true k xs ∷ ts) e = e
before-10 us ws n vs o z cs (test false k xs ∷ ts) e = before-10 us ws n vs o z cs ts e

-- the rule that is named, and 1 where none is
abbrev number-in : Result (Option Named) Rejection → ℕ
number-in (Ok (Some m)) = m.rule.0
number-in (Ok None) = 1
number-in (Err e) = 1

pub not_named : ◌≡◌ {A = ℕ} 1 0 → ⊥
not_named e = omega arith

module _ (D : Dates) (d : List ℕ) where
  module _ (b : List ℕ) (z : length b ≡ sheet_size) (t : dates_fit D ≡ true) (n : ℕ) (vs : List ℕ) where
    abbrev last : Test
    last = nothing (first_filling D (draft_sheet d)) refuses 10 with (counted (first_filling D (draft_sheet d)) ∷ [])

    refuses-as : pretesting D d ≡ refusal n vs → completing D d b ≡ refusal n vs
    unfolding pretesting pretest_tests completing complete_tests sheet_tests
    refuses-as e = rw (eq-eqb (length b) sheet_size z, t) (sym (refused _ _ n vs (pretest_tests D d) (last ∷ []) (sym e)).1)

    refuses-back : (n ≡ 10 → ⊥) → completing D d b ≡ refusal n vs → pretesting D d ≡ refusal n vs
    unfolding pretesting pretest_tests completing complete_tests sheet_tests
    refuses-back o e = before-10 _ _ n vs o (nothing (first_filling D (draft_sheet d))) (counted (first_filling D (draft_sheet d)) ∷ []) (pretest_tests D d) (rw (eq-eqb (length b) sheet_size z, t) at e)

  module _ (f : draft_formed d ≡ true) (p : budget_payment D (draft_sheet d) ≡ true) where
    size : length (draft_sheet d) ≡ sheet_size
    size = length-draftSheet d f

    paid-is : pretesting D d ≡ success (named_field D (draft_sheet d) ∷ broken_by_all D (draft_sheet d) ∷ [])
    unfolding pretesting pretest_tests budget_payment
    paid-is =
        let q = both (every (keeps D (draft_sheet d)) basic) (budget (draft_sheet d)) p in
        rw (f, kept-none (keeps D (draft_sheet d)) basic q.0, q.1)

    none-answer : broken_by_all D (draft_sheet d) ≡ 0 → pretesting D d ≡ success (0 ∷ 0 ∷ [])
    unfolding field_of rules
    none-answer z =
        let f0 : named_field D (draft_sheet d) ≡ 0 = named-field D (draft_sheet d) size ∙ ap (λ (n : ℕ). field_of rules n (earliest D (draft_sheet d) size)) z in
        paid-is ∙ (λ i. success (f0 i ∷ z i ∷ []))

    says_none : (pretesting D d ≡ success (0 ∷ 0 ∷ [])) ↔ ((g : List ℕ) → Filling D (draft_sheet d) g → every (keeps D g) ahead ≡ true)
    unfolding every
    says_none = (
      λ e g w.
          let q : success (named_field D (draft_sheet d) ∷ broken_by_all D (draft_sheet d) ∷ []) ≡ success (0 ∷ 0 ∷ []) = sym paid-is ∙ e in
          let z : broken_by_all D (draft_sheet d) ≡ 0 = cc in
          every-alike (keeps D g) (keeps D (earliest D (draft_sheet d) size)) ahead (like-first D (draft_sheet d) size g w)
          ∙ none_kept (keeps D (earliest D (draft_sheet d) size)) ahead refl (sym (first-broken D (draft_sheet d) size) ∙ z),
      λ h.
          let z : broken_by_all D (draft_sheet d) ≡ 0 = first-broken D (draft_sheet d) size ∙ kept-none (keeps D (earliest D (draft_sheet d) size)) ahead (h (earliest D (draft_sheet d) size) (first-filling D (draft_sheet d) size)) in
          none-answer z,
    )

    names : (g n : ℕ) → (n ≡ 0 → ⊥) → pretesting D d ≡ success (g ∷ n ∷ []) → Names D d (draft_sheet d) g n
    unfolding every any are among
    names g n y e =
        let s = draft_sheet d in
        let o = earliest D s size in
        let q : success (named_field D s ∷ broken_by_all D s ∷ []) ≡ success (g ∷ n ∷ []) = sym paid-is ∙ e in
        let a : named_field D s ≡ g = cc in
        let b : broken_by_all D s ≡ n = cc in
        let fb : first_not (keeps D o) ahead ≡ n = sym (first-broken D s size) ∙ b in
        let (bs, m, cs, el, kb, bm, im) = split (keeps D o) ahead (λ k. y (sym fb ∙ kept-none (keeps D o) ahead k)) in
        let mn : m ≡ n = sym im ∙ fb in
        let within : Memᴰ m ahead = subst (Memᴰ m) (sym el) (mathlib.Core.List.Memᴰ.append_right bs (mathlib.Core.List.Memᴰ.head refl)) in
        let br : (h : List ℕ) → Filling D s h → (keeps D h m ≡ false) × (field_of rules m h ≡ g) =
        λ h w. (
          like-first D s size h w m within ∙ bm,
          fields-first D s size h w m within ∙ ap (λ (k : ℕ). field_of rules k o) (mn ∙ sym b) ∙ sym (named-field D s size) ∙ a,
        )
        in
        subst (Names D d s g) mn
        (record {
          before = bs;
          after = cs;
          listed = el;
          broken = br;
          earlier = λ h w. every-alike (keeps D h) (keeps D o) bs (λ k l. like-first D s size h w k (subst (Memᴰ k) (sym el) (mathlib.Core.List.Memᴰ.append_left (m ∷ cs) l))) ∙ kb;
          hopeless = λ b' z fit.
              let t : among m order ≡ true = every-mem (λ (k : ℕ). among k order) {l = ahead} refl within in
              let ten = (refused-by D s b' size (first_filling D s) refl).1 (λ h w. unkept D h (m ∷ []) (rw t) (rw (br h w).0)) in
              let al = all-by D s b' size (first_filling D s) refl ten in
              (count_of (look_answer D s (first_filling D s)), answer-is D d b' f z fit p ∙ al.0, al.1);
        })

  -- an answer that is no refusal is of a budget payment
  passed : (vs : List ℕ) → pretesting D d ≡ success vs → (draft_formed d ≡ true) × (budget_payment D (draft_sheet d) ≡ true)
  unfolding pretesting pretest_tests budget_payment
  passed vs e =
      let s = draft_sheet d in
      let q = succeeded _ vs (pretest_tests D d) (sym e) in
      let o = none_of (pretest_tests D d) q.0 in
      let k = none_kept (keeps D s) basic basic-numbered (eqb-true _ _ (not-false _ o.1.0)) in
      let b : budget s ≡ true = not-false (budget s) o.1.1.0 in
      (not-false _ o.0, rw (k, b))

  -- the promise, from the equation that the code is proved to meet
  pub pretests-by : (r : Result (Option Named) Rejection) → pretest_answer r ≡ pretesting D d → (number-in r ≡ 0 → ⊥) → Pretests D d r
  unfolding pretest_answer
  pretests-by r e y = record {
    answer = e;
    refused = λ b z t n vs h. refuses-as b z t n vs (sym e ∙ h);
    also_refused = λ b z t n vs o h. e ∙ refuses-back b z t n vs o h;
    paid = λ f p. ap number_of (e ∙ paid-is f p);
    none = λ f p. rw e (says_none f p);
    named = λ g n y h. let w = passed (g ∷ n ∷ []) (sym e ∙ h) in names w.0 w.1 g n y (sym e ∙ h);
    numbered = λ m h z. y (ap number-in h ∙ z);
    holds = λ m h.
        let a = sym e ∙ ap pretest_answer h in
        let w = passed (m.field.0 ∷ m.rule.0 ∷ []) a in
        names w.0 w.1 m.field.0 m.rule.0 (λ z. y (ap number-in h ∙ z)) a;
    unnamed = λ h. let a = sym e ∙ ap pretest_answer h in let w = passed (0 ∷ 0 ∷ []) a in (says_none w.0 w.1).0 a;
    broken = λ f n h b z t. refuses-as b z t 8 (f.0 ∷ n.0 ∷ []) (sym e ∙ ap pretest_answer h);
    number = λ n h b z t. refuses-as b z t (refusal_number n) [] (sym e ∙ ap pretest_answer h);
  }

-- ---- the ways through `pretest`: it reads the facts at some dates E, and what it says holds at all dates

ahead-same : (D E : Dates) (s : Sheet) → first_broken D s ahead ≡ first_broken E s ahead
unfolding first_not keeps rules test_of
ahead-same D E s = refl

payment-same : (D E : Dates) (s : Sheet) → budget_payment D s ≡ budget_payment E s
unfolding budget_payment every keeps rules test_of
payment-same D E s = refl

-- the first entry is 01 at all dates
zeros-same : (D E : Dates) (u : Sheet) → picked_of D u (0 ∷ 0 ∷ 0 ∷ 0 ∷ []) ≡ picked_of E u (0 ∷ 0 ∷ 0 ∷ 0 ∷ [])
unfolding picked_of
zeros-same D E u =
    ap (λ (t : Text). filled_with u ((6, cell t) ∷ (11, cell (get_or basis_texts 0 [])) ∷ (13, cell (get_or zero_texts 0 [])) ∷ (14, cell (get_or zero_texts 0 [])) ∷ []))
    (first-in (force_of D) ∙ sym (first-in (force_of E)))

pub pretest-out : (k : ℕ) (D : Dates) (d : List ℕ) (r : Result (Option Named) Rejection) → (number-in r ≡ 0 → ⊥)
    → Way (named_field D (draft_sheet d) ∷ broken_by_all D (draft_sheet d) ∷ []) [] [] (pretest_answer r) [] (Pretests D d r) k (pretest_tests D d)
unfolding pretesting
pretest-out k D d r y = way_out _ [] [] _ [] _ k (pretest_tests D d) (λ p q. pretests-by D d r p y)

pub ahead-1 : (D : Dates) (d : List ℕ) → false ≡ draft_formed d → Pretests D d (Err (Refused Malformed))
unfolding pretest_answer pretest_tests
ahead-1 D d f = pretest-out 0 D d (Err (Refused Malformed)) not_named (rw (← f) refl) refl refl

module _ (E : Dates) {d u : List ℕ} (B : Prepared d u) where
  ahead-8 : (f : Field) (g : RuleNumber) → (g.0 ≡ 0 → ⊥) → first_broken E u basic ≡ g.0 → f.0 ≡ field_of rules g.0 u → (D : Dates) → Pretests D d (Err (Broken f g))
  unfolding pretest_answer pretest_tests
  ahead-8 f g y h j D = pretest-out 1 D d (Err (Broken f g)) not_named (rw B.formed) (rw (first-at E B h D, ne_eqb g.0 0 y)) (beside-8 E B h D f.0 j) refl

  ahead-9 : first_broken E u basic ≡ 0 → budget u ≡ false → (D : Dates) → Pretests D d (Err (Refused NotBudget))
  unfolding pretest_answer pretest_tests
  ahead-9 h r D = pretest-out 2 D d (Err (Refused NotBudget)) not_named (rw B.formed) (rw (first-at E B h D)) (rw (class-is E B false r)) refl refl

  -- a sheet that is no budget payment
  unpaid : (r : Rejection) → Pays E u (Err r) → (D : Dates) → Pretests D d (Err r)
  unpaid (Broken f g) p D = let (y, h, j) = p (base-sized B E) in ahead-8 f g y h j D
  unpaid (Refused n) p D = let (y, h, j) = p (base-sized B E) in subst (λ (k : Refusal). Pretests D d (Err (Refused k))) (sym y) (ahead-9 h j D)

  pub ahead-unpaid : (r : Rejection) → Pays E u (Err r) → (e : Result (Option Named) Rejection) → IsErrAnd e (λ (x : Rejection). x ≡ r) → (D : Dates) → Pretests D d e
  ahead-unpaid r p (Ok x) q D = absurd q
  ahead-unpaid r p (Err e) q D = subst (λ (x : Rejection). Pretests D d (Err x)) (sym q) (unpaid r p D)

module _ (E : Dates) {d u : List ℕ} (B : Prepared d u) (x : Facts) (P : Pays E u (Ok x)) (v : List ℕ) (hv : v ≡ picked_of E u (0 ∷ 0 ∷ 0 ∷ 0 ∷ [])) (fx : Facts) (hfx : length v ≡ sheet_size → Read E fx v) (m : Option RuleNumber) (hm : (D : Dates) (k : List ℕ) → Read D fx k → budget k ≡ true → m ≡ rule_named (first_broken D k ahead)) where
  pays : budget (draft_sheet d) ≡ true
  pays = class-is E B true (P (base-sized B E)).2

  paid : (D : Dates) → budget_payment D (draft_sheet d) ≡ true
  paid D = let p = P (base-sized B E) in payment-same D E (draft_sheet d) ∙ pays-by E B p.1 p.2

  filled : (D : Dates) → v ≡ earliest D (draft_sheet d) B.size
  unfolding earliest
  filled D = hv ∙ zeros-same E D u ∙ ap (λ (k : List ℕ). picked_of D k (0 ∷ 0 ∷ 0 ∷ 0 ∷ [])) B.base

  by_all : (D : Dates) → m ≡ rule_named (broken_by_all D (draft_sheet d))
  unfolding earliest
  by_all D =
      let seen = subst (Read E fx) (filled D) (hfx (ap length (filled D) ∙ picked-length D (draft_sheet d) B.size (0 ∷ 0 ∷ 0 ∷ 0 ∷ []))) in
      hm E (earliest D (draft_sheet d) B.size) seen (first-budget D (draft_sheet d) B.size ∙ pays)
      ∙ ap rule_named (ahead-same E D (earliest D (draft_sheet d) B.size) ∙ sym (first-broken D (draft_sheet d) B.size))

  pub ahead_none : m ≡ None → (D : Dates) → Pretests D d (Ok None)
  unfolding pretest_answer
  ahead_none z D = pretests-by D d (Ok None) (sym (none-answer D d B.formed (paid D) (named-none _ (sym z ∙ by_all D)))) not_named

  pub ahead-named : (g : RuleNumber) → m ≡ Some g → (f : Field) → f.0 ≡ field_of rules g.0 v → (D : Dates) → Pretests D d (Ok (Some (record { field = f; rule = g })))
  unfolding pretest_answer
  ahead-named g z f j D =
      let (n, y) = named-some (broken_by_all D (draft_sheet d)) g (sym z ∙ by_all D) in
      let n0 : f.0 ≡ named_field D (draft_sheet d) = j ∙ (λ i. field_of rules (sym n i) (filled D i)) ∙ sym (named-field D (draft_sheet d) B.size) in
      pretests-by D d (Ok (Some (record { field = f; rule = g }))) (sym (paid-is D d B.formed (paid D) ∙ (λ i. success (sym n0 i ∷ n i ∷ [])))) (λ q. true≢false (sym y ∙ ap not (eq-eqb _ 0 (n ∙ q))))
