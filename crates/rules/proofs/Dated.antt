-- R-7: at the program's dates every sheet is checked as before.
use mathlib.Core.Path.{◌≡◌, refl, ap, sym, ◌∙◌}
use mathlib.Core.Bool.{Bool, true, false, ◌&&◌, false≢true}
use mathlib.Core.List.{List, [], ◌∷◌, ◌++◌}
use Prim.Native.Nat.{ℕ}
use Rattle.texts.specs.Quoted.{Text, bytes, words}
use Rattle.texts.specs.Texts.{every, any, same, ◌is_one_of◌, ◌begins◌}
use Rattle.texts.proofs.Bools.{cases}
use Rattle.texts.proofs.Codes.{same_true}
use Rattle.sheets.specs.Sheet.{Sheet, ◌⟨◌⟩}
use Rattle.sheets.specs.Forms.{◌⇒◌}
use Rattle.sheets.specs.Lists.{treasury_group, account03100}
use Rattle.sheets.specs.Dates.{program_dates, status_texts, listed}
use Rattle.sheets.specs.Tables.DatesTable.{programs, program-fits}
use Rattle.sheets.specs.declared.dates.Dates.{Dates}
use Rattle.rules.specs.Rules.{budget, rules, order, class_a, test_of, field_of, keeps, keeps_all, first_not}
use Rattle.rules.specs.Verdicts.{check_tests, checked}
use Rattle.rules.specs.Requests.Before.{first_by}
use Rattle.rules.specs.Requests.R7.{statuses_before, treasury_before, rule10_before, rules_before, keeps_before, tests_before, checked_before, AsBefore}

-- ---- two tests that agree up to a number, and behind it if they pass there

abbrev up_to9 : List ℕ
up_to9 = 1 ∷ 2 ∷ 3 ∷ 4 ∷ 5 ∷ 6 ∷ 7 ∷ 8 ∷ 9 ∷ []

abbrev from11 : List ℕ
from11 =
    11 ∷ 12 ∷ 13 ∷ 14 ∷ 15 ∷ 16 ∷ 17 ∷ 18 ∷ 19 ∷ 20 ∷ 22 ∷ 21 ∷ 23 ∷ 24 ∷ 25 ∷ 26 ∷ 27 ∷ 28 ∷ 29 ∷ 30 ∷ 31 ∷ 32 ∷ 33 ∷ 34 ∷ 35 ∷ []

module _ (p q : ℕ → Bool) where
  -- each of a list
  abbrev agree : List ℕ → Type 0
  agree [] = Unit {0}
  agree (n ∷ ns) = (p n ≡ q n) × agree ns

  first-agree : (ns : List ℕ) → agree ns → first_not p ns ≡ first_not q ns
  unfolding first_not
  first-agree [] a = refl
  first-agree (n ∷ ns) a = cc (a.0, first-agree ns a.1)

  every-agree : (ns : List ℕ) → agree ns → every p ns ≡ every q ns
  unfolding every
  every-agree [] a = refl
  every-agree (n ∷ ns) a = cc (a.0, every-agree ns a.1)

  first-behind : (n : ℕ) (ns ks : List ℕ) → agree ks → p n ≡ q n → (p n ≡ true → first_not p ns ≡ first_not q ns) → first_not p (ks ++ (n ∷ ns)) ≡ first_not q (ks ++ (n ∷ ns))
  unfolding first_not
  first-behind n ns [] a e f = cases (p n) (λ t. rw (← e, t) (f t)) (λ t. rw (← e, t))
  first-behind n ns (k ∷ ks) a e f = cc (a.0, first-behind n ns ks a.1 e f)

  every-behind : (n : ℕ) (ns ks : List ℕ) → agree ks → p n ≡ q n → (p n ≡ true → every p ns ≡ every q ns) → every p (ks ++ (n ∷ ns)) ≡ every q (ks ++ (n ∷ ns))
  unfolding every
  every-behind n ns [] a e f = cases (p n) (λ t. rw (← e, t) (f t)) (λ t. rw (← e, t))
  every-behind n ns (k ∷ ks) a e f = cc (a.0, every-behind n ns ks a.1 e f)

-- ---- rules 10 and 19

-- one that a text is not may be left out of a list
left_out : (t x y : Text) (l : List Text) → same t y ≡ false → any (same t) (x ∷ y ∷ l) ≡ any (same t) (x ∷ l)
unfolding any
left_out t x y l h = rw h

-- what is in document 01's list is not 02
no-02 : (t : Text) → (t is_one_of statuses_before) ≡ true → same t (bytes "02") ≡ false
unfolding ◌is_one_of◌ any same
no-02 t e = cases (same t (bytes "02")) (λ h. absurd (false≢true (ap (λ (u : Text). u is_one_of statuses_before) (sym (same_true t (bytes "02") h)) ∙ e))) (λ h. h)

treasury-same : (t : Text) → (t is_one_of statuses_before) ≡ true → (t is_one_of treasury_group) ≡ (t is_one_of treasury_before)
unfolding ◌is_one_of◌
treasury-same t e = left_out t (bytes "01") (bytes "02") (words "04 06 07 13 16 17 28 30 32") (no-02 t e)

module _ (D : Dates) (s : Sheet) where
  rule10-same : listed (s ⟨ 101 ⟩) (status_texts program_dates) ≡ rule10_before s
  unfolding ◌is_one_of◌
  rule10-same = ap (listed (s ⟨ 101 ⟩)) programs

  ten-same : keeps program_dates s 10 ≡ keeps_before D s 10
  unfolding keeps keeps_before test_of rules rules_before
  ten-same = ap (λ (b : Bool). budget s ⇒ b) rule10-same

  rule19-same : (b : Bool) → b ≡ budget s → keeps program_dates s 10 ≡ true → keeps program_dates s 19 ≡ keeps_before D s 19
  unfolding keeps keeps_before test_of rules rules_before
  rule19-same false h e = rw (← h)
  rule19-same true h e =
      let t : listed (s ⟨ 101 ⟩) (status_texts program_dates) ≡ true = ap (λ (b : Bool). b ⇒ listed (s ⟨ 101 ⟩) (status_texts program_dates)) h ∙ e in
      ap (λ (b : Bool). budget s ⇒ (class_a s && b ⇒ s ⟨ 17 ⟩ begins account03100)) (treasury-same (s ⟨ 101 ⟩) (sym rule10-same ∙ t))

  kept-alike : agree (keeps program_dates s) (keeps_before D s) up_to9
  unfolding keeps keeps_before test_of rules rules_before
  kept-alike = (refl, (refl, (refl, (refl, (refl, (refl, (refl, (refl, (refl, tt)))))))))

  behind-alike : keeps program_dates s 10 ≡ true → agree (keeps program_dates s) (keeps_before D s) from11
  unfolding keeps keeps_before test_of rules rules_before
  behind-alike e =
      let q = rule19-same (budget s) refl e in
      (refl, (refl, (refl, (refl, (refl, (refl, (refl, (refl, (q, (refl, (refl, (refl, (refl, (refl, (refl, (refl, (refl, (refl, (refl, (refl, (refl, (refl, (refl, (refl, (refl, tt)))))))))))))))))))))))))

  pub fields-same : (n : ℕ) → field_of rules n s ≡ field_of rules_before n s
  unfolding field_of rules rules_before
  fields-same n = refl

  first-same : first_not (keeps program_dates s) order ≡ first_by rules_before order D s
  unfolding keeps_before
  first-same =
      first-behind (keeps program_dates s) (keeps_before D s) 10 from11 up_to9 kept-alike ten-same
      (λ e. first-agree (keeps program_dates s) (keeps_before D s) from11 (behind-alike e))

pub as_before : (D : Dates) (s : Sheet) → AsBefore D s (checked program_dates s)
unfolding checked check_tests checked_before tests_before keeps_all
as_before D s =
    record {
      answer = rw (program-fits, first-same D s, fields-same D s);
      kept =
          every-behind (keeps program_dates s) (keeps_before D s) 10 from11 up_to9 (kept-alike D s) (ten-same D s)
          (λ e. every-agree (keeps program_dates s) (keeps_before D s) from11 (behind-alike D s e));
    }
