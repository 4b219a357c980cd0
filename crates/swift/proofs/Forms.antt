-- What rules 1, 2, 3, 5, 7, 9, 10, 12 and class A ask, in words of the seven texts; the lengths that follow.
use mathlib.Core.Path.{◌≡◌, refl, sym, ap, ◌∙◌}
use mathlib.Core.Bool.{Bool, true, false, not, ◌&&◌, ◌||◌, or-true, false≢true}
use mathlib.Core.List.{List, [], ◌∷◌}
use Prim.Native.Nat.{ℕ, ◌+◌}
use native.Mathlib.Omega.{arith}
use borrow.Author.Tests.{eqb-true}
use lib.Dec.{eqb}
use lib.ListN.{length}
use Rattle.texts.specs.Quoted.{Text, bytes}
use Rattle.texts.specs.Texts.{every, any, are, among, same, between, blank, digits, digits_not_00, digits_not_zero, all_zero, digit, ◌is◌, ◌begins◌, ◌begins_one_of◌, ◌is_one_of◌}
use Rattle.texts.proofs.Bools.{both, and2}
use Rattle.texts.proofs.Codes.{same_true}
use Rattle.texts.proofs.Every.{every-within}
use Rattle.sheets.specs.Sheet.{Sheet, slot_of, text_of, ◌⟨◌⟩}
use Rattle.sheets.specs.Forms.{◌⇒◌, bik, account, of_class_a, of_class_b, home, uin, code4, inn10, kpp, check_digit, weights10}
use Rattle.sheets.specs.Lists.{bank_a, accounts_a, account03212, statuses}
use Rattle.sheets.specs.Dates.{force_of, allowed_in, status_texts, listed}
use Rattle.sheets.proofs.InForce.{every_in, listed_in}
use Rattle.sheets.specs.declared.dates.Dates.{Dates}
use Rattle.rules.specs.Working.Tests.{all_true}
use Rattle.rules.specs.Rules.{class_a, rules, test_of, keeps, keeps_all, order, of_lines}
use Rattle.swift.specs.Lines.{Seven, seven_in, any_status, fits_in}
use Rattle.swift.specs.Working.Places.{least_lines}

-- class A, a budget payment; l tells whether the status is listed
abbrev of_a : Seven → Bool
of_a t = of_class_a t.bank t.account

abbrev of_budget : Seven → Bool
of_budget t = of_a t || of_class_b t.bik t.account

abbrev coded : Seven → Bool
coded t = (t.code is "0" || uin t.code) || (code4 t.code && t.account begins account03212)

abbrev forms : Bool → Seven → List Bool
forms l t =
    bik t.bik
    ∷ (blank t.bank || account t.bank)
    ∷ account t.account
    ∷ (of_budget t ⇒ (of_a t ⇒ home t.account))
    ∷ (of_budget t ⇒ coded t)
    ∷ (of_budget t ⇒ inn10 t.payee)
    ∷ (of_budget t ⇒ l)
    ∷ (of_budget t ⇒ kpp t.kpp)
    ∷ []

unfoldable pub forms_by : Bool → Seven → Bool
forms_by l t = all_true (forms l t) && of_a t

pub fits-at : (D : Dates) (s : Sheet) → (every (keeps D s) of_lines && class_a s) ≡ forms_by (listed (s ⟨ 101 ⟩) (status_texts D)) (seven_in s)
unfolding every keeps test_of rules seven_in forms_by all_true
fits-at D s = refl

-- the lengths
pub record Widths (t : Seven) : Type 0 where
  pub status : length t.status ≡ 2
  pub bik : length t.bik ≡ 9
  pub bank : length t.bank ≡ 20
  pub account : length t.account ≡ 20
  pub payee : length t.payee ≡ 10
  pub kpp : length t.kpp ≡ 9

digits_long : (n : ℕ) (t : Text) → digits n t ≡ true → length t ≡ n
digits_long n t h = eqb-true (length t) n (both (eqb (length t) n) (every digit t) h).0

given : (b x : Bool) → b ≡ true → (b ⇒ x) ≡ true → x ≡ true
given true x e h = h
given false x e h = absurd (false≢true e)

or_left : (a b : Bool) → a ≡ true → (a || b) ≡ true
or_left true b e = refl
or_left false b e = absurd (false≢true e)

-- 15 begins 40102, so that it is not blank
none : (u : Text) → length u ≡ 0 → u begins "40102" ≡ true → ⊥
unfolding same between
none [] e b = false≢true b
none (x ∷ xs) e b = omega arith

bank-long : (t : Text) → t begins "40102" ≡ true → (blank t || account t) ≡ true → length t ≡ 20
bank-long t a h = go (blank t) refl h
  where
    go : (b : Bool) → blank t ≡ b → (b || account t) ≡ true → length t ≡ 20
    go true e f = absurd (none t (eqb-true (length t) 0 e) a)
    go false e f = digits_long 20 t f

listed-step : (n : ℕ) (t u : Text) (b r : Bool) → same t u ≡ b → eqb (length u) n ≡ true → (b || r) ≡ true → (r ≡ true → length t ≡ n) → length t ≡ n
listed-step n t u true r s h f g = ap length (same_true t u s) ∙ eqb-true (length u) n h
listed-step n t u false r s h f g = g f

listed-long : (n : ℕ) (t : Text) (l : List Text) → every (λ (u : Text). eqb (length u) n) l ≡ true → listed t l ≡ true → length t ≡ n
unfolding every any
listed-long n t [] h e = absurd (false≢true e)
listed-long n t (u ∷ us) h e =
    let q = both (eqb (length u) n) (every (λ (u : Text). eqb (length u) n) us) h in
    listed-step n t u (same t u) (listed t us) refl q.0 e (listed-long n t us q.1)

-- each of some Booleans is true
abbrev pub Each : List Bool → Type 0
Each [] = Unit
Each (b ∷ bs) = (b ≡ true) × Each bs

pub each_of : (bs : List Bool) → all_true bs ≡ true → Each bs
unfolding all_true
each_of [] h = tt
each_of (b ∷ bs) h = let q = both b (all_true bs) h in (q.0, each_of bs q.1)

pub of-each : (bs : List Bool) → Each bs → all_true bs ≡ true
unfolding all_true
of-each [] e = refl
of-each (b ∷ bs) e = and2 b (all_true bs) e.0 (of-each bs e.1)

module _ (l : Bool) (t : Seven) (h : forms_by l t ≡ true) where
  is-a : of_a t ≡ true
  unfolding forms_by
  is-a = (both (all_true (forms l t)) (of_a t) h).1

  kept : Each (forms l t)
  unfolding forms_by
  kept = each_of (forms l t) (both (all_true (forms l t)) (of_a t) h).0

  asked : (x : Bool) → (of_budget t ⇒ x) ≡ true → x ≡ true
  asked x e = given (of_budget t) x (or_left (of_a t) (of_class_b t.bik t.account) is-a) e

  pub is-listed : l ≡ true
  is-listed = asked l kept.1.1.1.1.1.1.0

  pub is-coded : coded t ≡ true
  is-coded = asked (coded t) kept.1.1.1.1.0

  pub widths : (D : Dates) → l ≡ listed t.status (status_texts D) → Widths t
  unfolding every
  widths D e =
      let k = kept in
      let p = asked (inn10 t.payee) k.1.1.1.1.1.0 in
      let q = asked (kpp t.kpp) k.1.1.1.1.1.1.1.0 in
      record {
        status = listed-long 2 t.status (status_texts D) (every_in (λ (u : Text). eqb (length u) 2) (force_of D) refl) (sym e ∙ is-listed);
        bik = digits_long 9 t.bik k.0;
        bank = bank-long t.bank (both (t.bank begins bank_a) (t.account begins_one_of accounts_a) is-a).0 k.1.0;
        account = digits_long 20 t.account k.1.1.0;
        payee = digits_long 10 t.payee (both (digits 10 t.payee) (not (t.payee begins "00")) (both (digits_not_00 10 t.payee) (check_digit weights10 t.payee) p).0).0;
        kpp = eqb-true (length t.kpp) 9 (both (eqb (length t.kpp) 9) (not (t.kpp begins "00")) (both (eqb (length t.kpp) 9 && not (t.kpp begins "00")) _ q).0).0;
      }

-- a status that is listed at some date is listed where all are in force
listed-any : (D : Dates) (t : Text) → listed t (status_texts D) ≡ true → listed t (status_texts any_status) ≡ true
listed-any D t h =
    let p = both (t is_one_of statuses) (allowed_in (force_of D) t) (sym (listed_in (force_of D) t) ∙ h) in
    listed_in (force_of any_status) t ∙ and2 _ _ p.0 (rw (or-true (not (t is "02")), or-true (not (t is "32")), or-true (not (t is "33"))))

-- what keeps the rules at some date fits
pub fits-once : (D : Dates) (s : Sheet) → keeps_all D s ≡ true → class_a s ≡ true → fits_in s ≡ true
unfolding fits_in keeps_all every any are among seven_in
fits-once D s k a =
    let t = s ⟨ 101 ⟩ in
    let h : forms_by (listed t (status_texts D)) (seven_in s) ≡ true = sym (fits-at D s) ∙ and2 _ _ (every-within (keeps D s) order of_lines refl k) a in
    let l = is-listed (listed t (status_texts D)) (seven_in s) h in
    fits-at any_status s ∙ ap (λ (b : Bool). forms_by b (seven_in s)) (listed-any D t l ∙ sym l) ∙ h

pub widths-in : (s : Sheet) → fits_in s ≡ true → Widths (seven_in s)
unfolding fits_in seven_in
widths-in s h = widths (listed (s ⟨ 101 ⟩) (status_texts any_status)) (seven_in s) (sym (fits-at any_status s) ∙ h) any_status refl

pub forms-in : (s : Sheet) → fits_in s ≡ forms_by (listed (seven_in s).status (status_texts any_status)) (seven_in s)
unfolding fits_in seven_in
forms-in s = fits-at any_status s

-- the lengths of the lines: 22 has 1, 4, 20 or 25 bytes
either : {C : Type 0} (a b : Bool) → (a || b) ≡ true → (a ≡ true → C) → (b ≡ true → C) → C
either true b e f g = f refl
either false b e f g = g e

abbrev lines_long : ℕ → Bool
lines_long n = among (least_lines + n) (113 ∷ 116 ∷ 132 ∷ 137 ∷ [])

digits-lines : (c : Text) (n : ℕ) → lines_long n ≡ true → digits_not_zero n c ≡ true → lines_long (length c) ≡ true
digits-lines c n e h = ap lines_long (digits_long n c (both (digits n c) (not (all_zero c)) h).0) ∙ e

coded-lines : (c a : Text) → ((c is "0" || uin c) || (code4 c && a begins account03212)) ≡ true → lines_long (length c) ≡ true
unfolding among any are
coded-lines c a h =
    either (c is "0" || uin c) (code4 c && a begins account03212) h
    (λ p.
    either (c is "0") (uin c) p
    (λ z. ap lines_long (ap length (same_true c (bytes "0") z)))
    (λ z. either (digits_not_zero 20 c) (digits_not_zero 25 c) z (digits-lines c 20 refl) (digits-lines c 25 refl)))
    (λ p. digits-lines c 4 refl (both (code4 c) (a begins account03212) p).0)

pub code-long : (s : Sheet) → fits_in s ≡ true → lines_long (length (text_of s 3)) ≡ true
unfolding fits_in seven_in ◌⟨◌⟩ slot_of
code-long s h = coded-lines (text_of s 3) (text_of s 2) (is-coded (listed (s ⟨ 101 ⟩) (status_texts any_status)) (seven_in s) (sym (fits-at any_status s) ∙ h))
