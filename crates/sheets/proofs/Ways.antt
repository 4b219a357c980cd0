-- What the ways through the functions come to: facts of plain values, of which `search` finds the premises.
use mathlib.Core.Path.{◌≡◌, refl, ap, sym, ◌∙◌}
use mathlib.Core.Bool.{Bool, true, false, not, cond, ◌&&◌, ◌||◌, and_comm, and_assoc, and-true}
use mathlib.Core.List.{List, [], ◌∷◌}
use mathlib.Core.Logic.{inl, inr}
use Prim.Native.Nat.{ℕ, ◌/◌, ◌%◌, ◌≤◌, ◌<◌}
use native.Mathlib.Decide.{ℕ_discrete, dec_lt}
use native.Mathlib.Omega.{arith}
use borrow.Author.Tests.{eqb-true, eq-eqb, ne_eqb, lt-ltb, le-ltb, le-leb, lt-leb, not-true, not-false}
use lib.Dec.{eqb, leb, ltb}
use lib.ListN.{length, get_or, replicate}
use Rattle.texts.specs.Quoted.{Text}
use Rattle.texts.specs.Texts.{every, any, are, among, between, same, starts_with, digits, value_of, value, number, weighted, ◌is_one_of◌}
use Rattle.texts.proofs.Bools.{both}
use Rattle.texts.proofs.Codes.{same_true, is-one-of}
use Rattle.texts.proofs.Arms.{AnyOf, arm, outside}
use Rattle.sheets.specs.Sheet.{sheet_size, text_of}
use Rattle.sheets.specs.Forms.{check_digit, digit_or_capital, kpp, person, snils_bound, snils_check, snils, pension, leap, month_days, gregorian, date}
use Rattle.sheets.specs.Lists.{customs_group, treasury_group, courts_group, personal_group, banks_b, person_types, zero_texts}
use Rattle.sheets.specs.Working.Facts.{numbers_of, is_b, in_set, allowed_by, groups_by, groups_of, standing_by, standing_of, wanted_by, basis_of, document_of, day_of, facts_by, facts_of, facts_in, Read}
use Rattle.sheets.specs.declared.forms.Wanted.TheVariants.{Any, Ten}
use Rattle.sheets.specs.Dates.{day_number, dates_fit, force_of, texts_in, listed}
use Rattle.sheets.specs.declared.dates.Dates.{Dates}
use Rattle.sheets.specs.declared.dates.Force.{Force}
use Rattle.sheets.proofs.InForce.{listed_by}
use Rattle.sheets.proofs.Sets.{all_set}
use Rattle.sheets.specs.declared.facts.Standing.{Standing}
use Rattle.sheets.specs.declared.facts.Basis.{Basis}
use Rattle.sheets.specs.declared.facts.Document.{Document}
use Rattle.sheets.specs.declared.facts.Day.{Day}
use Rattle.sheets.specs.declared.facts.Banking.{Banking}
use Rattle.sheets.specs.declared.facts.Parties.{Parties}
use Rattle.sheets.specs.declared.facts.Classifiers.{Classifiers}
use Rattle.sheets.specs.declared.facts.Facts.{Facts}

-- is_kpp
pub kpp-these : (t u v : Text) (a b : ℕ) (x y p q z : Bool) → length t ≡ 9 → a ≡ get_or t 4 0 → x ≡ digit_or_capital a → b ≡ get_or t 5 0 → y ≡ digit_or_capital b
    → u ≡ between t 0 4 → p ≡ digits 4 u → v ≡ between t 6 9 → q ≡ digits 3 v → z ≡ starts_with t (48 ∷ 48 ∷ []) → (not z && (p && ((x && y) && q))) ≡ kpp t
kpp-these t u v a b x y p q z l ea ex eb ey eu ep ev eq ez = cc (eq-eqb (length t) 9 l)

-- has_check_digit
pub check-digit-is : (ws t u : List ℕ) (b v k s : ℕ) → u ≡ between ws 0 25 → b ≡ get_or t (length u) 0 → v ≡ value_of b → k ≡ v
    → s ≡ weighted (between ws 0 25) t → eqb k (s % 11 % 10) ≡ check_digit (between ws 0 25) t
unfolding check_digit
check-digit-is ws t u b v k s eu eb ev ek es = cc

-- is_inn10, is_inn12: where the digits are right
module _ (a b : Bool) (e : b ≡ a) (h : b ≡ true) where
  pub inn10-told : (c x : Bool) → x ≡ c → x ≡ (a && c)
  inn10-told c x f = rw (sym e ∙ h) f

  pub inn12-told : (c d x y : Bool) → x ≡ c → y ≡ d → (x && y) ≡ (a && (c && d))
  inn12-told c d x y f g = rw (sym e ∙ h, f, g)

-- the same, said of either answer of the first test
module _ (a b : Bool) (e : b ≡ a) where
  pub inn-other : (c : Bool) → not b ≡ true → false ≡ (a && c)
  inn-other c h = cc (not-true b h)

  pub inn-these : (c d : Bool) → not b ≡ false → d ≡ c → d ≡ (a && c)
  inn-these c d h f = cc (not-false b h)

-- snils_check
pub two_digits : (s : ℕ) → s % 101 % 100 ≡ cond (eqb (s % 101) 100) 0 (s % 101)
two_digits s =
    elim (ℕ_discrete (s % 101) 100) [
      | yes e ↦ simp (eq-eqb (s % 101) 100 e) (omega (arith, e))
      | no n ↦ simp (ne_eqb (s % 101) 100 n) (omega (arith, n))
    ]

-- is_snils
not-above : (a b : ℕ) → leb b a ≡ not (ltb a b)
not-above a b = elim (dec_lt a b) [ yes h ↦ simp (lt-ltb a b h, lt-leb b a h) | no h ↦ let k : b ≤ a = omega arith in simp (le-ltb a b k, le-leb b a k) ]

module _ (t : Text) (b : Bool) (e : b ≡ digits 11 t) where
  pub snils-other : not b ≡ true → false ≡ snils t
  unfolding snils
  snils-other h = cc (not-true b h)

  pub snils-these : (u v : Text) (n m k c : ℕ) → not b ≡ false → u ≡ between t 0 9 → n ≡ number 9 u → v ≡ between t 9 11 → m ≡ number 2 v → k ≡ m → c ≡ snils_check u → (leb n snils_bound || eqb k c) ≡ snils t
  unfolding snils
  snils-these u v n m k c h eu en ev em ek ec = cc (not-false b h, not-above snils_bound n)

-- is_person
person-by : (t : Text) → ((leb 4 (length t) && same (between t 2 3) (59 ∷ [])) && among (number 2 (between t 0 2)) (numbers_of 2 person_types)) ≡ person t
unfolding person every number value value_of
person-by t =
    let types = between t 0 2 is_one_of person_types in
    cc (
      is-one-of 2 (between t 0 2) person_types refl,
      and_comm (leb 4 (length t) && same (between t 2 3) (59 ∷ [])) types,
      and_comm (leb 4 (length t)) (same (between t 2 3) (59 ∷ [])),
      and_assoc types (same (between t 2 3) (59 ∷ [])) (leb 4 (length t)),
    )

module _ (t u : Text) (b : Bool) (eu : u ≡ between t 2 3) (e : b ≡ same u (59 ∷ [])) where
  pub person-other : (leb 4 (length t) && b) ≡ false → (leb 4 (length t) && b) ≡ person t
  person-other h = cc (h, person-by t)

  pub person-these : (v : Text) (n : ℕ) (r : Bool) → (leb 4 (length t) && b) ≡ true → v ≡ between t 0 2 → n ≡ number 2 v → r ≡ among n (numbers_of 2 person_types) → r ≡ person t
  person-these v n r h ev en er = cc (h, person-by t)

-- is_pension
module _ (t : Text) (b : Bool) (e : b ≡ starts_with t (49 ∷ 52 ∷ 59 ∷ [])) where
  pub pension-other : not b ≡ true → true ≡ pension t
  unfolding pension
  pension-other h = cc (not-true b h)

  pub pension-these : (u : Text) (r : Bool) → not b ≡ false → u ≡ between t 3 25 → r ≡ snils u → r ≡ pension t
  unfolding pension
  pension-these u r h eu er = cc (not-false b h)

-- month_days
pub month-30 : (m y : ℕ) → AnyOf m 4 (6 ∷ 9 ∷ 11 ∷ []) → 30 ≡ month_days m y
unfolding month_days among any are
month-30 m y a = arm (λ n. month_days n y) 30 m 4 (6 ∷ 9 ∷ 11 ∷ []) (refl, (refl, (refl, refl))) a

pub month-31 : (m y : ℕ) → (AnyOf m 4 (6 ∷ 9 ∷ 11 ∷ []) → ⊥) → (m ≡ 2 → ⊥) → 31 ≡ month_days m y
unfolding month_days
month-31 m y a e = simp (outside m 4 (6 ∷ 9 ∷ 11 ∷ []) a, ne_eqb m 2 e)

-- is_gregorian
month-least : (m y : ℕ) → 28 ≤ month_days m y
unfolding month_days
month-least m y = go (among m (4 ∷ 6 ∷ 9 ∷ 11 ∷ [])) (eqb m 2) (leap y)
  where
    go : (a b c : Bool) → 28 ≤ cond a 30 (cond b (cond c 29 28) 31)
    go true b c = omega arith
    go false true true = omega arith
    go false true false = omega arith
    go false false c = omega arith

pub gregorian-early : (d m y : ℕ) → d ≤ 28 → (((leb 1900 y && leb y 2099) && (leb 1 m && leb m 12)) && leb 1 d) ≡ gregorian d m y
unfolding gregorian
gregorian-early d m y h = sym (simp (le-leb d (month_days m y) (omega (arith, month-least m y)), and-true))

pub gregorian-late : (d m y n : ℕ) → 28 < d → n ≡ month_days m y → (((leb 1900 y && leb y 2099) && (leb 1 m && leb m 12)) && leb d n) ≡ gregorian d m y
unfolding gregorian
gregorian-late d m y n h e = rw e (sym (simp (le-leb 1 d (omega arith))))

-- is_day_number
pub day-told : (n : ℕ) (r : Bool) → r ≡ gregorian (n % 100) (n / 100 % 100) (n / 100 / 100) → r ≡ day_number n
unfolding day_number
day-told n r e = let q : n / 100 / 100 ≡ n / 10000 = omega arith in cc

-- are_fit
pub fit-given : (D : Dates) (a : Bool) → (eqb D.first32.0 20231001 && (eqb D.first33.0 20240101 && eqb D.last02.0 20231231)) ≡ true → a ≡ day_number D.order.0 → (a && leb 20230925 D.order.0) ≡ dates_fit D
unfolding dates_fit day_number gregorian month_days leap among any are
fit-given D a h e =
    let p = both (eqb D.first32.0 20231001) _ h in
    let q = both (eqb D.first33.0 20240101) _ p.1 in
    rw (eqb-true D.first32.0 20231001 p.0, eqb-true D.first33.0 20240101 q.0, eqb-true D.last02.0 20231231 q.1, e)
    (sym (and-true _))

-- is_date
pub date-these : (t u v w x z : Text) (d m y : ℕ) (p q g : Bool) → length t ≡ 10 → u ≡ between t 2 3 → p ≡ same u (46 ∷ [])
    → v ≡ between t 5 6 → q ≡ same v (46 ∷ []) → w ≡ between t 0 2 → d ≡ number 2 w → x ≡ between t 3 5 → m ≡ number 2 x
    → z ≡ between t 6 10 → y ≡ number 4 z → g ≡ gregorian d m y → ((p && q) && g) ≡ date t
unfolding date
date-these t u v w x z d m y p q g l e1 e2 e3 e4 e5 e6 e7 e8 e9 e10 e11 = cc (eq-eqb (length t) 10 l)

-- wanted_by: an arm of neighbours is a range to the checker
pub wanted-ten : (n : ℕ) → 6 ≤ n → n < 8 → Ten ≡ wanted_by n
unfolding wanted_by among any are every number value value_of
wanted-ten n h k = arm wanted_by Ten n 6 (7 ∷ []) (refl, refl) (elim (ℕ_discrete n 6) [ yes e ↦ inl e | no f ↦ inr (omega arith) ])

pub wanted-any : (n : ℕ) → (AnyOf n 1 (32 ∷ []) → ⊥) → (AnyOf n 6 (7 ∷ []) → ⊥) → (n ≡ 17 → ⊥) → (n ≡ 30 → ⊥) → Any ≡ wanted_by n
unfolding wanted_by every number value value_of
wanted-any n a b e f = simp (outside n 1 (32 ∷ []) a, outside n 6 (7 ∷ []) b, outside n 17 [] e, outside n 30 [] f)

-- standing_of: the numbers of the quoted lists against their texts, each by one computation
groups-are : (t : Text) → groups_by (number 2 t) ≡ groups_of t
unfolding groups_by groups_of every number value value_of
groups-are t =
    cc (
      is-one-of 2 t customs_group refl,
      is-one-of 2 t treasury_group refl,
      is-one-of 2 t courts_group refl,
      is-one-of 2 t personal_group refl,
      is-one-of 2 t "01" refl,
      is-one-of 2 t "13" refl,
      is-one-of 2 t "31" refl,
    )

pub standing-is : (F : Force) (t : Text) (n : ℕ) (l : Bool) (r : Standing) → n ≡ number 2 t → l ≡ listed t (texts_in F) → r ≡ standing_by n (eqb (length t) 0) l → r ≡ standing_of F t
unfolding standing_by standing_of
standing-is F t n l r e el f = cc (groups-are t)

pub standing-read : (F : Force) (t : Text) (n : ℕ) (a b : Bool) (r : Standing) → n ≡ number 2 t → a ≡ in_set 17072628222 n → b ≡ allowed_by F n → r ≡ standing_by n (eqb (length t) 0) (a && b) → r ≡ standing_of F t
standing-read F t n a b r e ea eb f = standing-is F t n (a && b) r e (cc (all_set n, listed_by F t)) f

-- is_b: the least account of class B is 40204
pub b-low : (bank account : ℕ) (four : Bool) → account < 40204 → false ≡ is_b bank account four
unfolding is_b among any are every number value value_of
b-low bank account four h =
    simp (ne_eqb 40204 account (λ e. omega arith), ne_eqb 40503 account (λ e. omega arith), ne_eqb 40603 account (λ e. omega arith), ne_eqb 40703 account (λ e. omega arith))
    (and_comm false (among bank (numbers_of 3 banks_b)))

-- document_of
pub document-listed : (k : ℕ) (t : Text) (b : Bool) (r : Document) → b ≡ same t (get_or zero_texts k []) → b ≡ true → r ≡ document_of (get_or zero_texts k []) → r ≡ document_of t
document-listed k t b r e h er = er ∙ ap document_of (sym (same_true t (get_or zero_texts k []) (sym e ∙ h)))

-- facts_of
pub facts-empty : (D : Dates) (r : Facts) → (length (replicate {A = ℕ} sheet_size 0) ≡ sheet_size → Read D r (replicate sheet_size 0)) → r ≡ facts_of D (replicate sheet_size 0)
facts-empty D r h = (h refl).facts

pub facts-other : (D : Dates) (s : List ℕ) (r : Facts) → (length s ≡ sheet_size → ⊥) → r ≡ facts_of D (replicate sheet_size 0) → (length s ≡ sheet_size → Read D r s) × (r ≡ facts_in D s)
unfolding facts_in
facts-other D s r l h = (λ e. absurd (l e), h ∙ rw (ne_eqb (length s) sheet_size l))

pub facts-is : (D : Dates) (s : List ℕ) (h : Banking) (d : Parties) (r : Classifiers) (F : Force) (a : Standing) (b : Basis) (c : Document) (y : Day) (t u v w : Text)
    → ((E : Dates) → h ≡ (facts_of E s).banking) → ((E : Dates) → d ≡ (facts_of E s).parties) → ((E : Dates) → r ≡ (facts_of E s).classifiers) → F ≡ force_of D → t ≡ text_of s 6 → a ≡ standing_of F t → u ≡ text_of s 11 → b ≡ basis_of u
    → v ≡ text_of s 13 → c ≡ document_of v → w ≡ text_of s 14 → y ≡ day_of w
    → length s ≡ sheet_size
    → (length s ≡ sheet_size → Read D (record { banking = h; parties = d; classifiers = r; force = F; status = a; basis = b; document = c; day = y }) s)
    × (record { banking = h; parties = d; classifiers = r; force = F; status = a; basis = b; document = c; day = y } ≡ facts_in D s)
unfolding facts_by facts_in
facts-is D s h d r F a b c y t u v w eh ed er eF et ea eu eb ev ec ew ey l =
    let fa : a ≡ standing_of (force_of D) (text_of s 6) = ea ∙ (λ i. standing_of (eF i) (et i)) in
    let fb : b ≡ basis_of (text_of s 11) = eb ∙ ap basis_of eu in
    let fc : c ≡ document_of (text_of s 13) = ec ∙ ap document_of ev in
    let fy : y ≡ day_of (text_of s 14) = ey ∙ ap day_of ew in
    let e : record { banking = h; parties = d; classifiers = r; force = F; status = a; basis = b; document = c; day = y } ≡ facts_of D s =
    λ i. record { banking = eh D i; parties = ed D i; classifiers = er D i; force = eF i; status = fa i; basis = fb i; document = fc i; day = fy i } in
    (λ z. record { size = l; facts = e }, e ∙ rw (eq-eqb (length s) sheet_size l))

-- has_ten
