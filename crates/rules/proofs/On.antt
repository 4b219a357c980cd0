-- The tests on facts are the rules.
use mathlib.Core.Path.{◌≡◌, refl, ap, sym, ◌∙◌}
use mathlib.Core.Bool.{Bool, true, false, not, cond, ◌&&◌, ◌||◌, and_assoc, and_comm, and-true, false≢true, not-not}
use mathlib.Core.List.{List, [], ◌∷◌, ◌++◌, map}
use Prim.Native.Nat.{ℕ, zero, suc, ◌+◌}
use Prim.Native.String.{String}
use native.Mathlib.Omega.{arith}
use lib.Dec.{eqb}
use borrow.Author.Tests.{eqb-true, eq-eqb, ne_eqb, not-true}
use lib.ListN.{get_or, set}
use Rattle.texts.specs.Texts.{every, any, are, among, value_of, value, number, ◌is◌}
use Rattle.texts.proofs.Bools.{both}
use Rattle.texts.proofs.Codes.{is-one-of}
use Rattle.texts.proofs.Every.{every-member}
use Rattle.sheets.specs.Sheet.{slot_of, text_of, ◌⟨◌⟩, Sheet, given}
use Rattle.sheets.specs.Lists.{want_inn, want_ten, want_twelve, want_zero}
use Rattle.sheets.specs.Working.Facts.{numbers_of, payer_of, code_of, form_of, groups_of, standing_of, basis_of, document_of, day_of, general_of, account_of, facts_by, facts_of, wanted_by}
use Rattle.sheets.specs.Forms.{◌⇒◌, inn, inn10, inn12}
use Rattle.sheets.specs.declared.dates.Dates.{Dates}
use Rattle.rules.specs.Rules.{Rule, budget, class_of, rules, test_of, keeps, rule6, rule23}
use Rattle.rules.specs.Working.Tests.{suits, class_on, ordinary, on6, on23, general_on, special_on, outcomes_on, judged_on, kept, holds}
use Rattle.sheets.specs.declared.forms.Wanted.TheVariants.{Any, Inn, Ten, Twelve, Zero}
use Rattle.sheets.specs.declared.facts.Payer.{Payer}
use Rattle.sheets.specs.declared.facts.Facts.{Facts}

-- rule 6: the slots in another order
and-left-comm : (a b c : Bool) → (a && (b && c)) ≡ (b && (a && c))
and-left-comm true b c = refl
and-left-comm false true c = refl
and-left-comm false false c = refl

six-order : (a b c d e f g h i j k l : Bool) → ((a && (b && (c && (e && (f && (g && (h && (j && true)))))))) && (d && (i && (k && l)))) ≡ (a && (b && (c && (d && (e && (f && (g && (h && (i && (j && (k && (l && true))))))))))))
six-order a b c d e f g h i j k l = simp (and_assoc, and-left-comm, and_comm)

on-6 : (D : Dates) (s : Sheet) → on6 (facts_of D s) ≡ rule6 s
unfolding facts_by standing_of basis_of document_of day_of every given slot_of
on-6 D s = six-order (given s 3) (given s 4) (given s 5) (given s 6) (given s 7) (given s 8) (given s 9) (given s 10) (given s 11) (given s 12) (given s 13) (given s 14)

-- rule 23: the form that a status wants, where no status is in two of its lists
abbrev wants : Bool → Bool → Bool → Bool → Payer → Bool
wants a b c d p = (a ⇒ p.inn10 || p.inn12) && ((b ⇒ p.inn10) && ((c ⇒ p.inn12) && (d ⇒ p.zero)))

neither : (a b : Bool) → not (a || b) ≡ true → (a ≡ false) × (b ≡ false)
neither true b e = absurd (false≢true e)
neither false b e = (refl, not-true b e)

wants-case : (a b c d : Bool) (p : Payer) → (a ≡ true → not (b || (c || d)) ≡ true) → (b ≡ true → not (c || d) ≡ true) → (c ≡ true → not d ≡ true)
    → suits (cond a Inn (cond b Ten (cond c Twelve (cond d Zero Any)))) p ≡ wants a b c d p
unfolding suits
wants-case true b c d p x y z =
    let q = neither b (c || d) (x refl) in
    let r = neither c d (ap not q.1) in
    rw (q.0, r.0, r.1) (sym (and-true (p.inn10 || p.inn12)))
wants-case false true c d p x y z = let q = neither c d (y refl) in rw (q.0, q.1) (sym (and-true p.inn10))
wants-case false false true d p x y z = rw (not-true d (z refl)) (sym (and-true p.inn12))
wants-case false false false true p x y z = refl
wants-case false false false false p x y z = refl

wants_is : (n : ℕ) (p : Payer) → suits (wanted_by n) p ≡ wants (among n (numbers_of 2 want_inn)) (among n (numbers_of 2 want_ten)) (among n (numbers_of 2 want_twelve)) (among n (numbers_of 2 want_zero)) p
unfolding wanted_by among any are every number value value_of
wants_is n p =
    wants-case (of want_inn n) (of want_ten n) (of want_twelve n) (of want_zero n) p
    (λ m. every-member (λ (k : ℕ). not (of want_ten k || (of want_twelve k || of want_zero k))) (numbers_of 2 want_inn) n m refl)
    (λ m. every-member (λ (k : ℕ). not (of want_twelve k || of want_zero k)) (numbers_of 2 want_ten) n m refl)
    (λ m. every-member (λ (k : ℕ). not (of want_zero k)) (numbers_of 2 want_twelve) n m refl)
  where
    of : String → ℕ → Bool
    of q k = among k (numbers_of 2 q)

on-23 : (D : Dates) (s : Sheet) → on23 (facts_of D s) ≡ rule23 s
unfolding facts_by payer_of standing_of slot_of ◌⟨◌⟩ every number value value_of
on-23 D s =
    let t = text_of s 6 in
    let a = is-one-of 2 t want_inn refl in
    let b = is-one-of 2 t want_ten refl in
    let c = is-one-of 2 t want_twelve refl in
    let d = is-one-of 2 t want_zero refl in
    let p = text_of s 4 in
    wants_is (number 2 t) (payer_of p)
    ∙ (λ i. (a i ⇒ inn p) && ((b i ⇒ inn10 p) && ((c i ⇒ inn12 p) && (d i ⇒ p is "0"))))

-- the outcomes of rules
unfoldable pub tests_of : Dates → Sheet → List Rule → List Bool
tests_of D s rs = map (λ (r : Rule). r.test D s) rs

-- the rules' numbers go up by one, so that each outcome stands at its rule's number
abbrev pub counted : ℕ → List Rule → Bool
counted k [] = true
counted k (r ∷ rs) = eqb r.number k && counted (suc k) rs

pub rules-counted : counted 1 rules ≡ true
unfolding rules
rules-counted = refl

-- what is looked up by a rule's number, the default where no rule has it, stands at its place
module _ {A : Type 0} (d : A) (part : Rule → A) (look : List Rule → ℕ → A)
    (none : (n : ℕ) → look [] n ≡ d) (one : (r : Rule) (rs : List Rule) (n : ℕ) → look (r ∷ rs) n ≡ cond (eqb n r.number) (part r) (look rs n)) where
  pub counted-at : (n k m : ℕ) (rs : List Rule) → counted k rs ≡ true → n ≡ k + m → look rs n ≡ get_or (map part rs) m d
  counted-at n k m [] c e = none n
  counted-at n k zero (r ∷ rs) c e =
      let q = both (eqb r.number k) (counted (suc k) rs) c in
      one r rs n ∙ rw (eqb-true r.number k q.0, eq-eqb n k (omega arith))
  counted-at n k (suc m) (r ∷ rs) c e =
      let q = both (eqb r.number k) (counted (suc k) rs) c in
      one r rs n ∙ rw (eqb-true r.number k q.0, ne_eqb n k (λ z. omega arith)) (counted-at n (suc k) m rs q.1 (omega arith))

pub none-at : (D : Dates) (s : Sheet) → keeps D s 0 ≡ true
unfolding keeps test_of rules
none-at D s = refl

-- the test of the rule with a number stands at its place
pub tests-at : (D : Dates) (s : Sheet) (n : ℕ) (rs : List Rule) → counted 1 rs ≡ true → test_of rs (suc n) D s ≡ get_or (tests_of D s rs) n true
unfolding test_of tests_of
tests-at D s n rs c = counted-at true (λ r. r.test D s) (λ rs n. test_of rs n D s) (λ n. refl) (λ r rs n. refl) (suc n) 1 n rs c (omega arith)

-- the outcomes of all rules, at their numbers: those for classes A and B are true of any other sheet
abbrev verdicts_by : Bool → Facts → List Bool
verdicts_by b f = general_on f ++ map (λ (o : Bool). b ⇒ o) (special_on f)

abbrev pub verdicts_on : Facts → List Bool
verdicts_on f = verdicts_by (not (ordinary f)) f

pub tests-on : (D : Dates) (s : Sheet) → true ∷ tests_of D s rules ≡ verdicts_on (facts_of D s)
unfolding tests_of rules facts_by general_of account_of code_of payer_of form_of groups_of standing_of basis_of document_of day_of slot_of ◌⟨◌⟩
tests-on D s =
    let f = facts_of D s in
    λ i. general_on f ++ map (λ (o : Bool). sym (not-not (budget s)) i ⇒ o) (set (set (special_on f) 1 (sym (on-6 D s) i)) 18 (sym (on-23 D s) i))

pub keeps_on : (D : Dates) (s : Sheet) (n : ℕ) → keeps D s n ≡ get_or (verdicts_on (facts_of D s)) n true
unfolding keeps
keeps_on D s n = at n ∙ ap (λ (l : List Bool). get_or l n true) (tests-on D s)
  where
    at : (n : ℕ) → test_of rules n D s ≡ get_or (true ∷ tests_of D s rules) n true
    at zero = none-at D s
    at (suc n) = tests-at D s n rules rules-counted

-- the class
pub class-on : (D : Dates) (s : Sheet) → class_on (facts_of D s) ≡ class_of s
unfolding class_of facts_by account_of slot_of ◌⟨◌⟩
class-on D s = refl

ordinary-on : (D : Dates) (s : Sheet) → ordinary (facts_of D s) ≡ not (budget s)
unfolding facts_by account_of slot_of ◌⟨◌⟩
ordinary-on D s = refl

pub budget-keeps : (D : Dates) (s : Sheet) (n : ℕ) → budget s ≡ true → keeps D s n ≡ holds (facts_of D s) n
unfolding holds
budget-keeps D s n b = keeps_on D s n ∙ ap (λ (o : Bool). get_or (verdicts_by (not o) (facts_of D s)) n true) (ordinary-on D s ∙ ap not b)

beyond : (os qs : List Bool) (n : ℕ) → get_or (os ++ map (λ (q : Bool). true) qs) n true ≡ get_or os n true
beyond [] [] n = refl
beyond [] (q ∷ qs) zero = refl
beyond [] (q ∷ qs) (suc n) = beyond [] qs n
beyond (o ∷ os) qs zero = refl
beyond (o ∷ os) qs (suc n) = beyond os qs n

-- a rule is kept by a sheet where it is kept by the outcomes that count
pub judged-keeps : (D : Dates) (s : Sheet) (n : ℕ) → keeps D s n ≡ kept (judged_on (facts_of D s)) n
unfolding kept
judged-keeps D s n = keeps_on D s n ∙ go (facts_of D s) (ordinary (facts_of D s))
  where
    go : (f : Facts) (o : Bool) → get_or (verdicts_by (not o) f) n true ≡ get_or (cond o (general_on f) (outcomes_on f)) n true
    go f true = beyond (general_on f) (special_on f) n
    go f false = refl
