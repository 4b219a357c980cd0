-- The ways through the functions that look for the first broken rule, and through `check`.
use mathlib.Core.Path.{◌≡◌, refl, ap, sym, ◌∙◌, fun_ext}
use mathlib.Core.Bool.{Bool, true, false, not, cond, ◌&&◌, ◌||◌, false≢true}
use mathlib.Core.List.{List, [], ◌∷◌, ◌++◌, map}
use Prim.Native.Nat.{ℕ, zero, suc}
use native.Mathlib.Omega.{arith}
use borrow.Author.Tests.{eqb-true, not-false}
use lib.Dec.{eqb}
use lib.ListN.{length, get_or, set}
use lib.Seq.{get_or-set_other}
use Rattle.std.specs.Prelude.{Option, None, Some, Result, find}
use Rattle.std.specs.Option.{option_map, MatchOption}
use Rattle.texts.specs.Texts.{every, any, are, among, blank}
use Rattle.texts.specs.Answers.{success, refusal}
use Rattle.texts.proofs.Bools.{both}
use Rattle.texts.proofs.Refusals.{Way, way_out, tested}
use Rattle.texts.proofs.Every.{every_append, every-same}
use Rattle.sheets.specs.Sheet.{slots, sheet_size, slot_ok, well_formed, field_in, slot_of, Sheet, given, ◌⟨◌⟩}
use Rattle.sheets.specs.declared.dates.Dates.{Dates}
use Rattle.sheets.proofs.InForce.{dated, in-force}
use Rattle.rules.specs.Rules.{Rule, class_a, class_b, budget, test_of, keeps_all, first_blank, rules, order, basic, ahead, field_of, keeps, first_not, first_broken, rule_named, class_of}
use Rattle.sheets.specs.Working.Facts.{account_of, facts_by, general_of, standing_of, Read}
use Rattle.rules.specs.Working.Tests.{ordinary, class_on, kept, holds, first_of, all_true, general_on, outcomes_on, judged_on}
use Rattle.rules.specs.Working.Groups.{fixed_rules, status_rules, basis_rules, document_rules, day_rules, grouped}
use Rattle.rules.specs.Verdicts.{class_name, verdict_answer, check_tests, checked}
use Rattle.rules.specs.Checked.{Checked}
use Rattle.rules.specs.declared.class.Class.{Class}
use Rattle.rules.specs.declared.class.Class.TheVariants.{A, B, O}
use Rattle.rules.specs.declared.rules.RuleNumber.{RuleNumber}
use Rattle.sheets.specs.declared.sheet.Field.{Field}
use Rattle.rules.specs.declared.check.Rejection.{Rejection}
use Rattle.sheets.specs.declared.facts.Facts.{Facts}
use Rattle.rules.proofs.On.{rules-counted, counted-at, budget-keeps, judged-keeps, class-on}
use Rattle.rules.proofs.First.{all_held, first-of-is, named-some, named-none}
use Rattle.rules.proofs.Means.{order-numbered, accepts, names, malforms, undates}
use Rattle.rules.proofs.Requests.{still-accepted, accepted-before}
use Rattle.rules.proofs.MovedOnly.{moved-only}
use Rattle.rules.proofs.Dated.{as_before}

-- ---- first_blank

blank_is : Sheet → Option ℕ → ℕ
blank_is s None = 0
blank_is s (Some k) = field_in k

blank-found : (s : Sheet) (ks : List ℕ) → blank_is s (find (λ (k : ℕ). not (given s k)) ks) ≡ first_blank s ks
unfolding blank_is first_blank
blank-found s [] = refl
blank-found s (k ∷ ks) = blank-step (given s k) _ (first_blank s ks) (blank-found s ks)
  where
    blank-step : (b : Bool) (o : Option ℕ) (m : ℕ) → blank_is s o ≡ m → blank_is s (cond (not b) (Some k) o) ≡ cond b m (field_in k)
    blank-step true o m e = e
    blank-step false o m e = refl

pub blank-named : (s : Sheet) (ks : List ℕ) (o : Option ℕ) (r : Field) (P : ℕ → Type 0)
    → option_map (λ (k : ℕ). k) o ≡ find (λ (k : ℕ). not (given s k)) ks → MatchOption o (r ≡ record { 0 = 0 }) P → ((k : ℕ) → P k → r.0 ≡ field_in k) → r.0 ≡ first_blank s ks
unfolding blank_is
blank-named s ks None r P e m f = ap (λ (g : Field). g.0) m ∙ ap (blank_is s) e ∙ blank-found s ks
blank-named s ks (Some k) r P e m f = f k m ∙ ap (blank_is s) e ∙ blank-found s ks

-- ---- the groups of rules

pub kept_in : (f : Facts) (ks : List ℕ) (os : List Bool) (r : Bool) → os ≡ map (holds f) ks → r ≡ all_true os
    → ((D : Dates) (s : Sheet) → Read D f s → budget s ≡ true → r ≡ every (keeps D s) ks) × (r ≡ every (holds f) ks)
kept_in f ks os r e h =
    let a : r ≡ every (holds f) ks = h ∙ ap all_true e ∙ all_held (holds f) ks in
    (λ D s o b. a ∙ ap (λ (g : Facts). every (holds g) ks) o.facts ∙ ap (λ (p : ℕ → Bool). every p ks) (fun_ext (λ n. sym (budget-keeps D s n b))), a)

-- the groups have the rules of the order but 1 to 4
order-grouped : (p : ℕ → Bool) → every p order ≡ every p (1 ∷ 2 ∷ 3 ∷ 4 ∷ grouped)
unfolding every any are among
order-grouped p = every-same p order (1 ∷ 2 ∷ 3 ∷ 4 ∷ grouped) refl refl

-- of a budget payment rule 4 asks nothing
fourth : (D : Dates) (u : Sheet) → budget u ≡ true → every (keeps D u) (4 ∷ grouped) ≡ every (keeps D u) grouped
unfolding every keeps rules test_of
fourth D u b = ap (λ (c : Bool). (not (not c) || blank (u ⟨ 101 ⟩)) && every (keeps D u) grouped) b

-- a budget payment that keeps rules 1 to 3 keeps all rules if it keeps those of each group
pub all-grouped : (D : Dates) (u : Sheet) → budget u ≡ true → every (keeps D u) basic ≡ true → keeps_all D u ≡ (every (keeps D u) fixed_rules && (every (keeps D u) status_rules && (every (keeps D u) basis_rules && (every (keeps D u) document_rules && every (keeps D u) day_rules))))
unfolding keeps_all
all-grouped D u b h =
    let p = every_append (keeps D u) document_rules day_rules in
    let q = every_append (keeps D u) basis_rules (document_rules ++ day_rules) in
    let r = every_append (keeps D u) status_rules (basis_rules ++ (document_rules ++ day_rules)) in
    let w = every_append (keeps D u) fixed_rules (status_rules ++ (basis_rules ++ (document_rules ++ day_rules))) in
    order-grouped (keeps D u) ∙ sym (every_append (keeps D u) basic (4 ∷ grouped)) ∙ ap (λ (x : Bool). x && every (keeps D u) (4 ∷ grouped)) h
    ∙ fourth D u b ∙ cc

-- ---- broken_basic, is_budget

pub basic-first : (f : Facts) (os : List Bool) (r : Option RuleNumber) → os ≡ general_on f → r ≡ first_of os basic
    → ((D : Dates) (s : Sheet) → Read D f s → r ≡ rule_named (first_broken D s basic)) × (r ≡ rule_named (first_not (kept (general_on f)) basic))
unfolding every kept keeps first_not test_of rules facts_by general_of account_of standing_of slot_of ◌⟨◌⟩
basic-first f os r e h =
    let a : r ≡ rule_named (first_not (kept (general_on f)) basic) = h ∙ first-of-is os basic refl ∙ ap (λ (bs : List Bool). rule_named (first_not (kept bs) basic)) e in
    (λ D s o. a ∙ ap (λ (g : Facts). rule_named (first_not (kept (general_on g)) basic)) o.facts, a)

-- the outcomes of the test ahead, at their numbers
abbrev pub place_ahead : List Bool → List Bool → List Bool
place_ahead x y =
    true ∷ true ∷ true ∷ true ∷ true ∷ get_or x 0 false ∷ get_or y 0 false ∷ get_or x 1 false ∷ get_or x 2 false ∷ get_or x 3 false ∷ true ∷ get_or x 4 false ∷ get_or x 5 false ∷ get_or x 6 false ∷ get_or x 7 false ∷ true ∷ get_or x 8 false ∷ true ∷ true ∷ true ∷ true ∷ true ∷ get_or x 9 false ∷ true ∷ true ∷ true ∷ true ∷ true ∷ get_or x 10 false ∷ []

pub ahead-first : (f : Facts) (x y os : List Bool) (r : Option RuleNumber) → x ≡ map (holds f) fixed_rules → y ≡ map (holds f) day_rules → os ≡ place_ahead x y → r ≡ first_of os ahead
    → ((D : Dates) (s : Sheet) → Read D f s → budget s ≡ true → r ≡ rule_named (first_broken D s ahead)) × (r ≡ rule_named (first_not (holds f) ahead))
unfolding every kept first_not
ahead-first f x y os r ex ey eo h =
    let a : r ≡ rule_named (first_not (holds f) ahead) = h ∙ first-of-is os ahead refl ∙ ap (λ (l : List Bool). rule_named (first_not (kept l) ahead)) (eo ∙ (λ i. place_ahead (ex i) (ey i))) in
    (λ D s o b. a ∙ ap (λ (g : Facts). rule_named (first_not (holds g) ahead)) o.facts ∙ ap (λ (p : ℕ → Bool). rule_named (first_not p ahead)) (fun_ext (λ n. sym (budget-keeps D s n b))), a)

pub class-a-is : (D : Dates) (f : Facts) (s : Sheet) → Read D f s → f.banking.account.a ≡ class_a s
unfolding facts_by account_of slot_of ◌⟨◌⟩
class-a-is D f s o = ap (λ (g : Facts). g.banking.account.a) o.facts

pub budget-is : (D : Dates) (f : Facts) (s : Sheet) → Read D f s → (f.banking.account.a || f.banking.account.b) ≡ budget s
unfolding facts_by account_of slot_of ◌⟨◌⟩
budget-is D f s o = ap (λ (g : Facts). g.banking.account.a || g.banking.account.b) o.facts

-- ---- outcomes

abbrev pub place : List Bool → List Bool → List Bool → List Bool → List Bool → List Bool → List Bool
place g x t b d y =
    true
    ∷ get_or g 1 false ∷ get_or g 2 false ∷ get_or g 3 false ∷ get_or g 4 false ∷ get_or x 0 false
    ∷ get_or y 0 false ∷ get_or x 1 false ∷ get_or x 2 false ∷ get_or x 3 false ∷ get_or t 0 false
    ∷ get_or x 4 false ∷ get_or x 5 false ∷ get_or x 6 false ∷ get_or x 7 false ∷ get_or b 0 false
    ∷ get_or x 8 false ∷ get_or d 0 false ∷ get_or y 1 false ∷ get_or t 1 false ∷ get_or t 2 false
    ∷ get_or t 3 false ∷ get_or x 9 false ∷ get_or t 4 false ∷ get_or t 5 false ∷ get_or d 1 false
    ∷ get_or d 2 false ∷ get_or t 6 false ∷ get_or x 10 false ∷ get_or b 1 false ∷ get_or t 7 false
    ∷ get_or y 2 false ∷ get_or d 3 false ∷ get_or d 4 false ∷ get_or y 3 false ∷ get_or d 5 false ∷ []

pub placed : (f : Facts) (g x t b d y : List Bool) → g ≡ general_on f → x ≡ map (holds f) fixed_rules → t ≡ map (holds f) status_rules → b ≡ map (holds f) basis_rules → d ≡ map (holds f) document_rules → y ≡ map (holds f) day_rules → place g x t b d y ≡ outcomes_on f
unfolding holds
placed f g x t b d y eg ex et eb ed ey = λ i. place (eg i) (ex i) (et i) (eb i) (ed i) (ey i)

-- ---- broken

pub broken-judged : (f : Facts) (o b : Bool) (os : List Bool) (r : Option RuleNumber) → o ≡ ordinary f → o ≡ b → os ≡ cond b (general_on f) (outcomes_on f) → r ≡ first_of os order
    → ((D : Dates) (s : Sheet) → Read D f s → r ≡ rule_named (first_broken D s order)) × (r ≡ rule_named (first_not (kept (judged_on f)) order))
broken-judged f o b os r e t h i =
    let q : r ≡ rule_named (first_not (kept os) order) = i ∙ first-of-is os order order-numbered in
    let j : r ≡ rule_named (first_not (kept (judged_on f)) order) = cc in
    (λ D s x. j ∙ ap (λ (g : Facts). rule_named (first_not (kept (judged_on g)) order)) x.facts ∙ sym (ap (λ (p : ℕ → Bool). rule_named (first_not p order)) (fun_ext (judged-keeps D s))), j)

-- ---- field_of: the table has the fields of the rules by their numbers, which go up by one

fields_of : Sheet → List Rule → List ℕ
fields_of s rs = map (λ (r : Rule). r.field s) rs

-- the code's table has 0 for rule 6
abbrev table : List ℕ
table =
    0 ∷ 14 ∷ 15 ∷ 17 ∷ 101 ∷ 17 ∷ 0 ∷ 22 ∷ 60 ∷ 61 ∷ 101 ∷ 102 ∷ 103 ∷ 104 ∷ 105 ∷ 106 ∷ 107 ∷ 108 ∷ 109 ∷ 17 ∷ 17 ∷ 22 ∷ 22 ∷ 60 ∷ 60
    ∷ 108 ∷ 108 ∷ 102 ∷ 104 ∷ 106 ∷ 107 ∷ 109 ∷ 108 ∷ 108 ∷ 109 ∷ 108 ∷ []

table-field : (s : Sheet) (n : ℕ) → get_or (0 ∷ fields_of s rules) n 0 ≡ field_of rules n s
unfolding field_of fields_of rules
table-field s zero = refl
table-field s (suc n) =
    sym (counted-at 0 (λ r. r.field s) (λ rs n. field_of rs n s) (λ n. refl) (λ r rs n. refl) (suc n) 1 n rules rules-counted (omega arith))

table-set : (s : Sheet) → table ≡ set (0 ∷ fields_of s rules) 6 0
unfolding fields_of rules
table-set s = refl

pub field-other : (s : Sheet) (n w r : ℕ) → (n ≡ 6 → ⊥) → w ≡ n → r ≡ get_or table w 0 → r ≡ field_of rules n s
field-other s n w r e f h =
    h ∙ ap (λ (k : ℕ). get_or table k 0) f ∙ ap (λ (l : List ℕ). get_or l n 0) (table-set s)
    ∙ get_or-set_other (0 ∷ fields_of s rules) 6 n 0 0 e ∙ table-field s n

pub field-six : (s : Sheet) (n r : ℕ) → n ≡ 6 → r ≡ first_blank s (3 ∷ 4 ∷ 5 ∷ 6 ∷ 7 ∷ 8 ∷ 9 ∷ 10 ∷ 11 ∷ 12 ∷ 13 ∷ 14 ∷ []) → r ≡ field_of rules n s
unfolding field_of rules slot_of
field-six s n r e h = rw e h

-- ---- check

module _ (s : Sheet) where
  pub ordinary-class : budget s ≡ false → class_of s ≡ O
  unfolding class_of
  ordinary-class b = go (class_a s) (class_b s) b
    where
      go : (a c : Bool) → (a || c) ≡ false → cond a A (cond c B O) ≡ O
      go true c e = absurd (false≢true (sym e))
      go false true e = absurd (false≢true (sym e))
      go false false e = refl

-- the promise from its first clause
checked-by : (D : Dates) (s : Sheet) (v : Result Class Rejection) → verdict_answer v ≡ checked D s → Checked D s v
checked-by D s v e =
    record {
      answer = e;
      accepted = accepts D s v e;
      named = names D s v e;
      malformed = malforms D s v e;
      undated = undates D s v e;
      dated = dated D;
      in_force = in-force D;
      r2 = λ c h. e ∙ still-accepted D s c h;
      r4 = λ c h. accepted-before D s c (sym e ∙ h);
      r5 = rw e (moved-only D s);
      r7 = λ z E. rw (e, z) (as_before E s);
    }

-- its ways out
pub check-out : (k : ℕ) (D : Dates) (s : Sheet) (v : Result Class Rejection) → Way (class_name (class_of s)) [] [] (verdict_answer v) [] (Checked D s v) k (check_tests D s)
unfolding checked
check-out k D s v = way_out _ [] [] _ [] _ k (check_tests D s) (λ p q. checked-by D s v p)

-- a sheet that is well formed has its size
pub formed-size : (s : Sheet) (w : Bool) → w ≡ well_formed s → not w ≡ false → length s ≡ sheet_size
formed-size s w e n = eqb-true (length s) sheet_size (both (eqb (length s) sheet_size) (every (slot_ok s) slots) (sym e ∙ not-false w n)).0

-- what was read of it, and its first broken rule
module _ (D : Dates) (s : Sheet) (w : Bool) (x : Facts) (e : w ≡ well_formed s) (n : not w ≡ false) (j : length s ≡ sheet_size → Read D x s) where
  pub facts-read : Read D x s
  facts-read = j (formed-size s w e n)

  pub first-is : (r : Option RuleNumber) → ((D : Dates) (s : Sheet) → Read D x s → r ≡ rule_named (first_broken D s order)) → r ≡ rule_named (first_broken D s order)
  first-is r i = i D s facts-read

-- the last test and what is answered, by what the code has for them
pub none-as : (D : Dates) (s : Sheet) → None ≡ rule_named (first_broken D s order) → not (eqb (first_broken D s order) 0) ≡ false
none-as D s e = rw (named-none _ e)

module _ (D : Dates) (s : Sheet) (g : RuleNumber) (n : Some g ≡ rule_named (first_broken D s order)) where
  e : first_broken D s order ≡ g.0
  e = (named-some _ g n).0

  pub first-as : not (eqb (first_broken D s order) 0) ≡ true
  first-as = (named-some _ g n).1

  pub beside-as : (f : Field) → f.0 ≡ field_of rules g.0 s → refusal 8 (f.0 ∷ g.0 ∷ []) ≡ refusal 8 (field_of rules (first_broken D s order) s ∷ first_broken D s order ∷ [])
  beside-as f k = rw (e, k)

pub class-as : (D : Dates) (s : Sheet) (x : Facts) (k : Class) → Read D x s → k ≡ class_on x → success (class_name k) ≡ success (class_name (class_of s))
class-as D s x k o q = rw (q ∙ ap class_on o.facts ∙ class-on D s)

pub ruleset checks = (tested, none-as, first-as, beside-as, class-as)
