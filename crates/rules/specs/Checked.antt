-- The promise of `check`, and what it means, with what each request keeps or moves.
use Rattle.std.specs.Prelude.{true, false, ◌≡◌, ◌↔◌, List, ◌∷◌, ◌++◌, ℕ, Result, Ok, Err}
use Rattle.texts.specs.Texts.{every}
use Rattle.texts.specs.declared.answers.Refusal.TheVariants.{Malformed, Undated}
use Rattle.sheets.specs.Sheet.{well_formed, Sheet}
use Rattle.sheets.specs.Dates.{dates_fit, Dated, InForce, program_dates}
use Rattle.sheets.specs.declared.dates.Dates.{Dates}
use Rattle.rules.specs.Rules.{class_of, rules, order, field_of, keeps, keeps_all}
use Rattle.rules.specs.Verdicts.{verdict_answer, checked}
use Rattle.rules.specs.Requests.R2.{StillAccepted}
use Rattle.rules.specs.Requests.R4.{AcceptedBefore}
use Rattle.rules.specs.Requests.R5.{MovedOnly}
use Rattle.rules.specs.Requests.R7.{AsBefore}
use Rattle.rules.specs.declared.class.Class.{Class}
use Rattle.rules.specs.declared.check.Rejection.{Rejection}
use Rattle.rules.specs.declared.check.Rejection.TheVariants.{Broken, Refused}

pub record Checked (D : Dates) (s : Sheet) (v : Result Class Rejection) : Type 0 where
  pub answer : verdict_answer v ≡ checked D s
  -- "A well-formed sheet is accepted exactly when it keeps the rules": at all dates that 12 does not refuse
  pub accepted : well_formed s ≡ true → dates_fit D ≡ true → (v ≡ Ok (class_of s)) ↔ (keeps_all D s ≡ true)
  -- "else the answer is the first broken rule and its field": it is broken, and those before it in the order are kept
  pub named :
      well_formed s ≡ true
      → dates_fit D ≡ true
      → (keeps_all D s ≡ true → ⊥)
      → (before : List ℕ) × (n : ℕ) × (after : List ℕ)
      × (order ≡ before ++ (n ∷ after))
      × (every (keeps D s) before ≡ true)
      × (keeps D s n ≡ false)
      × (v ≡ Err (Broken (record { 0 = field_of rules n s }) (record { 0 = n })))
  -- "Malformed"
  pub malformed : (v ≡ Err (Refused Malformed)) ↔ (well_formed s ≡ false)
  -- "the rest answer 12", and what the rest is
  pub undated : well_formed s ≡ true → (v ≡ Err (Refused Undated)) ↔ (dates_fit D ≡ false)
  pub dated : (dates_fit D ≡ true) ↔ Dated D
  -- what rule 10's list is
  pub in_force : InForce D
  -- R-2: "Every sheet accepted before is still accepted"
  pub r2 : StillAccepted D s (verdict_answer v)
  -- R-4: every sheet accepted now was accepted before
  pub r4 : AcceptedBefore D s (verdict_answer v)
  -- R-5: "The answers that change are exactly these .. Nothing else moves"
  pub r5 : MovedOnly D s (verdict_answer v)
  -- R-7: at the program's dates the answer is "the same as before"
  pub r7 : D ≡ program_dates → (E : Dates) → AsBefore E s (verdict_answer v)
