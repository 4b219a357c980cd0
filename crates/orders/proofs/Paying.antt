-- Whether a sheet is a budget payment, as the code finds it.
use mathlib.Core.Path.{◌≡◌, refl, sym, ap, ◌∙◌}
use mathlib.Core.Bool.{Bool, true, false, not, true≢false}
use borrow.Author.Tests.{eq-eqb}
use lib.ListN.{length}
use Rattle.texts.specs.declared.answers.Refusal.TheVariants.{NotBudget}
use Rattle.sheets.specs.Sheet.{Sheet, sheet_size}
use Rattle.sheets.specs.Working.Facts.{Read}
use Rattle.sheets.specs.declared.dates.Dates.{Dates}
use Rattle.sheets.specs.declared.facts.Facts.{Facts}
use Rattle.sheets.specs.declared.sheet.Field.{Field}
use Rattle.rules.specs.Rules.{budget, rules, basic, field_of, first_broken, rule_named}
use Rattle.rules.specs.declared.check.Rejection.TheVariants.{Broken, Refused}
use Rattle.rules.specs.declared.rules.RuleNumber.{RuleNumber}
use Rattle.rules.proofs.First.{named-some, named-none}
use Rattle.orders.specs.Working.Paying.{Pays}
use Rattle.std.specs.Prelude.{Option, Some, None, Ok, Err}

module _ (D : Dates) (s : Sheet) (x : Facts) (hx : length s ≡ sheet_size → Read D x s) (r : Option RuleNumber) (hr : (D : Dates) (t : Sheet) → Read D x t → r ≡ rule_named (first_broken D t basic)) where
  pub pays-broken : (g : RuleNumber) → r ≡ Some g → (f : Field) → f.0 ≡ field_of rules g.0 s → Pays D s (Err (Broken f g))
  pays-broken g e f j l =
      let (n, z) = named-some (first_broken D s basic) g (sym e ∙ hr D s (hx l)) in
      (λ q. true≢false (sym z ∙ ap not (eq-eqb _ 0 (n ∙ q))), n, j)

  module _ (e : r ≡ None) (b : Bool) (hb : (D : Dates) (t : Sheet) → Read D x t → b ≡ budget t) where
    kept : length s ≡ sheet_size → first_broken D s basic ≡ 0
    kept l = named-none (first_broken D s basic) (sym e ∙ hr D s (hx l))

    pub pays-not : b ≡ false → Pays D s (Err (Refused NotBudget))
    pays-not q l = (refl, kept l, sym (hb D s (hx l)) ∙ q)

    pub pays-all : b ≡ true → Pays D s (Ok x)
    pays-all q l = (hx l, kept l, sym (hb D s (hx l)) ∙ q)
