-- The rules' tests on facts, and their outcomes by number. A reader of the promise needs none of this; proofs/On.antt shows
-- that the tests on facts are the rules.
use Rattle.std.specs.Prelude.{Bool, true, not, cond, ◌&&◌, ◌||◌, List, [], ◌∷◌, ◌++◌, ℕ, get_or, find, Option}
use Rattle.std.specs.Option.{option_map}
use Rattle.sheets.specs.Forms.{◌⇒◌}
use Rattle.rules.specs.declared.class.Class.{Class}
use Rattle.rules.specs.declared.class.Class.TheVariants.{A, B, O}
use Rattle.sheets.specs.declared.forms.Wanted.{Wanted}
use Rattle.sheets.specs.declared.forms.Wanted.TheVariants.{Any, Inn, Ten, Twelve, Zero}
use Rattle.sheets.specs.declared.facts.Payer.{Payer}
use Rattle.sheets.specs.declared.facts.Facts.{Facts}
use Rattle.rules.specs.declared.rules.RuleNumber.{RuleNumber}

-- ---- the rules' tests on facts

abbrev pub budget_on : Facts → Bool
budget_on f = f.banking.account.a || f.banking.account.b

abbrev pub ordinary : Facts → Bool
ordinary f = not (budget_on f)

abbrev pub class_on : Facts → Class
class_on f = cond f.banking.account.a A (cond f.banking.account.b B O)

-- 60 has the form that the status wants
unfoldable pub suits : Wanted → Payer → Bool
suits Any p = true
suits Inn p = p.inn10 || p.inn12
suits Ten p = p.inn10
suits Twelve p = p.inn12
suits Zero p = p.zero

abbrev pub on1 : Facts → Bool
on1 f = f.banking.general.bik

abbrev pub on2 : Facts → Bool
on2 f = f.banking.general.bank

abbrev pub on3 : Facts → Bool
on3 f = f.banking.general.account

abbrev pub on4 : Facts → Bool
on4 f = ordinary f ⇒ f.status.blank

abbrev pub on5 : Facts → Bool
on5 f = f.banking.account.a ⇒ f.banking.account.home

abbrev pub on6 : Facts → Bool
on6 f = f.banking.given && (not f.status.blank && (not f.basis.blank && (not f.document.blank && not f.day.blank)))

abbrev pub on7 : Facts → Bool
on7 f = (f.parties.code.zero || f.parties.code.uin) || (f.parties.code.four && f.banking.account.to03212)

abbrev pub on8 : Facts → Bool
on8 f = (f.parties.payer.zero || f.parties.payer.foreign) || (f.parties.payer.inn10 || f.parties.payer.inn12)

abbrev pub on9 : Facts → Bool
on9 f = f.parties.payee

abbrev pub on10 : Facts → Bool
on10 f = f.status.listed

abbrev pub on11 : Facts → Bool
on11 f = f.parties.kpp.zero || f.parties.kpp.full

abbrev pub on12 : Facts → Bool
on12 f = f.parties.payeekpp

abbrev pub on13 : Facts → Bool
on13 f = f.classifiers.kbk.zero || f.classifiers.kbk.full

abbrev pub on14 : Facts → Bool
on14 f = f.classifiers.oktmo.zero || f.classifiers.oktmo.full

abbrev pub on15 : Facts → Bool
on15 f = (f.basis.zero || f.basis.zeros) || f.basis.letters

abbrev pub on16 : Facts → Bool
on16 f = f.classifiers.office.zero || f.classifiers.office.full

abbrev pub on17 : Facts → Bool
on17 f = f.document.fit

abbrev pub on18 : Facts → Bool
on18 f = (f.day.zero || f.day.zeros) || f.day.date

abbrev pub on19 : Facts → Bool
on19 f = f.banking.account.a && f.status.groups.treasury ⇒ f.banking.account.to03100

abbrev pub on20 : Facts → Bool
on20 f = f.banking.account.a && f.status.groups.is31 ⇒ f.banking.account.to03212

abbrev pub on21 : Facts → Bool
on21 f = f.status.groups.courts ⇒ f.parties.code.uin

abbrev pub on22 : Facts → Bool
on22 f = f.banking.account.to03212 ⇒ not f.parties.code.zero

abbrev pub on23 : Facts → Bool
on23 f = suits f.status.wanted f.parties.payer

abbrev pub on24 : Facts → Bool
on24 f = f.status.groups.is13 ⇒ (f.parties.payer.inn10 || f.parties.payer.inn12) || f.parties.code.uin

abbrev pub on25 : Facts → Bool
on25 f =
    f.status.groups.personal
    ⇒ f.document.person || (f.document.zero && (f.parties.payer.inn12 || f.parties.code.uin))

abbrev pub on26 : Facts → Bool
on26 f = f.status.groups.courts ⇒ f.document.zero

abbrev pub on27 : Facts → Bool
on27 f =
    (f.parties.payer.twelve ⇒ f.parties.kpp.zero)
    && ((f.parties.payer.five ⇒ not f.parties.kpp.zero) && (f.parties.payer.ten ⇒ not f.parties.kpp.zero || f.status.groups.is01))

abbrev pub on28 : Facts → Bool
on28 f = f.banking.account.to03100 ⇒ not f.classifiers.kbk.zero

abbrev pub on29 : Facts → Bool
on29 f = not f.status.groups.customs ⇒ f.basis.zero

abbrev pub on30 : Facts → Bool
on30 f = (f.status.groups.customs ⇒ f.classifiers.office.full) && (not f.status.groups.customs ⇒ f.classifiers.office.zero)

abbrev pub on31 : Facts → Bool
on31 f = not f.status.groups.customs ⇒ f.day.zero

abbrev pub on32 : Facts → Bool
on32 f = f.basis.letters ⇒ not f.document.zero

abbrev pub on33 : Facts → Bool
on33 f = f.basis.zeros ⇒ f.document.zeros

abbrev pub on34 : Facts → Bool
on34 f = (f.day.zeros ⇒ f.basis.zeros) && (f.basis.zeros ⇒ f.day.zeros)

abbrev pub on35 : Facts → Bool
on35 f = f.document.pension

-- the outcomes by the rules' numbers, from 0 on, which is no rule's: of the rules for every sheet, and of all
abbrev pub general_on : Facts → List Bool
general_on f = true ∷ on1 f ∷ on2 f ∷ on3 f ∷ on4 f ∷ []

abbrev pub special_on : Facts → List Bool
special_on f =
    on5 f ∷ on6 f ∷ on7 f ∷ on8 f ∷ on9 f ∷ on10 f ∷ on11 f ∷ on12 f ∷ on13 f ∷ on14 f ∷ on15 f ∷ on16 f ∷ on17 f ∷ on18 f ∷ on19 f
    ∷ on20 f ∷ on21 f ∷ on22 f ∷ on23 f ∷ on24 f ∷ on25 f ∷ on26 f ∷ on27 f ∷ on28 f ∷ on29 f ∷ on30 f ∷ on31 f ∷ on32 f ∷ on33 f
    ∷ on34 f ∷ on35 f ∷ []

abbrev pub outcomes_on : Facts → List Bool
outcomes_on f = general_on f ++ special_on f

-- those that count: the rest is for classes A and B
abbrev pub judged_on : Facts → List Bool
judged_on f = cond (ordinary f) (general_on f) (outcomes_on f)

-- the rule with a number is kept, by its outcome; one without an outcome is
unfoldable pub kept : List Bool → ℕ → Bool
kept os n = get_or os n true

-- the first of some rules that is broken, by the outcomes
abbrev pub first_of : List Bool → List ℕ → Option RuleNumber
first_of os ns = option_map (λ (n : ℕ). record { 0 = n }) (find (λ (n : ℕ). not (kept os n)) ns)

unfoldable pub holds : Facts → ℕ → Bool
holds f n = get_or (outcomes_on f) n true

unfoldable pub all_true : List Bool → Bool
all_true [] = true
all_true (b ∷ bs) = b && all_true bs
