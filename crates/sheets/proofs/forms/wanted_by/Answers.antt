use borrow.Author.Rules.{rules}
use mathlib.Core.List.{[], ◌∷◌}
use mathlib.Core.Path.{refl}
use native.Mathlib.Omega.{arith}
use Rattle.texts.specs.Texts.{every, any, are, among, value_of, value, number}
use Rattle.texts.proofs.Arms.{arm}
use Rattle.sheets.specs.Working.Facts.{wanted_by}
use Rattle.sheets.specs.declared.forms.Wanted.TheVariants.{Inn, Twelve, Zero}
use Rattle.sheets.proofs.Ways.{wanted-ten, wanted-any}
use Rattle.sheets.proofs.forms.wanted_by.Goals as goal

pub returns-in-1 : goal.returns-in-1
unfolding wanted_by among any are every number value value_of
returns-in-1 c = arm wanted_by Inn _ 1 (32 ∷ []) (refl, refl) c.in-1.is

pub returns-in-17 : goal.returns-in-17
unfolding wanted_by among any are every number value value_of
returns-in-17 c = arm wanted_by Twelve _ 17 [] refl c.in-17.is

pub returns-in-30 : goal.returns-in-30
unfolding wanted_by among any are every number value value_of
returns-in-30 c = arm wanted_by Zero _ 30 [] refl c.in-30.is

pub returns-in-6 : goal.returns-in-6
returns-in-6 c = search (rules, wanted-ten)

pub returns-in_default : goal.returns-in_default
returns-in_default c = search (rules, arith, wanted-any)

pub returns-in_default-2 : goal.returns-in_default-2
returns-in_default-2 c = search (rules, arith, wanted-any)
