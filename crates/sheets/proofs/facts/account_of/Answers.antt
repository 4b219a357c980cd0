use mathlib.Core.Path.{refl}
use native.Mathlib.Omega.{arith}
use Rattle.texts.specs.Texts.{every, between, value_of, value, number}
use Rattle.texts.proofs.Codes.{is-one-of, begins-one-of, begins-this}
use Rattle.sheets.specs.Lists.{accounts_a, banks_b, account_b, accounts_b, account03100, account03212}
use Rattle.sheets.specs.Working.Facts.{account_of, is_a, is_b}
use Rattle.sheets.proofs.facts.account_of.Goals as goal

pub returns : goal.returns
unfolding account_of is_a is_b every number value value_of
returns c = let account = c.args.account.now in cc (c.number-lead.ensures.value (omega arith), begins-one-of 5 account accounts_a refl, is-one-of 3 (between c.args.bik.now 6 9) banks_b refl, begins-this 5 account account_b refl, begins-one-of 5 account accounts_b refl, begins-this 5 account account03100 refl, begins-this 5 account account03212 refl)
