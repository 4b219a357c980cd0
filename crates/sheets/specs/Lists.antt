-- The lists of document 01, each quoted once.
use Rattle.std.specs.Prelude.{List, ◌++◌}
use Prim.Native.String.{String}
use Rattle.texts.specs.Quoted.{Text, words}

-- class A: what 15 and 17 begin with
abbrev pub bank_a : String
bank_a = "40102"

abbrev pub accounts_a : String
accounts_a = "03100 03212 03222 03232 03242 03252 03262 03272 03214 03224 03234 03244"

-- class B: digits 7 to 9 of 14; what 17 begins with; the same where its 14th digit is 4
abbrev pub banks_b : String
banks_b = "000 001 002 003 004 005"

abbrev pub account_b : String
account_b = "40204"

abbrev pub accounts_b : String
accounts_b = "40503 40603 40703"

-- the accounts that rules 7, 19, 20, 22 and 28 name
abbrev pub account03100 : String
account03100 = "03100"

abbrev pub account03212 : String
account03212 = "03212"

-- all statuses, ascending: rule 10's list is those of them that the date allows (R-7: Dates)
abbrev pub statuses : String
statuses = "01 02 03 04 05 06 07 08 13 15 16 17 19 20 23 24 27 28 29 30 31 32 33"

-- the statuses of "the customs group"; of rule 19; of rules 21 and 26; of rule 25
abbrev pub customs_group : String
customs_group = "06 07 16 17 28 30 32"

abbrev pub treasury_group : String
treasury_group = "01 02 04 06 07 13 16 17 28 30 32"

abbrev pub courts_group : String
courts_group = "31 33"

abbrev pub personal_group : String
personal_group = "03 19 20 24"

-- rule 23's statuses: 60 is an INN, of 10 digits, of 12 digits, "0"
abbrev pub want_inn : String
want_inn = "01 32"

abbrev pub want_ten : String
want_ten = "06 07"

abbrev pub want_twelve : String
want_twelve = "17"

abbrev pub want_zero : String
want_zero = "30"

-- rule 15's letter pairs, in its order
abbrev pub letter_pairs : String
letter_pairs = "УВ ИЛ ПБ ТГ ТБ ТД ПВ ИН ПК КЭ"

-- a person identifier's two digits
abbrev pub person_types : String
person_types = "01 02 03 04 05 06 07 08 09 10 11 12 13 14 22 24 25 26 28 29 30"

-- completion's lists: "106: rule 15's order. 108 and 109: "0", "00""; that of 101 is in Dates
abbrev pub zero_texts : List Text
zero_texts = words "0 00"

abbrev pub basis_texts : List Text
basis_texts = zero_texts ++ words letter_pairs
