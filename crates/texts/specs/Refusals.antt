-- The numbers of the refusals, in the table "Answers other than success" and in the requests that amend it.
use Rattle.std.specs.Prelude.{ℕ}
use Rattle.texts.specs.declared.answers.Refusal.{Refusal}
use Rattle.texts.specs.declared.answers.Refusal.TheVariants.{Malformed, BadLength, UnknownVersion, UnknownField, NoRevision, Clash, WrongSize, BrokenRule, NotBudget, Impossible, NotLines, Undated, UnknownParty, BadCharge, BadPart, BadRegister, Differs, BadPayments, SameArrivals, Unfit}

abbrev pub refusal_number : Refusal → ℕ
-- "draft or sheet malformed; for fresh, size not 450"
refusal_number Malformed = 1
-- "message under 2 bytes, L not the rest, L outside 6 to 31; writer: text over 25"
refusal_number BadLength = 2
-- "version not 1"
refusal_number UnknownVersion = 3
-- "field not listed"
refusal_number UnknownField = 4
-- "revision 0"
refusal_number NoRevision = 5
-- "equal revision, other text"
refusal_number Clash = 6
-- "output: a sheet not of 390, a message buffer too short"
refusal_number WrongSize = 7
-- "a broken rule; in completion only 1 to 3"
refusal_number BrokenRule = 8
-- "completion of class O"
refusal_number NotBudget = 9
-- "no filling keeps the rules"
refusal_number Impossible = 10
-- "11 for class B or O when writing and for any other block when reading" (R-6)
refusal_number NotLines = 11
-- "12 for an order date or record entry that is no Gregorian date of the years 1900 to 2099" (R-7)
refusal_number Undated = 12
-- "13 an unknown party" (R-8)
refusal_number UnknownParty = 13
-- "14 for an argument out of range or a least above the greatest" (R-10)
refusal_number BadCharge = 14
-- "15 for a year length other than 365 or 366 .." (R-11)
refusal_number BadPart = 15
-- "16 for a line whose INN or amount isn't as said .." (R-12)
refusal_number BadRegister = 16
-- "17 where the order's amount differs" (R-12)
refusal_number Differs = 17
-- "18 for a value out of range or over 64 payments" (R-13)
refusal_number BadPayments = 18
-- "19 for two equal arrival numbers" (R-13)
refusal_number SameArrivals = 19
-- a slot that can't take up its value (R-9)
refusal_number Unfit = 20
