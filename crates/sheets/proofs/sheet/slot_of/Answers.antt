use borrow.Author.Rules.{rules}
use Rattle.sheets.proofs.Sheets.{slot_is, no_slot}
use Rattle.sheets.proofs.sheet.slot_of.Goals as goal

pub returns-in-14 : goal.returns-in-14
returns-in-14 c = search (rules, slot_is, no_slot)

pub returns-in-15 : goal.returns-in-15
returns-in-15 c = search (rules, slot_is, no_slot)

pub returns-in-17 : goal.returns-in-17
returns-in-17 c = search (rules, slot_is, no_slot)

pub returns-in-22 : goal.returns-in-22
returns-in-22 c = search (rules, slot_is, no_slot)

pub returns-in-60 : goal.returns-in-60
returns-in-60 c = search (rules, slot_is, no_slot)

pub returns-in-61 : goal.returns-in-61
returns-in-61 c = search (rules, slot_is, no_slot)

pub returns-in-101 : goal.returns-in-101
returns-in-101 c = search (rules, slot_is, no_slot)

pub returns-in-102 : goal.returns-in-102
returns-in-102 c = search (rules, slot_is, no_slot)

pub returns-in-103 : goal.returns-in-103
returns-in-103 c = search (rules, slot_is, no_slot)

pub returns-in-104 : goal.returns-in-104
returns-in-104 c = search (rules, slot_is, no_slot)

pub returns-in-105 : goal.returns-in-105
returns-in-105 c = search (rules, slot_is, no_slot)

pub returns-in-106 : goal.returns-in-106
returns-in-106 c = search (rules, slot_is, no_slot)

pub returns-in-107 : goal.returns-in-107
returns-in-107 c = search (rules, slot_is, no_slot)

pub returns-in-108 : goal.returns-in-108
returns-in-108 c = search (rules, slot_is, no_slot)

pub returns-in-109 : goal.returns-in-109
returns-in-109 c = search (rules, slot_is, no_slot)

pub returns-in_default : goal.returns-in_default
returns-in_default c = search (rules, slot_is, no_slot)
