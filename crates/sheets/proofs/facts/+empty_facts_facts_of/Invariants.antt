-- A sheet that has another size makes facts_of call itself once more, with one that has it.
use mathlib.Core.Bool.{cond}
use lib.Dec.{eqb}
use lib.ListN.{length}
use Rattle.sheets.specs.Sheet.{sheet_size}
use Rattle.sheets.proofs.facts.+empty_facts_facts_of.Given as goal

abbrev pub decreases-empty_facts : goal.decreases-empty_facts
decreases-empty_facts l = 1

abbrev pub decreases-facts_of : goal.decreases-facts_of
decreases-facts_of l = cond (eqb (length l.sheet.now) sheet_size) 0 2
