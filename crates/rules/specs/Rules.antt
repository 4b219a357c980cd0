-- Classes and rules 1 to 35 (document 01, "Rules"; rule 35 is R-1), judged knowing sheets only.
use Rattle.std.specs.Prelude.{Bool, true, not, cond, ◌&&◌, ◌||◌, List, [], ◌∷◌, ◌++◌, map, ℕ, eqb, Option, None, Some}
use Prim.Native.String.{String}
use Rattle.texts.specs.Texts.{every, blank, ◌is◌, ◌is_one_of◌, ◌begins◌}
use Rattle.sheets.specs.Sheet.{Sheet, field_in, slot_of, given, ◌⟨◌⟩}
use Rattle.sheets.specs.Forms.{◌⇒◌, bik, account, of_class_a, of_class_b, home, uin, code4, foreign_code, inn10, inn12, inn, digits5, digits10, digits12, kpp, kbk, oktmo, office, letter_pair, person, document, pension, date}
use Rattle.sheets.specs.Dates.{status_texts, listed}
use Rattle.sheets.specs.declared.dates.Dates.{Dates}
use Rattle.sheets.specs.Lists.{account03100, account03212, customs_group, treasury_group, courts_group, personal_group, want_inn, want_ten, want_twelve, want_zero}
use Rattle.rules.specs.declared.class.Class.{Class}
use Rattle.rules.specs.declared.class.Class.TheVariants.{A, B, O}
use Rattle.rules.specs.declared.rules.RuleNumber.{RuleNumber}

-- ---- for every sheet

-- "1. (14) nine digits"
abbrev pub rule1 : Sheet → Bool
rule1 s = bik (s ⟨ 14 ⟩)

-- "2. (15) blank or 20 digits"
abbrev pub rule2 : Sheet → Bool
rule2 s = blank (s ⟨ 15 ⟩) || account (s ⟨ 15 ⟩)

-- "3. (17) 20 digits"
abbrev pub rule3 : Sheet → Bool
rule3 s = account (s ⟨ 17 ⟩)

-- "With 1 to 3 kept, a sheet has a class. A: 15 begins 40102 and 17 begins 03100, 03212, 03222, 03232, 03242, 03252, 03262, 03272, 03214, 03224,
-- 03234 or 03244"
abbrev pub class_a : Sheet → Bool
class_a s = of_class_a (s ⟨ 15 ⟩) (s ⟨ 17 ⟩)

-- "B: digits 7 to 9 of 14 are 000 to 005, and 17 begins 40204, or begins 40503, 40603 or 40703 with its 14th digit, counted from 1, being 4"
abbrev pub class_b : Sheet → Bool
class_b s = of_class_b (s ⟨ 14 ⟩) (s ⟨ 17 ⟩)

-- "Otherwise O, ordinary"
unfoldable pub class_of : Sheet → Class
class_of s = cond (class_a s) A (cond (class_b s) B O)

-- "A budget payment is a sheet of class A or B"
abbrev pub budget : Sheet → Bool
budget s = class_a s || class_b s

-- "4. (101) class O: blank"
abbrev pub rule4 : Sheet → Bool
rule4 s = not (budget s) ⇒ blank (s ⟨ 101 ⟩)

-- ---- "the rest is for A and B"

-- "5. (17) class A: digits 6 to 8 are 643"
abbrev pub rule5 : Sheet → Bool
rule5 s = class_a s ⇒ home (s ⟨ 17 ⟩)

-- the slots of "22, 60, 61, 101 to 109"
abbrev pub needed : List ℕ
needed = map slot_of (22 ∷ 60 ∷ 61 ∷ 101 ∷ 102 ∷ 103 ∷ 104 ∷ 105 ∷ 106 ∷ 107 ∷ 108 ∷ 109 ∷ [])

-- "6. (the first blank one) 22, 60, 61, 101 to 109 not blank"
abbrev pub rule6 : Sheet → Bool
rule6 s = every (given s) needed

-- "7. (22) "0"; or 20 or 25 digits not all zero (a UIN); or four digits not all zero if 17 begins 03212"
abbrev pub rule7 : Sheet → Bool
rule7 s = (s ⟨ 22 ⟩ is "0" || uin (s ⟨ 22 ⟩)) || (code4 (s ⟨ 22 ⟩) && s ⟨ 17 ⟩ begins account03212)

-- "8. (60) "0"; 5 digits not all zero (a foreign code); 10 or 12 digits not beginning 00 (an INN)"; R-4: an INN also has its check digits,
-- here and "wherever a rule says INN"
abbrev pub rule8 : Sheet → Bool
rule8 s = (s ⟨ 60 ⟩ is "0" || foreign_code (s ⟨ 60 ⟩)) || inn (s ⟨ 60 ⟩)

-- "9. (61) 10 digits not beginning 00"; R-4: and the check digit
abbrev pub rule9 : Sheet → Bool
rule9 s = inn10 (s ⟨ 61 ⟩)

-- field 101 is one of some statuses
abbrev pub status : Sheet → String → Bool
status s q = s ⟨ 101 ⟩ is_one_of q

-- "10. (101) one of 01 03 04 05 06 07 08 13 15 16 17 19 20 23 24 27 28 29 30 31 32 33"; R-7: "exactly when the date allows it", so that 02 may
-- be in the list, and 32 and 33 not
abbrev pub rule10 : Dates → Sheet → Bool
rule10 D s = listed (s ⟨ 101 ⟩) (status_texts D)

-- "11. (102) "0" or nine digits not beginning 00"; R-2: "A" to "Z" at places 5 and 6 besides digits
abbrev pub rule11 : Sheet → Bool
rule11 s = s ⟨ 102 ⟩ is "0" || kpp (s ⟨ 102 ⟩)

-- "12. (103) nine digits not beginning 00"; R-2: as rule 11
abbrev pub rule12 : Sheet → Bool
rule12 s = kpp (s ⟨ 103 ⟩)

-- "13. (104) "0" or 20 digits not all zero"
abbrev pub rule13 : Sheet → Bool
rule13 s = s ⟨ 104 ⟩ is "0" || kbk (s ⟨ 104 ⟩)

-- "14. (105) "0" or 8 digits not all zero"
abbrev pub rule14 : Sheet → Bool
rule14 s = s ⟨ 105 ⟩ is "0" || oktmo (s ⟨ 105 ⟩)

-- "15. (106) "0", "00", УВ, ИЛ, ПБ, ТГ, ТБ, ТД, ПВ, ИН, ПК, КЭ"
abbrev pub rule15 : Sheet → Bool
rule15 s = (s ⟨ 106 ⟩ is "0" || s ⟨ 106 ⟩ is "00") || letter_pair (s ⟨ 106 ⟩)

-- "16. (107) "0" or 8 digits"
abbrev pub rule16 : Sheet → Bool
rule16 s = s ⟨ 107 ⟩ is "0" || office (s ⟨ 107 ⟩)

-- "17. (108) 1 to 15 bytes, each 33 to 126 or 192 to 255 and not 45 (the hyphen). If the third is ";", it must be a person identifier"
abbrev pub rule17 : Sheet → Bool
rule17 s = document (s ⟨ 108 ⟩)

-- "18. (109) "0", "00", or DD.MM.YYYY, a Gregorian date of the years 1900 to 2099"
abbrev pub rule18 : Sheet → Bool
rule18 s = (s ⟨ 109 ⟩ is "0" || s ⟨ 109 ⟩ is "00") || date (s ⟨ 109 ⟩)

-- "19. (17) class A, status 01 04 06 07 13 16 17 28 30 32: begins 03100"; R-7: "Status 02 joins rule 19"
abbrev pub rule19 : Sheet → Bool
rule19 s = class_a s && status s treasury_group ⇒ s ⟨ 17 ⟩ begins account03100

-- "20. (17) class A, status 31: begins 03212"
abbrev pub rule20 : Sheet → Bool
rule20 s = class_a s && status s "31" ⇒ s ⟨ 17 ⟩ begins account03212

-- "21. (22) status 31 or 33: a UIN"
abbrev pub rule21 : Sheet → Bool
rule21 s = status s courts_group ⇒ uin (s ⟨ 22 ⟩)

-- "22. (22) 17 begins 03212: not "0""; R-5: "tested ahead of 21", see `order`
abbrev pub rule22 : Sheet → Bool
rule22 s = s ⟨ 17 ⟩ begins account03212 ⇒ not (s ⟨ 22 ⟩ is "0")

-- "23. (60) by status: 01, 32 an INN; 06, 07 of 10 digits; 17 of 12 digits; 30 "0""
abbrev pub rule23 : Sheet → Bool
rule23 s =
    (status s want_inn ⇒ inn (s ⟨ 60 ⟩))
    && ((status s want_ten ⇒ inn10 (s ⟨ 60 ⟩)) && ((status s want_twelve ⇒ inn12 (s ⟨ 60 ⟩)) && (status s want_zero ⇒ s ⟨ 60 ⟩ is "0")))

-- "24. (60) status 13: 60 is an INN or 22 is a UIN"
abbrev pub rule24 : Sheet → Bool
rule24 s = status s "13" ⇒ inn (s ⟨ 60 ⟩) || uin (s ⟨ 22 ⟩)

-- "25. (108) status 03 19 20 24: a person identifier; or "0" with a 12-digit INN in 60 or a UIN in 22"
abbrev pub rule25 : Sheet → Bool
rule25 s =
    status s personal_group
    ⇒ person (s ⟨ 108 ⟩) || (s ⟨ 108 ⟩ is "0" && (inn12 (s ⟨ 60 ⟩) || uin (s ⟨ 22 ⟩)))

-- "26. (108) status 31 or 33: "0""
abbrev pub rule26 : Sheet → Bool
rule26 s = status s courts_group ⇒ s ⟨ 108 ⟩ is "0"

-- "27. (102) 60 of 12 digits: "0"; of 5: not "0"; of 10: not "0" unless status 01"
abbrev pub rule27 : Sheet → Bool
rule27 s =
    (digits12 (s ⟨ 60 ⟩) ⇒ s ⟨ 102 ⟩ is "0")
    && ((digits5 (s ⟨ 60 ⟩) ⇒ not (s ⟨ 102 ⟩ is "0")) && (digits10 (s ⟨ 60 ⟩) ⇒ not (s ⟨ 102 ⟩ is "0") || status s "01"))

-- "28. (104) 17 begins 03100: not "0""
abbrev pub rule28 : Sheet → Bool
rule28 s = s ⟨ 17 ⟩ begins account03100 ⇒ not (s ⟨ 104 ⟩ is "0")

-- "06 07 16 17 28 30 32 (the customs group, this paper's)"
abbrev pub customs : Sheet → Bool
customs s = status s customs_group

-- "29. (106) status outside .. the customs group ..: "0""
abbrev pub rule29 : Sheet → Bool
rule29 s = not (customs s) ⇒ s ⟨ 106 ⟩ is "0"

-- "30. (107) customs group: 8 digits; otherwise "0""
abbrev pub rule30 : Sheet → Bool
rule30 s = (customs s ⇒ office (s ⟨ 107 ⟩)) && (not (customs s) ⇒ s ⟨ 107 ⟩ is "0")

-- "31. (109) outside the customs group: "0""
abbrev pub rule31 : Sheet → Bool
rule31 s = not (customs s) ⇒ s ⟨ 109 ⟩ is "0"

-- "32. (108) 106 a letter pair: not "0""
abbrev pub rule32 : Sheet → Bool
rule32 s = letter_pair (s ⟨ 106 ⟩) ⇒ not (s ⟨ 108 ⟩ is "0")

-- "33. (108) 106 "00": "00""
abbrev pub rule33 : Sheet → Bool
rule33 s = s ⟨ 106 ⟩ is "00" ⇒ s ⟨ 108 ⟩ is "00"

-- "34. (109) "00" exactly if 106 is "00""
abbrev pub rule34 : Sheet → Bool
rule34 s = (s ⟨ 109 ⟩ is "00" ⇒ s ⟨ 106 ⟩ is "00") && (s ⟨ 106 ⟩ is "00" ⇒ s ⟨ 109 ⟩ is "00")

-- R-1: "New rule 35, tested after 34, field 108: an identifier of type 14 has exactly 11 digits after the ";"" and fits its check number
abbrev pub rule35 : Sheet → Bool
rule35 s = pension (s ⟨ 108 ⟩)

-- ---- the rules as data: number, "the field in brackets", test

pub record Rule : Type 0 where
  pub number : ℕ
  pub field : Sheet → ℕ
  pub test : Dates → Sheet → Bool

abbrev pub rule : ℕ → ℕ → (Sheet → Bool) → Rule
rule n f t = record { number = n; field = λ s. f; test = λ D s. t s }

-- rule 6 names "the first blank one"
unfoldable pub first_blank : Sheet → List ℕ → ℕ
first_blank s [] = 0
first_blank s (k ∷ ks) = cond (given s k) (first_blank s ks) (field_in k)

-- the rules "for every sheet", then "the rest"
abbrev pub general : List Rule
general = rule 1 14 rule1 ∷ rule 2 15 rule2 ∷ rule 3 17 rule3 ∷ rule 4 101 rule4 ∷ []

abbrev pub special : List Rule
special =
    rule 5 17 rule5
    ∷ record { number = 6; field = λ s. first_blank s needed; test = λ D s. rule6 s }
    ∷ rule 7 22 rule7
    ∷ rule 8 60 rule8
    ∷ rule 9 61 rule9
    ∷ record { number = 10; field = λ s. 101; test = rule10 }
    ∷ rule 11 102 rule11
    ∷ rule 12 103 rule12
    ∷ rule 13 104 rule13
    ∷ rule 14 105 rule14
    ∷ rule 15 106 rule15
    ∷ rule 16 107 rule16
    ∷ rule 17 108 rule17
    ∷ rule 18 109 rule18
    ∷ rule 19 17 rule19
    ∷ rule 20 17 rule20
    ∷ rule 21 22 rule21
    ∷ rule 22 22 rule22
    ∷ rule 23 60 rule23
    ∷ rule 24 60 rule24
    ∷ rule 25 108 rule25
    ∷ rule 26 108 rule26
    ∷ rule 27 102 rule27
    ∷ rule 28 104 rule28
    ∷ rule 29 106 rule29
    ∷ rule 30 107 rule30
    ∷ rule 31 109 rule31
    ∷ rule 32 108 rule32
    ∷ rule 33 108 rule33
    ∷ rule 34 109 rule34
    ∷ rule 35 108 rule35
    ∷ []

-- "the rest is for A and B": from rule 5 on a rule is asked of budget payments alone
abbrev pub for_budget : Rule → Rule
for_budget r = record { number = r.number; field = r.field; test = λ D s. budget s ⇒ r.test D s }

unfoldable pub rules : List Rule
rules = general ++ map for_budget special

-- "Tested in number order", but "22 is tested ahead of 21" (R-5)
abbrev pub order : List ℕ
order =
    1 ∷ 2 ∷ 3 ∷ 4 ∷ 5 ∷ 6 ∷ 7 ∷ 8 ∷ 9 ∷ 10 ∷ 11 ∷ 12 ∷ 13 ∷ 14 ∷ 15 ∷ 16 ∷ 17 ∷ 18 ∷ 19 ∷ 20 ∷ 22 ∷ 21 ∷ 23 ∷ 24 ∷ 25
    ∷ 26 ∷ 27 ∷ 28 ∷ 29 ∷ 30 ∷ 31 ∷ 32 ∷ 33 ∷ 34 ∷ 35 ∷ []

-- "1 to 3", those for every sheet: with these kept, a sheet has a class
abbrev pub basic : List ℕ
basic = 1 ∷ 2 ∷ 3 ∷ []

-- "rules 5 to 9, 11 to 14, 16, 22 and 28", in the order of testing: a test ahead of completion asks for these (R-3)
abbrev pub ahead : List ℕ
ahead = 5 ∷ 6 ∷ 7 ∷ 8 ∷ 9 ∷ 11 ∷ 12 ∷ 13 ∷ 14 ∷ 16 ∷ 22 ∷ 28 ∷ []

-- "rules 1, 2, 3, 5, 7, 9, 10 and 12": a reader of MT103 lines asks for these (R-6)
abbrev pub of_lines : List ℕ
of_lines = 1 ∷ 2 ∷ 3 ∷ 5 ∷ 7 ∷ 9 ∷ 10 ∷ 12 ∷ []

-- the test and the field of the rule with a number. The lines of [] are for a number that no rule has: such a rule would be kept. There is none in
-- `order`: that `rules` has the numbers 1 to 35, and `order` each of them once, is computed in Tables/Pinned (`numbered`, `tested_once`)
unfoldable pub test_of : List Rule → ℕ → Dates → Sheet → Bool
test_of [] n D s = true
test_of (r ∷ rs) n D s = cond (eqb n r.number) (r.test D s) (test_of rs n D s)

unfoldable pub field_of : List Rule → ℕ → Sheet → ℕ
field_of [] n s = 0
field_of (r ∷ rs) n s = cond (eqb n r.number) (r.field s) (field_of rs n s)

-- at the dates D a sheet keeps the rule with a number; it keeps all rules
unfoldable pub keeps : Dates → Sheet → ℕ → Bool
keeps D s n = test_of rules n D s

unfoldable pub keeps_all : Dates → Sheet → Bool
keeps_all D s = every (keeps D s) order

-- the first of some numbers that fails a test, 0 where none does
unfoldable pub first_not : (ℕ → Bool) → List ℕ → ℕ
first_not p [] = 0
first_not p (n ∷ ns) = cond (p n) (first_not p ns) n

-- the first broken one of some rules
abbrev pub first_broken : Dates → Sheet → List ℕ → ℕ
first_broken D s ns = first_not (keeps D s) ns

-- the rule with a number; 0 is none
unfoldable pub rule_named : ℕ → Option RuleNumber
rule_named n = cond (eqb n 0) None (Some (record { 0 = n }))
