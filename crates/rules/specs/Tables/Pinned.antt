-- What the rules say of many more sheets than document 01's examples, so that no rule, field, list or limit can be changed in definition
-- and code together: the numbers of the rules and the order of testing; each rule as the first broken one; each class and status accepted;
-- of each rule texts that keep it and texts that break it, every entry of its lists and both sides of its limits (of rule 35 in R1). All of it is
-- shown true of the definitions by computation.
use Rattle.std.specs.Prelude.{◌≡◌, refl, Bool, true, false, cond, List, [], ◌∷◌, ◌++◌, map, ℕ, ◌+◌, ◌*◌, eqb, length, set, take}
use Prim.Native.String.{String}
use Rattle.texts.specs.Quoted.{bytes}
use Rattle.texts.specs.Answers.{Answer, refusal}
use Rattle.sheets.specs.Sheet.{Sheet, slots}
use Rattle.rules.specs.Rules.{Rule, rules, order, keeps}
use Rattle.sheets.specs.Dates.{program_dates}
use Rattle.rules.specs.Verdicts.{checked}
use Rattle.rules.specs.Tables.Examples.{Change, ◌≔◌, accepted, sheet_with, answer, varied}
use Rattle.rules.specs.Requests.Before.{broken}

-- ---- the numbers of the rules, and the order of testing

numbers : List ℕ
numbers =
    1 ∷ 2 ∷ 3 ∷ 4 ∷ 5 ∷ 6 ∷ 7 ∷ 8 ∷ 9 ∷ 10 ∷ 11 ∷ 12 ∷ 13 ∷ 14 ∷ 15 ∷ 16 ∷ 17 ∷ 18 ∷ 19 ∷ 20 ∷ 21 ∷ 22 ∷ 23 ∷ 24 ∷ 25
    ∷ 26 ∷ 27 ∷ 28 ∷ 29 ∷ 30 ∷ 31 ∷ 32 ∷ 33 ∷ 34 ∷ 35 ∷ []

-- the rules are numbered 1 to 35, in turn
numbered : map (λ (r : Rule). r.number) rules ≡ numbers
unfolding rules numbers
numbered = refl

-- how often a number stands in a list
times : ℕ → List ℕ → ℕ
times n [] = 0
times n (m ∷ ms) = cond (eqb n m) 1 0 + times n ms

-- each rule's number stands once in the order of testing, and nothing else stands there: the two lists are of one length
tested_once : (map (λ (r : Rule). times r.number order) rules ≡ map (λ (r : Rule). 1) rules) × (length order ≡ length rules)
unfolding rules times
tested_once = (refl, refl)

-- ---- the lines of the tables

-- those of some rules that a sheet breaks
breaks : Sheet → List ℕ → List ℕ
breaks x [] = []
breaks x (n ∷ ns) = cond (keeps program_dates x n) [] (n ∷ []) ++ breaks x ns

-- each of some sheets has one value
abbrev All : {A : Type 0} → List (List Change) → (List Change → A) → A → Type 0
All ds g v = map (λ (d : List Change). v) ds ≡ map g ds

abbrev kept : ℕ → List Change → Bool
kept n cs = keeps program_dates (sheet_with cs) n

-- What a line says of S with the differences cs. The `refl` at its end has this computed; the prover refuses a line that is not so.
data Line : Type 0 where
  -- the answer
  sheet : (cs : List Change) (a : Answer) → a ≡ answer cs → Line
  -- the answer, and all the rules that are broken
  turn : (cs : List Change) (a : Answer) (ns : List ℕ) → a ≡ answer cs → ns ≡ breaks (sheet_with cs) numbers → Line
  -- with each text of q in field f: the answer; rule n is kept; rule n is broken
  each : (cs : List Change) (f : ℕ) (q : String) (a : Answer) → All (varied cs f q) answer a → Line
  keep : (n : ℕ) (cs : List Change) (f : ℕ) (q : String) → All (varied cs f q) (kept n) true → Line
  break : (n : ℕ) (cs : List Change) (f : ℕ) (q : String) → All (varied cs f q) (kept n) false → Line
  -- the answer of a sheet's bytes
  raw : (x : Sheet) (a : Answer) → a ≡ checked program_dates x → Line

-- differences that many lines share: two accounts of class A, a UIN, class B, status 06 with its office, 106 to 109 of a customs payment
to03212 : Change
to03212 = 17 ≔ "03212643000000014800"

to03222 : Change
to03222 = 17 ≔ "03222643000000014800"

uin : Change
uin = 22 ≔ "12345678901234567890"

in_b : List Change
in_b = (14 ≔ "044525000") ∷ (15 ≔ "") ∷ (17 ≔ "40204810000000000000") ∷ []

customs : List Change
customs = (101 ≔ "06") ∷ (107 ≔ "10000000") ∷ []

customs_fields : List Change
customs_fields = (106 ≔ "ТД") ∷ (107 ≔ "10000000") ∷ (108 ≔ "1") ∷ (109 ≔ "01.01.2024") ∷ []

-- ---- "Tested in number order; the first broken one is named with the field in brackets"

-- Each rule as the first broken one, on a sheet that breaks the next one too, or the next that can be broken with it.
turns : List Line
unfolding answer breaks numbers to03212 to03222 uin customs
turns =
    turn ((14 ≔ "1") ∷ (15 ≔ "1") ∷ (101 ≔ "") ∷ []) (broken 14 1) (1 ∷ 2 ∷ []) refl refl
    ∷ turn ((15 ≔ "1") ∷ (17 ≔ "1") ∷ (101 ≔ "") ∷ []) (broken 15 2) (2 ∷ 3 ∷ []) refl refl
    ∷ turn ((17 ≔ "1") ∷ []) (broken 17 3) (3 ∷ 4 ∷ []) refl refl
    -- 4 is for class O, the later ones are for A and B
    ∷ turn ((15 ≔ "") ∷ (22 ≔ "") ∷ []) (broken 101 4) (4 ∷ []) refl refl
    ∷ turn ((17 ≔ "03100810000000014800") ∷ (105 ≔ "") ∷ []) (broken 17 5) (5 ∷ 6 ∷ 14 ∷ []) refl refl
    ∷ turn ((22 ≔ "1") ∷ (105 ≔ "") ∷ []) (broken 105 6) (6 ∷ 7 ∷ 14 ∷ []) refl refl
    ∷ turn ((22 ≔ "1") ∷ (60 ≔ "1") ∷ []) (broken 22 7) (7 ∷ 8 ∷ 23 ∷ []) refl refl
    ∷ turn ((60 ≔ "1") ∷ (61 ≔ "1") ∷ []) (broken 60 8) (8 ∷ 9 ∷ 23 ∷ []) refl refl
    ∷ turn ((61 ≔ "1") ∷ (101 ≔ "02") ∷ []) (broken 61 9) (9 ∷ 10 ∷ []) refl refl
    ∷ turn ((101 ≔ "02") ∷ (102 ≔ "1") ∷ []) (broken 101 10) (10 ∷ 11 ∷ []) refl refl
    ∷ turn ((102 ≔ "1") ∷ (103 ≔ "1") ∷ []) (broken 102 11) (11 ∷ 12 ∷ []) refl refl
    ∷ turn ((103 ≔ "1") ∷ (104 ≔ "1") ∷ []) (broken 103 12) (12 ∷ 13 ∷ []) refl refl
    ∷ turn ((104 ≔ "1") ∷ (105 ≔ "1") ∷ []) (broken 104 13) (13 ∷ 14 ∷ []) refl refl
    ∷ turn ((105 ≔ "1") ∷ (106 ≔ "1") ∷ []) (broken 105 14) (14 ∷ 15 ∷ 29 ∷ []) refl refl
    ∷ turn ((106 ≔ "1") ∷ (107 ≔ "1") ∷ []) (broken 106 15) (15 ∷ 16 ∷ 29 ∷ 30 ∷ []) refl refl
    ∷ turn ((107 ≔ "1") ∷ (108 ≔ "-") ∷ []) (broken 107 16) (16 ∷ 17 ∷ 30 ∷ []) refl refl
    ∷ turn ((108 ≔ "-") ∷ (109 ≔ "1") ∷ []) (broken 108 17) (17 ∷ 18 ∷ 31 ∷ []) refl refl
    ∷ turn (to03222 ∷ (109 ≔ "1") ∷ []) (broken 109 18) (18 ∷ 19 ∷ 31 ∷ []) refl refl
    -- 19 and 20, 21 are for different statuses
    ∷ turn (to03212 ∷ []) (broken 17 19) (19 ∷ 22 ∷ []) refl refl
    ∷ turn ((101 ≔ "31") ∷ []) (broken 17 20) (20 ∷ 21 ∷ []) refl refl
    ∷ turn (to03212 ∷ (101 ≔ "31") ∷ []) (broken 22 22) (21 ∷ 22 ∷ []) refl refl
    -- on 03212 the statuses of 23 and 24 break 19
    ∷ turn (to03212 ∷ (101 ≔ "03") ∷ []) (broken 22 22) (22 ∷ 25 ∷ []) refl refl
    -- 23, 24, 25 and 26 are for different statuses
    ∷ turn (customs ++ ((60 ≔ "12345") ∷ (102 ≔ "0") ∷ [])) (broken 60 23) (23 ∷ 27 ∷ []) refl refl
    ∷ turn ((101 ≔ "13") ∷ (60 ≔ "12345") ∷ (102 ≔ "0") ∷ []) (broken 60 24) (24 ∷ 27 ∷ []) refl refl
    ∷ turn ((101 ≔ "03") ∷ (102 ≔ "0") ∷ []) (broken 108 25) (25 ∷ 27 ∷ []) refl refl
    ∷ turn (uin ∷ (101 ≔ "33") ∷ (102 ≔ "0") ∷ (108 ≔ "1") ∷ []) (broken 108 26) (26 ∷ 27 ∷ []) refl refl
    ∷ turn ((101 ≔ "08") ∷ (102 ≔ "0") ∷ (104 ≔ "0") ∷ []) (broken 102 27) (27 ∷ 28 ∷ []) refl refl
    ∷ turn ((104 ≔ "0") ∷ (106 ≔ "ТД") ∷ (108 ≔ "1") ∷ []) (broken 104 28) (28 ∷ 29 ∷ []) refl refl
    ∷ turn ((106 ≔ "ТД") ∷ (107 ≔ "10000000") ∷ (108 ≔ "1") ∷ []) (broken 106 29) (29 ∷ 30 ∷ []) refl refl
    ∷ turn ((107 ≔ "10000000") ∷ (109 ≔ "01.01.2024") ∷ []) (broken 107 30) (30 ∷ 31 ∷ []) refl refl
    -- where 31 is broken, 106 is "0" by 29, and 32 and 33 ask nothing; 32 and 33 are for different texts in 106
    ∷ turn ((109 ≔ "00") ∷ []) (broken 109 31) (31 ∷ 34 ∷ []) refl refl
    ∷ turn (customs ++ ((106 ≔ "ТД") ∷ (109 ≔ "00") ∷ [])) (broken 108 32) (32 ∷ 34 ∷ []) refl refl
    ∷ turn (customs ++ ((106 ≔ "00") ∷ [])) (broken 108 33) (33 ∷ 34 ∷ []) refl refl
    ∷ turn (customs ++ ((108 ≔ "14;12345678900") ∷ (109 ≔ "00") ∷ [])) (broken 109 34) (34 ∷ 35 ∷ []) refl refl
    ∷ turn ((108 ≔ "14;12345678900") ∷ []) (broken 108 35) (35 ∷ []) refl refl
    ∷ []

-- Where a rule can't be broken with the one before it, the last that it can be broken with.
turns_too : List Line
unfolding answer breaks numbers to03222 uin
turns_too =
    turn ((17 ≔ "03100") ∷ []) (broken 17 3) (3 ∷ 5 ∷ []) refl refl
    ∷ turn (uin ∷ (101 ≔ "31") ∷ (109 ≔ "1") ∷ []) (broken 109 18) (18 ∷ 20 ∷ 31 ∷ []) refl refl
    ∷ turn (to03222 ∷ (60 ≔ "0") ∷ []) (broken 17 19) (19 ∷ 23 ∷ []) refl refl
    ∷ turn (to03222 ∷ (60 ≔ "0") ∷ (101 ≔ "13") ∷ []) (broken 17 19) (19 ∷ 24 ∷ []) refl refl
    ∷ turn ((101 ≔ "33") ∷ (108 ≔ "1") ∷ []) (broken 22 21) (21 ∷ 26 ∷ []) refl refl
    ∷ turn ((101 ≔ "06") ∷ (106 ≔ "ТД") ∷ []) (broken 107 30) (30 ∷ 32 ∷ []) refl refl
    ∷ turn ((101 ≔ "06") ∷ (106 ≔ "00") ∷ (109 ≔ "00") ∷ []) (broken 107 30) (30 ∷ 33 ∷ []) refl refl
    ∷ []

-- Rule 6 names "the first blank one".
blanks : List Line
unfolding answer
blanks =
    sheet ((22 ≔ "") ∷ (60 ≔ "") ∷ []) (broken 22 6) refl
    ∷ sheet ((60 ≔ "") ∷ (61 ≔ "") ∷ []) (broken 60 6) refl
    ∷ sheet ((61 ≔ "") ∷ (101 ≔ "") ∷ []) (broken 61 6) refl
    ∷ sheet ((101 ≔ "") ∷ (102 ≔ "") ∷ []) (broken 101 6) refl
    ∷ sheet ((102 ≔ "") ∷ (103 ≔ "") ∷ []) (broken 102 6) refl
    ∷ sheet ((103 ≔ "") ∷ (104 ≔ "") ∷ []) (broken 103 6) refl
    ∷ sheet ((104 ≔ "") ∷ (105 ≔ "") ∷ []) (broken 104 6) refl
    ∷ sheet ((105 ≔ "") ∷ (106 ≔ "") ∷ []) (broken 105 6) refl
    ∷ sheet ((106 ≔ "") ∷ (107 ≔ "") ∷ []) (broken 106 6) refl
    ∷ sheet ((107 ≔ "") ∷ (108 ≔ "") ∷ []) (broken 107 6) refl
    ∷ sheet ((108 ≔ "") ∷ (109 ≔ "") ∷ []) (broken 108 6) refl
    ∷ sheet ((109 ≔ "") ∷ []) (broken 109 6) refl
    ∷ []

-- ---- "Malformed": another size, a length above 25, a nonzero pad byte

-- Slot 0 begins at byte 0 and has 9 bytes of text, slot 14 begins at 364 and has one.
malformed : List Line
unfolding answer
malformed =
    raw [] (refusal 1 []) refl
    ∷ raw (take 389 (sheet_with [])) (refusal 1 []) refl
    ∷ raw (sheet_with [] ++ (0 ∷ [])) (refusal 1 []) refl
    ∷ raw (set (sheet_with []) 0 26) (refusal 1 []) refl
    ∷ raw (set (sheet_with []) 10 1) (refusal 1 []) refl
    ∷ raw (set (sheet_with []) 25 1) (refusal 1 []) refl
    ∷ raw (set (sheet_with []) 364 26) (refusal 1 []) refl
    ∷ raw (set (sheet_with []) 366 1) (refusal 1 []) refl
    ∷ raw (set (sheet_with []) 389 1) (refusal 1 []) refl
    ∷ raw (set (sheet_with []) 9 48) (accepted "A") refl
    ∷ sheet ((22 ≔ "1234567890123456789012345") ∷ []) (accepted "A") refl
    ∷ []

-- a length of 26, and a byte behind the text, in each slot
malformed_slots :
    (map (λ (k : ℕ). checked program_dates (set (sheet_with []) (k * 26) 26)) slots ≡ map (λ (k : ℕ). refusal 1 []) slots)
    × (map (λ (k : ℕ). checked program_dates (set (sheet_with []) (k * 26 + 25) 1)) slots ≡ map (λ (k : ℕ). refusal 1 []) slots)
unfolding answer
malformed_slots = (refl, refl)

-- ---- classes

classes : List Line
unfolding answer varied in_b to03212 to03222
classes =
    -- A: each account
    sheet ((17 ≔ "03100643000000014800") ∷ []) (accepted "A") refl
    ∷ sheet ((17 ≔ "03212643000000014800") ∷ (22 ≔ "1234") ∷ (101 ≔ "08") ∷ []) (accepted "A") refl
    ∷ sheet ((17 ≔ "03222643000000014800") ∷ (101 ≔ "08") ∷ []) (accepted "A") refl
    ∷ sheet ((17 ≔ "03232643000000014800") ∷ (101 ≔ "08") ∷ []) (accepted "A") refl
    ∷ sheet ((17 ≔ "03242643000000014800") ∷ (101 ≔ "08") ∷ []) (accepted "A") refl
    ∷ sheet ((17 ≔ "03252643000000014800") ∷ (101 ≔ "08") ∷ []) (accepted "A") refl
    ∷ sheet ((17 ≔ "03262643000000014800") ∷ (101 ≔ "08") ∷ []) (accepted "A") refl
    ∷ sheet ((17 ≔ "03272643000000014800") ∷ (101 ≔ "08") ∷ []) (accepted "A") refl
    ∷ sheet ((17 ≔ "03214643000000014800") ∷ (101 ≔ "08") ∷ []) (accepted "A") refl
    ∷ sheet ((17 ≔ "03224643000000014800") ∷ (101 ≔ "08") ∷ []) (accepted "A") refl
    ∷ sheet ((17 ≔ "03234643000000014800") ∷ (101 ≔ "08") ∷ []) (accepted "A") refl
    ∷ sheet ((17 ≔ "03244643000000014800") ∷ (101 ≔ "08") ∷ []) (accepted "A") refl
    -- B: each ending of 14, each account
    ∷ each in_b 14 "044525000 044525001 044525002 044525003 044525004 044525005" (accepted "B") refl
    ∷ each in_b 17 "40503810000004000000 40603810000004000000 40703810000004000000" (accepted "B") refl
    -- A whatever 14 ends in, B whatever 15 has; O with and without 15, whatever stands in the other fields
    ∷ sheet ((14 ≔ "044525000") ∷ []) (accepted "A") refl
    ∷ sheet (in_b ++ ((15 ≔ "40102810845370000004") ∷ [])) (accepted "B") refl
    ∷ sheet ((17 ≔ "40702810000000000001") ∷ (101 ≔ "") ∷ []) (accepted "O") refl
    ∷ sheet ((15 ≔ "") ∷ (22 ≔ "") ∷ (60 ≔ "1") ∷ (101 ≔ "") ∷ (106 ≔ "1") ∷ (109 ≔ "") ∷ []) (accepted "O") refl
    -- 14 ending 006 with 40204 is class O
    ∷ sheet (in_b ++ ((14 ≔ "044525006") ∷ [])) (broken 101 4) refl
    -- 4 is broken where a sheet with 101 is neither A nor B
    ∷ break 4 [] 15 "40101810845370000004 40103810845370000004 30102810845370000004 00000000000000000000" refl
    ∷ break 4 [] 17 "03101643000000014800 03202643000000014800 03213643000000014800 03254643000000014800" refl
    ∷ break 4 [] 17 "03282643000000014800 13100643000000014800 00000000000000000000" refl
    ∷ break 4 in_b 14 "044525006 044525010 044525100 044525999" refl
    ∷ break 4 in_b 17 "40203810000004000000 40205810000004000000 40502810000004000000 40704810000004000000" refl
    ∷ break 4 in_b 17 "40503810000003000000 40603810000005000000 40703810000040000000 40703810000000400000" refl
    ∷ break 4 ((15 ≔ "") ∷ []) 101 "0 01 02" refl
    ∷ keep 4 ((15 ≔ "") ∷ []) 101 "" refl
    ∷ []

-- ---- statuses

-- Each one accepted, on a sheet that a rule of 19 to 31 whose list lacks it would refuse if its list had it.
accepted_statuses : List Line
unfolding answer varied to03212 to03222 uin customs_fields
accepted_statuses =
    each ((60 ≔ "781023456779") ∷ (102 ≔ "0") ∷ (108 ≔ "1") ∷ []) 101 "01" (accepted "A") refl
    ∷ each (to03222 ∷ (60 ≔ "12345") ∷ (104 ≔ "0") ∷ (108 ≔ "01;1") ∷ []) 101 "03 19 20 24" (accepted "A") refl
    ∷ each ((60 ≔ "12345") ∷ (108 ≔ "1") ∷ []) 101 "04" (accepted "A") refl
    ∷ each (to03222 ∷ (60 ≔ "12345") ∷ (104 ≔ "0") ∷ (108 ≔ "1") ∷ []) 101 "05 08 15 23 27 29" (accepted "A") refl
    ∷ each customs_fields 101 "06 07" (accepted "A") refl
    ∷ each (uin ∷ (60 ≔ "12345") ∷ (108 ≔ "1") ∷ []) 101 "13" (accepted "A") refl
    ∷ each ((60 ≔ "12345") ∷ customs_fields) 101 "16 28" (accepted "A") refl
    ∷ each ((60 ≔ "781023456779") ∷ (102 ≔ "0") ∷ customs_fields) 101 "17 32" (accepted "A") refl
    ∷ each ((60 ≔ "0") ∷ customs_fields) 101 "30" (accepted "A") refl
    ∷ each (to03212 ∷ uin ∷ (60 ≔ "12345") ∷ (104 ≔ "0") ∷ []) 101 "31" (accepted "A") refl
    ∷ each (to03222 ∷ uin ∷ (60 ≔ "12345") ∷ (104 ≔ "0") ∷ []) 101 "33" (accepted "A") refl
    ∷ []

-- ---- each rule by itself, whatever the others say of the sheet

-- Texts that keep it and texts that break it: every entry of its lists, and both sides of its limits.
rules1to18 : List Line
unfolding answer varied in_b to03212 customs
rules1to18 =
    -- "/" and ":" stand beside the digits
    keep 1 [] 14 "000000000 999999999" refl
    ∷ break 1 [] 14 "00452598 0045259870 /04525987 00452598: 00452598A" refl
    ∷ break 1 [] 14 "" refl
    ∷ keep 2 [] 15 "" refl
    ∷ keep 2 [] 15 "00000000000000000000" refl
    ∷ break 2 [] 15 "0 4010281084537000000 401028108453700000040 4010281084537000000A" refl
    ∷ keep 3 [] 17 "00000000000000000000" refl
    ∷ break 3 [] 17 "0 0310064300000001480 031006430000000148000 0310064300000001480A" refl
    ∷ break 3 [] 17 "" refl
    ∷ break 5 [] 17 "03100642000000014800 03100644000000014800 03100743000000014800 03100064300000014800" refl
    ∷ keep 5 in_b 17 "40204810000000000000" refl
    -- 20 or 25 digits, or four with 03212
    ∷ keep 7 [] 22 "0 12345678901234567890 00000000000000000001 1234567890123456789012345 0000000000000000000000001" refl
    ∷ break 7 [] 22 "00 1 1234 1234567890123456789 123456789012345678901 123456789012345678901234" refl
    ∷ break 7 [] 22 "00000000000000000000 0000000000000000000000000 1234567890123456789A 123456789012345678901234A" refl
    ∷ keep 7 (to03212 ∷ []) 22 "0 1234 0001 12345678901234567890 1234567890123456789012345" refl
    ∷ break 7 (to03212 ∷ []) 22 "00 123 0000 123A 12345" refl
    ∷ break 7 ((22 ≔ "1234") ∷ []) 17 "03222643000000014800 03232643000000014800 03242643000000014800 03252643000000014800" refl
    ∷ break 7 ((22 ≔ "1234") ∷ []) 17 "03262643000000014800 03272643000000014800 03214643000000014800 03224643000000014800" refl
    ∷ break 7 ((22 ≔ "1234") ∷ []) 17 "03234643000000014800 03244643000000014800" refl
    ∷ break 7 in_b 22 "1234" refl
    ∷ keep 8 [] 60 "0 12345 00001 7701569743 0112345677 1000000002 781023456779 010000000021 100000000074" refl
    ∷ break 8 [] 60 "00 1234 00000 1234A 123456 770156974 0012345673 770156974A 77015697431" refl
    ∷ break 8 [] 60 "001234567887 78102345677A 7810234567799" refl
    ∷ keep 9 [] 61 "6730054024 0112345677 1000000002" refl
    ∷ break 9 [] 61 "0 12345 673005402 0030054028 673005402A 67300540241 781023456779" refl
    ∷ keep 10 [] 101 "01 03 04 05 06 07 08 13 15 16 17 19 20 23 24 27 28 29 30 31 32 33" refl
    ∷ break 10 [] 101 "00 02 09 10 11 12 14 18 21 22 25 26 34 35 40 99 0 1 001 0A" refl
    ∷ keep 11 [] 102 "0 770301001 012345678 100000000" refl
    ∷ break 11 [] 102 "00 77030100 003010010 77030100A 7703010011" refl
    ∷ keep 12 [] 103 "772801001 012345678 100000000" refl
    ∷ break 12 [] 103 "0 00 77280100 002801001 77280100A 7728010011" refl
    ∷ keep 13 [] 104 "0 18201061201010000510 00000000000000000001" refl
    ∷ break 13 [] 104 "00 1820106120101000051 00000000000000000000 1820106120101000051A 182010612010100005100" refl
    ∷ keep 14 [] 105 "0 45383000 00000001" refl
    ∷ break 14 [] 105 "00 4538300 00000000 4538300A 453830000 45383000000" refl
    ∷ keep 15 [] 106 "0 00 УВ ИЛ ПБ ТГ ТБ ТД ПВ ИН ПК КЭ" refl
    ∷ break 15 [] 106 "1 000 У ВУ УЛ ТП тд TB УВУ" refl
    ∷ each (customs ++ ((108 ≔ "1") ∷ [])) 106 "УВ ИЛ ПБ ТГ ТБ ТД ПВ ИН ПК КЭ" (accepted "A") refl
    ∷ keep 16 [] 107 "0 10000000 00000000" refl
    ∷ break 16 [] 107 "00 1000000 1000000A 100000000" refl
    -- the bytes, the length, a third byte ";"
    ∷ sheet ((108, 33 ∷ []) ∷ []) (accepted "A") refl
    ∷ sheet ((108, 126 ∷ []) ∷ []) (accepted "A") refl
    ∷ sheet ((108, 192 ∷ []) ∷ []) (accepted "A") refl
    ∷ sheet ((108, 255 ∷ []) ∷ []) (accepted "A") refl
    ∷ sheet ((108, 0 ∷ []) ∷ []) (broken 108 17) refl
    ∷ sheet ((108, 32 ∷ []) ∷ []) (broken 108 17) refl
    ∷ sheet ((108, 127 ∷ []) ∷ []) (broken 108 17) refl
    ∷ sheet ((108, 191 ∷ []) ∷ []) (broken 108 17) refl
    ∷ keep 17 [] 108 "0 00 , . 123456789012345 01;123456789012 01;; ;; 1;1 123;4" refl
    ∷ break 17 [] 108 "- 1-1 12345678901234- 1234567890123456 01;1234567890123 01; ;;; А1;1" refl
    ∷ keep 17 [] 108 "01;1 02;1 03;1 04;1 05;1 06;1 07;1 08;1 09;1 10;1 11;1 12;1 13;1 14;1 22;1 24;1 25;1 26;1 28;1 29;1 30;1" refl
    ∷ break 17 [] 108 "00;1 15;1 16;1 17;1 18;1 19;1 20;1 21;1 23;1 27;1 31;1 32;1 40;1 99;1" refl
    ∷ sheet ((60 ≔ "0") ∷ (101 ≔ "24") ∷ (102 ≔ "0") ∷ (108 ≔ "15;11223344595") ∷ []) (broken 108 17) refl
    -- the last day of each month, leap years, the years, the form
    ∷ keep 18 [] 109 "0 00 31.01.2023 28.02.2023 31.03.2023 30.04.2023 31.05.2023 30.06.2023" refl
    ∷ keep 18 [] 109 "31.07.2023 31.08.2023 30.09.2023 31.10.2023 30.11.2023 31.12.2023" refl
    ∷ break 18 [] 109 "32.01.2023 29.02.2023 31.04.2023 31.06.2023 31.09.2023 31.11.2023 32.12.2023" refl
    ∷ keep 18 [] 109 "29.02.2000 29.02.2024 29.02.2096 01.01.1900 31.12.2099" refl
    ∷ break 18 [] 109 "29.02.1900 29.02.2001 29.02.2022 30.02.2024 29.02.2100 31.12.1899 01.01.2100" refl
    ∷ break 18 [] 109 "000 00.01.2024 01.00.2024 01.13.2024 1.01.2024 01.1.2024 01.01.24 01.01.20240" refl
    ∷ break 18 [] 109 "01/01.2024 01.01/2024 2024.01.01 A1.01.2024 01.A1.2024 01.01.202A" refl
    ∷ each customs 109 "29.02.2000 29.02.2024 01.01.1900 31.12.2099" (accepted "A") refl
    ∷ each customs 109 "29.02.1900 29.02.2023 31.12.1899 01.01.2100" (broken 109 18) refl
    ∷ sheet ((109 ≔ "29.02.2023") ∷ []) (broken 109 18) refl
    ∷ sheet ((109 ≔ "29.02.2024") ∷ []) (broken 109 31) refl
    ∷ []

rules19to35 : List Line
unfolding answer varied in_b to03212 to03222 uin customs
rules19to35 =
    -- 19, 20: class A alone
    break 19 (to03222 ∷ []) 101 "01 02 04 06 07 13 16 17 28 30 32" refl
    ∷ keep 19 (to03222 ∷ []) 101 "03 05 08 15 19 20 23 24 27 29 31 33" refl
    ∷ keep 19 in_b 101 "01 02 04 06 07 13 16 17 28 30 32" refl
    ∷ break 19 [] 17 "03212643000000014800 03222643000000014800 03232643000000014800 03242643000000014800" refl
    ∷ break 19 [] 17 "03252643000000014800 03262643000000014800 03272643000000014800 03214643000000014800" refl
    ∷ break 19 [] 17 "03224643000000014800 03234643000000014800 03244643000000014800" refl
    ∷ keep 20 (to03222 ∷ []) 101 "01 02 03 04 05 06 07 08 13 15 16 17 19 20 23 24 27 28 29 30 32 33" refl
    ∷ keep 20 in_b 101 "31" refl
    ∷ keep 20 ((101 ≔ "31") ∷ []) 17 "03212643000000014800" refl
    ∷ break 20 ((101 ≔ "31") ∷ []) 17 "03100643000000014800 03222643000000014800 03232643000000014800 03242643000000014800" refl
    ∷ break 20 ((101 ≔ "31") ∷ []) 17 "03252643000000014800 03262643000000014800 03272643000000014800 03214643000000014800" refl
    ∷ break 20 ((101 ≔ "31") ∷ []) 17 "03224643000000014800 03234643000000014800 03244643000000014800" refl
    ∷ break 21 [] 101 "31 33" refl
    ∷ keep 21 [] 101 "01 02 03 04 05 06 07 08 13 15 16 17 19 20 23 24 27 28 29 30 32" refl
    ∷ break 21 (to03212 ∷ (101 ≔ "31") ∷ []) 22 "0 1234" refl
    ∷ keep 21 (to03212 ∷ (101 ≔ "31") ∷ []) 22 "12345678901234567890 1234567890123456789012345" refl
    ∷ break 22 [] 17 "03212643000000014800" refl
    ∷ keep 22 [] 17 "03100643000000014800 03222643000000014800 03232643000000014800 03242643000000014800" refl
    ∷ keep 22 [] 17 "03252643000000014800 03262643000000014800 03272643000000014800 03214643000000014800" refl
    ∷ keep 22 [] 17 "03224643000000014800 03234643000000014800 03244643000000014800" refl
    ∷ keep 22 (to03212 ∷ []) 22 "1234 12345678901234567890 1234567890123456789012345" refl
    -- 23: what each status wants in 60
    ∷ keep 23 ((60 ≔ "0") ∷ []) 101 "02 03 04 05 08 13 15 16 19 20 23 24 27 28 29 30 31 33" refl
    ∷ break 23 ((60 ≔ "0") ∷ []) 101 "01 06 07 17 32" refl
    ∷ keep 23 ((60 ≔ "12345") ∷ []) 101 "02 03 04 05 08 13 15 16 19 20 23 24 27 28 29 31 33" refl
    ∷ break 23 ((60 ≔ "12345") ∷ []) 101 "01 06 07 17 30 32" refl
    ∷ keep 23 ((60 ≔ "7701569743") ∷ []) 101 "01 02 03 04 05 06 07 08 13 15 16 19 20 23 24 27 28 29 31 32 33" refl
    ∷ break 23 ((60 ≔ "7701569743") ∷ []) 101 "17 30" refl
    ∷ keep 23 ((60 ≔ "781023456779") ∷ []) 101 "01 02 03 04 05 08 13 15 16 17 19 20 23 24 27 28 29 31 32 33" refl
    ∷ break 23 ((60 ≔ "781023456779") ∷ []) 101 "06 07 30" refl
    ∷ break 23 ((60 ≔ "7722222222") ∷ []) 101 "01 06 07 17 30 32" refl
    ∷ break 23 ((60 ≔ "781023456789") ∷ []) 101 "01 06 07 17 30 32" refl
    ∷ break 24 ((60 ≔ "0") ∷ []) 101 "13" refl
    ∷ keep 24 ((60 ≔ "0") ∷ []) 101 "01 02 03 04 05 06 07 08 15 16 17 19 20 23 24 27 28 29 30 31 32 33" refl
    ∷ break 24 ((101 ≔ "13") ∷ []) 60 "0 12345 7722222222 781023456789" refl
    ∷ keep 24 ((101 ≔ "13") ∷ []) 60 "7701569743 781023456779" refl
    ∷ keep 24 ((101 ≔ "13") ∷ (60 ≔ "12345") ∷ []) 22 "12345678901234567890 1234567890123456789012345" refl
    -- 25: a person identifier, or "0" with a 12-digit INN or a UIN
    ∷ break 25 [] 101 "03 19 20 24" refl
    ∷ keep 25 [] 101 "01 02 04 05 06 07 08 13 15 16 17 23 27 28 29 30 31 32 33" refl
    ∷ keep 25 ((101 ≔ "24") ∷ []) 108 "01;1 02;1 03;1 04;1 05;1 06;1 07;1 08;1 09;1 10;1 11;1 12;1 13;1 14;1" refl
    ∷ keep 25 ((101 ≔ "24") ∷ []) 108 "22;1 24;1 25;1 26;1 28;1 29;1 30;1" refl
    ∷ break 25 ((101 ≔ "24") ∷ []) 108 "1 00 15;1 00;1 01; 123;4" refl
    ∷ break 25 ((101 ≔ "24") ∷ []) 60 "0 12345 7701569743 781023456789" refl
    ∷ keep 25 ((101 ≔ "24") ∷ []) 60 "781023456779" refl
    ∷ keep 25 ((101 ≔ "24") ∷ []) 22 "12345678901234567890 1234567890123456789012345" refl
    ∷ break 25 (to03212 ∷ (101 ≔ "24") ∷ []) 22 "1234" refl
    ∷ break 25 (uin ∷ (60 ≔ "781023456779") ∷ (101 ≔ "24") ∷ []) 108 "1 00 123;4" refl
    ∷ break 26 ((108 ≔ "1") ∷ []) 101 "31 33" refl
    ∷ keep 26 ((108 ≔ "1") ∷ []) 101 "01 02 03 04 05 06 07 08 13 15 16 17 19 20 23 24 27 28 29 30 32" refl
    ∷ keep 26 ((101 ≔ "31") ∷ []) 108 "0" refl
    ∷ break 26 ((101 ≔ "31") ∷ []) 108 "1 00 01;1" refl
    -- 27: 102 by the digits of 60
    ∷ keep 27 ((102 ≔ "0") ∷ []) 101 "01" refl
    ∷ break 27 ((102 ≔ "0") ∷ []) 101 "02 03 04 05 06 07 08 13 15 16 17 19 20 23 24 27 28 29 30 31 32 33" refl
    ∷ keep 27 ((102 ≔ "0") ∷ []) 60 "0 781023456779 781023456789" refl
    ∷ break 27 ((102 ≔ "0") ∷ []) 60 "12345" refl
    ∷ keep 27 [] 60 "0 12345 7701569743" refl
    ∷ break 27 [] 60 "781023456779 781023456789" refl
    ∷ break 27 ((101 ≔ "08") ∷ (102 ≔ "0") ∷ []) 60 "7701569743 7722222222" refl
    ∷ break 28 ((104 ≔ "0") ∷ []) 17 "03100643000000014800" refl
    ∷ keep 28 ((104 ≔ "0") ∷ []) 17 "03212643000000014800 03222643000000014800 03232643000000014800 03242643000000014800" refl
    ∷ keep 28 ((104 ≔ "0") ∷ []) 17 "03252643000000014800 03262643000000014800 03272643000000014800 03214643000000014800" refl
    ∷ keep 28 ((104 ≔ "0") ∷ []) 17 "03224643000000014800 03234643000000014800 03244643000000014800" refl
    ∷ keep 28 in_b 104 "0" refl
    -- 29, 30, 31: the customs group and the others
    ∷ keep 29 ((106 ≔ "00") ∷ []) 101 "06 07 16 17 28 30 32" refl
    ∷ break 29 ((106 ≔ "00") ∷ []) 101 "01 02 03 04 05 08 13 15 19 20 23 24 27 29 31 33" refl
    ∷ keep 29 [] 106 "0" refl
    ∷ break 29 [] 106 "00 УВ ИЛ ПБ ТГ ТБ ТД ПВ ИН ПК КЭ" refl
    ∷ keep 29 customs 106 "0 00 УВ ИЛ ПБ ТГ ТБ ТД ПВ ИН ПК КЭ" refl
    ∷ keep 30 ((107 ≔ "10000000") ∷ []) 101 "06 07 16 17 28 30 32" refl
    ∷ break 30 ((107 ≔ "10000000") ∷ []) 101 "01 02 03 04 05 08 13 15 19 20 23 24 27 29 31 33" refl
    ∷ break 30 ((107 ≔ "0") ∷ []) 101 "06 07 16 17 28 30 32" refl
    ∷ keep 30 ((107 ≔ "0") ∷ []) 101 "01 02 03 04 05 08 13 15 19 20 23 24 27 29 31 33" refl
    ∷ keep 31 ((109 ≔ "00") ∷ []) 101 "06 07 16 17 28 30 32" refl
    ∷ break 31 ((109 ≔ "00") ∷ []) 101 "01 02 03 04 05 08 13 15 19 20 23 24 27 29 31 33" refl
    ∷ keep 31 [] 109 "0" refl
    ∷ break 31 [] 109 "00 01.01.2024" refl
    -- 32, 33, 34: 108 and 109 by 106
    ∷ break 32 [] 106 "УВ ИЛ ПБ ТГ ТБ ТД ПВ ИН ПК КЭ" refl
    ∷ keep 32 [] 106 "0 00" refl
    ∷ keep 32 ((106 ≔ "ТД") ∷ []) 108 "1 00" refl
    ∷ keep 33 ((106 ≔ "00") ∷ []) 108 "00" refl
    ∷ break 33 ((106 ≔ "00") ∷ []) 108 "0 000 1" refl
    ∷ keep 33 [] 106 "0 УВ ИЛ ПБ ТГ ТБ ТД ПВ ИН ПК КЭ" refl
    ∷ keep 34 ((106 ≔ "00") ∷ []) 109 "00" refl
    ∷ break 34 ((106 ≔ "00") ∷ []) 109 "0 01.01.2024" refl
    ∷ break 34 ((109 ≔ "00") ∷ []) 106 "0 УВ ИЛ ПБ ТГ ТБ ТД ПВ ИН ПК КЭ" refl
    ∷ keep 34 ((106 ≔ "0") ∷ []) 109 "0 01.01.2024" refl
    ∷ keep 34 ((106 ≔ "ТД") ∷ []) 109 "0 01.01.2024" refl
    ∷ break 35 ((108 ≔ "14;12345678900") ∷ []) 101 "01 02 03 04 05 06 07 08 13 15 16 17 19 20 23 24 27 28 29 30 31 32 33" refl
    ∷ keep 35 ((108 ≔ "14;12345678964") ∷ []) 101 "01 02 03 04 05 06 07 08 13 15 16 17 19 20 23 24 27 28 29 30 31 32 33" refl
    ∷ []

-- ---- "Bytes in hexadecimal: У D3, В C2, И C8, Л CB, П CF, Б C1, Т D2, Г C3, Д C4, Н CD, К CA, Э DD"

letters : bytes "УВИЛПБТГДНКЭ" ≡ 0xD3 ∷ 0xC2 ∷ 0xC8 ∷ 0xCB ∷ 0xCF ∷ 0xC1 ∷ 0xD2 ∷ 0xC3 ∷ 0xC4 ∷ 0xCD ∷ 0xCA ∷ 0xDD ∷ []
letters = refl

-- ---- "the rest is for A and B": each rule that class B can break

rules_of_b : List Line
unfolding answer varied in_b
rules_of_b =
    sheet (in_b ++ ((61 ≔ "") ∷ [])) (broken 61 6) refl
    ∷ break 7 in_b 22 "1234" refl
    ∷ break 8 in_b 60 "1 00000" refl
    ∷ break 9 in_b 61 "0 12345" refl
    ∷ break 10 in_b 101 "02 99" refl
    ∷ break 11 in_b 102 "1" refl
    ∷ break 12 in_b 103 "0" refl
    ∷ break 13 in_b 104 "1" refl
    ∷ break 14 in_b 105 "1" refl
    ∷ break 15 in_b 106 "1" refl
    ∷ break 16 in_b 107 "1" refl
    ∷ break 17 in_b 108 "-" refl
    ∷ break 18 in_b 109 "1" refl
    ∷ break 21 in_b 101 "31 33" refl
    ∷ break 23 in_b 60 "0" refl
    ∷ break 24 (in_b ++ ((60 ≔ "0") ∷ [])) 101 "13" refl
    ∷ break 25 in_b 101 "03 19 20 24" refl
    ∷ break 26 (in_b ++ ((108 ≔ "1") ∷ [])) 101 "31 33" refl
    ∷ break 27 (in_b ++ ((102 ≔ "0") ∷ [])) 101 "08" refl
    ∷ break 29 in_b 106 "00" refl
    ∷ break 30 in_b 107 "10000000" refl
    ∷ break 31 in_b 109 "00" refl
    ∷ break 32 in_b 106 "ТД" refl
    ∷ break 33 in_b 106 "00" refl
    ∷ break 34 in_b 109 "00" refl
    ∷ break 35 in_b 108 "14;12345678900" refl
    ∷ []
