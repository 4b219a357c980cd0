-- The forms of texts that several rules ask for.
use Rattle.std.specs.Prelude.{Bool, not, cond, ◌&&◌, ◌||◌, List, [], ◌∷◌, ℕ, ◌%◌, leb, ltb, eqb, length, get_or}
use Rattle.texts.specs.Quoted.{Text}
use Rattle.texts.specs.Texts.{every, among, between, ◌is◌, ◌is_one_of◌, ◌begins◌, ◌begins_one_of◌, digit, digits, digits_not_zero, digits_not_00, value_of, number, weighted}
use Rattle.sheets.specs.Lists.{bank_a, accounts_a, banks_b, account_b, accounts_b, letter_pairs, person_types}

infixr 25 ◌⇒◌
-- if the first, then the second
abbrev pub ◌⇒◌ : Bool → Bool → Bool
a ⇒ b = not a || b

-- 14: "nine digits"; 15, 17: "20 digits"
abbrev pub bik : Text → Bool
bik t = digits 9 t

abbrev pub account : Text → Bool
account t = digits 20 t

-- "A: 15 begins 40102 and 17 begins 03100, .."
abbrev pub of_class_a : Text → Text → Bool
of_class_a t15 t17 = t15 begins bank_a && t17 begins_one_of accounts_a

-- "B: digits 7 to 9 of 14 are 000 to 005, and 17 begins 40204, or begins 40503, 40603 or 40703 with its 14th digit .. being 4"
abbrev pub of_class_b : Text → Text → Bool
of_class_b t14 t17 = between t14 6 9 is_one_of banks_b && (t17 begins account_b || (t17 begins_one_of accounts_b && between t17 13 14 is "4"))

-- 17: "digits 6 to 8 are 643", the code of the rouble
abbrev pub home : Text → Bool
home t = between t 5 8 is "643"

-- 22: "20 or 25 digits not all zero (a UIN)"; "four digits not all zero"
abbrev pub uin : Text → Bool
uin t = digits_not_zero 20 t || digits_not_zero 25 t

abbrev pub code4 : Text → Bool
code4 t = digits_not_zero 4 t

-- 60: "5 digits not all zero (a foreign code); 10 or 12 digits not beginning 00 (an INN)"
abbrev pub foreign_code : Text → Bool
foreign_code t = digits_not_zero 5 t

-- the check digits of an INN (R-4): "weights 2 4 10 3 5 9 4 6 8 over the first nine, sum modulo 11 modulo 10, is the tenth"; "weights
-- 7 2 4 10 3 5 9 4 6 8 give the eleventh, then 3 7 2 4 10 3 5 9 4 6 8 give the twelfth"
abbrev pub weights10 : List ℕ
weights10 = 2 ∷ 4 ∷ 10 ∷ 3 ∷ 5 ∷ 9 ∷ 4 ∷ 6 ∷ 8 ∷ []

abbrev pub weights11 : List ℕ
weights11 = 7 ∷ 2 ∷ 4 ∷ 10 ∷ 3 ∷ 5 ∷ 9 ∷ 4 ∷ 6 ∷ 8 ∷ []

abbrev pub weights12 : List ℕ
weights12 = 3 ∷ 7 ∷ 2 ∷ 4 ∷ 10 ∷ 3 ∷ 5 ∷ 9 ∷ 4 ∷ 6 ∷ 8 ∷ []

-- the digit behind those that have a weight is the one that they give
unfoldable pub check_digit : List ℕ → Text → Bool
check_digit ws t = eqb (value_of (get_or t (length ws) 0)) (weighted ws t % 11 % 10)

abbrev pub inn10 : Text → Bool
inn10 t = digits_not_00 10 t && check_digit weights10 t

abbrev pub inn12 : Text → Bool
inn12 t = digits_not_00 12 t && (check_digit weights11 t && check_digit weights12 t)

abbrev pub inn : Text → Bool
inn t = inn10 t || inn12 t

-- rule 27: "60 of 12 digits; of 5; of 10"
abbrev pub digits5 : Text → Bool
digits5 t = digits 5 t

abbrev pub digits10 : Text → Bool
digits10 t = digits 10 t

abbrev pub digits12 : Text → Bool
digits12 t = digits 12 t

-- 102, 103: "nine digits not beginning 00"; of the places 5 and 6, counted from 1: "A" to "Z" there besides digits (R-2)
abbrev pub digit_or_capital : ℕ → Bool
digit_or_capital b = digit b || (leb 65 b && leb b 90)

abbrev pub kpp : Text → Bool
kpp t =
    (eqb (length t) 9 && not (t begins "00"))
    && (digits 4 (between t 0 4) && ((digit_or_capital (get_or t 4 0) && digit_or_capital (get_or t 5 0)) && digits 3 (between t 6 9)))

-- 104: "20 digits not all zero"; 105: "8 digits not all zero"; 107: "8 digits"
abbrev pub kbk : Text → Bool
kbk t = digits_not_zero 20 t

abbrev pub oktmo : Text → Bool
oktmo t = digits_not_zero 8 t

abbrev pub office : Text → Bool
office t = digits 8 t

abbrev pub letter_pair : Text → Bool
letter_pair t = t is_one_of letter_pairs

-- 108: "a person identifier: two digits of 01 to 14, 22, 24, 25, 26, 28, 29, 30, then ";", then at least one byte"
unfoldable pub person : Text → Bool
person t = (between t 0 2 is_one_of person_types && between t 2 3 is ";") && leb 4 (length t)

-- "each 33 to 126 or 192 to 255 and not 45 (the hyphen)"
abbrev pub allowed : ℕ → Bool
allowed b = ((leb 33 b && leb b 126) || (leb 192 b && leb b 255)) && not (eqb b 45)

-- rule 17 of a text: "1 to 15 bytes, each ..; if the third is ";", it must be a person identifier"
unfoldable pub document : Text → Bool
document t = ((leb 1 (length t) && leb (length t) 15) && every allowed t) && (between t 2 3 is ";" ⇒ person t)

-- a pension number (R-1): "exactly 11 digits ..; where the first nine digits read as a number above 1001998, the last two must equal the
-- sum of the nine digits times 9, 8, down to 1, modulo 101, with 100 written 00"
abbrev pub snils_bound : ℕ
snils_bound = 1001998

abbrev pub snils_weights : List ℕ
snils_weights = 9 ∷ 8 ∷ 7 ∷ 6 ∷ 5 ∷ 4 ∷ 3 ∷ 2 ∷ 1 ∷ []

unfoldable pub snils_check : Text → ℕ
snils_check t = cond (eqb (weighted snils_weights t % 101) 100) 0 (weighted snils_weights t % 101)

unfoldable pub snils : Text → Bool
snils t =
    digits 11 t
    && (ltb snils_bound (number 9 (between t 0 9)) ⇒ eqb (number 2 (between t 9 11)) (snils_check (between t 0 9)))

-- rule 35 of a text: "an identifier of type 14 has exactly 11 digits after the ";" .."
unfoldable pub pension : Text → Bool
pension t = t begins "14;" ⇒ snils (between t 3 25)

-- 109: "DD.MM.YYYY, a Gregorian date of the years 1900 to 2099"
unfoldable pub leap : ℕ → Bool
leap y = eqb (y % 4) 0 && (not (eqb (y % 100) 0) || eqb (y % 400) 0)

unfoldable pub month_days : ℕ → ℕ → ℕ
month_days m y = cond (among m (4 ∷ 6 ∷ 9 ∷ 11 ∷ [])) 30 (cond (eqb m 2) (cond (leap y) 29 28) 31)

unfoldable pub gregorian : ℕ → ℕ → ℕ → Bool
gregorian d m y = ((leb 1900 y && leb y 2099) && (leb 1 m && leb m 12)) && (leb 1 d && leb d (month_days m y))

-- what is not digits has a number that no day, month or year has
unfoldable pub date : Text → Bool
date t =
    (eqb (length t) 10 && (between t 2 3 is "." && between t 5 6 is "."))
    && gregorian (number 2 (between t 0 2)) (number 2 (between t 3 5)) (number 4 (between t 6 10))
