-- R-7: each of the eight lists, at dates on both sides of each end, and what 12 refuses, shown true of the definitions by computation; the program's list is
-- document 01's.
use Rattle.std.specs.Prelude.{◌≡◌, refl, Bool, true, false, List, [], ◌∷◌, map, ℕ}
use Rattle.texts.specs.Quoted.{words}
use Rattle.sheets.specs.Dates.{dates_fit, status_texts, program_dates}
use Rattle.sheets.specs.Working.Computing.{sheets_computing}
use Rattle.sheets.specs.declared.dates.Dates.{Dates}

-- the order's date; the first for 32, the first for 33, the last for 02
abbrev pub dates_of : ℕ → ℕ → ℕ → ℕ → Dates
dates_of n a b c = record { order = record { 0 = n }; first32 = record { 0 = a }; first33 = record { 0 = b }; last02 = record { 0 = c } }

-- with the record that R-7 gives
abbrev pub given : ℕ → Dates
given n = dates_of n 20231001 20240101 20231231

-- "The program uses 20240101 and 20231001, 20240101, 20231231"
program : (program_dates.order.0 ∷ program_dates.first32.0 ∷ program_dates.first33.0 ∷ program_dates.last02.0 ∷ []) ≡ 20240101 ∷ 20231001 ∷ 20240101 ∷ 20231231 ∷ []
program = refl

pub programs : status_texts program_dates ≡ words "01 03 04 05 06 07 08 13 15 16 17 19 20 23 24 27 28 29 30 31 32 33"
unfolding sheets_computing
programs = refl

lists : map status_texts (given 20230930 ∷ given 20231001 ∷ given 20231231 ∷ given 20240101 ∷ dates_of 20240101 20240101 20240101 20240101 ∷ dates_of 20240101 20240102 20240102 20231231 ∷ dates_of 20240101 20240102 20240101 20231231 ∷ dates_of 20240101 20240102 20240101 20240101 ∷ dates_of 20240101 20240101 20240102 20231231 ∷ [])
    ≡ words "01 02 03 04 05 06 07 08 13 15 16 17 19 20 23 24 27 28 29 30 31"
    ∷ words "01 02 03 04 05 06 07 08 13 15 16 17 19 20 23 24 27 28 29 30 31 32"
    ∷ words "01 02 03 04 05 06 07 08 13 15 16 17 19 20 23 24 27 28 29 30 31 32"
    ∷ words "01 03 04 05 06 07 08 13 15 16 17 19 20 23 24 27 28 29 30 31 32 33"
    ∷ words "01 02 03 04 05 06 07 08 13 15 16 17 19 20 23 24 27 28 29 30 31 32 33"
    ∷ words "01 03 04 05 06 07 08 13 15 16 17 19 20 23 24 27 28 29 30 31"
    ∷ words "01 03 04 05 06 07 08 13 15 16 17 19 20 23 24 27 28 29 30 31 33"
    ∷ words "01 02 03 04 05 06 07 08 13 15 16 17 19 20 23 24 27 28 29 30 31 33"
    ∷ words "01 03 04 05 06 07 08 13 15 16 17 19 20 23 24 27 28 29 30 31 32"
    ∷ []
unfolding sheets_computing
lists = refl

pub program-fits : dates_fit program_dates ≡ true
unfolding sheets_computing
program-fits = refl

fits : map dates_fit (given 20230925 ∷ given 20991231 ∷ given 20240229 ∷ dates_of 20240101 19000101 20991231 20000229 ∷ []) ≡ true ∷ true ∷ true ∷ true ∷ []
unfolding sheets_computing
fits = refl

unfit : map dates_fit (
    given 0
    ∷ given 20230924
    ∷ given 20230931
    ∷ given 20231200
    ∷ given 20231301
    ∷ given 20240230
    ∷ given 21000101
    ∷ given 202401010
    ∷ given 4294967295
    ∷ dates_of 20240101 20230229 20240101 20231231
    ∷ dates_of 20240101 20231001 19000229 20231231
    ∷ dates_of 20240101 20231001 20240101 20231232
    ∷ []
    )
    ≡ false ∷ false ∷ false ∷ false ∷ false ∷ false ∷ false ∷ false ∷ false ∷ false ∷ false ∷ false ∷ []
unfolding sheets_computing
unfit = refl
