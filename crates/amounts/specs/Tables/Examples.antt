-- The worked answers of R-10 and R-11 as tables, shown true of the definitions by computation.
use Rattle.std.specs.Prelude.{◌≡◌, refl, List, [], ◌∷◌, ◌++◌, map, ℕ, replicate}
use Rattle.texts.specs.Texts.{every}
use Rattle.texts.specs.Answers.{Answer, success, refusal}
use Rattle.amounts.specs.Amount.{most_kopecks}
use Rattle.amounts.specs.Charge.{charge_tests, charging}
use Rattle.amounts.specs.Part.{part_tests, parting}
use Rattle.amounts.specs.Shares.{places_of, share_tests, sharing, shared_to}

-- amount, rate, least, greatest
abbrev Arguments : Type 0
Arguments = ℕ × ℕ × ℕ × ℕ

charge_of : Arguments → Answer
charge_of x = charging x.0 x.1 x.2 x.3

-- with no limit that lowers or raises: the rate, the amount, the charge
free : List (Arguments × Answer)
free =
    map (λ (x : ℕ × ℕ × ℕ). ((x.0, x.1, 0, most_kopecks), success (x.2 ∷ [])))
    ((1, 5000, 1)
    ∷ (1, 4999, 0)
    ∷ (3, 5000, 2)
    ∷ (100, 149, 1)
    ∷ (100, 150, 2)
    ∷ (100, 0, 0)
    ∷ (9999, 10000, 9999)
    ∷ (most_kopecks, 10000, most_kopecks)
    ∷ (999999999999, 5000, 500000000000)
    ∷ (999999999999, 4999, 499900000000)
    ∷ [])

limits : List (Arguments × Answer)
limits =
    ((most_kopecks, 10000, 0, 5), success (5 ∷ []))
    ∷ ((100, 0, 3, 9), success (3 ∷ []))
    ∷ ((100, 1, 7, 7), success (7 ∷ []))
    ∷ ((100, 10000, 0, 0), success (0 ∷ []))
    ∷ ((100, 400, 4, 9), success (4 ∷ []))
    ∷ ((100, 900, 4, 9), success (9 ∷ []))
    ∷ ((100, 500, 4, 9), success (5 ∷ []))
    ∷ ((1, 1, most_kopecks, most_kopecks), success (most_kopecks ∷ []))
    ∷ []

refused : List (Arguments × Answer)
refused =
    map (λ (x : Arguments). (x, refusal 14 []))
    ((0, 5000, 0, most_kopecks)
    ∷ (1000000000001, 5000, 0, most_kopecks)
    ∷ (100, 10001, 0, most_kopecks)
    ∷ (100, 5000, 1, 0)
    ∷ (100, 5000, 0, 1000000000001)
    ∷ (100, 5000, 1000000000001, 1000000000001)
    ∷ (100, 5000, 1000000000001, most_kopecks)
    ∷ (18446744073709551615, 18446744073709551615, 18446744073709551615, 18446744073709551615)
    ∷ [])

table : List (Arguments × Answer)
table = free ++ (limits ++ refused)

charges : map (λ (e : Arguments × Answer). charge_of e.0) table ≡ map (λ (e : Arguments × Answer). e.1) table
unfolding charge_of charging charge_tests table free limits refused
charges = refl

-- ---- R-11: amount, days, year length

abbrev PartArguments : Type 0
PartArguments = ℕ × ℕ × ℕ

part_of : PartArguments → Answer
part_of x = parting x.0 x.1 x.2

parts : List (PartArguments × Answer)
parts =
    ((1000, 31, 365), success (84 ∷ 340 ∷ []))
    ∷ ((1000, 31, 366), success (84 ∷ 256 ∷ []))
    ∷ ((most_kopecks, 1, 365), success (2739726027 ∷ 145 ∷ []))
    ∷ ((1, 366, 366), success (1 ∷ 0 ∷ []))
    ∷ ((1, 365, 365), success (1 ∷ 0 ∷ []))
    ∷ ((1, 1, 366), success (0 ∷ 1 ∷ []))
    ∷ ((most_kopecks, 366, 366), success (most_kopecks ∷ 0 ∷ []))
    ∷ map (λ (x : PartArguments). (x, refusal 15 []))
    ((1000, 31, 364)
    ∷ (1000, 31, 367)
    ∷ (1000, 31, 0)
    ∷ (1000, 0, 365)
    ∷ (1000, 366, 365)
    ∷ (1000, 367, 366)
    ∷ (0, 31, 365)
    ∷ (1000000000001, 31, 365)
    ∷ (18446744073709551615, 4294967295, 4294967295)
    ∷ [])

parts_right : map (λ (e : PartArguments × Answer). part_of e.0) parts ≡ map (λ (e : PartArguments × Answer). e.1) parts
unfolding part_of parting part_tests parts
parts_right = refl

-- ---- amount, year length, periods; the places afterwards, all of which held 9

abbrev ShareArguments : Type 0
ShareArguments = ℕ × ℕ × List ℕ

nines : List ℕ
nines = replicate 12 9

share_of : ShareArguments → Answer × List ℕ
share_of x = (sharing x.0 x.1 x.2, shared_to x.0 x.1 x.2 nines)

months : List ℕ
months = 31 ∷ 28 ∷ 31 ∷ 30 ∷ 31 ∷ 30 ∷ 31 ∷ 31 ∷ 30 ∷ 31 ∷ 30 ∷ 31 ∷ []

shares : List (ShareArguments × List ℕ)
shares =
    ((1000, 365, months), 84 ∷ 77 ∷ 85 ∷ 82 ∷ 85 ∷ 82 ∷ 85 ∷ 85 ∷ 82 ∷ 85 ∷ 83 ∷ 85 ∷ [])
    ∷ ((1, 365, 365 ∷ []), 1 ∷ replicate 11 0)
    ∷ ((5, 365, 364 ∷ 1 ∷ []), 4 ∷ 1 ∷ replicate 10 0)
    ∷ ((5, 366, 183 ∷ 183 ∷ []), 2 ∷ 3 ∷ replicate 10 0)
    ∷ ((1, 365, replicate 11 1 ++ (354 ∷ [])), replicate 11 0 ++ (1 ∷ []))
    ∷ ((most_kopecks, 366, 1 ∷ 365 ∷ []), 2732240437 ∷ 997267759563 ∷ replicate 10 0)
    ∷ []

-- those that are refused, and leave the places as they were
unshared : List ShareArguments
unshared =
    (1000, 364, 364 ∷ [])
    ∷ (1000, 367, 367 ∷ [])
    ∷ (1000, 365, [])
    ∷ (1000, 365, replicate 12 1 ++ (353 ∷ []))
    ∷ (1000, 365, 0 ∷ 365 ∷ [])
    ∷ (1000, 365, 365 ∷ 0 ∷ [])
    ∷ (1000, 365, 364 ∷ [])
    ∷ (1000, 365, 365 ∷ 1 ∷ [])
    ∷ (1000, 365, 4294967295 ∷ 366 ∷ [])
    ∷ (0, 365, months)
    ∷ (1000000000001, 365, months)
    ∷ []

shares_right : map (λ (e : ShareArguments × List ℕ). share_of e.0) shares ≡ map (λ (e : ShareArguments × List ℕ). (success [], e.1)) shares
unfolding share_of sharing shared_to share_tests places_of shares months every nines
shares_right = refl

unshared_right : map share_of unshared ≡ map (λ (x : ShareArguments). (refusal 15 [], nines)) unshared
unfolding share_of sharing shared_to share_tests places_of unshared months every nines
unshared_right = refl
