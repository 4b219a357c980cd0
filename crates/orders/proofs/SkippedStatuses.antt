-- R-14 in examples: the count and how many statuses are skipped, by the search through the picks.
use mathlib.Core.Path.{◌≡◌, refl, sym, ap, ◌∙◌}
use mathlib.Core.Bool.{Bool, true}
use mathlib.Core.List.{List, [], ◌∷◌, map}
use Prim.Native.Nat.{ℕ, ◌+◌}
use Prim.Native.String.{String}
use native.Mathlib.Omega.{arith}
use borrow.Author.Tests.{eqb-true}
use lib.Dec.{eqb}
use lib.ListN.{length, get_or}
use Rattle.texts.specs.Texts.{every, blank}
use Rattle.texts.proofs.Bools.{both}
use Rattle.sheets.specs.Sheet.{text_of}
use Rattle.sheets.specs.Dates.{status_count, program_dates}
use Rattle.sheets.specs.declared.dates.Dates.{Dates}
use Rattle.sheets.specs.Working.Entries.{filled_at}
use Rattle.sheets.specs.Tables.DatesTable.{dates_of, given}
use Rattle.rules.specs.Rules.{field_of, first_not}
use Rattle.rules.specs.Working.Computing.{rules_computing}
use Rattle.fillings.specs.Fillings.{width, Look, found, none, look}
use Rattle.fillings.specs.Fillings as of
use Rattle.fillings.specs.Filled.{tally}
use Rattle.fillings.specs.Working.Places.{places}
use Rattle.fillings.specs.Working.Parts.{map_look}
use Rattle.fillings.proofs.Looking.{none-look}
use Rattle.orders.specs.Fillings.{list_of, first_filling}
use Rattle.orders.specs.Complete.{counted}
use Rattle.orders.specs.Pretest.{broken_by_all}
use Rattle.orders.specs.Skipping.{skipped_of, AreSkipped}
use Rattle.orders.specs.Working.Entering.{base_of, picked_of}
use Rattle.orders.specs.Working.Search.{passes_at, picks, first_pick}
use Rattle.orders.specs.Working.Quick.{skips}
use Rattle.orders.proofs.Keeping.{first-is}
use Rattle.orders.proofs.Passing.{broken-fixed}
use Rattle.orders.proofs.Skipping.{skipped-none, skipped-found}
use Rattle.orders.proofs.Counts.{sheet, ahead1, ahead-is}

abbrev pair : ℕ → ℕ → ℕ × ℕ
pair n k = (n, k)

abbrev answered : Dates → List ℕ → ℕ × ℕ
answered D s = (counted (first_filling D s), skipped_of D s)

-- the count and the number, by what the search through the picks finds
abbrev by-look : (ℕ → Bool) → ℕ → Look (List ℕ) → ℕ × ℕ
by-look p w (found n q) = (n, tally p (places (get_or q 0 0 + 1) 0))
by-look p w (none n) = (n, tally p (places w 0))

abbrev wide_of : Dates → List ℕ → ℕ
wide_of D s = width (blank (text_of (base_of s) 6)) (status_count D)

by-picks : (D : Dates) (s : List ℕ) → length s ≡ 390 → (l : Look (List ℕ)) → first_pick D (base_of s) ≡ l → answered D s ≡ by-look (skips D (base_of s)) (wide_of D s) l
by-picks D s size (found n q) e = λ i. (ap counted (first-is D s size ∙ ap (map_look (picked_of D (base_of s))) e) i, sym (skipped-found D s size n q e) i)
by-picks D s size (none n) e = λ i. (ap counted (first-is D s size ∙ ap (map_look (picked_of D (base_of s))) e) i, sym (skipped-none D s size n e) i)

-- dates, a sheet, and the count with the number
abbrev Example : Type 0
Example = Dates × String × ℕ × ℕ

examples-1 : List Example
examples-1 =
    -- S; with 22, 101, 105 to 109 blank; with these blank and 60 and 102 "0": 01 fails by 23, and 03, by 25, is tried; on a day of 02
    (given 20240101, "004525987 40102810845370000004 03100643000000014800 0 7701569743 6730054024 01 770301001 772801001 18201061201010000510 0 0 0 0 0", 1, 0)
    ∷ (given 20240101, "004525987 40102810845370000004 03100643000000014800  7701569743 6730054024  770301001 772801001 18201061201010000510     ", 1, 0)
    ∷ (given 20240101, "004525987 40102810845370000004 03100643000000014800  0 6730054024  0 772801001 18201061201010000510     ", 97, 1)
    ∷ (given 20231015, "004525987 40102810845370000004 03100643000000014800  0 6730054024  0 772801001 18201061201010000510     ", 49, 1)
    ∷ []

examples-2 : List Example
examples-2 =
    -- S with 101, 106, 108 and 109 blank and 107 10000000
    (given 20240101, "004525987 40102810845370000004 03100643000000014800 0 7701569743 6730054024  770301001 772801001 18201061201010000510 0  10000000  ", 193, 4)
    ∷ []

examples-3 : List Example
examples-3 =
    (given 20231015, "004525987 40102810845370000004 03100643000000014800 0 7701569743 6730054024  770301001 772801001 18201061201010000510 0  10000000  ", 241, 5)
    ∷ []

examples-4 : List Example
examples-4 =
    -- S with 101 blank and 17 03222643000000014800
    (given 20240101, "004525987 40102810845370000004 03222643000000014800 0 7701569743 6730054024  770301001 772801001 18201061201010000510 0 0 0 0 0", 4, 2)
    ∷ (given 20231231, "004525987 40102810845370000004 03222643000000014800 0 7701569743 6730054024  770301001 772801001 18201061201010000510 0 0 0 0 0", 5, 3)
    ∷ (dates_of 20230925 20240101 20240101 20230924, "004525987 40102810845370000004 03222643000000014800 0 7701569743 6730054024  770301001 772801001 18201061201010000510 0 0 0 0 0", 4, 2)
    -- S with 101 blank and 102 "0"; and 60 "0"
    ∷ (given 20240101, "004525987 40102810845370000004 03100643000000014800 0 7701569743 6730054024  0 772801001 18201061201010000510 0 0 0 0 0", 1, 0)
    ∷ (given 20240101, "004525987 40102810845370000004 03100643000000014800 0 0 6730054024  0 772801001 18201061201010000510 0 0 0 0 0", 3, 1)
    ∷ (given 20231231, "004525987 40102810845370000004 03100643000000014800 0 0 6730054024  0 772801001 18201061201010000510 0 0 0 0 0", 2, 1)
    ∷ []

examples-5 : List Example
examples-5 =
    -- a given 101 is the only one: 31, 99, 02 after its end; 103 blank; 109 no date, which no skipped rule reads
    (given 20240101, "004525987 40102810845370000004 03100643000000014800 0 7701569743 6730054024 31 770301001 772801001 18201061201010000510 0 0 0 0 0", 1, 1)
    ∷ (given 20240101, "004525987 40102810845370000004 03100643000000014800 0 7701569743 6730054024 99 770301001 772801001 18201061201010000510 0 0 0 0 0", 1, 1)
    ∷ (given 20240101, "004525987 40102810845370000004 03100643000000014800 0 7701569743 6730054024 02 770301001 772801001 18201061201010000510 0 0 0 0 0", 1, 1)
    ∷ (given 20240101, "004525987 40102810845370000004 03100643000000014800 0 7701569743 6730054024 01 770301001  18201061201010000510 0 0 0 0 0", 1, 1)
    ∷ (given 20240101, "004525987 40102810845370000004 03100643000000014800 0 7701569743 6730054024 01 770301001 772801001 18201061201010000510 0 0 0 0 29.02.2024", 1, 0)
    ∷ []

examples-6 : List Example
examples-6 =
    -- S with 101 blank and 61 blank; a wrong digit in 60; 108 of no form; a pension number that can't exist
    (given 20240101, "004525987 40102810845370000004 03100643000000014800 0 7701569743   770301001 772801001 18201061201010000510 0 0 0 0 0", 22, 22)
    ∷ (given 20240101, "004525987 40102810845370000004 03100643000000014800 0 7722222222 6730054024  770301001 772801001 18201061201010000510 0 0 0 0 0", 22, 22)
    ∷ (given 20240101, "004525987 40102810845370000004 03100643000000014800 0 7701569743 6730054024  770301001 772801001 18201061201010000510 0 0 0 1-2 0", 22, 9)
    ∷ (given 20240101, "004525987 40102810845370000004 03100643000000014800 0 7701569743 6730054024  770301001 772801001 18201061201010000510 0 0 0 14;12345678900 0", 22, 9)
    ∷ []

shown-all : (es : List Example) → every (λ (e : Example). eqb (length (sheet e.1)) 390) es ≡ true
    → map (λ (e : Example). answered e.0 (sheet e.1)) es
    ≡ map (λ (e : Example). by-look (skips e.0 (base_of (sheet e.1))) (wide_of e.0 (sheet e.1)) (first_pick e.0 (base_of (sheet e.1)))) es
unfolding every
shown-all [] h = refl
shown-all (e ∷ es) h =
    let p = both (eqb (length (sheet e.1)) 390) (every (λ (x : Example). eqb (length (sheet x.1)) 390) es) h in
    λ i. by-picks e.0 (sheet e.1) (eqb-true (length (sheet e.1)) 390 p.0) (first_pick e.0 (base_of (sheet e.1))) refl i ∷ shown-all es p.1 i

shown-1 : map (λ (e : Example). answered e.0 (sheet e.1)) examples-1 ≡ map (λ (e : Example). pair e.2 e.3) examples-1
unfolding examples-1 sheet every look filled_at passes_at places picks first_pick base_of picked_of skips rules_computing
shown-1 = shown-all examples-1 refl

shown-2 : map (λ (e : Example). answered e.0 (sheet e.1)) examples-2 ≡ map (λ (e : Example). pair e.2 e.3) examples-2
unfolding examples-2 sheet every look filled_at passes_at places picks first_pick base_of picked_of skips rules_computing
shown-2 = shown-all examples-2 refl

shown-3 : map (λ (e : Example). answered e.0 (sheet e.1)) examples-3 ≡ map (λ (e : Example). pair e.2 e.3) examples-3
unfolding examples-3 sheet every look filled_at passes_at places picks first_pick base_of picked_of skips rules_computing
shown-3 = shown-all examples-3 refl

shown-4 : map (λ (e : Example). answered e.0 (sheet e.1)) examples-4 ≡ map (λ (e : Example). pair e.2 e.3) examples-4
unfolding examples-4 sheet every look filled_at passes_at places picks first_pick base_of picked_of skips rules_computing
shown-4 = shown-all examples-4 refl

shown-5 : map (λ (e : Example). answered e.0 (sheet e.1)) examples-5 ≡ map (λ (e : Example). pair e.2 e.3) examples-5
unfolding examples-5 sheet every look filled_at passes_at places picks first_pick base_of picked_of skips rules_computing
shown-5 = shown-all examples-5 refl

shown-6 : map (λ (e : Example). answered e.0 (sheet e.1)) examples-6 ≡ map (λ (e : Example). pair e.2 e.3) examples-6
unfolding examples-6 sheet every look filled_at passes_at places picks first_pick base_of picked_of skips rules_computing
shown-6 = shown-all examples-6 refl

-- 17 03212643000000014800 and 22 filled with "0": rule 22 fails for every status; how many follows the list
hopeless : String
hopeless = "004525987 40102810845370000004 03212643000000014800  0 6730054024  0 772801001 18201061201010000510     "

hopeless_at : (D : Dates) → answered D (sheet hopeless) ≡ by-look (skips D (base_of (sheet hopeless))) (wide_of D (sheet hopeless)) (none (0 + length (picks D (base_of (sheet hopeless)))))
unfolding hopeless sheet filled_at base_of first_pick rules_computing
hopeless_at D =
    by-picks D (sheet hopeless) refl (none (0 + length (picks D (base_of (sheet hopeless)))))
    (none-at D)
  where
    none-at : (E : Dates) → first_pick E (base_of (sheet hopeless)) ≡ none (0 + length (picks E (base_of (sheet hopeless))))
    none-at E = none-look (passes_at E (base_of (sheet hopeless))) (picks E (base_of (sheet hopeless))) 0 (λ q m. broken-fixed E (base_of (sheet hopeless)) (22 ∷ []) refl refl refl refl q)

hopeless-all : map (λ (D : Dates). answered D (sheet hopeless)) (given 20240101 ∷ dates_of 20240101 20240101 20240101 20240101 ∷ given 20230925 ∷ [])
    ≡ pair 1056 22 ∷ pair 1104 23 ∷ pair 1008 21 ∷ []
unfolding hopeless sheet every filled_at places picks base_of skips rules_computing
hopeless-all = λ i. hopeless_at (given 20240101) i ∷ hopeless_at (dates_of 20240101 20240101 20240101 20240101) i ∷ hopeless_at (given 20230925) i ∷ []

-- the test ahead names rule 22 of it, so that `AreSkipped.caught` speaks of it: all 22 statuses of the program's date
named-22 : broken_by_all program_dates (sheet hopeless) ≡ 22
unfolding ahead1 hopeless sheet every filled_at base_of picked_of first_not field_of rules_computing
named-22 = ap (λ (p : ℕ × ℕ). p.1) (ahead-is (sheet hopeless) refl)

all-caught : (n : ℕ) → AreSkipped program_dates (sheet hopeless) n → n ≡ 22
unfolding hopeless sheet every filled_at of.to_fill of.choices list_of rules_computing
all-caught n A = (A.caught refl refl (λ e. zero-not (sym e ∙ named-22))).1
  where
    zero-not : ◌≡◌ {A = ℕ} 0 22 → ⊥
    zero-not e = omega arith
