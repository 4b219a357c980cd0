-- The order's date and the record of three dates (R-7), and the statuses that are in force.
use Rattle.std.specs.Prelude.{◌≡◌, ◌↔◌, Bool, true, cond, ◌&&◌, List, [], ◌∷◌, map, ℕ, ◌+◌, ◌*◌, ◌/◌, ◌%◌, ◌≤◌, leb, ltb, length}
use Rattle.texts.specs.Quoted.{Text, bytes, words}
use Rattle.texts.specs.Texts.{any, same, ◌is◌, ◌is_one_of◌, number}
use Rattle.sheets.specs.Lists.{statuses}
use Rattle.sheets.specs.Forms.{◌⇒◌, gregorian}
use Rattle.sheets.specs.declared.dates.Dates.{Dates}
use Rattle.sheets.specs.declared.dates.Force.{Force}

-- "a number YYYYMMDD": a Gregorian date of the years 1900 to 2099, as rule 18 has it
unfoldable pub day_number : ℕ → Bool
day_number n = gregorian (n % 100) (n / 100 % 100) (n / 10000)

-- what error 12 does not refuse: "an order date or record entry that is no Gregorian date .., or an order date before 20230925"
unfoldable pub dates_fit : Dates → Bool
dates_fit D =
    (day_number D.order.0 && leb 20230925 D.order.0)
    && (day_number D.first32.0 && (day_number D.first33.0 && day_number D.last02.0))

-- the same said without division: "an order date or record entry" is the number of a day, and the order's is no earlier than 20230925
abbrev pub Day : ℕ → Type 0
Day n = (y : ℕ) × (m : ℕ) × (d : ℕ) × (n ≡ y * 10000 + m * 100 + d) × (gregorian d m y ≡ true)

pub record Dated (D : Dates) : Type 0 where
  pub order : Day D.order.0
  pub from : 20230925 ≤ D.order.0
  pub first32 : Day D.first32.0
  pub first33 : Day D.first33.0
  pub last02 : Day D.last02.0

-- the statuses that have a date: "the first for status 32, the first for status 33, the last for status 02"; both ends count
abbrev pub force_of : Dates → Force
force_of D =
    record {
      s02 = leb D.order.0 D.last02.0;
      s32 = leb D.first32.0 D.order.0;
      s33 = leb D.first33.0 D.order.0;
    }

-- "exactly when the date allows it": the others are always allowed
abbrev pub allowed_in : Force → Text → Bool
allowed_in F t = (t is "02" ⇒ F.s02) && ((t is "32" ⇒ F.s32) && (t is "33" ⇒ F.s33))

-- those of a list that pass a test, in its order
abbrev pub those : {A : Type 0} → (A → Bool) → List A → List A
those p [] = []
those p (x ∷ xs) = cond (p x) (x ∷ those p xs) (those p xs)

-- "in rule 10's list, and in the completion list, in ascending order"
unfoldable pub texts_in : Force → List Text
texts_in F = those (allowed_in F) (words statuses)

abbrev pub status_texts : Dates → List Text
status_texts D = texts_in (force_of D)

abbrev pub status_count : Dates → ℕ
status_count D = length (status_texts D)

-- each number is below the next
abbrev pub ascends : List ℕ → Bool
ascends [] = true
ascends (n ∷ []) = true
ascends (n ∷ (m ∷ ns)) = ltb n m && ascends (m ∷ ns)

-- a text is one of a list
abbrev pub listed : Text → List Text → Bool
listed t ts = any (same t) ts

-- what the list is, said of the dates themselves
pub record InForce (D : Dates) : Type 0 where
  -- "A status is in rule 10's list, and in the completion list, .. exactly when the date allows it"
  pub allowed : (t : Text)
      → (listed t (status_texts D) ≡ true)
      ↔ (((t is_one_of statuses) ≡ true)
      × (t ≡ bytes "02" → D.order.0 ≤ D.last02.0)
      × (t ≡ bytes "32" → D.first32.0 ≤ D.order.0)
      × (t ≡ bytes "33" → D.first33.0 ≤ D.order.0))
  -- "in ascending order"
  pub ascending : ascends (map (number 2) (status_texts D)) ≡ true
  -- the twenty that have no date, and one for each that the date allows
  pub count : status_count D ≡ 20 + cond (force_of D).s02 1 0 + cond (force_of D).s32 1 0 + cond (force_of D).s33 1 0

-- "The program uses the order date 20240101 and the three dates given here"
abbrev pub program_dates : Dates
program_dates =
    record {
      order = record { 0 = 20240101 };
      first32 = record { 0 = 20231001 };
      first33 = record { 0 = 20240101 };
      last02 = record { 0 = 20231231 };
    }
