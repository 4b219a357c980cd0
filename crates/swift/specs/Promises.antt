-- What reading and writing lines answer.
use Rattle.std.specs.Prelude.{◌≡◌, ◌↔◌, true, not, List, [], ◌∷◌, ◌++◌, ℕ, ◌≤◌, eqb, ltb, length, take, drop, Result, Ok, Err}
use Rattle.texts.specs.Quoted.{Text}
use Rattle.texts.specs.Texts.{among}
use Rattle.texts.specs.Buffers.{put}
use Rattle.texts.specs.Refusals.{refusal_number}
use Rattle.texts.specs.Answers.{Answer, success, refusal, Test, ◌refuses◌, answer_by, buffer_by}
use Rattle.sheets.specs.Sheet.{Sheet, sheet_size, well_formed}
use Rattle.sheets.specs.Dates.{dates_fit}
use Rattle.sheets.specs.declared.dates.Dates.{Dates}
use Rattle.rules.specs.Rules.{class_a, keeps_all}
use Rattle.rules.specs.Verdicts.{rejection_answer, check_tests}
use Rattle.swift.specs.Lines.{Seven, seven_in, lines_of, sheet_with, fits, parts_of, taken}
use Rattle.texts.specs.declared.answers.Refusal.{Refusal}
use Rattle.rules.specs.declared.check.Rejection.{Rejection}

-- ---- the reader

-- document 01's number for each case
unfoldable pub read_answer : Result Unit Refusal → Answer
read_answer (Ok u) = success []
read_answer (Err n) = refusal (refusal_number n) []

-- "the reader 7, then 11"
unfoldable pub read_tests : Text → List ℕ → List Test
read_tests b o = (not (eqb (length o) sheet_size) refuses 7) ∷ (not (taken b) refuses 11) ∷ []

unfoldable pub reading_lines : Text → List ℕ → Answer
reading_lines b o = answer_by (read_tests b o) []

unfoldable pub sheet_read : Text → List ℕ → List ℕ
sheet_read b o = buffer_by (read_tests b o) (sheet_with (parts_of b)) o

-- reading the block b into the buffer o returned r and left e
pub record ReadsLines (b : Text) (o : List ℕ) (r : Result Unit Refusal) (e : List ℕ) : Type 0 where
  pub answer : read_answer r ≡ reading_lines b o
  pub sheet : e ≡ sheet_read b o
  -- "Refusals change no buffer"
  pub refused : (r ≡ Ok tt → ⊥) → e ≡ o
  -- "It takes exactly the blocks of these lines whose texts keep rules .. and make class A"
  pub exactly : length o ≡ sheet_size → (r ≡ Ok tt) ↔ ((t : Seven) × (fits t ≡ true) × (lines_of t ≡ b))
  -- "A reader fills a sheet with these seven fields, all others blank"; "each block that reads is what these lines give for its texts"
  pub filled : r ≡ Ok tt → (fits (seven_in e) ≡ true) × (lines_of (seven_in e) ≡ b) × (e ≡ sheet_with (seven_in e))
  -- no other texts have these lines
  pub only : r ≡ Ok tt → (t : Seven) → fits t ≡ true → lines_of t ≡ b → t ≡ seven_in e

-- ---- the writer

-- document 01's number and values for each case
unfoldable pub written_answer : Result ℕ Rejection → Answer
written_answer (Ok n) = success (n ∷ [])
written_answer (Err e) = rejection_answer e

-- "the writer tests 1, 8, 11, then 7 (buffer too short)"; 12 "comes just before 8" (R-7)
unfoldable pub line_tests : Dates → Sheet → List ℕ → List Test
line_tests D s o =
    check_tests D s
    ++ ((not (class_a s) refuses 11) ∷ (ltb (length o) (length (lines_of (seven_in s))) refuses 7) ∷ [])

unfoldable pub writing_lines : Dates → Sheet → List ℕ → Answer
writing_lines D s o = answer_by (line_tests D s o) (length (lines_of (seven_in s)) ∷ [])

unfoldable pub lines_into : Dates → Sheet → List ℕ → List ℕ
lines_into D s o = buffer_by (line_tests D s o) (put o 0 (lines_of (seven_in s))) o

-- writing the sheet s at the dates D to the buffer o returned r and left e
pub record WritesLines (D : Dates) (s : Sheet) (o : List ℕ) (r : Result ℕ Rejection) (e : List ℕ) : Type 0 where
  pub answer : written_answer r ≡ writing_lines D s o
  pub buffer : e ≡ lines_into D s o
  -- "Refusals change no buffer"
  pub refused : ((n : ℕ) → r ≡ Ok n → ⊥) → e ≡ o
  -- "For an accepted class A sheet write"
  pub exactly :
      (r ≡ Ok (length (lines_of (seven_in s))))
      ↔ ((well_formed s ≡ true) × (dates_fit D ≡ true) × (keeps_all D s ≡ true) × (class_a s ≡ true) × (length (lines_of (seven_in s)) ≤ length o))
  -- "They go at the start of a lent buffer, their length is returned, and the rest is left"
  pub made : (n : ℕ) → r ≡ Ok n → (take n e ≡ lines_of (seven_in s)) × (drop n e ≡ drop n o)
  -- the lengths that lines have
  pub long : (n : ℕ) → r ≡ Ok n → among n (113 ∷ 116 ∷ 132 ∷ 137 ∷ []) ≡ true
  -- "Writing and then reading yields the same seven texts"
  pub back :
      (n : ℕ)
      → r ≡ Ok n
      → (p : List ℕ) (q : Result Unit Refusal) (x : List ℕ)
      → length p ≡ sheet_size
      → ReadsLines (take n e) p q x
      → (q ≡ Ok tt) × (seven_in x ≡ seven_in s)
