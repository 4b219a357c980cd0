-- Document 01's answers, and refusals in the order of their numbers ("Answers other than success").
use Rattle.std.specs.Prelude.{Bool, true, not, cond, ◌&&◌, List, [], ◌∷◌, ℕ}

infix 5 ◌refuses◌ ◌refuses◌with◌
-- success with the values that it returns, or a number of the table "Answers other than success" with those that stand beside it
pub data Answer : Type 0 where
  success : List ℕ → Answer
  refusal : ℕ → List ℕ → Answer

-- the number of an answer, 0 for success
abbrev pub number_of : Answer → ℕ
number_of (success vs) = 0
number_of (refusal n vs) = n

-- a test, and what is refused where it is true: the number, and the values that stand beside it
pub data Test : Type 0 where
  test : Bool → ℕ → List ℕ → Test

abbrev pub ◌refuses◌ : Bool → ℕ → Test
b refuses n = test b n []

abbrev pub ◌refuses◌with◌ : Bool → ℕ → List ℕ → Test
b refuses n with vs = test b n vs

-- no test is true
abbrev pub passes : List Test → Bool
passes [] = true
passes (test b n vs ∷ ts) = not b && passes ts

-- "Number order is test order": the first test that is true refuses; where none is, success returns ws
abbrev pub answer_by : List Test → List ℕ → Answer
answer_by [] ws = success ws
answer_by (test b n vs ∷ ts) ws = cond b (refusal n vs) (answer_by ts ws)

-- "Refusals change no buffer": what one that held old holds afterwards
abbrev pub buffer_by : List Test → List ℕ → List ℕ → List ℕ
buffer_by ts new old = cond (passes ts) new old
