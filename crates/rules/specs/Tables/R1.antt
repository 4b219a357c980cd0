-- R-1: the answers that rule 35 changes, and their neighbours, shown true of the definitions by one computation.
use Rattle.std.specs.Prelude.{refl, List, [], ◌∷◌}
use Prim.Native.String.{String}
use Rattle.texts.specs.Answers.{Answer}
use Rattle.rules.specs.Tables.Examples.{Change, ◌≔◌, accepted, answer, Right}
use Rattle.rules.specs.Requests.Before.{broken}

-- S with 101 24, 60 0, 102 0 and a text in 108
personal : String → List Change
personal q = (101 ≔ "24") ∷ (60 ≔ "0") ∷ (102 ≔ "0") ∷ (108 ≔ q) ∷ []

table : List (List Change × Answer)
table =
    -- the last two digits by the first nine: 95; 64; at and below the bound any two; above it 65; a sum that leaves 100
    (personal "14;11223344595", accepted "A")
    ∷ (personal "14;12345678964", accepted "A")
    ∷ (personal "14;00100199800", accepted "A")
    ∷ (personal "14;00100199899", accepted "A")
    ∷ (personal "14;00000000000", accepted "A")
    ∷ (personal "14;00000000099", accepted "A")
    ∷ (personal "14;00100199965", accepted "A")
    ∷ (personal "14;92000010000", accepted "A")
    -- a sum that leaves 0, one that leaves 1: two digits
    ∷ (personal "14;92000100000", accepted "A")
    ∷ (personal "14;92001000001", accepted "A")
    ∷ (personal "14;92000100001", broken 108 35)
    ∷ (personal "14;92001000010", broken 108 35)
    ∷ (personal "14;12345678900", broken 108 35)
    ∷ (personal "14;00100199966", broken 108 35)
    ∷ (personal "14;92000010001", broken 108 35)
    -- "exactly 11 digits", below the bound, too
    ∷ (personal "14;1122334459", broken 108 35)
    ∷ (personal "14;112233445950", broken 108 35)
    ∷ (personal "14;0010019980", broken 108 35)
    ∷ (personal "14;001001998000", broken 108 35)
    ∷ (personal "14;1122334459A", broken 108 35)
    ∷ (personal "14;1", broken 108 35)
    -- nothing behind the ";", and 16 bytes, break 17 first
    ∷ (personal "14;", broken 108 17)
    ∷ (personal "14;1122334459500", broken 108 17)
    -- other types
    ∷ (personal "13;12345678900", accepted "A")
    ∷ (personal "01;1", accepted "A")
    -- each digit has its weight: one digit, or two where the number must be above the bound
    ∷ (personal "14;10000000009", accepted "A")
    ∷ (personal "14;01000000008", accepted "A")
    ∷ (personal "14;00200000014", accepted "A")
    ∷ (personal "14;10010000015", accepted "A")
    ∷ (personal "14;10001000014", accepted "A")
    ∷ (personal "14;10000100013", accepted "A")
    ∷ (personal "14;10000010012", accepted "A")
    ∷ (personal "14;10000001011", accepted "A")
    ∷ (personal "14;10000000110", accepted "A")
    -- status 01 too, which asks for no identifier, and a text that is none; class B; class O is not asked
    ∷ ((108 ≔ "14;12345678900") ∷ [], broken 108 35)
    ∷ ((108 ≔ "14;12345678964") ∷ [], accepted "A")
    ∷ ((108 ≔ "14123456789") ∷ [], accepted "A")
    ∷ ((14 ≔ "044525000") ∷ (15 ≔ "") ∷ (17 ≔ "40503810000004000000") ∷ (108 ≔ "14;12345678900") ∷ [], broken 108 35)
    ∷ ((15 ≔ "") ∷ (101 ≔ "") ∷ (108 ≔ "14;12345678900") ∷ [], accepted "O")
    ∷ []

changed : Right table
unfolding answer table personal
changed = refl
