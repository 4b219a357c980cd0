-- The worked answers of R-12 as tables, in bytes and numbers, shown true of the definitions by computation.
use Rattle.std.specs.Prelude.{◌≡◌, refl, List, [], ◌∷◌, ◌++◌, map, ℕ, zero, suc, ◌-◌, length, take, replicate}
use Rattle.texts.specs.Answers.{Answer, success, refusal}
use Rattle.sheets.specs.Working.Computing.{sheets_computing}
use Rattle.registers.specs.Register.{lines_bytes, lines_in, lines_right, without, appearing, sum_of, pooled, total_of}
use Rattle.registers.specs.Pool.{pool_tests, pooling, pooled_to}

-- the INNs 781023456779 and 123456789047
a : List ℕ
a = 55 ∷ 56 ∷ 49 ∷ 48 ∷ 50 ∷ 51 ∷ 52 ∷ 53 ∷ 54 ∷ 55 ∷ 55 ∷ 57 ∷ []

b : List ℕ
b = 49 ∷ 50 ∷ 51 ∷ 52 ∷ 53 ∷ 54 ∷ 55 ∷ 56 ∷ 57 ∷ 48 ∷ 52 ∷ 55 ∷ []

-- lines of 5, 7 and 1 kopecks
three : List ℕ
three = a ++ (0 ∷ 0 ∷ 0 ∷ 0 ∷ 0 ∷ 0 ∷ 0 ∷ 5 ∷ b) ++ (0 ∷ 0 ∷ 0 ∷ 0 ∷ 0 ∷ 0 ∷ 0 ∷ 7 ∷ a) ++ (0 ∷ 0 ∷ 0 ∷ 0 ∷ 0 ∷ 0 ∷ 0 ∷ 1 ∷ [])

-- n lines of 1 kopeck
ones : ℕ → List ℕ
ones zero = []
ones (suc n) = a ++ (0 ∷ 0 ∷ 0 ∷ 0 ∷ 0 ∷ 0 ∷ 0 ∷ 1 ∷ ones n)

-- an output of n bytes
held : ℕ → List ℕ
held n = replicate n 9

-- register, order amount, output's length
abbrev Arguments : Type 0
Arguments = List ℕ × ℕ × ℕ

-- the answer, and the output afterwards; to unfold it is to unfold all that it is computed by
pool_of : Arguments → Answer × List ℕ
unfolding held pooling pooled_to pool_tests lines_bytes lines_in lines_right pooled appearing without sum_of total_of sheets_computing
pool_of x = (pooling x.0 x.1 (held x.2), pooled_to x.0 x.1 (held x.2))

-- how many pooled lines there are, and their bytes
made : List (Arguments × ℕ × List ℕ)
made =
    ((three, 13, 10000), 2, a ++ (0 ∷ 0 ∷ 0 ∷ 0 ∷ 0 ∷ 0 ∷ 0 ∷ 6 ∷ b) ++ (0 ∷ 0 ∷ 0 ∷ 0 ∷ 0 ∷ 0 ∷ 0 ∷ 7 ∷ []))
    -- 300, 4294967301 and 4294967301 kopecks
    ∷ (
      (a ++ (0 ∷ 0 ∷ 0 ∷ 0 ∷ 0 ∷ 0 ∷ 1 ∷ 44 ∷ b) ++ (0 ∷ 0 ∷ 0 ∷ 1 ∷ 0 ∷ 0 ∷ 0 ∷ 5 ∷ a) ++ (0 ∷ 0 ∷ 0 ∷ 1 ∷ 0 ∷ 0 ∷ 0 ∷ 5 ∷ []), 8589934902, 10007),
      2,
      a ++ (0 ∷ 0 ∷ 0 ∷ 1 ∷ 0 ∷ 0 ∷ 1 ∷ 49 ∷ b) ++ (0 ∷ 0 ∷ 0 ∷ 1 ∷ 0 ∷ 0 ∷ 0 ∷ 5 ∷ []),
    )
    -- 10^12 kopecks
    ∷ ((b ++ (0 ∷ 0 ∷ 0 ∷ 232 ∷ 212 ∷ 165 ∷ 16 ∷ 0 ∷ []), 1000000000000, 10000), 1, b ++ (0 ∷ 0 ∷ 0 ∷ 232 ∷ 212 ∷ 165 ∷ 16 ∷ 0 ∷ []))
    ∷ []

-- "output places past the pooled lines keep what they held"
made_right : map (λ (e : Arguments × ℕ × List ℕ). pool_of e.0) made
    ≡ map (λ (e : Arguments × ℕ × List ℕ). (success (e.1 ∷ []), e.2 ++ held (e.0.2 - length e.2))) made
unfolding pool_of made three a b held
made_right = refl

-- 500 lines
five_hundred : pool_of (ones 500, 500, 10000) ≡ (success (1 ∷ []), a ++ (0 ∷ 0 ∷ 0 ∷ 0 ∷ 0 ∷ 0 ∷ 1 ∷ 244 ∷ held 9980))
unfolding pool_of ones a held
five_hundred = refl

refused : List (Arguments × Answer)
refused =
    ((three, 14, 10000), refusal 17 (0 ∷ 1 ∷ []))
    ∷ ((three, 1, 10000), refusal 17 (12 ∷ 0 ∷ []))
    ∷ ((three, 1000000000000000, 10000), refusal 17 (0 ∷ 999999999999987 ∷ []))
    ∷ ((three, 0, 10000), refusal 16 [])
    ∷ ((three, 1000000000000001, 10000), refusal 16 [])
    ∷ ((ones 501, 501, 10000), refusal 16 [])
    ∷ ((three, 13, 9999), refusal 7 [])
    -- 7 ahead of 17 and of 16
    ∷ ((three, 14, 9999), refusal 7 [])
    ∷ ((three, 0, 9999), refusal 7 [])
    ∷ ((ones 501, 501, 9999), refusal 7 [])
    ∷ (([], 13, 9999), refusal 7 [])
    ∷ map (λ (register : List ℕ). ((register, 13, 10000), refusal 16 []))
    -- 0, 10^12 + 1 and 2^64 - 1 kopecks
    ((a ++ (0 ∷ 0 ∷ 0 ∷ 0 ∷ 0 ∷ 0 ∷ 0 ∷ 0 ∷ []))
    ∷ (a ++ (0 ∷ 0 ∷ 0 ∷ 232 ∷ 212 ∷ 165 ∷ 16 ∷ 1 ∷ []))
    ∷ (a ++ (255 ∷ 255 ∷ 255 ∷ 255 ∷ 255 ∷ 255 ∷ 255 ∷ 255 ∷ []))
    -- the INNs 781023456789 and 000000000000
    ∷ (55 ∷ 56 ∷ 49 ∷ 48 ∷ 50 ∷ 51 ∷ 52 ∷ 53 ∷ 54 ∷ 55 ∷ 56 ∷ 57 ∷ 0 ∷ 0 ∷ 0 ∷ 0 ∷ 0 ∷ 0 ∷ 0 ∷ 5 ∷ [])
    ∷ (replicate 12 48 ++ (0 ∷ 0 ∷ 0 ∷ 0 ∷ 0 ∷ 0 ∷ 0 ∷ 5 ∷ []))
    -- the kopecks ahead of the INN
    ∷ (0 ∷ 0 ∷ 0 ∷ 0 ∷ 0 ∷ 0 ∷ 0 ∷ 13 ∷ a)
    ∷ take 59 three
    ∷ (three ++ 0 ∷ [])
    ∷ []
    ∷ [])

refused_right : map (λ (e : Arguments × Answer). pool_of e.0) refused ≡ map (λ (e : Arguments × Answer). (e.1, held e.0.2)) refused
unfolding pool_of refused three ones a b held
refused_right = refl
