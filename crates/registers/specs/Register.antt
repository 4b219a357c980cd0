-- R-12: a register, its lines, and what pooling them gives.
use Rattle.std.specs.Prelude.{Bool, true, cond, ◌&&◌, List, [], ◌∷◌, ◌++◌, map, ℕ, zero, suc, ◌+◌, ◌/◌, ◌%◌, leb, eqb, length, take, drop}
use Rattle.texts.specs.Quoted.{Text}
use Rattle.texts.specs.Texts.{same}
use Rattle.texts.specs.Numbers.{big, bytes_of}
use Rattle.sheets.specs.Forms.{inn12}
use Rattle.amounts.specs.Amount.{is_amount}

-- "a register of 1 to 500 lines, each a 12-digit INN (under R-4) and 1 to 10^12 kopecks: 12 bytes, then eight, big-endian"
abbrev pub line_size : ℕ
line_size = 20

abbrev pub inn_size : ℕ
inn_size = 12

abbrev pub kopecks_size : ℕ
kopecks_size = 8

abbrev pub most_lines : ℕ
most_lines = 500

-- a line: its INN and its kopecks
abbrev pub Line : Type 0
Line = Text × ℕ

abbrev pub line_of : List ℕ → Line
line_of b = (take inn_size b, big (drop inn_size b))

abbrev pub line_bytes : Line → List ℕ
line_bytes l = l.0 ++ bytes_of kopecks_size l.1

-- the bytes of lines end to end
unfoldable pub lines_bytes : List Line → List ℕ
lines_bytes [] = []
lines_bytes (l ∷ ls) = line_bytes l ++ lines_bytes ls

-- the first n lines of a register's bytes
unfoldable pub lines_in : ℕ → List ℕ → List Line
lines_in zero t = []
lines_in (suc n) t = line_of (take line_size t) ∷ lines_in n (drop line_size t)

abbrev pub lines_of : List ℕ → List Line
lines_of t = lines_in (length t / line_size) t

-- no "line whose INN or amount isn't as said"
abbrev pub line_right : Line → Bool
line_right l = inn12 l.0 && is_amount l.1

unfoldable pub lines_right : List Line → Bool
lines_right [] = true
lines_right (l ∷ ls) = line_right l && lines_right ls

-- nor "a register not of 1 to 500 whole lines"
abbrev pub register_right : List ℕ → Bool
register_right t =
    ((eqb (length t % line_size) 0 && leb 1 (length t / line_size)) && leb (length t / line_size) most_lines) && lines_right (lines_of t)

-- nor "an order amount outside 1 to 10^15"
abbrev pub most_order : ℕ
most_order = 1000000000000000

abbrev pub order_right : ℕ → Bool
order_right n = leb 1 n && leb n most_order

-- "in the order of first appearance": each text once, where it stands first
unfoldable pub without : Text → List Text → List Text
without t [] = []
without t (u ∷ us) = cond (same u t) (without t us) (u ∷ without t us)

unfoldable pub appearing : List Text → List Text
appearing [] = []
appearing (t ∷ ts) = t ∷ without t (appearing ts)

-- the INNs of lines
abbrev pub inns_of : List Line → List Text
inns_of ls = map (λ (l : Line). l.0) ls

-- "For each INN the pooled sum is the sum of its lines"
unfoldable pub sum_of : Text → List Line → ℕ
sum_of t [] = 0
sum_of t (l ∷ ls) = cond (same l.0 t) l.1 0 + sum_of t ls

-- "Pool lines of one INN into one, in the order of first appearance"
unfoldable pub pooled : List Line → List Line
pooled ls = map (λ (t : Text). (t, sum_of t ls)) (appearing (inns_of ls))

-- "the total of the pooled lines, of the register and of the order agree"
unfoldable pub total_of : List Line → ℕ
total_of [] = 0
total_of (l ∷ ls) = l.1 + total_of ls
