-- R-12: what pooling a register answers, what it leaves in the output, and what it promises.
use Rattle.std.specs.Prelude.{◌≡◌, ◌↔◌, true, not, cond, ◌&&◌, ℕ, suc, ◌+◌, ◌-◌, ◌*◌, ◌≤◌, ◌<◌, ltb, eqb, ℤ, pos, negsuc, ◌+ℤ◌, length, take, drop, get_or, Result, Ok, Err}
use mathlib.Core.List.{List, [], ◌∷◌, Memᴰ}
use Rattle.texts.specs.Quoted.{Text}
use Rattle.texts.specs.Texts.{same}
use Rattle.texts.specs.Numbers.{big}
use Rattle.texts.specs.Answers.{Answer, success, refusal, number_of, Test, ◌refuses◌, ◌refuses◌with◌, answer_by, buffer_by}
use Rattle.texts.specs.Buffers.{put}
use Rattle.texts.specs.Refusals.{refusal_number}
use Rattle.texts.specs.declared.answers.Refusal.{Refusal}
use Rattle.sheets.specs.Forms.{inn12}
use Rattle.amounts.specs.Amount.{most_kopecks}
use Rattle.registers.specs.Register.{line_size, most_lines, Line, lines_bytes, lines_of, register_right, most_order, order_right, inns_of, sum_of, pooled, total_of}
use Rattle.registers.specs.declared.pool.Unpooled.{Unpooled}
use Rattle.registers.specs.declared.pool.Unpooled.TheVariants.{Differs, Refused}

-- "an output of fewer than 500 places"
abbrev pub output_size : ℕ
output_size = most_lines * line_size

-- "tested 7, 16, 17": with 17 by how much the register is more than the order, and by how much less, one of which is 0
unfoldable pub pool_tests : List ℕ → ℕ → List ℕ → List Test
pool_tests register amount output =
    (ltb (length output) output_size refuses 7)
    ∷ (not (register_right register && order_right amount) refuses 16)
    ∷ (not (eqb (total_of (lines_of register)) amount) refuses 17 with ((total_of (lines_of register) - amount) ∷ (amount - total_of (lines_of register)) ∷ []))
    ∷ []

-- "return how many there are"
unfoldable pub pooling : List ℕ → ℕ → List ℕ → Answer
pooling register amount output = answer_by (pool_tests register amount output) (length (pooled (lines_of register)) ∷ [])

-- "output places past the pooled lines keep what they held"
unfoldable pub pooled_to : List ℕ → ℕ → List ℕ → List ℕ
pooled_to register amount output = buffer_by (pool_tests register amount output) (put output 0 (lines_bytes (pooled (lines_of register)))) output

-- the signed difference register minus order, as the two numbers of which one is 0
abbrev pub more : ℤ → ℕ
more (pos n) = n
more (negsuc n) = 0

abbrev pub less : ℤ → ℕ
less (pos n) = 0
less (negsuc n) = suc n

-- the paper's number and values for each case
unfoldable pub pool_answer : Result ℕ Unpooled → Answer
pool_answer (Ok n) = success (n ∷ [])
pool_answer (Err (Differs d)) = refusal 17 (more d ∷ less d ∷ [])
pool_answer (Err (Refused n)) = refusal (refusal_number n) []

-- the bytes t begin with the lines ls: "12 bytes, then eight, big-endian"
pub record HasLines (t : List ℕ) (ls : List Line) : Type 0 where
  pub inns : (i : ℕ) → i < length ls → take 12 (drop (i * 20) t) ≡ (get_or ls i ([], 0)).0
  pub kopecks : (i : ℕ) → i < length ls → big (take 8 (drop (i * 20 + 12) t)) ≡ (get_or ls i ([], 0)).1

-- what register and order must be, said one by one
pub record IsRegister (register : List ℕ) (amount : ℕ) : Type 0 where
  pub lines : HasLines register (lines_of register)
  pub whole : length register ≡ line_size * length (lines_of register)
  pub some : 1 ≤ length (lines_of register)
  pub most : length (lines_of register) ≤ most_lines
  pub inns : (i : ℕ) → i < length (lines_of register) → inn12 (get_or (lines_of register) i ([], 0)).0 ≡ true
  pub amounts : (i : ℕ) → i < length (lines_of register) → (1 ≤ (get_or (lines_of register) i ([], 0)).1) × ((get_or (lines_of register) i ([], 0)).1 ≤ most_kopecks)
  pub orders : (1 ≤ amount) × (amount ≤ most_order)

-- the place of the first line that has the INN t
unfoldable pub first_at : Text → List Line → ℕ
first_at t [] = 0
first_at t (l ∷ ls) = cond (same l.0 t) 0 (suc (first_at t ls))

-- ps are the lines ls pooled, said without the loop
pub record IsPool (ls ps : List Line) : Type 0 where
  -- the INNs are those of the register,
  pub those : (t : Text) → Memᴰ t (inns_of ps) ↔ Memᴰ t (inns_of ls)
  -- each once, in the order of first appearance
  pub appears : (i j : ℕ) → i < j → j < length ps → first_at (get_or (inns_of ps) i []) ls < first_at (get_or (inns_of ps) j []) ls
  -- "For each INN the pooled sum is the sum of its lines"
  pub sums : (t : Text) (k : ℕ) → Memᴰ (t, k) ps → k ≡ sum_of t ls
  pub total : total_of ps ≡ total_of ls

-- the promise of `pool`: it answered x and left e in the output that held o
pub record Pools (register : List ℕ) (amount : ℕ) (o : List ℕ) (x : Result ℕ Unpooled) (e : List ℕ) : Type 0 where
  pub answer : pool_answer x ≡ pooling register amount o
  pub output : e ≡ pooled_to register amount o
  -- there are pooled lines exactly where the output has the places, register and order are as said, and their totals agree
  pub exactly : (number_of (pool_answer x) ≡ 0) ↔ ((output_size ≤ length o) × IsRegister register amount × (total_of (lines_of register) ≡ amount))
  -- "Refusals change nothing"
  pub refused : (n : ℕ) (vs : List ℕ) → pool_answer x ≡ refusal n vs → e ≡ o
  -- "tested 7, 16, 17": which of them is answered
  pub others :
      (n : ℕ) (vs : List ℕ) → pool_answer x ≡ refusal n vs
      → (length o < output_size → n ≡ 7) × (output_size ≤ length o → (IsRegister register amount → ⊥) → n ≡ 16) × (output_size ≤ length o → IsRegister register amount → n ≡ 17)
  -- 17 is answered of a register and an order that are as said, with the difference
  pub differs : (m l : ℕ) → pool_answer x ≡ refusal 17 (m ∷ l ∷ []) → IsRegister register amount × (total_of (lines_of register) + l ≡ amount + m)
  -- n pooled lines stand at the start of the output, the rest is as before, and the totals agree
  pub made :
      (n : ℕ) → pool_answer x ≡ success (n ∷ [])
      → (ps : List Line) × (length ps ≡ n) × (take (line_size * n) e ≡ lines_bytes ps) × (drop (line_size * n) e ≡ drop (line_size * n) o)
      × IsPool (lines_of register) ps × (total_of ps ≡ amount)
  -- the same of each case itself, whatever numbers stand for it: ls are the register's lines, ps the n lines of the output
  pub holds :
      (n : ℕ) → x ≡ Ok n
      → (10000 ≤ length o) × IsRegister register amount
      × ((ls ps : List Line) × (length register ≡ length ls * 20) × HasLines register ls × (length ps ≡ n) × HasLines e ps × (drop (n * 20) e ≡ drop (n * 20) o) × IsPool ls ps × (total_of ls ≡ amount))
  -- "the signed difference register minus order", as integers
  pub signed :
      (d : ℤ) → x ≡ Err (Differs d)
      → (10000 ≤ length o) × IsRegister register amount × (pos (total_of (lines_of register)) ≡ pos amount +ℤ d) × (d ≡ pos 0 → ⊥) × (e ≡ o)
  -- 7 where the output has too few places, else 16, and then register or order are not as said
  pub number : (n : Refusal) → x ≡ Err (Refused n) → (length o < 10000 → refusal_number n ≡ 7) × (10000 ≤ length o → (refusal_number n ≡ 16) × (IsRegister register amount → ⊥)) × (e ≡ o)
