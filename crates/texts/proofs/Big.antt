-- Big-endian numbers of any width: a number as bytes and back, bytes as a number and back.
use mathlib.Core.Path.{◌≡◌, refl, ap, ◌∙◌}
use mathlib.Core.List.{List, [], ◌∷◌, ◌++◌, append-nil}
use Prim.Native.Nat.{ℕ, zero, suc, ◌+◌, ◌*◌, ◌/◌, ◌%◌, ◌^◌, ◌<◌, ◌≤◌}
use native.Mathlib.Nat.{add-zero, pow-le-pow_right}
use native.Mathlib.Numerals.{add-one}
use native.Mathlib.Omega.{arith}
use lib.ListN.{length, get_or, take}
use lib.Pow.{pow-add}
use Rattle.texts.specs.Numbers.{Bytes, big_from, big, bytes_before, bytes_of, bytes_at}

big-from : (bs : List ℕ) → big bs ≡ big_from 0 bs
big-from [] = refl
big-from (b ∷ bs) = let e : b ≡ 0 * 256 + b = omega arith in ap (λ (n : ℕ). big_from n bs) e

from_bytes : (k n : ℕ) (bs : List ℕ) → n < 256 ^ k → big_from 0 (bytes_before k n bs) ≡ big_from n bs
from_bytes zero n bs h = let e : 0 ≡ n = omega arith in ap (λ (x : ℕ). big_from x bs) e
from_bytes (suc k) n bs h =
    let e : n / 256 * 256 + n % 256 ≡ n = omega arith in
    from_bytes k (n / 256) (n % 256 ∷ bs) (omega arith) ∙ ap (λ (x : ℕ). big_from x bs) e

pub big-bytes : (k n : ℕ) → n < 256 ^ k → big (bytes_of k n) ≡ n
big-bytes k n h = big-from (bytes_of k n) ∙ from_bytes k n [] h

-- each is a byte
abbrev pub EachByte : List ℕ → Type 0
EachByte [] = Unit
EachByte (b ∷ bs) = (b < 256) × EachByte bs

pub each_at : (t : List ℕ) (i k : ℕ) → Bytes t → EachByte (bytes_at t i k)
each_at t i zero h = tt
each_at t i (suc k) h = (h i, each_at t (suc i) k h)

bytes-from : (a j : ℕ) (bs cs : List ℕ) → EachByte bs → bytes_before (length bs + j) (big_from a bs) cs ≡ bytes_before j a (bs ++ cs)
bytes-from a j [] cs h = let e : 0 + j ≡ j = omega arith in rw e
bytes-from a j (b ∷ bs) cs h =
    let b< = h.0 in
    let l : suc (length bs) + j ≡ length bs + suc j = omega arith in
    let q : (a * 256 + b) / 256 ≡ a = omega arith in
    let r : (a * 256 + b) % 256 ≡ b = omega arith in
    ap (λ (n : ℕ). bytes_before n (big_from (a * 256 + b) bs) cs) l ∙ bytes-from (a * 256 + b) (suc j) bs cs h.1 ∙ rw (q, r)

pub bytes-big : (bs : List ℕ) → EachByte bs → bytes_of (length bs) (big bs) ≡ bs
bytes-big bs h = rw (big-from bs, ← add-zero (length bs)) (bytes-from 0 0 bs [] h ∙ append-nil bs)

-- ---- number_of: what the bytes up to i make

big_next : (a i : ℕ) (bs : List ℕ) → i < length bs → big_from a (take (suc i) bs) ≡ big_from a (take i bs) * 256 + get_or bs i 0
big_next a i [] h = absurd (omega arith)
big_next a zero (x ∷ xs) h = refl
big_next a (suc i) (x ∷ xs) h = big_next (a * 256 + x) i xs (omega arith)

pub number_more : (bs : List ℕ) (i n b : ℕ) → i < length bs → length bs ≤ 8 → n ≡ big_from 0 (take i bs) → n < 256 ^ i → b ≡ get_or bs i 0 → b < 256
    → ((n * 256 % 2 ^ 64 + b) % 2 ^ 64 ≡ big_from 0 (take (i + 1) bs)) × ((n * 256 % 2 ^ 64 + b) % 2 ^ 64 < 256 ^ (i + 1))
number_more bs i n b h k e l eb lb =
    let q : i ≤ 7 = omega arith in
    let p : 256 ^ i ≤ 256 ^ 7 = pow-le-pow_right (omega arith) q in
    let m : (n * 256 % 2 ^ 64 + b) % 2 ^ 64 ≡ n * 256 + b = omega arith in
    (m ∙ rw (add-one, big_next 0 i bs h, ← e, ← eb), rw (m, pow-add 256 i 1) (omega arith))
