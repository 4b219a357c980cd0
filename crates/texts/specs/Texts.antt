-- Tests on texts, in the words of document 01.
use Rattle.std.specs.Prelude.{Bool, true, false, not, cond, ◌&&◌, ◌||◌, List, [], ◌∷◌, map, ℕ, ◌+◌, ◌-◌, ◌*◌, ◌^◌, leb, eqb, length, take, drop}
use Prim.Native.String.{String}
use Rattle.texts.specs.Quoted.{Text, bytes, words}

infix 40 ◌is◌ ◌is_one_of◌ ◌begins◌ ◌begins_one_of◌
-- each passes the test; one passes it
unfoldable pub every : {A : Type 0} → (A → Bool) → List A → Bool
every p [] = true
every p (x ∷ xs) = p x && every p xs

unfoldable pub any : {A : Type 0} → (A → Bool) → List A → Bool
any p [] = false
any p (x ∷ xs) = p x || any p xs

-- two texts are the same
unfoldable pub same : Text → Text → Bool
same [] [] = true
same [] (y ∷ ys) = false
same (x ∷ xs) [] = false
same (x ∷ xs) (y ∷ ys) = eqb x y && same xs ys

-- the bytes from place a up to place e, counted from 0, as far as there are any
unfoldable pub between : Text → ℕ → ℕ → Text
between t a e = take (e - a) (drop a t)

-- the first text begins with the second
abbrev pub starts_with : Text → Text → Bool
starts_with t u = same (between t 0 (length u)) u

-- the same of quoted texts
abbrev pub ◌is◌ : Text → String → Bool
t is q = same t (bytes q)

abbrev pub ◌begins◌ : Text → String → Bool
t begins q = starts_with t (bytes q)

unfoldable pub ◌is_one_of◌ : Text → String → Bool
t is_one_of q = any (same t) (words q)

unfoldable pub ◌begins_one_of◌ : Text → String → Bool
t begins_one_of q = any (starts_with t) (words q)

-- the empty text is a blank
abbrev pub blank : Text → Bool
blank t = eqb (length t) 0

-- a byte is b; a number is one of some
unfoldable pub are : ℕ → ℕ → Bool
are b x = eqb x b

unfoldable pub among : ℕ → List ℕ → Bool
among x l = any (are x) l

-- a digit is "0" to "9"
abbrev pub digit : ℕ → Bool
digit b = leb 48 b && leb b 57

-- n digits
abbrev pub digits : ℕ → Text → Bool
digits n t = eqb (length t) n && every digit t

-- "all zero" means every digit is "0"
abbrev pub all_zero : Text → Bool
all_zero t = every (are 48) t

-- n digits not all zero
abbrev pub digits_not_zero : ℕ → Text → Bool
digits_not_zero n t = digits n t && not (all_zero t)

-- n digits not beginning 00
abbrev pub digits_not_00 : ℕ → Text → Bool
digits_not_00 n t = digits n t && not (t begins "00")

-- the number of a digit, and of digits after the number a
unfoldable pub value_of : ℕ → ℕ
value_of b = cond (digit b) (b - 48) 0

unfoldable pub value : ℕ → Text → ℕ
value a [] = a
value a (x ∷ xs) = value (a * 10 + value_of x) xs

-- the number that n digits are; 10 ^ n, which is none of those, where the text is not n digits
unfoldable pub number : ℕ → Text → ℕ
number n t = cond (digits n t) (value 0 t) (10 ^ n)

-- the sum of a text's digits, each times its weight, as far as there are both; what is no digit counts 0
unfoldable pub weighted : List ℕ → Text → ℕ
weighted [] t = 0
weighted (w ∷ ws) [] = 0
weighted (w ∷ ws) (x ∷ xs) = w * value_of x + weighted ws xs
