-- What is put on a page: one text behind another, and the items of a line.
use mathlib.Core.Path.{◌≡◌, refl, sym, ap, ◌∙◌}
use mathlib.Core.List.{List, [], ◌∷◌, ◌++◌, append_assoc, append-nil}
use Prim.Native.Nat.{ℕ, zero, suc, ◌+◌, ◌-◌, ◌<◌, ◌≤◌}
use native.Mathlib.Nat.{add-zero}
use native.Mathlib.Numerals.{add-one}
use native.Mathlib.Omega.{arith}
use lib.ListN.{length, get_or, take, drop, length-append, length-drop, take-append-drop}
use Rattle.std.specs.Prelude.{map}
use lib.Seq.{take_all}
use Rattle.texts.specs.Quoted.{Text}
use Rattle.texts.specs.Buffers.{put}
use Rattle.texts.proofs.Puts.{length-put, wrote_as, wrote_then}
use Rattle.report.specs.declared.lines.Item.{Item}
use Rattle.report.specs.declared.lines.Page.{Page}
use Rattle.report.specs.Lines.{decimal, item, line, space, newline}
use Rattle.report.specs.Working.Page.{item_text, Puts}

-- the same text by another name; what is put behind what was put
pub puts_as : (p q : Page) (t u : Text) → t ≡ u → Puts p t q → Puts p u q
puts_as p q t u h w = record { same = w.same; wrote = wrote_as _ _ _ _ t u h w.wrote }

pub puts_then : (p q r : Page) (t u : Text) → Puts p t q → Puts q u r → r.len ≤ length p.buffer.now → Puts p (t ++ u) r
puts_then p q r t u w v h = record { same = v.same ∙ w.same; wrote = wrote_then _ _ _ _ _ _ t u w.wrote v.wrote h }

pub puts_none : (p : Page) → p.len ≤ length p.buffer.now → Puts p [] p
unfolding put
puts_none p h = record {
  same = refl;
  wrote = (
    sym (rw (append-nil (take p.len p.buffer.now), add-zero p.len) (take-append-drop p.len p.buffer.now)),
    sym (add-zero p.len),
  );
}

-- the buffer keeps its length
pub puts-length : (p q : Page) (t : Text) → Puts p t q → q.len ≤ length p.buffer.now → length q.buffer.now ≡ length p.buffer.now
puts-length p q t w h = ap length w.wrote.0 ∙ length-put p.buffer.now p.len t (omega (arith, w.wrote.1))

-- ---- a line: its first item, and the others with a space before each

abbrev pub spaced : List Item → Text
spaced [] = []
spaced (x ∷ xs) = space ∷ (item_text x ++ spaced xs)

line-spaced : (t : Text) (xs : List Item) → line t (map item_text xs) ≡ t ++ (spaced xs ++ (newline ∷ []))
unfolding item
line-spaced t [] = refl
line-spaced t (x ∷ xs) =
    append_assoc t (space ∷ []) (line (item_text x) (map item_text xs))
    ∙ ap (λ (u : Text). t ++ (space ∷ u)) (line-spaced (item_text x) xs ∙ sym (append_assoc (item_text x) (spaced xs) (newline ∷ [])))

spaced-more : (xs : List Item) (i : ℕ) (d : Item) → i < length xs → spaced (take (suc i) xs) ≡ spaced (take i xs) ++ (space ∷ item_text (get_or xs i d))
spaced-more [] i d h = absurd (omega arith)
spaced-more (x ∷ xs) zero d h = ap (λ (t : Text). space ∷ t) (append-nil (item_text x))
spaced-more (x ∷ xs) (suc i) d h =
    ap (λ (t : Text). space ∷ t)
    (ap (λ (t : Text). item_text x ++ t) (spaced-more xs i d (omega arith)) ∙ sym (append_assoc (item_text x) (spaced (take i xs)) (space ∷ item_text (get_or xs i d))))

spaced-short : (xs : List Item) (i : ℕ) → length (spaced (take i xs)) ≤ length (spaced xs)
spaced-short [] zero = omega arith
spaced-short [] (suc i) = omega arith
spaced-short (x ∷ xs) zero = omega arith
spaced-short (x ∷ xs) (suc i) =
    omega (arith, spaced-short xs i, length-append (item_text x) (spaced (take i xs)), length-append (item_text x) (spaced xs))

module _ (p : Page) (t : Text) (xs : List Item) (room : p.len + length (line t (map item_text xs)) ≤ length p.buffer.now) where
  -- the length of the line
  whole : length (line t (map item_text xs)) ≡ length t + length (spaced xs) + 1
  whole = ap length (line-spaced t xs) ∙ omega (arith, length-append t (spaced xs ++ (newline ∷ [])), length-append (spaced xs) (newline ∷ []))

  pub line-first : p.len + length t ≤ length p.buffer.now
  line-first = omega (arith, whole)

  pub line-none : (q : Page) → Puts p t q → Puts p (t ++ spaced (take 0 xs)) q
  line-none q w = puts_as p q t (t ++ []) (sym (append-nil t)) w

  module _ (i : ℕ) (q : Page) (w : Puts p (t ++ spaced (take i xs)) q) where
    -- there is room for the line's end, or for a space
    pub line-room : q.len + 1 ≤ length q.buffer.now
    line-room =
        let l = length-append t (spaced (take i xs)) in
        let s = spaced-short xs i in
        omega (arith, w.wrote.1, whole, puts-length p q _ w (omega (arith, w.wrote.1, whole)))

    pub line-done : (r : Page) → length xs ≤ i → Puts q (newline ∷ []) r → Puts p (line t (map item_text xs)) r
    line-done r h v =
        let l = length-append t (spaced (take i xs)) in
        let s = spaced-short xs i in
        puts_as p r ((t ++ spaced (take i xs)) ++ (newline ∷ [])) (line t (map item_text xs))
        (append_assoc t (spaced (take i xs)) (newline ∷ []) ∙ ap (λ (ys : List Item). t ++ (spaced ys ++ (newline ∷ []))) (take_all i xs h) ∙ sym (line-spaced t xs))
        (puts_then p q r (t ++ spaced (take i xs)) (newline ∷ []) w v (omega (arith, w.wrote.1, v.wrote.1, whole)))

    -- a space, and the next item
    module _ (d : Item) (h : i < length xs) (q' : Page) (v : Puts q (space ∷ []) q') where
      pub item-room : q'.len + length (item_text (get_or xs i d)) ≤ length q'.buffer.now
      item-room =
          let e = spaced-more xs i d h in
          let l = length-append t (spaced (take i xs)) in
          let m = length-append (spaced (take i xs)) (space ∷ item_text (get_or xs i d)) in
          let s = spaced-short xs (suc i) in
          let a : length q.buffer.now ≡ length p.buffer.now = puts-length p q _ w (omega (arith, w.wrote.1, whole, ap length e)) in
          let b : length q'.buffer.now ≡ length q.buffer.now = puts-length q q' _ v (omega (arith, w.wrote.1, v.wrote.1, whole, ap length e)) in
          omega (arith, w.wrote.1, v.wrote.1, whole, ap length e)

      pub line-more : (r : Page) → Puts q' (item_text (get_or xs i d)) r → Puts p (t ++ spaced (take (i + 1) xs)) r
      line-more r u =
          let next = item_text (get_or xs i d) in
          let e = spaced-more xs i d h in
          let l = length-append t (spaced (take i xs)) in
          let m = length-append (spaced (take i xs)) (space ∷ item_text (get_or xs i d)) in
          let s = spaced-short xs (suc i) in
          let b : length q.buffer.now ≡ length p.buffer.now = puts-length p q _ w (omega (arith, w.wrote.1, whole, ap length e)) in
          let n : Puts q (space ∷ next) r = puts_then q q' r (space ∷ []) next v u (omega (arith, w.wrote.1, v.wrote.1, u.wrote.1, whole, ap length e)) in
          puts_as p r ((t ++ spaced (take i xs)) ++ (space ∷ next)) (t ++ spaced (take (i + 1) xs))
          (append_assoc t (spaced (take i xs)) (space ∷ next) ∙ ap (λ (y : Text). t ++ y) (sym (rw add-one e)))
          (puts_then p q r (t ++ spaced (take i xs)) (space ∷ next) w n (omega (arith, w.wrote.1, v.wrote.1, u.wrote.1, whole, ap length e)))

-- ---- a number, whose digits stand from a place on

module _ (p : Page) (n : ℕ) (ds : List ℕ) (f : ℕ) (e : drop f ds ≡ decimal n) where
  abbrev found : Text
  found = take (length ds - f) (drop f ds)

  number-text : found ≡ decimal n
  number-text = take_all (length ds - f) (drop f ds) (omega (arith, length-drop f ds)) ∙ e

  pub number-room : p.len + length (decimal n) ≤ length p.buffer.now → p.len + length found ≤ length p.buffer.now
  number-room r = omega (arith, ap length number-text)

  pub number_put : (q : Page) → Puts p found q → Puts p (decimal n) q
  number_put q w = puts_as p q found (decimal n) number-text w
