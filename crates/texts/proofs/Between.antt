-- A byte and a part of a text, also where they run past its end.
use mathlib.Core.Path.{◌≡◌, refl, sym}
use mathlib.Core.List.{List, []}
use Prim.Native.Nat.{ℕ, ◌-◌, ◌≤◌}
use native.Mathlib.Omega.{arith}
use borrow.Author.Rules.{rules}
use lib.ListN.{length, get_or, take, drop, length-drop, drop_of_length-le, get_or-eq_default}
use lib.Seq.{take_all, take-nil}
use Rattle.texts.specs.Texts.{between}

pub past : (t : List ℕ) (i : ℕ) → length t ≤ i → 0 ≡ get_or t i 0
past t i h = sym (get_or-eq_default t 0 h)

module _ (t : List ℕ) (a e : ℕ) where
  pub part-past : length t ≤ a → [] ≡ between t a e
  unfolding between
  part-past h = rw (drop_of_length-le t h, take-nil)

  pub part_none : e ≤ a → [] ≡ between t a e
  unfolding between
  part_none h = let z : e - a ≡ 0 = omega arith in rw z

  pub part-rest : length t ≤ e → take (length t - a) (drop a t) ≡ between t a e
  unfolding between
  part-rest h =
      let l = length-drop a t in
      cc (take_all (length t - a) (drop a t) (omega arith), take_all (e - a) (drop a t) (omega arith))

  pub part-whole : take (e - a) (drop a t) ≡ between t a e
  unfolding between
  part-whole = refl

pub ruleset parts = (rules, past, part-past, part_none, part-rest, part-whole)
