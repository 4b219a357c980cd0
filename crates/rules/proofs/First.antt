-- The first of some numbers that fails a test.
use mathlib.Core.Path.{◌≡◌, refl, ap, sym, ◌∙◌}
use mathlib.Core.Bool.{Bool, true, false, not, cond, ◌&&◌, and_assoc, and-true}
use mathlib.Core.List.{List, [], ◌∷◌, ◌++◌, map}
use Prim.Native.Nat.{ℕ, suc, ◌+◌, ◌≤◌, ◌<◌}
use native.Mathlib.Numerals.{add-one}
use borrow.Author.Tests.{eqb-true, eqb-false, not-true}
use lib.Dec.{eqb}
use lib.ListN.{length, get_or, drop, drop_of_length-le}
use lib.Seq.{drop-cons}
use Rattle.std.specs.Prelude.{Option, None, Some}
use Rattle.std.specs.Option.{option_map, MatchOption, IsSomeAnd}
use Rattle.std.proofs.lemmas.Option.{none-some, same_Some}
use Rattle.texts.specs.Texts.{every}
use Rattle.texts.proofs.Bools.{both}
use Rattle.rules.specs.declared.rules.RuleNumber.{RuleNumber}
use Rattle.rules.specs.Rules.{first_not, rule_named}
use Rattle.rules.specs.Working.Tests.{kept, first_of, all_true}

-- a number that names a rule
abbrev pub numbered : ℕ → Bool
numbered n = not (eqb n 0)

named : (n : ℕ) → numbered n ≡ true → n ≡ 0 → ⊥
named n z = eqb-false n 0 (not-true (eqb n 0) z)

none-step : (k m : ℕ) (h r : Bool) → (k ≡ 0 → ⊥) → (m ≡ 0 → r ≡ true) → cond h m k ≡ 0 → (h && r) ≡ true
none-step k m true r z f e = f e
none-step k m false r z f e = absurd (z e)

module _ (p : ℕ → Bool) where
  -- none fails exactly when all pass
  pub none_kept : (ks : List ℕ) → every numbered ks ≡ true → first_not p ks ≡ 0 → every p ks ≡ true
  unfolding every first_not
  none_kept [] z e = refl
  none_kept (k ∷ ks) z e =
      let q = both (numbered k) (every numbered ks) z in
      none-step k (first_not p ks) (p k) (every p ks) (named k q.0) (none_kept ks q.1) e

  pub kept-none : (ks : List ℕ) → every p ks ≡ true → first_not p ks ≡ 0
  unfolding every first_not
  kept-none [] e = refl
  kept-none (k ∷ ks) e =
      let q = both (p k) (every p ks) e in
      rw q.0 (kept-none ks q.1)

  -- where one fails, the first is found with those before it, which pass, and those behind it
  abbrev pub Split : List ℕ → Type 0
  Split ks =
      (before : List ℕ) × (n : ℕ) × (after : List ℕ)
      × (ks ≡ before ++ (n ∷ after)) × (every p before ≡ true) × (p n ≡ false) × (first_not p ks ≡ n)

  split_step : (k : ℕ) (ks : List ℕ) (h : Bool) → p k ≡ h → (every p (k ∷ ks) ≡ true → ⊥) → ((every p ks ≡ true → ⊥) → Split ks) → Split (k ∷ ks)
  unfolding every first_not
  split_step k ks true h f r =
      let (b, n, a, e, q, w, i) = r (λ q. f (rw h q)) in
      (k ∷ b, n, a, ap (λ (l : List ℕ). k ∷ l) e, rw h q, w, rw h i)
  split_step k ks false h f r = ([], k, ks, refl, refl, h, rw h)

  pub split : (ks : List ℕ) → (every p ks ≡ true → ⊥) → Split ks
  unfolding every
  split [] f = absurd (f refl)
  split (k ∷ ks) f = split_step k ks (p k) refl f (split ks)

  -- all outcomes are true
  pub all_held : (ks : List ℕ) → all_true (map p ks) ≡ every p ks
  unfolding all_true every
  all_held [] = refl
  all_held (k ∷ ks) = ap (λ (b : Bool). p k && b) (all_held ks)

-- ---- first_broken

-- what is found, as a rule
pub mapped : (P : ℕ → RuleNumber → Type 0) → ((x : ℕ) (y : RuleNumber) → P x y → y ≡ record { 0 = x }) → (o q : Option ℕ) (r : Option RuleNumber) → option_map (λ (x : ℕ). x) o ≡ q
    → MatchOption o (r ≡ None) (λ x. IsSomeAnd r (P x)) → r ≡ option_map (λ (n : ℕ). record { 0 = n }) q
mapped P f None q r e m = m ∙ ap (option_map (λ (n : ℕ). record { 0 = n })) e
mapped P f (Some x) q None e m = absurd m
mapped P f (Some x) q (Some y) e m = ap Some (f x y m) ∙ ap (option_map (λ (n : ℕ). record { 0 = n })) e

module _ (os : List Bool) where
  named-step : (k m : ℕ) (h : Bool) (o : Option ℕ) → numbered k ≡ true → option_map (λ (n : ℕ). record { 0 = n }) o ≡ rule_named m → option_map (λ (n : ℕ). record { 0 = n }) (cond (not h) (Some k) o) ≡ rule_named (cond h m k)
  unfolding rule_named
  named-step k m true o z e = e
  named-step k m false o z e = rw (not-true (eqb k 0) z)

  -- the first broken one of rules that have numbers
  pub first-of-is : (ks : List ℕ) → every numbered ks ≡ true → first_of os ks ≡ rule_named (first_not (kept os) ks)
  unfolding every first_not rule_named
  first-of-is [] z = refl
  first-of-is (k ∷ ks) z =
      let q = both (numbered k) (every numbered ks) z in
      named-step k (first_not (kept os) ks) (kept os k) _ q.0 (first-of-is ks q.1)

pub named-some : (n : ℕ) (g : RuleNumber) → Some g ≡ rule_named n → (n ≡ g.0) × (not (eqb n 0) ≡ true)
unfolding rule_named
named-some n g e = go (eqb n 0) refl e
  where
    go : (b : Bool) → eqb n 0 ≡ b → Some g ≡ cond b None (Some (record { 0 = n })) → (n ≡ g.0) × (not (eqb n 0) ≡ true)
    go true h z = absurd (none-some g (sym z))
    go false h z = let i : g ≡ record { 0 = n } = same_Some _ _ z in (ap (λ (r : RuleNumber). r.0) (sym i), rw h)

pub named-none : (n : ℕ) → None ≡ rule_named n → n ≡ 0
unfolding rule_named
named-none n e = go (eqb n 0) refl e
  where
    go : (b : Bool) → eqb n 0 ≡ b → ◌≡◌ {A = Option RuleNumber} None (cond b None (Some (record { 0 = n }))) → n ≡ 0
    go true h z = eqb-true n 0 h
    go false h z = let r : RuleNumber = record { 0 = n } in absurd (none-some r z)

-- ---- all_true: those up to i, and what is left from i

module _ (os : List Bool) (i : ℕ) (a : Bool) (e : all_true os ≡ (a && all_true (drop i os))) where
  pub true-more : i < length os → all_true os ≡ ((a && get_or os i false) && all_true (drop (i + 1) os))
  unfolding all_true
  true-more h = e ∙ rw (add-one, drop-cons os i false) (sym (and_assoc a (get_or os i false) (all_true (drop (suc i) os))))

  pub true-all : length os ≤ i → a ≡ all_true os
  unfolding all_true
  true-all h = sym (e ∙ rw drop_of_length-le (and-true a))
