-- Laws of a list of tests: one set for every function that refuses.
use mathlib.Core.Path.{◌≡◌, refl, sym, ap, ◌∙◌}
use mathlib.Core.Bool.{Bool, true, false, not, ◌&&◌, false≢true, true≢false}
use mathlib.Core.List.{List, [], ◌∷◌, ◌++◌}
use Prim.Native.Nat.{ℕ, zero, suc}
use native.Mathlib.Omega.{arith}
use borrow.Author.Tests.{lt-ltb, le-ltb, eq-eqb, ne_eqb}
use lib.Dec.{eqb}
use Rattle.texts.proofs.Bools.{both}
use Rattle.texts.specs.Answers.{Answer, success, refusal, number_of, Test, test, passes, answer_by, buffer_by}

-- a refusal is no success
pub no-success : (n : ℕ) (vs ws : List ℕ) → refusal n vs ≡ success ws → ⊥
no-success n vs ws e = let z : ◌≡◌ {A = ℕ} 0 1 = cc in omega arith

-- each test is false
abbrev pub NoneOf : List Test → Type 0
NoneOf [] = Unit
NoneOf (test b n vs ∷ ts) = (b ≡ false) × NoneOf ts

pub none_of : (ts : List Test) → passes ts ≡ true → NoneOf ts
none_of [] e = tt
none_of (test true n vs ∷ ts) e = absurd (false≢true e)
none_of (test false n vs ∷ ts) e = (refl, none_of ts e)

-- where no test is true, the answer is a success, and only there
module _ (vs ws : List ℕ) where
  pub succeeds : (ts : List Test) → passes ts ≡ true → answer_by ts vs ≡ success vs
  succeeds [] e = refl
  succeeds (test true n us ∷ ts) e = absurd (false≢true e)
  succeeds (test false n us ∷ ts) e = succeeds ts e

  pub succeeded : (ts : List Test) → success ws ≡ answer_by ts vs → (passes ts ≡ true) × (ws ≡ vs)
  succeeded [] e = (refl, cc)
  succeeded (test true n us ∷ ts) e = let z : ◌≡◌ {A = ℕ} 0 1 = cc in absurd (omega arith)
  succeeded (test false n us ∷ ts) e = succeeded ts e

  -- a refusal stands, whatever is tested after it
  pub refused : (n : ℕ) (us : List ℕ) (ts rs : List Test) → refusal n us ≡ answer_by ts vs → (passes (ts ++ rs) ≡ false) × (refusal n us ≡ answer_by (ts ++ rs) ws)
  refused n us [] rs e = absurd (no-success n us vs e)
  refused n us (test true k xs ∷ ts) rs e = (refl, e)
  refused n us (test false k xs ∷ ts) rs e = refused n us ts rs e

-- what is not a success changes no buffer
pub unchanged : (vs new old : List ℕ) (ts : List Test) → (answer_by ts vs ≡ success vs → ⊥) → buffer_by ts new old ≡ old
unchanged vs new old [] n = absurd (n refl)
unchanged vs new old (test true k us ∷ ts) n = refl
unchanged vs new old (test false k us ∷ ts) n = unchanged vs new old ts n

-- a number that no test has is not refused with
abbrev pub lacks : ℕ → List Test → Bool
lacks k [] = true
lacks k (test b n vs ∷ ts) = not (eqb n k) && lacks k ts

pub never : (k : ℕ) (vs : List ℕ) (ts : List Test) → (k ≡ 0 → ⊥) → lacks k ts ≡ true → number_of (answer_by ts vs) ≡ k → ⊥
never k vs [] z l e = z (sym e)
never k vs (test true n us ∷ ts) z l e = false≢true (sym (ap not (eq-eqb n k e)) ∙ (both (not (eqb n k)) (lacks k ts) l).0)
never k vs (test false n us ∷ ts) z l e = never k vs ts z (both (not (eqb n k)) (lacks k ts) l).1 e

pub fails : (ts us : List Test) → passes ts ≡ false → passes (ts ++ us) ≡ false
fails [] us e = absurd (true≢false e)
fails (test true n vs ∷ ts) us e = refl
fails (test false n vs ∷ ts) us e = fails ts us e

-- where no test is true, those that follow decide
module _ (us : List Test) (vs : List ℕ) where
  pub more : (ts : List Test) → passes ts ≡ true → (passes (ts ++ us) ≡ passes us) × (answer_by (ts ++ us) vs ≡ answer_by us vs)
  more [] e = (refl, refl)
  more (test true n ws ∷ ts) e = absurd (false≢true e)
  more (test false n ws ∷ ts) e = more ts e

-- the ways out of a list of tests: a test that is true behind tests that are not gives its refusal, one that is not leads on, and past the
-- last is success; R is what follows from the answer a and from what is left, e
module _ (ws new old : List ℕ) (a : Answer) (e : List ℕ) (R : Type 0) where
  abbrev pub Way : ℕ → List Test → Type 0
  Way k [] = a ≡ success ws → e ≡ new → R
  Way zero (test b n vs ∷ ts) = b ≡ true → a ≡ refusal n vs → e ≡ old → R
  Way (suc k) (test b n vs ∷ ts) = b ≡ false → Way k ts

  pub way_out : (k : ℕ) (ts : List Test) → (a ≡ answer_by ts ws → e ≡ buffer_by ts new old → R) → Way k ts
  way_out k [] f = f
  way_out zero (test b n vs ∷ ts) f = λ w p q. f (rw w p) (rw w q)
  way_out (suc k) (test b n vs ∷ ts) f = λ w. way_out k ts (λ p q. f (rw w p) (rw w q))

-- what the code compared, as a test says it; w is its outcome in a call
module _ (b : Bool) where
  pub not-of-true : b ≡ true → not b ≡ false
  not-of-true e = rw e

  pub not_of_false : b ≡ false → not b ≡ true
  not_of_false e = rw e

  pub not-as : (w z : Bool) → w ≡ b → not w ≡ z → not b ≡ z
  not-as w z e h = rw (← e) h

pub ruleset tested = (lt-ltb, le-ltb, eq-eqb, ne_eqb, not-of-true, not_of_false, not-as)
