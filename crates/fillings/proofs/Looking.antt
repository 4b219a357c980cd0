-- Looking through a list for the first that passes: what it finds, and that it finds nothing exactly where none passes.
use mathlib.Core.Path.{◌≡◌, refl, sym, ap, ◌∙◌, subst}
use mathlib.Core.Logic.{⊎_elim}
use mathlib.Core.Bool.{Bool, true, false, cond}
use mathlib.Core.List.Memᴰ
use mathlib.Core.List.{List, [], ◌∷◌, ◌++◌, map, append-nil, Memᴰ}
use Prim.Native.Nat.{ℕ, suc, ◌+◌}
use native.Mathlib.Omega.{arith}
use lib.ListN.{length}
use Rattle.fillings.specs.Fillings.{Look, found, none, look}
use Rattle.fillings.specs.Working.Parts.{map_look, or_else}

module _ {A : Type 0} (p : A → Bool) where
  abbrev pub NonePass : List A → Type 0
  NonePass l = (g : A) → Memᴰ g l → p g ≡ false

  none-cons : (x : A) (l : List A) → p x ≡ false → NonePass l → NonePass (x ∷ l)
  none-cons x l e h g m = ⊎_elim (λ (q : g ≡ x). ap p q ∙ e) (λ (q : Memᴰ g l). h g q) (Memᴰ.cases_cons m)

  -- t is the first of l that passes, and it is the n-th
  pub record First (l : List A) (n : ℕ) (t : A) : Type 0 where
    pub before : List A
    pub after : List A
    pub split : l ≡ before ++ (t ∷ after)
    pub place : n ≡ suc (length before)
    pub passes : p t ≡ true
    pub fails : NonePass before

  -- what a look saw, m having been passed before
  abbrev Seen : List A → ℕ → Look A → Type 0
  Seen l m (found n t) = (k : ℕ) × (n ≡ m + k) × First l k t
  Seen l m (none n) = (n ≡ m + length l) × NonePass l

  seen_more : (x : A) (l : List A) (m : ℕ) (o : Look A) → p x ≡ false → Seen l (m + 1) o → Seen (x ∷ l) m o
  seen_more x l m (found n t) e w =
      let f = w.2 in (
        suc w.0,
        omega (arith, w.1),
        record {
          before = x ∷ f.before;
          after = f.after;
          split = ap (λ (k : List A). x ∷ k) f.split;
          place = ap suc f.place;
          passes = f.passes;
          fails = none-cons x f.before e f.fails;
        },
      )
  seen_more x l m (none n) e w = (omega (arith, w.0), none-cons x l e w.1)

  seen : (l : List A) (m : ℕ) → Seen l m (look p m l)
  unfolding look
  seen [] m = (omega arith, λ g q. absurd (Memᴰ.not-nil q))
  seen (x ∷ l) m = go (p x) refl (seen l (m + 1))
    where
      go : (b : Bool) → p x ≡ b → Seen l (m + 1) (look p (m + 1) l) → Seen (x ∷ l) m (cond b (found (m + 1) x) (look p (m + 1) l))
      go true e w =
          (1, refl, record { before = []; after = l; split = refl; place = refl; passes = e; fails = λ g q. absurd (Memᴰ.not-nil q) })
      go false e w = seen_more x l m (look p (m + 1) l) e w

  pub look-found : (l : List A) (n : ℕ) (t : A) → look p 0 l ≡ found n t → First l n t
  look-found l n t e =
      let w = subst (Seen l 0) e (seen l 0) in
      subst (λ (k : ℕ). First l k t) (omega (arith, w.1)) w.2

  pub look-member : (l : List A) (n : ℕ) (t : A) → look p 0 l ≡ found n t → Memᴰ t l
  look-member l n t e = let w = look-found l n t e in subst (Memᴰ t) (sym w.split) (Memᴰ.append_right w.before (Memᴰ.head refl))

  pub look_none : (l : List A) (n : ℕ) → look p 0 l ≡ none n → (n ≡ length l) × NonePass l
  look_none l n e =
      let w = subst (Seen l 0) e (seen l 0) in
      (omega (arith, w.0), w.1)

  -- looking goes over what does not pass; where nothing passes, all are counted
  pub look-over : (l r : List A) (n : ℕ) → NonePass l → look p n (l ++ r) ≡ look p (n + length l) r
  unfolding look
  look-over [] r n h = ap (λ (k : ℕ). look p k r) (omega arith)
  look-over (x ∷ l) r n h =
      rw (h x (Memᴰ.head refl)) (look-over l r (n + 1) (λ g m. h g (Memᴰ.tail m)) ∙ ap (λ (k : ℕ). look p k r) (omega arith))

  pub none-look : (l : List A) (n : ℕ) → NonePass l → look p n l ≡ none (n + length l)
  unfolding look
  none-look l n h = ap (look p n) (sym (append-nil l)) ∙ look-over l [] n h

  -- what was found in a part, or what is found in the rest
  pub look-append : (l r : List A) (n : ℕ) → look p n (l ++ r) ≡ or_else (look p n l) (λ (m : ℕ). look p m r)
  unfolding look
  look-append [] r n = refl
  look-append (x ∷ l) r n = go (p x) (look-append l r (n + 1))
    where
      go : (b : Bool) → look p (n + 1) (l ++ r) ≡ or_else (look p (n + 1) l) (λ (m : ℕ). look p m r)
          → cond b (found (n + 1) x) (look p (n + 1) (l ++ r)) ≡ or_else (cond b (found (n + 1) x) (look p (n + 1) l)) (λ (m : ℕ). look p m r)
      go true e = refl
      go false e = e

-- looking through what is made of a list
pub look-map : {X Y : Type 0} (p : Y → Bool) (h : X → Y) (l : List X) (n : ℕ) → look p n (map h l) ≡ map_look h (look (λ (x : X). p (h x)) n l)
unfolding look
look-map p h [] n = refl
look-map {X} {Y} p h (x ∷ xs) n = rw (look-map p h xs (n + 1)) (go (p (h x)) (look (λ (y : X). p (h y)) (n + 1) xs))
  where
    go : (b : Bool) (r : Look X) → cond b (found (n + 1) (h x)) (map_look h r) ≡ map_look h (cond b (found (n + 1) x) r)
    go true r = refl
    go false r = refl
