-- What is kept of a list, of a product of lists, and of what was looked through.
use mathlib.Core.Path.{◌≡◌, refl, sym, ap, ◌∙◌, fun_ext}
use mathlib.Core.Bool.{Bool, true, false, not, cond, ◌&&◌}
use mathlib.Core.List.{List, [], ◌∷◌, ◌++◌, map, Memᴰ}
use Prim.Native.Nat.{ℕ, zero, suc, ◌+◌, ◌<◌, ◌≤◌}
use native.Mathlib.Omega.{arith}
use lib.ListN.{length, get_or}
use Rattle.texts.specs.Texts.{any, same}
use Rattle.texts.proofs.Bools.{both}
use Rattle.texts.proofs.Codes.{same_self}
use Rattle.fillings.specs.Fillings.{distinct, each, product, found, look}
use Rattle.fillings.specs.Working.Places.{places}
use Rattle.fillings.proofs.Distinct.{distinct-not}
use Rattle.fillings.proofs.Looking.{First, look-over}

abbrev pub keep : {A : Type 0} → (A → Bool) → List A → List A
keep q [] = []
keep q (x ∷ l) = cond (q x) (x ∷ keep q l) (keep q l)

module _ {A : Type 0} (q : A → Bool) where
  pub keep_all : (l : List A) → ((x : A) → Memᴰ x l → q x ≡ true) → keep q l ≡ l
  keep_all [] h = refl
  keep_all (x ∷ l) h = rw (h x (Memᴰ.head refl)) (ap (λ (k : List A). x ∷ k) (keep_all l (λ y m. h y (Memᴰ.tail m))))

  pub keep-none : (l : List A) → ((x : A) → Memᴰ x l → q x ≡ false) → keep q l ≡ []
  keep-none [] h = refl
  keep-none (x ∷ l) h = rw (h x (Memᴰ.head refl)) (keep-none l (λ y m. h y (Memᴰ.tail m)))

  keep_append : (l k : List A) → keep q (l ++ k) ≡ keep q l ++ keep q k
  keep_append [] k = refl
  keep_append (x ∷ l) k = rw (keep_append l k) (go (q x))
    where
      go : (b : Bool) → cond b (x ∷ (keep q l ++ keep q k)) (keep q l ++ keep q k) ≡ cond b (x ∷ keep q l) (keep q l) ++ keep q k
      go true = refl
      go false = refl

  keep-member : (l : List A) (y : A) → Memᴰ y (keep q l) → Memᴰ y l
  keep-member [] y m = m
  keep-member (x ∷ l) y m = go (q x) (keep-member l y) m
    where
      go : (b : Bool) → (Memᴰ y (keep q l) → Memᴰ y l) → Memᴰ y (cond b (x ∷ keep q l) (keep q l)) → Memᴰ y (x ∷ l)
      go true h (Memᴰ.head e) = Memᴰ.head e
      go true h (Memᴰ.tail m) = Memᴰ.tail (h m)
      go false h m = Memᴰ.tail (h m)

  length-keep : (l : List A) → length (keep q l) ≤ length l
  length-keep [] = omega arith
  length-keep (x ∷ l) = go (q x) (length-keep l)
    where
      go : (b : Bool) → length (keep q l) ≤ length l → length (cond b (x ∷ keep q l) (keep q l)) ≤ suc (length l)
      go true h = omega arith
      go false h = omega arith

keep-map : {A B : Type 0} (q : B → Bool) (g : A → B) (l : List A) → keep q (map g l) ≡ map g (keep (λ (x : A). q (g x)) l)
keep-map q g [] = refl
keep-map {A} {B} q g (x ∷ l) = rw (keep-map q g l) (go (q (g x)))
  where
    go : (b : Bool) → cond b (g x ∷ map g (keep (λ (y : A). q (g y)) l)) (map g (keep (λ (y : A). q (g y)) l)) ≡ map g (cond b (x ∷ keep (λ (y : A). q (g y)) l) (keep (λ (y : A). q (g y)) l))
    go true = refl
    go false = refl

-- of a list in which none stands twice, one member
pub keep_one : (x : List ℕ) {c : List (List ℕ)} → Memᴰ x c → distinct c ≡ true → keep (λ (y : List ℕ). same y x) c ≡ x ∷ []
unfolding distinct
keep_one x (Memᴰ.head {x = y} {xs = c} e) h =
    let p = both (not (any (same y) c)) (distinct c) h in
    let n = keep-none (λ (z : List ℕ). same z x) c (λ z m. ap (same z) e ∙ (distinct-not y c p.0 z m).0) in
    rw (← e, same_self x, n)
keep_one x (Memᴰ.tail {x = y} {xs = c} m) h =
    let p = both (not (any (same y) c)) (distinct c) h in
    rw (distinct-not y c p.0 x m).1 (keep_one x m p.1)

-- ---- of products

module _ {A : Type 0} where
  -- a pick passes at each of some slots
  abbrev pub each_passes : (ℕ → A → Bool) → List ℕ → List A → Bool
  each_passes q [] r = true
  each_passes q (k ∷ ks) [] = true
  each_passes q (k ∷ ks) (x ∷ r) = q k x && each_passes q ks r

  each_keep : (p : A → Bool) (Q Q' : List A → Bool) → ((x : A) (r : List A) → Q' (x ∷ r) ≡ (p x && Q r)) → (c : List A) (R : List (List A)) → each (keep p c) (keep Q R) ≡ keep Q' (each c R)
  each_keep p Q Q' e [] R = refl
  each_keep p Q Q' e (x ∷ c) R = go (p x) refl (each_keep p Q Q' e c R) ∙ sym (keep_append Q' (map (λ (r : List A). x ∷ r) R) (each c R))
    where
      go : (b : Bool) → p x ≡ b → each (keep p c) (keep Q R) ≡ keep Q' (each c R)
          → each (cond b (x ∷ keep p c) (keep p c)) (keep Q R) ≡ keep Q' (map (λ (r : List A). x ∷ r) R) ++ keep Q' (each c R)
      go true h i =
          let front : List A → List A = λ r. x ∷ r in
          let f : keep Q' (map front R) ≡ map front (keep Q R) = keep-map Q' front R ∙ ap (λ (q : List A → Bool). map front (keep q R)) (fun_ext (λ r. e x r ∙ ap (λ (b : Bool). b && Q r) h)) in
          λ j. sym f j ++ i j
      go false h i =
          let front : List A → List A = λ r. x ∷ r in
          let f : keep Q' (map front R) ≡ [] = keep-map Q' front R ∙ ap (map front) (keep-none (λ (r : List A). Q' (x ∷ r)) R (λ r m. e x r ∙ ap (λ (b : Bool). b && Q r) h)) in
          λ j. sym f j ++ i j

  pub product-keep : (q : ℕ → A → Bool) (c : ℕ → List A) (ks : List ℕ) → product (map (λ (k : ℕ). keep (q k) (c k)) ks) ≡ keep (each_passes q ks) (product (map c ks))
  product-keep q c [] = refl
  product-keep q c (k ∷ ks) = ap (each (keep (q k) (c k))) (product-keep q c ks) ∙ each_keep (q k) (each_passes q ks) (each_passes q (k ∷ ks)) (λ x r. refl) (c k) (product (map c ks))

  pub all_pass : (q : ℕ → A → Bool) (d : A) (n i : ℕ) (r : List A) → ((j : ℕ) → j < n → q (i + j) (get_or r j d) ≡ true) → each_passes q (places n i) r ≡ true
  unfolding places
  all_pass q d zero i r h = refl
  all_pass q d (suc n) i [] h = refl
  all_pass q d (suc n) i (x ∷ r) h =
      let a : q i x ≡ true = ap (λ (k : ℕ). q k x) (omega arith) ∙ h 0 (omega arith) in
      rw a (all_pass q d n (suc i) r (λ j l. ap (λ (k : ℕ). q k (get_or r j d)) (omega arith) ∙ h (suc j) (omega arith)))

-- ---- of a look

pub keep-first : {A : Type 0} (p q : A → Bool) (l : List A) (n : ℕ) (t : A) → First p l n t → q t ≡ true → (m : ℕ) × (look p 0 (keep q l) ≡ found m t) × (m ≤ n)
unfolding look
keep-first p q l n t w e =
    let b = keep q w.before in
    let s : keep q l ≡ b ++ (t ∷ keep q w.after) = ap (keep q) w.split ∙ keep_append q w.before (t ∷ w.after) ∙ rw e in (
      0 + length b + 1,
      ap (look p 0) s ∙ look-over p b (t ∷ keep q w.after) 0 (λ g m. w.fails g (keep-member q w.before g m)) ∙ rw w.passes,
      omega (arith, w.place, length-keep q w.before),
    )
