-- The list of fillings is in order, so that the place in the list is the place in the order.
use mathlib.Core.Path.{◌≡◌, refl, sym, ap, ◌∙◌, subst, subst₂}
use mathlib.Core.Logic.{⊎_elim}
use mathlib.Core.Bool.{true, false, not}
use mathlib.Core.List.Memᴰ
use mathlib.Core.List.{List, [], ◌∷◌, ◌++◌, map, Memᴰ}
use Prim.Native.Nat.{ℕ, zero, suc, ◌<◌}
use native.Mathlib.Omega.{arith}
use lib.ListN.{length, get_or}
use Rattle.texts.specs.Texts.{any, same}
use Rattle.texts.proofs.Bools.{both}
use Rattle.texts.proofs.Codes.{same_self}
use Rattle.sheets.specs.Sheet.{Sheet, slots, cell_of, sheet_size, slot_count}
use Rattle.fillings.specs.Fillings.{Lists, distinct, choices, entry_place, each, product, joined, fillings, Filling, Earlier, Place}
use Rattle.fillings.specs.Working.Proper.{Proper}
use Rattle.fillings.proofs.EveryFilling.{Drawn, each-cases, product-drawn, at_slots, drawn-cell, filling-of, of-filling}
use Rattle.fillings.proofs.Distinct.{choice-once, distinct-not}
use Rattle.fillings.proofs.Strict.{earlier-strict}

-- ---- lists in order

module _ {A : Type 0} (R : A → A → Type 0) where
  -- each comes before all that follow
  abbrev Ordered : List A → Type 0
  Ordered [] = Unit {0}
  Ordered (a ∷ l) = ((b : A) → Memᴰ b l → R a b) × Ordered l

  ordered-append : (l k : List A) → Ordered l → Ordered k → ((a b : A) → Memᴰ a l → Memᴰ b k → R a b) → Ordered (l ++ k)
  ordered-append [] k p q x = q
  ordered-append (a ∷ l) k p q x = (
    λ b m. ⊎_elim (λ (s : Memᴰ b l). p.0 b s) (λ (s : Memᴰ b k). x a b (Memᴰ.head refl) s) (Memᴰ.append_cases l m),
    ordered-append l k p.1 q (λ c b m s. x c b (Memᴰ.tail m) s),
  )

  -- the part before an entry is in order; what stands before and behind the entry
  ordered-split : (p : List A) (f : A) (q : List A) → Ordered (p ++ (f ∷ q)) → Ordered p × ((a : A) → Memᴰ a p → R a f) × ((b : A) → Memᴰ b q → R f b)
  ordered-split [] f q o = (tt, λ a m. absurd (Memᴰ.not-nil m), o.0)
  ordered-split (x ∷ p) f q o =
      let w = ordered-split p f q o.1 in (
        (λ b m. o.0 b (Memᴰ.append_left (f ∷ q) m), w.0),
        λ a m.
            ⊎_elim
            (λ (e : a ≡ x). subst (λ (z : A). R z f) (sym e) (o.0 f (Memᴰ.append_right p (Memᴰ.head refl))))
            (λ (s : Memᴰ a p). w.1 a s)
            (Memᴰ.cases_cons m),
        w.2,
      )

-- an order carried over a function, for the members of the list
ordered-map : {A B : Type 0} (R : A → A → Type 0) (S : B → B → Type 0) (f : A → B) (l : List A)
    → ((a b : A) → Memᴰ a l → Memᴰ b l → R a b → S (f a) (f b)) → Ordered R l → Ordered S (map f l)
ordered-map R S f [] h o = tt
ordered-map {A} {B} R S f (a ∷ l) h o = (
  λ b m.
      let w = Memᴰ.of_map f l m in
      subst (S (f a)) w.2 (h a w.0 (Memᴰ.head refl) (Memᴰ.tail w.1) (o.0 w.0 w.1)),
  ordered-map R S f l (λ c b m s. h c b (Memᴰ.tail m) (Memᴰ.tail s)) o.1,
)

-- ---- the places of entries in their lists

abbrev Before : List (List ℕ) → List ℕ → List ℕ → Type 0
Before c x y = entry_place c x < entry_place c y

-- a list in which none stands twice is in the order of its places
carried : (c : List (List ℕ)) (y : List ℕ) (l : List (List ℕ)) → ((a : List ℕ) → Memᴰ a l → same a y ≡ false) → Ordered (Before c) l → Ordered (Before (y ∷ c)) l
carried c y [] n o = tt
carried c y (x ∷ l) n o = (
  λ b m. rw (n x (Memᴰ.head refl), n b (Memᴰ.tail m)) (omega (arith, o.0 b m)),
  carried c y l (λ a m. n a (Memᴰ.tail m)) o.1,
)

distinct-ordered : (c : List (List ℕ)) → distinct c ≡ true → Ordered (Before c) c
unfolding distinct
distinct-ordered [] h = tt
distinct-ordered (x ∷ c) h =
    let p = both (not (any (same x) c)) (distinct c) h in
    let n : (y : List ℕ) → Memᴰ y c → same y x ≡ false = λ y m. (distinct-not x c p.0 y m).0 in
    (λ b m. rw (same_self x, n b m) (omega arith), carried c x c n (distinct-ordered c p.1))

-- two picks differ first at some list, where the first has the earlier entry
record Differs (cs : List (List (List ℕ))) (r t : List (List ℕ)) : Type 0 where
  at : ℕ
  inside : at < length cs
  same : (j : ℕ) → j < at → get_or r j [] ≡ get_or t j []
  less : Before (get_or cs at []) (get_or r at []) (get_or t at [])

module _ (c : List (List ℕ)) (cs : List (List (List ℕ))) where
  differs-first : (x y : List ℕ) (r t : List (List ℕ)) → Before c x y → Differs (c ∷ cs) (x ∷ r) (y ∷ t)
  differs-first x y r t l = record { at = 0; inside = omega arith; same = λ j h. absurd (omega arith); less = l }

  differs-later : (x : List ℕ) (r t : List (List ℕ)) → Differs cs r t → Differs (c ∷ cs) (x ∷ r) (x ∷ t)
  differs-later x r t w = record { at = suc w.at; inside = omega (arith, w.inside); same = below; less = w.less }
    where
      below : (j : ℕ) → j < suc w.at → get_or (x ∷ r) j [] ≡ get_or (x ∷ t) j []
      below zero h = refl
      below (suc j) h = w.same j (omega arith)

  each-ordered : (xs : List (List ℕ)) (ps : List (List (List ℕ))) → Ordered (Before c) xs → Ordered (Differs cs) ps → Ordered (Differs (c ∷ cs)) (each xs ps)
  each-ordered [] ps u o = tt
  each-ordered (x ∷ xs) ps u o =
      let front : List (List ℕ) → List (List ℕ) = λ t. x ∷ t in
      ordered-append (Differs (c ∷ cs)) (map front ps) (each xs ps)
      (ordered-map (Differs cs) (Differs (c ∷ cs)) front ps (λ a b m s h. differs-later x a b h) o)
      (each-ordered xs ps u.1 o)
      (λ a b m s.
      let v = Memᴰ.of_map front ps m in
      let w = each-cases xs ps b s in
      subst₂ (Differs (c ∷ cs)) v.2 w.4 (differs-first x w.0 v.0 w.1 (u.0 w.0 w.2)))

-- ---- fillings

product-ordered : {L : Lists} → Proper L → (s : Sheet) (ks : List ℕ) → Ordered (Differs (map (choices L s) ks)) (product (map (choices L s) ks))
product-ordered P s [] = (λ b m. absurd (Memᴰ.not-nil m), tt)
product-ordered {L} P s (k ∷ ks) =
    let c = choices L s k in
    each-ordered c (map (choices L s) ks) c (product (map (choices L s) ks)) (distinct-ordered c (choice-once P s k)) (product-ordered P s ks)

module _ {L : Lists} (P : Proper L) (s : Sheet) (sized : length s ≡ sheet_size) where
  differs-earlier : (r t : List (List ℕ)) → Drawn (map (choices L s) slots) r → Drawn (map (choices L s) slots) t → Differs (map (choices L s) slots) r t → Earlier L s (joined r) (joined t)
  differs-earlier r t dr dt w =
      let i : w.at < slot_count = w.inside in
      let cr : (k : ℕ) → k < slot_count → cell_of (joined r) k ≡ get_or r k [] = drawn-cell P s sized r dr in
      let ct : (k : ℕ) → k < slot_count → cell_of (joined t) k ≡ get_or t k [] = drawn-cell P s sized t dt in
      record {
        at = w.at;
        inside = i;
        same = λ j l. cr j (omega arith) ∙ w.same j l ∙ sym (ct j (omega arith));
        less = rw (cr w.at i, ct w.at i, ← at_slots (choices L s) [] w.at i) w.less;
      }

  fillings-ordered : Ordered (Earlier L s) (fillings L s)
  unfolding fillings
  fillings-ordered =
      let cs = map (choices L s) slots in
      ordered-map (Differs cs) (Earlier L s) joined (product cs)
      (λ a b m k h. differs-earlier a b (product-drawn cs a m) (product-drawn cs b k) h)
      (product-ordered P s slots)

  -- no entry of a part of the list in order stands in it twice
  once-ordered : (l : List (List ℕ)) → Ordered (Earlier L s) l → (a b c : List (List ℕ)) (g : List ℕ) → l ≡ a ++ (g ∷ (b ++ (g ∷ c))) → ⊥
  once-ordered l o a b c g e =
      let w = ordered-split (Earlier L s) a g (b ++ (g ∷ c)) (subst (Ordered (Earlier L s)) e o) in
      let x : Earlier L s g g = w.2 g (Memᴰ.append_right b (Memᴰ.head refl)) in
      earlier-strict s g g x x

  pub once-all : (a b c : List (List ℕ)) (g : List ℕ) → fillings L s ≡ a ++ (g ∷ (b ++ (g ∷ c))) → ⊥
  once-all = once-ordered (fillings L s) fillings-ordered

  module _ (before after : List (List ℕ)) (t : List ℕ) (split : fillings L s ≡ before ++ (t ∷ after)) where
    in_order : Ordered (Earlier L s) before × ((g : List ℕ) → Memᴰ g before → Earlier L s g t) × ((g : List ℕ) → Memᴰ g after → Earlier L s t g)
    in_order = ordered-split (Earlier L s) before t after (subst (Ordered (Earlier L s)) split fillings-ordered)

    pub earlier-before : (g : List ℕ) → Filling L s g → Earlier L s g t → Memᴰ g before
    earlier-before g p q =
        ⊎_elim
        (λ (m : Memᴰ g before). m)
        (λ (m : Memᴰ g (t ∷ after)).
        absurd
        (⊎_elim
        (λ (e : g ≡ t). earlier-strict s g t q (subst₂ (Earlier L s) e (sym e) q))
        (λ (k : Memᴰ g after). earlier-strict s g t q (in_order.2 g k))
        (Memᴰ.cases_cons m)))
        (Memᴰ.append_cases before (subst (Memᴰ g) split (of-filling P s sized g p)))

    -- the place in the list is the place in the order
    pub place_of : Place L s t (suc (length before))
    place_of = record {
      list = before;
      count = refl;
      holds = λ g. (
        λ m. (filling-of P s sized g (subst (Memᴰ g) (sym split) (Memᴰ.append_left (t ∷ after) m)), in_order.1 g m),
        λ p. earlier-before g p.0 p.1,
      );
      once = once-ordered before in_order.0;
    }
