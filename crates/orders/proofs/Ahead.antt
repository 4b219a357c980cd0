-- R-3: a rule of the test ahead has one verdict, and one field, for all fillings of a sheet.
use mathlib.Core.Path.{◌≡◌, refl, sym, ap, ◌∙◌, subst}
use mathlib.Core.Bool.{Bool, true, false, not, cond, ◌&&◌, ◌||◌, and-true}
use mathlib.Core.List.{List, [], ◌∷◌, map, Memᴰ}
use Prim.Native.Nat.{ℕ, zero, suc, ◌<◌, ◌≤◌}
use native.Mathlib.Omega.{arith}
use borrow.Author.Tests.{ltb-true}
use lib.Dec.{ltb}
use lib.ListN.{length, get_or}
use Rattle.texts.specs.Texts.{every, any, are, among, blank}
use Rattle.sheets.specs.Sheet.{Sheet, slot_of, cell_of, text_of, field_in, given, sheet_size}
use Rattle.sheets.specs.Working.Entries.{basis_count, zero_count}
use Rattle.sheets.specs.Dates.{force_of, status_count}
use Rattle.sheets.proofs.InForce.{count-is, count-bounds}
use Rattle.rules.specs.Rules.{budget, needed, first_blank, rules, ahead, test_of, field_of, keeps, first_not}
use Rattle.rules.specs.Working.Groups.{AlikeBut, spare}
use Rattle.rules.proofs.Reading.{spared, spared-class}
use Rattle.sheets.specs.declared.dates.Dates.{Dates}
use Rattle.fillings.specs.Fillings.{width, product}
use Rattle.fillings.specs.Working.Places.{places}
use Rattle.fillings.proofs.EveryFilling.{every-mem, choice-given, filling-of}
use Rattle.orders.specs.Fillings.{fillings, Filling}
use Rattle.orders.specs.Working.Entering.{base_of, picked_of, varying}
use Rattle.orders.specs.Working.Search.{picks}
use Rattle.orders.specs.Pretest.{none_keeps, broken_by_all, named_field}
use Rattle.orders.proofs.Lists.{proper}
use Rattle.orders.proofs.Keeping.{picked-alike, base-budget, base-length, fillings-are, of-base}

-- ---- lists of which a test is the same

module _ (p q : ℕ → Bool) where
  first_alike : (ns : List ℕ) → ((n : ℕ) → Memᴰ n ns → p n ≡ q n) → first_not p ns ≡ first_not q ns
  unfolding first_not
  first_alike [] e = refl
  first_alike (n ∷ ns) e = λ i. cond (e n (Memᴰ.head refl) i) (first_alike ns (λ k m. e k (Memᴰ.tail m)) i) n

  pub every-alike : (ns : List ℕ) → ((n : ℕ) → Memᴰ n ns → p n ≡ q n) → every p ns ≡ every q ns
  unfolding every
  every-alike [] e = refl
  every-alike (n ∷ ns) e = λ i. e n (Memᴰ.head refl) i && every-alike ns (λ k m. e k (Memᴰ.tail m)) i

at-member : {A : Type 0} (f h : ℕ → A) {n : ℕ} {l : List ℕ} → map f l ≡ map h l → Memᴰ n l → f n ≡ h n
at-member f h e (Memᴰ.head q) = cc
at-member f h e (Memᴰ.tail {xs = l} m) = let c : map f l ≡ map h l = cc in at-member f h c m

-- ---- what is blank in a filling

module _ (D : Dates) (s : Sheet) where
  -- two fillings
  module _ (size : length s ≡ sheet_size) (g h : Sheet) (wg : Filling D s g) (wh : Filling D s h) where
    given-alike : (k : ℕ) → k < 15 → given g k ≡ given h k
    unfolding given text_of
    given-alike k l = choice-given (proper D) s k (cell_of g k) (wg.slot k l) ∙ sym (choice-given (proper D) s k (cell_of h k) (wh.slot k l))

    blank-alike : (ks : List ℕ) → ((k : ℕ) → Memᴰ k ks → k < 15) → first_blank g ks ≡ first_blank h ks
    unfolding first_blank
    blank-alike [] b = refl
    blank-alike (k ∷ ks) b = λ i. cond (given-alike k (b k (Memᴰ.head refl)) i) (blank-alike ks (λ j m. b j (Memᴰ.tail m)) i) (field_in k)

    needed-below : (k : ℕ) → Memᴰ k needed → k < 15
    unfolding every slot_of
    needed-below k m = ltb-true k 15 (every-mem (λ (j : ℕ). ltb j 15) {l = needed} refl m)

    -- no other field than 101, 106, 108 and 109 differs
    pub alike : AlikeBut varying g h
    alike k e = sym (of-base D s size g wg k e) ∙ of-base D s size h wh k e

    -- rule 6 asks of the four only whether they are blank
    six : keeps D g 6 ≡ keeps D h 6
    unfolding every any are among keeps rules test_of
    six = λ i. not (spared-class D varying g h alike refl i) || every-alike (given g) (given h) needed (λ k m. given-alike k (needed-below k m)) i

    one : (n : ℕ) → spare varying (n ∷ []) ≡ true → keeps D g n ≡ keeps D h n
    unfolding every
    one n e = sym (and-true (keeps D g n)) ∙ spared D varying g h alike (n ∷ []) e ∙ and-true (keeps D h n)

    verdicts-alike : map (keeps D g) ahead ≡ map (keeps D h) ahead
    unfolding every any are among
    verdicts-alike =
        λ i. one 5 refl i ∷ six i ∷ one 7 refl i ∷ one 8 refl i ∷ one 9 refl i ∷ one 11 refl i ∷ one 12 refl i ∷ one 13 refl i ∷ one 14 refl i ∷ one 16 refl i ∷ one 22 refl i ∷ one 28 refl i ∷ []

    fields-alike : map (λ (n : ℕ). field_of rules n g) ahead ≡ map (λ (n : ℕ). field_of rules n h) ahead
    unfolding field_of rules
    fields-alike = λ i. 17 ∷ blank-alike needed needed-below i ∷ 22 ∷ 60 ∷ 61 ∷ 102 ∷ 103 ∷ 104 ∷ 105 ∷ 107 ∷ 22 ∷ 104 ∷ []

-- ---- the first filling

first-place : (b : Bool) (n : ℕ) → 1 ≤ n → (t : List ℕ) × (places (width b n) 0 ≡ 0 ∷ t)
unfolding places
first-place b zero h = absurd (omega arith)
first-place true (suc n) h = (places n 1, refl)
first-place false (suc n) h = ([], refl)

abbrev zeros : List ℕ
zeros = 0 ∷ 0 ∷ 0 ∷ 0 ∷ []

picks_first : (D : Dates) (u : Sheet) → (ps : List (List ℕ)) × (picks D u ≡ zeros ∷ ps)
unfolding picks
picks_first D u =
    let a = first-place (blank (text_of u 6)) (status_count D) (omega (arith, count-is (force_of D), (count-bounds (force_of D)).0)) in
    let b = first-place (blank (text_of u 11)) basis_count (omega arith) in
    let c = first-place (blank (text_of u 13)) zero_count (omega arith) in
    let d = first-place (blank (text_of u 14)) zero_count (omega arith) in
    (_, λ i. product (a.1 i ∷ b.1 i ∷ c.1 i ∷ d.1 i ∷ []))

-- no sheet of a list keeps a rule that all have the same verdict on
none-all : (D : Dates) (fs : List Sheet) (n : ℕ) → ((g : Sheet) → Memᴰ g fs → keeps D g n ≡ false) → none_keeps D fs n ≡ true
unfolding none_keeps
none-all D [] n h = refl
none-all D (f ∷ fs) n h = rw (h f (Memᴰ.head refl)) (none-all D fs n (λ g m. h g (Memᴰ.tail m)))

none_alike : (D : Dates) (f : Sheet) (fs : List Sheet) (n : ℕ) (b : Bool) → keeps D f n ≡ b → ((g : Sheet) → Memᴰ g fs → keeps D g n ≡ b) → not (none_keeps D (f ∷ fs) n) ≡ b
unfolding none_keeps
none_alike D f fs n true e h = rw e
none_alike D f fs n false e h = rw (e, none-all D fs n h)

module _ (D : Dates) (s : Sheet) (size : length s ≡ sheet_size) where
  unfoldable pub earliest : Sheet
  earliest = picked_of D (base_of s) zeros

  rest : List Sheet
  rest = map (picked_of D (base_of s)) (picks_first D (base_of s)).0

  fillings-first : fillings D s ≡ earliest ∷ rest
  unfolding earliest rest
  fillings-first = fillings-are D s size ∙ ap (map (picked_of D (base_of s))) (picks_first D (base_of s)).1

  pub first-filling : Filling D s earliest
  first-filling = filling-of (proper D) s size earliest (subst (Memᴰ earliest) (sym fillings-first) (Memᴰ.head refl))

  -- it has the class of the sheet
  pub first-budget : budget earliest ≡ budget s
  unfolding every any are among earliest
  first-budget = sym (spared-class D varying (base_of s) earliest (picked-alike D (base_of s) zeros (base-length D s size)).1 refl) ∙ base-budget D s size

  module _ (g : Sheet) (w : Filling D s g) (n : ℕ) (m : Memᴰ n ahead) where
    pub like-first : keeps D g n ≡ keeps D earliest n
    like-first = at-member (keeps D g) (keeps D earliest) (verdicts-alike D s size g earliest w first-filling) m

    pub fields-first : field_of rules n g ≡ field_of rules n earliest
    fields-first = at-member (λ (k : ℕ). field_of rules k g) (λ (k : ℕ). field_of rules k earliest) (fields-alike D s size g earliest w first-filling) m

  -- what all fillings break is what the first breaks
  pub first-broken : broken_by_all D s ≡ first_not (keeps D earliest) ahead
  unfolding broken_by_all
  first-broken =
      first_alike (λ (n : ℕ). not (none_keeps D (fillings D s) n)) (keeps D earliest) ahead
      (λ n m.
      ap (λ (l : List Sheet). not (none_keeps D l n)) fillings-first
      ∙ none_alike D earliest rest n (keeps D earliest n) refl (λ g k. like-first g (filling-of (proper D) s size g (subst (Memᴰ g) (sym fillings-first) (Memᴰ.tail k))) n m))

  pub named-field : named_field D s ≡ field_of rules (broken_by_all D s) earliest
  unfolding named_field
  named-field = ap (λ (l : List Sheet). field_of rules (broken_by_all D s) (get_or l 0 [])) fillings-first
