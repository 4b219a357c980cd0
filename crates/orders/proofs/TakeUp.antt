-- R-9: what the functions of `take_up` come to, and its promise.
use mathlib.Core.Path.{◌≡◌, refl, sym, ap, ◌∙◌, subst}
use mathlib.Core.Bool.{Bool, true, false, not, cond, ◌&&◌, ◌||◌, and-false, false≢true, true≢false}
use mathlib.Core.List.Memᴰ
use mathlib.Core.List.{List, [], ◌∷◌, map, append-nil, Memᴰ}
use mathlib.Core.Logic.{inl}
use Prim.Native.Nat.{ℕ, zero, suc, ◌+◌, ◌-◌, ◌*◌, ◌/◌, ◌^◌, ◌<◌, ◌≤◌}
use native.Mathlib.Decide.{dec_lt, ℕ_discrete}
use native.Mathlib.Nat.{div-eq_of_lt}
use native.Mathlib.Numerals.{add-one}
use native.Mathlib.Omega.{arith}
use borrow.Author.Tests.{leb-true, le-leb, lt-ltb, le-ltb, ltb-true, eq-eqb, ne_eqb, not-true}
use mir.Syntax.{w32}
use mir.Val.{Fits}
use lib.Dec.{eqb, ltb, leb}
use lib.ListN.{length, get_or, drop, replicate, length-replicate, length-take}
use Rattle.texts.specs.declared.answers.Refusal.TheVariants.{Malformed, WrongSize}
use Rattle.texts.specs.Texts.{every, between, blank}
use Rattle.texts.specs.Answers.{success, refusal, passes}
use Rattle.texts.proofs.Bools.{both, and2}
use Rattle.texts.specs.Buffers.{put}
use Rattle.texts.specs.Working.Writing.{put_at}
use Rattle.texts.proofs.Puts.{put-fits}
use Rattle.texts.proofs.Refusals.{no-success, succeeds, unchanged}
use Rattle.sheets.specs.Sheet.{slots, slot_count, sheet_size, text_max, slot_of, field_in, cell, cell_of, cell_text, cell_ok, slot_ok, text_of, given, well_formed}
use Rattle.sheets.specs.declared.dates.Dates.{Dates}
use Rattle.sheets.specs.declared.sheet.Field.{Field}
use Rattle.rules.specs.Rules.{keeps_all}
use Rattle.drafts.specs.Revision.{adviser, ◌by◌, ◌below◌}
use Rattle.drafts.specs.Message.{head_size, first, IsMessage}
use Rattle.drafts.specs.Draft.{slot_size, slot_in, slot_revision, slot_cell, slot_text, slot_bytes, draft_formed, draft_sheet, posted_to}
use Rattle.drafts.specs.History.{posted_from}
use Rattle.drafts.specs.Working.Steps.{text_put}
use Rattle.drafts.specs.declared.revision.Revision.{Revision}
use Rattle.drafts.proofs.Messages.{message-of}
use Rattle.drafts.proofs.Slots.{cell-ok, length-slot, slot-cell, Formed, formed-means, formed-by}
use Rattle.drafts.proofs.DraftSheets.{length-sheet, sheet-cell, sheet-made}
use Rattle.drafts.proofs.EndSlots.{posted-more, stored_one, one-posted}
use Rattle.drafts.proofs.Reaching.{field_of, field-slot}
use Rattle.fillings.specs.Working.Places as at
use Rattle.fillings.proofs.EveryFilling.{every-mem, entry-sized, choice-given}
use Rattle.fillings.proofs.First.{found_first}
use Rattle.fillings.specs.Fillings as of
use Rattle.orders.specs.Fillings.{list_of, to_fill, Filling}
use Rattle.orders.specs.Complete.{completing, completed}
use Rattle.orders.specs.Again.{CompletesAgain}
use Rattle.orders.specs.TakeUp.{in_set, greatest, fit, spared, first_unfit, take_tests, next, proposal, proposals, taking, taken_into, take_answer, TakesUp}
use Rattle.orders.specs.declared.take_up.Untaken.{Untaken}
use Rattle.orders.specs.declared.take_up.Untaken.TheVariants.{Unfit, Refused}
use Rattle.std.specs.Prelude.{Option, Some, None, Result, Ok, Err}
use Rattle.orders.specs.Working.Upto.{FirstUnfit, Postable}
use Rattle.orders.proofs.Lists.{proper}
use Rattle.orders.proofs.Whole.{length-draftSheet}
use Rattle.orders.proofs.Skipping.{at_place}
use Rattle.orders.proofs.Taking.{was-formed, was-found, was-set, taken-completes}
use Rattle.orders.proofs.TakingUp.{proposed-cell}

some_one : (b : Bool) → eqb (cond {A = ℕ} b 1 0) 1 ≡ b
some_one true = refl
some_one false = refl

-- ---- first_unfit

module _ (D : Dates) (d t : List ℕ) (set i : ℕ) (a b : Bool) (ha : a ≡ in_set set i) (hb : b ≡ fit D d t i) where
  pub unfit-at : (a && not b) ≡ true → spared D d t set i ≡ false
  unfolding spared
  unfit-at e = let p = both a (not b) e in rw (← ha, ← hb, p.0) (not-true b p.1)

  pub fit_at : (a && not b) ≡ false → spared D d t set i ≡ true
  unfolding spared
  fit_at e = rw (← ha, ← hb) (go a b e)
    where
      go : (x y : Bool) → (x && not y) ≡ false → (not x || y) ≡ true
      go true true h = refl
      go true false h = absurd (true≢false h)
      go false y h = refl

module _ (D : Dates) (d t : List ℕ) (set : ℕ) where
  pub first-some : (u : ℕ) → u < slot_count + 1 → ((i : ℕ) → i < u → spared D d t set i ≡ true) → spared D d t set u ≡ false → FirstUnfit D d t set (Some u)
  first-some u l b a = record {
    none = λ e. let z : ◌≡◌ {A = ℕ} 0 1 = cc in absurd (omega arith);
    some = λ v e. let q : u ≡ v = cc in subst (λ (k : ℕ). (k < slot_count + 1) × ((i : ℕ) → i < k → spared D d t set i ≡ true) × (spared D d t set k ≡ false)) q (l, b, a);
  }

  pub first-none : ((i : ℕ) → i < slot_count + 1 → spared D d t set i ≡ true) → FirstUnfit D d t set None
  first-none h = record {
    none = λ e. h;
    some = λ v e. let z : ◌≡◌ {A = ℕ} 0 1 = cc in absurd (omega arith);
  }

-- ---- take

pub number_more : (v u : Revision) → v ≡ u → u.number < greatest → Fits w32 (v.number + 1)
number_more v u e h = record { fits = rw e (omega arith) }

pub took : (d t x e : List ℕ) (i : ℕ) (v : Revision) → v ≡ slot_revision (slot_in d i) → x ≡ text_of t i → e ≡ text_put d i ((v.number + 1) by adviser) x → e ≡ text_put d i (next d i) (text_of t i)
took d t x e i v ev ex q = q ∙ rw (ev, ex)

-- ---- what they leave in each slot

before : (n i : ℕ) → (i ≡ n → ⊥) → ltb i n ≡ ltb i (suc n)
before n i q = elim (dec_lt i n) [
  | yes y ↦ lt-ltb i n y ∙ sym (lt-ltb i (suc n) (omega arith))
  | no y ↦ le-ltb i n (omega arith) ∙ sym (le-ltb i (suc n) (omega arith))
]

module _ (d t : List ℕ) (set : ℕ) (P : Postable d t set) where
  abbrev after : ℕ → List ℕ
  after n = posted_from d (proposals d t set n)

  abbrev SlotsAfter : ℕ → Type 0
  SlotsAfter n = Formed (after n) × ((i : ℕ) → i < slot_count → slot_in (after n) i ≡ cond (ltb i n && in_set set i) (slot_bytes (next d i) (text_of t i)) (slot_in d i))

  module _ (n : ℕ) (l : n < slot_count) (A : SlotsAfter n) (e : in_set set n ≡ true) where
    own : slot_in (after n) n ≡ slot_in d n
    own = A.1 n l ∙ rw (le-ltb n n (omega arith))

    -- what is posted to the slot, and that it is above what stands there
    value : IsMessage (proposal d t n) 1 (field_in n) (next d n) (text_of t n)
    value =
        let (v, h) = P.slot n l e in
        message-of 1 (field_in n) (next d n) (text_of t n) (replicate (head_size 1 + text_max) 0) (omega arith)
        (record { short = h; speaks = first refl refl; listed = field_of n l; given = λ z. omega arith; room = omega (arith, length-replicate {A = ℕ} (head_size 1 + text_max) 0) })

    over : slot_revision (slot_in (after n) (slot_of (field_in n))) below next d n
    over = rw (field-slot n l, own) (inl (omega arith))

  slot_next : (n : ℕ) → n < slot_count → SlotsAfter n → (b : Bool) → in_set set n ≡ b → SlotsAfter (suc n)
  slot_next n l A true e =
      let (v, h) = P.slot n l e in
      let w = one-posted (after n) (proposal d t n) 1 (field_in n) (next d n) (text_of t n) A.0 (value n l A e) (omega arith) (over n l A e) in
      let p : after (suc n) ≡ posted_to (after n) (proposal d t n) = rw e (posted-more (proposal d t n) d (proposals d t set n)) in (
        subst Formed (sym p) w.0,
        λ i j.
            ap (λ (x : List ℕ). slot_in x i) p
            ∙ w.1 i
            ∙ rw (field-slot n l)
            (elim (ℕ_discrete i n) [
              | yes q ↦ rw (q, eq-eqb n n refl, lt-ltb n (suc n) (omega arith), e)
              | no q ↦ rw (ne_eqb i n q) (A.1 i j ∙ ap (λ (b : Bool). cond (b && in_set set i) (slot_bytes (next d i) (text_of t i)) (slot_in d i)) (before n i q))
            ]),
      )
  slot_next n l A false e =
      let p : after (suc n) ≡ after n = rw (e, append-nil (proposals d t set n)) in (
        subst Formed (sym p) A.0,
        λ i j.
            ap (λ (x : List ℕ). slot_in x i) p
            ∙ A.1 i j
            ∙ elim (ℕ_discrete i n) [
              | yes q ↦ rw (q, e, and-false (ltb n n), and-false (ltb n (suc n)))
              | no q ↦ ap (λ (b : Bool). cond (b && in_set set i) (slot_bytes (next d i) (text_of t i)) (slot_in d i)) (before n i q)
            ],
      )

  slots-after : (n : ℕ) → n ≤ slot_count → SlotsAfter n
  slots-after zero l = (formed-means d P.formed, λ i j. rw (le-ltb i 0 (omega arith)))
  slots-after (suc n) l = slot_next n (omega arith) (slots-after n (omega arith)) (in_set set n) refl

  pub slots-taken : Formed (after slot_count) × ((i : ℕ) → i < slot_count → slot_in (after slot_count) i ≡ cond (in_set set i) (slot_bytes (next d i) (text_of t i)) (slot_in d i))
  slots-taken = let A = slots-after slot_count (omega arith) in (A.0, λ i j. A.1 i j ∙ rw (lt-ltb i slot_count j))

  -- ---- take_all: putting a value into its slot is posting it

  module _ (n : ℕ) (l : n < slot_count) (a : List ℕ) (h : a ≡ after n) where
    pub take-can : in_set set n ≡ true → (slot_revision (slot_in a n)).number < greatest
    take-can b = rw (h, own n l (slots-after n (omega arith)) b) (P.slot n l b).0

    pub take_more : (e : List ℕ) → in_set set n ≡ true → e ≡ text_put a n (next a n) (text_of t n) → e ≡ after (n + 1)
    unfolding text_put
    take_more e b q =
        let A = slots-after n (omega arith) in
        let (v, k) = P.slot n l b in
        let r : next a n ≡ next d n = ap (λ (s : List ℕ). ((slot_revision s).number + 1) by adviser) (ap (λ (x : List ℕ). slot_in x n) h ∙ own n l A b) in
        let z = A.0.sized in
        let y = length-slot (next d n) (text_of t n) k in
        let w : text_put a n (next a n) (text_of t n) ≡ put_at (after n) (n * slot_size) (slot_bytes (next d n) (text_of t n)) = rw (r, le-leb _ _ k, h) in
        let u : posted_to (after n) (proposal d t n) ≡ put (after n) (n * slot_size) (slot_bytes (next d n) (text_of t n)) = stored_one (after n) (proposal d t n) 1 (field_in n) (next d n) (text_of t n) A.0 (value n l A b) (over n l A b) ∙ rw (field-slot n l) in
        q ∙ w ∙ put-fits (after n) (n * slot_size) (slot_bytes (next d n) (text_of t n)) (omega arith) ∙ sym u ∙ sym (posted-more (proposal d t n) d (proposals d t set n)) ∙ rw (add-one n, b)

    pub take_none : (e : List ℕ) → in_set set n ≡ false → e ≡ a → e ≡ after (n + 1)
    take_none e b q = q ∙ h ∙ rw (add-one n, b, append-nil (proposals d t set n))

-- ---- the first place that is not spared

module _ (p : ℕ → Bool) where
  all-spared : (n i : ℕ) → ((k : ℕ) → i ≤ k → k < i + n → p k ≡ true) → every p (at.places n i) ≡ true
  unfolding every at.places
  all-spared zero i h = refl
  all-spared (suc n) i h = rw (h i (omega arith) (omega arith)) (all-spared n (suc i) (λ k a b. h k (omega arith) (omega arith)))

  one-unfit : (n i r : ℕ) → i ≤ r → r < i + n → ((k : ℕ) → i ≤ k → k < r → p k ≡ true) → p r ≡ false → (every p (at.places n i) ≡ false) × (first_unfit p (at.places n i) ≡ field_in r)
  unfolding every at.places
  one-unfit zero i r a b h e = absurd (omega arith)
  one-unfit (suc n) i r a b h e =
      elim (ℕ_discrete i r) [
        | yes q ↦ rw (q, e) (refl, refl)
        | no q ↦ rw (h i (omega arith) (omega arith)) (one-unfit n (suc i) r (omega arith) (omega arith) (λ k x y. h k (omega arith) y) e)
      ]

-- ---- texts of a well-formed sheet

-- short enough for a message
text-fits : (t : List ℕ) → well_formed t ≡ true → (i : ℕ) → i < slot_count → length (text_of t i) ≤ text_max
unfolding text_of slot_ok cell_ok cell_text between every at.places
text-fits t w i l =
    let q = both (leb (get_or (cell_of t i) 0 0) text_max) _ (every-mem (slot_ok t) {l = at.places slot_count 0} (both (eqb (length t) sheet_size) (every (slot_ok t) slots) w).1 (at_place slot_count i l)) in
    omega (arith, leb-true (get_or (cell_of t i) 0 0) text_max q.0, length-take (1 + get_or (cell_of t i) 0 0 - 1) (drop 1 (cell_of t i)))

-- ---- a part of a proposal passes the tests

module _ (D : Dates) (d t : List ℕ) (set : ℕ) (b : List ℕ) (n all k : ℕ) (done : completing D d b ≡ success (n ∷ all ∷ k ∷ [])) (same : completed D d b ≡ t) where
  formed-d : draft_formed d ≡ true
  formed-d = was-formed D d b n all k done

  filling : Filling D (draft_sheet d) t
  filling = subst (Filling D (draft_sheet d)) same (found_first (proper D) (draft_sheet d) (length-draftSheet d formed-d) (keeps_all D) n (completed D d b) (was-found D d b n all k done)).filling

  -- the returned set has what was to be filled
  in_all : (i : ℕ) → i < slot_count → in_set all i ≡ to_fill D (draft_sheet d) i
  in_all i l = ap (λ (y : ℕ). eqb y 1) ((was-set D d b n all k done).bit i l) ∙ some_one (to_fill D (draft_sheet d) i)

  past_all : in_set all slot_count ≡ false
  past_all = let z = (was-set D d b n all k done).below in let q : all / 2 ^ slot_count ≡ 0 = div-eq_of_lt z in rw q

  cell-fine : (i : ℕ) → i < slot_count → slot_ok t i ≡ true
  unfolding slot_ok of.choices every at.places
  cell-fine i l = go (to_fill D (draft_sheet d) i) refl (filling.slot i l)
    where
      go : (y : Bool) → to_fill D (draft_sheet d) i ≡ y → Memᴰ (cell_of t i) (cond y (map cell (list_of D i)) (cell_of (draft_sheet d) i ∷ [])) → cell_ok (cell_of t i) ≡ true
      go true e m = let w = Memᴰ.of_map cell (list_of D i) m in ap cell_ok (sym w.2) ∙ cell-ok w.0 (omega (arith, entry-sized (proper D) i w.0 w.1))
      go false e m =
          ap cell_ok (Memᴰ.eq_of_singleton m)
          ∙ every-mem (slot_ok (draft_sheet d)) {l = at.places slot_count 0} (both (eqb (length (draft_sheet d)) sheet_size) (every (slot_ok (draft_sheet d)) slots) (sheet-made d formed-d).0).1 (at_place slot_count i l)

  sheet-fine : well_formed t ≡ true
  unfolding at.places
  sheet-fine = and2 (eqb (length t) sheet_size) (every (slot_ok t) slots) (eq-eqb (length t) sheet_size filling.sized) (all-spared (slot_ok t) slot_count 0 (λ i x y. cell-fine i (omega arith)))

  module _ (part : (i : ℕ) → i < slot_count + 1 → in_set set i ≡ true → (in_set all i ≡ true) × ((slot_revision (slot_in d i)).number < greatest)) where
    part-fit : (i : ℕ) → i < slot_count → in_set set i ≡ true → fit D d t i ≡ true
    unfolding fit given text_of of.to_fill
    part-fit i l e =
        let p = part i (omega arith) e in
        let f : to_fill D (draft_sheet d) i ≡ true = sym (in_all i l) ∙ p.0 in
        let g : given t i ≡ true = choice-given (proper D) (draft_sheet d) i (cell_of t i) (filling.slot i l) ∙ rw f in
        let h : (ltb 0 (length (list_of D i)) && blank (slot_text (slot_in d i))) ≡ true = rw (← ((sheet-made d formed-d).1 i l)) f in
        and2 (ltb 0 (length (list_of D i)) && blank (slot_text (slot_in d i))) (given t i && ltb (slot_revision (slot_in d i)).number greatest) h
        (and2 (given t i) (ltb (slot_revision (slot_in d i)).number greatest) g (lt-ltb _ _ p.1))

    part-spared : (i : ℕ) → i < slot_count + 1 → spared D d t set i ≡ true
    unfolding spared
    part-spared i l = go (in_set set i) refl
      where
        go : (y : Bool) → in_set set i ≡ y → (not y || fit D d t i) ≡ true
        go false e = refl
        go true e =
            elim (dec_lt i slot_count) [
              | yes h ↦ part-fit i h e
              | no h ↦ let q : i ≡ slot_count = omega arith in absurd (false≢true (sym past_all ∙ ap (in_set all) (sym q) ∙ (part i l e).0))
            ]

    part-passes : passes (take_tests D d t set) ≡ true
    unfolding take_tests at.places
    part-passes = rw (formed-d, sheet-fine, eq-eqb (length t) sheet_size filling.sized, all-spared (spared D d t set) (slot_count + 1) 0 (λ i x y. part-spared i (omega arith)))

-- ---- the promise

-- what is refused changes nothing
module _ {D : Dates} {d t : List ℕ} {set : ℕ} where
  pub take-refuses : (r : Result Unit Untaken) (n : ℕ) (vs : List ℕ) → take_answer r ≡ refusal n vs → refusal n vs ≡ taking D d t set → TakesUp D d t set r d
  unfolding take_answer taking taken_into
  take-refuses r n vs a p =
      let no : r ≡ Ok tt → ⊥ = λ e. no-success n vs [] (sym a ∙ ap take_answer e) in
      record {
        answer = a ∙ p;
        draft = sym (unchanged [] _ d (take_tests D d t set) (λ e. no-success n vs [] (p ∙ e)));
        refused = λ h. refl;
        slot = λ e. absurd (no e);
        made = λ b m all k done same part. absurd (no-success n vs [] (p ∙ succeeds [] [] (take_tests D d t set) (part-passes D d t set b m all k done same part)));
        again = λ e. absurd (no e);
      }

  module _ where
    pub take-malformed : false ≡ draft_formed d → TakesUp D d t set (Err (Refused Malformed)) d
    unfolding take_answer taking take_tests
    take-malformed e = take-refuses (Err (Refused Malformed)) 1 [] refl (rw (← e))

    module _ (f : true ≡ draft_formed d) where
      pub take-sized : (length t ≡ sheet_size → ⊥) → TakesUp D d t set (Err (Refused WrongSize)) d
      unfolding take_answer taking take_tests
      take-sized z = take-refuses (Err (Refused WrongSize)) 7 [] refl (rw (← f, ne_eqb (length t) sheet_size z))

      module _ (z : length t ≡ sheet_size) where
        pub take-sheet : false ≡ well_formed t → TakesUp D d t set (Err (Refused Malformed)) d
        unfolding take_answer taking take_tests
        take-sheet e = take-refuses (Err (Refused Malformed)) 1 [] refl (rw (← f, ← e, eq-eqb (length t) sheet_size z))

        module _ (g : true ≡ well_formed t) (r : Option ℕ) (U : FirstUnfit D d t set r) where
          pub take-unfit : (u : ℕ) → r ≡ Some u → (f : Field) → f.0 ≡ field_in u → TakesUp D d t set (Err (Unfit f)) d
          unfolding take_answer taking take_tests at.places
          take-unfit u q x e =
              let (l, before, at) = U.some u q in
              let (a, b) = one-unfit (spared D d t set) (slot_count + 1) 0 u (omega arith) (omega arith) (λ k i j. before k j) at in
              take-refuses (Err (Unfit x)) 20 (x.0 ∷ []) refl (rw (← f, ← g, eq-eqb (length t) sheet_size z, a, b, e))

          module _ (o : r ≡ None) where
            formed : draft_formed d ≡ true
            formed = sym f

            each : (i : ℕ) → i < slot_count → in_set set i ≡ true → fit D d t i ≡ true
            unfolding spared
            each i j e = let q = U.none o i (omega arith) in rw e at q

            pub postable : Postable d t set
            unfolding fit
            postable = record {
              formed = formed;
              slot = λ i j e. (
                ltb-true _ _ (both (given t i) (ltb (slot_revision (slot_in d i)).number greatest) (both (ltb 0 (length (list_of D i)) && blank (slot_text (slot_in d i))) _ (each i j e)).1).1,
                text-fits t (sym g) i j,
              );
            }

            -- a slot of the set is one to be filled
            filled-if : (i : ℕ) → i < slot_count → in_set set i ≡ true → to_fill D (draft_sheet d) i ≡ true
            unfolding fit of.to_fill
            filled-if i j e = rw ((sheet-made d formed).1 i j) (both (ltb 0 (length (list_of D i)) && blank (slot_text (slot_in d i))) _ (each i j e)).0

            abbrev taken : List ℕ
            taken = posted_from d (proposals d t set slot_count)

            left : Formed taken × ((i : ℕ) → i < slot_count → slot_in taken i ≡ cond (in_set set i) (slot_bytes (next d i) (text_of t i)) (slot_in d i))
            left = slots-taken d t set postable

            module _ (b : List ℕ) (n all k : ℕ) (done : completing D d b ≡ success (n ∷ all ∷ k ∷ [])) (same : completed D d b ≡ t) where
              cell-taken : (i : ℕ) → i < slot_count → cell_of (draft_sheet taken) i ≡ cond (to_fill D (draft_sheet d) i && in_set set i) (cell_of (completed D d b) i) (cell_of (draft_sheet d) i)
              cell-taken i j = sheet-cell taken left.0.sized i j ∙ ap slot_cell (left.1 i j) ∙ go (in_set set i) refl
                where
                  go : (y : Bool) → in_set set i ≡ y → slot_cell (cond y (slot_bytes (next d i) (text_of t i)) (slot_in d i)) ≡ cond (to_fill D (draft_sheet d) i && y) (cell_of (completed D d b) i) (cell_of (draft_sheet d) i)
                  go true e =
                      rw (filled-if i j e)
                      (slot-cell (next d i) (text_of t i) (postable.slot i j e).1
                      ∙ ap (λ (x : List ℕ). cell (text_of x i)) (sym same)
                      ∙ proposed-cell D d b n all k done i j (filled-if i j e))
                  go false e = rw (and-false (to_fill D (draft_sheet d) i)) (sym (sheet-cell d (formed-means d formed).sized i j))

              completes-again : (c : List ℕ) → length c ≡ sheet_size → CompletesAgain D (in_set set) d b n taken c
              completes-again c y =
                  taken-completes D (in_set set) d b n all k taken c (
                  record {
                    success = done;
                    formed = formed-by taken left.0;
                    taken = record { sized = length-sheet taken left.0.sized; slot = cell-taken };
                  }
                  )
                  y

            pub take-made : (e : List ℕ) → e ≡ taken → TakesUp D d t set (Ok tt) e
            unfolding take_answer taking taken_into take_tests at.places
            take-made e q =
                subst (TakesUp D d t set (Ok tt)) (sym q)
                (let a = all-spared (spared D d t set) (slot_count + 1) 0 (λ i x y. U.none o i (omega arith)) in
                record {
                  answer = rw (← f, ← g, eq-eqb (length t) sheet_size z, a);
                  draft = rw (← f, ← g, eq-eqb (length t) sheet_size z, a);
                  refused = λ h. absurd (h refl);
                  slot = λ h. left.1;
                  made = λ b m all k done same part. refl;
                  again = λ h. completes-again;
                })
