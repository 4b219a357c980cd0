-- The order of posting does not count where no two readable messages of one field and rank differ in text.
use mathlib.Core.Path.{◌≡◌, refl, sym, ap, ap₂, ◌∙◌, subst}
use mathlib.Core.Bool.{true, cond}
use mathlib.Core.List.Memᴰ
use mathlib.Core.List.Permᴰ
use mathlib.Core.List.{List, [], ◌∷◌, Memᴰ, Permᴰ}
use Prim.Native.Nat.{ℕ, suc, ◌+◌, ◌*◌, ◌/◌, ◌%◌, ◌<◌, max}
use native.Mathlib.Decide.{dec_lt, ℕ_discrete}
use native.Mathlib.Omega.{arith}
use borrow.Author.Tests.{eq-eqb, ne_eqb}
use lib.Dec.{eqb}
use lib.ListN.{length, get_or}
use lib.Seq.{ext_get_or}
use Rattle.texts.proofs.Bools.{cases}
use Rattle.sheets.specs.Sheet.{fields, slot_count}
use Rattle.drafts.specs.Message.{party_of, message_field, message_text, readable}
use Rattle.drafts.specs.Draft.{slot_size, draft_size, slot_in, rank_of}
use Rattle.drafts.specs.History.{names, rank_in, highest, first_of, end_slot, NoClash, Distinct, those, is_of, WroteAlone}
use Rattle.drafts.proofs.Messages.{readable-means, slotted}
use Rattle.drafts.proofs.Slots.{at_slot}
use Rattle.drafts.proofs.Ranks.{with-same, rank-equal}
use Rattle.drafts.proofs.EndSlots.{named, unranked, ranked, top, top-at}

-- ---- a draft is its slots

pub slots-ext : (d e : List ℕ) → length d ≡ draft_size → length e ≡ draft_size → ((i : ℕ) → i < slot_count → slot_in d i ≡ slot_in e i) → d ≡ e
slots-ext d e ld le h =
    ext_get_or 0 d e (ld ∙ sym le)
    (λ k l.
    let b : k / slot_size < slot_count = omega (arith, ld) in
    let p : k / slot_size * slot_size + k % slot_size ≡ k = omega arith in
    let q : k % slot_size < slot_size = omega arith in
    cc (p, at_slot d (k / slot_size) (k % slot_size) q, at_slot e (k / slot_size) (k % slot_size) q, h (k / slot_size) b))

-- ---- lists that are arrangements of one another

pub perm-mem : {a : List ℕ} {ms ns : List (List ℕ)} → Permᴰ ms ns → Memᴰ a ms → Memᴰ a ns
perm-mem Permᴰ.nil h = h
perm-mem (Permᴰ.cons e p) (Memᴰ.head q) = Memᴰ.head (q ∙ e)
perm-mem (Permᴰ.cons e p) (Memᴰ.tail q) = Memᴰ.tail (perm-mem p q)
perm-mem (Permᴰ.swap e₁ e₂) (Memᴰ.head q) = Memᴰ.tail (Memᴰ.head (q ∙ e₁))
perm-mem (Permᴰ.swap e₁ e₂) (Memᴰ.tail (Memᴰ.head q)) = Memᴰ.head (q ∙ e₂)
perm-mem (Permᴰ.swap e₁ e₂) (Memᴰ.tail (Memᴰ.tail q)) = Memᴰ.tail (Memᴰ.tail q)
perm-mem (Permᴰ.trans p q) h = perm-mem q (perm-mem p h)

highest-perm : (i : ℕ) {ms ns : List (List ℕ)} → Permᴰ ms ns → highest i ms ≡ highest i ns
highest-perm i Permᴰ.nil = refl
highest-perm i (Permᴰ.cons e p) = ap₂ max (ap (rank_in i) e) (highest-perm i p)
highest-perm i (Permᴰ.swap e₁ e₂) = omega (arith, ap (rank_in i) e₁, ap (rank_in i) e₂)
highest-perm i (Permᴰ.trans p q) = highest-perm i p ∙ highest-perm i q

-- the first message of the highest rank stands in the list, and is read as one of the field of slot i
top-found : (i : ℕ) (ms : List (List ℕ)) → 0 < highest i ms
    → Memᴰ (top i ms) ms × (readable (top i ms) ≡ true) × (message_field (top i ms) ≡ get_or fields i 0) × (rank_of (top i ms) ≡ highest i ms)
top-found i ms h =
    let w = top-at i ms h in
    let (z, s, r) = named i (top i ms) (ranked i (top i ms) (omega (arith, w.rank))) in (
      subst (Memᴰ (top i ms)) (sym w.split) (Memᴰ.append_right w.before (Memᴰ.head refl)),
      z,
      sym (slotted (message_field (top i ms)) (readable-means (top i ms) z).listed).2 ∙ ap (λ (k : ℕ). get_or fields k 0) s,
      sym r ∙ w.rank,
    )

pub end-perm : (ms ns : List (List ℕ)) → NoClash ms → Permᴰ ms ns → (i : ℕ) → end_slot i ms ≡ end_slot i ns
unfolding end_slot
end-perm ms ns agree p i =
    let e : highest i ms ≡ highest i ns = highest-perm i p in
    elim (dec_lt 0 (highest i ms)) [
      | yes h ↦
          let (ma, za, fa, ra) = top-found i ms h in
          let (mb, zb, fb, rb) = top-found i ns (omega arith) in
          let r = rank-equal (top i ms) (top i ns) za zb (omega arith) in
          rw (ne_eqb (highest i ms) 0 (λ z. omega arith), ne_eqb (highest i ns) 0 (λ z. omega arith))
          (with-same (top i ms) (top i ns) r (agree (top i ms) (top i ns) ma (perm-mem (Permᴰ.symm p) mb) za zb (fa ∙ sym fb) r))
      | no h ↦ rw (eq-eqb (highest i ms) 0 (omega arith), eq-eqb (highest i ns) 0 (omega arith))
    ]

-- ---- the premise is true of lists

pub single-agrees : (m : List ℕ) → NoClash (m ∷ [])
single-agrees m a b p q ra rb f r = ap message_text (Memᴰ.eq_of_singleton p ∙ sym (Memᴰ.eq_of_singleton q))

place_in : {a : List ℕ} {ms : List (List ℕ)} → Memᴰ a ms → (k : ℕ) × (k < length ms) × (get_or ms k [] ≡ a)
place_in (Memᴰ.head e) = (0, omega arith, sym e)
place_in (Memᴰ.tail m) = let (k, l, e) = place_in m in (suc k, omega arith, e)

pub distinct-agree : (ms : List (List ℕ)) → Distinct ms → NoClash ms
distinct-agree ms D a b p q ra rb f r =
    let (i, il, ei) = place_in p in
    let (j, jl, ej) = place_in q in
    elim (ℕ_discrete i j) [
      | yes e ↦ ap message_text (sym ei ∙ ap (λ (k : ℕ). get_or ms k []) e ∙ ej)
      | no n ↦
          elim (dec_lt i j) [
            | yes l ↦ absurd (D i j l jl (rw ei ra) (rw ej rb) (rw (ei, ej) f) (rw (ei, ej) r))
            | no g ↦ absurd (D j i (omega arith) il (rw ej rb) (rw ei ra) (rw (ei, ej) (sym f)) (rw (ei, ej) (sym r)))
          ]
    ]

-- ---- only the messages that name a field count for its slot

those-named : (i : ℕ) (ms : List (List ℕ))
    → (highest i (those (names i) ms) ≡ highest i ms) × ((r : ℕ) → 0 < r → first_of i r (those (names i) ms) ≡ first_of i r ms)
those-named i [] = (refl, λ r h. refl)
those-named i (m ∷ ms) =
    let p = those-named i ms in
    cases (names i m)
    (λ t. rw t (ap (max (rank_in i m)) p.0, λ r h. ap (cond (eqb (rank_in i m) r) m) (p.1 r h)))
    (λ f. let z = unranked i m f in rw (f, z) (omega (arith, p.0), λ r h. rw (ne_eqb 0 r (λ e. omega arith)) (p.1 r h)))

pub end-named : (i : ℕ) (ms : List (List ℕ)) → end_slot i (those (names i) ms) ≡ end_slot i ms
unfolding end_slot
end-named i ms =
    let p = those-named i ms in
    elim (dec_lt 0 (highest i ms)) [
      | yes h ↦ rw (p.0, p.1 (highest i ms) h)
      | no h ↦ let z : highest i ms ≡ 0 = omega arith in rw (p.0, eq-eqb (highest i ms) 0 z)
    ]

-- where one party alone names a field, these are among its own
pub named-alone : (p i : ℕ) (ms : List (List ℕ)) → WroteAlone p i ms → those (names i) (those (is_of p) ms) ≡ those (names i) ms
unfolding is_of
named-alone p i [] w = refl
named-alone p i (m ∷ ms) w =
    let q = named-alone p i ms (λ a h. w a (Memᴰ.tail h)) in
    cases (names i m)
    (λ t.
    let o : is_of p m ≡ true = rw (named i m t).0 (eq-eqb (party_of m) p (w m (Memᴰ.head refl) t)) in
    rw (o, t) (ap (λ (x : List (List ℕ)). m ∷ x) q))
    (λ f. cases (is_of p m) (λ o. rw (o, f) q) (λ o. rw (o, f) q))
