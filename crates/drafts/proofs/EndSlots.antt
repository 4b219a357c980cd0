-- What each slot holds after a list of postings: the first message of the highest rank among those that name its field.
use mathlib.Core.Path.{◌≡◌, refl, sym, ap, ◌∙◌}
use mathlib.Core.Bool.{Bool, true, false, cond, and-false}
use mathlib.Core.List.{List, [], ◌∷◌, ◌++◌, Memᴰ}
use Prim.Native.Nat.{ℕ, zero, suc, ◌+◌, ◌*◌, ◌^◌, ◌<◌, ◌≤◌, max, zero-le}
use native.Mathlib.Nat.{lt_of_le_of_lt}
use native.Mathlib.Decide.{dec_lt, ℕ_discrete}
use native.Mathlib.Omega.{arith}
use borrow.Author.Tests.{lt-ltb, le-ltb, ltb-true, ltb-false, eq-eqb, ne_eqb, eqb-true}
use lib.Dec.{eqb, ltb, eqb-suc-zero}
use lib.ListN.{length, replicate, get_or-replicate}
use lib.Seq.{ext_get_or}
use Rattle.texts.specs.Texts.{between, every, are}
use Rattle.texts.proofs.Bools.{cases, both}
use Rattle.texts.specs.Numbers.{Bytes}
use Rattle.texts.specs.Buffers.{put}
use Rattle.sheets.specs.Sheet.{slot_count, slot_of, cell_text, cell_ok}
use Rattle.texts.specs.Answers.{answer_by, buffer_by}
use Rattle.drafts.specs.Revision.{◌below◌, rank}
use Rattle.drafts.specs.Message.{IsMessage, message_field, read_tests, readable, reading_of}
use Rattle.drafts.specs.Draft.{slot_size, draft_size, slots_formed, slot_in, slot_revision, slot_bytes, slot_cell, slot_text, slot_formed, rank_of, slot_with, draft_formed, fresh_draft, comparison_of, word, draft_by, post_tests, posting_of, stored, posted_to}
use Rattle.drafts.specs.History.{posted_from, posted_all, names, rank_in, highest, first_of, empty_slot, end_slot, Ends, none, won, AllBytes}
use Rattle.drafts.specs.Working.Steps.{slot_rank}
use Rattle.drafts.specs.declared.revision.Revision.{Revision}
use Rattle.drafts.specs.declared.revision.Standing.{Standing}
use Rattle.texts.specs.declared.answers.Refusal.{Refusal}
use Rattle.std.specs.Prelude.{Result}
use Rattle.texts.proofs.Refusals.{succeeded, fails, more}
use Rattle.drafts.proofs.Messages.{small, listed-slot, speaks-known, Readable, readable-means, reading-is, message-is, slotted}
use Rattle.drafts.proofs.Ranks.{clash_test, rank-above, length-with, rank-with, with-formed, empty-rank, by-below, rank_below, rank-not-below, rank-draft}
use Rattle.drafts.proofs.Slots.{slot-formed, party-small, at_slot, length-slot-in, length-put-slot, slot_same, slot-other, Formed, formed-means, formed-by}

-- ---- the rank of a message in a slot

-- the slot of a message's field
abbrev own : List ℕ → ℕ
own m = slot_of (message_field m)

module _ (i : ℕ) (m : List ℕ) where
  pub named : names i m ≡ true → (readable m ≡ true) × (own m ≡ i) × (rank_in i m ≡ rank_of m)
  unfolding names rank_in
  named t = let p = both (readable m) (eqb (own m) i) t in (p.0, eqb-true _ _ p.1, rw t)

  pub ranked : 0 < rank_in i m → names i m ≡ true
  unfolding rank_in
  ranked h = cases (names i m) (λ t. t) (λ t. absurd (let z = rw t at h in omega arith))

  pub unranked : names i m ≡ false → rank_in i m ≡ 0
  unfolding rank_in
  unranked f = rw f

  rank-other : (i ≡ own m → ⊥) → rank_in i m ≡ 0
  unfolding names rank_in
  rank-other n = rw (ne_eqb (own m) i (λ e. n (sym e)), and-false (readable m))

-- ---- one posting

-- a readable message against a well-formed draft: what is left to test is the clash
pub post_read : (d m : List ℕ) (st : Result Standing Refusal) → draft_formed d ≡ true → readable m ≡ true → st ≡ comparison_of d m
    → (answer_by (clash_test st) (word st) ≡ posting_of d m) × (buffer_by (clash_test st) (draft_by st (stored d m) d) d ≡ posted_to d m)
unfolding readable posting_of posted_to post_tests
post_read d m st w z e =
    let p = more (clash_test st) (word st) (read_tests m) z in
    (rw (w, ← e) (sym p.1), rw (w, ← e, p.0))

-- the message's rank in slot i is higher than the slot's
abbrev higher : List ℕ → List ℕ → ℕ → Bool
higher d m i = ltb (slot_rank (slot_in d i)) (rank_in i m)

module _ (d m : List ℕ) (f : Formed d) where
  higher-named : (i : ℕ) → higher d m i ≡ true → (readable m ≡ true) × (own m ≡ i) × (rank_in i m ≡ rank_of m)
  higher-named i t = named i m (ranked i m (omega (arith, ltb-true (slot_rank (slot_in d i)) (rank_in i m) t)))

  posted-is : posted_to d m ≡ cond (higher d m (own m)) (stored d m) d
  unfolding names rank_in readable posted_to post_tests
  posted-is =
      cases (readable m)
      (λ z. rw (z, eq-eqb (own m) (own m) refl) (sym (post_read d m (comparison_of d m) (formed-by d f) z refl).1 ∙ rank-draft d m (stored d m)))
      (λ z. rw (z, le-ltb (slot_rank (slot_in d (own m))) 0 (omega arith), formed-by d f, fails (read_tests m) (clash_test (comparison_of d m)) z))

  -- what it does to each slot
  step : (length (posted_to d m) ≡ draft_size) × ((i : ℕ) → slot_in (posted_to d m) i ≡ cond (higher d m i) (slot_with m) (slot_in d i))
  unfolding stored
  step =
      let other : (i : ℕ) → (i ≡ own m → ⊥) → higher d m i ≡ false = λ i n. rw (rank-other i m n) (le-ltb (slot_rank (slot_in d i)) 0 (omega arith)) in
      rw posted-is
      (cases (higher d m (own m))
      (λ t.
      let z = (higher-named (own m) t).0 in
      let l = length-with m z in
      let b = (slotted (message_field m) (readable-means m z).listed).1 in
      rw t (
        length-put-slot d f.sized _ l (own m) b,
        λ i.
            elim (ℕ_discrete i (own m)) [
              | yes e ↦ rw (e, t) (slot_same d f.sized _ l (own m) b)
              | no n ↦ rw (other i n) (slot-other d f.sized _ l (own m) b i n)
            ],
      ))
      (λ t. rw t (f.sized, λ i. elim (ℕ_discrete i (own m)) [ yes e ↦ rw (e, t) | no n ↦ rw (other i n) ])))

  posted-formed : Bytes m → Formed (posted_to d m)
  posted-formed b = record {
    sized = step.0;
    slot = λ i l. rw (step.1 i) (cases (higher d m i) (λ t. rw t (with-formed m (higher-named i t).0 b)) (λ t. rw t (f.slot i l)));
  }

reads : (m : List ℕ) → Readable m → readable m ≡ true
unfolding readable reading_of
reads m R = (succeeded _ _ (read_tests m) (sym (reading-is m R))).0

names-own : (m : List ℕ) (k : ℕ) → readable m ≡ true → own m ≡ k → names k m ≡ true
unfolding names
names-own m k z e = rw (z, e, eq-eqb k k refl)

-- a message above its slot by revision, then party
module _ (d m : List ℕ) (w f : ℕ) (v : Revision) (t : List ℕ) (F : Formed d) (M : IsMessage m w f v t) (a : slot_revision (slot_in d (slot_of f)) below v) where
  over : (rank_in (slot_of f) m ≡ rank v) × (rank (slot_revision (slot_in d (slot_of f))) < rank v)
  unfolding rank_of
  over =
      let (R, _, ef, ev, et) = message-is m w f v t M in
      let p = small v.party.0 (speaks-known w v.party.0 M.speaks).1 in
      let s = party-small (slot_in d (slot_of f)) (F.slot (slot_of f) (slotted f (listed-slot f M.listed)).1) in
      ((named (slot_of f) m (names-own m (slot_of f) (reads m R) (ap slot_of ef))).2 ∙ ap rank ev, by-below (slot_revision (slot_in d (slot_of f))) v s p a)

  -- it is stored in its slot
  pub stored_one : posted_to d m ≡ put d (slot_of f * slot_size) (slot_bytes v t)
  unfolding slot_rank slot_with stored
  stored_one =
      let (_, _, ef, ev, et) = message-is m w f v t M in
      let h : higher d m (own m) ≡ true = rw ef (ap (λ (k : ℕ). ltb (rank (slot_revision (slot_in d (slot_of f)))) k) over.0 ∙ lt-ltb _ _ over.1) in
      posted-is d m F ∙ rw (h, ef, ev, et)

-- then it stands there, and every other slot is as it was
pub one-posted : (d m : List ℕ) (w f : ℕ) (v : Revision) (t : List ℕ) → Formed d → IsMessage m w f v t → v.number < 2 ^ 32 → slot_revision (slot_in d (slot_of f)) below v
    → Formed (posted_to d m) × ((i : ℕ) → slot_in (posted_to d m) i ≡ cond (eqb i (slot_of f)) (slot_bytes v t) (slot_in d i))
unfolding slot_rank rank_of slot_with
one-posted d m w f v t F M h a =
    let (R, _, ef, ev, et) = message-is m w f v t M in
    let p = (speaks-known w v.party.0 M.speaks).1 in
    let (k, l) = over d m w f v t F M a in
    let each : (i : ℕ) → slot_in (posted_to d m) i ≡ cond (eqb i (slot_of f)) (slot_bytes v t) (slot_in d i) = λ i.
    (step d m F).1 i
    ∙ elim (ℕ_discrete i (slot_of f)) [
      | yes e ↦ rw (e, k, eq-eqb (slot_of f) (slot_of f) refl, lt-ltb (slot_rank (slot_in d (slot_of f))) (rank v) l, ev, et)
      | no q ↦ rw (rank-other i m (λ e. q (e ∙ ap slot_of ef)), le-ltb (slot_rank (slot_in d i)) 0 (omega arith), ne_eqb i (slot_of f) q)
    ] in (
      record {
        sized = (step d m F).0;
        slot = λ i l. rw (each i) (cases (eqb i (slot_of f)) (λ e. rw e (slot-formed v t h M.given p (omega (arith, M.most)))) (λ e. rw e (F.slot i l)));
      },
      each,
    )

-- ---- the list

-- by whether the slot's rank r is below that of the first message v, b, and below the highest of the others, t
module _ (r b t : ℕ) (v s : List ℕ) (F : ℕ → List ℕ) where
  raised : r < b → cond (ltb b t) (slot_with (F t)) (slot_with v) ≡ cond (ltb r (max b t)) (slot_with (cond (eqb b (max b t)) v (F (max b t)))) s
  raised h =
      elim (dec_lt b t) [
        | yes g ↦ let e : max b t ≡ t = omega arith in rw (e, lt-ltb b t g, lt-ltb r t (omega arith), ne_eqb b t (λ q. omega arith))
        | no g ↦ let e : max b t ≡ b = omega arith in rw (e, le-ltb b t (omega arith), lt-ltb r b h, eq-eqb b b refl)
      ]

  unraised : b ≤ r → cond (ltb r t) (slot_with (F t)) s ≡ cond (ltb r (max b t)) (slot_with (cond (eqb b (max b t)) v (F (max b t)))) s
  unraised h =
      elim (dec_lt r t) [
        | yes g ↦ let e : max b t ≡ t = omega arith in rw (e, lt-ltb r t g, ne_eqb b t (λ q. omega arith))
        | no g ↦ rw (le-ltb r t (omega arith), le-ltb r (max b t) (omega arith))
      ]

pub posted-more : (m d : List ℕ) (ms : List (List ℕ)) → posted_from d (ms ++ (m ∷ [])) ≡ posted_to (posted_from d ms) m
posted-more m d [] = refl
posted-more m d (l ∷ ms) = posted-more m (posted_to d l) ms

-- a list of postings, from any well-formed draft
pub posted-list : (d : List ℕ) (ms : List (List ℕ)) → Formed d → AllBytes ms
    → Formed (posted_from d ms) × ((i : ℕ) → slot_in (posted_from d ms) i ≡ cond (ltb (slot_rank (slot_in d i)) (highest i ms)) (slot_with (first_of i (highest i ms) ms)) (slot_in d i))
posted-list d [] f b = (f, λ i. rw (le-ltb (slot_rank (slot_in d i)) 0 (omega arith)))
posted-list d (m ∷ ms) f b =
    let bm = b m (Memᴰ.head refl) in
    let p = posted-list (posted_to d m) ms (posted-formed d m f bm) (λ a h. b a (Memᴰ.tail h)) in (
      p.0,
      λ i.
          let r = slot_rank (slot_in d i) in
          let F : ℕ → List ℕ = λ (k : ℕ). first_of i k ms in
          p.1 i
          ∙ rw ((step d m f).1 i)
          (cases (higher d m i)
          (λ t.
          let n = higher-named d m f i t in
          rw (t, rank-with m n.0 bm, ← n.2) (raised r (rank_in i m) (highest i ms) m (slot_in d i) F (ltb-true _ _ t)))
          (λ t. rw t (unraised r (rank_in i m) (highest i ms) m (slot_in d i) F (ltb-false _ _ t)))),
    )

-- ---- from a fresh draft

pub fresh-formed : Formed fresh_draft
unfolding fresh_draft draft_formed slots_formed slot_formed slot_in slot_revision slot_cell slot_text cell_ok cell_text between every are
fresh-formed = formed-means fresh_draft refl

pub fresh-slot : (i : ℕ) → i < slot_count → slot_in fresh_draft i ≡ empty_slot
unfolding fresh_draft empty_slot
fresh-slot i h =
    let l = length-slot-in (replicate draft_size 0) refl i h in
    ext_get_or 0 (slot_in (replicate draft_size 0) i) (replicate slot_size 0) l
    (λ k g. at_slot (replicate draft_size 0) i k (omega arith) ∙ get_or-replicate draft_size (i * slot_size + k) 0 0 (omega arith) ∙ sym (get_or-replicate slot_size k 0 0 (omega arith)))

last : (H : ℕ) (t s : List ℕ) → cond (ltb 0 H) t s ≡ cond (eqb H 0) s t
last zero t s = refl
last (suc n) t s = rw (lt-ltb 0 (suc n) (omega arith), eqb-suc-zero n)

module _ (ms : List (List ℕ)) (b : AllBytes ms) where
  -- every draft that posting reaches is well formed
  pub all-formed : Formed (posted_all ms)
  unfolding posted_all
  all-formed = (posted-list fresh_draft ms fresh-formed b).0

  pub all-slot : (i : ℕ) → i < slot_count → slot_in (posted_all ms) i ≡ end_slot i ms
  unfolding posted_all end_slot
  all-slot i l = (posted-list fresh_draft ms fresh-formed b).1 i ∙ rw (fresh-slot i l, empty-rank) (last (highest i ms) (slot_with (first_of i (highest i ms) ms)) empty_slot)

-- ---- the message that wins

abbrev pub top : ℕ → List (List ℕ) → List ℕ
top i ms = first_of i (highest i ms) ms

pub record Top (i : ℕ) (ms : List (List ℕ)) : Type 0 where
  pub before : List (List ℕ)
  pub after : List (List ℕ)
  pub split : ms ≡ before ++ top i ms ∷ after
  pub rank : rank_in i (top i ms) ≡ highest i ms
  pub lower : highest i before < highest i ms
  pub later : highest i after ≤ highest i ms

pub top-at : (i : ℕ) (ms : List (List ℕ)) → 0 < highest i ms → Top i ms
top-at i [] h = absurd (omega arith)
top-at i (m ∷ ms) h =
    let ih = top-at i ms in
    elim (dec_lt (rank_in i m) (highest i ms)) [
      | yes g ↦
          let w = ih (lt_of_le_of_lt zero-le g) in
          let e : max (rank_in i m) (highest i ms) ≡ highest i ms = omega arith in
          let n = ne_eqb (rank_in i m) (highest i ms) (λ q. omega arith) in
          let k : top i (m ∷ ms) ≡ top i ms = ap (λ (x : ℕ). cond (eqb (rank_in i m) x) m (first_of i x ms)) e ∙ ap (λ (b : Bool). cond b m (top i ms)) n in
          record {
            before = m ∷ w.before;
            after = w.after;
            split = ap (λ (x : List (List ℕ)). m ∷ x) w.split ∙ ap (λ (x : List ℕ). m ∷ (w.before ++ x ∷ w.after)) (sym k);
            rank = ap (rank_in i) k ∙ w.rank ∙ sym e;
            lower = omega (arith, w.lower);
            later = omega (arith, w.later);
          }
      | no g ↦
          let e : max (rank_in i m) (highest i ms) ≡ rank_in i m = omega arith in
          let n = eq-eqb (rank_in i m) (rank_in i m) refl in
          record { before = []; after = ms; split = rw (e, n); rank = rw (e, n); lower = omega arith; later = omega arith }
    ]

pub bound : (i : ℕ) {a : List ℕ} {ms : List (List ℕ)} → Memᴰ a ms → rank_in i a ≤ highest i ms
bound i (Memᴰ.head e) = omega (arith, ap (rank_in i) e)
bound i (Memᴰ.tail m) = omega (arith, bound i m)

pub ends-right : (i : ℕ) (ms : List (List ℕ)) → Ends i ms (end_slot i ms)
unfolding end_slot
ends-right i ms =
    elim (dec_lt 0 (highest i ms)) [
      | yes h ↦
          let w = top-at i ms h in
          let n = ranked i (top i ms) (omega (arith, w.rank)) in
          let (y, s, r) = named i (top i ms) n in
          rw (ne_eqb (highest i ms) 0 (λ z. omega arith))
          (won w.before w.after (top i ms) w.split n
          (λ a q t. rank_below a (top i ms) (named i a t).0 y (omega (arith, bound i q, w.lower, w.rank, r, (named i a t).2)))
          (λ a q t. rank-not-below (top i ms) a y (named i a t).0 (omega (arith, bound i q, w.later, w.rank, r, (named i a t).2)))
          refl)
      | no h ↦
          rw (eq-eqb (highest i ms) 0 (omega arith))
          (none (λ a q. cases (names i a) (λ t. absurd (omega (arith, bound i q, rank-above a (named i a t).0, (named i a t).2))) (λ t. t)) refl)
    ]
