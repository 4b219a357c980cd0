-- Every well-formed draft is one that postings leave: of each slot that was given, a message of version 2 with what it holds.
use mathlib.Core.Path.{◌≡◌, refl, sym, ap, ◌∙◌, subst}
use mathlib.Core.Logic.{inl, ⊎_elim}
use mathlib.Core.Bool.{Bool, true, false, cond, not, ◌&&◌, false≢true}
use mathlib.Core.List.Memᴰ
use mathlib.Core.List.{List, [], ◌∷◌, ◌++◌, append-nil, Memᴰ}
use Prim.Native.Nat.{ℕ, zero, suc, ◌+◌, ◌-◌, ◌*◌, ◌^◌, ◌<◌, ◌≤◌}
use native.Mathlib.Decide.{dec_lt, ℕ_discrete}
use native.Mathlib.Omega.{arith}
use borrow.Author.Tests.{lt-ltb, le-ltb, eq-eqb, ne_eqb, eqb-true, eqb-false, ltb-true, leb-true}
use lib.Dec.{eqb, ltb, leb}
use lib.ListN.{length, get_or, take, drop, replicate, length-drop, length-replicate, take-append-drop}
use lib.Seq.{get_or-drop, take_all, length-take-le}
use Rattle.texts.specs.Texts.{between, blank, every, are}
use Rattle.texts.specs.Numbers.{Bytes, bytes_at}
use Rattle.texts.proofs.Big.{EachByte, bytes-big}
use Rattle.texts.proofs.Bools.{cases, both}
use Rattle.sheets.specs.Sheet.{fields, slot_count, slot_of, field_in, text_max, cell_size, cell, cell_text, cell_ok}
use Rattle.drafts.specs.Revision.{Known, ◌by◌, ◌below◌}
use Rattle.drafts.specs.Message.{revision_size, opening, head_size, second, IsMessage, head_bytes, message_of}
use Rattle.drafts.specs.Draft.{cell_place, slot_size, slot_in, slot_revision, slot_cell, slot_text, slot_bytes, party_fits, slot_formed, draft_formed, fresh_draft, posted_to}
use Rattle.drafts.specs.History.{posted_from, posted_all, empty_slot, AllBytes}
use Rattle.drafts.specs.Promises.{Postings}
use Rattle.drafts.specs.declared.revision.Revision.{Revision}
use Rattle.drafts.proofs.Messages.{revision-is, known, small, message-of, bytes-from}
use Rattle.drafts.proofs.Slots.{length-slot-in, Formed, formed-means}
use Rattle.drafts.proofs.EndSlots.{one-posted, posted-more, fresh-formed, fresh-slot}
use Rattle.drafts.proofs.Arrangements.{slots-ext}

-- ---- fields and slots

-- what a computation shows of each number below n
abbrev under : (ℕ → Bool) → ℕ → Bool
under p zero = true
under p (suc n) = under p n && p n

under_at : (p : ℕ → Bool) (n : ℕ) → under p n ≡ true → (i : ℕ) → i < n → p i ≡ true
under_at p zero e i h = absurd (omega arith)
under_at p (suc n) e i h =
    let q = both (under p n) (p n) e in
    elim (dec_lt i n) [
      | yes l ↦ under_at p n q.0 i l
      | no g ↦ let k : i ≡ n = omega arith in rw k q.1
    ]

entry_in : (l : List ℕ) (k : ℕ) → k < length l → Memᴰ (get_or l k 0) l
entry_in [] k h = absurd (omega arith)
entry_in (x ∷ l) zero h = Memᴰ.head refl
entry_in (x ∷ l) (suc k) h = Memᴰ.tail (entry_in l k (omega arith))

pub field_of : (i : ℕ) → i < slot_count → Memᴰ (field_in i) fields
field_of i l = entry_in fields i l

pub field-slot : (i : ℕ) → i < slot_count → slot_of (field_in i) ≡ i
unfolding slot_of
field-slot i l = eqb-true _ _ (under_at (λ (k : ℕ). eqb (slot_of (field_in k)) k) slot_count refl i l)

field-byte : (i : ℕ) → i < slot_count → field_in i < 256
field-byte i l = ltb-true _ _ (under_at (λ (k : ℕ). ltb (field_in k) 256) slot_count refl i l)

-- ---- bytes

each-bytes : (l : List ℕ) → EachByte l → Bytes l
each-bytes [] e j = omega arith
each-bytes (x ∷ l) e zero = e.0
each-bytes (x ∷ l) e (suc j) = each-bytes l e.1 j

bytes-append : (x y : List ℕ) → Bytes x → Bytes y → Bytes (x ++ y)
bytes-append [] y hx hy j = hy j
bytes-append (a ∷ x) y hx hy zero = hx 0
bytes-append (a ∷ x) y hx hy (suc j) = bytes-append x y (λ k. hx (suc k)) hy j

bytes_take : (n : ℕ) (l : List ℕ) → Bytes l → Bytes (take n l)
bytes_take zero l h j = omega arith
bytes_take (suc n) [] h j = omega arith
bytes_take (suc n) (x ∷ l) h zero = h 0
bytes_take (suc n) (x ∷ l) h (suc j) = bytes_take n l (λ k. h (suc k)) j

bytes_drop : (n : ℕ) (l : List ℕ) → Bytes l → Bytes (drop n l)
bytes_drop n l h j = rw get_or-drop (h (n + j))

bytes-between : (l : List ℕ) (a e : ℕ) → Bytes l → Bytes (between l a e)
unfolding between
bytes-between l a e h = bytes_take (e - a) (drop a l) (bytes_drop a l h)

-- ---- a slot is that of its revision and its text

zeros-are : (l : List ℕ) → every (are 0) l ≡ true → l ≡ replicate (length l) 0
unfolding every are
zeros-are [] e = refl
zeros-are (x ∷ l) e = let p = both (eqb x 0) (every (are 0) l) e in λ i. eqb-true x 0 p.0 i ∷ zeros-are l p.1 i

cell-of : (c : List ℕ) → length c ≡ cell_size → cell_ok c ≡ true → (cell (cell_text c) ≡ c) × (length (cell_text c) ≤ text_max)
unfolding cell_ok cell cell_text between
cell-of [] l ok = absurd (omega arith)
cell-of (n ∷ r) l ok =
    let p = both (leb n text_max) _ ok in
    let h : n ≤ text_max = leb-true n text_max p.0 in
    let a : 1 + n - 1 ≡ n = omega arith in
    let b : 1 + n ≡ suc n = omega arith in
    let k : length (take n r) ≡ n = length-take-le n r (omega arith) in
    let m : length (drop n r) ≡ text_max - n = omega (arith, length-drop n r) in
    let e : cell_size - suc n ≡ text_max - n = omega arith in
    let z : every (are 0) (drop n r) ≡ true = rw (b, e, take_all (text_max - n) (drop n r) (omega arith)) at p.1 in
    let y : drop n r ≡ replicate (text_max - n) 0 = zeros-are (drop n r) z ∙ ap (λ (j : ℕ). replicate j 0) m in
    rw (a, k) (ap (λ (x : List ℕ). n ∷ x) (ap (λ (x : List ℕ). take n r ++ x) (sym y) ∙ take-append-drop n r), omega arith)

module _ (s : List ℕ) (l : length s ≡ slot_size) (f : slot_formed s ≡ true) (b : Bytes s) where
  cell-whole : (cell (slot_text s) ≡ drop cell_place s) × (length (slot_text s) ≤ text_max)
  unfolding slot_formed slot_cell slot_text between
  cell-whole =
      let k : length (drop cell_place s) ≡ cell_size = omega (arith, length-drop cell_place s) in
      let t : take cell_size (drop cell_place s) ≡ drop cell_place s = take_all cell_size (drop cell_place s) (omega arith) in
      rw t (cell-of (drop cell_place s) k (rw t at (both (cell_ok (slot_cell s)) _ f).0))

  slot_whole : slot_bytes (slot_revision s) (slot_text s) ≡ s
  unfolding slot_bytes slot_revision
  slot_whole =
      let e = bytes-big (bytes_at s 0 revision_size) (b 0, (b 1, (b 2, (b 3, tt)))) in
      ap (λ (x : List ℕ). x ++ (get_or s revision_size 0 ∷ cell (slot_text s))) e
      ∙ ap (λ (x : List ℕ). bytes_at s 0 revision_size ++ (get_or s revision_size 0 ∷ x)) cell-whole.0
      ∙ sym (bytes-from s cell_place 0 (omega arith))

  number_fits : (slot_revision s).number < 2 ^ 32
  unfolding slot_revision
  number_fits = omega (arith, b 0, b 1, b 2, b 3)

  fits : (party_fits (slot_revision s) ≡ true) × (not (eqb (slot_revision s).number 0 && not (blank (slot_text s))) ≡ true)
  unfolding slot_formed
  fits = both (party_fits (slot_revision s)) _ (both (cell_ok (slot_cell s)) _ f).1

  given-known : eqb (slot_revision s).number 0 ≡ false → Known (slot_revision s).party.0
  given-known e = known _ (rw e at fits.0)

  never-given : eqb (slot_revision s).number 0 ≡ true → s ≡ empty_slot
  unfolding slot_bytes cell empty_slot
  never-given e =
      let v : slot_revision s ≡ 0 by 0 = revision-is (slot_revision s) 0 0 (eqb-true _ _ e) (eqb-true _ _ (rw e at fits.0)) in
      sym slot_whole ∙ rw v (no_text (slot_text s) (rw e at fits.1))
    where
      no_text : (t : List ℕ) → not (not (blank t)) ≡ true → slot_bytes (0 by 0) t ≡ empty_slot
      no_text [] q = refl
      no_text (x ∷ t) q = absurd (false≢true (rw (ne_eqb (suc (length t)) 0 (λ z. omega arith)) at q))

-- ---- the messages of the slots that were given

abbrev message_in : List ℕ → ℕ → List ℕ
message_in d i = message_of 2 (field_in i) (slot_revision (slot_in d i)) (slot_text (slot_in d i))

-- of the first n slots
abbrev pub messages_in : List ℕ → ℕ → List (List ℕ)
messages_in d zero = []
messages_in d (suc n) = messages_in d n ++ cond (eqb (slot_revision (slot_in d n)).number 0) [] (message_in d n ∷ [])

message-bytes : (f : ℕ) (v : Revision) (t : List ℕ) → f < 256 → v.party.0 < 256 → length t ≤ text_max → Bytes t → Bytes (message_of 2 f v t)
unfolding message_of head_bytes opening
message-bytes f v t hf hp ht b =
    bytes-append (head_bytes 2 f v (length t)) t
    (each-bytes (head_bytes 2 f v (length t)) (omega arith, (omega arith, (omega arith, (hp, (hf, (omega arith, (omega arith, (omega arith, (omega arith, tt)))))))))) b

slot-bytes : (d : List ℕ) (n : ℕ) → Bytes d → Bytes (slot_in d n)
unfolding slot_in
slot-bytes d n b = bytes-between d (n * slot_size) (n * slot_size + slot_size) b

text-bytes : (s : List ℕ) → Bytes s → Bytes (slot_text s)
unfolding slot_text cell_text slot_cell
text-bytes s b = bytes-between (slot_cell s) 1 (1 + get_or (slot_cell s) 0 0) (bytes-between s cell_place slot_size b)

empty-number : (slot_revision empty_slot).number ≡ 0
unfolding slot_revision empty_slot
empty-number = refl

module _ (d : List ℕ) (F : Formed d) (B : Bytes d) where
  abbrev after : ℕ → List ℕ
  after n = posted_from fresh_draft (messages_in d n)

  -- the first n slots are as in d, the others all zero
  abbrev SlotsAfter : ℕ → Type 0
  SlotsAfter n = Formed (after n) × AllBytes (messages_in d n) × ((i : ℕ) → i < slot_count → slot_in (after n) i ≡ cond (ltb i n) (slot_in d i) empty_slot)

  module _ (n : ℕ) (l : n < slot_count) (A : SlotsAfter n) where
    abbrev s : List ℕ
    s = slot_in d n

    sized : length s ≡ slot_size
    sized = length-slot-in d F.sized n l

    others : (i : ℕ) → (i ≡ n → ⊥) → cond (ltb i n) (slot_in d i) empty_slot ≡ cond (ltb i (suc n)) (slot_in d i) empty_slot
    others i q =
        elim (dec_lt i n) [
          | yes y ↦ rw (lt-ltb i n y, lt-ltb i (suc n) (omega arith))
          | no y ↦ rw (le-ltb i n (omega arith), le-ltb i (suc n) (omega arith))
        ]

    none_more : eqb (slot_revision s).number 0 ≡ true → SlotsAfter (suc n)
    none_more e =
        rw (e, append-nil (messages_in d n)) (
          A.0,
          A.1,
          λ i j.
              A.2 i j
              ∙ elim (ℕ_discrete i n) [
                | yes q ↦ rw (q, le-ltb n n (omega arith), lt-ltb n (suc n) (omega arith)) (sym (never-given s sized (F.slot n l) (slot-bytes d n B) e))
                | no q ↦ others i q
              ],
        )

    one_more : eqb (slot_revision s).number 0 ≡ false → SlotsAfter (suc n)
    one_more e =
        let b = slot-bytes d n B in
        let f = F.slot n l in
        let k = given-known s sized f b e in
        let h = number_fits s sized f b in
        let t = (cell-whole s sized f b).1 in
        let g : (slot_revision s).number ≡ 0 → ⊥ = eqb-false (slot_revision s).number 0 e in
        let M : IsMessage (message_in d n) 2 (field_in n) (slot_revision s) (slot_text s) =
        message-of 2 (field_in n) (slot_revision s) (slot_text s) (replicate (head_size 2 + text_max) 0) h
        (record { short = t; speaks = second refl k; listed = field_of n l; given = g; room = omega (arith, length-replicate {A = ℕ} (head_size 2 + text_max) 0) }) in
        let own : slot_in (after n) n ≡ empty_slot = A.2 n l ∙ rw (le-ltb n n (omega arith)) in
        let over : slot_revision (slot_in (after n) (slot_of (field_in n))) below slot_revision s = rw (field-slot n l, own, empty-number) (inl (omega arith)) in
        let w = one-posted (after n) (message_in d n) 2 (field_in n) (slot_revision s) (slot_text s) A.0 M h over in
        let p : after (suc n) ≡ posted_to (after n) (message_in d n) = rw e (posted-more (message_in d n) fresh_draft (messages_in d n)) in (
          subst Formed (sym p) w.0,
          rw e
              (λ a q.
              ⊎_elim (λ (y : Memᴰ a (messages_in d n)). A.1 a y)
              (λ (y : Memᴰ a (message_in d n ∷ [])). rw (Memᴰ.eq_of_singleton y) (message-bytes (field_in n) (slot_revision s) (slot_text s) (field-byte n l) (small _ k) t (text-bytes s b)))
              (Memᴰ.append_cases (messages_in d n) q)),
          λ i j.
              ap (λ (x : List ℕ). slot_in x i) p
              ∙ w.1 i
              ∙ rw (field-slot n l)
              (elim (ℕ_discrete i n) [
                | yes q ↦ rw (q, eq-eqb n n refl, lt-ltb n (suc n) (omega arith)) (slot_whole s sized f b)
                | no q ↦ rw (ne_eqb i n q) (A.2 i j ∙ others i q)
              ]),
        )

  slots-after : (n : ℕ) → n ≤ slot_count → SlotsAfter n
  slots-after zero l = (fresh-formed, λ a m. absurd (Memᴰ.not-nil m), λ i j. fresh-slot i j ∙ rw (le-ltb i 0 (omega arith)))
  slots-after (suc n) l =
      let A = slots-after n (omega arith) in
      cases (eqb (slot_revision (slot_in d n)).number 0) (none_more n (omega arith) A) (one_more n (omega arith) A)

-- the postings of these messages, from a fresh draft, leave it
pub reached : (d : List ℕ) → Bytes d → draft_formed d ≡ true → Postings (messages_in d slot_count) d
unfolding posted_all
reached d B f =
    let F = formed-means d f in
    let A = slots-after d F B slot_count (omega arith) in
    record {
      draft = slots-ext d (after d F B slot_count) F.sized A.0.sized (λ i l. sym (A.2 i l ∙ rw (lt-ltb i slot_count l)));
      strings = A.1;
    }
