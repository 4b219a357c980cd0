-- Slots: what one of a revision and a text reads as, and the slots after one was put in.
use mathlib.Core.Path.{◌≡◌, refl, sym, ap, ◌∙◌}
use mathlib.Core.Bool.{Bool, true, false, not, cond, ◌&&◌, false≢true}
use mathlib.Core.List.{List, [], ◌∷◌}
use mathlib.Core.Logic.{inl, inr}
use Prim.Native.Nat.{ℕ, zero, suc, ◌+◌, ◌-◌, ◌*◌, ◌^◌, ◌<◌, ◌≤◌}
use native.Mathlib.Numerals.{add-one}
use native.Mathlib.Decide.{dec_lt}
use native.Mathlib.Omega.{arith}
use borrow.Author.Tests.{ltb-true, le-leb, eq-eqb, ne_eqb, eqb-true}
use borrow.Author.Rules.{rules}
use lib.Dec.{eqb, ltb}
use lib.ListN.{length, get_or, take, drop, replicate, length-append, length-drop, length-replicate}
use lib.Seq.{get_or-take, get_or-drop, take_all, take-add, take-take, drop_at, drop-drop, drop-append_seam, length-take-le}
use Rattle.texts.specs.Texts.{between, blank, every, are}
use Rattle.texts.specs.Buffers.{put}
use Rattle.texts.proofs.Big.{big-bytes}
use Rattle.texts.proofs.Bools.{cases, both, and2, alike}
use Rattle.texts.proofs.Puts.{length-put, part-put, mid-put}
use Rattle.sheets.proofs.Frames.{length-cell}
use Rattle.sheets.proofs.Cells.{cells-each, cells-by}
use Rattle.sheets.specs.Sheet.{slot_count, text_max, cell_size, cell, cell_text, cell_ok}
use Rattle.sheets.specs.Working.Cells.{cell_at, cells_at}
use Rattle.drafts.specs.Revision.{known_party, Known}
use Rattle.drafts.specs.Message.{revision_size}
use Rattle.drafts.specs.Draft.{cell_place, slot_size, draft_size, slot_in, slot_revision, slot_cell, slot_text, slot_bytes, party_fits, slot_formed, slots_formed, draft_formed}
use Rattle.drafts.specs.Working.Steps.{head_fits, heads_fit}
use Rattle.drafts.specs.declared.revision.Revision.{Revision}
use Rattle.drafts.proofs.Messages.{revision-is, known, known_by, small}

-- ---- a slot of a revision, its party and a text

pub length-slot : (v : Revision) (t : List ℕ) → length t ≤ text_max → length (slot_bytes v t) ≡ slot_size
unfolding slot_bytes cell
length-slot v t h = simp (length-append, length-replicate) (omega arith)

pub slot-revision : (v : Revision) (t : List ℕ) → v.number < 2 ^ 32 → slot_revision (slot_bytes v t) ≡ v
unfolding slot_bytes cell slot_revision
slot-revision v t h = sym (revision-is v _ _ (sym (big-bytes revision_size v.number h)) refl)

every-zeros : (n : ℕ) → every (are 0) (replicate n 0) ≡ true
unfolding every are
every-zeros zero = refl
every-zeros (suc n) = every-zeros n

pub cell-ok : (t : List ℕ) → length t ≤ text_max → cell_ok (cell t) ≡ true
unfolding cell_ok cell between
cell-ok t h =
    let e : 1 + length t ≡ suc (length t) = omega arith in
    let f : cell_size - suc (length t) ≡ text_max - length t = omega arith in
    rw (le-leb _ _ h, e, f, drop-append_seam t (replicate (text_max - length t) 0), take_all {A = ℕ} (text_max - length t) (replicate (text_max - length t) 0) (omega (arith, length-replicate {A = ℕ} (text_max - length t) 0))) (every-zeros (text_max - length t))

pub slot-formed : (v : Revision) (t : List ℕ) → v.number < 2 ^ 32 → (v.number ≡ 0 → ⊥) → Known v.party.0 → length t ≤ text_max → slot_formed (slot_bytes v t) ≡ true
unfolding slot_formed slot_cell slot_bytes between
slot-formed v t h z k l = rw (take_all cell_size (cell t) (omega (arith, length-cell t l)), cell-ok t l, slot-revision v t h, ne_eqb v.number 0 z, known_by v.party.0 k)

-- the party in a slot that is formed is a byte
pub party-small : (s : List ℕ) → slot_formed s ≡ true → (slot_revision s).party.0 < 256
unfolding slot_formed
party-small s e =
    let v = slot_revision s in
    let q = (both (party_fits v) _ (both (cell_ok (slot_cell s)) _ e).1).0 in
    cases (eqb v.number 0) (λ t. omega (arith, eqb-true v.party.0 0 (rw t at q))) (λ f. small v.party.0 (known v.party.0 (rw f at q)))

-- its cell is that of the text
pub slot-cell : (v : Revision) (t : List ℕ) → length t ≤ text_max → slot_cell (slot_bytes v t) ≡ cell t
unfolding slot_cell slot_bytes between
slot-cell v t l = take_all cell_size (cell t) (omega (arith, length-cell t l))

-- ---- the slots of a draft

slot-part : (d : List ℕ) (i : ℕ) → slot_in d i ≡ take slot_size (drop (i * slot_size) d)
unfolding slot_in between
slot-part d i = let e : i * slot_size + slot_size - i * slot_size ≡ slot_size = omega arith in rw e

pub at_slot : (d : List ℕ) (i k : ℕ) → k < slot_size → get_or (slot_in d i) k 0 ≡ get_or d (i * slot_size + k) 0
at_slot d i k h = rw (slot-part d i, get_or-take, get_or-drop)

module _ (d : List ℕ) (size : length d ≡ draft_size) where
  pub length-slot-in : (i : ℕ) → i < slot_count → length (slot_in d i) ≡ slot_size
  length-slot-in i h = rw (slot-part d i) (length-take-le slot_size (drop (i * slot_size) d) (omega (arith, length-drop (i * slot_size) d)))

  module _ (s : List ℕ) (l : length s ≡ slot_size) (j : ℕ) (jn : j < slot_count) where
    pub length-put-slot : length (put d (j * slot_size) s) ≡ draft_size
    length-put-slot = length-put d (j * slot_size) s (omega arith) ∙ size

    pub slot_same : slot_in (put d (j * slot_size) s) j ≡ s
    slot_same = slot-part (put d (j * slot_size) s) j ∙ mid-put d (j * slot_size) s slot_size l (omega arith)

    pub slot-other : (i : ℕ) → (i ≡ j → ⊥) → slot_in (put d (j * slot_size) s) i ≡ slot_in d i
    slot-other i ne =
        slot-part (put d (j * slot_size) s) i
        ∙ part-put d (j * slot_size) s (i * slot_size) slot_size (elim (dec_lt i j) [ yes p ↦ inl (omega arith) | no q ↦ inr (omega arith) ]) (omega arith)
        ∙ sym (slot-part d i)

-- ---- well-formed drafts

pub formed-other : (d : List ℕ) → (length d ≡ draft_size → ⊥) → false ≡ draft_formed d
unfolding draft_formed
formed-other d e = simp (ne_eqb (length d) draft_size e)

pub record Formed (d : List ℕ) : Type 0 where
  pub sized : length d ≡ draft_size
  pub slot : (i : ℕ) → i < slot_count → slot_formed (slot_in d i) ≡ true

slots-each : (d : List ℕ) (n : ℕ) → slots_formed d n ≡ true → (i : ℕ) → i < n → slot_formed (slot_in d i) ≡ true
unfolding slots_formed
slots-each d zero e i h = absurd (omega arith)
slots-each d (suc n) e i h =
    let p = both (slots_formed d n) (slot_formed (slot_in d n)) e in
    elim (dec_lt i n) [
      | yes l ↦ slots-each d n p.0 i l
      | no q ↦ let k : i ≡ n = omega arith in rw k p.1
    ]

pub formed-means : (d : List ℕ) → draft_formed d ≡ true → Formed d
unfolding draft_formed
formed-means d e =
    let p = both (eqb (length d) draft_size) (slots_formed d slot_count) e in
    record { sized = eqb-true _ _ p.0; slot = slots-each d slot_count p.1 }

pub formed-by : (d : List ℕ) → Formed d → draft_formed d ≡ true
unfolding draft_formed slots_formed
formed-by d f =
    let each : (i : ℕ) → ltb i slot_count ≡ true → slot_formed (slot_in d i) ≡ true = λ i t. f.slot i (ltb-true i slot_count t) in
    simp (eq-eqb _ _ f.sized, each)

-- ---- a draft is tested by its cells and by what stands before them

-- the cell of slot i stands in the draft at its place
slot-cell-at : (d : List ℕ) → length d ≡ draft_size → (i : ℕ) → i < slot_count → slot_cell (slot_in d i) ≡ between d (cell_place + i * slot_size) (cell_place + i * slot_size + cell_size)
unfolding slot_cell between
slot-cell-at d z i h =
    let y = drop (i * slot_size) d in
    let l : cell_place ≤ length y = omega (arith, length-drop (i * slot_size) d) in
    let e : cell_place + i * slot_size + cell_size - (cell_place + i * slot_size) ≡ cell_size = omega arith in
    let k : cell_place + i * slot_size ≡ i * slot_size + cell_place = omega arith in
    rw (slot-part d i, take-add cell_place cell_size y, drop_at (take cell_place y) (take cell_size (drop cell_place y)) cell_place (length-take-le cell_place y l), take-take cell_size cell_size (drop cell_place y) (omega arith), e, drop-drop cell_place (i * slot_size) d, k)

slot-inside : (d : List ℕ) → length d ≡ draft_size → (i : ℕ) → i < slot_count → cell_at d (cell_place + i * slot_size) ≡ cell_ok (slot_cell (slot_in d i))
unfolding cell_at
slot-inside d z i h = rw (le-leb (cell_place + i * slot_size + cell_size) (length d) (omega arith), slot-cell-at d z i h)

-- a text is blank exactly if its length is 0
short-blank : (c : List ℕ) → 2 ≤ length c → eqb (length (take (1 + get_or c 0 0 - 1) (drop 1 c))) 0 ≡ eqb (get_or c 0 0) 0
short-blank [] h = absurd (omega arith)
short-blank (x ∷ []) h = absurd (omega arith)
short-blank (zero ∷ (y ∷ r)) h = refl
short-blank (suc x ∷ (y ∷ r)) h =
    let e : 1 + suc x - 1 ≡ suc x = omega arith in
    rw (e, ne_eqb (suc x) 0 (λ z. omega arith)) (ne_eqb (suc (length (take x r))) 0 (λ z. omega arith))

pub text-blank : (s : List ℕ) → length s ≡ slot_size → blank (slot_text s) ≡ eqb (get_or s cell_place 0) 0
unfolding slot_text cell_text slot_cell between
text-blank s l =
    let c = take cell_size (drop cell_place s) in
    let k : 2 ≤ length c = omega (arith, length-take-le cell_size (drop cell_place s) (omega (arith, length-drop cell_place s))) in
    let g : get_or c 0 0 ≡ get_or s cell_place 0 = get_or-take cell_size (drop cell_place s) 0 0 (omega arith) ∙ get_or-drop cell_place s 0 0 in
    short-blank c k ∙ ap (λ (n : ℕ). eqb n 0) g

-- what fits before a text, as the definition and as the code ask it
twice : (b : Bool) → not (not b) ≡ b
twice true = refl
twice false = refl

heads-fit : (z : Bool) (n p : ℕ) → (cond z (eqb p 0) (known_party p) && not (z && not (eqb n 0))) ≡ cond z (eqb p 0 && eqb n 0) (known_party p)
heads-fit true n p = rw (twice (eqb n 0))
heads-fit false n p = cases (known_party p) (λ t. rw t) (λ f. rw f)

slot_is : (s : List ℕ) → length s ≡ slot_size → slot_formed s ≡ (cell_ok (slot_cell s) && head_fits s)
unfolding slot_formed head_fits
slot_is s l = rw (text-blank s l, heads-fit (eqb (slot_revision s).number 0) (get_or s cell_place 0) (slot_revision s).party.0)

heads-each : (d : List ℕ) (n : ℕ) → heads_fit d n ≡ true → (i : ℕ) → i < n → head_fits (slot_in d i) ≡ true
unfolding heads_fit
heads-each d zero e i h = absurd (omega arith)
heads-each d (suc n) e i h =
    let p = both (heads_fit d n) (head_fits (slot_in d n)) e in
    elim (dec_lt i n) [
      | yes l ↦ heads-each d n p.0 i l
      | no q ↦ let k : i ≡ n = omega arith in rw k p.1
    ]

heads-by : (d : List ℕ) (n : ℕ) → ((i : ℕ) → i < n → head_fits (slot_in d i) ≡ true) → heads_fit d n ≡ true
unfolding heads_fit
heads-by d zero f = refl
heads-by d (suc n) f = and2 _ _ (heads-by d n (λ i h. f i (omega arith))) (f n (omega arith))

-- the loop over the slots
pub heads-none : (d : List ℕ) → true ≡ heads_fit d 0
unfolding heads_fit
heads-none d = refl

pub heads-more : (d s : List ℕ) (n : ℕ) (k b : Bool) → k ≡ heads_fit d n → s ≡ slot_in d n → b ≡ head_fits s → (k && b) ≡ heads_fit d (n + 1)
unfolding heads_fit
heads-more d s n k b e es eb = rw (add-one n, e, eb, es)

module _ (d : List ℕ) (z : length d ≡ draft_size) (q : Bool) (e : q ≡ cells_at slot_size slot_count d cell_place) where
  slot_at : (i : ℕ) → i < slot_count → slot_formed (slot_in d i) ≡ (cell_at d (cell_place + i * slot_size) && head_fits (slot_in d i))
  slot_at i h = slot_is (slot_in d i) (length-slot-in d z i h) ∙ rw (slot-inside d z i h)

  both-formed : draft_formed d ≡ true → (q ≡ true) × ((i : ℕ) → i < slot_count → head_fits (slot_in d i) ≡ true)
  both-formed t =
      let w = formed-means d t in
      let each : (i : ℕ) → i < slot_count → (cell_at d (cell_place + i * slot_size) ≡ true) × (head_fits (slot_in d i) ≡ true) = λ i j. both _ _ (sym (slot_at i j) ∙ w.slot i j) in
      (e ∙ cells-by slot_size d slot_count cell_place (λ i j. (each i j).0), λ i j. (each i j).1)

  pub cells-not : q ≡ false → false ≡ draft_formed d
  cells-not f = alike false (draft_formed d) (λ x. absurd (false≢true x)) (λ t. sym f ∙ (both-formed t).0)

  pub tested : (n : ℕ) (k : Bool) → q ≡ true → k ≡ heads_fit d n → n ≤ slot_count → slot_count ≤ n → k ≡ draft_formed d
  tested n k t c l h =
      let all : heads_fit d slot_count ≡ k = let m : n ≡ slot_count = omega arith in rw (← m) (sym c) in
      alike k (draft_formed d)
      (λ u. formed-by d (record { sized = z; slot = λ i j. slot_at i j ∙ and2 _ _ (cells-each slot_size d slot_count cell_place (sym e ∙ t) i j) (heads-each d slot_count (all ∙ u) i j) }))
      (λ u. sym all ∙ heads-by d slot_count (both-formed u).1)

pub ruleset forms = (rules, formed-other, cells-not, heads-none, heads-more, tested)
