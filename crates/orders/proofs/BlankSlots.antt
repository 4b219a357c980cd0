-- Entries put into blank slots, and the set of those slots.
use mathlib.Core.Path.{◌≡◌, refl, ap, sym, ◌∙◌}
use mathlib.Core.Bool.{Bool, true, false, cond, ◌&&◌}
use mathlib.Core.List.{List, [], ◌∷◌}
use Prim.Native.Nat.{ℕ, zero, suc, ◌+◌, ◌-◌, ◌*◌, ◌%◌, ◌^◌, ◌≤◌, ◌<◌}
use native.Mathlib.Numerals.{add-one}
use native.Mathlib.Nat.{two-pow-succ}
use mir.Syntax.{w16}
use mir.Val.{Fits}
use native.Mathlib.Omega.{arith}
use borrow.Author.Tests.{eq-eqb, ne_eqb, not-true}
use lib.Dec.{eqb}
use lib.ListN.{length, get_or, drop}
use Rattle.texts.specs.Quoted.{Text}
use Rattle.texts.specs.Texts.{blank, every, any, are, among, same}
use Rattle.texts.specs.Working.Writing.{put_at}
use Rattle.texts.proofs.Bools.{both}
use Rattle.texts.proofs.Codes.{same_true}
use Rattle.sheets.specs.Sheet.{slot_count, sheet_size, cell, text_of, given}
use Rattle.sheets.specs.Lists.{basis_texts, zero_texts}
use Rattle.sheets.specs.Dates.{force_of, status_texts}
use Rattle.sheets.proofs.InForce.{every_in}
use Rattle.fillings.proofs.EveryFilling.{every-at}
use Rattle.sheets.specs.Working.Entries.{row_of, filled_at}
use Rattle.sheets.specs.declared.dates.Dates.{Dates}
use Rattle.fillings.specs.Fillings as of
use Rattle.fillings.specs.Filled as set
use Rattle.fillings.specs.Working.Places.{places}
use Rattle.fillings.specs.Working.Entering.{Entry, filled_with, slots_of}
use Rattle.orders.specs.Fillings.{list_of, set_of}
use Rattle.orders.specs.Working.Entering.{row_cell, zero_cell, zero_entries, base_of, pick_entries, picked_of}
use Rattle.drafts.specs.Draft.{draft_formed, draft_sheet}
use Rattle.drafts.specs.Working.Steps.{length_in}
use Rattle.drafts.proofs.DraftSheets.{blank-in}
use Rattle.orders.specs.Working.Listing.{texts_by}
use Rattle.orders.specs.declared.entry.Entries.{Entries}
use Rattle.std.specs.Prelude.{Option, is_some}
use Rattle.std.proofs.Math.Pow.{shl_exact, pow_mono}
use Rattle.orders.proofs.Lists.{status-blank, some-listed}
use Rattle.orders.proofs.Keeping.{base-text}

-- fill_slot
pub fill-blank : (s e t x r : List ℕ) (k w : ℕ) → t ≡ text_of s k → length t ≡ 0 → w ≡ k → x ≡ row_cell r → e ≡ put_at s (w * 26) x → e ≡ filled_at s k (row_cell r)
unfolding filled_at
fill-blank s e t x r k w p z q y h = cc (eq-eqb (length t) 0 z)

pub fill-given : (s t x : List ℕ) (k : ℕ) → t ≡ text_of s k → (length t ≡ 0 → ⊥) → s ≡ filled_at s k x
unfolding filled_at
fill-given s t x k p z = cc (ne_eqb (length t) 0 z)

-- a row is the list's cell
abbrev rowed : Text → Bool
rowed t = same (row_cell (row_of t)) (cell t)

row-cell : (texts : List Text) → every rowed texts ≡ true → (k : ℕ) → row_cell (row_of (get_or texts k [])) ≡ cell (get_or texts k [])
unfolding cell row_of same
row-cell texts e k = same_true _ _ (every-at rowed [] refl texts e k)

-- fill_zeros: the entries from place k on are left
zeros-step : (k : ℕ) → k < 6 → (s : List ℕ) → filled_with s (drop k zero_entries) ≡ filled_with (filled_at s (get_or (slots_of zero_entries) k 0) zero_cell) (drop (suc k) zero_entries)
zeros-step zero l s = refl
zeros-step (suc zero) l s = refl
zeros-step (suc (suc zero)) l s = refl
zeros-step (suc (suc (suc zero))) l s = refl
zeros-step (suc (suc (suc (suc zero)))) l s = refl
zeros-step (suc (suc (suc (suc (suc zero))))) l s = refl
zeros-step (suc (suc (suc (suc (suc (suc k)))))) l s = absurd (omega arith)

abbrev pub Zeroed : List ℕ → ℕ → List ℕ → Type 0
Zeroed s k t = filled_with t (drop k zero_entries) ≡ base_of s

pub zeroed-none : (s : List ℕ) → Zeroed s 0 s
unfolding base_of
zeroed-none s = refl

pub zeroed-more : (s t u r : List ℕ) (k : ℕ) → k < 6 → r ≡ row_of (get_or zero_texts 0 []) → u ≡ filled_at t (get_or (slots_of zero_entries) k 0) (row_cell r) → Zeroed s k t → Zeroed s (k + 1) u
unfolding cell row_of every same
zeroed-more s t u r k l h e z =
    let c : row_cell r ≡ zero_cell = ap row_cell h ∙ row-cell zero_texts refl 0 in
    (λ i. filled_with (e i) (drop (add-one k i) zero_entries)) ∙ (λ i. filled_with (filled_at t (get_or (slots_of zero_entries) k 0) (c i)) (drop (suc k) zero_entries)) ∙ sym (zeros-step k l t) ∙ z

pub zeroed-all : (s t : List ℕ) (k : ℕ) → 6 ≤ k → k ≤ 6 → Zeroed s k t → t ≡ base_of s
zeroed-all s t k l m z = let e : 6 ≡ k = omega arith in ap (λ (j : ℕ). filled_with t (drop j zero_entries)) e ∙ z

-- fill_picked
none_filled : (s : List ℕ) (es : List Entry) → every (given s) (slots_of es) ≡ true → s ≡ filled_with s es
unfolding every filled_at given
none_filled s [] e = refl
none_filled s (x ∷ es) e =
    let p = both (given s x.0) (every (given s) (slots_of es)) e in
    rw (not-true (blank (text_of s x.0)) p.0) (none_filled s es p.1)

pub picked-filled : (D : Dates) (s a b c d q r t u : List ℕ) (i j k l : ℕ) → q ≡ row_of (get_or (status_texts D) i []) → a ≡ filled_at s 6 (row_cell q)
    → r ≡ row_of (get_or basis_texts j []) → b ≡ filled_at a 11 (row_cell r) → t ≡ row_of (get_or zero_texts k []) → c ≡ filled_at b 13 (row_cell t)
    → u ≡ row_of (get_or zero_texts l []) → d ≡ filled_at c 14 (row_cell u) → d ≡ picked_of D s (i ∷ j ∷ k ∷ l ∷ [])
unfolding picked_of cell row_of every same
picked-filled D s a b c d q r t u i j k l hq ha hr hb ht hc hu hd =
    cc (row-cell (status_texts D) (every_in rowed (force_of D) refl) i, row-cell basis_texts refl j, row-cell zero_texts refl k, row-cell zero_texts refl l)

-- filled_set
abbrev bit : List ℕ → ℕ → ℕ → ℕ
bit s k v = cond (blank (text_of s k)) v 0

bits_are : (D : Dates) (s : List ℕ)
    → bit s 3 8 + bit s 4 16 + bit s 6 64 + bit s 7 128 + bit s 9 512 + bit s 10 1024 + bit s 11 2048 + bit s 12 4096 + bit s 13 8192 + bit s 14 16384 ≡ set_of D s
unfolding set.set_of of.to_fill list_of
bits_are D s = omega (arith, ap (λ (y : Bool). cond {A = ℕ} y 64 0) (status-blank D s))

places-next : (k : ℕ) → k < slot_count → places (slot_count - k) k ≡ k ∷ places (slot_count - (k + 1)) (k + 1)
unfolding places
places-next k h = let e : slot_count - k ≡ suc (slot_count - (k + 1)) = omega arith in (λ i. places (e i) k) ∙ (λ i. k ∷ places (slot_count - (k + 1)) (sym (add-one k) i))

-- the bits of the slots before k are counted, and those from there on are left
abbrev pub Counted : List ℕ → ℕ → ℕ → Type 0
Counted d k n = (n < 2 ^ k) × ((D : Dates) → draft_formed d ≡ true → n + set.bits (list_of D) (draft_sheet d) (places (slot_count - k) k) ≡ set_of D (draft_sheet d))

pub counted-none : (d : List ℕ) → Counted d 0 0
unfolding set.set_of places
counted-none d = (omega arith, λ D w. omega arith)

pub bit-small : (k : ℕ) → k < slot_count → 1 * 2 ^ k % 65536 ≡ 2 ^ k
bit-small k h = let e : 1 * 2 ^ k % 65536 ≡ 1 * 2 ^ k = shl_exact 1 k 16 (omega arith) (omega arith) in omega (arith, e)

pub counted-fits : (d : List ℕ) (k n : ℕ) → k < slot_count → Counted d k n → Fits w16 (n + 1 * 2 ^ k % 65536)
counted-fits d k n h C = let m : k ≤ 14 = omega arith in record { fits = omega (arith, C.0, bit-small k h, pow_mono m) }

module _ (d : List ℕ) (k n : ℕ) (h : k < slot_count) (C : Counted d k n) (l : Option Entries) (hl : (E : Dates) → texts_by E l ≡ list_of E k) where
  pub counted-step : (b : Bool) → (is_some l && eqb (length_in d k) 0) ≡ b → (m : ℕ) → m ≡ n + cond b (2 ^ k) 0 → Counted d (k + 1) m
  unfolding of.to_fill
  counted-step b e m q = (
    omega (arith, C.0, at-most b, ap (λ (j : ℕ). 2 ^ j) (add-one k), two-pow-succ k),
    λ D w.
        let f : of.to_fill (list_of D) (draft_sheet d) k ≡ b = (λ i. sym (some-listed D k l hl) i && blank-in d w k h i) ∙ e in
        let ks = places (slot_count - (k + 1)) (k + 1) in
        let a : n + (cond b (2 ^ k) 0 + set.bits (list_of D) (draft_sheet d) ks) ≡ set_of D (draft_sheet d) =
        (λ i. n + (cond (sym f i) (2 ^ k) 0 + set.bits (list_of D) (draft_sheet d) ks))
        ∙ ap (λ (ps : List ℕ). n + set.bits (list_of D) (draft_sheet d) ps) (sym (places-next k h))
        ∙ C.1 D w
        in
        omega (arith, a),
  )
    where
      at-most : (b : Bool) → cond b (2 ^ k) 0 ≤ 2 ^ k
      at-most true = omega arith
      at-most false = omega arith

pub counted-all : (d : List ℕ) (k n : ℕ) → Counted d k n → slot_count ≤ k → k ≤ slot_count → (D : Dates) → draft_formed d ≡ true → n ≡ set_of D (draft_sheet d)
unfolding places
counted-all d k n C l m D w =
    let e : 0 ≡ slot_count - k = omega arith in
    let z : n + 0 ≡ set_of D (draft_sheet d) = (λ i. n + set.bits (list_of D) (draft_sheet d) (places (e i) k)) ∙ C.1 D w in
    omega (arith, z)

-- fill_found: where no slot is filled, the four fields are given
no-bit : (b : Bool) (v : ℕ) → 0 < v → cond b v 0 ≡ 0 → b ≡ false
no-bit true v l e = absurd (omega arith)
no-bit false v l e = refl

pub picked-empty : (D : Dates) (s t q : List ℕ) (n : ℕ) → n ≡ 0 → length s ≡ sheet_size → n ≡ set_of D s → t ≡ base_of s → t ≡ picked_of D t q
unfolding picked_of every any are among given
picked-empty D s t q n z size e h =
    let sum = bits_are D s in
    let stays : (k v : ℕ) → among k (slots_of zero_entries) ≡ false → 0 < v → bit s k v ≡ 0 → blank (text_of t k) ≡ false =
    λ k v m l y. ap (λ (u : List ℕ). blank (text_of u k)) h ∙ ap blank (base-text D s size k m) ∙ no-bit (blank (text_of s k)) v l y in
    none_filled t (pick_entries D q) (rw (stays 6 64 refl (omega arith) (omega arith), stays 11 2048 refl (omega arith) (omega arith), stays 13 8192 refl (omega arith) (omega arith), stays 14 16384 refl (omega arith) (omega arith)))
