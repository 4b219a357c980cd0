-- An entry of a field's list: which list a slot's field has, and the ways out of `entry`.
use mathlib.Core.Path.{◌≡◌, refl, sym, ap, ◌∙◌}
use mathlib.Core.Bool.{Bool, true, false, not, true≢false}
use mathlib.Core.List.{List, [], ◌∷◌}
use Prim.Native.Nat.{ℕ, zero, suc, ◌<◌, ◌≤◌}
use native.Mathlib.Omega.{arith}
use borrow.Author.Tests.{leb-true, eq-eqb, ne_eqb, not-true, not-false}
use lib.Dec.{leb}
use lib.ListN.{length, get_or}
use Rattle.texts.specs.Refusals.{refusal_number}
use Rattle.texts.specs.declared.answers.Refusal.TheVariants.{Undated, UnknownField}
use Rattle.texts.specs.Quoted.{Text, words}
use Rattle.texts.specs.Texts.{every, any, same}
use Rattle.texts.proofs.Bools.{both}
use Rattle.texts.specs.Answers.{success}
use Rattle.sheets.specs.Sheet.{slot_count, slot_of, text_max}
use Rattle.sheets.specs.Dates.{dates_fit, texts_in, status_texts, force_of}
use Rattle.sheets.specs.Working.Entries.{row_of}
use Rattle.sheets.specs.declared.dates.Dates.{Dates}
use Rattle.sheets.proofs.InForce.{by-force}
use Rattle.fillings.specs.Working.Proper.{entry}
use Rattle.fillings.proofs.EveryFilling.{every-at}
use Rattle.orders.specs.Fillings.{lists, list_of}
use Rattle.orders.specs.Entry.{list_for, entry_tests, listing, row_text, text_row, entry_answer, Lists}
use Rattle.orders.specs.declared.entry.Row.{Row}
use Rattle.texts.specs.declared.answers.Refusal.{Refusal}
use Rattle.std.specs.Prelude.{Option, Some, None, Result, Ok, Err}
use Rattle.orders.specs.Working.Listing.{texts_by}
use Rattle.std.proofs.lemmas.List.{get_or_past}
use Rattle.orders.specs.declared.entry.Entries.{Entries}
use Rattle.orders.specs.declared.entry.Entries.TheVariants.{Zero, Zeros, Bases, Statuses}
use Rattle.orders.proofs.Lists.{at_map, proper}

-- ---- only_row, row_in

pub only-first : (k : ℕ) → k ≡ 0 → 1 ∷ 48 ∷ 0 ∷ [] ≡ row_of (get_or (words "0") k [])
unfolding row_of
only-first k e = rw e

pub only-past : (k : ℕ) → (k ≡ 0 → ⊥) → 0 ∷ 0 ∷ 0 ∷ [] ≡ row_of (get_or (words "0") k [])
unfolding row_of
only-past zero n = absurd (n refl)
only-past (suc k) n = refl

-- the table LISTS
abbrev table : List (Option Entries)
table =
    None ∷ None ∷ None ∷ Some Zero ∷ Some Zero ∷ None ∷ Some Statuses ∷ Some Zero ∷ None ∷ Some Zero ∷ Some Zero ∷ Some Bases ∷ Some Zero ∷ Some Zeros
    ∷ Some Zeros ∷ []

pub list-is : (D : Dates) (k : ℕ) → texts_by D (get_or table k None) ≡ list_of D k
unfolding list_of
list-is D k = sym (at_map (texts_by D) None table k)

pub list-listed : (D : Dates) (k w : ℕ) → w ≡ k → texts_by D (get_or table w None) ≡ list_of D k
list-listed D k w e = list-is D w ∙ ap (list_of D) e

pub list-past : (D : Dates) (k w : ℕ) → w ≡ k → 15 ≤ w → [] ≡ list_of D k
unfolding list_of
list-past D k w e h = sym (get_or_past (lists (status_texts D)) k [] (omega arith))

pub row-none : (D : Dates) (s k : ℕ) → ((E : Dates) → [] ≡ list_of E s) → 0 ∷ 0 ∷ 0 ∷ [] ≡ row_of (get_or (list_of D s) k [])
unfolding row_of
row-none D s k h = ap (λ (ts : List Text). row_of (get_or ts k [])) (h D)

-- ---- an entry has one or two bytes; a place without one is past the end

inside : (ts : List Text) (k : ℕ) → (length (get_or ts k []) ≡ 0 → ⊥) → k < length ts
inside [] k n = absurd (n refl)
inside (t ∷ ts) zero n = omega arith
inside (t ∷ ts) (suc k) n = let h = inside ts k n in omega arith

past : (ts : List Text) → every entry ts ≡ true → (k : ℕ) → length (get_or ts k []) ≡ 0 → length ts ≤ k
unfolding every
past [] h k e = omega arith
past (t ∷ ts) h zero e =
    let p = both (entry t) (every entry ts) h in
    let q = leb-true 1 (length t) (both (leb 1 (length t)) (leb (length t) text_max) p.0).0 in
    absurd (omega arith)
past (t ∷ ts) h (suc k) e = let q = past ts (both (entry t) (every entry ts) h).1 k e in omega arith

abbrev brief : Text → Bool
brief t = leb (length t) 2

pub at_most_two : (D : Dates) (j k : ℕ) → length (get_or (list_of D j) k []) ≤ 2
unfolding every any same texts_in list_of
at_most_two D j k =
    leb-true (length (get_or (list_of D j) k [])) 2
    (every-at brief [] refl (list_of D j)
    (every-at (every brief) [] refl (lists (status_texts D)) (by-force (λ (ts : List Text). every (every brief) (lists ts)) (force_of D) refl) j)
    k)

pub row-text : (t : Text) → length t ≤ 2 → row_text (text_row t) ≡ t
row-text [] l = refl
row-text (a ∷ []) l = refl
row-text (a ∷ (b ∷ [])) l = refl
row-text (a ∷ (b ∷ (c ∷ t))) l = absurd (omega arith)

-- ---- the ways out

kind : Result (Option Row) Refusal → ℕ
kind (Ok (Some r)) = 0
kind (Ok None) = 1
kind (Err n) = suc (suc (refusal_number n))

empty : (t : Text) → length t ≡ 0 → t ≡ []
empty [] e = refl
empty (x ∷ t) e = absurd (omega arith)

-- what `entry` makes of a row
abbrev row_in : List ℕ → Row
row_in r = record { length = get_or r 0 0; first = get_or r 1 0; second = get_or r 2 0 }

entry-same : (r s : Row) → ◌≡◌ {A = Result (Option Row) Refusal} (Ok (Some r)) (Ok (Some s)) → r ≡ s
entry-same r s e = cc

module _ (D : Dates) (f k : ℕ) (w : Bool) (h : w ≡ dates_fit D) where
  pub entry-undated : not w ≡ true → Lists D f k (Err Undated)
  unfolding kind listing entry_tests entry_answer
  entry-undated e =
      let n : dates_fit D ≡ false = sym h ∙ not-true w e in
      record {
        answer = rw n;
        entry = λ r q. let z : ◌≡◌ {A = ℕ} 14 0 = ap kind q in absurd (omega arith);
        nothing = λ q. let z : ◌≡◌ {A = ℕ} 14 1 = ap kind q in absurd (omega arith);
        undated = (λ q. n, λ q. refl);
        unlisted = (λ q. let z : ◌≡◌ {A = ℕ} 14 6 = ap kind q in absurd (omega arith), λ q. absurd (true≢false (sym q.0 ∙ n)));
      }

  module _ (g : not w ≡ false) (s : ℕ) (a : s ≡ slot_of f) where
    fit : dates_fit D ≡ true
    fit = sym h ∙ not-false w g

    pub entry-unlisted : s ≡ slot_count → Lists D f k (Err UnknownField)
    unfolding kind listing entry_tests entry_answer
    entry-unlisted e =
        record {
          answer = rw (fit, eq-eqb (slot_of f) slot_count (sym a ∙ e));
          entry = λ r q. let z : ◌≡◌ {A = ℕ} 6 0 = ap kind q in absurd (omega arith);
          nothing = λ q. let z : ◌≡◌ {A = ℕ} 6 1 = ap kind q in absurd (omega arith);
          undated = (λ q. let z : ◌≡◌ {A = ℕ} 6 14 = ap kind q in absurd (omega arith), λ q. absurd (true≢false (sym fit ∙ q)));
          unlisted = (λ q. (fit, sym a ∙ e), λ q. refl);
        }

    module _ (n : s ≡ slot_count → ⊥) (row : List ℕ) (q : row ≡ row_of (get_or (list_of D s) k [])) where
      abbrev text : Text
      text = get_or (list_for D f) k []

      row_is : row ≡ row_of text
      row_is = q ∙ ap (λ (j : ℕ). row_of (get_or (list_of D j) k [])) a

      answered : listing D f k ≡ success text
      unfolding listing entry_tests
      answered = rw (fit, ne_eqb (slot_of f) slot_count (λ e. n (a ∙ e)))

      pub entry-nothing : get_or row 0 0 ≡ 0 → Lists D f k (Ok None)
      unfolding kind entry_answer row_of
      entry-nothing e =
          let l : length text ≡ 0 = sym (ap (λ (r : List ℕ). get_or r 0 0) row_is) ∙ e in
          record {
            answer = ap success (sym (empty text l)) ∙ sym answered;
            entry = λ r p. let z : ◌≡◌ {A = ℕ} 1 0 = ap kind p in absurd (omega arith);
            nothing = λ p. past (list_for D f) ((proper D).entries (slot_of f)) k l;
            undated = (λ p. let z : ◌≡◌ {A = ℕ} 1 14 = ap kind p in absurd (omega arith), λ p. absurd (true≢false (sym fit ∙ p)));
            unlisted = (λ p. let z : ◌≡◌ {A = ℕ} 1 6 = ap kind p in absurd (omega arith), λ p. absurd (n (a ∙ p.1)));
          }

      pub entry_found : (get_or row 0 0 ≡ 0 → ⊥) → Lists D f k (Ok (Some (row_in row)))
      unfolding kind entry_answer row_of
      entry_found e =
          let l : length text ≡ 0 → ⊥ = λ z. e (ap (λ (r : List ℕ). get_or r 0 0) row_is ∙ z) in
          let m : row_in row ≡ text_row text = ap row_in row_is in
          record {
            answer = ap (λ (r : Row). success (row_text r)) m ∙ ap success (row-text text (at_most_two D (slot_of f) k)) ∙ sym answered;
            entry = λ r p. (inside (list_for D f) k l, sym (entry-same _ r p) ∙ m);
            nothing = λ p. let z : ◌≡◌ {A = ℕ} 0 1 = ap kind p in absurd (omega arith);
            undated = (λ p. let z : ◌≡◌ {A = ℕ} 0 14 = ap kind p in absurd (omega arith), λ p. absurd (true≢false (sym fit ∙ p)));
            unlisted = (λ p. let z : ◌≡◌ {A = ℕ} 0 6 = ap kind p in absurd (omega arith), λ p. absurd (n (a ∙ p.1)));
          }

pub ruleset told = (entry-undated, entry-unlisted, entry-nothing, entry_found)
