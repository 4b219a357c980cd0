-- What asking for an entry of a list returned.
use mathlib.Core.Path.{◌≡◌, refl, sym, ap, ◌∙◌}
use mathlib.Core.List.{[]}
use Rattle.std.specs.Prelude.{Option, Some, None, Result, Ok, Err}
use Rattle.texts.specs.declared.answers.Refusal.{Refusal}
use Prim.Native.Nat.{ℕ}
use lib.ListN.{get_or}
use Rattle.texts.specs.Answers.{success}
use Rattle.sheets.specs.Sheet.{slot_of}
use Rattle.sheets.specs.declared.dates.Dates.{Dates}
use Rattle.orders.specs.Entry.{list_for, entry_tests, listing, row_text, entry_answer, Lists}
use Rattle.orders.specs.declared.entry.Row.{Row}
use Rattle.orders.proofs.Listing.{at_most_two, row-text}
use Rattle.capi.specs.Numbers.{numbered}
use Rattle.capi.specs.Entry.{entry_numbers, row_numbers, entry_of, EntryReturns}
use Rattle.capi.specs.declared.Entry.{Entry as Given}
use Rattle.capi.proofs.Numbers.{Back, tested, at}

entry-back : (D : Dates) (f k : ℕ) → Back entry_numbers entry_of (listing D f k)
unfolding listing entry_tests entry_numbers entry_of numbered
entry-back D f k = tested (Back entry_numbers entry_of) (entry_tests D f) _ (ap success (row-text _ (at_most_two D (slot_of f) k))) (search depth 12)

module _ (D : Dates) (f k : ℕ) (r : Given) (q : r ≡ entry_numbers (listing D f k)) where
  entered : EntryReturns D f k r
  unfolding entry_numbers
  entered = record {
    numbers = q;
    answer = ap entry_of q ∙ entry-back D f k;
    one = λ a. at entry_numbers q;
    two = λ a b. at entry_numbers q;
    nothing = at entry_numbers q;
    refused = λ n vs. at entry_numbers q;
  }

module _ (D E : Dates) (z : E ≡ D) (f k : ℕ) where
  -- what was asked for, by what it answered; the row of an entry is that of the list's text
  pub listed-is : (v : Result (Option Row) Refusal) → Lists E f k v → (r : Given) → r ≡ row_numbers v → EntryReturns D f k r
  unfolding entry_numbers entry_answer
  listed-is (Ok (Some row)) p r q =
      let t = get_or (list_for E f) k [] in
      let h = (p.entry row refl).1 in
      let g : success t ≡ listing E f k = ap success (sym (row-text t (at_most_two E (slot_of f) k))) ∙ ap (λ (x : Row). success (row_text x)) (sym h) ∙ p.answer in
      let s : r ≡ entry_numbers (listing E f k) = q ∙ ap (λ (x : Row). record { number = 0; length = x.length; first = x.first; second = x.second }) h ∙ ap entry_numbers g in
      entered D f k r (s ∙ ap (λ (F : Dates). entry_numbers (listing F f k)) z)
  listed-is (Ok None) p r q = entered D f k r (q ∙ ap entry_numbers p.answer ∙ ap (λ (F : Dates). entry_numbers (listing F f k)) z)
  listed-is (Err n) p r q = entered D f k r (q ∙ ap entry_numbers p.answer ∙ ap (λ (F : Dates). entry_numbers (listing F f k)) z)
