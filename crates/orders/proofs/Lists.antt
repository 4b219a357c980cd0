-- Document 01's lists are at all dates lists of entries, each once: by the eight lists that a date can allow. The list of 101
-- is never empty.
use mathlib.Core.Path.{◌≡◌, refl, sym, ap, ◌∙◌}
use mathlib.Core.Bool.{true}
use mathlib.Core.List.{List, [], ◌∷◌, map}
use Prim.Native.Nat.{ℕ, zero, suc}
use native.Mathlib.Omega.{arith}
use borrow.Author.Tests.{lt-ltb}
use lib.Dec.{ltb}
use lib.ListN.{length, get_or}
use Rattle.texts.specs.Quoted.{Text}
use Rattle.texts.specs.Texts.{every, any, same, blank}
use Rattle.sheets.specs.Sheet.{Sheet, text_of}
use Rattle.sheets.specs.Dates.{texts_in, status_texts, status_count, force_of}
use Rattle.sheets.specs.declared.dates.Dates.{Dates}
use Rattle.sheets.proofs.InForce.{by-force, count-is, count-bounds}
use Rattle.fillings.specs.Fillings as of
use Rattle.fillings.specs.Fillings.{distinct}
use Rattle.fillings.specs.Working.Proper.{entry, Proper}
use Rattle.fillings.proofs.EveryFilling.{every-at}
use Rattle.orders.specs.Fillings.{lists, list_of, to_fill}
use Rattle.orders.specs.Working.Listing.{texts_by}
use Rattle.orders.specs.declared.entry.Entries.{Entries}
use Rattle.orders.specs.declared.entry.Entries.TheVariants.{Zero, Zeros, Bases, Statuses}
use Rattle.std.specs.Prelude.{Option, Some, None, is_some}

pub at_map : {A B : Type 0} (f : A → B) (z : A) (l : List A) (k : ℕ) → get_or (map f l) k (f z) ≡ f (get_or l k z)
at_map f z [] k = refl
at_map f z (x ∷ l) zero = refl
at_map f z (x ∷ l) (suc k) = at_map f z l k

pub proper : (D : Dates) → Proper (list_of D)
unfolding every any same distinct texts_in list_of
proper D = record {
  entries = every-at (every entry) [] refl (lists (status_texts D)) (by-force (λ (ts : List Text). every (every entry) (lists ts)) (force_of D) refl);
  once = every-at distinct [] refl (lists (status_texts D)) (by-force (λ (ts : List Text). every distinct (lists ts)) (force_of D) refl);
}

pub some-status : (D : Dates) → ltb 0 (status_count D) ≡ true
some-status D = lt-ltb 0 (status_count D) (omega (arith, count-is (force_of D), (count-bounds (force_of D)).0))

-- so that 101 is to be filled where it is blank, whatever the date
pub status-blank : (D : Dates) (s : Sheet) → to_fill D s 6 ≡ blank (text_of s 6)
unfolding of.to_fill list_of
status-blank D s = rw (some-status D)

-- a list that a slot has is not empty

pub some-listed : (D : Dates) (k : ℕ) (l : Option Entries) → ((E : Dates) → texts_by E l ≡ list_of E k) → is_some l ≡ ltb 0 (length (list_of D k))
some-listed D k None h = ap (λ (ts : List Text). ltb 0 (length ts)) (h D)
some-listed D k (Some Zero) h = ap (λ (ts : List Text). ltb 0 (length ts)) (h D)
some-listed D k (Some Zeros) h = ap (λ (ts : List Text). ltb 0 (length ts)) (h D)
some-listed D k (Some Bases) h = ap (λ (ts : List Text). ltb 0 (length ts)) (h D)
some-listed D k (Some Statuses) h = sym (some-status D) ∙ ap (λ (ts : List Text). ltb 0 (length ts)) (h D)
