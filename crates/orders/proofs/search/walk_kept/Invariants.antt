use mathlib.Core.Path.{◌≡◌}
use mathlib.Core.List.{List, [], ◌∷◌}
use Prim.Native.Nat.{ℕ, ◌+◌, ◌*◌, ◌≤◌}
use Rattle.sheets.specs.Sheet.{Sheet}
use Rattle.sheets.specs.Working.Entries.{basis_count, zero_count}
use Rattle.sheets.specs.declared.dates.Dates.{Dates}
use Rattle.sheets.specs.declared.facts.Facts.{Facts}
use Rattle.fillings.specs.Filled.{tally}
use Rattle.fillings.specs.Working.Places.{places}
use Rattle.fillings.proofs.Levels.{Picks, Left}
use Rattle.std.specs.Prelude.{Option, None}
use Rattle.orders.specs.Working.Search.{passes_at, Payment}
use Rattle.orders.specs.Working.Quick.{skips}
use Rattle.orders.specs.declared.search.Pick.{Pick}
use Rattle.orders.proofs.Passing.{rest, of_basis, of_status}
use Rattle.orders.proofs.search.walk_kept.Given as goal

-- Each loop's invariant: what looking through the level's picks finds is what looking through those that are left finds, of every sheet
-- that the facts were read of; and so many statuses were skipped.
-- of a level's N places k have been gone through, n₀ fillings passed before and n now, no more than a bound; none was found
abbrev pub Level : Facts → (List ℕ → List ℕ) → Picks → ℕ → ℕ → ℕ → ℕ → Option Pick → Type 0 → ℕ → Type 0
Level f h R N n₀ k n pick bound most = (k ≤ N) × bound × ((D : Dates) (u : Sheet) → Payment D f u → Left (passes_at D u) h R N n₀ k n) × (pick ≡ None) × (N ≤ most)

-- the statuses of those gone through that were skipped
abbrev pub Skipped : Facts → ℕ → ℕ → Type 0
Skipped f k a = (D : Dates) (u : Sheet) → Payment D f u → k ≡ tally (skips D u) (places a 0)

abbrev pub invariant-days : goal.invariant-days
invariant-days l =
    Level l.f (λ (t : List ℕ). l.a ∷ l.b ∷ l.c ∷ t) (rest []) l.n109 l.initial.count l.d l.count l.pick (l.count + l.b-end * of_basis ≤ l.a * of_status + of_status + l.b * of_basis + l.c * zero_count + l.d) zero_count

abbrev pub invariant-documents : goal.invariant-documents
invariant-documents l =
    Level l.f (λ (t : List ℕ). l.a ∷ l.b ∷ t) (rest (l.n109 ∷ [])) l.n108 l.initial.count l.c l.count l.pick (l.count + l.b-end * of_basis ≤ l.a * of_status + of_status + l.b * of_basis + l.c * zero_count) zero_count

abbrev pub invariant-bases : goal.invariant-bases
invariant-bases l =
    Level l.f (λ (t : List ℕ). l.a ∷ t) (rest (l.n108 ∷ l.n109 ∷ [])) l.b-end l.initial.count l.b l.count l.pick (l.count + l.b-end * of_basis ≤ l.a * of_status + of_status + l.b * of_basis) basis_count

abbrev pub invariant-statuses : goal.invariant-statuses
invariant-statuses l =
    Level l.f (λ (t : List ℕ). t) (rest (l.n106 ∷ l.n108 ∷ l.n109 ∷ [])) l.n101 l.initial.count l.a l.count l.pick (l.count ≤ l.a * of_status) 23 × (l.skipped ≤ l.a) × Skipped l.f l.skipped l.a
