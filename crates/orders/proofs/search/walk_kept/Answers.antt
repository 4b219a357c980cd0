use mathlib.Core.Path.{◌≡◌, refl, sym, ap, ◌∙◌}
use mathlib.Core.Bool.{Bool}
use mathlib.Core.List.{List, [], ◌∷◌, map}
use Prim.Native.Nat.{ℕ, ◌+◌, ◌*◌, ◌≤◌, ◌<◌}
use native.Mathlib.Omega.{arith}
use lib.ListN.{length}
use Rattle.texts.specs.Texts.{blank}
use Rattle.sheets.specs.Sheet.{Sheet, text_of}
use Rattle.sheets.specs.Working.Entries.{basis_count, zero_count}
use Rattle.sheets.specs.Dates.{status_count}
use Rattle.sheets.specs.Working.Facts.{Read}
use Rattle.sheets.specs.declared.dates.Dates.{Dates}
use Rattle.sheets.specs.declared.facts.Facts.{Facts}
use Rattle.fillings.specs.Fillings.{width, look}
use Rattle.fillings.specs.Filled.{tally}
use Rattle.fillings.specs.Working.Places.{places}
use Rattle.fillings.proofs.Levels.{Picks, Passed, left-none, turn, hit, all, one-passed, one_hit}
use Rattle.orders.specs.Working.Search.{passes_at, Payment}
use Rattle.orders.specs.Working.Quick.{skips}
use Rattle.orders.specs.Working.Found.{found_by, found_of}
use Rattle.std.specs.Prelude.{Option, Some, None}
use Rattle.orders.specs.declared.search.Pick.{Pick}
use Rattle.orders.proofs.Passing.{passes-is, first-pick, of_basis, of_status}
use Rattle.orders.proofs.Pacing.{skips-is, none_passed, paced, pace-bound, pace-counts, pace-runs, hit-paced, tally-more, rest-is}
use Rattle.orders.proofs.search.walk_kept.Goals as goal
use Rattle.orders.proofs.search.walk_kept.Goals.{After-fillings_of-each, After-pace_of-pace}
use Rattle.orders.proofs.search.walk_kept.Invariants.{Level}

-- one place more of a level, all of whose fillings have been passed
module _ {f : Facts} {h : List ℕ → List ℕ} {R : Picks} {N n₀ k n m most : ℕ} {was pick : Option Pick} {low bound : Type 0} where
  again : Level f h R N n₀ k n was low most → k < N → bound → ((D : Dates) (u : Sheet) → Payment D f u → Passed (passes_at D u) n (map (λ (t : List ℕ). h (k ∷ t)) R) m) → pick ≡ None
      → Level f h R N n₀ (k + 1) m pick bound most
  again l more b passed none = (omega (arith, more), b, λ D u o. turn (l.2 D u o) more (passed D u o), none, l.4)

-- how many entries of 106, 108 and 109 are gone through
widths : (c : After-fillings_of-each) (D : Dates) (u : Sheet) → Read D c.args.f u
    → (c.width_of-n106.result ≡ width (blank (text_of u 11)) basis_count) × (c.width_of-n108.result ≡ width (blank (text_of u 13)) zero_count) × (c.width_of-n109.result ≡ width (blank (text_of u 14)) zero_count)
widths c D u o = (
  c.width_of-n106.ensures.0 ∙ ap (λ (x : Bool). width x basis_count) (c.blank_basis.ensures.0 D u o),
  c.width_of-n108.ensures.0 ∙ ap (λ (x : Bool). width x zero_count) (c.blank_document.ensures.0 D u o),
  c.width_of-n109.ensures.0 ∙ ap (λ (x : Bool). width x zero_count) (c.blank_day.ensures.0 D u o),
)

-- how much a status adds
adds : (c : After-pace_of-pace)
    → let p = c.pace_of-pace.result in (p.fillings + p.bases * of_basis ≤ of_status) × (p.statuses ≤ 1) × (p.bases ≤ basis_count)
adds c = pace-bound _ _ _ _ c.pace_of-pace.ensures c.fillings_of-each.ensures.1 c.width_of-n106.ensures.1

pub statuses-init : goal.statuses-init
unfolding places
statuses-init c = ((omega arith, omega arith, λ D u o. left-none, refl, c.statuses_of-n101.ensures.1), omega arith, λ D u o. refl)

pub overflow_add-count : goal.overflow_add-count
overflow_add-count c = omega (arith, (adds (goal.at.overflow_add-count c).After-pace_of-pace).0, c.statuses.invariant.0.1, c.statuses.invariant.0.4, c.statuses-test.true)

pub overflow_add-skipped : goal.overflow_add-skipped
overflow_add-skipped c = omega (arith, (adds (goal.at.overflow_add-skipped c).After-pace_of-pace).1, c.statuses.invariant.1, c.statuses.invariant.0.4, c.statuses-test.true)

pub bases-init : goal.bases-init
bases-init c = let p = adds (goal.at.bases-init c).After-pace_of-pace in let i = c.statuses.invariant.0 in (omega arith, omega (arith, i.1, p.0), λ D u o. left-none, i.3, p.2)

pub documents-init : goal.documents-init
documents-init c = let i = c.bases.invariant in (omega arith, omega (arith, i.1), λ D u o. left-none, i.3, c.width_of-n108.ensures.1)

pub days-init : goal.days-init
days-init c = let i = c.documents.invariant in (omega arith, omega (arith, i.1), λ D u o. left-none, i.3, c.width_of-n109.ensures.1)

pub overflow_add-count-in-days : goal.overflow_add-count-in-days
overflow_add-count-in-days c = let d = c.days.invariant in omega (arith, d.1, d.4, c.days-test.true, c.documents.invariant.4, c.documents-test.true, c.bases.invariant.4, c.bases-test.true, c.statuses.invariant.0.4, c.statuses-test.true)

pub days-preserved : goal.days-preserved
days-preserved c =
    let v = c.days in
    let a = c.statuses.a in
    let b = c.bases.b in
    let k = c.documents.c in
    let ok =
    passes-is _ _ _ _ _ a b k v.d _ _ _ _ _ c.requires
    c.fill_status-f1.ensures.0 c.kept_status-kept1.ensures.0 c.fill_basis-f2.ensures.0 c.kept_basis.ensures.0
    c.fill_document-f3.ensures.0 c.kept_document.ensures.0 c.fill_day-f4.ensures.0 c.kept_day.ensures.0 in
    again v.invariant c.days-test.true (omega (arith, v.invariant.1))
    (λ D u o. one-passed (passes_at D u) v.count (a ∷ b ∷ k ∷ v.d ∷ []) (sym (ok D u o) ∙ c.if-kept4.false)) v.invariant.3

pub documents-preserved : goal.documents-preserved
documents-preserved c =
    let i = c.days.invariant in
    again c.documents.invariant c.documents-test.true (omega (arith, i.0, i.1, i.4)) (λ D u o. all (i.2 D u o) c.days-test.false) i.3

pub bases-preserved : goal.bases-preserved
bases-preserved c =
    let i = c.documents.invariant in
    again c.bases.invariant c.bases-test.true (omega (arith, i.0, i.1, i.4)) (λ D u o. all (i.2 D u o) c.documents-test.false) i.3

pub statuses-preserved : goal.statuses-preserved
statuses-preserved c =
    let i = c.bases.invariant in
    let v = c.statuses in
    let a = v.a in
    let e = c.pace_of-pace.ensures in (
      again v.invariant.0 c.statuses-test.true (omega (arith, i.0, i.1, c.bases-test.false))
          (λ D u o.
          let w = widths (goal.at.statuses-preserved c).After-fillings_of-each D u o.read in
          paced (λ (t : List ℕ). a ∷ t) _ _ _ _ v.count _ _ _ e
          (c.fillings_of-each.ensures.0 D u o.read ∙ ap length (rest-is u _ _ _ w.0 w.1 w.2))
          (none_passed a c.requires c.fill_status-f1.ensures.0 c.kept_status-kept1.ensures.0 D u o)
          (all (i.2 D u o) c.bases-test.false))
          i.3,
      omega (arith, v.invariant.1, (adds (goal.at.statuses-preserved c).After-pace_of-pace).1),
      λ D u o. tally-more (skips D u) a v.skipped _ _ (v.invariant.2 D u o) (pace-counts _ _ _ _ e) (skips-is a c.requires c.fill_status-f1.ensures.0 c.kept_status-kept1.ensures.0 D u o),
    )

-- found: the loops have been left by the label, through the four levels
pub returns-then-kept4 : goal.returns-then-kept4
unfolding found_of look
returns-then-kept4 c D u o =
    let v = c.statuses in
    let a = v.a in
    let b = c.bases.b in
    let k = c.documents.c in
    let d = c.days.d in
    let wide = c.statuses_of-n101.ensures.0 D u o.read in
    let w = widths (goal.at.returns-then-kept4 c).After-fillings_of-each D u o.read in
    let first = first-pick D u _ _ _ _ wide w.0 w.1 w.2 in
    let r = pace-runs _ _ _ _ _ c.pace_of-pace.ensures c.bases-test.true in
    let ok =
    passes-is _ _ _ _ _ a b k d _ _ _ _ _ c.requires
    c.fill_status-f1.ensures.0 c.kept_status-kept1.ensures.0 c.fill_basis-f2.ensures.0 c.kept_basis.ensures.0
    c.fill_document-f3.ensures.0 c.kept_document.ensures.0 c.fill_day-f4.ensures.0 c.kept_day.ensures.0 D u o in
    let hit4 = hit (c.days.invariant.2 D u o) c.days-test.true (one_hit (passes_at D u) c.days.count (a ∷ b ∷ k ∷ d ∷ []) (sym ok ∙ c.if-kept4.true)) in
    let hit2 = hit (c.bases.invariant.2 D u o) c.bases-test.true (hit (c.documents.invariant.2 D u o) c.documents-test.true hit4) in
    let hit1 = hit (v.invariant.0.2 D u o) c.statuses-test.true (hit-paced (λ (t : List ℕ). a ∷ t) _ _ _ v.count _ _ c.pace_of-pace.result r.1 r.3 hit2) in
    let more = tally-more (skips D u) a v.skipped _ _ (v.invariant.2 D u o) (pace-counts _ _ _ _ c.pace_of-pace.ensures) (skips-is a c.requires c.fill_status-f1.ensures.0 c.kept_status-kept1.ensures.0 D u o) in
    (λ i. record { pick = Some (record { status = a; basis = b; document = k; day = d }); count = c.days.count + 1; skipped = more i })
    ∙ sym (ap (found_by (skips D u) (width (blank (text_of u 6)) (status_count D))) (first ∙ hit1.ends []))

-- the outermost loop has been left at its end
pub returns-after-statuses : goal.returns-after-statuses
unfolding found_of look
returns-after-statuses c D u o =
    let (l, i, s) = c.statuses.invariant in
    let a = c.statuses.a in
    let wide = c.statuses_of-n101.ensures.0 D u o.read in
    let w = widths (goal.at.returns-after-statuses c).After-fillings_of-each D u o.read in
    let first = first-pick D u _ _ _ _ wide w.0 w.1 w.2 in
    let z : a ≡ width (blank (text_of u 6)) (status_count D) = omega (arith, l.0, c.statuses-test.false, wide) in
    (λ i. record { pick = l.3 i; count = c.statuses.count; skipped = (s D u o ∙ ap (λ (k : ℕ). tally (skips D u) (places k 0)) z) i })
    ∙ sym (ap (found_by (skips D u) (width (blank (text_of u 6)) (status_count D))) (first ∙ (all (l.2 D u o) c.statuses-test.false).on []))
