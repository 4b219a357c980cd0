-- R-14: a status of which a rule fails that reads neither 106, 108 nor 109 is passed over whole: none of its fillings passes, and they are
-- counted.
use mathlib.Core.Path.{◌≡◌, refl, sym, ap, ◌∙◌, subst}
use mathlib.Core.Bool.{Bool, true, false, not, cond, ◌&&◌}
use mathlib.Core.List.Memᴰ
use mathlib.Core.List.{List, [], ◌∷◌, map}
use Prim.Native.Nat.{ℕ, zero, suc, ◌+◌, ◌*◌, ◌≤◌, ◌<◌}
use native.Mathlib.Nat.{mul-one}
use native.Mathlib.Numerals.{add-one}
use native.Mathlib.Omega.{arith}
use borrow.Author.Tests.{not-true}
use lib.ListN.{length, get_or, length-map}
use Rattle.texts.specs.Texts.{every, any, are, among, blank}
use Rattle.texts.proofs.Every.{every_append}
use Rattle.sheets.specs.Sheet.{Sheet, cell, text_of, sheet_size}
use Rattle.sheets.specs.Working.Entries.{basis_count, zero_count, filled_at}
use Rattle.sheets.specs.Dates.{status_texts, status_count}
use Rattle.sheets.specs.declared.dates.Dates.{Dates}
use Rattle.sheets.specs.declared.facts.Facts.{Facts}
use Rattle.sheets.specs.Working.Facts.{Read}
use Rattle.rules.specs.Rules.{budget, keeps}
use Rattle.rules.specs.Working.Groups.{fixed_rules, status_rules}
use Rattle.rules.proofs.Reading.{spared, spared-class}
use Rattle.fillings.specs.Fillings.{width, product, none}
use Rattle.fillings.specs.Filled.{tally}
use Rattle.fillings.specs.Working.Places.{places}
use Rattle.fillings.proofs.EveryFilling.{length-places}
use Rattle.fillings.proofs.Counting.{length-product}
use Rattle.fillings.proofs.Looking.{none-look}
use Rattle.fillings.proofs.Levels.{Passed, Hit, over-passed}
use Rattle.orders.specs.Working.Entering.{picked_of}
use Rattle.orders.specs.Working.Search.{passes_at, picks, first_pick, Payment}
use Rattle.orders.specs.Working.Quick.{with_status, early_rules, skips, rest_picks}
use Rattle.orders.specs.Working.Found.{found_by, found_of, pace_of}
use Rattle.orders.specs.declared.search.Pace.{Pace}
use Rattle.std.specs.Prelude.{None}
use Rattle.orders.proofs.Keeping.{picks-fit, filled-alike, status-alike, later_entries}
use Rattle.orders.proofs.Linking.{length-picks}
use Rattle.orders.proofs.Passing.{Kept, unkept, broken-fixed, rest}

module _ (D : Dates) (u : Sheet) (size : length u ≡ sheet_size) (a : ℕ) where
  -- where one of the early rules fails, no filling with the status passes
  none-with : every (keeps D (with_status D u a)) early_rules ≡ false → (t : List ℕ) → passes_at D u (a ∷ t) ≡ false
  unfolding passes_at picked_of every any are among
  none-with h t =
      unkept D (picked_of D u (a ∷ t)) early_rules refl
      (sym (spared D (11 ∷ 13 ∷ 14 ∷ []) (with_status D u a) (picked_of D u (a ∷ t)) (filled-alike (later_entries t) (with_status D u a) (status-alike D u size a).0 (picks-fit D (a ∷ t)).1).1 early_rules refl) ∙ h)

-- what the search asks of a status is whether these rules are kept
module _ {f f1 : Facts} {k k1 : Bool} (a : ℕ) (h : Kept f k fixed_rules) (r1 : (D : Dates) (s : Sheet) → Read D f s → Read D f1 (filled_at s 6 (cell (get_or (status_texts D) a [])))) (h1 : Kept f1 k1 status_rules) (D : Dates) (u : Sheet) (o : Payment D f u) where
  class-with : budget (with_status D u a) ≡ true
  unfolding every any are among
  class-with = sym (spared-class D (6 ∷ []) u (with_status D u a) (status-alike D u o.read.size a).1 refl) ∙ o.class

  early-is : (k && k1) ≡ every (keeps D (with_status D u a)) early_rules
  unfolding every any are among
  early-is =
      (λ i. (h D u o.read o.class ∙ spared D (6 ∷ []) u (with_status D u a) (status-alike D u o.read.size a).1 fixed_rules refl) i && h1 D (with_status D u a) (r1 D u o.read) class-with i)
      ∙ every_append (keeps D (with_status D u a)) fixed_rules status_rules

  pub skips-is : not (k && k1) ≡ skips D u a
  unfolding skips
  skips-is = ap not early-is

  pub none_passed : (k && k1) ≡ false → (t : List ℕ) → passes_at D u (a ∷ t) ≡ false
  none_passed e t = none-with D u o.read.size a (sym early-is ∙ e) t

-- ---- the pace

length_rest : (a b c : ℕ) → length (product (places a 0 ∷ places b 0 ∷ places c 0 ∷ [])) ≡ a * (b * c)
length_rest a b c = simp (length-product, length-places, mul-one)

module _ {p : List ℕ → Bool} (h : List ℕ → List ℕ) (n106 n108 n109 fillings : ℕ) (n m : ℕ) where
  at-pace : (kept : Bool) → fillings ≡ length (rest (n106 ∷ n108 ∷ n109 ∷ [])) → (kept ≡ false → (t : List ℕ) → p (h t) ≡ false)
      → Passed p (n + (pace_of kept n106 fillings).fillings) (map h (rest ((pace_of kept n106 fillings).bases ∷ n108 ∷ n109 ∷ []))) m → Passed p n (map h (rest (n106 ∷ n108 ∷ n109 ∷ []))) m
  unfolding places pace_of
  at-pace true e miss w = let z : n + 0 ≡ n = omega arith in subst (λ (j : ℕ). Passed p j (map h (rest (n106 ∷ n108 ∷ n109 ∷ []))) m) z w
  at-pace false e miss w =
      let l = map h (rest (n106 ∷ n108 ∷ n109 ∷ [])) in
      let y : length l ≡ fillings = length-map (rest (n106 ∷ n108 ∷ n109 ∷ [])) h ∙ sym e in
      let v = over-passed p n l (λ q i. let x = Memᴰ.of_map h (rest (n106 ∷ n108 ∷ n109 ∷ [])) i in ap p (sym x.2) ∙ miss refl x.0) in
      let u = subst (λ (j : ℕ). Passed p n l (n + j)) y v in
      record { on = λ r. u.on r ∙ w.on r }

  pub paced : (kept : Bool) (P : Pace) → P ≡ pace_of kept n106 fillings → fillings ≡ length (rest (n106 ∷ n108 ∷ n109 ∷ [])) → (kept ≡ false → (t : List ℕ) → p (h t) ≡ false)
      → Passed p (n + P.fillings) (map h (rest (P.bases ∷ n108 ∷ n109 ∷ []))) m → Passed p n (map h (rest (n106 ∷ n108 ∷ n109 ∷ []))) m
  paced kept P e y miss w = at-pace kept y miss (subst (λ (Q : Pace). Passed p (n + Q.fillings) (map h (rest (Q.bases ∷ n108 ∷ n109 ∷ []))) m) e w)

-- a filling found in a status that is gone through
pub hit-paced : {p : List ℕ → Bool} (h : List ℕ → List ℕ) (n106 n108 n109 n m : ℕ) (s : List ℕ) (P : Pace) → P.fillings ≡ 0 → P.bases ≡ n106
    → Hit p (n + P.fillings) (map h (rest (P.bases ∷ n108 ∷ n109 ∷ []))) m s → Hit p n (map h (rest (n106 ∷ n108 ∷ n109 ∷ []))) m s
hit-paced {p} h n106 n108 n109 n m s P e f w =
    let z : n + P.fillings ≡ n = omega arith in
    subst (λ (j : ℕ). Hit p j (map h (rest (n106 ∷ n108 ∷ n109 ∷ []))) m s) z (subst (λ (b : ℕ). Hit p (n + P.fillings) (map h (rest (b ∷ n108 ∷ n109 ∷ []))) m s) f w)

-- how much a status adds, and that one which is gone through adds nothing
pub pace-bound : (kept : Bool) (P : Pace) (b f : ℕ) → P ≡ pace_of kept b f → f ≤ basis_count * (zero_count * zero_count) → b ≤ basis_count
    → (P.fillings + P.bases * (zero_count * zero_count) ≤ basis_count * (zero_count * zero_count)) × (P.statuses ≤ 1) × (P.bases ≤ basis_count)
unfolding pace_of
pace-bound true P b f e h l = rw e (omega arith, omega arith, l)
pace-bound false P b f e h l = rw e (omega arith, omega arith, omega arith)

pub pace-counts : (kept : Bool) (P : Pace) (b f : ℕ) → P ≡ pace_of kept b f → P.statuses ≡ cond (not kept) 1 0
unfolding pace_of
pace-counts true P b f e = ap (λ (Q : Pace). Q.statuses) e
pace-counts false P b f e = ap (λ (Q : Pace). Q.statuses) e

pub pace-runs : (kept : Bool) (P : Pace) (b f c : ℕ) → P ≡ pace_of kept b f → c < P.bases → (kept ≡ true) × (P.fillings ≡ 0) × (P.statuses ≡ 0) × (P.bases ≡ b)
unfolding pace_of
pace-runs true P b f c e h = rw e (refl, refl, refl, refl)
pace-runs false P b f c e h = absurd (omega (arith, ap (λ (Q : Pace). Q.bases) e))

-- the statuses one after another, and one more
tally-next : (p : ℕ → Bool) (n i : ℕ) → tally p (places (n + 1) i) ≡ tally p (places n i) + cond (p (i + n)) 1 0
unfolding places
tally-next p zero i = let z : i + 0 ≡ i = omega arith in rw z (omega arith)
tally-next p (suc n) i = let z : i + suc n ≡ suc i + n = omega arith in let y = tally-next p n (suc i) in rw (add-one, z) (rw add-one at (ap (λ (x : ℕ). cond (p i) 1 0 + x) y) ∙ omega arith)

pub tally-more : (p : ℕ → Bool) (a k s : ℕ) (b : Bool) → k ≡ tally p (places a 0) → s ≡ cond b 1 0 → b ≡ p a → k + s ≡ tally p (places (a + 1) 0)
tally-more p a k s b e f g = let z : 0 + a ≡ a = omega arith in rw (e, f, g) (sym (tally-next p a 0 ∙ rw z))

-- every status is skipped where a rule is broken that reads none of the four fields
pub tally-all : (p : ℕ → Bool) → ((a : ℕ) → p a ≡ true) → (n i : ℕ) → tally p (places n i) ≡ n
unfolding places
tally-all p h zero i = refl
tally-all p h (suc n) i = rw (h i, tally-all p h n (suc i)) (omega arith)

-- what the levels below a status go through
pub rest-is : (u : Sheet) (n106 n108 n109 : ℕ) → n106 ≡ width (blank (text_of u 11)) basis_count → n108 ≡ width (blank (text_of u 13)) zero_count → n109 ≡ width (blank (text_of u 14)) zero_count
    → rest_picks u ≡ rest (n106 ∷ n108 ∷ n109 ∷ [])
unfolding rest_picks
rest-is u n106 n108 n109 e1 e2 e3 = sym (λ i. rest (e1 i ∷ e2 i ∷ e3 i ∷ []))

-- fillings_of
pub rest-counted : (f : Facts) (b c d : Bool) → ((D : Dates) (s : Sheet) → Read D f s → b ≡ blank (text_of s 11)) → ((D : Dates) (s : Sheet) → Read D f s → c ≡ blank (text_of s 13)) → ((D : Dates) (s : Sheet) → Read D f s → d ≡ blank (text_of s 14))
    → (n106 n108 n109 : ℕ) → n106 ≡ width b basis_count → n108 ≡ width c zero_count → n109 ≡ width d zero_count → (D : Dates) (s : Sheet) → Read D f s → n106 * (n108 * n109) ≡ length (rest_picks s)
unfolding rest_picks
rest-counted f b c d hb hc hd n106 n108 n109 e1 e2 e3 D s o = rw (e1, e2, e3, hb D s o, hc D s o, hd D s o) (sym (length_rest _ _ _))

-- ---- where one of the rules that read none of the four fields is broken, no pick is looked at, and every status is skipped

module _ {f : Facts} {k : Bool} (h : Kept f k fixed_rules) (e : not k ≡ true) (D : Dates) (s : Sheet) (o : Payment D f s) where
  broken : every (keeps D s) fixed_rules ≡ false
  broken = sym (h D s o.read o.class) ∙ not-true k e

  all-skipped : (a : ℕ) → skips D s a ≡ true
  unfolding skips every any are among
  all-skipped a =
      let w = with_status D s a in
      let b : every (keeps D w) fixed_rules ≡ false = sym (spared D (6 ∷ []) s w (status-alike D s o.read.size a).1 fixed_rules refl) ∙ broken in
      let c : every (keeps D w) early_rules ≡ false = sym (every_append (keeps D w) fixed_rules status_rules) ∙ rw b in
      ap not c

  pub none_passes : (n w each : ℕ) → n ≡ w * each → w ≡ width (blank (text_of s 6)) (status_count D) → each ≡ length (rest_picks s) → record { pick = None; count = n; skipped = w } ≡ found_of D s
  unfolding found_of first_pick passes_at picks rest_picks every any are among
  none_passes n w each en ew ee =
      let p = broken-fixed D s fixed_rules o.read.size refl refl broken in
      let c : 0 + length (picks D s) ≡ n = (omega arith) ∙ length-picks _ _ _ _ ∙ sym (en ∙ (λ i. ew i * (ee ∙ length_rest _ _ _) i)) in
      let l : first_pick D s ≡ none n = none-look (passes_at D s) (picks D s) 0 (λ q m. p q) ∙ ap none c in
      let t : w ≡ tally (skips D s) (places (width (blank (text_of s 6)) (status_count D)) 0) = ew ∙ sym (tally-all (skips D s) all-skipped (width (blank (text_of s 6)) (status_count D)) 0) in
      (λ i. record { pick = None; count = n; skipped = t i }) ∙ sym (ap (found_by (skips D s) (width (blank (text_of s 6)) (status_count D))) l)
