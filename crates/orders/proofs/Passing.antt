-- What the search tests, level by level, is that all rules are kept; and what it goes through.
use mathlib.Core.Path.{◌≡◌, refl, sym, ap, ◌∙◌}
use mathlib.Core.Bool.{Bool, true, false, ◌&&◌, and_assoc, false≢true}
use mathlib.Core.List.{List, [], ◌∷◌, ◌++◌, map, map-id, append-nil}
use Prim.Native.Nat.{ℕ, ◌*◌, ◌≤◌}
use native.Mathlib.Nat.{mul-le-mul}
use lib.ListN.{length, get_or}
use Rattle.texts.specs.Texts.{every, any, are, among, blank}
use Rattle.sheets.specs.Sheet.{Sheet, cell, text_of, sheet_size}
use Rattle.sheets.specs.Working.Facts.{Read}
use Rattle.sheets.specs.Lists.{basis_texts, zero_texts}
use Rattle.sheets.specs.Working.Entries.{basis_count, zero_count, filled_at}
use Rattle.sheets.specs.Dates.{status_texts, status_count}
use Rattle.sheets.specs.declared.facts.Facts.{Facts}
use Rattle.texts.proofs.Bools.{cases}
use Rattle.texts.proofs.Every.{every-within}
use Rattle.rules.specs.Rules.{budget, order, basic, keeps, keeps_all}
use Rattle.rules.specs.Working.Groups.{fixed_rules, status_rules, basis_rules, document_rules, day_rules, AlikeBut, apart, spare}
use Rattle.rules.proofs.Judging.{all-grouped}
use Rattle.rules.proofs.Reading.{spared, spared-class}
use Rattle.sheets.specs.declared.dates.Dates.{Dates}
use Rattle.fillings.specs.Fillings.{width, product, look}
use Rattle.fillings.specs.Working.Places.{places}
use Rattle.fillings.specs.Working.Entering.{Entry, filled_with}
use Rattle.fillings.proofs.Levels.{Picks}
use Rattle.orders.specs.Working.Entering.{picked_of, varying}
use Rattle.orders.specs.Working.Search.{passes_at, picks, first_pick, Payment}
use Rattle.orders.proofs.Keeping.{picks-fit, filled-alike, picked-alike}

-- what a group's test and an entry put in promise
abbrev pub Kept : Facts → Bool → List ℕ → Type 0
Kept f k ns = (D : Dates) (s : Sheet) → Read D f s → budget s ≡ true → k ≡ every (keeps D s) ns

abbrev Puts : Facts → Facts → Facts → ℕ → List ℕ → Type 0
Puts f g r k x = (D : Dates) (s t : Sheet) → Read D f s → Read D g t → text_of t k ≡ text_of s k → Read D r (filled_at t k x)

-- a group's test holds of a sheet that differs only where the group does not look
tested : (D : Dates) (ds ns : List ℕ) (g : Facts) (j : Bool) (v t : Sheet) → Kept g j ns → Read D g v → AlikeBut ds v t → budget t ≡ true
    → apart ds (0 ∷ 1 ∷ 2 ∷ []) ≡ true → spare ds ns ≡ true → j ≡ every (keeps D t) ns
tested D ds ns g j v t h r a b c e = h D v r (spared-class D ds v t a c ∙ b) ∙ spared D ds v t a ns e

module _ (f f1 f2 f3 f4 : Facts) (a b c d : ℕ) (k k1 k2 k3 k4 : Bool) where
  pub passes-is : Kept f k fixed_rules
      → ((D : Dates) (s : Sheet) → Read D f s → Read D f1 (filled_at s 6 (cell (get_or (status_texts D) a [])))) → Kept f1 k1 status_rules
      → Puts f f1 f2 11 (cell (get_or basis_texts b [])) → Kept f2 k2 basis_rules
      → Puts f f2 f3 13 (cell (get_or zero_texts c [])) → Kept f3 k3 document_rules
      → Puts f f3 f4 14 (cell (get_or zero_texts d [])) → Kept f4 k4 day_rules
      → (D : Dates) (u : Sheet) → Payment D f u → ((((k && k1) && k2) && k3) && k4) ≡ passes_at D u (a ∷ b ∷ c ∷ d ∷ [])
  unfolding passes_at picked_of every any are among
  passes-is h h1 t1 h2 t2 h3 t3 h4 t4 D u o =
      let x1 : Entry = (6, cell (get_or (status_texts D) a [])) in
      let x2 : Entry = (11, cell (get_or basis_texts b [])) in
      let x3 : Entry = (13, cell (get_or zero_texts c [])) in
      let x4 : Entry = (14, cell (get_or zero_texts d [])) in
      let u1 = filled_with u (x1 ∷ []) in
      let u2 = filled_with u (x1 ∷ x2 ∷ []) in
      let u3 = filled_with u (x1 ∷ x2 ∷ x3 ∷ []) in
      let u4 = filled_with u (x1 ∷ x2 ∷ x3 ∷ x4 ∷ []) in
      let fit = picks-fit D (a ∷ b ∷ c ∷ d ∷ []) in
      let r1 = h1 D u o.read in
      let r2 = h2 D u u1 o.read r1 (sym ((filled-alike (x1 ∷ []) u o.read.size (fit.0, tt)).1 11 refl)) in
      let r3 = h3 D u u2 o.read r2 (sym ((filled-alike (x1 ∷ x2 ∷ []) u o.read.size (fit.0, (fit.1.0, tt))).1 13 refl)) in
      let r4 = h4 D u u3 o.read r3 (sym ((filled-alike (x1 ∷ x2 ∷ x3 ∷ []) u o.read.size (fit.0, (fit.1.0, (fit.1.1.0, tt)))).1 14 refl)) in
      let a0 = (filled-alike (x1 ∷ x2 ∷ x3 ∷ x4 ∷ []) u o.read.size fit).1 in
      let a1 = (filled-alike (x2 ∷ x3 ∷ x4 ∷ []) u1 r1.size fit.1).1 in
      let a2 = (filled-alike (x3 ∷ x4 ∷ []) u2 r2.size fit.1.1).1 in
      let a3 = (filled-alike (x4 ∷ []) u3 r3.size fit.1.1.1).1 in
      let b4 : budget u4 ≡ true = sym (spared-class D varying u u4 a0 refl) ∙ o.class in
      let e0 = tested D varying fixed_rules f k u u4 h o.read a0 b4 refl refl in
      let e1 = tested D (11 ∷ 13 ∷ 14 ∷ []) status_rules f1 k1 u1 u4 t1 r1 a1 b4 refl refl in
      let e2 = tested D (13 ∷ 14 ∷ []) basis_rules f2 k2 u2 u4 t2 r2 a2 b4 refl refl in
      let e3 = tested D (14 ∷ []) document_rules f3 k3 u3 u4 t3 r3 a3 b4 refl refl in
      let e4 = t4 D u4 r4 b4 in
      simp and_assoc
      ((λ i. e0 i && (e1 i && (e2 i && (e3 i && e4 i)))) ∙ sym (all-grouped D u4 b4 (sym (spared D varying u u4 a0 basic refl) ∙ o.basics)))

-- a sheet that breaks one of some rules does not keep all; where the rules read none of the four fields, no pick passes
pub unkept : (D : Dates) (t : Sheet) (ns : List ℕ) → every (λ (n : ℕ). among n order) ns ≡ true → every (keeps D t) ns ≡ false → keeps_all D t ≡ false
unfolding keeps_all
unkept D t ns m h = cases (keeps_all D t) (λ e. absurd (false≢true (sym h ∙ every-within (keeps D t) order ns m e))) (λ e. e)

pub broken-fixed : (D : Dates) (u : Sheet) (ns : List ℕ) → length u ≡ sheet_size → every (λ (n : ℕ). among n order) ns ≡ true → spare varying ns ≡ true → every (keeps D u) ns ≡ false → (q : List ℕ) → passes_at D u q ≡ false
unfolding passes_at
broken-fixed D u ns size m a h q = unkept D (picked_of D u q) ns m (sym (spared D varying u (picked_of D u q) (picked-alike D u q size).1 ns a) ∙ h)

-- ---- what the search goes through

-- the picks of the levels with these widths
abbrev pub rest : List ℕ → Picks
rest ns = product (map (λ (n : ℕ). places n 0) ns)

pub first-pick : (D : Dates) (u : Sheet) (n101 n106 n108 n109 : ℕ) → n101 ≡ width (blank (text_of u 6)) (status_count D) → n106 ≡ width (blank (text_of u 11)) basis_count
    → n108 ≡ width (blank (text_of u 13)) zero_count → n109 ≡ width (blank (text_of u 14)) zero_count
    → first_pick D u ≡ look (passes_at D u) 0 (map (λ (t : List ℕ). t) (rest (n101 ∷ n106 ∷ n108 ∷ n109 ∷ [])) ++ [])
unfolding first_pick picks
first-pick D u n101 n106 n108 n109 e1 e2 e3 e4 =
    ap (look (passes_at D u) 0) (sym (append-nil _ ∙ map-id (rest (n101 ∷ n106 ∷ n108 ∷ n109 ∷ [])) ∙ (λ i. rest (e1 i ∷ e2 i ∷ e3 i ∷ e4 i ∷ []))))

-- how many fillings have one entry in 101 and 106, and one in 101
abbrev pub of_basis : ℕ
of_basis = zero_count * zero_count

abbrev pub of_status : ℕ
of_status = basis_count * of_basis

pub most : (b c d : ℕ) → b ≤ basis_count → c ≤ zero_count → d ≤ zero_count → (c * d ≤ of_basis) × (b * (c * d) ≤ of_status)
most b c d hb hc hd = let two = mul-le-mul hc hd in (two, mul-le-mul hb two)
