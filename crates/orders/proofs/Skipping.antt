-- R-14: what the quick search counts as skipped is how many statuses fail, and it completes as completion does.
use mathlib.Core.Path.{◌≡◌, refl, sym, ap, ◌∙◌, subst}
use mathlib.Core.Bool.{Bool, true, false, not, cond, ◌&&◌}
use mathlib.Core.List.Memᴰ
use mathlib.Core.List.{List, [], ◌∷◌, map, Memᴰ}
use Prim.Native.Nat.{ℕ, zero, suc, ◌+◌, ◌<◌, ◌≤◌}
use native.Mathlib.Decide.{ℕ_discrete}
use native.Mathlib.Nat.{zero-add}
use native.Mathlib.Numerals.{add-one}
use native.Mathlib.Omega.{arith}
use borrow.Author.Tests.{eqb-false, ne_eqb}
use lib.Dec.{eqb}
use lib.ListN.{length, get_or, take}
use Rattle.texts.specs.Texts.{every, any, are, among, same, blank}
use Rattle.texts.proofs.Codes.{same_true, same_self}
use Rattle.texts.proofs.Every.{every-same}
use Rattle.sheets.specs.Sheet.{Sheet, cell, cell_text, cell_of, text_of, sheet_size}
use Rattle.sheets.specs.Working.Entries.{basis_count, zero_count, filled_at}
use Rattle.sheets.specs.Dates.{status_texts, status_count}
use Rattle.sheets.specs.declared.dates.Dates.{Dates}
use Rattle.sheets.proofs.Frames.{status-sized, filled-length}
use Rattle.rules.specs.Rules.{keeps}
use Rattle.rules.specs.Working.Groups.{AlikeBut}
use Rattle.rules.proofs.Reading.{spared}
use Rattle.drafts.proofs.Messages.{neither}
use Rattle.fillings.specs.Fillings as of
use Rattle.fillings.specs.Fillings.{width, entry_place, Look, found, none}
use Rattle.fillings.specs.Filled.{tally}
use Rattle.fillings.specs.Working.Places.{places}
use Rattle.fillings.specs.Working.Parts.{map_look}
use Rattle.fillings.specs.Working.Entering.{Entry, filled_with, slots_of}
use Rattle.fillings.proofs.Cells.{Fit}
use Rattle.fillings.proofs.EveryFilling.{each-cases, each_holds, filling-of}
use Rattle.fillings.proofs.Distinct.{any-member, choice-once}
use Rattle.fillings.proofs.Counting.{length-choices}
use Rattle.fillings.proofs.Looking.{look-member}
use Rattle.fillings.proofs.Parting.{put_same, put_other}
use Rattle.fillings.proofs.Upto.{map_at, place_at, place-below, below-place, tally-alike, tally-take, take_all}
use Rattle.orders.specs.Fillings.{list_of, Filling, fillings, first_filling}
use Rattle.orders.specs.Skipping.{quick_rules, statuses_of, fails, up_to, skipped_of}
use Rattle.orders.specs.Working.Entering.{zero_entries, base_of, picked_of}
use Rattle.orders.specs.Working.Search.{passes_at, picks, first_pick}
use Rattle.orders.specs.Working.Quick.{with_status, early_rules, skips, rest_picks}
use Rattle.orders.proofs.Lists.{proper, status-blank}
use Rattle.orders.proofs.Keeping.{zeros-fit, picks-fit, status-alike, later_entries, base-length, base-text, fillings-are, first-is, of-base}

-- ---- cells that entries leave

cell-left : (es : List Entry) (u : Sheet) → length u ≡ sheet_size → Fit 15 es → (j : ℕ) → j < 15 → among j (slots_of es) ≡ false → cell_of (filled_with u es) j ≡ cell_of u j
unfolding any are among
cell-left [] u z f j l h = refl
cell-left (e ∷ es) u z f j l h =
    let (lk, lx) = f.0 in
    let q = neither (eqb e.0 j) (any (are j) (slots_of es)) h in
    cell-left es (filled_at u e.0 e.1) (filled-length u e.1 e.0 z lk lx) f.1 j l q.1
    ∙ put_other u z e.0 lk e.1 lx j l (λ k. eqb-false e.0 j q.0 (sym k))

-- ---- the verdict of a status

-- the two lists of rules have the same verdict
pub early-same : (D : Dates) (t : Sheet) → every (keeps D t) early_rules ≡ every (keeps D t) quick_rules
unfolding every any are among
early-same D t = every-same (keeps D t) early_rules quick_rules refl refl

none_any : {A : Type 0} (p : A → Bool) (l : List A) → ((x : A) → Memᴰ x l → p x ≡ false) → any p l ≡ false
unfolding any
none_any p [] h = refl
none_any p (x ∷ l) h = rw (h x (Memᴰ.head refl)) (none_any p l (λ y m. h y (Memᴰ.tail m)))

pub at_place : (n a : ℕ) → a < n → Memᴰ a (places n 0)
at_place n a l = subst (λ (x : ℕ). Memᴰ x (places n 0)) (zero-add a) (below-place n 0 a l)

module _ (D : Dates) (s : Sheet) (size : length s ≡ sheet_size) where
  -- how many statuses there are
  abbrev wide : ℕ
  wide = width (blank (text_of (base_of s) 6)) (status_count D)

  base-status : text_of (base_of s) 6 ≡ text_of s 6
  unfolding any are among
  base-status = base-text D s size 6 refl

  base-cell : cell_of (base_of s) 6 ≡ cell_of s 6
  unfolding base_of any are among
  base-cell = cell-left zero_entries s size zeros-fit 6 (omega arith) refl

  pub length-statuses : length (statuses_of D s) ≡ width (blank (text_of (base_of s) 6)) (status_count D)
  unfolding list_of
  length-statuses = length-choices (list_of D) s 6 ∙ ap (λ (b : Bool). width b (status_count D)) (status-blank D s ∙ ap blank (sym base-status))

  -- the status at a place
  status-at : (a : ℕ) → a < wide → get_or (statuses_of D s) a [] ≡ cond (blank (text_of s 6)) (cell (get_or (status_texts D) a [])) (cell_of s 6)
  unfolding of.choices list_of
  status-at a l = rw (status-blank D s) (go (blank (text_of s 6)) a (subst (λ (b : Bool). a < width b (status_count D)) (ap blank base-status) l))
    where
      go : (b : Bool) (i : ℕ) → i < width b (status_count D) → get_or (cond b (map cell (status_texts D)) (cell_of s 6 ∷ [])) i [] ≡ cond b (cell (get_or (status_texts D) i [])) (cell_of s 6)
      go true i h = map_at [] cell [] (status_texts D) i h
      go false zero h = refl
      go false (suc i) h = absurd (omega arith)

  put-status : (a : ℕ) → cell_of (with_status D (base_of s) a) 6 ≡ cond (blank (text_of s 6)) (cell (get_or (status_texts D) a [])) (cell_of s 6)
  put-status a =
      put_same (base_of s) (base-length D s size) 6 (omega arith) (cell (get_or (status_texts D) a [])) (status-sized D a)
      ∙ (λ i. cond (blank (base-status i)) (cell (get_or (status_texts D) a [])) (base-cell i))

  -- a pick has the status at its first place
  pick-status : (a : ℕ) → a < wide → (t : List ℕ) → cell_of (picked_of D (base_of s) (a ∷ t)) 6 ≡ get_or (statuses_of D s) a []
  unfolding picked_of any are among
  pick-status a l t =
      cell-left (later_entries t) (with_status D (base_of s) a) (status-alike D (base_of s) (base-length D s size) a).0 (picks-fit D (a ∷ t)).1 6 (omega arith) refl ∙ put-status a ∙ sym (status-at a l)

  module _ (a : ℕ) (l : a < wide) where
    -- each filling with the status has its verdict
    alike-with : (f : Sheet) → Filling D s f → cell_of f 6 ≡ get_or (statuses_of D s) a [] → AlikeBut (11 ∷ 13 ∷ 14 ∷ []) (with_status D (base_of s) a) f
    unfolding any are among text_of
    alike-with f w e k h =
        elim (ℕ_discrete k 6) [
          | yes y ↦ ap (text_of (with_status D (base_of s) a)) y ∙ ap cell_text (put-status a ∙ sym (status-at a l) ∙ sym e) ∙ ap (text_of f) (sym y)
          | no n ↦
              let z : eqb 6 k ≡ false = ne_eqb 6 k (λ y. n (sym y)) in
              sym ((status-alike D (base_of s) (base-length D s size) a).1 k (rw z)) ∙ of-base D s size f w k (rw z h)
        ]

    pub verdict : (f : Sheet) → Filling D s f → cell_of f 6 ≡ get_or (statuses_of D s) a [] → every (keeps D f) quick_rules ≡ every (keeps D (with_status D (base_of s) a)) early_rules
    unfolding every any are among
    verdict f w e =
        sym (early-same D (with_status D (base_of s) a) ∙ spared D (11 ∷ 13 ∷ 14 ∷ []) (with_status D (base_of s) a) f (alike-with f w e) quick_rules refl)

    -- and there is one
    first-place : (b : Bool) (n : ℕ) → 1 ≤ n → Memᴰ 0 (places (width b n) 0)
    first-place true n h = at_place n 0 h
    first-place false n h = at_place 1 0 (omega arith)

    one-with : Memᴰ (picked_of D (base_of s) (a ∷ 0 ∷ 0 ∷ 0 ∷ [])) (fillings D s)
    unfolding picks
    one-with =
        subst (Memᴰ (picked_of D (base_of s) (a ∷ 0 ∷ 0 ∷ 0 ∷ []))) (sym (fillings-are D s size))
        (Memᴰ.map (picked_of D (base_of s))
        (each_holds (at_place wide a l) _ _
        (each_holds (first-place (blank (text_of (base_of s) 11)) basis_count (omega arith)) _ _
        (each_holds (first-place (blank (text_of (base_of s) 13)) zero_count (omega arith)) _ _
        (each_holds (first-place (blank (text_of (base_of s) 14)) zero_count (omega arith)) ([] ∷ []) [] (Memᴰ.head refl))))))

    pub with-status : (f : Sheet) × Filling D s f × (cell_of f 6 ≡ get_or (statuses_of D s) a [])
    with-status = (_, filling-of (proper D) s size _ one-with, pick-status a l (0 ∷ 0 ∷ 0 ∷ []))

    pub fails-is : skips D (base_of s) a ≡ fails D s (get_or (statuses_of D s) a [])
    unfolding skips fails
    fails-is = go (every (keeps D (with_status D (base_of s) a)) early_rules) refl
      where
        x : List ℕ
        x = get_or (statuses_of D s) a []

        test : Sheet → Bool
        test f = same (cell_of f 6) x && not (every (keeps D f) quick_rules)

        go : (v : Bool) → every (keeps D (with_status D (base_of s) a)) early_rules ≡ v → not v ≡ any test (fillings D s)
        go true e = sym (none_any test (fillings D s) (λ f m. passed f m (same (cell_of f 6) x) refl))
          where
            passed : (f : Sheet) → Memᴰ f (fillings D s) → (b : Bool) → same (cell_of f 6) x ≡ b → (b && not (every (keeps D f) quick_rules)) ≡ false
            passed f m false h = refl
            passed f m true h = ap not (verdict f (filling-of (proper D) s size f m) (same_true (cell_of f 6) x h) ∙ e)
        go false e =
            let f = picked_of D (base_of s) (a ∷ 0 ∷ 0 ∷ 0 ∷ []) in
            let c : cell_of f 6 ≡ x = pick-status a l (0 ∷ 0 ∷ 0 ∷ []) in
            let y : same (cell_of f 6) x ≡ true = ap (λ (k : List ℕ). same k x) c ∙ same_self x in
            let k = verdict f (filling-of (proper D) s size f one-with) c ∙ e in
            sym (any-member test one-with (rw (y, k)))

    -- so the status fails by what any of its fillings breaks
    pub fails_by : (f : Sheet) → Filling D s f → cell_of f 6 ≡ get_or (statuses_of D s) a [] → not (every (keeps D f) quick_rules) ≡ fails D s (get_or (statuses_of D s) a [])
    unfolding skips
    fails_by f w e = ap not (verdict f w e) ∙ fails-is

  -- ---- how many

  counted : (n : ℕ) → n ≤ wide → tally (skips D (base_of s)) (places n 0) ≡ tally (fails D s) (take n (statuses_of D s))
  counted n h =
      tally-alike (skips D (base_of s)) (λ (a : ℕ). fails D s (get_or (statuses_of D s) a [])) n 0 (λ a i l. fails-is a (omega arith))
      ∙ sym (tally-take [] (fails D s) (statuses_of D s) n (omega (arith, length-statuses)))

  pub skipped-none : (n : ℕ) → first_pick D (base_of s) ≡ none n → tally (skips D (base_of s)) (places (width (blank (text_of (base_of s) 6)) (status_count D)) 0) ≡ skipped_of D s
  unfolding skipped_of
  skipped-none n e =
      let o : first_filling D s ≡ none n = first-is D s size ∙ ap (map_look (picked_of D (base_of s))) e in
      counted wide (omega arith)
      ∙ ap (λ (k : ℕ). tally (fails D s) (take k (statuses_of D s))) (sym length-statuses)
      ∙ ap (tally (fails D s)) (take_all (statuses_of D s))
      ∙ sym (ap (λ (k : Look Sheet). tally (fails D s) (up_to (statuses_of D s) k)) o)

  pub skipped-found : (n : ℕ) (q : List ℕ) → first_pick D (base_of s) ≡ found n q → tally (skips D (base_of s)) (places (get_or q 0 0 + 1) 0) ≡ skipped_of D s
  unfolding skipped_of first_pick picks rest_picks
  skipped-found n q e =
      let o : first_filling D s ≡ found n (picked_of D (base_of s) q) = first-is D s size ∙ ap (map_look (picked_of D (base_of s))) e in
      let (a, t, m, r, y) = each-cases (places wide 0) (rest_picks (base_of s)) q (look-member (passes_at D (base_of s)) (picks D (base_of s)) n q e) in
      let l : a < wide = subst (λ (k : ℕ). a < k) (zero-add wide) (place-below wide 0 a m).1 in
      let h : get_or q 0 0 ≡ a = ap (λ (k : List ℕ). get_or k 0 0) (sym y) in
      let c : cell_of (picked_of D (base_of s) q) 6 ≡ get_or (statuses_of D s) a [] = ap (λ (k : List ℕ). cell_of (picked_of D (base_of s) k) 6) (sym y) ∙ pick-status a l t in
      let p : entry_place (statuses_of D s) (cell_of (picked_of D (base_of s) q) 6) ≡ a = ap (entry_place (statuses_of D s)) c ∙ place_at (statuses_of D s) (choice-once (proper D) s 6) a (omega (arith, length-statuses)) in
      ap (λ (k : ℕ). tally (skips D (base_of s)) (places (k + 1) 0)) h
      ∙ counted (a + 1) (omega arith)
      ∙ ap (λ (k : ℕ). tally (fails D s) (take k (statuses_of D s))) (add-one a ∙ ap suc (sym p))
      ∙ sym (ap (λ (k : Look Sheet). tally (fails D s) (up_to (statuses_of D s) k)) o)
