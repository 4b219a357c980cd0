-- A rule's verdict comes from the slots that it reads.
use mathlib.Core.Path.{◌≡◌, refl, ap, sym, ◌∙◌, fun_ext}
use mathlib.Core.Bool.{Bool, true, false, not, cond, ◌&&◌, ◌||◌, false≢true}
use mathlib.Core.List.{List, [], ◌∷◌, map}
use Prim.Native.Nat.{ℕ}
use borrow.Author.Tests.{eqb-true, not-true}
use lib.Dec.{eqb}
use lib.ListN.{get_or}
use Rattle.texts.specs.Quoted.{Text}
use Rattle.texts.specs.Texts.{every, any, are, among}
use Rattle.texts.proofs.Bools.{both}
use Rattle.texts.proofs.Every.{every-member}
use Rattle.sheets.specs.Sheet.{Sheet, slot_of, text_of, ◌⟨◌⟩}
use Rattle.sheets.specs.Working.Facts.{general_of, facts_by}
use Rattle.sheets.specs.declared.dates.Dates.{Dates}
use Rattle.rules.specs.Rules.{budget, order, keeps}
use Rattle.rules.specs.Working.Groups.{reads_of, AlikeIn, AlikeBut, apart, spare}
use Rattle.rules.proofs.On.{verdicts_on, keeps_on}

-- the texts in some slots, and none in the others
abbrev seen : List ℕ → (ℕ → Text) → ℕ → Text
seen ks T k = cond (among k ks) (T k) []

abbrev verdict_by : Dates → (ℕ → Text) → ℕ → Bool
verdict_by D T n = get_or (verdicts_on (facts_by D T)) n true

-- the table of the slots is right: every verdict is that of the sheet of which no other slot is seen
verdicts-seen : (D : Dates) (T : ℕ → Text) → map (verdict_by D T) order ≡ map (λ (n : ℕ). verdict_by D (seen (reads_of n) T) n) order
unfolding facts_by general_of every any are among
verdicts-seen D T = refl

member-step : (g h : ℕ → Bool) (k y : ℕ) (e a : Bool) → eqb y k ≡ e → (e || a) ≡ true → g y ≡ h y → (a ≡ true → g k ≡ h k) → g k ≡ h k
member-step g h k y true a p m q f = let z = eqb-true y k p in ap g (sym z) ∙ q ∙ ap h z
member-step g h k y false a p m q f = f m

tabled : (g h : ℕ → Bool) (ns : List ℕ) (n : ℕ) → map g ns ≡ map h ns → among n ns ≡ true → g n ≡ h n
unfolding any are among
tabled g h [] n e m = absurd (false≢true m)
tabled g h (y ∷ ys) n e m =
    let p : g y ≡ h y = cc in
    let q : map g ys ≡ map h ys = cc in
    member-step g h n y (eqb y n) (any (are n) ys) refl m p (λ z. tabled g h ys n q z)

seen-case : (ks : List ℕ) (s t : Sheet) (k : ℕ) (b : Bool) → among k ks ≡ b → AlikeIn ks s t → cond b (text_of s k) [] ≡ cond b (text_of t k) []
seen-case ks s t k true e a = a k e
seen-case ks s t k false e a = refl

-- a rule is kept alike by sheets that are alike in the slots that it reads
pub reads_only : (D : Dates) (s t : Sheet) (n : ℕ) → among n order ≡ true → AlikeIn (reads_of n) s t → keeps D s n ≡ keeps D t n
reads_only D s t n m a =
    by s ∙ ap (λ (T : ℕ → Text). verdict_by D T n) (fun_ext (λ k. seen-case (reads_of n) s t k (among k (reads_of n)) refl a)) ∙ sym (by t)
  where
    by : (u : Sheet) → keeps D u n ≡ verdict_by D (seen (reads_of n) (text_of u)) n
    by u =
        keeps_on D u n
        ∙ tabled (verdict_by D (text_of u)) (λ (k : ℕ). verdict_by D (seen (reads_of k) (text_of u)) k) order n (verdicts-seen D (text_of u)) m

-- rules that read none of some slots are kept alike by sheets that differ only there
module _ (D : Dates) (ds : List ℕ) (s t : Sheet) (a : AlikeBut ds s t) where
  alike-in : (ks : List ℕ) → apart ds ks ≡ true → AlikeIn ks s t
  alike-in ks p k m = a k (not-true (among k ds) (every-member (λ (j : ℕ). not (among j ds)) ks k m p))

  pub spared : (ns : List ℕ) → spare ds ns ≡ true → every (keeps D s) ns ≡ every (keeps D t) ns
  unfolding every
  spared [] h = refl
  spared (n ∷ ns) h =
      let q = both (among n order && apart ds (reads_of n)) (spare ds ns) h in
      let r = both (among n order) (apart ds (reads_of n)) q.0 in
      λ i. reads_only D s t n r.0 (alike-in (reads_of n) r.1) i && spared ns q.1 i

  pub spared-class : apart ds (0 ∷ 1 ∷ 2 ∷ []) ≡ true → budget s ≡ budget t
  unfolding slot_of ◌⟨◌⟩ any are among
  spared-class h =
      let w = alike-in (0 ∷ 1 ∷ 2 ∷ []) h in
      cc (w 0 refl, w 1 refl, w 2 refl)
