-- Reading: the promise from its equations, and the ways out.
use mathlib.Core.Path.{◌≡◌, refl, sym, ap, ◌∙◌}
use mathlib.Core.Bool.{Bool, true, false, not, ◌&&◌, and-false, false≢true}
use mathlib.Core.List.{List, []}
use Prim.Native.Nat.{ℕ, ◌<◌, ◌≤◌}
use native.Mathlib.Omega.{arith}
use borrow.Author.Tests.{eq-eqb, leb-true, not-true, not-false}
use borrow.Author.Rules.{rules}
use lib.ListN.{length, get_or}
use Rattle.std.specs.Prelude.{Result, Ok, Err}
use Rattle.texts.specs.declared.answers.Refusal.{Refusal}
use Rattle.texts.specs.Quoted.{Text}
use Rattle.texts.specs.Texts.{every, same}
use Rattle.texts.specs.Refusals.{refusal_number}
use Rattle.texts.specs.Answers.{success, passes}
use Rattle.texts.proofs.Bools.{both, and2, cases}
use Rattle.texts.proofs.Codes.{same_true, same_self}
use Rattle.texts.proofs.Refusals.{no-success, none_of, succeeds, succeeded, unchanged, Way, way_out, tested}
use Rattle.sheets.specs.Sheet.{Sheet, slot_count, sheet_size, text_max, short, slot_of, text_of, ◌⟨◌⟩}
use Rattle.sheets.specs.Working.Facts.{Read}
use Rattle.sheets.specs.declared.dates.Dates.{Dates}
use Rattle.sheets.specs.declared.facts.Facts.{Facts}
use Rattle.rules.specs.Rules.{class_a, budget, of_lines, keeps}
use Rattle.swift.specs.Lines.{Seven, seven_in, lines_of, slot_texts, sheet_with, any_status, fits_in, fits, parts_of, taken}
use Rattle.swift.specs.Working.Places.{marked}
use Rattle.swift.specs.Promises.{read_answer, read_tests, reading_lines, sheet_read, ReadsLines}
use Rattle.swift.proofs.Cells.{text-cells, length-cells, parts-short}
use Rattle.swift.proofs.Forms.{Widths, widths-in}
use Rattle.swift.proofs.Cutting.{cut-lines, lines-again, marked-low, marked-high}

-- ---- is_fit

pub fit_is : (d : Dates) (f : Facts) (k a : Bool) (s : Sheet) → d ≡ any_status
    → (length s ≡ sheet_size → Read d f s)
    → ((D : Dates) (s : Sheet) → Read D f s → budget s ≡ true → k ≡ every (keeps D s) of_lines)
    → ((D : Dates) (s : Sheet) → Read D f s → a ≡ class_a s)
    → length s ≡ sheet_size
    → (k && a) ≡ fits_in s
unfolding fits_in
fit_is d f k a s ed r hk ha size = go (class_a s) refl
  where
    R : Read any_status f s
    R = rw ed at (r size)

    K : Bool
    K = every (keeps any_status s) of_lines

    go : (c : Bool) → class_a s ≡ c → (k && a) ≡ (K && class_a s)
    go true e =
        let b : budget s ≡ true = rw e in
        λ i. hk any_status s R b i && ha any_status s R i
    go false e =
        ap (λ (x : Bool). k && x) (ha any_status s R ∙ e) ∙ and-false k ∙ sym (ap (λ (x : Bool). K && x) e ∙ and-false K)

-- ---- the texts of a sheet with seven texts

pub seven-with : (t : Seven) → every short (slot_texts t) ≡ true → seven_in (sheet_with t) ≡ t
unfolding seven_in ◌⟨◌⟩ slot_of
seven-with t h =
    let at : (k : ℕ) → k < slot_count → text_of (sheet_with t) k ≡ get_or (slot_texts t) k [] = λ k l. text-cells (slot_texts t) k h l in
    λ i. record {
      status = at 6 (omega arith) i;
      bik = at 0 (omega arith) i;
      bank = at 1 (omega arith) i;
      account = at 2 (omega arith) i;
      payee = at 5 (omega arith) i;
      kpp = at 8 (omega arith) i;
      code = at 3 (omega arith) i;
    }

-- texts that fit: their widths
pub fit-widths : (t : Seven) → fits t ≡ true → Widths t × (length t.code ≤ text_max)
unfolding fits every
fit-widths t h =
    let q = both (every short (slot_texts t)) (fits_in (sheet_with t)) h in
    let e = seven-with t q.0 in
    let c = (both (short t.code) _ (both (short t.account) _ (both (short t.bank) _ (both (short t.bik) _ q.0).1).1).1).0 in
    (rw e at (widths-in (sheet_with t) q.1), leb-true (length t.code) text_max c)

-- texts that fit are cut out of their lines
cut-fit : (t : Seven) (b : Text) → fits t ≡ true → lines_of t ≡ b → (marked b ≡ true) × (parts_of b ≡ t)
cut-fit t b h e = let w = fit-widths t h in cut-lines t b w.0 w.1 e

pub taken-lines : (t : Seven) (b : Text) → fits t ≡ true → lines_of t ≡ b → (taken b ≡ true) × (parts_of b ≡ t)
unfolding taken
taken-lines t b h e =
    let c = (cut-fit t b h e).1 in
    let l : same (lines_of (parts_of b)) b ≡ true = ap (λ (u : Text). same u b) (ap lines_of c ∙ e) ∙ same_self b in
    (and2 (same (lines_of (parts_of b)) b) (fits (parts_of b)) l (ap fits c ∙ h), c)

-- what is taken are the lines of its texts, which fit
taken-means : (b : Text) → taken b ≡ true → (lines_of (parts_of b) ≡ b) × (fits (parts_of b) ≡ true)
unfolding taken
taken-means b h = let q = both (same (lines_of (parts_of b)) b) (fits (parts_of b)) h in (same_true (lines_of (parts_of b)) b q.0, q.1)

-- ---- the promise

read_made : (r : Result Unit Refusal) → read_answer r ≡ success [] → r ≡ Ok tt
unfolding read_answer
read_made (Ok u) e = refl
read_made (Err n) e = absurd (no-success (refusal_number n) [] _ e)

reads-by : (b o : List ℕ) (r : Result Unit Refusal) (e : List ℕ) → read_answer r ≡ reading_lines b o → e ≡ sheet_read b o → ReadsLines b o r e
unfolding reading_lines sheet_read read_tests read_answer fits
reads-by b o r e p q = record {
  answer = p;
  sheet = q;
  refused = λ n. q ∙ unchanged [] _ _ (read_tests b o) (λ s. n (read_made r (p ∙ s)));
  exactly = λ z. (
    λ f. let m = taken-means b (is-taken f).0 in (parts_of b, m.1, m.0),
    λ (t, h, l). read_made r (p ∙ succeeds [] [] (read_tests b o) (let-in z (taken-lines t b h l).0)),
  );
  filled = λ f.
      let k = is-taken f in
      let m = taken-means b k.0 in
      let s = seven-of f in
      (ap fits s ∙ m.1, ap lines_of s ∙ m.0, k.1 ∙ ap sheet_with (sym s));
  only = λ f t h l. sym (taken-lines t b h l).1 ∙ sym (seven-of f);
}
  where
    let-in : length o ≡ sheet_size → taken b ≡ true → passes (read_tests b o) ≡ true
    let-in z h = rw (eq-eqb (length o) sheet_size z, h)

    is-taken : r ≡ Ok tt → (taken b ≡ true) × (e ≡ sheet_with (parts_of b))
    is-taken f =
        let z = (succeeded [] [] (read_tests b o) (ap read_answer (sym f) ∙ p)).0 in
        let k = none_of (read_tests b o) z in
        (not-false (taken b) k.1.0, q ∙ rw z)

    seven-of : r ≡ Ok tt → seven_in e ≡ parts_of b
    seven-of f =
        let k = is-taken f in
        ap seven_in k.1 ∙ seven-with (parts_of b) (both (every short (slot_texts (parts_of b))) (fits_in (sheet_with (parts_of b))) (taken-means b k.0).1).0

-- ---- the ways out of `read_lines`

pub read_out : (k : ℕ) (b o : List ℕ) (r : Result Unit Refusal) (e : List ℕ) → Way [] (sheet_with (parts_of b)) o (read_answer r) e (ReadsLines b o r e) k (read_tests b o)
unfolding reading_lines sheet_read
read_out k b o r e = way_out [] (sheet_with (parts_of b)) o (read_answer r) e (ReadsLines b o r e) k (read_tests b o) (λ p q. reads-by b o r e p q)

module _ (b : List ℕ) (m : Bool) (em : m ≡ marked b) where
  -- a block without its fixed strings is not taken
  pub unmarked : not m ≡ true → not (taken b) ≡ true
  unmarked n =
      cases (taken b)
      (λ h. let q = taken-means b h in absurd (false≢true (sym (not-true m n) ∙ em ∙ (cut-fit (parts_of b) b q.1 q.0).0)))
      (λ h. rw h)

  pub is-marked : not m ≡ false → marked b ≡ true
  is-marked n = sym em ∙ not-false m n

  pub is-marked-long : not m ≡ false → (112 ≤ length b) × (length b ≤ 137)
  is-marked-long n = (marked-low b (is-marked n), marked-high b (is-marked n))

  -- one with them is taken if its texts fit
  module _ (n : not m ≡ false) (w : List ℕ) (ew : w ≡ sheet_with (parts_of b)) (f : Bool) (ef : length w ≡ sheet_size → f ≡ fits_in w) where
    all_short : every short (slot_texts (parts_of b)) ≡ true
    all_short = parts-short b (marked-high b (is-marked n))

    pub work-size : length w ≡ sheet_size
    work-size = ap length ew ∙ length-cells (slot_texts (parts_of b)) all_short

    pub fits-as : (z : Bool) → not f ≡ z → not (taken b) ≡ z
    unfolding taken fits
    fits-as z k =
        let l : same (lines_of (parts_of b)) b ≡ true = ap (λ (u : Text). same u b) (lines-again b (is-marked n)) ∙ same_self b in
        rw (l, all_short) (ap not (sym (ef work-size ∙ ap fits_in ew)) ∙ k)

pub ruleset reading = (rules, tested, unmarked, is-marked, fits-as)
