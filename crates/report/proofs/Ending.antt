-- The ways through the end of the report, and the whole.
use mathlib.Core.Path.{◌≡◌, refl, sym, ap, ◌∙◌, subst}
use mathlib.Core.Bool.{Bool, true, false, cond, ◌&&◌, and-false}
use mathlib.Core.List.{List, [], ◌∷◌, ◌++◌}
use Prim.Native.Nat.{ℕ, suc, ◌+◌, ◌<◌, ◌≤◌}
use native.Mathlib.Omega.{arith}
use borrow.Author.Tests.{le-leb, lt-leb, leb-true}
use lib.Dec.{leb}
use lib.ListN.{length, take, length-append}
use Rattle.std.specs.Prelude.{Result, Ok, Err}
use Rattle.texts.specs.Quoted.{Text, bytes}
use Rattle.texts.specs.Buffers.{put}
use Rattle.texts.specs.Working.Writing.{Wrote}
use Rattle.texts.specs.Answers.{Answer, success, refusal}
use Rattle.texts.specs.Refusals.{refusal_number}
use Rattle.texts.proofs.Puts.{put-none, mid-put}
use Rattle.sheets.specs.Sheet.{slots}
use Rattle.rules.specs.declared.rules.RuleNumber.{RuleNumber}
use Rattle.sheets.specs.declared.sheet.Field.{Field}
use Rattle.drafts.specs.Draft.{fresh_draft, posting_of, posted_to}
use Rattle.drafts.specs.History.{posted_all}
use Rattle.drafts.specs.Promises.{Freshens}
use Rattle.texts.specs.declared.answers.Refusal.{Refusal}
use Rattle.sheets.specs.Dates.{program_dates}
use Rattle.sheets.specs.declared.dates.Dates.{Dates}
use Rattle.orders.specs.Complete.{completing, completed, complete_answer}
use Rattle.orders.specs.Whole.{Completes}
use Rattle.orders.proofs.Dated.{as-before-completed}
use Rattle.orders.specs.declared.complete.Filled.{Filled}
use Rattle.orders.specs.declared.complete.Incomplete.{Incomplete}
use Rattle.orders.specs.declared.complete.Incomplete.TheVariants.{Impossible, Broken, Refused}
use Rattle.report.specs.Lines.{decimal, item, line}
use Rattle.orders.specs.Stream.{messages_of}
use Rattle.report.specs.Report.{message_line, field_lines, end_lines, no_sheet, ending, report_from, report_of, reported}
use Rattle.report.specs.Promises.{Reports}
use Rattle.report.specs.Requests.R7.{report_from_before, report_before}
use Rattle.report.specs.Working.Told.{Told}
use Rattle.report.specs.declared.lines.Page.{Page}
use Rattle.report.specs.Working.Page.{Puts}
use Rattle.report.proofs.Pages.{puts_as, puts_then, puts-length}
use Rattle.report.proofs.Writing.{two-length, three-length, four-length}
use Rattle.report.proofs.Decimals.{decimal-is, decimal-within}

-- at the program's dates (R-7)
pub at-program : (D : Dates) (d b : List ℕ) (r : Result Filled Incomplete) (t : List ℕ) → D ≡ program_dates → Completes D d b r t → Completes program_dates d b r t
at-program D d b r t e C = subst (λ (E : Dates). Completes E d b r t) e C

-- ---- the lines of the end, and how long they are

pub ok-short : (n : ℕ) → length (line (bytes "end") (bytes "ok" ∷ decimal n ∷ [])) ≤ 28
ok-short n = omega (arith, three-length (bytes "end") (bytes "ok") (decimal n), decimal-within n)

pub refused-short : (n : ℕ) → length (line (bytes "end") (decimal n ∷ [])) ≤ 733
refused-short n = omega (arith, two-length (bytes "end") (decimal n), decimal-within n)

pub impossible-short : (m n : ℕ) → length (line (bytes "end") (decimal m ∷ decimal n ∷ [])) ≤ 733
impossible-short m n = omega (arith, three-length (bytes "end") (decimal m) (decimal n), decimal-within m, decimal-within n)

pub broken-short : (k m n : ℕ) → length (line (bytes "end") (decimal k ∷ decimal m ∷ decimal n ∷ [])) ≤ 733
broken-short k m n = omega (arith, four-length (bytes "end") (decimal k) (decimal m) (decimal n), decimal-within k, decimal-within m, decimal-within n)

module _ (p : Page) (l : p.len + 733 ≤ length p.buffer.now) where
  pub end-room : (t : Text) → length t ≤ 733 → p.len + length t ≤ length p.buffer.now
  end-room t h = omega arith

  pub ok-line : (n : ℕ) → p.len + length (line (bytes "end") (bytes "ok" ∷ decimal n ∷ [])) ≤ length p.buffer.now
  ok-line n = omega (arith, ok-short n)

  module _ (x : Page) (n : ℕ) (w : Puts p (line (bytes "end") (bytes "ok" ∷ decimal n ∷ [])) x) where
    pub ok-room : x.len + 705 ≤ length x.buffer.now
    ok-room = omega (arith, w.wrote.1, ok-short n, puts-length p x _ w (omega (arith, w.wrote.1, ok-short n)))

  -- completing the draft answered r and left the sheet s
  module _ (d s : List ℕ) (r : Result Filled Incomplete) (C : Completes program_dates d no_sheet r s) (q : Page) where
    ended : (t : Text) → t ≡ end_lines (complete_answer r) s → Puts p t q → length t ≤ 733 → Puts p (ending d) q × (q.len ≤ p.len + 733)
    unfolding ending
    ended t e w h = (
      puts_as p q t (end_lines (completing program_dates d no_sheet) (completed program_dates d no_sheet)) (e ∙ rw (C.answer, C.sheet) refl) w,
      omega (arith, w.wrote.1),
    )

    pub end-filled : (f : Filled) (n : ℕ) (x : Page) → r ≡ Ok f → n ≡ f.count → Puts p (line (bytes "end") (bytes "ok" ∷ decimal n ∷ [])) x → Puts x (field_lines s slots) q → q.len ≤ x.len + 705 → Puts p (ending d) q × (q.len ≤ p.len + 733)
    unfolding end_lines complete_answer
    end-filled f n x h hn w v k =
        let t = line (bytes "end") (bytes "ok" ∷ decimal n ∷ []) in
        ended (t ++ field_lines s slots) (rw (h, hn) refl) (puts_then p x q t (field_lines s slots) w v (omega (arith, w.wrote.1, ok-short n)))
        (omega (arith, w.wrote.1, v.wrote.1, ok-short n, length-append t (field_lines s slots)))

    module _ (e : Incomplete) (h : r ≡ Err e) where
      pub end-impossible : (k n m : ℕ) → k ≡ 10 → e ≡ Impossible n → m ≡ n → Puts p (line (bytes "end") (decimal k ∷ decimal m ∷ [])) q → Puts p (ending d) q × (q.len ≤ p.len + 733)
      unfolding end_lines complete_answer
      end-impossible k n m hk he hm w = ended _ (rw (h, he, hk, hm) refl) w (impossible-short k m)

      pub end-broken : (f : Field) (u : RuleNumber) (k m n : ℕ) → k ≡ 8 → e ≡ Broken f u → m ≡ f.0 → n ≡ u.0 → Puts p (line (bytes "end") (decimal k ∷ decimal m ∷ decimal n ∷ [])) q → Puts p (ending d) q × (q.len ≤ p.len + 733)
      unfolding end_lines complete_answer
      end-broken f u k m n hk he hm hn w = ended _ (rw (h, he, hk, hm, hn) refl) w (broken-short k m n)

      pub end_refused : (n : Refusal) (m : ℕ) → e ≡ Refused n → m ≡ refusal_number n → Puts p (line (bytes "end") (decimal m ∷ [])) q → Puts p (ending d) q × (q.len ≤ p.len + 733)
      unfolding end_lines complete_answer
      end_refused n m he hm w = ended _ (rw (h, he, hm) refl) w (refused-short m)

-- ---- R-7: the report is the one before

told-before : (D : Dates) (n : ℕ) (d : List ℕ) (ms : List (List ℕ)) → report_from n d ms ≡ report_from_before D n d ms
unfolding report_from report_from_before ending
told-before D n d [] = let q = as-before-completed D d no_sheet in rw (q.answer, q.sheet)
told-before D n d (m ∷ ms) = ap (λ (r : List ℕ). message_line n (posting_of d m) ++ r) (told-before D (suc n) (posted_to d m) ms)

-- ---- the whole

-- a draft of 465 bytes made fresh
pub fresh-is : (d : List ℕ) (r : Result Unit Refusal) (e : List ℕ) → Freshens d r e → length d ≡ 465 → e ≡ fresh_draft
unfolding posted_all
fresh-is d r e F l = (F.start l).draft

-- a report is never empty
end-some : (a : Answer) (s : List ℕ) → 0 < length (end_lines a s)
unfolding end_lines item
end-some (success vs) s = omega arith
end-some (refusal n vs) s = omega arith

report-some : (n : ℕ) (d : List ℕ) (ms : List (List ℕ)) → 0 < length (report_from n d ms)
unfolding report_from ending
report-some n d [] = end-some (completing program_dates d no_sheet) (completed program_dates d no_sheet)
report-some n d (m ∷ ms) = omega (arith, length-append (message_line n (posting_of d m)) (report_from (suc n) (posted_to d m) ms), report-some (suc n) (posted_to d m) ms)

module _ (i b : List ℕ) where
  fitting : length i ≤ 32768 → 46080 ≤ length b → reported i b ≡ report_of i
  unfolding reported
  fitting h l = simp (le-leb (length i) 32768 h, le-leb 46080 (length b) l)

  fitted : 0 < length (reported i b) → (length i ≤ 32768) × (46080 ≤ length b)
  unfolding reported
  fitted h = go (leb (length i) 32768) (leb 46080 (length b)) refl refl h
    where
      go : (x y : Bool) → leb (length i) 32768 ≡ x → leb 46080 (length b) ≡ y → 0 < length (cond (x && y) (report_of i) []) → (length i ≤ 32768) × (46080 ≤ length b)
      go true true ex ey k = (leb-true (length i) 32768 ex, leb-true 46080 (length b) ey)
      go true false ex ey k = absurd (omega arith)
      go false y ex ey k = absurd (omega arith)

  empty : (t : List ℕ) → length t ≡ 0 → put b 0 t ≡ b
  empty [] h = put-none b
  empty (x ∷ t) h = absurd (omega arith)

  -- the promise of `report`, from its three equations
  reports-by : (r : ℕ) (e : List ℕ) → r ≡ length (reported i b) → e ≡ put b 0 (reported i b) → take r e ≡ reported i b → Reports i b r e
  unfolding report_of report_before
  reports-by r e c p t = record {
    count = c;
    buffer = p;
    text = t;
    refused = λ z. p ∙ empty (reported i b) (sym c ∙ z);
    exactly = (
      λ h. fitted (omega (arith, c)),
      λ h. omega (arith, c, ap length (fitting h.0 h.1), report-some 1 fresh_draft (messages_of i)),
    );
    whole = λ h l. t ∙ fitting h l;
    before = λ D. told-before D 1 fresh_draft (messages_of i);
    numbers = decimal-is;
  }

  nothing : reported i b ≡ [] → Reports i b 0 b
  nothing h = reports-by 0 b (ap length (sym h)) (sym (ap (put b 0) h ∙ put-none b)) (sym h)

  pub report-long : 32768 < length i → Reports i b 0 b
  unfolding reported
  report-long h = nothing (simp (lt-leb (length i) 32768 h))

  pub report-small : length b < 46080 → Reports i b 0 b
  unfolding reported
  report-small h = nothing (simp (lt-leb 46080 (length b) h, and-false (leb (length i) 32768)))

  pub report-whole : (d e : List ℕ) (p x q : Page) → length i ≤ 32768 → 46080 ≤ length b → p.buffer.now ≡ b → p.len ≡ 0 → Told i p d x → Puts x (ending d) q → q.len ≤ length b → e ≡ q.buffer.now → Reports i b q.len e
  report-whole d e p x q h l eb z T w u ee =
      let v : Puts p (T.text ++ ending d) q = puts_then p x q T.text (ending d) T.puts w (omega (arith, ap length eb)) in
      let g : T.text ++ ending d ≡ reported i b = T.rest ∙ sym (fitting h l) in
      let o : Wrote b 0 (reported i b) q.len e = (ee ∙ v.wrote.0 ∙ (λ k. put (eb k) (z k) (g k)), omega (arith, v.wrote.1, z, ap length g)) in
      let n : length (reported i b) ≡ q.len = omega (arith, o.1) in
      reports-by q.len e (sym n) o.0 (ap (take q.len) o.0 ∙ mid-put b 0 (reported i b) q.len n (omega arith))
