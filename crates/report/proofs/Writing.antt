-- The lines of the messages and of the fields: what they are of, and how long.
use mathlib.Core.Path.{◌≡◌, sym, ap, ◌∙◌}
use mathlib.Core.Bool.{Bool, true, false, cond}
use mathlib.Core.List.{List, [], ◌∷◌, ◌++◌, append_assoc, append-nil}
use Prim.Native.Nat.{ℕ, zero, suc, ◌+◌, ◌<◌, ◌≤◌}
use native.Mathlib.Numerals.{add-one}
use native.Mathlib.Omega.{arith}
use lib.ListN.{length, get_or, take, length-append}
use lib.Seq.{take_all}
use Rattle.texts.specs.Quoted.{Text, bytes}
use Rattle.texts.specs.Texts.{blank}
use Rattle.sheets.specs.Sheet.{slots, field_in, text_of}
use Rattle.sheets.proofs.Frames.{text-short}
use Rattle.fillings.proofs.EveryFilling.{at_slots}
use Rattle.report.specs.declared.lines.Page.{Page}
use Rattle.report.specs.Lines.{decimal, item, line}
use Rattle.texts.specs.Answers.{Answer}
use Rattle.report.specs.Report.{shown, message_line, field_line, field_lines}
use Rattle.report.specs.Working.Page.{Puts}
use Rattle.report.proofs.Decimals.{decimal-within, decimal-short}
use Rattle.report.proofs.Pages.{puts_as, puts_then, puts_none}

pub item-length : (t : Text) (b : ℕ) → length (item t b) ≡ length t + 1
unfolding item
item-length t b = length-append t (b ∷ [])

pub line-length : (t u : Text) (us : List Text) → length (line t (u ∷ us)) ≡ length t + 1 + length (line u us)
line-length t u us = omega (arith, length-append (item t 32) (line u us), item-length t 32)

pub two-length : (t u : Text) → length (line t (u ∷ [])) ≡ length t + length u + 2
two-length t u = omega (arith, line-length t u [], item-length u 10)

pub three-length : (t u v : Text) → length (line t (u ∷ v ∷ [])) ≡ length t + length u + length v + 3
three-length t u v = omega (arith, line-length t u (v ∷ []), two-length u v)

pub four-length : (t u v w : Text) → length (line t (u ∷ v ∷ w ∷ [])) ≡ length t + length u + length v + length w + 4
four-length t u v w = omega (arith, line-length t u (v ∷ w ∷ []), three-length u v w)

-- ---- a field's line

either-short : (b : Bool) (t u : Text) (n : ℕ) → length t ≤ n → length u ≤ n → length (cond b t u) ≤ n
either-short true t u n h l = h
either-short false t u n h l = l

module _ (s t : List ℕ) (k m n : ℕ) (fm : m ≡ field_in k) (fn : n ≡ m) (e : t ≡ cond (blank (text_of s k)) (bytes "-") (text_of s k)) where
  pub field-short : length (line (decimal n) (t ∷ [])) ≤ 47
  field-short =
      omega (arith, two-length (decimal n) t, decimal-within n, ap length e, either-short (blank (text_of s k)) (bytes "-") (text_of s k) 25 (omega arith) (text-short s k))

  pub field_put : (p q : Page) → Puts p (line (decimal n) (t ∷ [])) q → Puts p (field_line s k) q × (q.len ≤ p.len + 47)
  unfolding field_line
  field_put p q w = (rw (← e, ← fm, ← fn) w, omega (arith, w.wrote.1, field-short))

-- the lines of the first slots, and of one more
fields_more : (s ks : List ℕ) (i : ℕ) → i < length ks → field_lines s (take (suc i) ks) ≡ field_lines s (take i ks) ++ field_line s (get_or ks i 0)
unfolding field_lines
fields_more s [] i h = absurd (omega arith)
fields_more s (k ∷ ks) zero h = append-nil (field_line s k)
fields_more s (k ∷ ks) (suc i) h =
    ap (λ (t : Text). field_line s k ++ t) (fields_more s ks i (omega arith)) ∙ sym (append_assoc (field_line s k) (field_lines s (take i ks)) (field_line s (get_or ks i 0)))

module _ (s : List ℕ) (p q : Page) where
  pub fields_none : p.len ≤ length p.buffer.now → Puts p (field_lines s (take 0 slots)) p
  unfolding field_lines
  fields_none h = puts_none p h

  module _ (k : ℕ) (w : Puts p (field_lines s (take k slots)) q) where
    pub fields_next : (r : Page) → k < 15 → Puts q (field_line s k) r → r.len ≤ length p.buffer.now → Puts p (field_lines s (take (k + 1) slots)) r
    fields_next r h v u =
        let e : field_lines s (take (k + 1) slots) ≡ field_lines s (take k slots) ++ field_line s k =
        rw add-one (fields_more s slots k h ∙ ap (λ (j : ℕ). field_lines s (take k slots) ++ field_line s j) (at_slots (λ (j : ℕ). j) 0 k h)) in
        puts_as p r _ _ (sym e) (puts_then p q r (field_lines s (take k slots)) (field_line s k) w v u)

    pub fields_done : 15 ≤ k → Puts p (field_lines s slots) q
    fields_done h = puts_as p q _ _ (ap (field_lines s) (take_all k slots h)) w

-- ---- a message's line

module _ (n : ℕ) (t : Text) (h : n < 10000) (l : length t ≤ 5) where
  pub message-short : length (line (decimal n) (t ∷ [])) ≤ 11
  message-short = omega (arith, two-length (decimal n) t, decimal-short n h)

  pub message_put : (a : Answer) → t ≡ shown a → (p q : Page) → Puts p (line (decimal n) (t ∷ [])) q → Puts p (message_line n a) q × (q.len ≤ p.len + 11)
  unfolding message_line
  message_put a e p q w = (rw (← e) w, omega (arith, w.wrote.1, message-short))
