-- The lines of the messages: what is told so far, and what is left of the report.
use mathlib.Core.Path.{◌≡◌, refl, sym, ap, ◌∙◌}
use mathlib.Core.Bool.{Bool, true, false, cond, false≢true}
use mathlib.Core.List.{List, [], ◌∷◌, ◌++◌, append_assoc}
use Prim.Native.Nat.{ℕ, zero, suc, ◌+◌, ◌*◌, ◌^◌, ◌<◌, ◌≤◌}
use native.Mathlib.Decide.{ℕ_discrete}
use native.Mathlib.Omega.{arith}
use lib.Dec.{eqb}
use lib.ListN.{length, drop, length-take, length-drop}
use Rattle.texts.specs.Quoted.{Text}
use Rattle.texts.specs.Answers.{Answer, refusal, number_of}
use Rattle.texts.proofs.Bools.{cases}
use Rattle.drafts.specs.Message.{length_of, misframed, read_tests, reading_of}
use Rattle.drafts.proofs.Messages.{frame-means}
use Rattle.drafts.specs.Draft.{fresh_draft, post_answer}
use Rattle.drafts.specs.Promises.{Posts}
use Rattle.drafts.specs.declared.revision.Standing.{Standing}
use Rattle.texts.specs.declared.answers.Refusal.{Refusal}
use Rattle.std.specs.Prelude.{Result}
use Rattle.orders.specs.Stream.{piece_of, ends_stream, messages_of}
use Rattle.orders.proofs.Streaming.{messages-none, messages-next}
use Rattle.report.specs.declared.lines.Page.{Page}
use Rattle.report.specs.Report.{message_line, report_from, report_of}
use Rattle.report.specs.Working.Page.{Puts}
use Rattle.report.specs.Working.Told.{Told}
use Rattle.report.proofs.Pages.{puts_as, puts_none, puts_then, puts-length}

-- ---- how many messages there are

-- one that does not end the stream has eight bytes at least
sized : (a : Bool) (r : Answer) → eqb (number_of (cond a (refusal 2 []) r)) 2 ≡ false → a ≡ false
sized true r e = absurd (false≢true (sym e))
sized false r e = refl

long : (m : List ℕ) → ends_stream m ≡ false → 8 ≤ length m
unfolding ends_stream reading_of read_tests
long m e = omega (arith, frame-means m (sized (misframed m) _ e))

few-in : (n : ℕ) (i : List ℕ) → length i ≤ n → 8 * length (messages_of i) ≤ length i + 7
unfolding piece_of
few-in zero i h = omega (arith, ap length (messages-none i (omega arith)))
few-in (suc n) i h =
    elim (ℕ_discrete (length i) 0) [
      | yes e ↦ omega (arith, ap length (messages-none i e))
      | no q ↦
          let m = piece_of i in
          let l : length m ≤ length i = omega (arith, length-take (length_of i + 2) i) in
          let rest = messages_of (drop (length m) i) in
          let next : (z : Bool) → ends_stream m ≡ z → length (messages_of i) ≡ length (m ∷ cond z [] rest) =
          λ z e. ap length (messages-next i (omega arith) ∙ ap (λ (x : Bool). m ∷ cond x [] rest) e) in
          cases (ends_stream m)
          (λ t. omega (arith, next true t))
          (λ f. omega (arith, next false f, long m f, length-drop (length m) i, few-in n (drop (length m) i) (omega (arith, long m f, length-drop (length m) i))))
    ]

few : (i : List ℕ) → 8 * length (messages_of i) ≤ length i + 7
few i = few-in (length i) i (omega arith)

-- ---- the lines

-- the number of the message behind k others
abbrev pub number : ℕ → ℕ
number k = k + 1

-- k messages of i are told on the page p, which left it as q; the draft that they leave is d, and the others are left
pub record Telling (i : List ℕ) (p : Page) (k : ℕ) (left : List (List ℕ)) (d : List ℕ) (q : Page) : Type 0 where
  pub text : Text
  pub puts : Puts p text q
  pub rest : text ++ report_from (number k) d left ≡ report_of i
  pub short : q.len ≤ p.len + 11 * k
  pub count : k + length left ≡ length (messages_of i)

module _ (i : List ℕ) (p : Page) (il : length i ≤ 32768) (bl : 46080 ≤ length p.buffer.now) (pl : p.len ≡ 0) where
  pub telling-none : (k : ℕ) (left : List (List ℕ)) (d : List ℕ) → k ≡ 0 → left ≡ messages_of i → d ≡ fresh_draft → Telling i p k left d p
  unfolding report_of
  telling-none k left d ek el ed = record {
    text = [];
    puts = puts_none p (omega arith);
    rest = rw (ek, el, ed) refl;
    short = omega arith;
    count = omega (arith, ap length el);
  }

  module _ (k : ℕ) (left : List (List ℕ)) (d : List ℕ) (q : Page) (T : Telling i p k left d q) where
    -- the numbers that a chain counts fit, and the lines fit the buffer
    pub telling-fits : k + length left < 2 ^ 64
    telling-fits = omega (arith, few i, T.count)

    pub telling-done : left ≡ [] → Told i p d q
    unfolding report_from
    telling-done e = record {
      text = T.text;
      puts = T.puts;
      rest = ap (λ (ms : List (List ℕ)). T.text ++ report_from (number k) d ms) (sym e) ∙ T.rest;
      short = omega (arith, few i, T.count, T.short);
    }

    module _ (m : List ℕ) (after : List (List ℕ)) (e : left ≡ m ∷ after) where
      pub telling-number : number k < 10000
      telling-number = omega (arith, few i, T.count, ap length e)

      pub telling-room : q.len + 11 ≤ length q.buffer.now
      telling-room =
          let s = puts-length p q T.text T.puts (omega (arith, few i, T.count, T.short, ap length e)) in
          omega (arith, few i, T.count, T.short, ap length e)

      pub telling-next : (j n : ℕ) (r : Result Standing Refusal) (d' : List ℕ) (x : Page) → j ≡ k → n ≡ k + 1 → Posts d m r d' → Puts q (message_line (number j) (post_answer r)) x → x.len ≤ q.len + 11 → Telling i p n after d' x
      unfolding report_from
      telling-next j n r d' x ej en P w u =
          let line = message_line (number k) (post_answer r) in
          let s : number n ≡ suc (number k) = omega arith in
          record {
            text = T.text ++ line;
            puts = puts_then p q x T.text line T.puts (puts_as q x _ line (ap (λ (a : ℕ). message_line (number a) (post_answer r)) ej) w) (omega (arith, few i, T.count, T.short, ap length e));
            rest =
                append_assoc T.text line (report_from (number n) d' after)
                ∙ (λ z. T.text ++ (message_line (number k) (P.answer z) ++ report_from (s z) (P.draft z) after))
                ∙ ap (λ (ms : List (List ℕ)). T.text ++ report_from (number k) d ms) (sym e)
                ∙ T.rest;
            short = omega (arith, T.short);
            count = omega (arith, T.count, ap length e);
          }
