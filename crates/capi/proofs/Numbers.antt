-- An answer is read back from its numbers, and what each function for C returned.
use mathlib.Core.Path.{◌≡◌, refl, ap, sym, ◌∙◌}
use mathlib.Core.Bool.{Bool, true, false, cond}
use mathlib.Core.List.{List, [], ◌∷◌}
use Rattle.std.specs.Prelude.{Option, Result, Ok, Err}
use Rattle.texts.specs.Refusals.{refusal_number}
use Prim.Native.Nat.{ℕ, suc, ◌+◌, ◌-◌}
use native.Mathlib.Omega.{arith}
use borrow.Author.Tests.{ltb-true, ltb-false, lt-ltb, le-ltb}
use lib.Dec.{ltb, eqb}
use lib.IntN.{ℤ, pos, negsuc, sub_ℕ}
use lib.ListN.{length, drop}
use lib.Seq.{take_all}
use Rattle.texts.specs.Texts.{between, same}
use Rattle.texts.specs.Answers.{Answer, success, refusal, number_of, Test, test, answer_by}
use Rattle.rules.specs.Rules.{class_of}
use Rattle.sheets.specs.declared.dates.Dates.{Dates}
use Rattle.rules.specs.Verdicts.{class_name, verdict_answer, check_tests, checked}
use Rattle.rules.specs.Checked.{Checked}
use Rattle.rules.specs.declared.class.Class.{Class}
use Rattle.rules.specs.declared.check.Rejection.{Rejection}
use Rattle.rules.specs.declared.class.Class.TheVariants.{A, B, O}
use Rattle.drafts.specs.Revision.{◌by◌}
use Rattle.drafts.specs.Message.{head_size, version_of, message_field, revision_of, message_text, read_tests, readable, read_values, reading_of, read_answer, write_tests, writing_of, write_answer}
use Rattle.drafts.specs.Draft.{begin_tests, beginning_of, begin_answer, word, comparison_of, post_tests, posting_of, post_answer, copy_tests, copying_of, copy_answer}
use Rattle.drafts.specs.Promises.{Reads, Writes, Freshens, Posts, Copies}
use Rattle.drafts.specs.declared.revision.Revision.{Revision}
use Rattle.drafts.specs.declared.message.Heading.{Heading}
use Rattle.drafts.specs.declared.revision.Standing.{Standing}
use Rattle.drafts.specs.declared.revision.Standing.TheVariants.{Newer, Same, Older}
use Rattle.drafts.proofs.Messages.{readable-means, reading-is, text_at, text-length}
use Rattle.orders.specs.Complete.{sheet_tests, complete_tests, completing, completed}
use Rattle.orders.specs.Skipping.{skipped_of, with_skipped, quickening, quick_answer, Quickens}
use Rattle.orders.specs.declared.quick.Quickened.{Quickened}
use Rattle.drafts.specs.Draft.{draft_sheet}
use Rattle.orders.specs.TakeUp.{take_tests, taking, take_answer, TakesUp}
use Rattle.orders.specs.declared.take_up.Untaken.{Untaken}
use Rattle.orders.specs.Pretest.{pretest_answer, pretest_tests, pretesting, Pretests}
use Rattle.orders.specs.declared.pretest.Named.{Named}
use Rattle.amounts.specs.Charge.{charge_tests, charging, charge_answer, Charges}
use Rattle.amounts.specs.declared.amount.Kopecks.{Kopecks}
use Rattle.amounts.specs.Part.{part_tests, parting, part_answer, Parts}
use Rattle.amounts.specs.Shares.{share_tests, sharing, share_answer, Shares}
use Rattle.amounts.specs.declared.part.Portion.{Portion}
use Rattle.registers.specs.Register.{lines_of, total_of}
use Rattle.registers.specs.Pool.{more, less, pool_tests, pooling, pool_answer, Pools}
use Rattle.registers.specs.declared.pool.Unpooled.{Unpooled}
use Rattle.payments.specs.Leave.{leave_tests, leaving, leave_answer, Leaves}
use Rattle.payments.specs.declared.leave.Debited.{Debited}
use Rattle.swift.specs.Promises.{read_tests as line_read_tests, read_answer as lines_read_answer, reading_lines, ReadsLines, line_tests, written_answer as lines_written_answer, writing_lines, WritesLines}
use Rattle.texts.specs.declared.answers.Refusal.{Refusal}
use Rattle.capi.specs.Numbers.{done_number, numbered, number_answer, check_numbers, check_of, read_numbers, read_of, write_numbers, write_of, post_numbers, word_of, post_of, complete_numbers, complete_of, take_numbers, take_of, pretest_numbers, pretest_of, charge_numbers, charge_of, part_numbers, part_of, pool_numbers, pool_of, leave_numbers, leave_of, lines_numbers, lines_from}
use Rattle.capi.specs.Promises.{CheckReturns, ReadReturns, WriteReturns, FreshReturns, PostReturns, CopyReturns, CompleteReturns, TakeUpReturns, PretestReturns, ChargeReturns, PartReturns, SharesReturns, PoolReturns, LeaveReturns, WriteLinesReturns, ReadLinesReturns}
use Rattle.capi.specs.declared.Check.{Check}
use Rattle.capi.specs.declared.Read.{Read}
use Rattle.capi.specs.declared.Write.{Write}
use Rattle.capi.specs.declared.Post.{Post}
use Rattle.capi.specs.declared.Complete.{Complete}
use Rattle.capi.specs.declared.TakeUp.{TakeUp}
use Rattle.capi.specs.declared.Pretest.{Pretest}
use Rattle.capi.specs.declared.Charge.{Charge}
use Rattle.capi.specs.declared.Part.{Part}
use Rattle.capi.specs.declared.Pool.{Pool}
use Rattle.capi.specs.declared.Leave.{Leave}
use Rattle.capi.specs.declared.Lines.{Lines}

-- ---- reading an answer back

-- what a test picks, and what tests answer, has P where each way has it
pick : (P : Answer → Type 0) (b : Bool) {x y : Answer} → P x → P y → P (cond b x y)
pick P true p q = p
pick P false p q = q

abbrev pub Each : (Answer → Type 0) → List Test → Type 0
Each P [] = Unit
Each P (test b n ws ∷ ts) = P (refusal n ws) × Each P ts

pub tested : (P : Answer → Type 0) (ts : List Test) (vs : List ℕ) → P (success vs) → Each P ts → P (answer_by ts vs)
tested P [] vs s q = s
tested P (test b n ws ∷ ts) vs s q = pick P b q.0 (tested P ts vs s q.1)

-- the answer a is what is read in its numbers
abbrev pub Back : {X : Type 0} → (Answer → X) → (X → Answer) → Answer → Type 0
Back num of a = of (num a) ≡ a

read_back : (t m : List ℕ) → Back (read_numbers t) read_of (reading_of m)
unfolding reading_of read_tests read_numbers read_of numbered
read_back t m = tested (Back (read_numbers t) read_of) (read_tests m) _ refl (search depth 12)

write-back : (w f : ℕ) (v : Revision) (t b : List ℕ) → Back write_numbers write_of (writing_of w f v t b)
unfolding writing_of write_tests write_numbers write_of numbered
write-back w f v t b = tested (Back write_numbers write_of) (write_tests w f v t b) _ refl (search depth 12)

fresh-back : (d : List ℕ) → Back number_of number_answer (beginning_of d)
unfolding beginning_of begin_tests number_answer numbered
fresh-back d = tested (Back number_of number_answer) (begin_tests d) _ refl (search depth 12)

copy-back : (d s : List ℕ) → Back number_of number_answer (copying_of d s)
unfolding copying_of copy_tests number_answer numbered
copy-back d s = tested (Back number_of number_answer) (copy_tests d s) _ refl (search depth 12)

word_back : (s : Result Standing Refusal) → Back post_numbers post_of (success (word s))
unfolding post_numbers post_of word_of numbered same
word_back (Ok Newer) = refl
word_back (Ok Same) = refl
word_back (Ok Older) = refl
word_back (Err n) = refl

post-back : (d m : List ℕ) → Back post_numbers post_of (posting_of d m)
unfolding posting_of post_tests read_tests post_numbers post_of numbered
post-back d m = tested (Back post_numbers post_of) (post_tests d m) _ (word_back (comparison_of d m)) (search depth 12)

class_back : (c : Class) → Back check_numbers check_of (success (class_name c))
unfolding check_numbers check_of numbered
class_back A = refl
class_back B = refl
class_back O = refl

check-back : (D : Dates) (s : List ℕ) → Back check_numbers check_of (checked D s)
unfolding checked check_tests check_numbers check_of numbered
check-back D s = tested (Back check_numbers check_of) (check_tests D s) _ (class_back (class_of s)) (search depth 12)

take_back : (D : Dates) (d t : List ℕ) (set : ℕ) → Back take_numbers take_of (taking D d t set)
unfolding taking take_tests take_numbers take_of numbered
take_back D d t set = tested (Back take_numbers take_of) (take_tests D d t set) _ refl (search depth 12)

complete-back : (D : Dates) (d b : List ℕ) → Back complete_numbers complete_of (quickening D d b)
unfolding quickening with_skipped completing complete_tests sheet_tests complete_numbers complete_of numbered
complete-back D d b =
    tested (λ (a : Answer). Back complete_numbers complete_of (with_skipped (skipped_of D (draft_sheet d)) a)) (complete_tests D d b) _ refl (search depth 12)

pretest-back : (D : Dates) (d : List ℕ) → Back pretest_numbers pretest_of (pretesting D d)
unfolding pretesting pretest_tests pretest_numbers pretest_of numbered
pretest-back D d = tested (Back pretest_numbers pretest_of) (pretest_tests D d) _ refl (search depth 12)

charge-back : (a p l g : ℕ) → Back charge_numbers charge_of (charging a p l g)
unfolding charging charge_tests charge_numbers charge_of numbered
charge-back a p l g = tested (Back charge_numbers charge_of) (charge_tests a p l g) _ refl (search depth 12)

part-back : (a d y : ℕ) → Back part_numbers part_of (parting a d y)
unfolding parting part_tests part_numbers part_of numbered
part-back a d y = tested (Back part_numbers part_of) (part_tests a d y) _ refl (search depth 12)

shares-back : (a y : ℕ) (ps : List ℕ) → Back number_of number_answer (sharing a y ps)
unfolding sharing share_tests number_answer numbered
shares-back a y ps = tested (Back number_of number_answer) (share_tests a y ps) _ refl (search depth 12)

-- the signed difference of two numbers, read back as by how much the first is more and by how much less
difference-case : (m n : ℕ) (b : Bool) → ltb (m - n) (n - m) ≡ b → (more (cond b (negsuc (n - m - suc (m - n))) (pos (m - n - (n - m)))) ≡ m - n) × (less (cond b (negsuc (n - m - suc (m - n))) (pos (m - n - (n - m)))) ≡ n - m)
difference-case m n true e = let h = ltb-true (m - n) (n - m) e in (omega (arith, h), omega (arith, h))
difference-case m n false e = let h = ltb-false (m - n) (n - m) e in (omega (arith, h), omega (arith, h))

difference-back : (m n : ℕ) → Back pool_numbers pool_of (refusal 17 ((m - n) ∷ (n - m) ∷ []))
unfolding pool_numbers pool_of numbered
difference-back m n = let q = difference-case m n _ refl in λ i. refusal 17 (q.0 i ∷ q.1 i ∷ [])

-- a signed number is what these two make
pub signed_of : (d : ℤ) → sub_ℕ (more d) (less d) ≡ d
signed_of (pos n) = rw (le-ltb n 0 (omega arith)) (ap pos (omega arith))
signed_of (negsuc n) = rw (lt-ltb 0 (suc n) (omega arith)) (ap negsuc (omega arith))

pool-back : (t : List ℕ) (a : ℕ) (o : List ℕ) → Back pool_numbers pool_of (pooling t a o)
unfolding pooling pool_tests pool_numbers pool_of numbered
pool-back t a o = tested (Back pool_numbers pool_of) (pool_tests t a o) _ refl (refl, (refl, (difference-back (total_of (lines_of t)) a, tt)))

leave-back : (b : ℕ) (ps ns ks : List ℕ) → Back leave_numbers leave_of (leaving b ps ns ks)
unfolding leaving leave_tests leave_numbers leave_of numbered
leave-back b ps ns ks = tested (Back leave_numbers leave_of) (leave_tests b ps ns ks) _ refl (search depth 12)

lines-back : (D : Dates) (s o : List ℕ) → Back lines_numbers lines_from (writing_lines D s o)
unfolding writing_lines line_tests check_tests lines_numbers lines_from numbered
lines-back D s o = tested (Back lines_numbers lines_from) (line_tests D s o) _ refl (search depth 12)

lines-read-back : (b o : List ℕ) → Back number_of number_answer (reading_lines b o)
unfolding reading_lines line_read_tests number_answer numbered
lines-read-back b o = tested (Back number_of number_answer) (line_read_tests b o) _ refl (search depth 12)

-- ---- what each function returned: v is what it called answered; a clause over the answer from what it has there

-- the number of what returns nothing beside success
module _ (num : Result Unit Refusal → Answer) (made : (u : Unit) → num (Ok u) ≡ success []) (refused : (n : Refusal) → num (Err n) ≡ refusal (refusal_number n) []) where
  done-is : (v : Result Unit Refusal) → done_number v ≡ number_of (num v)
  done-is (Ok u) = sym (ap number_of (made u))
  done-is (Err n) = sym (ap number_of (refused n))

-- what was returned holds the numbers of the answer, whichever that is
pub at : {X : Type 0} (num : Answer → X) {r : X} {a b : Answer} → r ≡ num a → a ≡ b → r ≡ num b
at num q e = q ∙ ap num e

module _ (D E : Dates) (z : E ≡ D) (s : List ℕ) (v : Result Class Rejection) (p : Checked E s v) (r : Check) (q : r ≡ check_numbers (verdict_answer v)) where
  check-numbers : r ≡ check_numbers (checked D s)
  check-numbers = cc

  pub checked-is : CheckReturns D s r
  unfolding check_numbers
  checked-is = record {
    numbers = check-numbers;
    answer = ap check_of check-numbers ∙ check-back D s;
    made = λ c. at check_numbers check-numbers;
    broken = λ f n. at check_numbers check-numbers;
    refused = λ n. at check_numbers check-numbers;
  }

module _ (m : List ℕ) (v : Result Heading Refusal) (p : Reads m v) (t : List ℕ) (g : t ≡ message_text m) (r : Read) (q : r ≡ read_numbers t (read_answer v)) where
  numbers-are : r ≡ read_numbers (message_text m) (reading_of m)
  numbers-are = cc

  module _ (h : readable m ≡ true) where
    found-is : r ≡ read_numbers (message_text m) (success (read_values (version_of m) (message_field m) (revision_of m)))
    found-is = numbers-are ∙ ap (read_numbers (message_text m)) (reading-is m (readable-means m h))

    text-is : (r.text ≡ head_size (version_of m)) × (r.length ≡ length (message_text m))
    unfolding read_numbers
    text-is = (ap (λ (x : Read). x.text) found-is, ap (λ (x : Read). x.length) found-is)

    part-is : between m r.text (r.text + r.length) ≡ message_text m
    unfolding between
    part-is =
        let k = text_at m in
        let s = head_size (version_of m) in
        rw (text-is.0, k) (take_all (s + r.length - s) (drop s m) (omega (arith, text-is.1, ap length k)))

    within-is : r.text + r.length ≡ length m
    within-is = omega (arith, text-is, text-length m h)

  pub read_is : ReadReturns m r
  unfolding read_numbers
  read_is = record {
    numbers = numbers-are;
    answer = ap read_of numbers-are ∙ read_back (message_text m) m;
    part = part-is;
    within = within-is;
    made = λ w p f v. at (read_numbers (message_text m)) numbers-are;
    refused = λ n vs. at (read_numbers (message_text m)) numbers-are;
  }

-- the same, where the place of the text was asked of the version, and where a refusal was asked for its number
module _ (m : List ℕ) (v : Result Heading Refusal) (p : Reads m v) (t : List ℕ) (g : t ≡ message_text m) where
  pub read-found : (h : Heading) → v ≡ Ok h → (s : ℕ) → s ≡ head_size h.version.0
      → ReadReturns m (record { number = 0; version = h.version.0; party = h.revision.party.0; field = h.field.0; revision = h.revision.number; text = s; length = length t })
  unfolding read_numbers
  read-found h e s k =
      read_is m v p t g _
      (ap (λ (s : ℕ). record { number = 0; version = h.version.0; party = h.revision.party.0; field = h.field.0; revision = h.revision.number; text = s; length = length t }) k
      ∙ ap (λ (x : Result Heading Refusal). read_numbers t (read_answer x)) (sym e))

  pub read-refused : (n : Refusal) → v ≡ Err n → (k : ℕ) → k ≡ refusal_number n → ReadReturns m (record { number = k; version = 0; party = 0; field = 0; revision = 0; text = 0; length = 0 })
  unfolding read_numbers
  read-refused n e k f =
      read_is m v p t g _
      (ap (λ (k : ℕ). record { number = k; version = 0; party = 0; field = 0; revision = 0; text = 0; length = 0 }) f
      ∙ ap (λ (x : Result Heading Refusal). read_numbers t (read_answer x)) (sym e))

abbrev pub heading : ℕ → ℕ → ℕ → ℕ → Heading
heading w p f n = record { version = record { 0 = w }; field = record { 0 = f }; revision = n by p }

module _ (w p f n : ℕ) (t b : List ℕ) (v : Result ℕ Refusal) (x : List ℕ) (P : Writes (heading w p f n) t b v x) (r : Write) (q : r ≡ write_numbers (write_answer v)) where
  write-numbers : r ≡ write_numbers (writing_of w f (n by p) t b)
  write-numbers = cc

  pub written_is : WriteReturns w p f n t b r x
  unfolding write_numbers
  written_is = record {
    numbers = write-numbers;
    answer = ap write_of write-numbers ∙ write-back w f (n by p) t b;
    buffer = P.buffer;
    made = λ k. at write_numbers write-numbers;
    refused = λ k vs. at write_numbers write-numbers;
  }

module _ (d : List ℕ) (v : Result Unit Refusal) (x : List ℕ) (p : Freshens d v x) (r : ℕ) (q : r ≡ done_number v) where
  fresh-number : r ≡ number_of (beginning_of d)
  fresh-number = q ∙ done-is begin_answer (λ u. refl) (λ n. refl) v ∙ ap number_of p.answer

  pub fresh-is : FreshReturns d r x
  fresh-is = record {
    numbers = fresh-number;
    answer = ap number_answer fresh-number ∙ fresh-back d;
    draft = p.draft;
    made = λ vs. at number_of fresh-number;
    refused = λ n vs. at number_of fresh-number;
  }

module _ (d m : List ℕ) (v : Result Standing Refusal) (x : List ℕ) (p : Posts d m v x) (r : Post) (q : r ≡ post_numbers (post_answer v)) where
  post-numbers : r ≡ post_numbers (posting_of d m)
  post-numbers = cc

  pub posted-is : PostReturns d m r x
  unfolding post_numbers
  posted-is = record {
    numbers = post-numbers;
    answer = ap post_of post-numbers ∙ post-back d m;
    draft = p.draft;
    newer = at post_numbers post-numbers;
    same = at post_numbers post-numbers;
    older = at post_numbers post-numbers;
    refused = λ n vs. at post_numbers post-numbers;
  }

module _ (d s : List ℕ) (v : Result Unit Refusal) (x : List ℕ) (p : Copies d s v x) (r : ℕ) (q : r ≡ done_number v) where
  copy-number : r ≡ number_of (copying_of d s)
  copy-number = q ∙ done-is copy_answer (λ u. refl) (λ n. refl) v ∙ ap number_of p.answer

  pub copied_is : CopyReturns d s r x
  copied_is = record {
    numbers = copy-number;
    answer = ap number_answer copy-number ∙ copy-back d s;
    sheet = p.sheet;
    made = λ vs. at number_of copy-number;
    refused = λ n vs. at number_of copy-number;
  }

module _ (d t : List ℕ) (set : ℕ) (v : Result Unit Untaken) (x : List ℕ) (p : (D : Dates) → TakesUp D d t set v x) (r : TakeUp) (q : r ≡ take_numbers (take_answer v)) where
  take-numbers : (D : Dates) → r ≡ take_numbers (taking D d t set)
  take-numbers D = cc (p D).answer

  pub taken_is : (D : Dates) → TakeUpReturns D d t set r x
  unfolding take_numbers
  taken_is D = record {
    numbers = take-numbers D;
    answer = ap take_of (take-numbers D) ∙ take_back D d t set;
    draft = (p D).draft;
    made = λ vs. at take_numbers (take-numbers D);
    unfit = λ f. at take_numbers (take-numbers D);
    refused = λ n. at take_numbers (take-numbers D);
  }

abbrev pub no_complete : ℕ → Complete
no_complete n = record { number = n; field = 0; rule = 0; set = 0; ones = 0; count = 0; skipped = 0 }

pub nothing-beside : (n : ℕ) → complete_numbers (refusal n []) ≡ no_complete n
unfolding complete_numbers
nothing-beside n = go (eqb n 8)
  where
    go : (c : Bool) → cond c (no_complete n) (no_complete n) ≡ no_complete n
    go true = refl
    go false = refl

module _ (D E : Dates) (z : E ≡ D) (d b : List ℕ) (v : Quickened) (x : List ℕ) (p : Quickens E d b v x) (r : Complete) (q : r ≡ complete_numbers (quick_answer v)) where
  numbers-complete : r ≡ complete_numbers (quickening D d b)
  numbers-complete = q ∙ ap complete_numbers p.answer ∙ ap (λ (F : Dates). complete_numbers (quickening F d b)) z

  pub completed-is : CompleteReturns D d b r x
  unfolding complete_numbers
  completed-is = record {
    numbers = numbers-complete;
    answer = ap complete_of numbers-complete ∙ complete-back D d b;
    sheet = p.completes.sheet ∙ ap (λ (F : Dates). completed F d b) z;
    made = λ c set k j. at complete_numbers numbers-complete;
    broken = λ f n. at complete_numbers numbers-complete;
    impossible = λ c j. at complete_numbers numbers-complete;
    refused = λ n e. at complete_numbers numbers-complete e ∙ nothing-beside n;
  }

module _ (d : List ℕ) (v : Result (Option Named) Rejection) (p : (D : Dates) → Pretests D d v) (r : Pretest) (q : r ≡ pretest_numbers (pretest_answer v)) where
  pretest-numbers : (D : Dates) → r ≡ pretest_numbers (pretesting D d)
  pretest-numbers D = cc (p D).answer

  pub pretested-is : (D : Dates) → PretestReturns D d r
  unfolding pretest_numbers
  pretested-is D = record {
    numbers = pretest-numbers D;
    answer = ap pretest_of (pretest-numbers D) ∙ pretest-back D d;
    made = λ f n. at pretest_numbers (pretest-numbers D);
    broken = λ f n. at pretest_numbers (pretest-numbers D);
    refused = λ n. at pretest_numbers (pretest-numbers D);
  }

module _ (a p l g : ℕ) (v : Result Kopecks Refusal) (w : Charges a p l g v) (r : Charge) (q : r ≡ charge_numbers (charge_answer v)) where
  charge-numbers : r ≡ charge_numbers (charging a p l g)
  charge-numbers = cc

  pub charged-is : ChargeReturns a p l g r
  unfolding charge_numbers
  charged-is = record {
    numbers = charge-numbers;
    answer = ap charge_of charge-numbers ∙ charge-back a p l g;
    made = λ c. at charge_numbers charge-numbers;
    refused = λ n vs. at charge_numbers charge-numbers;
  }

module _ (a d y : ℕ) (v : Result Portion Refusal) (w : Parts a d y v) (r : Part) (q : r ≡ part_numbers (part_answer v)) where
  part-numbers : r ≡ part_numbers (parting a d y)
  part-numbers = cc

  pub parted-is : PartReturns a d y r
  unfolding part_numbers
  parted-is = record {
    numbers = part-numbers;
    answer = ap part_of part-numbers ∙ part-back a d y;
    made = λ c m. at part_numbers part-numbers;
    refused = λ n vs. at part_numbers part-numbers;
  }

module _ (a y : ℕ) (ps b : List ℕ) (v : Result Unit Refusal) (x : List ℕ) (w : Shares a y ps b v x) (r : ℕ) (q : r ≡ done_number v) where
  shares-number : r ≡ number_of (sharing a y ps)
  unfolding share_answer
  shares-number = q ∙ done-is share_answer (λ u. refl) (λ n. refl) v ∙ ap number_of w.answer

  pub shared-is : SharesReturns a y ps b r x
  shared-is = record {
    numbers = shares-number;
    answer = ap number_answer shares-number ∙ shares-back a y ps;
    places = w.places;
    made = λ vs. at number_of shares-number;
    refused = λ n vs. at number_of shares-number;
  }

abbrev pub differing : ℤ → Pool
differing d = record { number = 17; lines = 0; difference = d }

module _ (t : List ℕ) (a : ℕ) (o : List ℕ) (v : Result ℕ Unpooled) (x : List ℕ) (w : Pools t a o v x) (r : Pool) (q : r ≡ pool_numbers (pool_answer v)) where
  pool-numbers : r ≡ pool_numbers (pooling t a o)
  pool-numbers = cc

  pub pooled-is : PoolReturns t a o r x
  unfolding pool_numbers
  pooled-is = record {
    numbers = pool-numbers;
    answer = ap pool_of pool-numbers ∙ pool-back t a o;
    output = w.output;
    made = λ n. at pool_numbers pool-numbers;
    more = λ n e. at pool_numbers pool-numbers e ∙ ap differing (signed_of (pos n));
    less = λ n e. at pool_numbers pool-numbers e ∙ ap differing (signed_of (negsuc n));
    refused = λ n. at pool_numbers pool-numbers;
  }

module _ (b : ℕ) (ps ns ks o : List ℕ) (v : Result Debited Refusal) (x : List ℕ) (w : Leaves b ps ns ks o v x) (r : Leave) (q : r ≡ leave_numbers (leave_answer v)) where
  leave-numbers : r ≡ leave_numbers (leaving b ps ns ks)
  leave-numbers = cc

  pub left_is : LeaveReturns b ps ns ks o r x
  unfolding leave_numbers
  left_is = record {
    numbers = leave-numbers;
    answer = ap leave_of leave-numbers ∙ leave-back b ps ns ks;
    places = w.places;
    made = λ n s l. at leave_numbers leave-numbers;
    refused = λ n vs. at leave_numbers leave-numbers;
  }

module _ (D E : Dates) (z : E ≡ D) (s o : List ℕ) (v : Result ℕ Rejection) (x : List ℕ) (w : WritesLines E s o v x) (r : Lines) (q : r ≡ lines_numbers (lines_written_answer v)) where
  lines-numbers : r ≡ lines_numbers (writing_lines D s o)
  lines-numbers = cc

  pub lines-written-is : WriteLinesReturns D s o r x
  unfolding lines_numbers
  lines-written-is = record {
    numbers = lines-numbers;
    answer = ap lines_from lines-numbers ∙ lines-back D s o;
    buffer = cc w.buffer;
    made = λ n. at lines_numbers lines-numbers;
    broken = λ f n. at lines_numbers lines-numbers;
    refused = λ n. at lines_numbers lines-numbers;
  }

module _ (b o : List ℕ) (v : Result Unit Refusal) (x : List ℕ) (w : ReadsLines b o v x) (r : ℕ) (q : r ≡ done_number v) where
  lines-number : r ≡ number_of (reading_lines b o)
  unfolding lines_read_answer
  lines-number = q ∙ done-is lines_read_answer (λ u. refl) (λ n. refl) v ∙ ap number_of w.answer

  pub lines-read-is : ReadLinesReturns b o r x
  lines-read-is = record {
    numbers = lines-number;
    answer = ap number_answer lines-number ∙ lines-read-back b o;
    sheet = w.sheet;
    made = λ vs. at number_of lines-number;
    refused = λ n vs. at number_of lines-number;
  }
