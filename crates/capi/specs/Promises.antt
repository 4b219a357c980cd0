-- What the contracts for C promise. In each, by `answer` a caller reads document 01's answer in what was returned; the clauses from `made`
-- on say for each answer what every field holds, 0 where no value belongs to it.
use Rattle.std.specs.Prelude.{◌≡◌, true, List, [], ◌∷◌, ℕ, suc, ◌+◌, pos, negsuc, length}
use Rattle.texts.specs.Quoted.{bytes}
use Rattle.texts.specs.Texts.{between}
use Rattle.texts.specs.Answers.{success, refusal, number_of}
use Rattle.sheets.specs.declared.dates.Dates.{Dates}
use Rattle.rules.specs.Verdicts.{checked}
use Rattle.drafts.specs.Revision.{◌by◌}
use Rattle.drafts.specs.Message.{head_size, message_text, readable, reading_of, writing_of, written_of}
use Rattle.drafts.specs.Draft.{beginning_of, begun_from, posting_of, posted_to, copying_of, copied_to}
use Rattle.orders.specs.Complete.{completed}
use Rattle.orders.specs.Skipping.{quickening}
use Rattle.orders.specs.TakeUp.{taking, taken_into}
use Rattle.orders.specs.Pretest.{pretesting}
use Rattle.amounts.specs.Charge.{charging}
use Rattle.amounts.specs.Part.{parting}
use Rattle.amounts.specs.Shares.{sharing, shared_to}
use Rattle.registers.specs.Pool.{pooling, pooled_to}
use Rattle.payments.specs.Leave.{leaving, left_in}
use Rattle.swift.specs.Promises.{reading_lines, sheet_read, writing_lines, lines_into}
use Rattle.capi.specs.Numbers.{number_answer, check_numbers, check_of, read_numbers, read_of, write_numbers, write_of, post_numbers, post_of, complete_numbers, complete_of, take_numbers, take_of, pretest_numbers, pretest_of, charge_numbers, charge_of, part_numbers, part_of, pool_numbers, pool_of, leave_numbers, leave_of, lines_numbers, lines_from}
use Rattle.capi.specs.declared.Check.{Check}
use Rattle.capi.specs.declared.Read.{Read}
use Rattle.capi.specs.declared.Write.{Write}
use Rattle.capi.specs.declared.Post.{Post}
use Rattle.capi.specs.declared.Complete.{Complete}
use Rattle.capi.specs.declared.TakeUp.{TakeUp}
use Rattle.capi.specs.declared.Pretest.{Pretest}
use Rattle.capi.specs.declared.Charge.{Charge}
use Rattle.capi.specs.declared.Part.{Part}
use Rattle.capi.specs.declared.Pool.{Pool}
use Rattle.capi.specs.declared.Leave.{Leave}
use Rattle.capi.specs.declared.Lines.{Lines}

-- checking the sheet s at the dates D returned r
pub record CheckReturns (D : Dates) (s : List ℕ) (r : Check) : Type 0 where
  pub numbers : r ≡ check_numbers (checked D s)
  pub answer : check_of r ≡ checked D s
  pub made : (c : ℕ) → checked D s ≡ success (c ∷ []) → r ≡ record { number = 0; field = 0; rule = 0; class = c }
  pub broken : (f n : ℕ) → checked D s ≡ refusal 8 (f ∷ n ∷ []) → r ≡ record { number = 8; field = f; rule = n; class = 0 }
  pub refused : (n : ℕ) → checked D s ≡ refusal n [] → r ≡ record { number = n; field = 0; rule = 0; class = 0 }

-- reading the message m returned r
pub record ReadReturns (m : List ℕ) (r : Read) : Type 0 where
  pub numbers : r ≡ read_numbers (message_text m) (reading_of m)
  pub answer : read_of r ≡ reading_of m
  -- "the text, as a part of the caller's message": `length` bytes from place `text` on, up to the message's end
  pub part : readable m ≡ true → between m r.text (r.text + r.length) ≡ message_text m
  pub within : readable m ≡ true → r.text + r.length ≡ length m
  pub made :
      (w p f v : ℕ)
      → reading_of m ≡ success (w ∷ p ∷ f ∷ v ∷ [])
      → r ≡ record { number = 0; version = w; party = p; field = f; revision = v; text = head_size w; length = length (message_text m) }
  pub refused : (n : ℕ) (vs : List ℕ) → reading_of m ≡ refusal n vs → r ≡ record { number = n; version = 0; party = 0; field = 0; revision = 0; text = 0; length = 0 }

-- writing the version w, the party p, the field f, the revision v and the text t to the buffer b returned r and left e
pub record WriteReturns (w p f v : ℕ) (t b : List ℕ) (r : Write) (e : List ℕ) : Type 0 where
  pub numbers : r ≡ write_numbers (writing_of w f (v by p) t b)
  pub answer : write_of r ≡ writing_of w f (v by p) t b
  pub buffer : e ≡ written_of w f (v by p) t b
  pub made : (n : ℕ) → writing_of w f (v by p) t b ≡ success (n ∷ []) → r ≡ record { number = 0; length = n }
  pub refused : (n : ℕ) (vs : List ℕ) → writing_of w f (v by p) t b ≡ refusal n vs → r ≡ record { number = n; length = 0 }

-- making d fresh returned the number r and left e
pub record FreshReturns (d : List ℕ) (r : ℕ) (e : List ℕ) : Type 0 where
  pub numbers : r ≡ number_of (beginning_of d)
  pub answer : number_answer r ≡ beginning_of d
  pub draft : e ≡ begun_from d
  pub made : (vs : List ℕ) → beginning_of d ≡ success vs → r ≡ 0
  pub refused : (n : ℕ) (vs : List ℕ) → beginning_of d ≡ refusal n vs → r ≡ n

-- posting m to d returned r and left e
pub record PostReturns (d m : List ℕ) (r : Post) (e : List ℕ) : Type 0 where
  pub numbers : r ≡ post_numbers (posting_of d m)
  pub answer : post_of r ≡ posting_of d m
  pub draft : e ≡ posted_to d m
  -- the letters n, s, o
  pub newer : posting_of d m ≡ success (bytes "newer") → r ≡ record { number = 0; standing = 110 }
  pub same : posting_of d m ≡ success (bytes "same") → r ≡ record { number = 0; standing = 115 }
  pub older : posting_of d m ≡ success (bytes "older") → r ≡ record { number = 0; standing = 111 }
  pub refused : (n : ℕ) (vs : List ℕ) → posting_of d m ≡ refusal n vs → r ≡ record { number = n; standing = 0 }

-- copying d to the buffer s returned the number r and left e
pub record CopyReturns (d s : List ℕ) (r : ℕ) (e : List ℕ) : Type 0 where
  pub numbers : r ≡ number_of (copying_of d s)
  pub answer : number_answer r ≡ copying_of d s
  pub sheet : e ≡ copied_to d s
  pub made : (vs : List ℕ) → copying_of d s ≡ success vs → r ≡ 0
  pub refused : (n : ℕ) (vs : List ℕ) → copying_of d s ≡ refusal n vs → r ≡ n

-- completing d into the buffer b returned r, with the number of skipped statuses, and left e
pub record CompleteReturns (D : Dates) (d b : List ℕ) (r : Complete) (e : List ℕ) : Type 0 where
  pub numbers : r ≡ complete_numbers (quickening D d b)
  pub answer : complete_of r ≡ quickening D d b
  pub sheet : e ≡ completed D d b
  pub made :
      (c set k j : ℕ)
      → quickening D d b ≡ success (c ∷ set ∷ k ∷ j ∷ [])
      → r ≡ record { number = 0; field = 0; rule = 0; set = set; ones = k; count = c; skipped = j }
  pub broken :
      (f n : ℕ)
      → quickening D d b ≡ refusal 8 (f ∷ n ∷ [])
      → r ≡ record { number = 8; field = f; rule = n; set = 0; ones = 0; count = 0; skipped = 0 }
  pub impossible :
      (c j : ℕ)
      → quickening D d b ≡ refusal 10 (c ∷ j ∷ [])
      → r ≡ record { number = 10; field = 0; rule = 0; set = 0; ones = 0; count = c; skipped = j }
  pub refused : (n : ℕ) → quickening D d b ≡ refusal n [] → r ≡ record { number = n; field = 0; rule = 0; set = 0; ones = 0; count = 0; skipped = 0 }

-- taking up the values that the sheet t has for the slots of a set, into the draft d, returned r and left e
pub record TakeUpReturns (D : Dates) (d t : List ℕ) (set : ℕ) (r : TakeUp) (e : List ℕ) : Type 0 where
  pub numbers : r ≡ take_numbers (taking D d t set)
  pub answer : take_of r ≡ taking D d t set
  pub draft : e ≡ taken_into D d t set
  pub made : (vs : List ℕ) → taking D d t set ≡ success vs → r ≡ record { number = 0; field = 0 }
  pub unfit : (f : ℕ) → taking D d t set ≡ refusal 20 (f ∷ []) → r ≡ record { number = 20; field = f }
  pub refused : (n : ℕ) → taking D d t set ≡ refusal n [] → r ≡ record { number = n; field = 0 }

-- testing the draft d ahead of completion returned r
pub record PretestReturns (D : Dates) (d : List ℕ) (r : Pretest) : Type 0 where
  pub numbers : r ≡ pretest_numbers (pretesting D d)
  pub answer : pretest_of r ≡ pretesting D d
  -- a rule that all fillings break, or 0 and 0
  pub made : (f n : ℕ) → pretesting D d ≡ success (f ∷ n ∷ []) → r ≡ record { number = 0; field = f; rule = n }
  pub broken : (f n : ℕ) → pretesting D d ≡ refusal 8 (f ∷ n ∷ []) → r ≡ record { number = 8; field = f; rule = n }
  pub refused : (n : ℕ) → pretesting D d ≡ refusal n [] → r ≡ record { number = n; field = 0; rule = 0 }

-- the charge for an amount a by the rate p, at least l and at most g, returned r
pub record ChargeReturns (a p l g : ℕ) (r : Charge) : Type 0 where
  pub numbers : r ≡ charge_numbers (charging a p l g)
  pub answer : charge_of r ≡ charging a p l g
  pub made : (k : ℕ) → charging a p l g ≡ success (k ∷ []) → r ≡ record { number = 0; kopecks = k }
  pub refused : (n : ℕ) (vs : List ℕ) → charging a p l g ≡ refusal n vs → r ≡ record { number = n; kopecks = 0 }

-- the part of an amount a for d days of a year of y returned r
pub record PartReturns (a d y : ℕ) (r : Part) : Type 0 where
  pub numbers : r ≡ part_numbers (parting a d y)
  pub answer : part_of r ≡ parting a d y
  pub made : (k m : ℕ) → parting a d y ≡ success (k ∷ m ∷ []) → r ≡ record { number = 0; remainder = m; kopecks = k }
  pub refused : (n : ℕ) (vs : List ℕ) → parting a d y ≡ refusal n vs → r ≡ record { number = n; remainder = 0; kopecks = 0 }

-- sharing an amount a of a year of y days among the periods ps, in the places b, returned the number r and left e
pub record SharesReturns (a y : ℕ) (ps b : List ℕ) (r : ℕ) (e : List ℕ) : Type 0 where
  pub numbers : r ≡ number_of (sharing a y ps)
  pub answer : number_answer r ≡ sharing a y ps
  pub places : e ≡ shared_to a y ps b
  pub made : (vs : List ℕ) → sharing a y ps ≡ success vs → r ≡ 0
  pub refused : (n : ℕ) (vs : List ℕ) → sharing a y ps ≡ refusal n vs → r ≡ n

-- pooling the register t for an order of the amount a, to the output o, returned r and left e
pub record PoolReturns (t : List ℕ) (a : ℕ) (o : List ℕ) (r : Pool) (e : List ℕ) : Type 0 where
  pub numbers : r ≡ pool_numbers (pooling t a o)
  pub answer : pool_of r ≡ pooling t a o
  pub output : e ≡ pooled_to t a o
  pub made : (n : ℕ) → pooling t a o ≡ success (n ∷ []) → r ≡ record { number = 0; lines = n; difference = pos 0 }
  -- register minus order: n where the register has n more, -(n + 1) where it has n + 1 less
  pub more : (n : ℕ) → pooling t a o ≡ refusal 17 (n ∷ 0 ∷ []) → r ≡ record { number = 17; lines = 0; difference = pos n }
  pub less : (n : ℕ) → pooling t a o ≡ refusal 17 (0 ∷ suc n ∷ []) → r ≡ record { number = 17; lines = 0; difference = negsuc n }
  pub refused : (n : ℕ) → pooling t a o ≡ refusal n [] → r ≡ record { number = n; lines = 0; difference = pos 0 }

-- asking which payments leave of the balance b, by their priorities, arrival numbers and kopecks, in the places o, returned r and left e
pub record LeaveReturns (b : ℕ) (ps ns ks o : List ℕ) (r : Leave) (e : List ℕ) : Type 0 where
  pub numbers : r ≡ leave_numbers (leaving b ps ns ks)
  pub answer : leave_of r ≡ leaving b ps ns ks
  pub places : e ≡ left_in b ps ns ks o
  pub made : (n s l : ℕ) → leaving b ps ns ks ≡ success (n ∷ s ∷ l ∷ []) → r ≡ record { number = 0; paid = n; sum = s; left = l }
  pub refused : (n : ℕ) (vs : List ℕ) → leaving b ps ns ks ≡ refusal n vs → r ≡ record { number = n; paid = 0; sum = 0; left = 0 }

-- writing the lines of the sheet s at the dates D to the buffer o returned r and left e
pub record WriteLinesReturns (D : Dates) (s o : List ℕ) (r : Lines) (e : List ℕ) : Type 0 where
  pub numbers : r ≡ lines_numbers (writing_lines D s o)
  pub answer : lines_from r ≡ writing_lines D s o
  pub buffer : e ≡ lines_into D s o
  pub made : (n : ℕ) → writing_lines D s o ≡ success (n ∷ []) → r ≡ record { number = 0; field = 0; rule = 0; length = n }
  pub broken : (f n : ℕ) → writing_lines D s o ≡ refusal 8 (f ∷ n ∷ []) → r ≡ record { number = 8; field = f; rule = n; length = 0 }
  pub refused : (n : ℕ) → writing_lines D s o ≡ refusal n [] → r ≡ record { number = n; field = 0; rule = 0; length = 0 }

-- reading the block b into the buffer o returned the number r and left e
pub record ReadLinesReturns (b o : List ℕ) (r : ℕ) (e : List ℕ) : Type 0 where
  pub numbers : r ≡ number_of (reading_lines b o)
  pub answer : number_answer r ≡ reading_lines b o
  pub sheet : e ≡ sheet_read b o
  pub made : (vs : List ℕ) → reading_lines b o ≡ success vs → r ≡ 0
  pub refused : (n : ℕ) (vs : List ℕ) → reading_lines b o ≡ refusal n vs → r ≡ n
