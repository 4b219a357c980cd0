-- Document 01's answers as the numbers that a caller in C reads (`..Numbers`), and the answer that such numbers stand for (`..Of`).
use Rattle.std.specs.Prelude.{cond, List, [], ◌∷◌, ℕ, eqb, pos, length, get_or, Result, Ok, Err}
use Rattle.std.proofs.Math.IntN.{sub_ℕ}
use Rattle.texts.specs.Quoted.{Text, bytes}
use Rattle.texts.specs.Texts.{◌is◌}
use Rattle.texts.specs.Answers.{Answer, success, refusal}
use Rattle.texts.specs.Refusals.{refusal_number}
use Rattle.texts.specs.declared.answers.Refusal.{Refusal}
use Rattle.drafts.specs.Message.{head_size}
use Rattle.registers.specs.Pool.{more, less}
use Rattle.sheets.specs.declared.dates.Dates.{Dates}
use Rattle.capi.specs.declared.Record.{Record}
use Rattle.capi.specs.declared.Check.{Check}
use Rattle.capi.specs.declared.Read.{Read}
use Rattle.capi.specs.declared.Write.{Write}
use Rattle.capi.specs.declared.Post.{Post}
use Rattle.capi.specs.declared.Complete.{Complete}
use Rattle.capi.specs.declared.TakeUp.{TakeUp}
use Rattle.capi.specs.declared.Pretest.{Pretest}
use Rattle.capi.specs.declared.Charge.{Charge}
use Rattle.capi.specs.declared.Part.{Part}
use Rattle.capi.specs.declared.Pool.{Pool}
use Rattle.capi.specs.declared.Leave.{Leave}
use Rattle.capi.specs.declared.Lines.{Lines}

-- number 0 is success, which returns vs; another number is a refusal, with ws beside it
unfoldable pub numbered : ℕ → List ℕ → List ℕ → Answer
numbered n vs ws = cond (eqb n 0) (success vs) (refusal n ws)

-- a number that is returned alone
unfoldable pub number_answer : ℕ → Answer
number_answer n = numbered n [] []

-- what returns nothing else: 0, or the number of a refusal
abbrev pub done_number : Result Unit Refusal → ℕ
done_number (Ok u) = 0
done_number (Err n) = refusal_number n

-- the order's date and the record of three dates
abbrev pub dates_of : ℕ → Record → Dates
dates_of n r =
    record {
      order = record { 0 = n };
      first32 = record { 0 = r.first32 };
      first33 = record { 0 = r.first33 };
      last02 = record { 0 = r.last02 };
    }

-- the class, as its letter
unfoldable pub check_numbers : Answer → Check
check_numbers (success vs) = record { number = 0; field = 0; rule = 0; class = get_or vs 0 0 }
check_numbers (refusal n vs) = record { number = n; field = get_or vs 0 0; rule = get_or vs 1 0; class = 0 }

-- number 8 has the field and the rule beside it, another refusal nothing
unfoldable pub check_of : Check → Answer
check_of r = numbered r.number (r.class ∷ []) (cond (eqb r.number 8) (r.field ∷ r.rule ∷ []) [])

-- reading a message of the text t: where that begins, and how many bytes it has
unfoldable pub read_numbers : Text → Answer → Read
read_numbers t (success vs) =
    record { number = 0; version = get_or vs 0 0; party = get_or vs 1 0; field = get_or vs 2 0; revision = get_or vs 3 0; text = head_size (get_or vs 0 0); length = length t }
read_numbers t (refusal n vs) = record { number = n; version = 0; party = 0; field = 0; revision = 0; text = 0; length = 0 }

unfoldable pub read_of : Read → Answer
read_of r = numbered r.number (r.version ∷ r.party ∷ r.field ∷ r.revision ∷ []) []

unfoldable pub write_numbers : Answer → Write
write_numbers (success vs) = record { number = 0; length = get_or vs 0 0 }
write_numbers (refusal n vs) = record { number = n; length = 0 }

unfoldable pub write_of : Write → Answer
write_of r = numbered r.number (r.length ∷ []) []

-- newer, same or older, as its first letter
unfoldable pub post_numbers : Answer → Post
post_numbers (success vs) = record { number = 0; standing = get_or vs 0 0 }
post_numbers (refusal n vs) = record { number = n; standing = 0 }

-- the word that a letter stands for
unfoldable pub word_of : ℕ → Text
word_of l =
    cond ((l ∷ []) is "n") (bytes "newer") (cond ((l ∷ []) is "s") (bytes "same") (cond ((l ∷ []) is "o") (bytes "older") []))

unfoldable pub post_of : Post → Answer
post_of r = numbered r.number (word_of r.standing) []

-- with the number of skipped statuses (R-14): 8 has the field and the rule beside it, 10 the count and that number, another refusal nothing
unfoldable pub complete_numbers : Answer → Complete
complete_numbers (success vs) = record { number = 0; field = 0; rule = 0; set = get_or vs 1 0; ones = get_or vs 2 0; count = get_or vs 0 0; skipped = get_or vs 3 0 }
complete_numbers (refusal n vs) =
    cond (eqb n 8)
    (record { number = n; field = get_or vs 0 0; rule = get_or vs 1 0; set = 0; ones = 0; count = 0; skipped = 0 })
    (record { number = n; field = 0; rule = 0; set = 0; ones = 0; count = get_or vs 0 0; skipped = get_or vs 1 0 })

unfoldable pub complete_of : Complete → Answer
complete_of r =
    numbered r.number
    (r.count ∷ r.set ∷ r.ones ∷ r.skipped ∷ [])
    (cond (eqb r.number 8) (r.field ∷ r.rule ∷ []) (cond (eqb r.number 10) (r.count ∷ r.skipped ∷ []) []))

-- number 20 has the field beside it, another answer nothing (R-9)
unfoldable pub take_numbers : Answer → TakeUp
take_numbers (success vs) = record { number = 0; field = 0 }
take_numbers (refusal n vs) = record { number = n; field = get_or vs 0 0 }

unfoldable pub take_of : TakeUp → Answer
take_of r = numbered r.number [] (cond (eqb r.number 20) (r.field ∷ []) [])

-- the field and the rule that are named, with success and with 8
unfoldable pub pretest_numbers : Answer → Pretest
pretest_numbers (success vs) = record { number = 0; field = get_or vs 0 0; rule = get_or vs 1 0 }
pretest_numbers (refusal n vs) = record { number = n; field = get_or vs 0 0; rule = get_or vs 1 0 }

-- number 8 has the field and the rule beside it, another refusal nothing
unfoldable pub pretest_of : Pretest → Answer
pretest_of r = numbered r.number (r.field ∷ r.rule ∷ []) (cond (eqb r.number 8) (r.field ∷ r.rule ∷ []) [])

-- the charge
unfoldable pub charge_numbers : Answer → Charge
charge_numbers (success vs) = record { number = 0; kopecks = get_or vs 0 0 }
charge_numbers (refusal n vs) = record { number = n; kopecks = 0 }

unfoldable pub charge_of : Charge → Answer
charge_of r = numbered r.number (r.kopecks ∷ []) []

-- the whole kopecks and the remainder
unfoldable pub part_numbers : Answer → Part
part_numbers (success vs) = record { number = 0; remainder = get_or vs 1 0; kopecks = get_or vs 0 0 }
part_numbers (refusal n vs) = record { number = n; remainder = 0; kopecks = 0 }

unfoldable pub part_of : Part → Answer
part_of r = numbered r.number (r.kopecks ∷ r.remainder ∷ []) []

-- how many pooled lines; with 17 the signed difference
unfoldable pub pool_numbers : Answer → Pool
pool_numbers (success vs) = record { number = 0; lines = get_or vs 0 0; difference = pos 0 }
pool_numbers (refusal n []) = record { number = n; lines = 0; difference = pos 0 }
pool_numbers (refusal n (m ∷ vs)) = record { number = n; lines = 0; difference = sub_ℕ m (get_or vs 0 0) }

unfoldable pub pool_of : Pool → Answer
pool_of r = numbered r.number (r.lines ∷ []) (cond (eqb r.number 17) (more r.difference ∷ less r.difference ∷ []) [])

-- how many are paid, their sum and what is left
unfoldable pub leave_numbers : Answer → Leave
leave_numbers (success vs) = record { number = 0; paid = get_or vs 0 0; sum = get_or vs 1 0; left = get_or vs 2 0 }
leave_numbers (refusal n vs) = record { number = n; paid = 0; sum = 0; left = 0 }

unfoldable pub leave_of : Leave → Answer
leave_of r = numbered r.number (r.paid ∷ r.sum ∷ r.left ∷ []) []

-- the length of the lines; number 8 has the field and the rule beside it
unfoldable pub lines_numbers : Answer → Lines
lines_numbers (success vs) = record { number = 0; field = 0; rule = 0; length = get_or vs 0 0 }
lines_numbers (refusal n vs) = record { number = n; field = get_or vs 0 0; rule = get_or vs 1 0; length = 0 }

unfoldable pub lines_from : Lines → Answer
lines_from r = numbered r.number (r.length ∷ []) (cond (eqb r.number 8) (r.field ∷ r.rule ∷ []) [])
