-- What the program writes, as a function of what it reads (document 01, "Writer and program").
use Rattle.std.specs.Prelude.{Bool, cond, ◌&&◌, List, [], ◌∷◌, ◌++◌, map, ℕ, suc, leb, length, get_or, replicate}
use Rattle.texts.specs.Quoted.{Text, bytes}
use Rattle.texts.specs.Texts.{blank}
use Rattle.texts.specs.Answers.{Answer, success, refusal}
use Rattle.sheets.specs.Sheet.{slots, field_in, sheet_size, text_of}
use Rattle.sheets.specs.Dates.{program_dates}
use Rattle.drafts.specs.Draft.{fresh_draft, posting_of, posted_to}
use Rattle.orders.specs.Complete.{completing, completed}
use Rattle.orders.specs.Stream.{messages_of}
use Rattle.report.specs.Lines.{decimal, line}

-- "newer, same, older or the refusal number"
abbrev pub shown : Answer → Text
shown (success word) = word
shown (refusal n vs) = decimal n

-- "Per message a line: its number from 1, then newer, same, older or the refusal number"
unfoldable pub message_line : ℕ → Answer → Text
message_line n a = line (decimal n) (shown a ∷ [])

-- "field number, a space and the sheet's text", "for a blank 15 the text is `-`"
unfoldable pub field_line : List ℕ → ℕ → Text
field_line s k = line (decimal (field_in k)) (cond (blank (text_of s k)) (bytes "-") (text_of s k) ∷ [])

unfoldable pub field_lines : List ℕ → List ℕ → Text
field_lines s [] = []
field_lines s (k ∷ ks) = field_line s k ++ field_lines s ks

-- "prints the end: `end ok COUNT` and 15 lines ..; or `end` with the number and what it returns": of the answer and the sheet
unfoldable pub end_lines : Answer → List ℕ → Text
end_lines (success vs) s = line (bytes "end") (bytes "ok" ∷ decimal (get_or vs 0 0) ∷ []) ++ field_lines s slots
end_lines (refusal n vs) s = line (bytes "end") (decimal n ∷ map decimal vs)

-- the sheet buffer that it completes into
abbrev pub no_sheet : List ℕ
no_sheet = replicate sheet_size 0

-- "Then it completes the draft and prints the end", at the program's dates (R-7)
unfoldable pub ending : List ℕ → Text
ending d = end_lines (completing program_dates d no_sheet) (completed program_dates d no_sheet)

-- some messages, the first of them being number n, posted to the draft d, and the end
unfoldable pub report_from : ℕ → List ℕ → List (List ℕ) → Text
report_from n d [] = ending d
report_from n d (m ∷ ms) = message_line n (posting_of d m) ++ report_from (suc n) (posted_to d m) ms

-- all that the program writes of the input i: its messages are "posted to a fresh draft"
unfoldable pub report_of : List ℕ → Text
report_of i = report_from 1 fresh_draft (messages_of i)

-- "at most 32,768 bytes of standard input"; no report of so many is longer than 46,080 bytes
abbrev pub fits : List ℕ → List ℕ → Bool
fits i b = leb (length i) 32768 && leb 46080 (length b)

-- what is written into a buffer that held b: nothing where the input is longer or the buffer shorter
unfoldable pub reported : List ℕ → List ℕ → Text
reported i b = cond (fits i b) (report_of i) []
