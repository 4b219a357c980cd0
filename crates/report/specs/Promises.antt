-- The promise of `report`, and what it means.
use Rattle.std.specs.Prelude.{◌≡◌, ◌↔◌, List, ℕ, ◌^◌, ◌<◌, ◌≤◌, length, take}
use Rattle.texts.specs.Buffers.{put}
use Rattle.sheets.specs.declared.dates.Dates.{Dates}
use Rattle.report.specs.Lines.{decimal, IsDecimal}
use Rattle.report.specs.Report.{report_of, reported}
use Rattle.report.specs.Requests.R7.{report_before}

-- of the input i, into a buffer that held b, it returned r and left e
pub record Reports (i b : List ℕ) (r : ℕ) (e : List ℕ) : Type 0 where
  pub count : r ≡ length (reported i b)
  pub buffer : e ≡ put b 0 (reported i b)
  -- the bytes written are the report
  pub text : take r e ≡ reported i b
  -- nothing written, so unchanged
  pub refused : r ≡ 0 → e ≡ b
  pub exactly : (0 < r) ↔ ((length i ≤ 32768) × (46080 ≤ length b))
  pub whole : length i ≤ 32768 → 46080 ≤ length b → take r e ≡ report_of i
  -- "so its output is the same as before" (R-7)
  pub before : (D : Dates) → report_of i ≡ report_before D i
  -- each number in it, of a message, an answer or a count, is written in decimal
  pub numbers : (n : ℕ) → n < 10 ^ 20 → IsDecimal n (decimal n)
