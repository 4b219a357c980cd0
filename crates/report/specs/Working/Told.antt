-- What is written before the end. A reader of the promise needs none of this.
use Rattle.std.specs.Prelude.{◌≡◌, List, ◌++◌, ℕ, ◌≤◌}
use Rattle.texts.specs.Quoted.{Text}
use Rattle.report.specs.declared.lines.Page.{Page}
use Rattle.report.specs.Report.{ending, report_of}
use Rattle.report.specs.Working.Page.{Puts}

-- the lines of the messages of i were put on the page p, which left it as q; the draft that the messages leave is d
pub record Told (i : List ℕ) (p : Page) (d : List ℕ) (q : Page) : Type 0 where
  pub text : Text
  pub puts : Puts p text q
  pub rest : text ++ ending d ≡ report_of i
  pub short : q.len ≤ 45067
