-- What a page holds, and what writing on it leaves. A reader of the promise needs none of this.
use Rattle.std.specs.Prelude.{◌≡◌}
use Rattle.texts.specs.Quoted.{Text}
use Rattle.texts.specs.Working.Writing.{Wrote}
use Rattle.report.specs.declared.lines.Item.{Item}
use Rattle.report.specs.declared.lines.Item.TheVariants.{Word, Number}
use Rattle.report.specs.declared.lines.Page.{Page}
use Rattle.report.specs.Lines.{decimal}

-- how an item is written
abbrev pub item_text : Item → Text
item_text (Word t) = t.now
item_text (Number n) = decimal n

-- the text t was put behind what the page p held, which left it as q, of the same buffer
pub record Puts (p : Page) (t : Text) (q : Page) : Type 0 where
  pub same : q.buffer.ghost_name ≡ p.buffer.ghost_name
  pub wrote : Wrote p.buffer.now p.len t q.len q.buffer.now
