-- Which list a slot's field has, as the code names it. A reader of the promise needs none of this.
use Rattle.std.specs.Prelude.{List, [], Option, Some, None}
use Rattle.texts.specs.Quoted.{Text, words}
use Rattle.sheets.specs.Lists.{basis_texts, zero_texts}
use Rattle.sheets.specs.Dates.{status_texts}
use Rattle.sheets.specs.declared.dates.Dates.{Dates}
use Rattle.orders.specs.declared.entry.Entries.{Entries}
use Rattle.orders.specs.declared.entry.Entries.TheVariants.{Zero, Zeros, Bases, Statuses}

abbrev pub texts_by : Dates → Option Entries → List Text
texts_by D (Some Zero) = words "0"
texts_by D (Some Zeros) = zero_texts
texts_by D (Some Bases) = basis_texts
texts_by D (Some Statuses) = status_texts D
texts_by D None = []
