-- What a computation of sheets and their forms unfolds, as one name.
use Rattle.texts.specs.Working.Computing.{texts_computing}
use Rattle.sheets.specs.Sheet.{slot_of, cell, cell_text, cell_ok, cell_of, text_of, slot_ok, ◌⟨◌⟩, given}
use Rattle.sheets.specs.Forms.{check_digit, person, document, snils_check, snils, pension, leap, month_days, gregorian, date}
use Rattle.sheets.specs.Dates.{day_number, dates_fit, texts_in}

unfoldable pub sheets_computing : Unit {0}
unfolding texts_computing slot_of cell cell_text cell_ok cell_of text_of slot_ok ◌⟨◌⟩ given check_digit person document snils_check snils pension leap month_days gregorian date day_number dates_fit texts_in
sheets_computing = tt
