-- Where the fixed strings stand in a block: all texts but the last have one width. A reader of the promises needs none of this.
use Rattle.std.specs.Prelude.{Bool, List, [], ◌∷◌, ◌++◌, ℕ, ◌+◌, ◌-◌, leb, length}
use denote.Ref.{Bor}
use Rattle.texts.specs.Quoted.{Text, bytes}
use Rattle.texts.specs.Texts.{between, same}
use Rattle.sheets.specs.Sheet.{Sheet, text_of}
use Rattle.rules.specs.Working.Tests.{all_true}
use Rattle.swift.specs.Lines.{before_status, before_bik, before_bank, before_account, before_payee, before_kpp, before_code, line_feed, Seven, parts_of}

-- a fixed string that opens a line, with the line feed before it
abbrev pub mark_bik : Text
mark_bik = line_feed ++ bytes before_bik

abbrev pub mark_account : Text
mark_account = line_feed ++ bytes before_account

abbrev pub mark_payee : Text
mark_payee = line_feed ++ bytes before_payee

abbrev pub mark_code : Text
mark_code = line_feed ++ bytes before_code

-- the lengths of the lines with the shortest text of 22, which has none of its forms, and with the longest
abbrev pub least_lines : ℕ
least_lines = 112

abbrev pub most_lines : ℕ
most_lines = 137

-- it has a length that lines can have, and the fixed strings at their places
abbrev pub marks : Text → List Bool
marks b =
    leb least_lines (length b)
    ∷ leb (length b) most_lines
    ∷ same (between b 0 6) (bytes before_status)
    ∷ same (between b 8 18) mark_bik
    ∷ same (between b 27 28) (bytes before_bank)
    ∷ same (between b 48 54) mark_account
    ∷ same (between b 74 78) mark_payee
    ∷ same (between b 88 92) (bytes before_kpp)
    ∷ same (between b 101 111) mark_code
    ∷ same (between b (length b - 1) (length b)) line_feed
    ∷ []

unfoldable pub marked : Text → Bool
marked b = all_true (marks b)

-- the texts of a block's first three lines
abbrev pub bank_parts_of : Text → Seven
bank_parts_of b =
    record {
      status = (parts_of b).status;
      bik = (parts_of b).bik;
      bank = (parts_of b).bank;
      account = (parts_of b).account;
      payee = [];
      kpp = [];
      code = [];
    }

-- texts one behind another
abbrev pub joined : List (Bor (List ℕ)) → Text
joined [] = []
joined (t ∷ ts) = t.now ++ joined ts

-- how long the lines of a sheet's texts are
abbrev pub lines_size : Sheet → ℕ
lines_size s =
    42 + length (text_of s 6) + length (text_of s 0) + length (text_of s 1) + length (text_of s 2) + length (text_of s 5) + length (text_of s 8)
    + length (text_of s 3)
