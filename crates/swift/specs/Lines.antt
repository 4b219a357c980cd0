-- The lines of MT103 and their texts (document 02, R-6).
use Rattle.std.specs.Prelude.{Bool, ◌&&◌, List, [], ◌∷◌, ◌++◌, ◌-◌, length}
use Prim.Native.String.{String}
use Rattle.texts.specs.Quoted.{Text, bytes}
use Rattle.texts.specs.Texts.{every, same, between}
use Rattle.sheets.specs.Sheet.{Sheet, short, cells, ◌⟨◌⟩}
use Rattle.sheets.specs.declared.dates.Dates.{Dates}
use Rattle.rules.specs.Rules.{class_a, of_lines, keeps}

-- "these seven fields": 101, 14, 15, 17, 61, 103, 22, in the order of the lines
pub record Seven : Type 0 where
  pub status : Text
  pub bik : Text
  pub bank : Text
  pub account : Text
  pub payee : Text
  pub kpp : Text
  pub code : Text

-- the texts of a sheet's seven fields
unfoldable pub seven_in : Sheet → Seven
seven_in s =
    record {
      status = s ⟨ 101 ⟩;
      bik = s ⟨ 14 ⟩;
      bank = s ⟨ 15 ⟩;
      account = s ⟨ 17 ⟩;
      payee = s ⟨ 61 ⟩;
      kpp = s ⟨ 103 ⟩;
      code = s ⟨ 22 ⟩;
    }

-- the fixed strings, each quoted once
abbrev pub before_status : String
before_status = ":26T:S"

abbrev pub before_bik : String
before_bik = ":57D://RU"

abbrev pub before_bank : String
before_bank = "."

abbrev pub before_account : String
before_account = ":59:/"

abbrev pub before_payee : String
before_payee = "INN"

abbrev pub before_kpp : String
before_kpp = ".KPP"

abbrev pub before_code : String
before_code = ":72:/UIP/"

abbrev pub line_feed : Text
line_feed = 10 ∷ []

-- "each ended by a line feed"
abbrev pub ended : Text → Text
ended t = t ++ line_feed

-- "`:26T:S` and status; `:57D://RU`, BIK, `.`, field 15; `:59:/` and field 17; `INN`, field 61, `.KPP`, field 103; `:72:/UIP/` and field 22"
unfoldable pub lines_of : Seven → Text
lines_of t =
    ended (bytes before_status ++ t.status)
    ++ ended (bytes before_bik ++ t.bik ++ bytes before_bank ++ t.bank)
    ++ ended (bytes before_account ++ t.account)
    ++ ended (bytes before_payee ++ t.payee ++ bytes before_kpp ++ t.kpp)
    ++ ended (bytes before_code ++ t.code)

-- "a sheet with these seven fields, all others blank": 14, 15, 17, 22, 60, 61, 101, 102, 103, and 104 to 109
abbrev pub slot_texts : Seven → List Text
slot_texts t =
    t.bik ∷ t.bank ∷ t.account ∷ t.code ∷ [] ∷ t.payee ∷ t.status ∷ [] ∷ t.kpp ∷ [] ∷ [] ∷ [] ∷ [] ∷ [] ∷ [] ∷ []

abbrev pub sheet_with : Seven → Sheet
sheet_with t = cells (slot_texts t)

-- R-7: "its reader takes 02 as well", and no date: a day at which all 23 statuses are in force
abbrev pub any_status : Dates
any_status =
    record {
      order = record { 0 = 20240101 };
      first32 = record { 0 = 20240101 };
      first33 = record { 0 = 20240101 };
      last02 = record { 0 = 20240101 };
    }

-- "whose texts keep rules 1, 2, 3, 5, 7, 9, 10 and 12 and make class A"
unfoldable pub fits_in : Sheet → Bool
fits_in s = every (keeps any_status s) of_lines && class_a s

unfoldable pub fits : Seven → Bool
fits t = every short (slot_texts t) && fits_in (sheet_with t)

-- the texts of a block, at their places in lines of texts that fit: only the last has several lengths
unfoldable pub parts_of : Text → Seven
parts_of b =
    record {
      status = between b 6 8;
      bik = between b 18 27;
      bank = between b 28 48;
      account = between b 54 74;
      payee = between b 78 88;
      kpp = between b 92 101;
      code = between b 111 (length b - 1);
    }

-- a block that is taken: it "is what these lines give for its texts", and they fit
unfoldable pub taken : Text → Bool
taken b = same (lines_of (parts_of b)) b && fits (parts_of b)
