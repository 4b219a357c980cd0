-- What the rules ask of a sheet, found once: each field's text is read into facts, and a rule is a test of facts. A reader
-- of the promise needs none of this; On, in the proofs of rules, shows that the tests on facts are the rules.
use Rattle.std.specs.Prelude.{◌≡◌, Bool, not, cond, ◌&&◌, ◌||◌, List, [], ◌∷◌, map, ℕ, ◌/◌, ◌%◌, ◌^◌, eqb, ltb, length, replicate}
use Prim.Native.String.{String}
use Rattle.texts.specs.Quoted.{Text, bytes, words}
use Rattle.texts.specs.Texts.{every, among, blank, ◌is◌, ◌is_one_of◌, ◌begins◌, number}
use Rattle.sheets.specs.Sheet.{sheet_size, text_of, Sheet, given}
use Rattle.sheets.specs.Forms.{◌⇒◌, bik, account, of_class_a, of_class_b, home, uin, code4, foreign_code, inn10, inn12, digits5, digits10, digits12, kpp, kbk, oktmo, office, letter_pair, person, document, pension, date}
use Rattle.sheets.specs.Lists.{accounts_a, banks_b, account_b, accounts_b, account03100, account03212, statuses, customs_group, treasury_group, courts_group, personal_group, want_inn, want_ten, want_twelve, want_zero}
use Rattle.sheets.specs.Dates.{force_of, texts_in, listed}
use Rattle.sheets.specs.declared.dates.Dates.{Dates}
use Rattle.sheets.specs.declared.dates.Force.{Force}
use Rattle.sheets.specs.declared.forms.Wanted.{Wanted}
use Rattle.sheets.specs.declared.forms.Wanted.TheVariants.{Any, Inn, Ten, Twelve, Zero}
use Rattle.sheets.specs.declared.facts.General.{General}
use Rattle.sheets.specs.declared.facts.Account.{Account}
use Rattle.sheets.specs.declared.facts.Code.{Code}
use Rattle.sheets.specs.declared.facts.Payer.{Payer}
use Rattle.sheets.specs.declared.facts.Form.{Form}
use Rattle.sheets.specs.declared.facts.Groups.{Groups}
use Rattle.sheets.specs.declared.facts.Standing.{Standing}
use Rattle.sheets.specs.declared.facts.Basis.{Basis}
use Rattle.sheets.specs.declared.facts.Document.{Document}
use Rattle.sheets.specs.declared.facts.Day.{Day}
use Rattle.sheets.specs.declared.facts.Banking.{Banking}
use Rattle.sheets.specs.declared.facts.Parties.{Parties}
use Rattle.sheets.specs.declared.facts.Classifiers.{Classifiers}
use Rattle.sheets.specs.declared.facts.Facts.{Facts}

-- the numbers of a list of texts of n digits, which the code compares
abbrev pub numbers_of : ℕ → String → List ℕ
numbers_of n q = map (number n) (words q)

-- ---- facts of one field

-- 14, 15 and 17
unfoldable pub general_of : Text → Text → Text → General
general_of t u v = record { bik = bik t; bank = blank u || account u; account = account v }

-- class A and B, by the numbers that the accounts begin with
unfoldable pub is_a : Bool → ℕ → Bool
is_a bank account = bank && among account (numbers_of 5 accounts_a)

unfoldable pub is_b : ℕ → ℕ → Bool → Bool
is_b bank account four =
    among bank (numbers_of 3 banks_b)
    && (eqb (number 5 (bytes account_b)) account || (among account (numbers_of 5 accounts_b) && four))

unfoldable pub account_of : Text → Text → Text → Account
account_of bik bank account =
    record {
      a = of_class_a bank account;
      b = of_class_b bik account;
      home = home account;
      to03100 = account begins account03100;
      to03212 = account begins account03212;
    }

-- 22, 60
unfoldable pub code_of : Text → Code
code_of t = record { zero = t is "0"; uin = uin t; four = code4 t }

unfoldable pub payer_of : Text → Payer
payer_of t =
    record {
      zero = t is "0";
      foreign = foreign_code t;
      inn10 = inn10 t;
      inn12 = inn12 t;
      five = digits5 t;
      ten = digits10 t;
      twelve = digits12 t;
    }

-- 102, 104, 105, 107: "0" or a full form
unfoldable pub form_of : Text → Bool → Form
form_of t full = record { zero = t is "0"; full = full }

-- 101: the form of 60 that a status wants, and the groups that rules name, by its number and by its text
unfoldable pub wanted_by : ℕ → Wanted
wanted_by n =
    cond (among n (numbers_of 2 want_inn)) Inn (cond (among n (numbers_of 2 want_ten)) Ten (cond (among n (numbers_of 2 want_twelve)) Twelve (cond (among n (numbers_of 2 want_zero)) Zero Any)))

-- a number below 64 is in a set: bit n for the number n
unfoldable pub in_set : ℕ → ℕ → Bool
in_set set n = ltb n 64 && eqb (set / 2 ^ n % 2) 1

unfoldable pub groups_by : ℕ → Groups
groups_by n =
    record {
      customs = among n (numbers_of 2 customs_group);
      treasury = among n (numbers_of 2 treasury_group);
      courts = among n (numbers_of 2 courts_group);
      personal = among n (numbers_of 2 personal_group);
      is01 = among n (numbers_of 2 "01");
      is13 = among n (numbers_of 2 "13");
      is31 = among n (numbers_of 2 "31");
    }

unfoldable pub groups_of : Text → Groups
groups_of t =
    record {
      customs = t is_one_of customs_group;
      treasury = t is_one_of treasury_group;
      courts = t is_one_of courts_group;
      personal = t is_one_of personal_group;
      is01 = t is_one_of "01";
      is13 = t is_one_of "13";
      is31 = t is_one_of "31";
    }

-- the statuses that have a date, by their numbers
unfoldable pub allowed_by : Force → ℕ → Bool
allowed_by F n = (eqb 2 n ⇒ F.s02) && ((eqb 32 n ⇒ F.s32) && (eqb 33 n ⇒ F.s33))

unfoldable pub standing_by : ℕ → Bool → Bool → Standing
standing_by n blank listed = record { blank = blank; listed = listed; groups = groups_by n; wanted = wanted_by n }

unfoldable pub standing_of : Force → Text → Standing
standing_of F t =
    record { blank = blank t; listed = listed t (texts_in F); groups = groups_of t; wanted = wanted_by (number 2 t) }

-- 106, 108, 109
unfoldable pub basis_of : Text → Basis
basis_of t = record { blank = blank t; zero = t is "0"; zeros = t is "00"; letters = letter_pair t }

unfoldable pub document_of : Text → Document
document_of t = record { blank = blank t; fit = document t; person = person t; pension = pension t; zero = t is "0"; zeros = t is "00" }

unfoldable pub day_of : Text → Day
day_of t = record { blank = blank t; zero = t is "0"; zeros = t is "00"; date = date t }

-- ---- facts of a sheet

-- the slots of 22, 60, 61, 102 to 105 and 107, which no filling gives another entry than "0"
abbrev pub fixed : List ℕ
fixed = 3 ∷ 4 ∷ 5 ∷ 7 ∷ 8 ∷ 9 ∷ 10 ∷ 12 ∷ []

-- by the dates and the texts of the slots
unfoldable pub facts_by : Dates → (ℕ → Text) → Facts
facts_by D T =
    record {
      banking =
          record {
            general = general_of (T 0) (T 1) (T 2);
            account = account_of (T 0) (T 1) (T 2);
            given = every (λ (k : ℕ). not (blank (T k))) fixed;
          };
      parties =
          record {
            code = code_of (T 3);
            payer = payer_of (T 4);
            payee = inn10 (T 5);
            kpp = form_of (T 7) (kpp (T 7));
            payeekpp = kpp (T 8);
          };
      classifiers =
          record {
            kbk = form_of (T 9) (kbk (T 9));
            oktmo = form_of (T 10) (oktmo (T 10));
            office = form_of (T 12) (office (T 12));
          };
      force = force_of D;
      status = standing_of (force_of D) (T 6);
      basis = basis_of (T 11);
      document = document_of (T 13);
      day = day_of (T 14);
    }

abbrev pub facts_of : Dates → Sheet → Facts
facts_of D s = facts_by D (text_of s)

-- of any list of bytes: one that has another size than a sheet has the facts of the empty sheet
unfoldable pub facts_in : Dates → List ℕ → Facts
facts_in D s = cond (eqb (length s) sheet_size) (facts_of D s) (facts_of D (replicate sheet_size 0))

-- f is what was read of the sheet s at the dates D. A crate above sees facts by this alone.
pub record Read (D : Dates) (f : Facts) (s : Sheet) : Type 0 where
  pub size : length s ≡ sheet_size
  pub facts : f ≡ facts_of D s
