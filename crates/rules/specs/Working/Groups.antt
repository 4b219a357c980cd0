-- The rules in groups, and the slots that each reads. A reader of the promise needs none of this.
use Rattle.std.specs.Prelude.{◌≡◌, Bool, true, false, not, ◌&&◌, List, [], ◌∷◌, ◌++◌, ℕ, get_or}
use Rattle.texts.specs.Texts.{every, among}
use Rattle.sheets.specs.Sheet.{Sheet, text_of}
use Rattle.rules.specs.Rules.{order}

-- the rules for classes A and B by the last of 101, 106, 108, 109 that each reads: none of them; 101; 106; 108; 109
abbrev pub fixed_rules : List ℕ
fixed_rules = 5 ∷ 7 ∷ 8 ∷ 9 ∷ 11 ∷ 12 ∷ 13 ∷ 14 ∷ 16 ∷ 22 ∷ 28 ∷ []

abbrev pub status_rules : List ℕ
status_rules = 10 ∷ 19 ∷ 20 ∷ 21 ∷ 23 ∷ 24 ∷ 27 ∷ 30 ∷ []

abbrev pub basis_rules : List ℕ
basis_rules = 15 ∷ 29 ∷ []

abbrev pub document_rules : List ℕ
document_rules = 17 ∷ 25 ∷ 26 ∷ 32 ∷ 33 ∷ 35 ∷ []

abbrev pub day_rules : List ℕ
day_rules = 6 ∷ 18 ∷ 31 ∷ 34 ∷ []

abbrev pub grouped : List ℕ
grouped = fixed_rules ++ (status_rules ++ (basis_rules ++ (document_rules ++ day_rules)))

-- the slots that each rule reads, by its number; those of the class are 0 to 2
abbrev in_class : List ℕ → List ℕ
in_class ks = 0 ∷ 1 ∷ 2 ∷ ks

abbrev pub reads : List (List ℕ)
reads =
    []
    ∷ (0 ∷ []) ∷ (1 ∷ []) ∷ (2 ∷ []) ∷ in_class (6 ∷ []) ∷ in_class []
    ∷ in_class (3 ∷ 4 ∷ 5 ∷ 6 ∷ 7 ∷ 8 ∷ 9 ∷ 10 ∷ 11 ∷ 12 ∷ 13 ∷ 14 ∷ [])
    ∷ in_class (3 ∷ []) ∷ in_class (4 ∷ []) ∷ in_class (5 ∷ []) ∷ in_class (6 ∷ []) ∷ in_class (7 ∷ []) ∷ in_class (8 ∷ []) ∷ in_class (9 ∷ [])
    ∷ in_class (10 ∷ []) ∷ in_class (11 ∷ []) ∷ in_class (12 ∷ []) ∷ in_class (13 ∷ []) ∷ in_class (14 ∷ []) ∷ in_class (6 ∷ [])
    ∷ in_class (6 ∷ []) ∷ in_class (3 ∷ 6 ∷ []) ∷ in_class (3 ∷ []) ∷ in_class (4 ∷ 6 ∷ []) ∷ in_class (3 ∷ 4 ∷ 6 ∷ [])
    ∷ in_class (3 ∷ 4 ∷ 6 ∷ 13 ∷ []) ∷ in_class (6 ∷ 13 ∷ []) ∷ in_class (4 ∷ 6 ∷ 7 ∷ []) ∷ in_class (9 ∷ []) ∷ in_class (6 ∷ 11 ∷ [])
    ∷ in_class (6 ∷ 12 ∷ []) ∷ in_class (6 ∷ 14 ∷ []) ∷ in_class (11 ∷ 13 ∷ []) ∷ in_class (11 ∷ 13 ∷ []) ∷ in_class (11 ∷ 14 ∷ [])
    ∷ in_class (13 ∷ []) ∷ []

abbrev pub reads_of : ℕ → List ℕ
reads_of n = get_or reads n []

-- two sheets have the same text in some slots; in all but some
abbrev pub AlikeIn : List ℕ → Sheet → Sheet → Type 0
AlikeIn ks s t = (k : ℕ) → among k ks ≡ true → text_of s k ≡ text_of t k

abbrev pub AlikeBut : List ℕ → Sheet → Sheet → Type 0
AlikeBut ks s t = (k : ℕ) → among k ks ≡ false → text_of s k ≡ text_of t k

-- some slots are none of others; some rules read none of some slots
abbrev pub apart : List ℕ → List ℕ → Bool
apart ds ks = every (λ (k : ℕ). not (among k ds)) ks

abbrev pub spare : List ℕ → List ℕ → Bool
spare ds ns = every (λ (n : ℕ). among n order && apart ds (reads_of n)) ns
