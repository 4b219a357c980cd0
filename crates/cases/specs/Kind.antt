-- The letters of the kinds of cases.
use Rattle.std.specs.Prelude.{Result, MatchResult, ◌≡◌, ℕ}
use Rattle.cases.specs.declared.kind.Kind.{Kind}
use Rattle.cases.specs.declared.kind.Kind.TheVariants.{Check, CheckAt, BrokenRules, WriteLines, WriteShort, ReadLines, Message, WriteMessage, Fresh, Post, Copy, Complete, Quick, TakeUp, Pretest, Entry, Origins, Report, Charge, Part, Shares, Pool, Leave}
use Rattle.cases.specs.declared.kind.UnknownKind.{UnknownKind}

abbrev pub letter : Kind → ℕ
letter Check = 99
letter CheckAt = 100
letter BrokenRules = 98
letter WriteLines = 119
letter WriteShort = 115
letter ReadLines = 108
letter Message = 109
letter WriteMessage = 118
letter Fresh = 102
letter Post = 112
letter Copy = 121
letter Complete = 111
letter Quick = 113
letter TakeUp = 116
letter Pretest = 101
letter Entry = 105
letter Origins = 107
letter Report = 114
letter Charge = 103
letter Part = 97
letter Shares = 104
letter Pool = 110
letter Leave = 120

-- the kind of a byte, or none has it
abbrev pub Decodes : ℕ → Result Kind UnknownKind → Type 0
Decodes byte r = MatchResult r (λ kind. letter kind ≡ byte) (λ e. (e.0 ≡ byte) × ((kind : Kind) → letter kind ≡ byte → ⊥))
