-- The cases of an input, one behind another: a kind in one byte, a size in two, big-endian, and so many bytes. Past its end there are zeros.
use Rattle.std.specs.Prelude.{Option, MatchOption, IfSome, List, [], ◌≡◌, ℕ, ◌+◌, ◌*◌, get_or, take, drop}
use Rattle.cases.specs.declared.stream.Case.{Case}
use Rattle.cases.specs.declared.stream.Cases.{Cases}
use Rattle.cases.specs.Kind.{letter}

-- what is left of the input
abbrev pub left : Cases → List ℕ
left s = s.fields.rest.now

-- how many bytes the first case says that it has
abbrev pub size_of : List ℕ → ℕ
size_of i = get_or i 1 0 * 256 + get_or i 2 0

-- with s left, `next` gives the kind and the bytes of the first case, as far as there are any, and leaves t; it ends where nothing is left
abbrev pub TakesFirst : Cases → Option Case → Cases → Type 0
TakesFirst s r t =
    MatchOption r (left s ≡ [])
    (λ c. IfSome c.kind (λ kind. letter kind ≡ get_or (left s) 0 0) × (c.bytes.now ≡ take (size_of (left s)) (drop 3 (left s))) × (left t ≡ drop (3 + size_of (left s)) (left s)))
