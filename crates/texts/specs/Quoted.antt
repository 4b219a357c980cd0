-- Quoted texts as bytes of Windows-1251 (document 01: "Texts are bytes of Windows-1251").
use Rattle.std.specs.Prelude.{cond, List, [], ◌∷◌, ℕ, ◌-◌, ltb, eqb}
use Prim.Native.Char.{Char, code}
use Prim.Native.String.{String, [] as []ˢ, ◌∷◌ as ◌∷ˢ◌}

-- a text: bytes
abbrev pub Text : Type 0
Text = List ℕ

-- the byte of a character: ASCII as it is, А to я from 0xC0 on
abbrev byte : Char → ℕ
byte c = cond (ltb (code c) 128) (code c) (code c - 0x350)

abbrev pub bytes : String → Text
bytes []ˢ = []
bytes (c ∷ˢ s) = byte c ∷ bytes s

-- a byte more at the front of the first text
abbrev before : ℕ → List Text → List Text
before b [] = (b ∷ []) ∷ []
before b (t ∷ ts) = (b ∷ t) ∷ ts

-- the texts of a quoted line, parted by spaces
abbrev pub words : String → List Text
words []ˢ = [] ∷ []
words (c ∷ˢ s) = cond (eqb (byte c) 32) ([] ∷ words s) (before (byte c) (words s))
