-- Inputs and their messages, computed.
use mathlib.Core.Path.{◌≡◌, refl}
use mathlib.Core.List.{List, [], ◌∷◌, ◌++◌}
use Prim.Native.Nat.{ℕ}
use Rattle.texts.specs.Quoted.{bytes}
use Rattle.drafts.specs.Working.Computing.{drafts_computing}
use Rattle.orders.specs.Stream.{piece_of, ends_stream, pieces, messages_of}

-- document 01's message; one of version 2; one of version 3, refused with 3, and another with L of 32; one with L of 2, and one of version
-- 2 with L of 6, refused with 2
bik : List ℕ
bik = 0 ∷ 10 ∷ 1 ∷ 14 ∷ 0 ∷ 0 ∷ 0 ∷ 1 ∷ bytes "0045"

version2 : List ℕ
version2 = 0 ∷ 7 ∷ 2 ∷ 1 ∷ 14 ∷ 0 ∷ 0 ∷ 0 ∷ 1 ∷ []

version3 : List ℕ
version3 = 0 ∷ 6 ∷ 3 ∷ 14 ∷ 0 ∷ 0 ∷ 0 ∷ 1 ∷ []

long3 : List ℕ
long3 = 0 ∷ 32 ∷ 3 ∷ bytes "0123456789012345678901234567890"

short : List ℕ
short = 0 ∷ 2 ∷ 1 ∷ 14 ∷ []

short2 : List ℕ
short2 = 0 ∷ 6 ∷ 2 ∷ 1 ∷ 14 ∷ 0 ∷ 0 ∷ 0 ∷ []

messages :
    -- no message, one, and three: a 3 does not end the stream
    (messages_of [] ≡ [])
    × (messages_of bik ≡ bik ∷ [])
    × (messages_of (bik ++ version3 ++ bik) ≡ bik ∷ version3 ∷ bik ∷ [])
    × (messages_of (version2 ++ long3 ++ bik) ≡ version2 ∷ long3 ∷ bik ∷ [])
    -- "or what is left if that is less"
    × (messages_of (bik ++ (0 ∷ 10 ∷ 1 ∷ 14 ∷ [])) ≡ bik ∷ (0 ∷ 10 ∷ 1 ∷ 14 ∷ []) ∷ [])
    -- "After a 2 it stops reading"
    × (messages_of (bik ++ short ++ bik) ≡ bik ∷ short ∷ [])
    × (messages_of (version2 ++ short2 ++ version2) ≡ version2 ∷ short2 ∷ [])
unfolding bik version2 version3 long3 short short2 messages_of pieces piece_of ends_stream drafts_computing
messages = (refl, refl, refl, refl, refl, refl, refl)
