-- What putting into a buffer, writing one text behind another and clearing leave.
use Rattle.std.specs.Prelude.{◌≡◌, cond, List, ℕ, ◌+◌, leb, length, replicate}
use Rattle.texts.specs.Buffers.{put}

-- d with s in it from place at on, where s fits; d where it does not
unfoldable pub put_at : List ℕ → ℕ → List ℕ → List ℕ
put_at d at s = cond (leb (at + length s) (length d)) (put d at s) d

-- t was put into b from place at on, which left e; r is the place behind it
abbrev pub Wrote : List ℕ → ℕ → List ℕ → ℕ → List ℕ → Type 0
Wrote b at t r e = (e ≡ put b at t) × (r ≡ at + length t)

-- as many zero bytes
unfoldable pub zeroed : List ℕ → List ℕ
zeroed d = replicate (length d) 0
