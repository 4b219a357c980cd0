use Rattle.std.proofs.Common.{ℕ, List, ◌≡◌, ◌<◌, ◌-◌, Option, Some, None, sym, ◌∙◌, ap, length, take, length-take, arith}
use Rattle.std.specs.Prelude.{MatchOption}
use Rattle.std.specs.Array.{IsFirstChunk}
use Rattle.std.specs.Option.{option_eq}
use Rattle.std.specs.Cmp.Lexicographic.{pointwise}
use denote.Ref.{Bor}
use lib.Dec.{eqb}
use Rattle.texts.specs.Texts.{same, between, starts_with}
use Rattle.texts.proofs.Bools.{cases}
use Rattle.texts.proofs.Codes.{same_true}
use Rattle.texts.proofs.Std.{same_pointwise}
use Rattle.swift.proofs.read.has_mark.Goals as goal

-- a text begins with another where its first bytes, as many as that has, are the other
begins-chunk : (t : List ℕ) (m : Bor (List ℕ)) (n : ℕ) (o : Option (Bor (List ℕ))) → length m.now ≡ n
    → MatchOption o (length t < n) (λ y. IsFirstChunk t y.now n)
    → option_eq (λ x y. pointwise eqb x.now y.now) o (Some m) ≡ starts_with t m.now
unfolding between
begins-chunk t m n None l h =
    cases (same (take (length m.now - 0) t) m.now)
    (λ e. absurd (omega (arith, length-take (length m.now - 0) t, ap length (same_true (take (length m.now - 0) t) m.now e))))
    (λ e. sym e)
begins-chunk t m n (Some y) l h =
    let k : length m.now - 0 ≡ n = omega arith in
    same_pointwise y.now m.now ∙ rw (h.same, k)

pub returns : goal.returns
returns N c =
    c.eq.ensures
    ∙ begins-chunk c.part.result.now c.args.mark _ c.first_chunk.result c.told-mark c.first_chunk.ensures.cases
    ∙ ap (λ t. starts_with t c.args.mark.now) c.part.ensures
