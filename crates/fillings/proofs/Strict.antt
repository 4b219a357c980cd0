-- The order of fillings is strict. This stands by itself, so that a must-fail edit can mend it for a wrong order, which the list of fillings refuses.
use mathlib.Core.Path.{◌≡◌, ap, subst}
use Prim.Native.Nat.{ℕ, ◌<◌}
use native.Mathlib.Decide.{dec_lt}
use native.Mathlib.Omega.{arith}
use Rattle.sheets.specs.Sheet.{Sheet, cell_of}
use Rattle.fillings.specs.Fillings.{Lists, choices, entry_place, Earlier}

pub earlier-strict : {L : Lists} (s g f : Sheet) → Earlier L s g f → Earlier L s f g → ⊥
earlier-strict {L} s g f v w =
    elim (dec_lt v.at w.at) [
      | yes h ↦ omega (arith, v.less, ap (entry_place (choices L s v.at)) (w.same v.at h))
      | no h ↦
          elim (dec_lt w.at v.at) [
            | yes k ↦ omega (arith, w.less, ap (entry_place (choices L s w.at)) (v.same w.at k))
            | no k ↦
                let e : w.at ≡ v.at = omega arith in
                omega (arith, v.less, subst (λ (i : ℕ). entry_place (choices L s i) (cell_of f i) < entry_place (choices L s i) (cell_of g i)) e w.less)
          ]
    ]
