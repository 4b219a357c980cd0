-- A refusal is told by its number.
use mathlib.Core.Path.{◌≡◌, refl}
use mathlib.Core.Bool.{cond}
use Prim.Native.Nat.{ℕ}
use lib.Dec.{eqb}
use Rattle.texts.specs.Refusals.{refusal_number}
use Rattle.texts.specs.declared.answers.Refusal.{Refusal}
use Rattle.texts.specs.declared.answers.Refusal.TheVariants.{Malformed, BadLength, UnknownVersion, UnknownField, NoRevision, Clash, WrongSize, BrokenRule, NotBudget, Impossible, NotLines, Undated, UnknownParty, BadCharge, BadPart, BadRegister, Differs, BadPayments, SameArrivals, Unfit}

abbrev pub refusal_of : ℕ → Refusal
refusal_of n = cond (eqb n 1) Malformed (cond (eqb n 2) BadLength (cond (eqb n 3) UnknownVersion (cond (eqb n 4) UnknownField (cond (eqb n 5) NoRevision (cond (eqb n 6) Clash (cond (eqb n 7) WrongSize (cond (eqb n 8) BrokenRule (cond (eqb n 9) NotBudget (cond (eqb n 10) Impossible (cond (eqb n 11) NotLines (cond (eqb n 12) Undated (cond (eqb n 13) UnknownParty (cond (eqb n 14) BadCharge (cond (eqb n 15) BadPart (cond (eqb n 16) BadRegister (cond (eqb n 17) Differs (cond (eqb n 18) BadPayments (cond (eqb n 19) SameArrivals Unfit))))))))))))))))))

pub refusal-of : (r : Refusal) → refusal_of (refusal_number r) ≡ r
refusal-of Malformed = refl
refusal-of BadLength = refl
refusal-of UnknownVersion = refl
refusal-of UnknownField = refl
refusal-of NoRevision = refl
refusal-of Clash = refl
refusal-of WrongSize = refl
refusal-of BrokenRule = refl
refusal-of NotBudget = refl
refusal-of Impossible = refl
refusal-of NotLines = refl
refusal-of Undated = refl
refusal-of UnknownParty = refl
refusal-of BadCharge = refl
refusal-of BadPart = refl
refusal-of BadRegister = refl
refusal-of Differs = refl
refusal-of BadPayments = refl
refusal-of SameArrivals = refl
refusal-of Unfit = refl
