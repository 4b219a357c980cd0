-- A refusal's number tells the refusal.
use mathlib.Core.Path.{◌≡◌, refl}
use mathlib.Core.List.{[], ◌∷◌}
use Prim.Native.Nat.{ℕ}
use lib.ListN.{get_or}
use Rattle.texts.specs.Refusals.{refusal_number}
use Rattle.texts.specs.declared.answers.Refusal.{Refusal}
use Rattle.texts.specs.declared.answers.Refusal.TheVariants.{Malformed, BadLength, UnknownVersion, UnknownField, NoRevision, Clash, WrongSize, BrokenRule, NotBudget, Impossible, NotLines, Undated, UnknownParty, BadCharge, BadPart, BadRegister, Differs, BadPayments, SameArrivals, Unfit}

abbrev pub refusal_of : ℕ → Refusal
refusal_of n =
    get_or
    (Malformed ∷ Malformed ∷ BadLength ∷ UnknownVersion ∷ UnknownField ∷ NoRevision ∷ Clash ∷ WrongSize ∷ BrokenRule ∷ NotBudget ∷ Impossible ∷ NotLines ∷ Undated
    ∷ UnknownParty ∷ BadCharge ∷ BadPart ∷ BadRegister ∷ Differs ∷ BadPayments ∷ SameArrivals ∷ Unfit ∷ [])
    n Malformed

pub refusal-back : (n : Refusal) → refusal_of (refusal_number n) ≡ n
refusal-back Malformed = refl
refusal-back BadLength = refl
refusal-back UnknownVersion = refl
refusal-back UnknownField = refl
refusal-back NoRevision = refl
refusal-back Clash = refl
refusal-back WrongSize = refl
refusal-back BrokenRule = refl
refusal-back NotBudget = refl
refusal-back Impossible = refl
refusal-back NotLines = refl
refusal-back Undated = refl
refusal-back UnknownParty = refl
refusal-back BadCharge = refl
refusal-back BadPart = refl
refusal-back BadRegister = refl
refusal-back Differs = refl
refusal-back BadPayments = refl
refusal-back SameArrivals = refl
refusal-back Unfit = refl
