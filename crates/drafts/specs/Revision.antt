-- A revision and the party that gave it, and which of two stands (R-8).
use Rattle.std.specs.Prelude.{◌≡◌, ◌⊎◌, Bool, cond, ◌||◌, ℕ, ◌+◌, ◌*◌, ◌<◌, eqb, ltb, Result, Ok, Err}
use Rattle.drafts.specs.declared.revision.Revision.{Revision}
use Rattle.drafts.specs.declared.revision.Standing.{Standing}
use Rattle.drafts.specs.declared.revision.Standing.TheVariants.{Newer, Same, Older}
use Rattle.texts.specs.declared.answers.Refusal.{Refusal}
use Rattle.texts.specs.declared.answers.Refusal.TheVariants.{Clash}

infix 5 ◌by◌ ◌below◌
-- "1 client or 2 adviser"
abbrev pub client : ℕ
client = 1

abbrev pub adviser : ℕ
adviser = 2

abbrev pub known_party : ℕ → Bool
known_party p = eqb p client || eqb p adviser

pub data Known (p : ℕ) : Type 0 where
  is-client : p ≡ client → Known p
  is-adviser : p ≡ adviser → Known p

-- the revision r of the party p
abbrev pub ◌by◌ : ℕ → ℕ → Revision
r by p = record { number = r; party = record { 0 = p } }

-- "The higher revision stands; at equal revisions the adviser's stands over the client's": by revision, then party
abbrev pub ◌below◌ : Revision → Revision → Type 0
a below b = (a.number < b.number) ⊎ ((a.number ≡ b.number) × (a.party.0 < b.party.0))

-- the same as one number, a party being a byte
abbrev pub rank : Revision → ℕ
rank v = v.number * 256 + v.party.0

-- how a message of the revision v stands to a slot of the revision h, by whether their texts are the same: "higher, stored, "newer"; equal
-- with the same text, "same"; lower, "older""; "Clash 6 needs equal party too"
abbrev pub comparison : Revision → Revision → Bool → Result Standing Refusal
comparison v h alike = cond (ltb (rank h) (rank v)) (Ok Newer) (cond (ltb (rank v) (rank h)) (Ok Older) (cond alike (Ok Same) (Err Clash)))
