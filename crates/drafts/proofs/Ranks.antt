-- The rank of a message and of a slot, which decides what a slot holds: all that the account of a list of postings asks of it.
use mathlib.Core.Path.{◌≡◌, refl, ap}
use mathlib.Core.Logic.{inl, inr, ⊎_elim}
use mathlib.Core.Bool.{true, cond}
use mathlib.Core.List.{List, [], ◌∷◌}
use Prim.Native.Nat.{ℕ, ◌<◌, ◌≤◌}
use native.Mathlib.Decide.{dec_lt}
use native.Mathlib.Omega.{arith}
use lib.Dec.{ltb}
use lib.ListN.{length}
use Rattle.texts.specs.Texts.{same}
use Rattle.texts.specs.Answers.{Test, ◌refuses◌, buffer_by}
use Rattle.texts.specs.Numbers.{Bytes}
use Rattle.texts.proofs.Bools.{cases}
use Rattle.sheets.specs.Sheet.{slot_of}
use Rattle.drafts.specs.Revision.{◌below◌, rank}
use Rattle.drafts.specs.Message.{message_field, revision_of, message_text, readable}
use Rattle.drafts.specs.Draft.{slot_size, slot_in, slot_revision, slot_text, slot_formed, rank_of, slot_with, slot_comparison, comparison_of, clashes, draft_by}
use Rattle.drafts.specs.History.{empty_slot}
use Rattle.drafts.specs.Working.Steps.{slot_rank}
use Rattle.drafts.specs.declared.revision.Standing.{Standing}
use Rattle.texts.specs.declared.answers.Refusal.{Refusal}
use Rattle.std.specs.Prelude.{Result}
use Rattle.drafts.specs.declared.revision.Revision.{Revision}
use Rattle.drafts.proofs.Messages.{revision-is, small, readable-means, text-short, party-known, revision-fits}
use Rattle.drafts.proofs.Slots.{length-slot, slot-revision, slot-formed}

-- ---- a readable message m, and the slot that holds it

module _ (m : List ℕ) (z : readable m ≡ true) where
  pub rank-above : 0 < rank_of m
  unfolding rank_of
  rank-above = let n = (readable-means m z).revised in omega arith

  pub length-with : length (slot_with m) ≡ slot_size
  unfolding slot_with
  length-with = length-slot (revision_of m) (message_text m) (text-short m z)

  module _ (b : Bytes m) where
    pub rank-with : slot_rank (slot_with m) ≡ rank_of m
    unfolding rank_of slot_rank slot_with
    rank-with = ap rank (slot-revision (revision_of m) (message_text m) (revision-fits m b))

    pub with-formed : slot_formed (slot_with m) ≡ true
    unfolding slot_with
    with-formed = slot-formed (revision_of m) (message_text m) (revision-fits m b) (readable-means m z).revised (party-known m z) (text-short m z)

-- messages of one revision, party and text make one slot
pub with-same : (a b : List ℕ) → revision_of a ≡ revision_of b → message_text a ≡ message_text b → slot_with a ≡ slot_with b
unfolding slot_with
with-same a b r t = rw (r, t)

pub empty-rank : slot_rank empty_slot ≡ 0
unfolding slot_rank empty_slot slot_revision
empty-rank = refl

-- ---- what the order of ranks means: by revision, then party

module _ (a b : Revision) (p : a.party.0 < 256) (q : b.party.0 < 256) where
  pub below_by : rank a < rank b → a below b
  below_by h = elim (dec_lt a.number b.number) [ yes l ↦ inl l | no n ↦ inr (omega arith, omega arith) ]

  pub by-below : a below b → rank a < rank b
  by-below h = ⊎_elim (λ l. omega arith) (λ e. omega arith) h

  pub rank_same : rank a ≡ rank b → a ≡ b
  rank_same e = revision-is a b.number b.party.0 (omega arith) (omega arith)

-- of readable messages
module _ (a b : List ℕ) (y : readable a ≡ true) (z : readable b ≡ true) where
  pub rank_below : rank_of a < rank_of b → revision_of a below revision_of b
  unfolding rank_of
  rank_below = below_by (revision_of a) (revision_of b) (small _ (party-known a y)) (small _ (party-known b z))

  pub rank-not-below : rank_of b ≤ rank_of a → revision_of a below revision_of b → ⊥
  unfolding rank_of
  rank-not-below h l = omega (arith, by-below (revision_of a) (revision_of b) (small _ (party-known a y)) (small _ (party-known b z)) l)

  pub rank-equal : rank_of a ≡ rank_of b → revision_of a ≡ revision_of b
  unfolding rank_of
  rank-equal = rank_same (revision_of a) (revision_of b) (small _ (party-known a y)) (small _ (party-known b z))

-- what a readable message is tested for last
abbrev pub clash_test : Result Standing Refusal → List Test
clash_test st = (clashes st refuses 6) ∷ []

-- only a message of a higher rank changes the draft
pub rank-draft : (d m new : List ℕ)
    → buffer_by (clash_test (comparison_of d m)) (draft_by (comparison_of d m) new d) d ≡ cond (ltb (slot_rank (slot_in d (slot_of (message_field m)))) (rank_of m)) new d
unfolding rank_of slot_rank comparison_of slot_comparison
rank-draft d m new =
    let s = slot_in d (slot_of (message_field m)) in
    cases (ltb (rank (slot_revision s)) (rank (revision_of m))) (λ x. rw x)
    (λ x. rw x (cases (ltb (rank (revision_of m)) (rank (slot_revision s))) (λ y. rw y) (λ y. rw y (cases (same (slot_text s) (message_text m)) (λ z. rw z) (λ z. rw z)))))
