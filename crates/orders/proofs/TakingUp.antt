-- R-9: posting any choice of the proposed values takes them up.
use mathlib.Core.Path.{◌≡◌, refl, sym, ap, ◌∙◌, subst}
use mathlib.Core.Bool.{Bool, true, false, cond, ◌&&◌, ◌||◌, and-false, false≢true}
use mathlib.Core.List.{List, [], ◌∷◌, ◌++◌, map, Memᴰ}
use Prim.Native.Nat.{ℕ, ◌<◌, max}
use native.Mathlib.Omega.{arith}
use borrow.Author.Tests.{lt-ltb, le-ltb}
use lib.Dec.{ltb}
use lib.ListN.{length}
use Rattle.texts.specs.Texts.{any}
use Rattle.texts.specs.Answers.{success}
use Rattle.texts.proofs.Refusals.{unchanged}
use Rattle.sheets.specs.Sheet.{slot_count, cell, cell_text, cell_of, text_of, sheet_size}
use Rattle.sheets.specs.declared.dates.Dates.{Dates}
use Rattle.sheets.proofs.Frames.{text-cell}
use Rattle.rules.specs.Rules.{keeps_all}
use Rattle.drafts.specs.Revision.{◌below◌}
use Rattle.drafts.specs.Message.{revision_of, message_text}
use Rattle.drafts.specs.Draft.{slot_in, slot_cell, slot_revision, slot_with, rank_of, draft_sheet}
use Rattle.drafts.specs.History.{posted_from, names, rank_in, highest, first_of}
use Rattle.drafts.specs.Working.Steps.{slot_rank}
use Rattle.drafts.proofs.Messages.{small, text-short, party-known}
use Rattle.drafts.proofs.Ranks.{by-below}
use Rattle.drafts.proofs.Slots.{slot-cell, party-small, Formed, formed-means, formed-by}
use Rattle.drafts.proofs.DraftSheets.{length-sheet, sheet-cell}
use Rattle.drafts.proofs.Reaching.{messages_in, reached}
use Rattle.drafts.proofs.EndSlots.{named, ranked, posted-list, top-at, bound}
use Rattle.fillings.specs.Fillings as of
use Rattle.fillings.proofs.First.{found_first}
use Rattle.orders.specs.Fillings.{list_of, to_fill}
use Rattle.orders.specs.Complete.{complete_answer, complete_tests, completing, completed}
use Rattle.orders.specs.Whole.{Completes}
use Rattle.orders.specs.declared.complete.Filled.{Filled}
use Rattle.orders.specs.declared.complete.Incomplete.{Incomplete}
use Rattle.std.specs.Prelude.{Result}
use Rattle.orders.specs.Again.{Choice, chosen_by, CompletesAgain}
use Rattle.orders.proofs.Lists.{proper}
use Rattle.orders.proofs.Whole.{length-draftSheet, filled_of, malformed-by, sized-by, undated-by}
use Rattle.orders.proofs.WholeLaw.{whole-law}
use Rattle.orders.proofs.Taking.{Takes, was-formed, was-found, taken-completes}

-- ---- lists of messages

some_of : {A : Type 0} (p : A → Bool) (l : List A) → any p l ≡ true → (x : A) × Memᴰ x l × (p x ≡ true)
unfolding any
some_of p [] h = absurd (false≢true h)
some_of {A} p (x ∷ l) h = go (p x) refl h (λ k. some_of p l k)
  where
    go : (b : Bool) → p x ≡ b → (b || any p l) ≡ true → (any p l ≡ true → (y : A) × Memᴰ y l × (p y ≡ true)) → (y : A) × Memᴰ y (x ∷ l) × (p y ≡ true)
    go true e k r = (x, mathlib.Core.List.Memᴰ.head refl, e)
    go false e k r = let w = r k in (w.0, mathlib.Core.List.Memᴰ.tail w.1, w.2)

none-names : (i : ℕ) (ms : List (List ℕ)) → any (names i) ms ≡ false → highest i ms ≡ 0
unfolding any rank_in
none-names i [] h = refl
none-names i (m ∷ ms) h = go (names i m) h (none-names i ms)
  where
    go : (b : Bool) → (b || any (names i) ms) ≡ false → (any (names i) ms ≡ false → highest i ms ≡ 0) → max (cond b (rank_of m) 0) (highest i ms) ≡ 0
    go true k r = absurd (false≢true (sym k))
    go false k r = omega (arith, r k)

module _ (D : Dates) (d b : List ℕ) (n set k : ℕ) (done : completing D d b ≡ success (n ∷ set ∷ k ∷ [])) where
  -- a proposed value is the cell of its text
  pub proposed-cell : (i : ℕ) → i < 15 → to_fill D (draft_sheet d) i ≡ true → cell (text_of (completed D d b) i) ≡ cell_of (completed D d b) i
  unfolding of.choices text_of
  proposed-cell i l h =
      let f = (found_first (proper D) (draft_sheet d) (length-draftSheet d (was-formed D d b n set k done)) (keeps_all D) n (completed D d b) (was-found D d b n set k done)).filling in
      let w = mathlib.Core.List.Memᴰ.of_map cell (list_of D i) (rw h at (f.slot i l)) in
      ap cell (ap cell_text (sym w.2) ∙ text-cell w.0) ∙ w.2

module _ (D : Dates) (d b : List ℕ) (n set k : ℕ) (ms : List (List ℕ)) (done : completing D d b ≡ success (n ∷ set ∷ k ∷ [])) (C : Choice D d (completed D d b) ms) where
  formed : Formed d
  formed = formed-means d (was-formed D d b n set k done)

  posted : Formed (posted_from d ms) × ((i : ℕ) → slot_in (posted_from d ms) i ≡ cond (ltb (slot_rank (slot_in d i)) (highest i ms)) (slot_with (first_of i (highest i ms) ms)) (slot_in d i))
  posted = posted-list d ms formed C.strings

  slot-taken : (i : ℕ) → i < 15 → cell_of (draft_sheet (posted_from d ms)) i ≡ cond (to_fill D (draft_sheet d) i && chosen_by ms i) (cell_of (completed D d b) i) (cell_of (draft_sheet d) i)
  unfolding slot_rank slot_with rank_of
  slot-taken i l = sheet-cell (posted_from d ms) posted.0.sized i l ∙ ap slot_cell (posted.1 i) ∙ go (chosen_by ms i) refl
    where
      go : (c : Bool) → chosen_by ms i ≡ c
          → slot_cell (cond (ltb (slot_rank (slot_in d i)) (highest i ms)) (slot_with (first_of i (highest i ms) ms)) (slot_in d i)) ≡ cond (to_fill D (draft_sheet d) i && c) (cell_of (completed D d b) i) (cell_of (draft_sheet d) i)
      go false e = rw (none-names i ms e, le-ltb (slot_rank (slot_in d i)) 0 (omega arith), and-false) (sym (sheet-cell d formed.sized i l))
      go true e =
          let (m, p, q) = some_of (names i) ms e in
          let w = named i m q in
          let h = by-below (slot_revision (slot_in d i)) (revision_of m) (party-small (slot_in d i) (formed.slot i l)) (small _ (party-known m w.0)) (subst (λ (j : ℕ). slot_revision (slot_in d j) below revision_of m) w.1 (C.above m p)) in
          let a : slot_rank (slot_in d i) < highest i ms = omega (arith, h, bound i p, w.2) in
          let T = top-at i ms (omega arith) in
          let t = first_of i (highest i ms) ms in
          let tm : Memᴰ t ms = subst (Memᴰ t) (sym T.split) (mathlib.Core.List.Memᴰ.append_right T.before (mathlib.Core.List.Memᴰ.head refl)) in
          let tn = named i t (ranked i t (omega (arith, T.rank))) in
          let f : to_fill D (draft_sheet d) i ≡ true = ap (to_fill D (draft_sheet d)) (sym tn.1) ∙ C.proposed t tm in
          rw (lt-ltb (slot_rank (slot_in d i)) (highest i ms) a, f)
          (slot-cell (revision_of t) (message_text t) (text-short t tn.0) ∙ ap cell (C.value t tm ∙ ap (text_of (completed D d b)) tn.1) ∙ proposed-cell D d b n set k done i l f)

  takes : Takes D (chosen_by ms) d b n set k (posted_from d ms)
  takes = record {
    success = done;
    formed = formed-by (posted_from d ms) posted.0;
    taken = record { sized = length-sheet (posted_from d ms) posted.0.sized; slot = slot-taken };
  }

  -- "For every completed draft, post any choice of the proposed values .. At the same date and record the draft must then complete to the
  -- very same sheet, and its count must be no larger than before"
  pub taken-up-completes : (c : List ℕ) → length c ≡ sheet_size → CompletesAgain D (chosen_by ms) d b n (posted_from d ms) c
  taken-up-completes c size = taken-completes D (chosen_by ms) d b n set k (posted_from d ms) c takes size

-- ---- the promise of `complete`, from the two equations that its code is proved to meet

pub completes-by : (D : Dates) (d b : List ℕ) (r : Result Filled Incomplete) (t : List ℕ) → complete_answer r ≡ completing D d b → t ≡ completed D d b → Completes D d b r t
unfolding completing completed
completes-by D d b r t p q = record {
  answer = p;
  sheet = q;
  refused = λ h. q ∙ unchanged _ _ _ (complete_tests D d b) (λ e. h _ (filled_of r _ _ _ (p ∙ e)));
  malformed = rw p (malformed-by D d b);
  sized = rw p (sized-by D d b);
  undated = rw p (undated-by D d b);
  whole = λ ms L. rw (p, q) (whole-law D ms d b L);
  reached = λ B f. let L = reached d B f in (messages_in d slot_count, L, rw (p, q) (whole-law D (messages_in d slot_count) d b L));
  again = λ n set k e ms C c size. taken-up-completes D d b n set k ms (sym p ∙ e) (subst (λ (u : List ℕ). Choice D d u ms) q C) c size;
}
