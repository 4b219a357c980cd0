-- The first half of demand 3, from what Arrangements shows. It stands by itself, so that a must-fail edit of its parts is refused by them.
use mathlib.Core.Path.{◌≡◌, sym, ap, ◌∙◌}
use mathlib.Core.List.Permᴰ
use mathlib.Core.List.{List}
use Prim.Native.Nat.{ℕ, ◌<◌}
use Rattle.sheets.specs.Sheet.{slot_count}
use Rattle.drafts.specs.Draft.{slot_in}
use Rattle.drafts.specs.History.{posted_all, names, end_slot, AllBytes, those}
use Rattle.drafts.specs.Promises.{Postings, Held}
use Rattle.drafts.proofs.Slots.{formed-by}
use Rattle.drafts.proofs.EndSlots.{all-formed, all-slot, ends-right}
use Rattle.drafts.proofs.Arrangements.{slots-ext, perm-mem, end-perm, single-agrees, distinct-agree, end-named, named-alone}

-- the first half of demand 3
pub held_by : (ms : List (List ℕ)) (d : List ℕ) → Postings ms d → Held ms d
held_by ms d L =
    let b = L.strings in
    rw L.draft
    (record {
      formed = formed-by (posted_all ms) (all-formed ms b);
      slot = all-slot ms b;
      ends = λ i l. rw (all-slot ms b i l) (ends-right i ms);
      arranged =
          λ agree ns p.
          let c : AllBytes ns = λ m h. b m (perm-mem (Permᴰ.symm p) h) in
          slots-ext (posted_all ns) (posted_all ms) (all-formed ns c).sized (all-formed ms b).sized
          (λ i l. all-slot ns c i l ∙ sym (end-perm ms ns agree p i) ∙ sym (all-slot ms b i l));
      single = single-agrees;
      distinct = distinct-agree ms;
      named = λ i l ns c e. alike-by i l ns c e;
      alone =
          λ p i l w ns c x e.
          alike-by i l ns c (sym (named-alone p i ns x) ∙ ap (those (names i)) e ∙ named-alone p i ms w);
    })
  where
    alike-by : (i : ℕ) → i < slot_count → (ns : List (List ℕ)) → AllBytes ns → those (names i) ns ≡ those (names i) ms → slot_in (posted_all ns) i ≡ slot_in (posted_all ms) i
    alike-by i l ns c e =
        all-slot ns c i l ∙ sym (end-named i ns) ∙ ap (end_slot i) e ∙ end-named i ms ∙ sym (all-slot ms L.strings i l)
