-- What the functions of drafts come to, by each way out of them.
use mathlib.Core.Path.{◌≡◌, refl, sym, ap, ◌∙◌}
use mathlib.Core.Logic.{◌↔◌, ⊎_elim}
use mathlib.Core.Bool.{Bool, true, false, cond, not, ◌&&◌, true≢false, false≢true}
use mathlib.Core.List.Memᴰ
use mathlib.Core.List.{List, [], ◌∷◌, ◌++◌, Memᴰ}
use Prim.Native.Nat.{ℕ, ◌+◌, ◌*◌, ◌<◌, ◌≤◌}
use native.Mathlib.Numerals.{add-one}
use native.Mathlib.Omega.{arith}
use borrow.Author.Tests.{ltb-true, ltb-false, eq-eqb, eqb-true, not-true, not-false, le-leb}
use borrow.Author.Rules.{rules}
use mir.Syntax.{w8}
use mir.Val.{Fits}
use lib.Dec.{eqb, ltb}
use lib.ListN.{length, get_or}
use Rattle.texts.specs.Texts.{same}
use Rattle.texts.proofs.Bools.{cases, both}
use Rattle.texts.proofs.Codes.{same_true, same_self}
use Rattle.texts.specs.Numbers.{Bytes}
use Rattle.texts.specs.Buffers.{put}
use Rattle.texts.specs.Working.Writing.{put_at}
use Rattle.texts.proofs.Puts.{put-fits, length-put, put-none, put_next, put_whole}
use Rattle.sheets.specs.Sheet.{slot_count, text_max, cell_size, sheet_size, slot_of}
use Rattle.texts.specs.Answers.{Answer, success, refusal, number_of, passes, answer_by, buffer_by}
use Rattle.drafts.specs.Revision.{rank}
use Rattle.drafts.specs.Message.{IsMessage, version_of, message_field, revision_of, message_text, read_tests, readable, reading_of, read_answer}
use Rattle.drafts.specs.Draft.{slot_size, draft_size, slot_in, slot_revision, slot_cell, slot_text, slot_bytes, slot_with, draft_formed, fresh_draft, slot_comparison, comparison_of, word, draft_by, post_tests, posting_of, stored, posted_to, post_answer, cells, draft_sheet, copy_tests, copying_of, copied_to, copy_answer}
use Rattle.drafts.specs.History.{posted_all}
use Rattle.drafts.specs.Working.Steps.{text_put, sheet_into}
use Rattle.drafts.specs.Promises.{Reads, Postings, Stands, newer as is-newer, same as is_same, older as is-older, clash as is-clash, Posts, Copies}
use Rattle.drafts.specs.declared.revision.Revision.{Revision}
use denote.Enum.Bare.{sameb}
use Rattle.drafts.specs.contracts.revision.Standing.{the_type}
use Rattle.drafts.specs.declared.revision.Standing.{Standing}
use Rattle.texts.specs.declared.answers.Refusal.{Refusal}
use Rattle.texts.specs.declared.answers.Refusal.TheVariants.{Malformed, Clash}
use Rattle.texts.specs.Refusals.{refusal_number}
use Rattle.drafts.proofs.Refused.{refusal_of, refusal-of}
use Rattle.drafts.specs.declared.revision.Standing.TheVariants.{Newer, Same, Older}
use Rattle.drafts.specs.declared.message.Heading.{Heading}
use Rattle.std.specs.Prelude.{Result, Ok, Err}
use Rattle.texts.proofs.Refusals.{no-success, none_of, succeeds, succeeded, refused, unchanged, never, Way, way_out, tested}
use Rattle.drafts.proofs.Messages.{small, readable-means, slotted, reading-is, read_found, text-short, party-known, message-is}
use Rattle.drafts.proofs.Ranks.{clash_test, below_by, rank_same}
use Rattle.drafts.proofs.EndSlots.{post_read, posted-more}
use Rattle.drafts.proofs.Held.{held_by}
use Rattle.drafts.proofs.Reaching.{messages_in, reached}
use Rattle.drafts.proofs.DraftSheets.{length-cell, length-cells, sheet-made, sheet-into}
use Rattle.drafts.proofs.Slots.{length-slot, party-small, formed-means}
use Rattle.drafts.proofs.SlotBytes.{slot-made}
use Rattle.drafts.proofs.Freshening.{fresh-not, fresh-made}

-- ---- post

left-more : (d m e : List ℕ) → Bytes m → e ≡ posted_to d m → (ms : List (List ℕ)) → Postings ms d → Postings (ms ++ (m ∷ [])) e
unfolding posted_all
left-more d m e b q ms L = record {
  draft = q ∙ ap (λ (x : List ℕ). posted_to x m) L.draft ∙ sym (posted-more m fresh_draft ms);
  strings = λ a h.
      ⊎_elim (λ (k : Memᴰ a ms). L.strings a k) (λ (k : Memᴰ a (m ∷ [])). rw (Memᴰ.eq_of_singleton k) b) (Memᴰ.append_cases ms h);
}

-- what was returned, by the answer
posted_of : Answer → Result Standing Refusal
posted_of (success vs) = cond (eqb (get_or vs 0 0) 110) (Ok Newer) (cond (eqb (get_or vs 0 0) 115) (Ok Same) (Ok Older))
posted_of (refusal n vs) = Err (refusal_of n)

posted-of : (r : Result Standing Refusal) (a : Answer) → post_answer r ≡ a → r ≡ posted_of a
unfolding posted_of
posted-of (Ok Newer) a p = ap posted_of p
posted-of (Ok Same) a p = ap posted_of p
posted-of (Ok Older) a p = ap posted_of p
posted-of (Err n) a p = ap Err (sym (refusal-of n)) ∙ ap posted_of p

-- by the revision, the party and the text of the slot
stands_by : (s : List ℕ) (v : Revision) (t : List ℕ) → (slot_revision s).party.0 < 256 → v.party.0 < 256
    → let st = slot_comparison s v t in Stands s v t (posted_of (answer_by (clash_test st) (word st)))
unfolding slot_comparison posted_of
stands_by s v t ps pv =
    let h = slot_revision s in
    cases (ltb (rank h) (rank v)) (λ x. rw x (is-newer (below_by h v ps pv (ltb-true _ _ x))))
    (λ x. rw x
    (cases (ltb (rank v) (rank h)) (λ y. rw y (is-older (below_by v h pv ps (ltb-true _ _ y))))
    (λ y.
    let e : h ≡ v = rank_same h v ps pv (omega (arith, ltb-false (rank h) (rank v) x, ltb-false (rank v) (rank h) y)) in
    rw y (cases (same (slot_text s) t) (λ z. rw z (is_same e (same_true _ _ z))) (λ z. rw z (is-clash e (λ q. true≢false (sym (same_self t) ∙ ap (λ (u : List ℕ). same u t) (sym q) ∙ z))))))))

-- what reading refuses is refused with the same number
not-read : (d m : List ℕ) (n : ℕ) → draft_formed d ≡ true → refusal n [] ≡ reading_of m → (refusal n [] ≡ posting_of d m) × (d ≡ posted_to d m)
unfolding reading_of posting_of posted_to post_tests
not-read d m n w h =
    let o = refused _ (word (comparison_of d m)) n [] (read_tests m) (clash_test (comparison_of d m)) h in
    (rw w o.1, rw (w, o.0))

module _ (d m : List ℕ) (r : Result Standing Refusal) (p : post_answer r ≡ posting_of d m) where
  post-kept : (e : List ℕ) → e ≡ posted_to d m → (r ≡ Ok Newer → ⊥) → e ≡ d
  unfolding posting_of posted_to posted_of
  post-kept e q n =
      q ∙ cases (passes (post_tests d m)) (λ h. rw h (old (comparison_of d m) (posted-of r _ (p ∙ succeeds _ [] (post_tests d m) h)))) (λ h. rw h)
    where
      old : (st : Result Standing Refusal) → r ≡ posted_of (success (word st)) → draft_by st (stored d m) d ≡ d
      old (Ok Newer) h = absurd (n h)
      old (Ok Same) h = refl
      old (Ok Older) h = refl
      old (Err n) h = refl

  post-formed : (r ≡ Err Malformed) ↔ (draft_formed d ≡ false)
  unfolding posting_of post_tests read_tests posted_of
  post-formed = (
    λ h.
        cases (draft_formed d)
        (λ w. absurd (never 1 (word (comparison_of d m)) (read_tests m ++ clash_test (comparison_of d m)) (λ z. omega arith) refl (ap number_of (rw w at (sym p ∙ ap post_answer h)))))
        (λ w. w),
    λ w. posted-of r (refusal 1 []) (p ∙ rw w),
  )

  module _ (w : draft_formed d ≡ true) where
    post-refused : (n : Refusal) → reading_of m ≡ refusal (refusal_number n) [] → r ≡ Err n
    unfolding posted_of
    post-refused n h = posted-of r (refusal (refusal_number n) []) (p ∙ sym (not-read d m (refusal_number n) w (sym h)).0) ∙ ap Err (refusal-of n)

    post-stands : (u f : ℕ) (v : Revision) (t : List ℕ) → IsMessage m u f v t → Stands (slot_in d (slot_of f)) v t r
    unfolding comparison_of reading_of readable
    post-stands u f v t M =
        let (R, _, ef, ev, et) = message-is m u f v t M in
        let z = (succeeded _ _ (read_tests m) (sym (reading-is m R))).0 in
        let o = (post_read d m (comparison_of d m) w z refl).0 in
        let k = slot_of (message_field m) in
        let b = party-small (slot_in d k) ((formed-means d w).slot k (slotted (message_field m) R.listed).1) in
        rw (posted-of r _ (p ∙ sym o), ← ef, ← ev, ← et) (stands_by (slot_in d k) (revision_of m) (message_text m) b (small _ (party-known m z)))

-- the promise of `post`, from its two equations
posts-by : (d m : List ℕ) (r : Result Standing Refusal) (e : List ℕ) → ((k : ℕ) → Fits w8 (get_or m k 0)) → post_answer r ≡ posting_of d m → e ≡ posted_to d m → Posts d m r e
posts-by d m r e h p q = record {
  answer = p;
  draft = q;
  refused = post-kept d m r p e q;
  malformed = post-formed d m r p;
  unread = post-refused d m r p;
  stands = post-stands d m r p;
  after = left-more d m e (λ k. (h k).fits) q;
  held = λ ms L. held_by (ms ++ (m ∷ [])) e (left-more d m e (λ k. (h k).fits) q ms L);
  reached = λ b f. (messages_in d slot_count, reached d b f);
}

-- the one refusal of a comparison
clash-among : (x y z : Bool) (c n : Refusal) → cond x (Ok Newer) (cond y (Ok Older) (cond z (Ok Same) (Err c))) ≡ Err n → c ≡ n
clash-among true y z c n e = let o : ◌≡◌ {A = ℕ} 0 1 = cc in absurd (omega arith)
clash-among false true z c n e = let o : ◌≡◌ {A = ℕ} 0 1 = cc in absurd (omega arith)
clash-among false false true c n e = let o : ◌≡◌ {A = ℕ} 0 1 = cc in absurd (omega arith)
clash-among false false false c n e = cc

clash-is : (s : List ℕ) (v : Revision) (t : List ℕ) (n : Refusal) → slot_comparison s v t ≡ Err n → Clash ≡ n
unfolding slot_comparison
clash-is s v t n e = clash-among (ltb (rank (slot_revision s)) (rank v)) (ltb (rank v) (rank (slot_revision s))) (same (slot_text s) t) _ n e

module _ (d m : List ℕ) (h : (k : ℕ) → Fits w8 (get_or m k 0)) (b : Bool) (eb : b ≡ draft_formed d) where
  pub post-malformed : not b ≡ true → Posts d m (Err Malformed) d
  unfolding posting_of posted_to post_tests
  post-malformed n = posts-by d m _ d h (rw (← eb, not-true b n)) (rw (← eb, not-true b n))

  module _ (nb : b ≡ true) (rd : Result Heading Refusal) (R : Reads m rd) where
    formed : draft_formed d ≡ true
    formed = sym eb ∙ nb

    pub post-unread : (n : Refusal) → rd ≡ Err n → Posts d m (Err n) d
    post-unread n e = let p = not-read d m (refusal_number n) formed (ap read_answer (sym e) ∙ R.answer) in posts-by d m _ d h p.0 p.1

    module _ (g : Heading) (er : rd ≡ Ok g) (t : List ℕ) (et : t ≡ message_text m) where
      found : (readable m ≡ true) × (g.version.0 ≡ version_of m) × (g.field.0 ≡ message_field m) × (g.revision ≡ revision_of m)
      found = read_found m g (ap read_answer (sym er) ∙ R.answer)

      pub post-short : length t ≤ text_max
      post-short = rw et (text-short m found.0)

      module _ (k : ℕ) (ek : k ≡ slot_of g.field.0) (s : List ℕ) (es : s ≡ slot_in d k) (st : Result Standing Refusal) (est : st ≡ slot_comparison s g.revision t) where
        slot_is : k ≡ slot_of (message_field m)
        slot_is = ek ∙ ap slot_of found.2

        stood : st ≡ comparison_of d m
        unfolding comparison_of
        stood =
            est ∙ ap (λ (x : Revision). slot_comparison s x t) found.3 ∙ ap (λ (x : List ℕ). slot_comparison s (revision_of m) x) et ∙ ap (λ (x : List ℕ). slot_comparison x (revision_of m) (message_text m)) (es ∙ ap (slot_in d) slot_is)

        -- what a standing is answered with, and what it leaves
        post-stood : (x : Result Standing Refusal) → st ≡ x → post_answer x ≡ answer_by (clash_test x) (word x) → (e : List ℕ) → e ≡ buffer_by (clash_test x) (draft_by x (stored d m) d) d → Posts d m x e
        post-stood x q a e w = let p = post_read d m x formed found.0 (sym q ∙ stood) in posts-by d m x e h (a ∙ p.0) (w ∙ p.1)

        put-is : text_put d k g.revision t ≡ stored d m
        unfolding stored slot_with text_put
        put-is =
            let n = (slotted (message_field m) (readable-means m found.0).listed).1 in
            let l = length-slot g.revision t post-short in
            let z = (formed-means d formed).sized in
            rw (le-leb _ _ post-short) (put-fits d (k * slot_size) (slot_bytes g.revision t) (omega (arith, slot_is)))
            ∙ ap (λ (x : List ℕ). put d (k * slot_size) x) (ap (λ (x : Revision). slot_bytes x t) found.3 ∙ ap (slot_bytes (revision_of m)) et)
            ∙ ap (λ (x : ℕ). put d (x * slot_size) (slot_bytes (revision_of m) (message_text m))) slot_is

        module _ (z : Bool) where
          pub post-newer : (e : List ℕ) (x : Standing) → st ≡ Ok x → z ≡ sameb the_type x Newer → z ≡ true → e ≡ text_put d k g.revision t → Posts d m (Ok x) e
          post-newer e Newer q n y w = post-stood (Ok Newer) q refl e (w ∙ put-is)
          post-newer e Same q n y w = absurd (false≢true (sym n ∙ y))
          post-newer e Older q n y w = absurd (false≢true (sym n ∙ y))

          -- the draft as it was
          pub post-still : (x : Standing) → st ≡ Ok x → z ≡ sameb the_type x Newer → z ≡ false → Posts d m (Ok x) d
          post-still Newer q n y = absurd (true≢false (sym n ∙ y))
          post-still Same q n y = post-stood (Ok Same) q refl d refl
          post-still Older q n y = post-stood (Ok Older) q refl d refl

        pub post-clash : (n : Refusal) → st ≡ Err n → Posts d m (Err n) d
        post-clash n q = post-stood (Err n) q (ap (λ (x : Refusal). post_answer (Err x)) (sym (clash-is s g.revision t n (sym est ∙ q)))) d refl

-- ---- put_sheet: the cells of the first n slots stand in what was there before

module _ (d s : List ℕ) (l : length d ≡ draft_size) (z : length s ≡ sheet_size) where
  pub cells-none : s ≡ put s 0 (cells d 0)
  unfolding cells
  cells-none = sym (put-none s)

  module _ (x : List ℕ) (n : ℕ) (ex : x ≡ put s 0 (cells d n)) where
    pub cells-more : (u c y : List ℕ) (w : ℕ) → n < slot_count → u ≡ slot_in d n → c ≡ slot_cell u → w ≡ n → y ≡ put_at x (w * cell_size) c → y ≡ put s 0 (cells d (n + 1))
    unfolding cells
    cells-more u c y w h eu ec ew ey =
        let lc : length c ≡ cell_size = rw (ec, eu) (length-cell d l n h) in
        let p : put_at x (n * cell_size) c ≡ put s 0 (cells d n ++ c) = put_next s (cells d n) c x (n * cell_size) (length-cells d l n (omega arith)) (omega arith) ex in
        ey ∙ rw (ew, p, add-one, ec, eu)

    pub cells-length : n ≤ slot_count → length x ≡ length s
    cells-length h = ap length ex ∙ length-put s 0 (cells d n) (omega (arith, length-cells d l n h))

    pub cells-all : n ≤ slot_count → slot_count ≤ n → x ≡ sheet_into d s
    unfolding draft_sheet
    cells-all h g =
        let e : n ≡ slot_count = omega arith in
        ex ∙ rw e (put_whole s (cells d slot_count) (length-cells d l slot_count (omega arith) ∙ sym z)) ∙ sym (sheet-into d s l z)

pub sheet-other : (d s : List ℕ) → ((length d ≡ draft_size) × (length s ≡ sheet_size) → ⊥) → s ≡ sheet_into d s
unfolding sheet_into
sheet-other d s n =
    cases (eqb (length d) draft_size && eqb (length s) sheet_size)
    (λ t. let p = both (eqb (length d) draft_size) (eqb (length s) sheet_size) t in absurd (n (eqb-true _ _ p.0, eqb-true _ _ p.1)))
    (λ t. rw t)

-- ---- copy

copied-made : (r : Result Unit Refusal) → copy_answer r ≡ success [] → r ≡ Ok tt
copied-made (Ok tt) e = refl
copied-made (Err n) e = absurd (no-success (refusal_number n) [] [] e)

copy-means : (d s : List ℕ) (r : Result Unit Refusal) → copy_answer r ≡ copying_of d s → r ≡ Ok tt → (draft_formed d ≡ true) × (length s ≡ sheet_size)
unfolding copying_of copy_tests
copy-means d s r p o =
    let z = none_of (copy_tests d s) (succeeded [] [] (copy_tests d s) (ap copy_answer (sym o) ∙ p)).0 in
    (not-false _ z.0, eqb-true _ _ (not-false _ z.1.0))

-- the promise of `copy`, from its two equations
copies-by : (d s : List ℕ) (r : Result Unit Refusal) (e : List ℕ) → copy_answer r ≡ copying_of d s → e ≡ copied_to d s → Copies d s r e
unfolding copying_of copied_to copy_tests
copies-by d s r e p q = record {
  answer = p;
  sheet = q;
  refused = λ n. q ∙ unchanged [] _ _ (copy_tests d s) (λ z. n (copied-made r (p ∙ z)));
  exactly = (copy-means d s r p, λ c. copied-made r (p ∙ simp (c.0, eq-eqb _ _ c.1)));
  made =
      λ o.
      let c = copy-means d s r p o in
      let u : e ≡ draft_sheet d = q ∙ simp (c.0, eq-eqb _ _ c.1) in
      rw u (sheet-made d c.0);
}

pub copy-out : (k : ℕ) (d s : List ℕ) (r : Result Unit Refusal) (e : List ℕ) → Way [] (draft_sheet d) s (copy_answer r) e (Copies d s r e) k (copy_tests d s)
unfolding copying_of copied_to
copy-out k d s r e = way_out _ _ _ _ e _ k (copy_tests d s) (copies-by d s r e)

pub copy-made : (d s : List ℕ) (b : Bool) (o x e : List ℕ) → e ≡ x → x ≡ sheet_into d o → length o ≡ sheet_size → length s ≡ sheet_size → b ≡ draft_formed d → not b ≡ false → e ≡ draft_sheet d
copy-made d s b o x e ee ex lo z eb nb =
    let sized = (formed-means d (sym eb ∙ not-false b nb)).sized in
    let ed : x ≡ draft_sheet d = ex ∙ sheet-into d o sized lo in
    ee ∙ ed

pub ruleset begins = (rules, slot-made, fresh-not, fresh-made)

pub ruleset posts = (rules, post-malformed, post-unread, post-short, post-newer, post-still, post-clash)

pub ruleset sheets = (rules, cells-none, cells-more, cells-length, cells-all)

pub ruleset copies = (rules, tested, copy-made)
