-- The promises of `read` and `write`, and their ways out.
use mathlib.Core.Path.{◌≡◌, refl, sym, ap, ◌∙◌}
use mathlib.Core.Bool.{Bool, true, false, not}
use mathlib.Core.List.{List, [], ◌∷◌}
use Prim.Native.Nat.{ℕ, ◌+◌, ◌-◌, ◌≤◌, ◌<◌}
use native.Mathlib.Omega.{arith}
use borrow.Author.Tests.{ne_eqb, ltb-false}
use borrow.Author.Rules.{rules}
use Rattle.std.specs.Prelude.{Result, Ok, Err}
use mir.Syntax.{w8, w32, w64}
use mir.Val.{Fits}
use lib.Dec.{eqb, ltb}
use lib.ListN.{length, take, drop, get_or, length-drop}
use lib.Seq.{take_all, get_or-take, get_or-drop}
use Rattle.texts.specs.Answers.{success}
use Rattle.texts.specs.Texts.{between}
use Rattle.texts.specs.Numbers.{big, bytes_of, bytes_at}
use Rattle.texts.specs.Buffers.{put}
use Rattle.texts.specs.Working.Writing.{put_at}
use Rattle.texts.proofs.Puts.{put-fits, put-not, put_next, length-put, mid-put, drop-put}
use Rattle.texts.proofs.Refusals.{no-success, succeeds, succeeded, unchanged, Way, way_out, tested}
use Rattle.texts.proofs.Bools.{cases}
use Rattle.sheets.specs.Sheet.{slot_count, slot_of, text_max}
use Rattle.drafts.specs.Revision.{known_party}
use Rattle.drafts.specs.Message.{known_version, opening, body_place, revision_place, revision_size, text_place, head_size, least_l, IsMessage, length_of, version_of, party_of, message_body, message_field, revision_of, message_text, misframed, disallowed, read_tests, read_values, reading_of, read_answer, head_bytes, message_of, allowed, write_tests, writing_of, written_of, write_answer}
use Rattle.drafts.specs.Promises.{Reads, Writes}
use Rattle.drafts.specs.Working.Steps.{takes}
use Rattle.drafts.specs.declared.revision.Party.{Party}
use Rattle.drafts.specs.declared.revision.Revision.{Revision}
use Rattle.drafts.specs.declared.message.Heading.{Heading}
use Rattle.texts.specs.declared.answers.Refusal.{Refusal}
use Rattle.texts.specs.Refusals.{refusal_number}
use Rattle.drafts.proofs.Messages.{revision-is, placed, neither, frame-means, read_found, writable, written-by, message-of, is-message, written-again, length-head, length-message}
use Rattle.drafts.proofs.ReadBack.{read_back}
use Rattle.drafts.proofs.Sizes.{twice, framed-short, framed-long, framed-rest, takes-is}

-- ---- read

heading-is : (g h : Heading) → g.version.0 ≡ h.version.0 → g.field.0 ≡ h.field.0 → g.revision ≡ h.revision → g ≡ h
heading-is g h p q r = λ i. record { version = record { 0 = p i }; field = record { 0 = q i }; revision = r i }

reading-made : (r : Result Heading Refusal) (h : Heading) → read_answer r ≡ success (read_values h.version.0 h.field.0 h.revision) → r ≡ Ok h
reading-made (Ok g) h e = ap Ok (heading-is g h (cc) (cc) (revision-is g.revision _ _ (cc) (cc)))
reading-made (Err n) h e = absurd (no-success (refusal_number n) [] _ e)

-- the promise of `read`, from its equation
reads-by : (m : List ℕ) (r : Result Heading Refusal) → ((k : ℕ) → Fits w8 (get_or m k 0)) → read_answer r ≡ reading_of m → Reads m r
reads-by m r h e = record {
  answer = e;
  exactly = λ g t. (
    λ p.
        let q = read_found m g (ap read_answer (sym p.0) ∙ e) in
        rw (q.1, q.2, q.3, ← p.1) (is-message m (λ k. (h k).fits) q.0),
    λ M.
        let q = read_back m g.version.0 g.field.0 g.revision t M in
        (reading-made r g (e ∙ q.0), q.1),
  );
  made =
      λ g q b u.
      let p = read_found m g (ap read_answer (sym q) ∙ e) in
      rw (p.1, p.2, p.3) (written-again m b (λ k. (h k).fits) p.0 u);
}

-- the ways out of `read`
pub read_out : (k : ℕ) (m : List ℕ) (r : Result Heading Refusal) → ((i : ℕ) → Fits w8 (get_or m i 0)) → Way (read_values (version_of m) (message_field m) (revision_of m)) [] [] (read_answer r) [] (Reads m r) k (read_tests m)
unfolding reading_of
read_out k m r h = way_out _ [] [] _ [] _ k (read_tests m) (λ p q. reads-by m r h p)

-- ---- the tests of `read`, by what the code has for the parts of the message

pub field-as : (g f k : ℕ) (z : Bool) → k ≡ slot_of f → f ≡ g → eqb k slot_count ≡ z → eqb (slot_of g) slot_count ≡ z
field-as g f k z ek ef h = rw (← ef, ← ek) h

module _ (m : List ℕ) (z : Bool) where
  pub frame-as : (x : Bool) → x ≡ not (misframed m) → not x ≡ z → misframed m ≡ z
  frame-as x e h = sym (twice (misframed m)) ∙ rw (← e) h

  module _ (w : ℕ) (ew : w ≡ version_of m) where
    pub version-as : (x : Bool) → x ≡ known_version w → not x ≡ z → not (known_version (version_of m)) ≡ z
    version-as x ex h = rw (← ew, ← ex) h

    pub size-as : (x t : Bool) → x ≡ not (misframed m) → not x ≡ false → t ≡ takes w (length m) → not t ≡ z → disallowed (version_of m) (length_of m) ≡ z
    size-as x t ex hx et h =
        let f = frame-means m (sym (twice (misframed m)) ∙ rw (← ex) hx) in
        sym (twice (disallowed (version_of m) (length_of m))) ∙ rw (← ew, ← (takes-is (length m) (length_of m) f.0 f.1 f.2 w), ← et) h

  pub party-as : (p : Party) (x : Bool) → p.0 ≡ party_of m → x ≡ known_party p.0 → not x ≡ z → not (known_party (party_of m)) ≡ z
  party-as p x ep ex h = rw (← ep, ← ex) h

  -- the field and the revision, as the first bytes of what both versions share
  module _ (w : ℕ) (ew : w ≡ version_of m) (c : List ℕ) (ec : c ≡ take text_place (drop (body_place w) m)) where
    field_is : get_or c 0 0 ≡ message_field m
    unfolding message_body
    field_is = ap (λ (x : List ℕ). get_or x 0 0) ec ∙ get_or-take text_place (drop (body_place w) m) 0 0 (omega arith) ∙ rw ew

    number_at : (i : ℕ) → i < revision_size → get_or (between c revision_place text_place) i 0 ≡ get_or (message_body m) (revision_place + i) 0
    unfolding message_body between
    number_at i h =
        get_or-take revision_size (drop revision_place c) i 0 h
        ∙ get_or-drop revision_place c i 0
        ∙ ap (λ (x : List ℕ). get_or x (revision_place + i) 0) ec
        ∙ get_or-take text_place (drop (body_place w) m) (revision_place + i) 0 (omega arith)
        ∙ rw ew

    number_is : big (bytes_at (between c revision_place text_place) 0 revision_size) ≡ (revision_of m).number
    unfolding revision_of
    number_is = rw (number_at 0 (omega arith), number_at 1 (omega arith), number_at 2 (omega arith), number_at 3 (omega arith))

    pub listed-as : (f k : ℕ) → k ≡ slot_of f → f ≡ get_or c 0 0 → eqb k slot_count ≡ z → eqb (slot_of (message_field m)) slot_count ≡ z
    listed-as f k ek ef h = field-as (message_field m) f k z ek (ef ∙ field_is) h

    module _ (b : List ℕ) (eb : b ≡ between c revision_place text_place) (n : ℕ) (en : n ≡ big (bytes_at b 0 revision_size)) where
      given_is : n ≡ (revision_of m).number
      given_is = en ∙ ap (λ (x : List ℕ). big (bytes_at x 0 revision_size)) eb ∙ number_is

      pub number-as : eqb n 0 ≡ z → eqb (revision_of m).number 0 ≡ z
      number-as h = rw (← given_is) h

      pub values-as : (f : ℕ) (p : Party) → f ≡ get_or c 0 0 → p.0 ≡ party_of m
          → success (read_values w f (record { number = n; party = p })) ≡ success (read_values (version_of m) (message_field m) (revision_of m))
      unfolding revision_of
      values-as f p ef ep = rw (← ew, ef, ← ep, field_is, given_is)

-- a version that takes the size of a message leaves room for its field and its revision
pub window-fits : (m : List ℕ) (x t : Bool) (w : ℕ) → x ≡ not (misframed m) → x ≡ true → t ≡ takes w (length m) → t ≡ true → body_place w + text_place ≤ length m
window-fits m x t w ex hx et ht =
    let f = frame-means m (sym (twice (misframed m)) ∙ ap not (sym ex ∙ hx)) in
    let d : disallowed w (length_of m) ≡ false = sym (twice (disallowed w (length_of m))) ∙ ap not (sym (takes-is (length m) (length_of m) f.0 f.1 f.2 w) ∙ sym et ∙ ht) in
    omega (arith, f, ltb-false (length_of m) (least_l w) (neither (ltb (length_of m) (least_l w)) _ d).0, placed w)

-- the sums that the code makes
pub sum_fits : (w s k : ℕ) → s ≡ head_size w → k ≤ text_max → Fits w64 (k + s)
sum_fits w s k e l = record { fits = omega (arith, placed w) }

pub ruleset framing = (rules, framed-short, framed-long, framed-rest)

pub ruleset reading = (tested, frame-as, version-as, size-as, party-as, listed-as, number-as, values-as)

-- ---- parts of a message

rest-is : (m t : List ℕ) (k : ℕ) → t ≡ between m k (length m) → t ≡ drop k m
unfolding between
rest-is m t k e = let l = length-drop k m in e ∙ take_all (length m - k) (drop k m) (omega arith)

pub body_is : (m t : List ℕ) (w k : ℕ) → w ≡ version_of m → k ≡ body_place w → t ≡ between m k (length m) → t ≡ message_body m
unfolding message_body
body_is m t w k ew ek e = rest-is m t k e ∙ rw (ek, ew)

pub text-is : (m b t : List ℕ) → b ≡ message_body m → t ≡ between b text_place (length b) → t ≡ message_text m
unfolding message_text
text-is m b t eb e = rest-is b t text_place e ∙ rw eb

-- ---- write

written-made : (w : Result ℕ Refusal) (n : ℕ) → write_answer w ≡ success (n ∷ []) → w ≡ Ok n
written-made (Ok k) n e = cc
written-made (Err k) n e = absurd (no-success (refusal_number k) [] _ e)

-- the promise of `write`, from its two equations
writes-by : (g : Heading) (t b : List ℕ) (r : Result ℕ Refusal) (e : List ℕ) → Fits w32 g.revision.number → write_answer r ≡ writing_of g.version.0 g.field.0 g.revision t b → e ≡ written_of g.version.0 g.field.0 g.revision t b → Writes g t b r e
unfolding writing_of written_of
writes-by g t b r e h p q = record {
  answer = p;
  buffer = q;
  refused = λ n. q ∙ unchanged _ _ _ (write_tests w f v t b) (λ s. n (length t + head_size w) (written-made r (length t + head_size w) (p ∙ s)));
  exactly = (
    λ s. writable w f v t b (succeeded _ _ (write_tests w f v t b) (ap write_answer (sym s) ∙ p)).0,
    λ W. written-made r (length t + head_size w) (p ∙ succeeds _ [] (write_tests w f v t b) (written-by w f v t b W)),
  );
  made = λ n s. let o = out_of n s in (rw o.1 o.0, o.2);
  back = λ n s. let o = out_of n s in rw o.1 (read_back _ w f v t o.0);
}
  where
    w : ℕ
    w = g.version.0

    f : ℕ
    f = g.field.0

    v : Revision
    v = g.revision

    -- the message, and what stands before and behind its end
    out_of : (n : ℕ) → r ≡ Ok n → IsMessage (message_of w f v t) w f v t × (take n e ≡ message_of w f v t) × (drop n e ≡ drop n b)
    out_of n s =
        let (z, k) = succeeded _ (n ∷ []) (write_tests w f v t b) (ap write_answer (sym s) ∙ p) in
        let o : n ≡ length t + head_size w = cc in
        let W = writable w f v t b z in
        let M = message-of w f v t b h.fits W in
        let l = length-message w f v t in
        let u : e ≡ put b 0 (message_of w f v t) = q ∙ rw z in (
          M,
          ap (take n) u ∙ mid-put b 0 (message_of w f v t) n (omega arith) (omega (arith, W.room)),
          ap (drop n) u ∙ drop-put b 0 (message_of w f v t) n (omega arith) (omega (arith, W.room)),
        )

-- the bytes of the head, in either version
module _ (w f n : ℕ) (v : Revision) (d : List ℕ) (l : ℕ) (ed : d ≡ bytes_of revision_size v.number) (el : l ≡ n + least_l w) where
  pub head-second : w ≡ 2 → take (head_size w) (0 ∷ l ∷ w ∷ v.party.0 ∷ f ∷ get_or d 0 0 ∷ get_or d 1 0 ∷ get_or d 2 0 ∷ get_or d 3 0 ∷ []) ≡ head_bytes w f v n
  unfolding head_bytes opening
  head-second e = rw (el, ed, e)

  pub head_first : (w ≡ 2 → ⊥) → take (head_size w) (0 ∷ l ∷ w ∷ f ∷ get_or d 0 0 ∷ get_or d 1 0 ∷ get_or d 2 0 ∷ get_or d 3 0 ∷ 0 ∷ []) ≡ head_bytes w f v n
  unfolding head_bytes opening
  head_first e = rw (el, ed, ne_eqb w 2 e)

-- the head, put where there is room for it: in version 1 the field goes over the party
pub head-made : (w f n : ℕ) (v : Revision) (b d x y z : List ℕ) (l k s : ℕ) → s ≡ head_size w → s ≤ length b → d ≡ bytes_of revision_size v.number → k ≡ body_place w → l ≡ n + least_l w
    → x ≡ put_at b 0 (0 ∷ l ∷ w ∷ v.party.0 ∷ [])
    → y ≡ put_at x k (f ∷ [])
    → z ≡ put_at y (k + revision_place) d
    → z ≡ put_at b 0 (head_bytes w f v n)
unfolding head_bytes opening put
head-made w f n v b d x y z l k s es u ed ek el ex ey ez = ez ∙ cases (eqb w 2) second first ∙ sym (put-fits b 0 (head_bytes w f v n) (omega (arith, length-head w f v n)))
  where
    begun : x ≡ put b 0 (0 ∷ l ∷ w ∷ v.party.0 ∷ [])
    begun = ex ∙ put-fits b 0 (0 ∷ l ∷ w ∷ v.party.0 ∷ []) (omega (arith, placed w))

    long : length d ≡ revision_size
    long = ap length ed

    second : eqb w 2 ≡ true → put_at y (k + revision_place) d ≡ put b 0 (head_bytes w f v n)
    second q =
        let m : body_place w ≡ 4 = rw q in
        let g : y ≡ put b 0 (0 ∷ l ∷ w ∷ v.party.0 ∷ f ∷ []) = ey ∙ rw (ek, m) (put_next b (0 ∷ l ∷ w ∷ v.party.0 ∷ []) (f ∷ []) x 4 refl (omega arith) begun) in
        rw (ek, ← el, ← ed, q) (put_next b (0 ∷ l ∷ w ∷ v.party.0 ∷ f ∷ []) d y 5 refl (omega (arith, long)) g)

    first : eqb w 2 ≡ false → put_at y (k + revision_place) d ≡ put b 0 (head_bytes w f v n)
    first q =
        let m : body_place w ≡ 3 = rw q in
        let o : length x ≡ length b = ap length begun ∙ length-put b 0 (0 ∷ l ∷ w ∷ v.party.0 ∷ []) (omega arith) in
        let g : y ≡ put b 0 (0 ∷ l ∷ w ∷ f ∷ []) = ey ∙ rw (ek, m) (put-fits x 3 (f ∷ []) (omega arith) ∙ rw begun) in
        rw (ek, ← el, ← ed, q) (put_next b (0 ∷ l ∷ w ∷ f ∷ []) d y 4 refl (omega (arith, long)) g)

pub head-short : (w f n : ℕ) (v : Revision) (b : List ℕ) (s : ℕ) → s ≡ head_size w → length b < s → b ≡ put_at b 0 (head_bytes w f v n)
head-short w f n v b s es u = sym (put-not b 0 (head_bytes w f v n) (omega (arith, length-head w f v n)))

-- the ways out of `write`
pub write-out : (k : ℕ) (g : Heading) (t b : List ℕ) (r : Result ℕ Refusal) (e : List ℕ) → Fits w32 g.revision.number
    → Way ((length t + head_size g.version.0) ∷ []) (put b 0 (message_of g.version.0 g.field.0 g.revision t)) b (write_answer r) e (Writes g t b r e) k (write_tests g.version.0 g.field.0 g.revision t b)
unfolding writing_of written_of
write-out k g t b r e h = way_out _ _ _ _ e _ k (write_tests g.version.0 g.field.0 g.revision t b) (writes-by g t b r e h)

-- its tests and what it leaves, by what the code has
pub known_as : (w : ℕ) (x z : Bool) → x ≡ known_version w → not x ≡ z → not (known_version w) ≡ z
known_as w x z ex h = rw (← ex) h

pub allowed-as : (w p : ℕ) (x z : Bool) → x ≡ allowed w p → not x ≡ z → not (allowed w p) ≡ z
allowed-as w p x z ex h = rw (← ex) h

pub room_as : (w n k s : ℕ) (z : Bool) → s ≡ head_size w → ltb k (n + s) ≡ z → ltb k (n + head_size w) ≡ z
room_as w n k s z es h = rw (← es) h

pub size_is : (w n s : ℕ) → s ≡ head_size w → success ((n + s) ∷ []) ≡ success ((n + head_size w) ∷ [])
size_is w n s es = rw es

pub message-put : (w f : ℕ) (v : Revision) (t b e : List ℕ) (s : ℕ) → e ≡ put_at (put_at b 0 (head_bytes w f v (length t))) (head_size w) t → s ≡ head_size w → length t + s ≤ length b → e ≡ put b 0 (message_of w f v t)
unfolding message_of
message-put w f v t b e s ee es u =
    let c = head_bytes w f v (length t) in
    ee ∙ put_next b c t (put_at b 0 c) (head_size w) (length-head w f v (length t)) (omega arith) (put-fits b 0 c (omega (arith, length-head w f v (length t))))

pub ruleset heads = (rules, head-made, head-short, body_is, text-is)

pub ruleset writing = (rules, tested, sum_fits, known_as, allowed-as, field-as, room_as, size_is, message-put)
