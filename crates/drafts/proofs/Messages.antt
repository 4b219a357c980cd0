-- Messages: what is known of a readable one, and the two ways round.
use mathlib.Core.Path.{◌≡◌, refl, sym, ap, ◌∙◌}
use mathlib.Core.Logic.{◌⊎◌, inl, inr, ⊎_elim}
use mathlib.Core.Bool.{Bool, true, false, not, ◌||◌, true≢false}
use mathlib.Core.List.Memᴰ
use mathlib.Core.List.{List, [], ◌∷◌, ◌++◌, append_assoc, Memᴰ}
use Prim.Native.Nat.{ℕ, zero, suc, ◌+◌, ◌^◌, ◌<◌, ◌≤◌}
use native.Mathlib.Nat.{add-zero}
use native.Mathlib.Omega.{arith}
use borrow.Author.Tests.{le-ltb, eq-eqb, ne_eqb, ltb-false, eqb-true, eqb-false, not-false}
use lib.Dec.{eqb, ltb}
use lib.ListN.{length, drop, get_or, length-drop, length-append}
use lib.Seq.{drop-cons, drop-drop, get_or-drop}
use Rattle.texts.specs.Answers.{success, passes}
use Rattle.texts.specs.Numbers.{Bytes, big, bytes_of, bytes_at}
use Rattle.texts.specs.Buffers.{put}
use Rattle.texts.proofs.Big.{big-bytes, each_at, bytes-big}
use Rattle.sheets.specs.Sheet.{fields, slot_count, place_of, slot_of, text_max}
use Rattle.drafts.specs.Revision.{client, adviser, known_party, Known, is-client, is-adviser, ◌by◌}
use Rattle.drafts.specs.Message.{known_version, opening, body_place, revision_place, revision_size, text_place, head_size, least_l, most_l, Speaks, first, second, IsMessage, Writable, length_of, version_of, party_of, message_body, message_field, revision_of, message_text, misframed, read_tests, readable, read_values, reading_of, read_answer, head_bytes, message_of, allowed, write_tests, writing_of, written_of}
use Rattle.drafts.specs.declared.revision.Revision.{Revision}
use Rattle.drafts.specs.declared.message.Heading.{Heading}
use Rattle.std.specs.Prelude.{Ok}
use Rattle.texts.proofs.Bools.{cases, both}
use Rattle.texts.proofs.Refusals.{none_of, succeeds, succeeded}

-- ---- a listed field has a slot, and no other has one

-- a number stands in a list at its place, or nowhere, and then its place is past the end
abbrev Place : ℕ → List ℕ → Type 0
Place x l = (Memᴰ x l × (place_of x l < length l) × (get_or l (place_of x l) 0 ≡ x)) ⊎ ((Memᴰ x l → ⊥) × (place_of x l ≡ length l))

place : (x : ℕ) (l : List ℕ) → Place x l
place x [] = inr (λ m. Memᴰ.not-nil m, refl)
place x (y ∷ ys) = go (eqb x y) refl (place x ys)
  where
    go : (b : Bool) → eqb x y ≡ b → Place x ys → Place x (y ∷ ys)
    go true e p = let q = eqb-true x y e in inl (Memᴰ.head q, rw e (omega arith), rw e (sym q))
    go false e (inl p) = inl (Memᴰ.tail p.0, rw e (omega arith), rw e p.2)
    go false e (inr p) = inr (λ m. ⊎_elim (eqb-false x y e) p.0 (Memᴰ.cases_cons m), rw e (ap suc p.1))

pub slotted : (f : ℕ) → (slot_of f ≡ slot_count → ⊥) → Memᴰ f fields × (slot_of f < slot_count) × (get_or fields (slot_of f) 0 ≡ f)
unfolding slot_of
slotted f n = ⊎_elim (λ p. p) (λ p. absurd (n p.1)) (place f fields)

pub listed-slot : (f : ℕ) → Memᴰ f fields → slot_of f ≡ slot_count → ⊥
unfolding slot_of
listed-slot f m e = ⊎_elim (λ p. omega arith) (λ p. p.0 m) (place f fields)

-- ---- versions and parties

pub revision-is : (v : Revision) (n p : ℕ) → v.number ≡ n → v.party.0 ≡ p → v ≡ n by p
revision-is v n p e q = λ i. record { number = e i; party = record { 0 = q i } }

-- one of two numbers
pub one_of : (x a b : ℕ) → (eqb x a || eqb x b) ≡ true → (x ≡ a) ⊎ (x ≡ b)
one_of x a b e = cases (eqb x a) (λ t. inl (eqb-true x a t)) (λ f. inr (eqb-true x b (rw f at e)))

pub known : (p : ℕ) → known_party p ≡ true → Known p
known p e = ⊎_elim is-client is-adviser (one_of p client adviser e)

pub known_by : (p : ℕ) → Known p → known_party p ≡ true
known_by p (is-client e) = rw e
known_by p (is-adviser e) = rw e

pub small : (p : ℕ) → Known p → p < 256
small p (is-client e) = omega arith
small p (is-adviser e) = omega arith

module _ (w p : ℕ) where
  pub speaks-known : Speaks w p → (known_version w ≡ true) × Known p × (allowed w p ≡ true)
  speaks-known (first e q) = (rw e, is-adviser q, rw (e, q))
  speaks-known (second e q) = (rw e, q, rw (known_by p q, e))

  speaks-of : known_version w ≡ true → allowed w p ≡ true → Speaks w p
  speaks-of v a =
      let (k, o) = both (known_party p) (eqb w 2 || eqb p adviser) a in
      ⊎_elim (λ e. first e (eqb-true p adviser (rw e at o))) (λ e. second e (known p k)) (one_of w 1 2 v)

-- where the field stands
pub placed : (w : ℕ) → (3 ≤ body_place w) × (body_place w ≤ 4)
placed w = cases (eqb w 2) (λ t. rw t (omega arith, omega arith)) (λ f. rw f (omega arith, omega arith))

-- ---- reading

pub record Readable (m : List ℕ) : Type 0 where
  pub all : length_of m + 2 ≡ length m
  pub low : least_l (version_of m) ≤ length_of m
  pub high : length_of m ≤ most_l (version_of m)
  pub speaks : Speaks (version_of m) (party_of m)
  pub listed : slot_of (message_field m) ≡ slot_count → ⊥
  pub revised : (revision_of m).number ≡ 0 → ⊥

-- a known party of a known version: that of version 1 is the adviser
speaks-read : (m : List ℕ) → known_version (version_of m) ≡ true → known_party (party_of m) ≡ true → Speaks (version_of m) (party_of m)
unfolding party_of
speaks-read m v k = ⊎_elim (λ e. first e (rw e)) (λ e. second e (known (party_of m) k)) (one_of (version_of m) 1 2 v)

-- L is the rest, and one that either version has
pub neither : (a b : Bool) → (a || b) ≡ false → (a ≡ false) × (b ≡ false)
neither true b e = absurd (true≢false e)
neither false b e = (refl, e)

pub frame-means : (m : List ℕ) → misframed m ≡ false → (length_of m + 2 ≡ length m) × (least_l 1 ≤ length_of m) × (length_of m ≤ most_l 2)
unfolding misframed
frame-means m e =
    let p = neither (not (eqb (length_of m + 2) (length m))) _ (neither (ltb (length m) 2) _ e).1 in
    let q = neither (ltb (length_of m) (least_l 1)) _ p.1 in
    (eqb-true _ _ (not-false _ p.0), ltb-false _ _ q.0, ltb-false _ _ q.1)

pub frame-by : (m : List ℕ) → length_of m + 2 ≡ length m → least_l 1 ≤ length_of m → length_of m ≤ most_l 2 → misframed m ≡ false
unfolding misframed
frame-by m e l h =
    let two : 2 ≤ length m = omega arith in
    simp (le-ltb _ _ two, eq-eqb _ _ e, le-ltb _ _ l, le-ltb _ _ h)

pub readable-means : (m : List ℕ) → readable m ≡ true → Readable m
unfolding readable read_tests
readable-means m e =
    let p = none_of (read_tests m) e in
    let q = neither (ltb (length_of m) (least_l (version_of m))) _ p.1.1.0 in
    record {
      all = (frame-means m p.0).0;
      low = ltb-false _ _ q.0;
      high = ltb-false _ _ q.1;
      speaks = speaks-read m (not-false _ p.1.0) (not-false _ p.1.1.1.0);
      listed = eqb-false _ _ p.1.1.1.1.0;
      revised = eqb-false _ _ p.1.1.1.1.1.0;
    }

pub reading-is : (m : List ℕ) → Readable m → reading_of m ≡ success (read_values (version_of m) (message_field m) (revision_of m))
unfolding reading_of read_tests
reading-is m R =
    let b = placed (version_of m) in
    let k = speaks-known (version_of m) (party_of m) R.speaks in
    let f = frame-by m R.all (omega (arith, R.low)) (omega (arith, R.high)) in
    simp (f, k.0, le-ltb _ _ R.low, le-ltb _ _ R.high, known_by _ k.1, ne_eqb _ _ R.listed, ne_eqb _ _ R.revised)

pub text-length : (m : List ℕ) → readable m ≡ true → length (message_text m) + head_size (version_of m) ≡ length m
unfolding message_text message_body
text-length m e =
    let R = readable-means m e in
    omega (arith, placed (version_of m), length-drop text_place (drop (body_place (version_of m)) m), length-drop (body_place (version_of m)) m)

pub text_at : (m : List ℕ) → message_text m ≡ drop (head_size (version_of m)) m
unfolding message_text message_body
text_at m = drop-drop text_place (body_place (version_of m)) m

pub read_found : (m : List ℕ) (h : Heading) → read_answer (Ok h) ≡ reading_of m
    → (readable m ≡ true) × (h.version.0 ≡ version_of m) × (h.field.0 ≡ message_field m) × (h.revision ≡ revision_of m)
unfolding reading_of readable revision_of
read_found m h e =
    let (z, q) = succeeded (read_values (version_of m) (message_field m) (revision_of m)) (read_values h.version.0 h.field.0 h.revision) (read_tests m) e in
    (z, cc, cc, revision-is h.revision _ _ (cc) (cc))

-- ---- what writing asks for

module _ (w f : ℕ) (v : Revision) (t b : List ℕ) where
  pub writable : passes (write_tests w f v t b) ≡ true → Writable w f v t b
  unfolding write_tests
  writable e =
      let p = none_of (write_tests w f v t b) e in
      record {
        short = ltb-false _ _ p.0;
        speaks = speaks-of w v.party.0 (not-false _ p.1.0) (not-false _ p.1.1.0);
        listed = (slotted f (eqb-false _ _ p.1.1.1.0)).0;
        given = eqb-false _ _ p.1.1.1.1.0;
        room = ltb-false _ _ p.1.1.1.1.1.0;
      }

  pub written-by : Writable w f v t b → passes (write_tests w f v t b) ≡ true
  unfolding write_tests
  written-by W =
      let k = speaks-known w v.party.0 W.speaks in
      simp (le-ltb _ _ W.short, k.0, k.2, ne_eqb _ _ (listed-slot f W.listed), ne_eqb _ _ W.given, le-ltb _ _ W.room)

  -- ---- a written message

  -- it is one of its version, its field, its revision and its text
  pub message-of : v.number < 2 ^ 32 → Writable w f v t b → IsMessage (message_of w f v t) w f v t
  unfolding message_of head_bytes
  message-of h W =
      record {
        l1 = 0;
        l2 = length t + least_l w;
        r1 = get_or (bytes_of revision_size v.number) 0 0;
        r2 = get_or (bytes_of revision_size v.number) 1 0;
        r3 = get_or (bytes_of revision_size v.number) 2 0;
        r4 = get_or (bytes_of revision_size v.number) 3 0;
        speaks = W.speaks;
        parts = ap (λ (x : List ℕ). 0 ∷ (length t + least_l w) ∷ x) (append_assoc (opening w v.party.0) (f ∷ bytes_of revision_size v.number) t);
        size = omega arith;
        most = omega (arith, W.short);
        listed = W.listed;
        revision = big-bytes revision_size v.number h;
        given = W.given;
      }

-- what stands behind L is read back
opened : (m : List ℕ) (w p l1 l2 : ℕ) (x : List ℕ) → m ≡ l1 ∷ l2 ∷ (opening w p ++ x) → Speaks w p
    → (version_of m ≡ w) × (party_of m ≡ p) × (message_body m ≡ x) × (length m ≡ body_place w + length x) × (length_of m ≡ big (l1 ∷ l2 ∷ []))
unfolding opening party_of message_body
opened m w p l1 l2 x e (first a b) = rw (e, a, b) (refl, refl, refl, omega arith, refl)
opened m w p l1 l2 x e (second a b) = rw (e, a) (refl, refl, refl, omega arith, refl)

-- what it is made of is read back from it
pub message-is : (m : List ℕ) (w f : ℕ) (v : Revision) (t : List ℕ) → IsMessage m w f v t
    → Readable m × (version_of m ≡ w) × (message_field m ≡ f) × (revision_of m ≡ v) × (message_text m ≡ t)
unfolding message_text revision_of
message-is m w f v t M =
    let (ew, ep, eb, el, ey) = opened m w v.party.0 M.l1 M.l2 (f ∷ M.r1 ∷ M.r2 ∷ M.r3 ∷ M.r4 ∷ t) M.parts M.speaks in
    let b = placed w in
    let n : big (bytes_at (message_body m) revision_place revision_size) ≡ v.number = rw eb M.revision in
    let R : Readable m = record {
      all = omega (arith, M.size);
      low = rw ew (omega (arith, M.size));
      high = rw ew (omega (arith, M.size, M.most));
      speaks = rw (ew, ep) M.speaks;
      listed = rw eb (listed-slot f M.listed);
      revised = λ e. M.given (sym n ∙ e);
    } in
    (R, ew, rw eb, sym (revision-is v _ _ (sym n) (sym ep)), rw eb)

-- ---- a readable message is the one that the writer makes of its version, party, field, revision and text

-- what stands from place i on: k bytes, and the rest
pub bytes-from : (m : List ℕ) (k i : ℕ) → i + k ≤ length m → drop i m ≡ bytes_at m i k ++ drop (i + k) m
bytes-from m zero i l = rw add-zero
bytes-from m (suc k) i l =
    let e : suc i + k ≡ i + suc k = omega arith in
    drop-cons m i 0 (omega arith) ∙ ap (λ (x : List ℕ). get_or m i 0 ∷ x) (rw e at (bytes-from m k (suc i) (omega arith)))

-- what stands behind L: the version and the party, and the rest
opens : (m : List ℕ) → Speaks (version_of m) (party_of m) → 4 ≤ length m → m ≡ get_or m 0 0 ∷ get_or m 1 0 ∷ (opening (version_of m) (party_of m) ++ message_body m)
unfolding opening party_of message_body
opens m (first e p) l = rw e (rw e at (bytes-from m 3 0 (omega arith)))
opens m (second e p) l = rw e (rw e at (bytes-from m 4 0 (omega arith)))

bytes-body : (m : List ℕ) → Bytes m → Bytes (message_body m)
unfolding message_body
bytes-body m h j = rw get_or-drop (h (body_place (version_of m) + j))

body-length : (m : List ℕ) → Readable m → text_place ≤ length (message_body m)
unfolding message_body
body-length m R = omega (arith, placed (version_of m), length-drop (body_place (version_of m)) m)

written_read : (m : List ℕ) → Bytes m → readable m ≡ true → message_of (version_of m) (message_field m) (revision_of m) (message_text m) ≡ m
unfolding message_of head_bytes message_text revision_of
written_read m h e =
    let R = readable-means m e in
    let l = text-length m e in
    let k = placed (version_of m) in
    let b = message_body m in
    let z : 0 ≡ get_or m 0 0 = omega (arith, h 0, h 1) in
    let o : length (drop text_place b) + least_l (version_of m) ≡ get_or m 1 0 = omega (arith, h 0, h 1) in
    let s : List ℕ = opening (version_of m) (party_of m) in
    let n = body-length m R in
    ap (λ (x : List ℕ). (0 ∷ (length (drop text_place b) + least_l (version_of m)) ∷ (s ++ (get_or b 0 0 ∷ x))) ++ drop text_place b) (bytes-big (bytes_at b revision_place revision_size) (each_at b revision_place revision_size (bytes-body m h)))
    ∙ ap (λ (x : List ℕ). 0 ∷ (length (drop text_place b) + least_l (version_of m)) ∷ x) (append_assoc s (get_or b 0 0 ∷ bytes_at b revision_place revision_size) (drop text_place b))
    ∙ ap (λ (x : List ℕ). 0 ∷ (length (drop text_place b) + least_l (version_of m)) ∷ (s ++ x)) (sym (bytes-from b text_place 0 n))
    ∙ (λ i. z i ∷ o i ∷ (s ++ b))
    ∙ sym (opens m R.speaks (omega arith))

read-writable : (m b : List ℕ) → readable m ≡ true → length m ≤ length b → Writable (version_of m) (message_field m) (revision_of m) (message_text m) b
unfolding revision_of
read-writable m b e u =
    let R = readable-means m e in
    let l = text-length m e in
    let k = placed (version_of m) in
    record { short = omega arith; speaks = R.speaks; listed = (slotted (message_field m) R.listed).0; given = R.revised; room = omega arith }

pub text-short : (m : List ℕ) → readable m ≡ true → length (message_text m) ≤ text_max
text-short m e = (read-writable m m e (omega arith)).short

pub party-known : (m : List ℕ) → readable m ≡ true → Known (revision_of m).party.0
unfolding revision_of
party-known m e = (speaks-known (version_of m) (party_of m) (readable-means m e).speaks).1

pub revision-fits : (m : List ℕ) → Bytes m → (revision_of m).number < 2 ^ 32
unfolding revision_of
revision-fits m h = let k = bytes-body m h in omega (arith, k 1, k 2, k 3, k 4)

pub is-message : (m : List ℕ) → Bytes m → readable m ≡ true → IsMessage m (version_of m) (message_field m) (revision_of m) (message_text m)
is-message m h e =
    rw (written_read m h e) at (message-of (version_of m) (message_field m) (revision_of m) (message_text m) m (revision-fits m h) (read-writable m m e (omega arith)))

pub written-again : (m b : List ℕ) → Bytes m → readable m ≡ true → length m ≤ length b
    → (writing_of (version_of m) (message_field m) (revision_of m) (message_text m) b ≡ success (length m ∷ []))
    × (written_of (version_of m) (message_field m) (revision_of m) (message_text m) b ≡ put b 0 m)
unfolding writing_of written_of
written-again m b h e u =
    let w = written-by (version_of m) (message_field m) (revision_of m) (message_text m) b (read-writable m b e u) in
    (succeeds _ [] (write_tests (version_of m) (message_field m) (revision_of m) (message_text m) b) w ∙ rw (text-length m e), rw (w, written_read m h e))

-- as many bytes before the text as its version has
pub length-head : (w f : ℕ) (v : Revision) (n : ℕ) → length (head_bytes w f v n) ≡ head_size w
unfolding head_bytes opening
length-head w f v n = cases (eqb w 2) (λ t. rw t) (λ t. rw t)

pub length-message : (w f : ℕ) (v : Revision) (t : List ℕ) → length (message_of w f v t) ≡ length t + head_size w
unfolding message_of
length-message w f v t = length-append (head_bytes w f v (length t)) t ∙ omega (arith, length-head w f v (length t))
