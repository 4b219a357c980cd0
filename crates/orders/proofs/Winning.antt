-- The message that wins each slot, one message at a time, and the ways through the functions that number the winners.
use mathlib.Core.Path.{◌≡◌, refl, sym, ap, ◌∙◌}
use mathlib.Core.Logic.{⊎_elim}
use mathlib.Core.Bool.{true, false, true≢false}
use mathlib.Core.List.Memᴰ
use mathlib.Core.List.{List, [], ◌∷◌, ◌++◌, map, Memᴰ}
use Prim.Native.Nat.{ℕ, suc, ◌+◌, ◌≤◌, ◌<◌, max}
use native.Mathlib.Decide.{dec_lt, ℕ_discrete}
use native.Mathlib.Numerals.{add-one}
use native.Mathlib.Omega.{arith}
use borrow.Author.Tests.{eq-eqb, ne_eqb}
use mir.Syntax.{w8}
use mir.Val.{Fits}
use lib.ListN.{length, get_or, set, length-set, length-append}
use lib.Seq.{ext_get_or, get_or-set_same, get_or-set_other}
use Rattle.texts.proofs.Bools.{cases}
use Rattle.texts.specs.declared.answers.Refusal.{Refusal}
use Rattle.sheets.specs.Sheet.{slots, slot_count, slot_of}
use Rattle.texts.specs.Refusals.{refusal_number}
use Rattle.drafts.specs.declared.message.Heading.{Heading}
use Rattle.std.specs.Prelude.{Result, Ok, Err}
use Rattle.drafts.specs.Revision.{rank}
use Rattle.drafts.specs.Message.{version_of, message_field, revision_of, readable, read_answer}
use Rattle.drafts.specs.Draft.{rank_of}
use Rattle.drafts.specs.History.{names, rank_in, highest, end_slot, AllBytes}
use Rattle.drafts.specs.Promises.{Reads}
use Rattle.drafts.proofs.Messages.{slotted, readable-means, read_found, reading-is}
use Rattle.drafts.proofs.Ranks.{rank-above, rank_below, rank-not-below}
use Rattle.drafts.proofs.EndSlots.{named, ranked, unranked, all-slot, top, top-at, bound}
use Rattle.texts.proofs.Refusals.{no-success}
use Rattle.fillings.proofs.EveryFilling.{at_slots}
use Rattle.orders.specs.Stream.{messages_of}
use Rattle.orders.specs.Origins.{number_in, origin_of, Origin, none, given, Origins}
use Rattle.orders.specs.Working.Winners.{nobody, Won}
use Rattle.orders.specs.declared.origins.Winner.{Winner}
use Rattle.orders.proofs.Streaming.{Gone, gone-next}

-- ---- the number of the message that wins slot i

module _ (i : ℕ) where
  -- what stands behind messages that are below the rank r
  number_at : (r : ℕ) (m : List ℕ) (after before : List (List ℕ)) → highest i before < r → rank_in i m ≡ r → number_in i r (before ++ m ∷ after) ≡ suc (length before)
  number_at r m after [] h e = rw (eq-eqb (rank_in i m) r e)
  number_at r m after (a ∷ before) h e =
      rw (ne_eqb (rank_in i a) r (λ q. omega arith)) (ap suc (number_at r m after before (omega arith) e))

  -- the first of the highest rank stays the first
  number-old : (r : ℕ) (m : List ℕ) (ms : List (List ℕ)) → 0 < r → r ≡ highest i ms → number_in i r (ms ++ m ∷ []) ≡ number_in i r ms
  number-old r m [] p e = absurd (omega arith)
  number-old r m (a ∷ ms) p e =
      elim (ℕ_discrete (rank_in i a) r) [
        | yes q ↦ rw (eq-eqb (rank_in i a) r q)
        | no q ↦ rw (ne_eqb (rank_in i a) r q) (ap suc (number-old r m ms p (omega arith)))
      ]

  highest-more : (m : List ℕ) (ms : List (List ℕ)) → highest i (ms ++ m ∷ []) ≡ max (highest i ms) (rank_in i m)
  highest-more m [] = omega arith
  highest-more m (a ∷ ms) = omega (arith, highest-more m ms)

  module _ (m : List ℕ) (ms : List (List ℕ)) where
    -- a message above what its slot holds wins it, another changes nothing
    raised : highest i ms < rank_in i m → (highest i (ms ++ m ∷ []) ≡ rank_in i m) × (origin_of (ms ++ m ∷ []) i ≡ length ms + 1)
    unfolding origin_of
    raised h =
        let e : highest i (ms ++ m ∷ []) ≡ rank_in i m = omega (arith, highest-more m ms) in
        let z : rank_in i m ≡ 0 → ⊥ = λ q. omega arith in
        (e, rw (e, ne_eqb (rank_in i m) 0 z) (number_at (rank_in i m) m [] ms h refl ∙ sym (add-one (length ms))))

    unraised : rank_in i m ≤ highest i ms → (highest i (ms ++ m ∷ []) ≡ highest i ms) × (origin_of (ms ++ m ∷ []) i ≡ origin_of ms i)
    unfolding origin_of
    unraised h =
        let e : highest i (ms ++ m ∷ []) ≡ highest i ms = omega (arith, highest-more m ms) in (
          e,
          elim (ℕ_discrete (highest i ms) 0) [
            | yes q ↦ rw (e, eq-eqb (highest i ms) 0 q)
            | no q ↦ rw (e, ne_eqb (highest i ms) 0 q) (number-old (highest i ms) m ms (omega arith) refl)
          ],
        )

-- ---- what it is

origin-right : (i : ℕ) (ms : List (List ℕ)) → AllBytes ms → i < slot_count → Origin i ms (origin_of ms i)
unfolding origin_of end_slot
origin-right i ms b l =
    let s = all-slot ms b i l in
    elim (dec_lt 0 (highest i ms)) [
      | yes h ↦
          let w = top-at i ms h in
          let n = ranked i (top i ms) (omega (arith, w.rank)) in
          let (y, o, r) = named i (top i ms) n in
          let z = ne_eqb (highest i ms) 0 (λ q. omega arith) in
          given w.before w.after (top i ms) w.split n
          (λ a q t. rank_below a (top i ms) (named i a t).0 y (omega (arith, bound i q, w.lower, w.rank, r, (named i a t).2)))
          (λ a q t. rank-not-below (top i ms) a y (named i a t).0 (omega (arith, bound i q, w.later, w.rank, r, (named i a t).2)))
          (s ∙ rw z)
          (rw z (ap (number_in i (highest i ms)) w.split ∙ number_at i (highest i ms) (top i ms) w.after w.before w.lower w.rank))
      | no h ↦
          let z = eq-eqb (highest i ms) 0 (omega arith) in
          none (λ a q. cases (names i a) (λ t. absurd (omega (arith, bound i q, rank-above a (named i a t).0, (named i a t).2))) (λ t. t)) (s ∙ rw z) (rw z)
    ]

-- ---- note

-- what a message m that is read says of its field's slot k and its rank r
module _ (m : List ℕ) (rd : Result Heading Refusal) (R : Reads m rd) where
  unread : (n : Refusal) → rd ≡ Err n → readable m ≡ false
  unread n e =
      cases (readable m)
      (λ z. absurd (no-success (refusal_number n) [] _ (ap read_answer (sym e) ∙ R.answer ∙ reading-is m (readable-means m z))))
      (λ z. z)

  module _ (g : Heading) (e : rd ≡ Ok g) (o k : ℕ) (eo : o ≡ slot_of g.field.0) (ek : k ≡ o) where
    found : (readable m ≡ true) × (g.version.0 ≡ version_of m) × (g.field.0 ≡ message_field m) × (g.revision ≡ revision_of m)
    found = read_found m g (ap read_answer (sym e) ∙ R.answer)

    own_is : k ≡ slot_of (message_field m)
    own_is = ek ∙ eo ∙ ap slot_of found.2

    pub slot-within : k < slot_count
    slot-within = omega (arith, own_is, (slotted (message_field m) (readable-means m found.0).listed).1)

    -- its rank in each slot
    own-rank : (r : ℕ) → r ≡ rank g.revision → rank_in k m ≡ r
    unfolding names rank_in rank_of
    own-rank r er = rw (found.0, eq-eqb _ _ (sym own_is)) (ap rank (sym found.3) ∙ sym er)

    other-rank : (i : ℕ) → (i ≡ k → ⊥) → rank_in i m ≡ 0
    other-rank i n = unranked i m (cases (names i m) (λ t. absurd (n (sym (named i m t).1 ∙ sym own_is))) (λ t. t))

module _ (m : List ℕ) (h : (k : ℕ) → Fits w8 (get_or m k 0)) (ms : List (List ℕ)) (ws : List Winner) (W : Won ms ws) where
  strings-more : AllBytes (ms ++ m ∷ [])
  strings-more a q =
      ⊎_elim (λ (k : Memᴰ a ms). W.strings a k) (λ (k : Memᴰ a (m ∷ [])). rw (Memᴰ.eq_of_singleton k) (λ j. (h j).fits)) (Memᴰ.append_cases ms q)

  -- it is not above what slot i holds
  as-before : (i : ℕ) → i < slot_count → rank_in i m ≤ highest i ms → get_or ws i nobody ≡ record { rank = highest i (ms ++ m ∷ []); number = origin_of (ms ++ m ∷ []) i }
  as-before i l g = let (a, b) = unraised i m ms g in W.each i l ∙ (λ j. record { rank = sym a j; number = sym b j })

  -- it is above no slot
  still : ((i : ℕ) → i < slot_count → rank_in i m ≤ highest i ms) → Won (ms ++ m ∷ []) ws
  still g = record { strings = strings-more; sized = W.sized; each = λ i l. as-before i l (g i l) }

module _ (m : List ℕ) (h : (k : ℕ) → Fits w8 (get_or m k 0)) (ws : List Winner) (x : ℕ) (rd : Result Heading Refusal) (R : Reads m rd) where
  pub won-unread : (n : Refusal) → rd ≡ Err n → (ms : List (List ℕ)) → x ≡ length ms + 1 → Won ms ws → Won (ms ++ m ∷ []) ws
  won-unread n e ms c W = still m h ms ws W (λ i l. omega (arith, unranked i m (unnamed i)))
    where
      unnamed : (i : ℕ) → names i m ≡ false
      unnamed i = cases (names i m) (λ t. absurd (true≢false (sym (named i m t).0 ∙ unread m rd R n e))) (λ t. t)

  module _ (g : Heading) (e : rd ≡ Ok g) (o k : ℕ) (eo : o ≡ slot_of g.field.0) (ek : k ≡ o) (r : ℕ) (er : r ≡ rank g.revision) where
    pub won-older : r ≤ (get_or ws k nobody).rank → (ms : List (List ℕ)) → x ≡ length ms + 1 → Won ms ws → Won (ms ++ m ∷ []) ws
    won-older q ms c W =
        still m h ms ws W (λ i l.
        elim (ℕ_discrete i k) [
          | yes z ↦ rw z (omega (arith, ap (λ (w : Winner). w.rank) (W.each k (slot-within m rd R g e o k eo ek)), own-rank m rd R g e o k eo ek r er))
          | no z ↦ omega (arith, other-rank m rd R g e o k eo ek i z)
        ])

    pub won-newer : (get_or ws k nobody).rank < r → (ms : List (List ℕ)) → x ≡ length ms + 1 → Won ms ws → Won (ms ++ m ∷ []) (set ws k (record { rank = r; number = x }))
    won-newer q ms c W =
        let l = slot-within m rd R g e o k eo ek in
        let p = own-rank m rd R g e o k eo ek r er in
        let (a, b) = raised k m ms (omega (arith, ap (λ (w : Winner). w.rank) (W.each k l), p)) in
        let new : Winner = record { rank = r; number = x } in
        record {
          strings = strings-more m h ms ws W;
          sized = length-set ws k new ∙ W.sized;
          each = λ i y.
              elim (ℕ_discrete i k) [
                | yes z ↦ rw z (get_or-set_same ws k new nobody (omega (arith, W.sized)) ∙ (λ j. record { rank = sym (a ∙ p) j; number = (c ∙ sym b) j }))
                | no z ↦ get_or-set_other ws k i new nobody z ∙ as-before m h ms ws W i y (omega (arith, other-rank m rd R g e o k eo ek i z))
              ];
        }

-- ---- the loop: n messages were given, and the others are left

abbrev WonBy : ℕ → List Winner → List (List ℕ) → Type 0
WonBy n ws ms = Won ms ws × (n ≡ length ms)

abbrev pub Seen : List (List ℕ) → List (List ℕ) → ℕ → List Winner → Type 0
Seen all left n ws = Gone all left (WonBy n ws)

pub none-won : (ws : List Winner) → ws ≡ map (λ (k : ℕ). nobody) slots → Won [] ws
unfolding origin_of
none-won ws e = record {
  strings = λ m h. absurd (Memᴰ.not-nil h);
  sized = ap length e;
  each = λ i l. ap (λ (x : List Winner). get_or x i nobody) e ∙ at_slots (λ (k : ℕ). nobody) nobody i l;
}

module _ {all left : List (List ℕ)} {n : ℕ} {ws : List Winner} (S : Seen all left n ws) (m : List ℕ) (after : List (List ℕ)) (e : left ≡ m ∷ after) where
  -- one more
  pub seen_next : (vs : List Winner) → ((ms : List (List ℕ)) → n + 1 ≡ length ms + 1 → Won ms ws → Won (ms ++ (m ∷ [])) vs) → Seen all after (n + 1) vs
  seen_next vs W = gone-next (WonBy (n + 1) vs) m after e S (W S.seen (ap (λ (x : ℕ). x + 1) S.holds.1) S.holds.0, omega (arith, S.holds.1, length-append S.seen (m ∷ [])))

  -- there is one more at least
  pub seen-room : n < length all
  seen-room = omega (arith, S.holds.1, ap length e, length-append S.seen left, ap length S.rest)

-- what the numbers of the winners of all messages promise
pub origins-by : (t : List ℕ) (ws : List Winner) → Won (messages_of t) ws → (ns : List ℕ) → length ns ≡ slot_count → ((i : ℕ) → i < slot_count → get_or ns i 0 ≡ (get_or ws i nobody).number) → Origins t ns
origins-by t ws W ns h e =
    let at : (i : ℕ) → i < slot_count → get_or ns i 0 ≡ origin_of (messages_of t) i = λ i l. e i l ∙ ap (λ (w : Winner). w.number) (W.each i l) in
    record {
      places = ext_get_or 0 ns (map (origin_of (messages_of t)) slots) h (λ i l. let b : i < slot_count = omega arith in at i b ∙ sym (at_slots (origin_of (messages_of t)) 0 i b));
      each = λ i l. rw (at i l) (origin-right i (messages_of t) W.strings l);
    }
