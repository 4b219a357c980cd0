-- The messages of an input, one at a time, and the ways through the functions that post them.
use mathlib.Core.Path.{◌≡◌, refl, sym, ap, ◌∙◌, subst}
use mathlib.Core.Logic.{◌↔◌}
use mathlib.Core.Bool.{Bool, true, false, cond, true≢false}
use mathlib.Core.List.{List, [], ◌∷◌, ◌++◌, append_assoc, append-nil}
use Prim.Native.Nat.{ℕ, zero, suc, ◌+◌, ◌-◌, ◌<◌, ◌≤◌}
use native.Mathlib.Decide.{ℕ_discrete}
use native.Mathlib.Omega.{arith}
use borrow.Author.Rules.{rules}
use borrow.Author.Tests.{eq-eqb, ne_eqb, eqb-true}
use lib.Dec.{eqb}
use lib.ListN.{length, get_or, take, drop, length-take, length-drop}
use lib.Seq.{take_all}
use Rattle.texts.specs.Numbers.{big}
use Rattle.texts.specs.Texts.{between}
use Rattle.texts.specs.Answers.{refusal, number_of, Test, test, answer_by}
use Rattle.texts.proofs.Bools.{cases}
use Rattle.drafts.specs.Message.{length_of, read_tests, reading_of}
use denote.Enum.Bare.{sameb}
use Rattle.texts.specs.contracts.answers.Refusal.{the_type}
use Rattle.texts.specs.Refusals.{refusal_number}
use Rattle.texts.specs.declared.answers.Refusal.TheVariants.{Malformed, BadLength, UnknownVersion, UnknownField, NoRevision, Clash, WrongSize, BrokenRule, NotBudget, Impossible, NotLines, Undated, UnknownParty, BadCharge, BadPart, BadRegister, Differs, BadPayments, SameArrivals, Unfit}
use Rattle.drafts.specs.declared.message.Heading.{Heading}
use Rattle.drafts.specs.Promises.{Reads, Postings}
use Rattle.texts.specs.declared.answers.Refusal.{Refusal}
use Rattle.sheets.specs.declared.dates.Dates.{Dates}
use Rattle.orders.specs.Complete.{completing, completed, complete_answer}
use Rattle.orders.specs.Whole.{Whole, Completes}
use Rattle.orders.specs.Stream.{piece_of, ends_stream, pieces, messages_of, Parted, finished, stops, goes_on, Streams}
use Rattle.orders.specs.declared.complete.Filled.{Filled}
use Rattle.orders.specs.declared.complete.Incomplete.{Incomplete}
use Rattle.std.specs.Prelude.{Result, Ok, Err}
use Rattle.orders.proofs.Whole.{left-formed}

-- ---- a piece

pub piece_is : (s p : List ℕ) (a b n : ℕ) → a ≡ get_or s 0 0 → b ≡ get_or s 1 0 → n ≡ big (a ∷ b ∷ []) → p ≡ between s 0 (n + 2) → p ≡ piece_of s
unfolding piece_of between
piece_is s p a b n ea eb en ep =
    let z : n + 2 - 0 ≡ length_of s + 2 = omega arith in
    ep ∙ rw z

-- it is no longer than what is left, and has a byte where one is left
piece-length : (s : List ℕ) → 0 < length s → (0 < length (piece_of s)) × (length (piece_of s) ≤ length s)
unfolding piece_of
piece-length s n = simp length-take (omega arith, omega arith)

-- ---- the end of a stream

is-short : (n : Refusal) → sameb the_type n BadLength ≡ eqb (refusal_number n) 2
is-short Malformed = refl
is-short BadLength = refl
is-short UnknownVersion = refl
is-short UnknownField = refl
is-short NoRevision = refl
is-short Clash = refl
is-short WrongSize = refl
is-short BrokenRule = refl
is-short NotBudget = refl
is-short Impossible = refl
is-short NotLines = refl
is-short Undated = refl
is-short UnknownParty = refl
is-short BadCharge = refl
is-short BadPart = refl
is-short BadRegister = refl
is-short Differs = refl
is-short BadPayments = refl
is-short SameArrivals = refl
is-short Unfit = refl

module _ (m : List ℕ) (rd : Result Heading Refusal) (R : Reads m rd) where
  pub ends-not : (g : Heading) → rd ≡ Ok g → false ≡ ends_stream m
  unfolding ends_stream
  ends-not g e = rw (← R.answer, e)

  pub ends_by : (n : Refusal) → rd ≡ Err n → sameb the_type n BadLength ≡ ends_stream m
  unfolding ends_stream
  ends_by n e = is-short n ∙ (rw (← R.answer, e))

-- a refusal of tests that return nothing beside their numbers
abbrev Bare : List Test → Type 0
Bare [] = Unit
Bare (test b n vs ∷ ts) = (vs ≡ []) × Bare ts

bare : (k : ℕ) (ws : List ℕ) (ts : List Test) → Bare ts → (k ≡ 0 → ⊥) → number_of (answer_by ts ws) ≡ k → answer_by ts ws ≡ refusal k []
bare k ws [] p z e = absurd (z (sym e))
bare k ws (test true n vs ∷ ts) p z e = λ i. refusal (e i) (p.0 i)
bare k ws (test false n vs ∷ ts) p z e = bare k ws ts p.1 z e

ends-exactly : (m : List ℕ) → (ends_stream m ≡ true) ↔ (reading_of m ≡ refusal 2 [])
unfolding ends_stream reading_of read_tests
ends-exactly m = (
  λ t. bare 2 _ (read_tests m) (refl, (refl, (refl, (refl, (refl, (refl, tt)))))) (λ z. omega arith) (eqb-true (number_of (reading_of m)) 2 t),
  λ e. rw e,
)

-- ---- the messages

-- more room makes no difference
pieces_more : (n k : ℕ) (s : List ℕ) → length s ≤ n → length s ≤ k → pieces n s ≡ pieces k s
unfolding pieces
pieces_more zero zero s h g = refl
pieces_more zero (suc k) s h g = let e : length s ≡ 0 = omega arith in rw (eq-eqb _ _ e)
pieces_more (suc n) zero s h g = let e : length s ≡ 0 = omega arith in rw (eq-eqb _ _ e)
pieces_more (suc n) (suc k) s h g =
    elim (ℕ_discrete (length s) 0) [
      | yes e ↦ rw (eq-eqb _ _ e)
      | no q ↦
          let p = piece-length s (omega arith) in
          let l = length-drop (length (piece_of s)) s in
          rw (pieces_more n k (drop (length (piece_of s)) s) (omega arith) (omega arith))
    ]

pub messages-none : (s : List ℕ) → length s ≡ 0 → messages_of s ≡ []
unfolding messages_of pieces
messages-none s e = rw e

pub messages-next : (s : List ℕ) → 0 < length s → messages_of s ≡ piece_of s ∷ cond (ends_stream (piece_of s)) [] (messages_of (drop (length (piece_of s)) s))
unfolding messages_of pieces
messages-next s h =
    let p = piece-length s h in
    let l = length-drop (length (piece_of s)) s in
    let q : length s ≡ 0 → ⊥ = λ z. omega arith in
    let e : length s ≡ suc (length s - 1) = omega arith in
    ap (λ (n : ℕ). pieces n s) e
    ∙ rw (ne_eqb _ _ q, pieces_more (length s - 1) (length (drop (length (piece_of s)) s)) (drop (length (piece_of s)) s) (omega arith) (omega arith))

-- the same with no function
split_at : (k : ℕ) (l : List ℕ) → l ≡ take k l ++ drop (length (take k l)) l
split_at zero l = refl
split_at (suc k) [] = refl
split_at (suc k) (x ∷ l) = ap (λ (y : List ℕ). x ∷ y) (split_at k l)

parted-none : (i : List ℕ) → length i ≡ 0 → Parted i (messages_of i)
parted-none [] e = rw (messages-none [] refl) finished
parted-none (x ∷ s) e = absurd (omega arith)

parted-next : (i : List ℕ) → 0 < length i → Parted (drop (length (piece_of i)) i) (messages_of (drop (length (piece_of i)) i)) → Parted i (messages_of i)
unfolding piece_of
parted-next i h P =
    let m = piece_of i in
    let rest = drop (length m) i in
    let e = split_at (length_of i + 2) i in
    let p = piece-length i h in
    cases (ends_stream m)
    (λ t. rw (messages-next i h, t) (stops i m rest e p.0 refl ((ends-exactly m).0 t)))
    (λ f.
    let q : reading_of m ≡ refusal 2 [] → ⊥ = λ z. true≢false (sym ((ends-exactly m).1 z) ∙ f) in
    rw (messages-next i h, f) (goes_on i m rest (messages_of rest) e p.0 refl q P))

parted-in : (n : ℕ) (i : List ℕ) → length i ≤ n → Parted i (messages_of i)
parted-in zero i h = parted-none i (omega arith)
parted-in (suc n) i h =
    elim (ℕ_discrete (length i) 0) [
      | yes e ↦ parted-none i e
      | no q ↦
          let o : 0 < length i = omega arith in
          let p = piece-length i o in
          let l = length-drop (length (piece_of i)) i in
          parted-next i o (parted-in n (drop (length (piece_of i)) i) (omega (arith, p.0, l)))
    ]

-- ---- the iterator

-- what is left behind the first message m of s: nothing after one that ends the stream
module _ (s m r : List ℕ) (h : 0 < length s) (em : m ≡ piece_of s) (b : Bool) (eb : b ≡ ends_stream m) where
  ends : ends_stream (piece_of s) ≡ b
  ends = sym (eb ∙ ap ends_stream em)

  given-last : b ≡ true → r ≡ between s (length s) (length s) → messages_of s ≡ m ∷ messages_of r
  unfolding between
  given-last t q =
      let z : length r ≡ 0 = omega (arith, ap length q, length-take (length s - length s) (drop (length s) s)) in
      messages-next s h
      ∙ (λ i. piece_of s ∷ cond ((ends ∙ t) i) [] (messages_of (drop (length (piece_of s)) s)))
      ∙ (λ i. sym em i ∷ sym (messages-none r z) i)

  given-next : b ≡ false → r ≡ between s (length m) (length s) → messages_of s ≡ m ∷ messages_of r
  unfolding between
  given-next t q =
      let d : drop (length (piece_of s)) s ≡ r = ap (λ (l : List ℕ). drop (length l) s) (sym em) ∙ sym (q ∙ take_all (length s - length m) (drop (length m) s) (omega (arith, length-drop (length m) s))) in
      messages-next s h
      ∙ (λ i. piece_of s ∷ cond ((ends ∙ t) i) [] (messages_of (drop (length (piece_of s)) s)))
      ∙ (λ i. sym em i ∷ messages_of (d i))

  pub given : (e : ℕ) → r ≡ between s e (length s) → (b ≡ true → e ≡ length s) → (b ≡ false → e ≡ length m) → messages_of s ≡ m ∷ messages_of r
  given e q u v = cases b (λ t. given-last t (q ∙ ap (λ (k : ℕ). between s k (length s)) (u t))) (λ f. given-next f (q ∙ ap (λ (k : ℕ). between s k (length s)) (v f)))

-- a message has a byte at least, so that there are no more of them than bytes
pieces-room : (n : ℕ) (s : List ℕ) → length (pieces n s) ≤ n
unfolding pieces
pieces-room zero s = omega arith
pieces-room (suc n) s =
    elim (ℕ_discrete (length s) 0) [
      | yes e ↦ rw (eq-eqb _ _ e) (omega arith)
      | no q ↦
          rw (ne_eqb _ _ q)
          (cases (ends_stream (piece_of s)) (λ t. rw t (omega arith)) (λ f. rw f (omega (arith, pieces-room n (drop (length (piece_of s)) s)))))
    ]

pub messages-room : (i : List ℕ) → length (messages_of i) ≤ length i
unfolding messages_of
messages-room i = pieces-room (length i) i

-- ---- a loop over messages

-- P holds of those that were given, and the others are left
pub record Gone (all left : List (List ℕ)) (P : List (List ℕ) → Type 0) : Type 0 where
  pub seen : List (List ℕ)
  pub holds : P seen
  pub rest : seen ++ left ≡ all

module _ {all left : List (List ℕ)} {P : List (List ℕ) → Type 0} where
  pub gone-none : P [] → left ≡ all → Gone all left P
  gone-none h e = record { seen = []; holds = h; rest = e }

  pub gone-done : Gone all left P → left ≡ [] → P all
  gone-done S e = subst P (sym (append-nil S.seen) ∙ ap (λ (l : List (List ℕ)). S.seen ++ l) (sym e) ∙ S.rest) S.holds

  pub gone-next : (Q : List (List ℕ) → Type 0) (m : List ℕ) (after : List (List ℕ)) → left ≡ m ∷ after → (S : Gone all left P) → Q (S.seen ++ m ∷ []) → Gone all after Q
  gone-next Q m after e S h = record {
    seen = S.seen ++ m ∷ [];
    holds = h;
    rest = append_assoc S.seen (m ∷ []) after ∙ ap (λ (l : List (List ℕ)). S.seen ++ l) (sym e) ∙ S.rest;
  }

-- one message m of an input i, from place k on
module _ (i : List ℕ) (k : ℕ) (h : k < length i) (s m : List ℕ) (es : s ≡ between i k (length i)) (em : m ≡ piece_of s) where
  pub rest-is : s ≡ drop k i
  unfolding between
  rest-is = es ∙ take_all (length i - k) (drop k i) (omega (arith, length-drop k i))

  pub first-is : m ≡ piece_of (drop k i)
  first-is = em ∙ ap piece_of rest-is

  pub some : 0 < length (drop k i)
  some = omega (arith, length-drop k i)

-- ---- the whole

pub streamed : (D : Dates) (i b d : List ℕ) (r : Result Filled Incomplete) (t : List ℕ) → Postings (messages_of i) d → Completes D d b r t → Streams D i b r t
streamed D i b d r t L C = record {
  answer = C.answer ∙ ap (λ (x : List ℕ). completing D x b) L.draft;
  sheet = C.sheet ∙ ap (λ (x : List ℕ). completed D x b) L.draft;
  refused = C.refused;
  sized = C.sized (left-formed (messages_of i) d L);
  undated = C.undated (left-formed (messages_of i) d L);
  ends = ends-exactly;
  parted = parted-in (length i) i (omega arith);
  whole = subst (λ (x : List ℕ). Whole D (messages_of i) x b (complete_answer r) t) L.draft (C.whole (messages_of i) L);
}

pub ruleset streams = (rules, piece_is)
