-- What the contracts promise.
use Rattle.std.specs.Prelude.{◌≡◌, ◌↔◌, true, false, ℕ, ◌+◌, ◌≤◌, ◌<◌, length, take, drop, Result, Ok, Err}
use mathlib.Core.List.{List, [], ◌∷◌, ◌++◌, Permᴰ}
use Rattle.texts.specs.Answers.{success, refusal}
use Rattle.texts.specs.Numbers.{Bytes}
use Rattle.texts.specs.Buffers.{put}
use Rattle.sheets.specs.Sheet.{slot_count, slot_of, text_of, sheet_size, well_formed}
use Rattle.drafts.specs.Revision.{◌below◌}
use Rattle.drafts.specs.Message.{head_size, read_values, IsMessage, Writable, message_text, reading_of, read_answer, writing_of, written_of, write_answer}
use Rattle.drafts.specs.Draft.{slot_in, slot_revision, slot_text, draft_size, draft_formed, beginning_of, begun_from, begin_answer, posting_of, posted_to, post_answer, copying_of, copied_to, copy_answer}
use Rattle.drafts.specs.History.{posted_all, names, end_slot, Ends, AllBytes, NoClash, Distinct, those, is_of, WroteAlone}
use Rattle.drafts.specs.declared.revision.Revision.{Revision}
use Rattle.drafts.specs.declared.revision.Standing.{Standing}
use Rattle.drafts.specs.declared.revision.Standing.TheVariants.{Newer, Same, Older}
use Rattle.drafts.specs.declared.message.Heading.{Heading}
use Rattle.texts.specs.declared.answers.Refusal.{Refusal}
use Rattle.texts.specs.declared.answers.Refusal.TheVariants.{Malformed, Clash}
use Rattle.texts.specs.Refusals.{refusal_number}

-- reading m returned r
pub record Reads (m : List ℕ) (r : Result Heading Refusal) : Type 0 where
  pub answer : read_answer r ≡ reading_of m
  -- it reads exactly as what it is a message of
  pub exactly : (h : Heading) (t : List ℕ) → ((r ≡ Ok h) × (message_text m ≡ t)) ↔ IsMessage m h.version.0 h.field.0 h.revision t
  -- a message that reads is the one that the writer makes of its version, party, field, revision and text, in every buffer that has room
  -- for it
  pub made :
      (h : Heading)
      → r ≡ Ok h
      → (b : List ℕ)
      → length m ≤ length b
      → (writing_of h.version.0 h.field.0 h.revision (message_text m) b ≡ success (length m ∷ []))
      × (written_of h.version.0 h.field.0 h.revision (message_text m) b ≡ put b 0 m)

-- writing the heading h and the text t to the buffer b returned r and left e
pub record Writes (h : Heading) (t b : List ℕ) (r : Result ℕ Refusal) (e : List ℕ) : Type 0 where
  pub answer : write_answer r ≡ writing_of h.version.0 h.field.0 h.revision t b
  pub buffer : e ≡ written_of h.version.0 h.field.0 h.revision t b
  -- "A refused call changes none of them"
  pub refused : ((n : ℕ) → r ≡ Ok n → ⊥) → e ≡ b
  pub exactly : (r ≡ Ok (length t + head_size h.version.0)) ↔ Writable h.version.0 h.field.0 h.revision t b
  -- "writes L + 2 bytes at its start .. and leaves the rest"
  pub made : (n : ℕ) → r ≡ Ok n → IsMessage (take n e) h.version.0 h.field.0 h.revision t × (drop n e ≡ drop n b)
  -- what was written reads back as its version, party, field, revision and text
  pub back : (n : ℕ) → r ≡ Ok n → (reading_of (take n e) ≡ success (read_values h.version.0 h.field.0 h.revision)) × (message_text (take n e) ≡ t)

-- d is what the postings of ms, all of them byte strings, left, one after another from a fresh draft
pub record Postings (ms : List (List ℕ)) (d : List ℕ) : Type 0 where
  pub draft : d ≡ posted_all ms
  pub strings : AllBytes ms

-- what such a draft holds (the first half of demand 3)
pub record Held (ms : List (List ℕ)) (d : List ℕ) : Type 0 where
  pub formed : draft_formed d ≡ true
  pub slot : (i : ℕ) → i < slot_count → slot_in d i ≡ end_slot i ms
  pub ends : (i : ℕ) → i < slot_count → Ends i ms (slot_in d i)
  -- "same field, revision and party, same text. With it any arrangement ends in one draft"
  pub arranged : NoClash ms → (ns : List (List ℕ)) → Permᴰ ms ns → posted_all ns ≡ d
  -- this premise is true of one message, which agrees with itself, and of messages that differ in field, revision or party
  pub single : (m : List ℕ) → NoClash (m ∷ [])
  pub distinct : Distinct ms → NoClash ms
  -- a slot ends as it does in every list that has the same messages for its field, in the same order
  pub named :
      (i : ℕ) → i < slot_count
      → (ns : List (List ℕ)) → AllBytes ns
      → those (names i) ns ≡ those (names i) ms
      → slot_in (posted_all ns) i ≡ slot_in d i
  -- "A field that only one party wrote ends the same, whichever messages of the other that don't name it stand before, between or after its
  -- own": in two lists of the same messages of the party p, in the same order, where no other names the field of slot i
  pub alone :
      (p i : ℕ) → i < slot_count
      → WroteAlone p i ms
      → (ns : List (List ℕ)) → AllBytes ns
      → WroteAlone p i ns
      → those (is_of p) ns ≡ those (is_of p) ms
      → slot_in (posted_all ns) i ≡ slot_in d i

-- making d fresh returned r and left e: what posting no message leaves
pub record Freshens (d : List ℕ) (r : Result Unit Refusal) (e : List ℕ) : Type 0 where
  pub answer : begin_answer r ≡ beginning_of d
  pub draft : e ≡ begun_from d
  -- "A refused call changes none of them"
  pub refused : (r ≡ Ok tt → ⊥) → e ≡ d
  pub exactly : (r ≡ Ok tt) ↔ (length d ≡ draft_size)
  pub start : length d ≡ draft_size → Postings [] e

-- what posting a message of the revision v and the text t answers, by the slot s of its field: "higher, stored, "newer"; equal with the
-- same text, "same"; lower, "older""; "equal revision, other text"; "at equal revisions the adviser's stands over the client's, whichever
-- came first, and the answer is "newer" or "older" accordingly. Clash 6 needs equal party too"
pub data Stands (s : List ℕ) (v : Revision) (t : List ℕ) : Result Standing Refusal → Type 0 where
  newer : slot_revision s below v → Stands s v t (Ok Newer)
  same : slot_revision s ≡ v → slot_text s ≡ t → Stands s v t (Ok Same)
  older : v below slot_revision s → Stands s v t (Ok Older)
  clash : slot_revision s ≡ v → (slot_text s ≡ t → ⊥) → Stands s v t (Err Clash)

-- posting m to d returned r and left e: one message more, after those that left d
pub record Posts (d m : List ℕ) (r : Result Standing Refusal) (e : List ℕ) : Type 0 where
  pub answer : post_answer r ≡ posting_of d m
  pub draft : e ≡ posted_to d m
  -- "A refused call changes none of them"; "the last two change nothing"
  pub refused : (r ≡ Ok Newer → ⊥) → e ≡ d
  pub malformed : (r ≡ Err Malformed) ↔ (draft_formed d ≡ false)
  pub unread : draft_formed d ≡ true → (n : Refusal) → reading_of m ≡ refusal (refusal_number n) [] → r ≡ Err n
  pub stands : draft_formed d ≡ true → (w f : ℕ) (v : Revision) (t : List ℕ) → IsMessage m w f v t → Stands (slot_in d (slot_of f)) v t r
  pub after : (ms : List (List ℕ)) → Postings ms d → Postings (ms ++ (m ∷ [])) e
  pub held : (ms : List (List ℕ)) → Postings ms d → Held (ms ++ (m ∷ [])) e
  -- these say it of every well-formed draft: each is one that postings left
  pub reached : Bytes d → draft_formed d ≡ true → (ms : List (List ℕ)) × Postings ms d

-- copying d to the buffer s returned r and left e
pub record Copies (d s : List ℕ) (r : Result Unit Refusal) (e : List ℕ) : Type 0 where
  pub answer : copy_answer r ≡ copying_of d s
  pub sheet : e ≡ copied_to d s
  -- "A refused call changes none of them"
  pub refused : (r ≡ Ok tt → ⊥) → e ≡ s
  pub exactly : (r ≡ Ok tt) ↔ ((draft_formed d ≡ true) × (length s ≡ sheet_size))
  -- the sheet that was made is well formed and has the draft's texts
  pub made : r ≡ Ok tt → (well_formed e ≡ true) × ((i : ℕ) → i < slot_count → text_of e i ≡ slot_text (slot_in d i))
