-- Messages (document 01, "Fields and messages", "Writer and program"; R-8).
use Rattle.std.specs.Prelude.{◌≡◌, Bool, cond, not, ◌&&◌, ◌||◌, ℕ, ◌+◌, ◌-◌, ◌≤◌, eqb, ltb, length, get_or, drop, Result, Ok, Err}
use mathlib.Core.List.{List, [], ◌∷◌, ◌++◌, Memᴰ}
use Rattle.texts.specs.Quoted.{Text}
use Rattle.texts.specs.Numbers.{big, bytes_of, bytes_at}
use Rattle.texts.specs.Buffers.{put}
use Rattle.texts.specs.Answers.{Answer, success, refusal, Test, ◌refuses◌, passes, answer_by, buffer_by}
use Rattle.sheets.specs.Sheet.{fields, slot_count, slot_of, text_max}
use Rattle.drafts.specs.Revision.{adviser, known_party, Known, ◌by◌}
use Rattle.drafts.specs.declared.revision.Revision.{Revision}
use Rattle.drafts.specs.declared.message.Heading.{Heading}
use Rattle.texts.specs.declared.answers.Refusal.{Refusal}
use Rattle.texts.specs.Refusals.{refusal_number}

abbrev pub known_version : ℕ → Bool
known_version w = eqb w 1 || eqb w 2

-- what stands behind L, up to the field: the version, and "a party byte after the version" in version 2
unfoldable pub opening : ℕ → ℕ → List ℕ
opening w p = cond (eqb w 2) (w ∷ p ∷ []) (w ∷ [])

-- the place of the field; from there on both versions have the same: field, revision, text
abbrev pub body_place : ℕ → ℕ
body_place w = cond (eqb w 2) 4 3

abbrev pub revision_place : ℕ
revision_place = 1

abbrev pub revision_size : ℕ
revision_size = 4

abbrev pub text_place : ℕ
text_place = revision_place + revision_size

-- the bytes before a text
abbrev pub head_size : ℕ → ℕ
head_size w = body_place w + text_place

-- L counts what stands behind its own two bytes: 6 to 31 in version 1, 7 to 32 in version 2
abbrev pub least_l : ℕ → ℕ
least_l w = head_size w - 2

abbrev pub most_l : ℕ → ℕ
most_l w = least_l w + text_max

-- a message of the version w may be of the party p: "Version 1 counts as the adviser"
pub data Speaks (w p : ℕ) : Type 0 where
  first : w ≡ 1 → p ≡ adviser → Speaks w p
  second : w ≡ 2 → Known p → Speaks w p

-- m is a message of the version w, the field f, the revision v with its party, and the text t: "two bytes L, big-endian, the length of
-- what follows"; the version, and in version 2 the party; "field number in one byte; revision in four bytes, big-endian, not 0; the text"
pub record IsMessage (m : List ℕ) (w f : ℕ) (v : Revision) (t : Text) : Type 0 where
  pub l1 : ℕ
  pub l2 : ℕ
  pub r1 : ℕ
  pub r2 : ℕ
  pub r3 : ℕ
  pub r4 : ℕ
  pub speaks : Speaks w v.party.0
  pub parts : m ≡ l1 ∷ l2 ∷ (opening w v.party.0 ++ (f ∷ r1 ∷ r2 ∷ r3 ∷ r4 ∷ t))
  pub size : big (l1 ∷ l2 ∷ []) ≡ least_l w + length t
  pub most : least_l w + length t ≤ most_l w
  pub listed : Memᴰ f fields
  pub revision : big (r1 ∷ r2 ∷ r3 ∷ r4 ∷ []) ≡ v.number
  pub given : v.number ≡ 0 → ⊥

-- the same parts, as reading takes them
abbrev pub length_of : List ℕ → ℕ
length_of m = big (bytes_at m 0 2)

abbrev pub version_of : List ℕ → ℕ
version_of m = get_or m 2 0

-- "Version 1 counts as the adviser"
unfoldable pub party_of : List ℕ → ℕ
party_of m = cond (eqb (version_of m) 2) (get_or m 3 0) adviser

-- field, revision and text
unfoldable pub message_body : List ℕ → List ℕ
message_body m = drop (body_place (version_of m)) m

abbrev pub message_field : List ℕ → ℕ
message_field m = get_or (message_body m) 0 0

unfoldable pub revision_of : List ℕ → Revision
revision_of m = big (bytes_at (message_body m) revision_place revision_size) by party_of m

unfoldable pub message_text : List ℕ → Text
message_text m = drop text_place (message_body m)

-- "field not listed"
abbrev pub unlisted : ℕ → Bool
unlisted f = eqb (slot_of f) slot_count

-- "message under 2 bytes, L not the rest", "L outside 6 to 31 becomes 6 to 32"
unfoldable pub misframed : List ℕ → Bool
misframed m = ltb (length m) 2 || (not (eqb (length_of m + 2) (length m)) || (ltb (length_of m) (least_l 1) || ltb (most_l 2) (length_of m)))

-- "an L its version doesn't allow"
abbrev pub disallowed : ℕ → ℕ → Bool
disallowed w l = ltb l (least_l w) || ltb (most_l w) l

-- "a version other than 1 or 2"; "2 is also, tested after 3, an L its version doesn't allow"; "an unknown party"; "field not listed";
-- "revision 0"
unfoldable pub read_tests : List ℕ → List Test
read_tests m =
    (misframed m refuses 2)
    ∷ (not (known_version (version_of m)) refuses 3)
    ∷ (disallowed (version_of m) (length_of m) refuses 2)
    ∷ (not (known_party (party_of m)) refuses 13)
    ∷ (unlisted (message_field m) refuses 4)
    ∷ (eqb (revision_of m).number 0 refuses 5)
    ∷ []

-- "A message is readable if reading doesn't refuse it"
unfoldable pub readable : List ℕ → Bool
readable m = passes (read_tests m)

-- what reading returns of a message: "Reading also returns version and party"
abbrev pub read_values : ℕ → ℕ → Revision → List ℕ
read_values w f v = w ∷ v.party.0 ∷ f ∷ v.number ∷ []

-- "Reading returns field, revision and the text": the text is what `message_text` returns
unfoldable pub reading_of : List ℕ → Answer
reading_of m = answer_by (read_tests m) (read_values (version_of m) (message_field m) (revision_of m))

abbrev pub read_answer : Result Heading Refusal → Answer
read_answer (Ok h) = success (read_values h.version.0 h.field.0 h.revision)
read_answer (Err n) = refusal (refusal_number n) []

-- the bytes before a text of n bytes; L is at most 32, so that its first byte is 0
unfoldable pub head_bytes : ℕ → ℕ → Revision → ℕ → List ℕ
head_bytes w f v n = 0 ∷ (n + least_l w) ∷ (opening w v.party.0 ++ (f ∷ bytes_of revision_size v.number))

unfoldable pub message_of : ℕ → ℕ → Revision → Text → List ℕ
message_of w f v t = head_bytes w f v (length t) ++ t

-- a known party, and not "the client when writing version 1"
abbrev pub allowed : ℕ → ℕ → Bool
allowed w p = known_party p && (eqb w 2 || eqb p adviser)

-- what writing asks for: a version and a party that it allows, a listed field, a revision, a text of at most 25 bytes, and room
pub record Writable (w f : ℕ) (v : Revision) (t b : List ℕ) : Type 0 where
  pub short : length t ≤ text_max
  pub speaks : Speaks w v.party.0
  pub listed : Memᴰ f fields
  pub given : v.number ≡ 0 → ⊥
  pub room : length t + head_size w ≤ length b

-- "writer: text over 25", "a version other than 1 or 2", "an unknown party, or the client when writing version 1", "field not listed",
-- "revision 0", "a message buffer too short"
unfoldable pub write_tests : ℕ → ℕ → Revision → Text → List ℕ → List Test
write_tests w f v t b =
    (ltb text_max (length t) refuses 2)
    ∷ (not (known_version w) refuses 3)
    ∷ (not (allowed w v.party.0) refuses 13)
    ∷ (unlisted f refuses 4)
    ∷ (eqb v.number 0 refuses 5)
    ∷ (ltb (length b) (length t + head_size w) refuses 7)
    ∷ []

-- "writes L + 2 bytes at its start, returns L + 2 and leaves the rest"
unfoldable pub writing_of : ℕ → ℕ → Revision → Text → List ℕ → Answer
writing_of w f v t b = answer_by (write_tests w f v t b) ((length t + head_size w) ∷ [])

unfoldable pub written_of : ℕ → ℕ → Revision → Text → List ℕ → List ℕ
written_of w f v t b = buffer_by (write_tests w f v t b) (put b 0 (message_of w f v t)) b

abbrev pub write_answer : Result ℕ Refusal → Answer
write_answer (Ok n) = success (n ∷ [])
write_answer (Err n) = refusal (refusal_number n) []
