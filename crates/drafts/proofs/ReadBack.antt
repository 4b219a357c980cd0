-- What is written reads back. It stands by itself, so that a must-fail edit of what a message is made of is refused there.
use mathlib.Core.Path.{◌≡◌, ◌∙◌}
use mathlib.Core.List.{List}
use Prim.Native.Nat.{ℕ}
use Rattle.texts.specs.Answers.{success}
use Rattle.drafts.specs.Message.{IsMessage, message_text, read_values, reading_of}
use Rattle.drafts.specs.declared.revision.Revision.{Revision}
use Rattle.drafts.proofs.Messages.{reading-is, message-is}

pub read_back : (m : List ℕ) (w f : ℕ) (v : Revision) (t : List ℕ) → IsMessage m w f v t → (reading_of m ≡ success (read_values w f v)) × (message_text m ≡ t)
read_back m w f v t M =
    let q = message-is m w f v t M in
    (reading-is m q.0 ∙ rw (q.1, q.2, q.3), q.4)
