-- What a computation of messages and drafts unfolds, as one name.
use Rattle.sheets.specs.Working.Computing.{sheets_computing}
use Rattle.drafts.specs.Message.{opening, party_of, message_body, revision_of, message_text, misframed, read_tests, readable, reading_of, head_bytes, message_of, write_tests, writing_of, written_of}
use Rattle.drafts.specs.Draft.{slot_in, slot_revision, slot_cell, slot_text, slot_bytes, slot_with, slot_formed, slots_formed, draft_formed, fresh_draft, begin_tests, beginning_of, slot_comparison, comparison_of, post_tests, posting_of, stored, posted_to, copy_tests, copying_of, cells, draft_sheet}

unfoldable pub drafts_computing : Unit {0}
unfolding sheets_computing opening party_of message_body revision_of message_text misframed read_tests readable reading_of head_bytes message_of write_tests writing_of written_of slot_in slot_revision slot_cell slot_text slot_bytes slot_with slot_formed slots_formed draft_formed fresh_draft begin_tests beginning_of slot_comparison comparison_of post_tests posting_of stored posted_to copy_tests copying_of cells draft_sheet
drafts_computing = tt
