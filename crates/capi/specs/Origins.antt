-- The origins of an input's slots for C.
use Rattle.std.specs.Prelude.{◌≡◌, List, map, ℕ, ◌<◌, get_or}
use Rattle.sheets.specs.Sheet.{slots, slot_count}
use Rattle.orders.specs.Stream.{messages_of}
use Rattle.orders.specs.Origins.{origin_of, Origin}

-- asking which message of the input t each slot holds left e in the fifteen places: a number for each slot, in their order
pub record OriginsReturns (t e : List ℕ) : Type 0 where
  pub places : e ≡ map (origin_of (messages_of t)) slots
  -- the message that demand 3 speaks of
  pub each : (i : ℕ) → i < slot_count → Origin i (messages_of t) (get_or e i 0)
