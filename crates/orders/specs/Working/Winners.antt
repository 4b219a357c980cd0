-- For each slot the message that wins it, after some messages. A reader of the promise needs none of this.
use Rattle.std.specs.Prelude.{◌≡◌, List, ℕ, ◌<◌, length, get_or}
use Rattle.sheets.specs.Sheet.{slot_count}
use Rattle.drafts.specs.History.{AllBytes, highest}
use Rattle.orders.specs.Origins.{origin_of}
use Rattle.orders.specs.declared.origins.Winner.{Winner}

abbrev pub nobody : Winner
nobody = record { rank = 0; number = 0 }

pub record Won (ms : List (List ℕ)) (ws : List Winner) : Type 0 where
  pub strings : AllBytes ms
  pub sized : length ws ≡ slot_count
  pub each : (i : ℕ) → i < slot_count → get_or ws i nobody ≡ record { rank = highest i ms; number = origin_of ms i }
