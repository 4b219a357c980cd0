-- R-5: only that moves. It stands by itself, so that an edit of its parts' file is refused by the part that it makes false.
use mathlib.Core.Path.{refl}
use Rattle.sheets.specs.Sheet.{Sheet}
use Rattle.sheets.specs.declared.dates.Dates.{Dates}
use Rattle.rules.specs.Rules.{keeps, keeps_all}
use Rattle.rules.specs.Verdicts.{checked}
use Rattle.rules.specs.Requests.R5.{up_to20, from23, caught, MovedOnly}
use Rattle.rules.proofs.Exchanged.{every-exchanged, malformed-still, undated-still, moved-case}

pub moved-only : (D : Dates) (s : Sheet) → MovedOnly D s (checked D s)
unfolding keeps_all
moved-only D s =
    record {
      moved = λ w t. moved-case D s (caught D s) w t refl;
      malformed = malformed-still D s;
      undated = undated-still D s;
      kept = every-exchanged (keeps D s) 21 22 from23 up_to20;
    }
