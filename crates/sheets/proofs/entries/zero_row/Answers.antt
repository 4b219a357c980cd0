use Rattle.std.proofs.Common.{rules, ◌≡◌, get_or, map, [], ◌∷◌, ◌∙◌}
use Rattle.sheets.specs.Lists.{zero_texts}
use Rattle.sheets.specs.Working.Entries.{row_of}
use Rattle.sheets.proofs.Listed.{mapped}
use Rattle.sheets.proofs.entries.zero_row.Goals as goal

pub returns : goal.returns
unfolding row_of
returns c =
    let e : c.unwrap_or.result ≡ get_or (map row_of zero_texts) c.args.k (0 ∷ 0 ∷ 0 ∷ []) = search rules in
    e ∙ mapped row_of zero_texts c.args.k
