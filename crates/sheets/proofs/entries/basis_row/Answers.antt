use Rattle.std.proofs.Common.{rules, arith, ◌≡◌, ◌-◌, ◌<◌, ◌≤◌, get_or, []}
use Rattle.texts.specs.Quoted.{words}
use Rattle.sheets.specs.Lists.{letter_pairs, basis_texts}
use Rattle.sheets.specs.Working.Entries.{zero_count}
use Rattle.sheets.proofs.Listed.{past_row, basis-zero, basis-pair}
use Rattle.sheets.proofs.entries.basis_row.Goals as goal

pub returns-then-k-lt-ZERO_COUNT : goal.returns-then-k-lt-ZERO_COUNT
returns-then-k-lt-ZERO_COUNT c = search (rules, basis-zero)

pub returns-in-Some : goal.returns-in-Some
returns-in-Some c =
    let k = c.args.k in
    let e : c.in-Some.pair.now ≡ get_or (words letter_pairs) (k - zero_count) [] = search rules in
    let h : k - zero_count < 10 = search rules in
    rw e (basis-pair k c.if-k-lt-ZERO_COUNT.false (omega (arith, h)))

pub returns-in-None : goal.returns-in-None
returns-in-None c =
    let k = c.args.k in
    let h : 10 ≤ k - zero_count = search rules in
    past_row basis_texts k (omega (arith, h))
