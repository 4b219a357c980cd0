use mathlib.Core.Path.{◌∙◌, subst, ap}
use native.Mathlib.Omega.{arith}
use Rattle.std.proofs.Common.{rules, ◌≡◌, ◌-◌, OnOk, take}
use Rattle.std.specs.Io.KnownBytes.{Appends}
use Rattle.texts.specs.Texts.{between}
use Rattle.cases.proofs.order_cases.report.Goals as goal

pub returns : goal.returns
unfolding between
returns g c short =
    let z : c.report-size.result - 0 ≡ c.report-size.result = omega arith in
    let whole = c.report-size.ensures.whole short (search rules) in
    subst (λ t. OnOk c.write_all.result (Appends (g.W.Write.contents c.args.out.now) (g.W.Write.contents c.write_all.new.self) t))
    (c.part.ensures ∙ ap (λ n. take n c.report-size.new.out) z ∙ whole) c.write_all.ensures.bytes
