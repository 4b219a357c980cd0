use Rattle.std.proofs.Common.{sym, ◌∙◌, arith}
use Rattle.texts.proofs.Codes.{digit_value}
use Rattle.texts.specs.Texts.{value_of}
use Rattle.texts.proofs.digits.digit_value.Goals as goal

pub returns-then-is_digit : goal.returns-then-is_digit
returns-then-is_digit c = let v = digit_value c.args.b (sym c.is_digit.ensures ∙ c.if-is_digit.true) in (omega (arith, v.0), omega (arith, v.0, v.1))

pub returns-else-is_digit : goal.returns-else-is_digit
unfolding value_of
returns-else-is_digit c = let e = sym c.is_digit.ensures ∙ c.if-is_digit.false in (rw e, omega arith)
