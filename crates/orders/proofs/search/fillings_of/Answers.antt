use native.Mathlib.Omega.{arith}
use Rattle.orders.proofs.Passing.{most}
use Rattle.orders.proofs.Pacing.{rest-counted}
use Rattle.orders.proofs.search.fillings_of.Goals as goal

pub overflow_mul-result : goal.overflow_mul-result
overflow_mul-result c = record { fits = omega (arith, (most _ _ _ c.width_of-bases.ensures.1 c.width_of-documents.ensures.1 c.width_of-days.ensures.1).0) }

pub overflow_mul-result-2 : goal.overflow_mul-result-2
overflow_mul-result-2 c = record { fits = omega (arith, (most _ _ _ c.width_of-bases.ensures.1 c.width_of-documents.ensures.1 c.width_of-days.ensures.1).1) }

pub returns : goal.returns
returns c = (
  rest-counted _ _ _ _ c.blank_basis.ensures.0 c.blank_document.ensures.0 c.blank_day.ensures.0 _ _ _ c.width_of-bases.ensures.0 c.width_of-documents.ensures.0 c.width_of-days.ensures.0,
  (most _ _ _ c.width_of-bases.ensures.1 c.width_of-documents.ensures.1 c.width_of-days.ensures.1).1,
)
