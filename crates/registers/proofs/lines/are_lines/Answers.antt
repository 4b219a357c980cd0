use Rattle.std.proofs.Common.{rules, List, ℕ, ◌∙◌}
use Rattle.std.proofs.lemmas.Iterator.{YieldsList-from_slice}
use Rattle.std.proofs.lemmas.Iterator.Search.{all_from_yields_List}
use Rattle.registers.specs.Register.{line_of, line_right}
use Rattle.registers.proofs.Registers.{right-lines}
use Rattle.registers.proofs.lines.are_lines.Goals as goal

pub returns : goal.returns
returns c =
    all_from_yields_List (λ (b : List ℕ). line_right (line_of b)) _ _ _ c.all.ensures.ran (YieldsList-from_slice c.as_chunks.result.0.now cc) (λ x b q k. search rules)
    ∙ right-lines c.args.register.now _ c.as_chunks.ensures.front
