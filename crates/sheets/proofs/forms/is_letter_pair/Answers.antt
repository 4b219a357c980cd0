use Rattle.std.proofs.Common.{rules, tests, ◌≡◌, List, [], ◌∷◌, refl, ap, ◌∙◌, Bool, ◌||◌}
use Rattle.std.specs.List.{list_any}
use Rattle.std.proofs.lemmas.Iterator.{YieldsList-from_slice}
use Rattle.std.proofs.lemmas.Iterator.Search.{any_from_yields_List}
use Rattle.texts.specs.Quoted.{words}
use Rattle.texts.specs.Texts.{any, same, ◌is_one_of◌}
use Rattle.sheets.specs.Lists.{letter_pairs}
use Rattle.sheets.proofs.forms.is_letter_pair.Goals as goal

list-any : {A : Type 0} (p : A → Bool) (l : List A) → list_any p l ≡ any p l
unfolding any
list-any p [] = refl
list-any p (x ∷ xs) = ap (λ (b : Bool). p x || b) (list-any p xs)

pub returns : goal.returns
unfolding ◌is_one_of◌
returns c =
    any_from_yields_List (same c.args.t.now) _ _ c.any.result c.any.ensures.ran (YieldsList-from_slice (words letter_pairs) cc) (λ x b q k. search (rules, tests))
    ∙ list-any (same c.args.t.now) (words letter_pairs)
