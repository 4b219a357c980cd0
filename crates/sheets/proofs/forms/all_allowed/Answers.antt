use Rattle.std.proofs.Common.{rules, tests, ◌≡◌, ℕ, List, [], ◌∷◌, refl, ap, ◌∙◌, Bool, ◌&&◌}
use Rattle.std.specs.List.{list_all}
use Rattle.std.proofs.lemmas.Iterator.{YieldsList-from_slice}
use Rattle.std.proofs.lemmas.Iterator.Search.{all_from_yields_List}
use Rattle.texts.specs.Texts.{every}
use Rattle.sheets.specs.Forms.{allowed}
use Rattle.sheets.proofs.forms.all_allowed.Goals as goal

list-all-every : (p : ℕ → Bool) (t : List ℕ) → list_all p t ≡ every p t
unfolding every
list-all-every p [] = refl
list-all-every p (x ∷ xs) = ap (λ (b : Bool). p x && b) (list-all-every p xs)

pub returns : goal.returns
returns c =
    all_from_yields_List allowed _ _ c.all.result c.all.ensures.ran (YieldsList-from_slice c.args.t.now cc) (λ x b q k. search (rules, tests))
    ∙ list-all-every allowed c.args.t.now
