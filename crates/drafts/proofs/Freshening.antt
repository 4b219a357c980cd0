-- What `fresh` promises, by each way out of it.
use mathlib.Core.Path.{◌≡◌, refl, ◌∙◌}
use mathlib.Core.List.Memᴰ
use mathlib.Core.List.{List}
use Prim.Native.Nat.{ℕ}
use native.Mathlib.Omega.{arith}
use borrow.Author.Tests.{eq-eqb, ne_eqb}
use lib.ListN.{length, replicate}
use Rattle.texts.specs.Working.Writing.{zeroed}
use Rattle.drafts.specs.Draft.{draft_size, fresh_draft, begin_tests, beginning_of, begun_from}
use Rattle.drafts.specs.History.{posted_all}
use Rattle.drafts.specs.Promises.{Freshens}
use Rattle.std.specs.Prelude.{Ok, Err}
use Rattle.texts.specs.declared.answers.Refusal.TheVariants.{Malformed}

pub fresh-not : (d : List ℕ) → (length d ≡ draft_size → ⊥) → Freshens d (Err Malformed) d
unfolding beginning_of begun_from begin_tests
fresh-not d e = record {
  answer = simp (ne_eqb (length d) draft_size e);
  draft = simp (ne_eqb (length d) draft_size e);
  refused = λ n. refl;
  exactly = (λ h. let z : ◌≡◌ {A = ℕ} 0 1 = cc in absurd (omega arith), λ z. absurd (e z));
  start = λ z. absurd (e z);
}

pub fresh-made : (d e : List ℕ) → length d ≡ draft_size → e ≡ zeroed d → Freshens d (Ok tt) e
unfolding beginning_of begun_from begin_tests fresh_draft zeroed posted_all
fresh-made d e z p =
    let q : e ≡ replicate draft_size 0 = p ∙ rw z in
    record {
      answer = simp (eq-eqb (length d) draft_size z);
      draft = q ∙ simp (eq-eqb (length d) draft_size z);
      refused = λ n. absurd (n refl);
      exactly = (λ h. z, λ h. refl);
      start = λ _. record { draft = q; strings = λ m h. absurd (Memᴰ.not-nil h) };
    }
