-- Own steps that were made as far as some step.
use Rattle.std.proofs.Common.{◌≡◌, ℕ, ◌+◌, ◌<◌, List, [], ◌∷◌, ◌++◌, length, drop, get_or, suc, sym, ap, ◌∙◌, append_assoc, append-nil, None, Result, Ok, Err, add-one, refl}
use Rattle.std.proofs.Math.Seq.{drop-cons}
use Rattle.pm_change.specs.Changes.{Meaning}
use Rattle.pm_authority.specs.declared.named.Named.{Named}
use Rattle.pm_authority.specs.declared.running.Refusal.{Refusal}
use Rattle.pm_authority.specs.Runs.{run}
use Rattle.pm_history.specs.Timelines.{items_from}
use Rattle.pm_client.specs.declared.making.Made.{Made}
use Rattle.pm_client.specs.Timelines.{edit_steps}
use Rattle.pm_client.specs.Makes.{made_where, made_all}

module _ {Rules Doc Reason C : Type 0} (m : Meaning Rules Doc Reason C) (rules : Rules) where
  -- what the steps before place i have made, and what all of them make
  pub record IsMaking (doc : Doc) (steps : List (Named C)) (i : ℕ) (so_far : Made Doc C) : Type 0 where
    pub good : m.is_good rules so_far.doc
    pub same : run m rules doc 0 steps ≡ run m rules so_far.doc i (drop i steps)
    pub items_are : so_far.items ++ items_from m rules so_far.doc (edit_steps (drop i steps)) ≡ items_from m rules doc (edit_steps steps)

  module _ (doc : Doc) (steps : List (Named C)) (i : ℕ) (so_far : Made Doc C) (n : Named C) (within : i < length steps) (is : n ≡ get_or steps i n) where
    at-step : drop i steps ≡ n ∷ drop (suc i) steps
    at-step = drop-cons steps i n within ∙ ap (λ x. x ∷ drop (suc i) steps) (sym is)

  -- what was made
  pub record HasMade (doc : Doc) (steps : List (Named C)) (made : Made Doc C) : Type 0 where
    pub ran : run m rules doc 0 steps ≡ Ok made.doc
    pub items_are : made.items ≡ items_from m rules doc (edit_steps steps)

  pub has-made : (doc : Doc) (steps : List (Named C)) (made : Made Doc C) → made_all m rules doc steps ≡ Ok made → HasMade doc steps made
  has-made doc steps made h = from (run m rules doc 0 steps) refl h
    where
      from : (r : Result Doc (Refusal Reason)) → run m rules doc 0 steps ≡ r → made_where m rules doc steps r ≡ Ok made → HasMade doc steps made
      from (Ok end) e h =
          let is : record { doc = end; items = items_from m rules doc (edit_steps steps) } ≡ made = cc in
          record { ran = e ∙ ap (λ (x : Made Doc C). Ok x.doc) is; items_are = sym (ap (λ (x : Made Doc C). x.items) is) }
      from (Err r) e h = absurd (cc)
