-- Named steps one after another.
use Rattle.std.specs.Prelude.{◌≡◌, ℕ, ◌+◌, List, [], ◌∷◌, take, slice_get, map, Some, Result, Ok, Err}
use Rattle.pm_change.specs.Changes.{Meaning, fold}
use Rattle.pm_authority.specs.declared.named.Named.{Named}
use Rattle.pm_authority.specs.declared.running.Refusal.{Refusal}

-- a step's change, without its name
abbrev pub change_of : {C : Type 0} → Named C → C
change_of n = n.change

-- the changes of these steps, in order
abbrev pub changes_of : {C : Type 0} → List (Named C) → List C
changes_of ns = map change_of ns

module _ {Rules Doc Reason C : Type 0} (m : Meaning Rules Doc Reason C) (rules : Rules) where
  -- go on with the document, or refuse the step at place i for this reason
  abbrev pub then_run : Result Doc Reason → ℕ → (Doc → Result Doc (Refusal Reason)) → Result Doc (Refusal Reason)
  then_run (Ok d) i go_on = go_on d
  then_run (Err r) i go_on = Err (record { index = i; reason = r })

  -- The document after these steps, or the first of them that does not apply, by its place and its reason. The first
  -- of these steps is at place i.
  abbrev pub run : Doc → ℕ → List (Named C) → Result Doc (Refusal Reason)
  run doc i [] = Ok doc
  run doc i (n ∷ ns) = then_run (m.outcome rules n.change doc) i (λ d. run d (i + 1) ns)

  -- the steps apply one after another to the first document and give the second
  abbrev pub AllApply : Doc → List (Named C) → Doc → Type 0
  AllApply doc steps end = fold m rules doc (changes_of steps) ≡ Some end

  -- The step at place i is the first that does not apply: the steps before it apply one after another, and it does
  -- not apply to the document that they give, for this reason.
  pub record StopsAt (doc : Doc) (steps : List (Named C)) (i : ℕ) (reason : Reason) : Type 0 where
    pub step : Named C
    pub reached : Doc
    pub placed : slice_get steps i ≡ Some step
    pub before : AllApply doc (take i steps) reached
    pub refused : m.outcome rules step.change reached ≡ Err reason
