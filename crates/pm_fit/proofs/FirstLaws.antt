-- The first that fits of several lists of candidates.
use Rattle.std.specs.Prelude.{◌≡◌, ℕ, true, is_some, Option, Some, None, List, [], ◌∷◌, ◌++◌}
use Rattle.std.specs.Option.{option_or}
use Rattle.std.proofs.Common.{refl, ap, sym, ◌∙◌}
use Rattle.pm_tokens.specs.Tokens.{Doc}
use Rattle.pm_meaning.specs.Steps.{Step}
use Rattle.pm_schema.specs.declared.schema.Schema.{Schema}
use Rattle.pm_fit.specs.Candidates.{Candidate}
use Rattle.pm_fit.specs.Fits.{step_by, first_step}
use Rattle.pm_fit.specs.Firsts.{IsFirst}

or-none : {X : Type 0} (o : Option X) → option_or o None ≡ o
or-none None = refl
or-none (Some x) = refl

or-some : {X : Type 0} (o p : Option X) → is_some o ≡ true → o ≡ option_or o p
or-some None p e = absurd (cc)
or-some (Some x) p e = refl

or-or : {X : Type 0} (o p q : Option X) → option_or o (option_or p q) ≡ option_or (option_or o p) q
or-or None p q = refl
or-or (Some x) p q = refl

module _ (s : Schema) (d : Doc) (from to : ℕ) where
  both : (cs ds : List Candidate) → first_step s d from to (cs ++ ds) ≡ option_or (first_step s d from to cs) (first_step s d from to ds)
  both [] ds = refl
  both (c ∷ cs) ds =
      let o = step_by s d from to c in
      ap (option_or o) (both cs ds) ∙ or-or o (first_step s d from to cs) (first_step s d from to ds)

  -- of no candidates there is none
  pub none : IsFirst s d from to [] None
  none = record { is = refl }

  -- of one candidate it is its step
  pub one : (c : Candidate) (o : Option Step) → o ≡ step_by s d from to c → IsFirst s d from to (c ∷ []) o
  one c o e = record { is = e ∙ sym (or-none (step_by s d from to c)) }

  -- a step that was found is found before others
  pub found : {cs : List Candidate} {o : Option Step} → IsFirst s d from to cs o → is_some o ≡ true → (ds : List Candidate) → IsFirst s d from to (cs ++ ds) o
  found {cs = cs} {o = o} h e ds = record { is = or-some o (first_step s d from to ds) e ∙ (ap (λ (p : Option Step). option_or p (first_step s d from to ds)) h.is ∙ sym (both cs ds)) }

  -- where none was found, it is the first of the others
  pub on : {cs : List Candidate} {o : Option Step} → IsFirst s d from to cs o → o ≡ None → {ds : List Candidate} {p : Option Step} → IsFirst s d from to ds p → IsFirst s d from to (cs ++ ds) p
  on {cs = cs} h e {ds = ds} f = record { is = f.is ∙ (ap (λ (p : Option Step). option_or p (first_step s d from to ds)) (sym e ∙ h.is) ∙ sym (both cs ds)) }
