-- Values that fit the attributes of a type, told by tests of their parts.
use Rattle.std.proofs.Common.{◌≡◌, Bool, true, false, List, refl, sym}
use Rattle.pm_value.specs.Plain.{Plain}
use Rattle.pm_schema.specs.declared.spec.AttrSpec.{AttrSpec}
use Rattle.pm_schema.specs.Types.{fit_attrs}
use Rattle.pm_schema.proofs.FitLaws.{Fits, fits-are, fit-parts}

-- a test that is true exactly where they fit
pub fit-told : (attrs : List AttrSpec) (values : List Plain) (r : Bool) → (r ≡ true → Fits attrs values) → (Fits attrs values → r ≡ true) → r ≡ fit_attrs attrs values
fit-told attrs values true to from = sym (fits-are attrs values (to refl))
fit-told attrs values false to from = by (fit_attrs attrs values) refl
  where
    by : (b : Bool) → fit_attrs attrs values ≡ b → false ≡ fit_attrs attrs values
    by false e = sym e
    by true e = let f : false ≡ true = from (fit-parts attrs values e) in absurd (cc)
