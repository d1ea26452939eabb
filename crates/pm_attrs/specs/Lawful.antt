-- The test of attributes tells equal ones from others.
use Rattle.std.specs.Prelude.{◌≡◌, ◌↔◌, List, [], ◌∷◌, true, refl}
use Rattle.std.proofs.Common.{ap, sym, subst, ◌∙◌}
use Rattle.pm_value.specs.Plain.{Plain, plains_of}
use Rattle.pm_value.specs.Told.{list_of}
use Rattle.pm_value.specs.Lawful.{values-equal, values-itself}
use Rattle.pm_attrs.specs.Attrs.{same_attrs}

list-again : (vs : List Plain) → list_of (plains_of vs) ≡ vs
list-again [] = refl
list-again (v ∷ vs) = ap (λ ws. v ∷ ws) (list-again vs)

told : (vs ws : List Plain) → plains_of vs ≡ plains_of ws → vs ≡ ws
told vs ws h = sym (list-again vs) ∙ ap list_of h ∙ list-again ws

pub same_attrs-decides : (vs ws : List Plain) → (same_attrs vs ws ≡ true) ↔ (vs ≡ ws)
same_attrs-decides vs ws = (
  λ h. told vs ws (values-equal (plains_of vs) (plains_of ws) h),
  λ e. subst (λ x. same_attrs vs x ≡ true) e (values-itself (plains_of vs)),
)
