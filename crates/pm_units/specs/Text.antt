-- What is true of each text.
use Rattle.std.specs.Prelude.{◌≡◌, Bool, true}
use Rattle.pm_text.specs.Lone.{HasNoLone}
use Rattle.pm_units.specs.declared.form.Form.{Form}
use Rattle.pm_units.specs.Pieces.{form_units, IsForm}

-- the units lie as they should, and none of them is a lone surrogate where the text is called whole
pub record IsText (form : Form) (whole : Bool) : Type 0 where
  pub form_is : IsForm form
  pub none : whole ≡ true → HasNoLone (form_units form)
