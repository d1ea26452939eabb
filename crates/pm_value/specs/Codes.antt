-- A value as a list of marks that gives it back, by which a proof tells values apart.
use Rattle.std.specs.Prelude.{◌≡◌, ℕ, zero, suc, ℤ, Bool, List, [], ◌∷◌, ◌++◌, refl}
use Rattle.std.specs.Coded.{Coded, code_by, coded⊎, coded_ℕ, coded_ℤ, coded_bool, coded_list}
use Rattle.std.proofs.Common.{ap, ◌∙◌, append_assoc, ◌⊎◌, inl, inr}
use Rattle.pm_value.specs.Plain.{Plain, null, truth, int, text, items, fields, Plains, none, one}

-- a mark: the end of a list, a scalar, or the head of a list or an object
abbrev pub Sign : Type 0
Sign = ℕ ⊎ (Bool ⊎ (ℤ ⊎ (List ℕ ⊎ List (List ℕ))))

abbrev mutual
  pub signs : Plain → List Sign
  signs null = inl 1 ∷ []
  signs (truth b) = inr (inl b) ∷ []
  signs (int z) = inr (inr (inl z)) ∷ []
  signs (text bs) = inr (inr (inr (inl bs))) ∷ []
  signs (items vs) = inl 2 ∷ list_signs vs
  signs (fields ns vs) = inr (inr (inr (inr ns))) ∷ list_signs vs

  pub list_signs : Plains → List Sign
  list_signs none = inl 0 ∷ []
  list_signs (one v vs) = signs v ++ list_signs vs

-- Reading goes from the last sign to the first, over the lists that stand after, the innermost first
abbrev pub put_in : Plain → List Plains → List Plains
put_in v [] = []
put_in v (vs ∷ behind) = one v vs ∷ behind

abbrev pub shut : (Plains → Plain) → List Plains → List Plains
shut make [] = []
shut make (vs ∷ behind) = put_in (make vs) behind

abbrev pub counted : ℕ → List Plains → List Plains
counted zero st = none ∷ st
counted (suc zero) st = put_in null st
counted (suc (suc n)) st = shut items st

abbrev pub read_sign : Sign → List Plains → List Plains
read_sign (inl n) st = counted n st
read_sign (inr (inl b)) st = put_in (truth b) st
read_sign (inr (inr (inl z))) st = put_in (int z) st
read_sign (inr (inr (inr (inl bs)))) st = put_in (text bs) st
read_sign (inr (inr (inr (inr ns)))) st = shut (fields ns) st

abbrev pub read_signs : List Sign → List Plains
read_signs [] = []
read_signs (s ∷ ss) = read_sign s (read_signs ss)

mutual
  back : (v : Plain) (ss : List Sign) → read_signs (signs v ++ ss) ≡ put_in v (read_signs ss)
  back null ss = refl
  back (truth b) ss = refl
  back (int z) ss = refl
  back (text bs) ss = refl
  back (items vs) ss = ap (shut items) (back_list vs ss)
  back (fields ns vs) ss = ap (shut (fields ns)) (back_list vs ss)

  back_list : (vs : Plains) (ss : List Sign) → read_signs (list_signs vs ++ ss) ≡ vs ∷ read_signs ss
  back_list none ss = refl
  back_list (one v vs) ss = ap read_signs (append_assoc (signs v) (list_signs vs) ss) ∙ back v (list_signs vs ++ ss) ∙ ap (put_in v) (back_list vs ss)

abbrev pub first_value : Plains → Plain
first_value none = null
first_value (one v vs) = v

abbrev pub first_read : List Plains → Plain
first_read [] = null
first_read (vs ∷ behind) = first_value vs

abbrev pub to_signs : Plain → List Sign
to_signs v = signs v ++ inl 0 ∷ []

abbrev pub from_signs : List Sign → Plain
from_signs ss = first_read (read_signs ss)

pub signs_back : (v : Plain) → from_signs (to_signs v) ≡ v
signs_back v = ap first_read (back v (inl 0 ∷ []))

abbrev pub plain_code : Coded Plain
plain_code =
    code_by (List Sign) (coded_list (coded⊎ coded_ℕ (coded⊎ coded_bool (coded⊎ coded_ℤ (coded⊎ (coded_list coded_ℕ) (coded_list (coded_list coded_ℕ))))))) to_signs from_signs signs_back
