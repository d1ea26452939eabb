-- Which values are equal.
use Rattle.std.specs.Prelude.{ℕ, Bool, true, false, not, ◌&&◌, List, [], ◌∷◌, map}
use Rattle.std.specs.Ordering.{int_eq}
use Rattle.std.specs.Str.{bytes_eq}
use Rattle.pm_value.specs.Plain.{Plain, null, truth, int, text, items, fields, Plains, none, one, plains_of}

abbrev pub same_truth : Bool → Bool → Bool
same_truth true b = b
same_truth false b = not b

abbrev pub same_names : List (List ℕ) → List (List ℕ) → Bool
same_names [] [] = true
same_names [] (n ∷ ns) = false
same_names (m ∷ ms) [] = false
same_names (m ∷ ms) (n ∷ ns) = bytes_eq m n && same_names ms ns

unfoldable mutual
  -- values of one kind with equal parts
  pub same_value : Plain → Plain → Bool
  same_value null null = true
  same_value (truth a) (truth b) = same_truth a b
  same_value (int a) (int b) = int_eq a b
  same_value (text a) (text b) = bytes_eq a b
  same_value (items a) (items b) = same_values a b
  same_value (fields ns a) (fields ms b) = same_names ns ms && same_values a b
  same_value a b = false

  pub same_values : Plains → Plains → Bool
  same_values none none = true
  same_values none (one w ws) = false
  same_values (one v vs) none = false
  same_values (one v vs) (one w ws) = same_value v w && same_values vs ws

-- the same fields in the same order
abbrev pub same_pairs : List (List ℕ × Plain) → List (List ℕ × Plain) → Bool
same_pairs fs gs = same_names (map (λ f. f.0) fs) (map (λ g. g.0) gs) && same_values (plains_of (map (λ f. f.1) fs)) (plains_of (map (λ g. g.1) gs))
