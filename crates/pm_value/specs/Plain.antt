-- Values, without where they lie in memory, and how deep they nest.
use Rattle.std.specs.Prelude.{ℕ, ℤ, suc, max, Bool, List, [], ◌∷◌, map}

mutual
  pub data Plain : Type 0 where
    null : Plain
    truth : Bool → Plain
    int : ℤ → Plain
    -- the bytes of a text
    text : List ℕ → Plain
    items : Plains → Plain
    -- the names' bytes in order, and the value of each
    fields : List (List ℕ) → Plains → Plain

  pub data Plains : Type 0 where
    none : Plains
    one : Plain → Plains → Plains

abbrev pub plains_of : List Plain → Plains
plains_of [] = none
plains_of (v ∷ vs) = one v (plains_of vs)

-- an object with these names and values
abbrev pub fields_of : List (List ℕ × Plain) → Plain
fields_of fs = fields (map (λ f. f.0) fs) (plains_of (map (λ f. f.1) fs))

-- a scalar has depth 0, a list or an object one more than its deepest member
abbrev mutual
  pub depth : Plain → ℕ
  depth null = 0
  depth (truth b) = 0
  depth (int z) = 0
  depth (text bs) = 0
  depth (items vs) = suc (plains_depth vs)
  depth (fields ns vs) = suc (plains_depth vs)

  pub plains_depth : Plains → ℕ
  plains_depth none = 0
  plains_depth (one v vs) = max (depth v) (plains_depth vs)
