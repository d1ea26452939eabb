-- The changes that undo entries of a log.
use Rattle.std.specs.Prelude.{◌≡◌, ℕ, ◌+◌, List, [], ◌∷◌, ◌++◌, map, Some, Result, Ok, Err}
use Rattle.pm_change.specs.Changes.{Meaning, fold}
use Rattle.pm_revert.specs.declared.backs.Back.{Back}

abbrev pub back : {C : Type 0} → ℕ → C → Back C
back i c = record { index = i; change = c }

-- these changes, which undo the entry at this place
abbrev pub backs_at : {C : Type 0} → ℕ → List C → List (Back C)
backs_at i cs = map (back i) cs

abbrev pub change_of : {C : Type 0} → Back C → C
change_of b = b.change

module _ {Rules Doc Reason C : Type 0} (m : Meaning Rules Doc Reason C) (rules : Rules) where
  abbrev pub then_backs : Result Doc Reason → (Doc → List (Back C)) → List (Back C)
  then_backs (Ok d) f = f d
  then_backs (Err r) f = []

  -- The changes that undo these entries, of which the first stands at place i and was made on this document: those of the last
  -- entry first, and then those that are given.
  abbrev pub backs_onto : Doc → ℕ → List C → List (Back C) → List (Back C)
  backs_onto doc i [] bs = bs
  backs_onto doc i (e ∷ es) bs = then_backs (m.outcome rules e doc) (λ next. backs_onto next (i + 1) es (backs_at i (m.inverse rules e doc) ++ bs))

  abbrev pub backs : Doc → List C → List (Back C)
  backs before es = backs_onto before 0 es []

  -- these entries apply one after another to a good document
  pub record MayGoBack (before : Doc) (es : List C) : Type 0 where
    pub good : m.is_good rules before
    pub end : Doc
    pub apply : fold m rules before es ≡ Some end
