-- Taking steps back.
use Rattle.std.specs.Prelude.{◌≡◌, ℕ, List, [], ◌∷◌, map, length, reverse, Option, Some, None, Result, Ok, Err}
use Rattle.std.specs.List.{flat_map}
use Rattle.pm_change.specs.Changes.{Meaning, fold}
use Rattle.pm_remote.specs.declared.received.Back.{Back}

-- the lists one after another
abbrev pub joined : {C : Type 0} → List (List C) → List C
joined ls = flat_map (λ l. l) ls

-- how long each of the lists is
abbrev pub sizes_of : {C : Type 0} → List (List C) → List ℕ
sizes_of ls = map (λ l. length l) ls

module _ {Rules Doc Reason C : Type 0} (m : Meaning Rules Doc Reason C) (rules : Rules) where
  -- go on with the document, where there is one
  abbrev pub then_undos : Result Doc Reason → (Doc → List (List C)) → List (List C)
  then_undos (Ok d) go_on = go_on d
  then_undos (Err r) go_on = []

  -- The changes that undo each of these, which are made one after another from this document on.
  abbrev pub undos : Doc → List C → List (List C)
  undos doc [] = []
  undos doc (c ∷ cs) = m.inverse rules c doc ∷ then_undos (m.outcome rules c doc) (λ d. undos d cs)

  -- the same with the last one's first
  abbrev pub backs : Doc → List C → List (List C)
  backs doc cs = reverse (undos doc cs)

  -- These changes, one after another, are what takes steps back, with the number of changes for each step. There is nothing
  -- that does exactly where they do not all apply to the document.
  abbrev pub IsBack : Doc → List (List C) → Option (Back C) → Type 0
  IsBack doc ls None = fold m rules doc (joined ls) ≡ None
  IsBack doc ls (Some b) = (b.steps.items ≡ joined ls) × (b.sizes.items ≡ sizes_of ls) × (end : Doc) × (fold m rules doc (joined ls) ≡ Some end)
