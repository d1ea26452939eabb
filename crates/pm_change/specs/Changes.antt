-- What a change means, and the laws that every change keeps.
use Rattle.std.specs.Prelude.{◌≡◌, ℕ, ◌<◌, ◌^◌, ◌⊎◌, List, [], ◌∷◌, map, Option, Some, None, Result, Ok, Err, All}
use Rattle.pm_map.specs.declared.step_map.Span.{Span}
use Rattle.pm_map.specs.declared.mapping.Mirrored.{Mirrored}
use Rattle.pm_map.specs.Moves.{inverted_ranges}
use Rattle.pm_map.specs.Fits.{FitsSizes, new_size_of}
use Rattle.pm_map.specs.Stills.{MovesNothing}

-- What the documents and the changes of a kind mean.
pub record Meaning (Rules Doc Reason C : Type 0) : Type 1 where
  -- which documents are good under the rules
  pub is_good : Rules → Doc → Type 0
  -- under which rules the changes that undo a change always apply right after it
  pub is_loose : Rules → Type 0
  -- what a change makes of a document: the next document, or the reason why it does not apply
  pub outcome : Rules → C → Doc → Result Doc Reason
  -- the changes that undo a change, which was made on this document
  pub inverse : Rules → C → Doc → List C
  -- the ranges that a change puts in place of others
  pub step_map : C → List Span
  -- the change where a mapping leads it; None where nothing of it is left
  pub carry : C → List Mirrored → Option C
  -- the size of a document in tokens
  pub size : Doc → ℕ
  -- which changes speak only of places in a document of this size
  pub is_within : C → ℕ → Type 0

module _ {Rules Doc Reason C : Type 0} (m : Meaning Rules Doc Reason C) (rules : Rules) where
  -- the change applies to this document and gives the next one
  abbrev pub Applies : C → Doc → Doc → Type 0
  Applies c doc next = m.outcome rules c doc ≡ Ok next

  -- go on with the document, where there is one
  abbrev pub then_some : Result Doc Reason → (Doc → Option Doc) → Option Doc
  then_some (Ok d) go_on = go_on d
  then_some (Err r) go_on = None

  -- the document after all these changes, one after another, where each applies
  abbrev pub fold : Doc → List C → Option Doc
  fold doc [] = Some doc
  fold doc (c ∷ cs) = then_some (m.outcome rules c doc) (λ d. fold d cs)

  -- Where a change has ranges, one change undoes it, with the map back. Where it has none, no change that undoes it has one.
  abbrev pub HasInverseMap : List Span → List C → Type 0
  HasInverseMap [] bs = All (λ b. m.step_map b ≡ []) bs
  HasInverseMap (r ∷ rs) [] = ⊥
  HasInverseMap (r ∷ rs) (b ∷ []) = m.step_map b ≡ inverted_ranges (r ∷ rs)
  HasInverseMap (r ∷ rs) (b ∷ c ∷ cs) = ⊥

-- The laws of changes.
pub record Laws {Rules Doc Reason C : Type 0} (m : Meaning Rules Doc Reason C) : Type 0 where
  -- a change that applies to a good document gives a good document
  pub good : (rules : Rules) (c : C) (doc next : Doc) → m.is_good rules doc → Applies m rules c doc next → m.is_good rules next
  -- a good document is smaller than 2^32 tokens
  pub small : (rules : Rules) (doc : Doc) → m.is_good rules doc → m.size doc < 2 ^ 32
  -- where the changes that undo a change apply right after it, they give the document before it
  pub restores : (rules : Rules) (c : C) (doc next back : Doc) → m.is_good rules doc → Applies m rules c doc next
      → fold m rules next (m.inverse rules c doc) ≡ Some back → back ≡ doc
  -- under loose rules they do apply
  pub undoes : (rules : Rules) (c : C) (doc next : Doc) → m.is_loose rules → m.is_good rules doc → Applies m rules c doc next
      → (back : Doc) × (fold m rules next (m.inverse rules c doc) ≡ Some back)
  -- a change's map fits the sizes of the documents before and after it
  pub fits : (rules : Rules) (c : C) (doc next : Doc) → m.is_good rules doc → Applies m rules c doc next
      → FitsSizes (m.step_map c) (m.size doc) (m.size next)
  -- a change that applies to a document is within its size
  pub within : (rules : Rules) (c : C) (doc next : Doc) → m.is_good rules doc → Applies m rules c doc next
      → m.is_within c (m.size doc)
  -- and the changes that undo it are within the size of the document after it
  pub inverse_within : (rules : Rules) (c : C) (doc next : Doc) → m.is_good rules doc → Applies m rules c doc next
      → All (λ b. m.is_within b (m.size next)) (m.inverse rules c doc)
  -- and have the map back
  pub inverse_map : (rules : Rules) (c : C) (doc next : Doc) → m.is_good rules doc → Applies m rules c doc next
      → HasInverseMap m rules (m.step_map c) (m.inverse rules c doc)
  -- A mapping that moves nothing carries a change to itself, or leaves nothing of a change that has no range and changes no
  -- document.
  pub still : (c : C) (n : ℕ) (ms : List Mirrored) → m.is_within c n → MovesNothing ms → (m.carry c ms ≡ Some c)
      ⊎ ((m.carry c ms ≡ None) × (m.step_map c ≡ [])
      × ((rules : Rules) (doc next : Doc) → m.is_good rules doc → Applies m rules c doc next → next ≡ doc))
  -- a carried change puts in as much as the change does, range by range
  pub carried : (c d : C) (ms : List Mirrored) → m.carry c ms ≡ Some d
      → map new_size_of (m.step_map d) ≡ map new_size_of (m.step_map c)
