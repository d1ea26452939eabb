-- Items that stand for steps between documents.
use Rattle.std.specs.Prelude.{◌≡◌, ◌⊎◌, List, [], ◌∷◌}
use Rattle.pm_change.specs.Changes.{Meaning, Applies}
use Rattle.pm_history.specs.declared.item.Item.{Item}

module _ {Rules Doc Reason C : Type 0} (m : Meaning Rules Doc Reason C) (rules : Rules) where
  -- Each item has the map of a step, and the changes that undo it or none. The steps lead from one document to the other.
  abbrev pub Shows : Doc → List (Item C) → Doc → Type 0
  Shows doc [] end = doc ≡ end
  Shows doc (i ∷ is) end = (c : C) × (next : Doc) × Applies m rules c doc next × (i.map ≡ m.step_map c)
      × ((i.inverse ≡ m.inverse rules c doc) ⊎ (i.inverse ≡ [])) × Shows next is end

  -- The items stand for steps that lead from some good document to this one. That is all that an undo asks of them.
  abbrev pub ShowsTo : List (Item C) → Doc → Type 0
  ShowsTo is end = (doc : Doc) × m.is_good rules doc × Shows doc is end
