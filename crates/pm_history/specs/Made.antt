-- The steps that an undo makes.
use Rattle.std.specs.Prelude.{◌≡◌, ℕ, ◌+◌, true, List, [], ◌∷◌, length, Some}
use Rattle.pm_change.specs.Changes.{Meaning, fold}
use Rattle.pm_history.specs.declared.item.Item.{Item}
use Rattle.pm_history.specs.declared.undoing.Undone.{Undone}
use Rattle.pm_history.specs.Timelines.{Step, items_from}

-- Own steps of these changes, with serials from this one on. Each was made to undo what its item says.
abbrev pub made_steps : {C : Type 0} → ℕ → ℕ → List C → List (Item C) → List (Step C)
made_steps client serial [] is = []
made_steps client serial (c ∷ cs) [] = []
made_steps client serial (c ∷ cs) (i ∷ is) =
    record { name = record { client = client; serial = serial }; own = true; change = c; undoes = i.undoes } ∷ made_steps client (serial + 1) cs is

-- The changes made apply one after another and lead to the document; the items are those of own steps with serials in order.
pub record IsMade {Rules Doc Reason C : Type 0} (m : Meaning Rules Doc Reason C) (rules : Rules) (client : ℕ) (doc : Doc) (serial : ℕ) (w : Undone Doc C) : Type 0 where
  pub applies : fold m rules doc w.made ≡ Some w.doc
  pub items_are : w.items ≡ items_from m rules doc (made_steps client serial w.made w.items)
  pub as_many : length w.items ≡ length w.made
  pub serial_is : w.serial ≡ serial + length w.made
