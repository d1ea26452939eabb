-- Undoing an event whose later steps lie apart from it.
use Rattle.std.specs.Prelude.{◌≡◌, List, [], ◌∷◌, ◌++◌, Some, Result, Ok, Err}
use Rattle.pm_change.specs.Changes.{fold}
use Rattle.pm_tokens.specs.Tokens.{Doc}
use Rattle.pm_tokens.specs.Schemas.{Schema}
use Rattle.pm_tokens.specs.Faults.{Valid}
use Rattle.pm_meaning.specs.Steps.{Step}
use Rattle.pm_meaning.specs.Inverses.{inverse}
use Rattle.pm_meaning.specs.Outcomes.{outcome}
use Rattle.pm_meaning.specs.Meanings.{meaning}
use Rattle.pm_meaning.specs.declared.reason.Reason.{Reason}
use Rattle.pm_selective.specs.Apart.{LieApart}
use Rattle.pm_selective.specs.Carried.{AreSplices, step_maps, unpaired, carried, left_tokens}

abbrev pub then_steps : Result Doc Reason → (Doc → List Step) → List Step
then_steps (Ok d) f = f d
then_steps (Err r) f = []

-- The steps that undo these, which are made one after another from this document on: from the last to the first, and then those
-- that are given.
abbrev pub inverses_onto : Schema → Doc → List Step → List Step → List Step
inverses_onto s d [] bs = bs
inverses_onto s d (e ∷ es) bs = then_steps (outcome s e d) (λ next. inverses_onto s next es (inverse s e d ++ bs))

abbrev pub inverses : Schema → Doc → List Step → List Step
inverses s d es = inverses_onto s d es []

-- An event, the steps after it, and the steps that undo the event there. `before` is the document before the event, `mid` the
-- one after it, `last` the one after the later steps, and `end` the one after the undo.
pub record IsUndone (s : Schema) (event later undo : List Step) (before mid last end : Doc) : Type 0 where
  pub valid : Valid s before
  pub event_applies : fold meaning s before event ≡ Some mid
  pub later_apply : fold meaning s mid later ≡ Some last
  -- The steps that undo the event, from the last to the first, each carried over the maps of the event's steps after its own,
  -- of the later steps, and of the undo steps so far. The map of an event's step is paired with that of its undo step.
  pub undo_is : carried (unpaired (step_maps later)) (inverses s before event) ≡ Some undo
  pub undo_applies : fold meaning s last undo ≡ Some end

-- Where every step is a replace or a replaceAround whose gap is not pinched, and each later step lies apart from the event, the
-- undo leaves the later steps, carried and spliced in order onto the document before the event.
abbrev pub UndoLeaves : Schema → Type 0
UndoLeaves s = (event later undo : List Step) (before mid last end : Doc) → IsUndone s event later undo before mid last end
    → AreSplices event → AreSplices later → LieApart (step_maps event) (step_maps later)
    → left_tokens event later before.tokens ≡ Some end.tokens
