-- That nothing has changed since an event.
use Rattle.std.specs.Prelude.{◌≡◌, ◌⊎◌, Bool, true, false, List, [], ◌∷◌, ◌++◌, Some}
use Rattle.pm_map.specs.Stills.{AreApart}
use Rattle.pm_change.specs.declared.name.Name.{Name}
use Rattle.pm_change.specs.Changes.{Meaning, Applies, fold}
use Rattle.pm_history.specs.Timelines.{Step, changes_of, Idle}

module _ {Rules Doc Reason C : Type 0} (m : Meaning Rules Doc Reason C) (rules : Rules) where
  -- The rules are loose, or the changes that undo this one, which led from `doc` to `next`, apply one after another at their
  -- turn. Where nothing has changed since, the document at their turn is `next` again.
  abbrev pub MayGoBack : C → Doc → Doc → Type 0
  MayGoBack c doc next = m.is_loose rules ⊎ ((back : Doc) × (fold m rules next (m.inverse rules c doc) ≡ Some back))

  -- From this document on, the timeline `ss` reads the event's step n, an idle stretch, and then the rest. The ranges of an
  -- event's step that isn't its first don't touch.
  pub record Stands (first : Bool) (doc : Doc) (n : Name) (ss : List (Step C)) : Type 0 where
    pub step : Step C
    pub next : Doc
    pub idle : List (Step C)
    pub rest : List (Step C)
    pub name_is : step.name ≡ n
    pub own : step.own ≡ true
    pub applies : Applies m rules step.change doc next
    pub goes_back : MayGoBack step.change doc next
    pub is_idle : Idle m rules next idle
    pub ss_is : ss ≡ step ∷ (idle ++ rest)
    pub apart : first ≡ false → AreApart (m.step_map step.change) 0

  -- From this document on, the timeline reads the event's steps in order, each followed by an idle stretch.
  abbrev pub Reads : Bool → Doc → List Name → List (Step C) → Type 0
  Reads first doc [] ss = ss ≡ []
  Reads first doc (n ∷ ns) ss = (t : Stands first doc n ss) × Reads false t.next ns t.rest

  -- Nothing has changed since the event with these names: from its first step on, the timeline reads the event's steps, each
  -- followed by an idle stretch. The earlier document, `before`, is the one before that first step; `end` is that after all.
  pub record NothingSince (ns : List Name) (first : Doc) (steps : List (Step C)) (before end : Doc) : Type 0 where
    pub earlier : List (Step C)
    pub since : List (Step C)
    pub steps_are : steps ≡ earlier ++ since
    pub reaches : fold m rules first (changes_of earlier) ≡ Some before
    pub ends : fold m rules before (changes_of since) ≡ Some end
    pub reads : Reads true before ns since
