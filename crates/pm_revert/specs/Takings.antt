-- Entries of a log taken back on the document after it.
use Rattle.std.specs.Prelude.{List, [], ◌∷◌, ◌++◌, Option, Some, None, Result, Ok, Err}
use Rattle.pm_map.specs.declared.mapping.Mirrored.{Mirrored}
use Rattle.pm_map.specs.Moves.{inverted_ranges}
use Rattle.pm_map.specs.Mirrors.{fronted, enclosed}
use Rattle.pm_change.specs.Changes.{Meaning}
use Rattle.pm_authority.specs.declared.named.Named.{Named}
use Rattle.pm_authority.specs.declared.running.Refusal.{Refusal}
use Rattle.pm_authority.specs.Runs.{AllApply}
use Rattle.pm_client.specs.Rebases.{maps_of}
use Rattle.pm_revert.specs.declared.backs.Back.{Back}
use Rattle.pm_revert.specs.declared.taking.Taking.{Taking}
use Rattle.pm_revert.specs.declared.taken.Taken.{Taken}
use Rattle.pm_revert.specs.Backs.{backs}

module _ {Rules Doc Reason C : Type 0} (m : Meaning Rules Doc Reason C) where
  -- Nothing is left of a change: its map back stands at the front, alone.
  abbrev pub passed : Taking Doc C → Back C → Taking Doc C
  passed so b = record so { maps = fronted so.maps (inverted_ranges (m.step_map b.change)) }

  -- A change is made as the change c, which leads to the document d: its map back stands at the front, and the map of c after
  -- as the mirror of that.
  abbrev pub put : Taking Doc C → Back C → C → Doc → Taking Doc C
  put so b c d = record {
    doc = d;
    maps = enclosed so.maps (inverted_ranges (m.step_map b.change)) (m.step_map c);
    made = so.made ++ c ∷ [];
  }

  -- a carried change is made, or does not apply
  abbrev pub tried : Taking Doc C → Back C → C → Result Doc Reason → Result (Taking Doc C) (Refusal Reason)
  tried so b c (Ok d) = Ok (put so b c d)
  tried so b c (Err r) = Err (record { index = b.index; reason = r })

module _ {Rules Doc Reason C : Type 0} (m : Meaning Rules Doc Reason C) (rules : Rules) where
  abbrev pub led : Taking Doc C → Back C → Option C → Result (Taking Doc C) (Refusal Reason)
  led so b None = Ok (passed m so b)
  led so b (Some c) = tried m so b c (m.outcome rules c so.doc)

  -- one change more is carried over the maps so far
  abbrev pub taken_one : Taking Doc C → Back C → Result (Taking Doc C) (Refusal Reason)
  taken_one so b = led so b (m.carry b.change so.maps)

  abbrev pub go_on : Result (Taking Doc C) (Refusal Reason) → (Taking Doc C → Result (Taking Doc C) (Refusal Reason)) → Result (Taking Doc C) (Refusal Reason)
  go_on (Ok so) f = f so
  go_on (Err e) f = Err e

  -- Each of these changes in turn, or the first that does not apply.
  abbrev pub taken_all : Taking Doc C → List (Back C) → Result (Taking Doc C) (Refusal Reason)
  taken_all so [] = Ok so
  taken_all so (b ∷ bs) = go_on (taken_one so b) (λ next. taken_all next bs)

  -- Nothing is taken back yet: the maps of the later entries lead to the document.
  abbrev pub start : List (Named C) → Doc → Taking Doc C
  start later doc = record { doc = doc; maps = maps_of m later; made = [] }

  abbrev pub told : Result (Taking Doc C) (Refusal Reason) → Result (Taken Doc C) (Refusal Reason)
  told (Ok so) = Ok (record { doc = so.doc; steps = so.made })
  told (Err e) = Err e

  -- The entries `es`, made on the document `before`, are taken back on the document after the later ones: the changes that undo
  -- them are made there, from the last entry to the first. Each is carried over the maps of the entries after its own, over
  -- those of the later entries, and over those of the steps made so far; the map of an entry is paired with that of the step
  -- made that undoes it.
  abbrev pub taken_back : (before : Doc) → List C → (later : List (Named C)) → Doc → Result (Taken Doc C) (Refusal Reason)
  taken_back before es later doc = told (taken_all (start later doc) (backs m rules before es))

  -- The entries apply one after another to a good document, and then the later ones, which lead to another.
  pub record EndsAt (before : Doc) (entries later : List (Named C)) (doc : Doc) : Type 0 where
    pub good : m.is_good rules before
    pub mid : Doc
    pub apply : AllApply m rules before entries mid
    pub later_apply : AllApply m rules mid later doc
