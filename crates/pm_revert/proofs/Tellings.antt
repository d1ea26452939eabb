-- The items tell that later entries lie apart exactly where they do.
use Rattle.std.specs.Prelude.{◌≡◌, ◌↔◌, ℕ, ◌+◌, ◌<◌, suc, true, Bool, List, [], ◌∷◌, ◌++◌, length, map, Some, Result, Ok, Err, IfOk, All, refl}
use Rattle.std.proofs.Common.{arith, ap, sym, subst, ◌∙◌}
use Rattle.pm_map.specs.declared.step_map.Span.{Span}
use Rattle.pm_change.specs.declared.name.Name.{Name}
use Rattle.pm_change.specs.Changes.{fold}
use Rattle.pm_change.proofs.Folds.{fold-cons, fold-good}
use Rattle.pm_authority.specs.declared.named.Named.{Named}
use Rattle.pm_authority.specs.Runs.{changes_of, AllApply}
use Rattle.pm_client.specs.Rebasables.{NamedHasMap}
use Rattle.pm_tokens.specs.Tokens.{Doc}
use Rattle.pm_tokens.specs.Schemas.{Schema as Documents}
use Rattle.pm_tokens.specs.Faults.{Valid}
use Rattle.pm_schema.specs.declared.schema.Schema.{Schema}
use Rattle.pm_schema.specs.Documents.{documents_of}
use Rattle.pm_meaning.specs.Steps.{Step}
use Rattle.pm_meaning.specs.Maps.{step_map}
use Rattle.pm_meaning.specs.Meanings.{meaning as plain}
use Rattle.pm_meaning.proofs.StepLaws.{good, within}
use Rattle.pm_apply.specs.Changes.{meaning}
use Rattle.pm_apply.specs.Laws.{laws}
use Rattle.pm_history.specs.declared.item.Item.{Item}
use Rattle.pm_history.specs.Tidy.{NamesDiffer}
use Rattle.pm_selective.specs.Apart.{LieApart}
use Rattle.pm_selective.specs.Carried.{AreSplices, step_maps}
use Rattle.pm_selective.specs.Told.{AreSpliceMaps, item_maps, TellsApart}
use Rattle.pm_selective.specs.Tests.{FitItems}
use Rattle.pm_selective.proofs.Steps.{AreOrdered}
use Rattle.pm_selective.proofs.Undone.{all-applied}
use Rattle.pm_selective.proofs.Histories.{fold-same}
use Rattle.pm_selective.proofs.Told.{map-splice, splice-map}
use Rattle.pm_revert.specs.Items.{names_from, own_items, other_items}
use Rattle.pm_revert.specs.Reverts.{LieApartFrom, MayTell}
use Rattle.pm_revert.proofs.Items.{own-maps, other-maps, own-named, items-differ, items-fit, found, Found}
use Rattle.pm_revert.proofs.Takings.{have-own, have-later}

abbrev pub documents : Schema → Documents
documents = λ schema. documents_of schema.spec

maps-are : (cs : List Step) → map step_map cs ≡ step_maps cs
maps-are [] = refl
maps-are (c ∷ cs) = ap (λ ms. step_map c ∷ ms) (maps-are cs)

splice-maps : (cs : List Step) → AreOrdered cs → AreSpliceMaps (step_maps cs)
splice-maps [] h = tt
splice-maps (c ∷ cs) h = (splice-map c h.0, splice-maps cs h.1)

names-long : (i : ℕ) (ns : List (Named Step)) → length (names_from i ns) ≡ length (changes_of ns)
names-long i [] = refl
names-long i (n ∷ ns) = ap (λ k. suc k) (names-long (i + 1) ns)

module _ (schema : Schema) where
  abbrev s : Documents
  s = documents_of schema.spec

  are-splices : (cs : List Step) (d end : Doc) → Valid s d → fold meaning schema d cs ≡ Some end → AreSpliceMaps (step_maps cs) → AreSplices cs
  are-splices [] d end v e h = tt
  are-splices (c ∷ cs) d end v e h =
      let f = fold-cons meaning schema d end c cs e in
      (map-splice c _ (within s c d f.0 v f.1) h.0, are-splices cs f.0 end (good s c d f.0 v f.1) f.2 h.1)

  are-ordered : (cs : List Step) (d end : Doc) → Valid s d → fold meaning schema d cs ≡ Some end → AreSplices cs → AreOrdered cs
  are-ordered cs d end v e h = (all-applied s cs d end h v (sym (fold-same documents schema cs d) ∙ e)).ordered

  module _ (ns ls : List (Named Step)) (before mid end : Doc) (v : Valid s before) (h : AllApply meaning schema before ns mid) (k : AllApply meaning schema mid ls end) where
    mid_valid : Valid s mid
    mid_valid = fold-good meaning schema laws before mid (changes_of ns) v h

    own_maps : item_maps (own_items meaning 0 ns) ≡ step_maps (changes_of ns)
    own_maps = own-maps meaning 0 ns ∙ maps-are (changes_of ns)

    other_maps : item_maps (other_items meaning ls) ≡ step_maps (changes_of ls)
    other_maps = other-maps meaning ls ∙ maps-are (changes_of ls)

    pub from-told : TellsApart (names_from 0 ns) (own_items meaning 0 ns ++ other_items meaning ls) → LieApartFrom (changes_of ns) (changes_of ls)
    from-told t =
        let f = found meaning ns ls t.front t.event t.later t.items_are t.some t.named in
        let e : item_maps t.event ≡ step_maps (changes_of ns) = ap item_maps f.event_is ∙ own_maps in
        let l : item_maps t.later ≡ step_maps (changes_of ls) = ap item_maps f.later_is ∙ other_maps in
        record {
          some = subst (λ n. 0 < n) (names-long 0 ns) t.some;
          entries_splice = are-splices (changes_of ns) before mid v h (subst AreSpliceMaps e t.event_splices);
          later_splice = are-splices (changes_of ls) mid end mid_valid k (subst AreSpliceMaps l t.later_splice);
          apart = subst (λ x. LieApart x (step_maps (changes_of ls))) e (subst (LieApart (item_maps t.event)) l t.apart);
        }

    pub to-told : LieApartFrom (changes_of ns) (changes_of ls) → TellsApart (names_from 0 ns) (own_items meaning 0 ns ++ other_items meaning ls)
    to-told a = record {
      front = [];
      event = own_items meaning 0 ns;
      later = other_items meaning ls;
      items_are = refl;
      some = subst (λ n. 0 < n) (sym (names-long 0 ns)) a.some;
      named = own-named meaning 0 ns;
      event_splices = subst AreSpliceMaps (sym own_maps) (splice-maps (changes_of ns) (are-ordered (changes_of ns) before mid v h a.entries_splice));
      later_splice = subst AreSpliceMaps (sym other_maps) (splice-maps (changes_of ls) (are-ordered (changes_of ls) mid end mid_valid k a.later_splice));
      apart = subst (λ x. LieApart x (item_maps (other_items meaning ls))) (sym own_maps) (subst (LieApart (step_maps (changes_of ns))) (sym other_maps) a.apart);
    }

-- ---- what the call asks and answers

module _ (entries later : List (Named Step)) (t : MayTell entries later) where
  pub told-own : All (NamedHasMap meaning) entries
  told-own = have-own meaning t.schema laws t.before entries later t.doc t.ends

  pub told-later : All (NamedHasMap meaning) later
  told-later = have-later meaning t.schema laws t.before entries later t.doc t.ends

  pub told-fit : (items : List (Item Step)) → items ≡ own_items meaning 0 entries ++ other_items meaning later → FitItems items
  told-fit items is = subst FitItems (sym is) (items-fit meaning t.schema laws entries later t.before t.ends.mid t.doc t.ends.good t.ends.apply t.ends.later_apply)

  pub told-exactly : {E : Type 0} (r : Result Bool E) (names : List Name) (items : List (Item Step)) → names ≡ names_from 0 entries
      → items ≡ own_items meaning 0 entries ++ other_items meaning later → IfOk r (λ told. (told ≡ true) ↔ TellsApart names items)
      → IfOk r (λ told. (told ≡ true) ↔ LieApartFrom (changes_of entries) (changes_of later))
  told-exactly (Err x) names items en ei h = tt
  told-exactly (Ok told) names items en ei h =
      let same : (told ≡ true) ↔ TellsApart (names_from 0 entries) (own_items meaning 0 entries ++ other_items meaning later) =
      subst (λ ns. (told ≡ true) ↔ TellsApart ns (own_items meaning 0 entries ++ other_items meaning later)) en (subst (λ is. (told ≡ true) ↔ TellsApart names is) ei h) in (
        λ a. from-told t.schema entries later t.before t.ends.mid t.doc t.ends.good t.ends.apply t.ends.later_apply (same.0 a),
        λ a. same.1 (to-told t.schema entries later t.before t.ends.mid t.doc t.ends.good t.ends.apply t.ends.later_apply a),
      )

pub told-differ : (entries later : List (Named Step)) (items : List (Item Step)) → items ≡ own_items meaning 0 entries ++ other_items meaning later → NamesDiffer items
told-differ entries later items is = subst NamesDiffer (sym is) (items-differ meaning 0 entries later)
