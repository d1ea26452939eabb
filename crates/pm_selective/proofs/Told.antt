-- What the items tell holds of the timeline that they remember.
use Rattle.std.specs.Prelude.{◌≡◌, ℕ, suc, Bool, true, false, if◌then◌else◌, List, [], ◌∷◌, ◌++◌, length, Option, Some, None, Ok, refl}
use Rattle.std.specs.List.{AllByRecursion as Each}
use Rattle.std.proofs.Common.{arith, ap, sym, subst, ◌∙◌, append_assoc}
use Rattle.pm_change.specs.declared.name.Name.{Name}
use Rattle.pm_change.specs.Changes.{Meaning, fold}
use Rattle.pm_change.proofs.Folds.{fold-cons, fold-append}
use Rattle.pm_tokens.specs.Tokens.{Doc}
use Rattle.pm_tokens.specs.Schemas.{Schema}
use Rattle.pm_tokens.specs.Faults.{Valid}
use Rattle.pm_meaning.specs.Steps.{Step, Replace, ReplaceAround, AddMark, RemoveMark, AddNodeMark, RemoveNodeMark, Attr, DocAttr}
use Rattle.pm_meaning.specs.Meanings.{meaning_by}
use Rattle.pm_meaning.specs.Maps.{step_map, is_within}
use Rattle.pm_meaning.specs.Inverses.{inverse}
use Rattle.pm_meaning.specs.Outcomes.{outcome}
use Rattle.pm_meaning.proofs.StepLaws.{good, within}
use Rattle.pm_meaning.proofs.ChangeLaws.{laws_by}
use Rattle.pm_change.proofs.Folds.{fold-good}
use Rattle.pm_history.specs.declared.item.Item.{Item}
use Rattle.pm_history.specs.declared.undoing.Undone.{Undone}
use Rattle.pm_history.specs.Items.{foreign_item, one_step}
use Rattle.pm_history.specs.Timelines.{Step as TimelineStep, changes_of, item_at, next_items, items_from}
use Rattle.pm_history.specs.Remembers.{StandFor, Remembers}
use Rattle.pm_history.specs.Restores.{IsOfWhole}
use Rattle.pm_history.proofs.Folding.{fold-first, fold-split, changes-append, some-same, items-append}
use Rattle.pm_selective.specs.Apart.{LieApart}
use Rattle.pm_selective.specs.Carried.{IsSplice, AreSplices, step_maps}
use Rattle.pm_selective.specs.Histories.{names_of, EndsWith, IsApartEvent, IsApartIn}
use Rattle.pm_selective.specs.Told.{IsSpliceMap, AreSpliceMaps, item_maps, AreNamed, TellsApart, LeavesWhereTold}
use Rattle.pm_selective.proofs.Steps.{IsOrdered, apart-step}
use Rattle.pm_selective.proofs.Histories.{leaves-all}
use Rattle.pm_history.specs.Tidy.{NotNamed, NamesDiffer}

-- the kinds are read from the maps
pub map-splice : (c : Step) (n : ℕ) → is_within c n → IsSpliceMap (step_map c) → IsSplice c
map-splice (Replace from to sl st) n w h = tt
map-splice (ReplaceAround from to gf gt sl insert st) n w h = λ same. omega (arith, same, h.1.0, w.0)
map-splice (AddMark from to mark) n w h = absurd h
map-splice (RemoveMark from to mark) n w h = absurd h
map-splice (AddNodeMark p mark) n w h = absurd h
map-splice (RemoveNodeMark p mark) n w h = absurd h
map-splice (Attr p name value) n w h = absurd h
map-splice (DocAttr name value) n w h = absurd h

pub splice-map : (c : Step) → IsOrdered c → IsSpliceMap (step_map c)
splice-map (Replace from to sl st) h = apart-step (Replace from to sl st) h
splice-map (ReplaceAround from to gf gt sl insert st) h = apart-step (ReplaceAround from to gf gt sl insert st) h
splice-map (AddMark from to mark) h = absurd h
splice-map (RemoveMark from to mark) h = absurd h
splice-map (AddNodeMark p mark) h = absurd h
splice-map (RemoveNodeMark p mark) h = absurd h
splice-map (Attr p name value) h = absurd h
splice-map (DocAttr name value) h = absurd h

module _ {Rules : Type 0} (schema_of : Rules → Schema) (rules : Rules) where
  -- steps whose items these stand for, in two parts
  record Parts (live : List Name) (xs ys : List (Item Step)) (doc end : Doc) (ks : List (TimelineStep Step)) : Type 0 where
    one : List (TimelineStep Step)
    two : List (TimelineStep Step)
    mid : Doc
    are : ks ≡ one ++ two
    reaches : fold (meaning_by schema_of) rules doc (changes_of one) ≡ Some mid
    ends : fold (meaning_by schema_of) rules mid (changes_of two) ≡ Some end
    stand_one : StandFor live xs (items_from (meaning_by schema_of) rules doc one)
    stand_two : StandFor live ys (items_from (meaning_by schema_of) rules mid two)

  pub items-first : (d next : Doc) (k : TimelineStep Step) (ks : List (TimelineStep Step)) → outcome (schema_of rules) k.change d ≡ Ok next
      → items_from (meaning_by schema_of) rules d (k ∷ ks) ≡ item_at (meaning_by schema_of) rules d k ∷ items_from (meaning_by schema_of) rules next ks
  items-first d next k ks e = ap (λ r. item_at (meaning_by schema_of) rules d k ∷ next_items (meaning_by schema_of) rules r (λ z. items_from (meaning_by schema_of) rules z ks)) e

  parts : (live : List Name) (xs ys : List (Item Step)) (doc end : Doc) (ks : List (TimelineStep Step)) → fold (meaning_by schema_of) rules doc (changes_of ks) ≡ Some end
      → StandFor live (xs ++ ys) (items_from (meaning_by schema_of) rules doc ks) → Parts live xs ys doc end ks
  parts live [] ys doc end ks e h = record { one = []; two = ks; mid = doc; are = refl; reaches = refl; ends = e; stand_one = tt; stand_two = h }
  parts live (x ∷ xs) ys doc end [] e h = absurd h
  parts live (x ∷ xs) ys doc end (k ∷ ks) e h =
      let f = fold-cons (meaning_by schema_of) rules doc end k.change (changes_of ks) e in
      let g = subst (StandFor live (x ∷ (xs ++ ys))) (items-first doc f.0 k ks f.1) h in
      let i = parts live xs ys f.0 end ks f.2 g.1 in
      record {
        one = k ∷ i.one;
        two = i.two;
        mid = i.mid;
        are = ap (λ zs. k ∷ zs) i.are;
        reaches = fold-first (meaning_by schema_of) rules doc f.0 k.change (changes_of i.one) f.1 ∙ i.reaches;
        ends = i.ends;
        stand_one = subst (StandFor live (x ∷ xs)) (sym (items-first doc f.0 k i.one f.1)) (g.0, i.stand_one);
        stand_two = i.stand_two;
      }

  -- an item with a name is that of an own step of this name
  record IsOwn (n : Name) (k : TimelineStep Step) : Type 0 where
    own : k.own ≡ true
    named : k.name ≡ n

  is-own : (d : Doc) (k : TimelineStep Step) (n : Name) → (item_at (meaning_by schema_of) rules d k).name ≡ Some n → IsOwn n k
  is-own d k n h = from k.own refl h
    where
      from : (t : Bool) → k.own ≡ t
          → (if◌then◌else◌ {A = Item Step} t (record { name = Some k.name; map = step_map k.change; inverse = inverse (schema_of rules) k.change d; undoes = k.undoes }) (foreign_item (step_map k.change))).name ≡ Some n → IsOwn n k
      from true e g = record { own = e; named = some-same k.name n g }
      from false e g = absurd (cc)

  at-map : (d : Doc) (k : TimelineStep Step) → (item_at (meaning_by schema_of) rules d k).map ≡ step_map k.change
  at-map d k = from k.own
    where
      from : (t : Bool) → (if◌then◌else◌ {A = Item Step} t (record { name = Some k.name; map = step_map k.change; inverse = inverse (schema_of rules) k.change d; undoes = k.undoes }) (foreign_item (step_map k.change))).map ≡ step_map k.change
      from true = refl
      from false = refl

  -- the maps of the items are those of the steps
  pub same-maps : (live : List Name) (is : List (Item Step)) (d end : Doc) (ks : List (TimelineStep Step)) → fold (meaning_by schema_of) rules d (changes_of ks) ≡ Some end
      → StandFor live is (items_from (meaning_by schema_of) rules d ks) → item_maps is ≡ step_maps (changes_of ks)
  same-maps live [] d end [] e h = refl
  same-maps live [] d end (k ∷ ks) e h = absurd h
  same-maps live (i ∷ is) d end [] e h = absurd h
  same-maps live (i ∷ is) d end (k ∷ ks) e h =
      let f = fold-cons (meaning_by schema_of) rules d end k.change (changes_of ks) e in
      let g = subst (StandFor live (i ∷ is)) (items-first d f.0 k ks f.1) h in
      ap (λ m. m ∷ item_maps is) (g.0.map_is ∙ at-map d k) ∙ ap (λ ms. step_map k.change ∷ ms) (same-maps live is f.0 end ks f.2 g.1)

  -- the names of the items are those of the steps, which are own
  record AreOwn (names : List Name) (ks : List (TimelineStep Step)) : Type 0 where
    own : Each (λ k. k.own ≡ true) ks
    named : names ≡ names_of ks

  are-own : (live names : List Name) (is : List (Item Step)) (d end : Doc) (ks : List (TimelineStep Step)) → fold (meaning_by schema_of) rules d (changes_of ks) ≡ Some end
      → StandFor live is (items_from (meaning_by schema_of) rules d ks) → AreNamed names is → AreOwn names ks
  are-own live [] [] d end [] e h a = record { own = tt; named = refl }
  are-own live [] [] d end (k ∷ ks) e h a = absurd h
  are-own live [] (i ∷ is) d end ks e h a = absurd a
  are-own live (n ∷ ns) [] d end ks e h a = absurd a
  are-own live (n ∷ ns) (i ∷ is) d end [] e h a = absurd h
  are-own live (n ∷ ns) (i ∷ is) d end (k ∷ ks) e h a =
      let f = fold-cons (meaning_by schema_of) rules d end k.change (changes_of ks) e in
      let g = subst (StandFor live (i ∷ is)) (items-first d f.0 k ks f.1) h in
      let o = is-own d k n (sym g.0.name_is ∙ a.0) in
      let r = are-own live ns is f.0 end ks f.2 g.1 a.1 in
      record { own = (o.own, r.own); named = ap (λ m. m ∷ ns) (sym o.named) ∙ ap (λ ms. k.name ∷ ms) r.named }

  are-splices : (ks : List (TimelineStep Step)) (d end : Doc) → Valid (schema_of rules) d → fold (meaning_by schema_of) rules d (changes_of ks) ≡ Some end
      → AreSpliceMaps (step_maps (changes_of ks)) → AreSplices (changes_of ks)
  are-splices [] d end v e h = tt
  are-splices (k ∷ ks) d end v e h =
      let f = fold-cons (meaning_by schema_of) rules d end k.change (changes_of ks) e in
      let s = schema_of rules in
      (map-splice k.change _ (within s k.change d f.0 v f.1) h.0, are-splices ks f.0 end (good s k.change d f.0 v f.1) f.2 h.1)

  -- a timeline that ends with the event of these names and later steps that lie apart from it
  pub record Ends (names : List Name) (first : Doc) (steps : List (TimelineStep Step)) (last : Doc) : Type 0 where
    pub event : List (TimelineStep Step)
    pub later : List (TimelineStep Step)
    pub before : Doc
    pub named : names ≡ names_of event
    pub ends : EndsWith schema_of rules event later first steps before last
    pub apart : IsApartEvent event later

  -- where the items tell that the later steps lie apart, they do in the timeline
  told-ends : (live names : List Name) (items : List (Item Step)) (first last : Doc) (steps : List (TimelineStep Step)) → TellsApart names items → Valid (schema_of rules) first
      → fold (meaning_by schema_of) rules first (changes_of steps) ≡ Some last → Remembers (meaning_by schema_of) rules live first steps items → Ends names first steps last
  told-ends live names items first last steps t v reach remembers =
      let m = meaning_by schema_of in
      let r = remembers in
      let split = fold-split m rules first last (changes_of r.gone) (changes_of r.kept) (ap (fold m rules first) (sym (changes-append r.gone r.kept) ∙ ap changes_of (sym r.steps_are)) ∙ reach) in
      let same_mid : split.0 ≡ r.mid = some-same split.0 r.mid (sym split.1 ∙ r.reaches) in
      let end : fold m rules r.mid (changes_of r.kept) ≡ Some last = subst (λ z. fold m rules z (changes_of r.kept) ≡ Some last) same_mid split.2 in
      let p = parts live t.front (t.event ++ t.later) r.mid last r.kept end (subst (λ is. StandFor live is (items_from m rules r.mid r.kept)) t.items_are r.stand) in
      let q = parts live t.event t.later p.mid last p.two p.ends p.stand_two in
      let mid_valid : Valid (schema_of rules) r.mid = fold-good m rules (laws_by schema_of) first r.mid (changes_of r.gone) v r.reaches in
      let before_valid : Valid (schema_of rules) p.mid = fold-good m rules (laws_by schema_of) r.mid p.mid (changes_of p.one) mid_valid p.reaches in
      let behind_valid : Valid (schema_of rules) q.mid = fold-good m rules (laws_by schema_of) p.mid q.mid (changes_of q.one) before_valid q.reaches in
      let own = are-own live names t.event p.mid q.mid q.one q.reaches q.stand_one t.named in
      let me = same-maps live t.event p.mid q.mid q.one q.reaches q.stand_one in
      let ml = same-maps live t.later q.mid last q.two q.ends q.stand_two in
      let are : steps ≡ (r.gone ++ p.one) ++ (q.one ++ q.two) =
      r.steps_are ∙ ap (λ ks. r.gone ++ ks) p.are ∙ sym (append_assoc r.gone p.one p.two) ∙ ap (λ ks. (r.gone ++ p.one) ++ ks) q.are in
      let front : fold m rules first (changes_of (r.gone ++ p.one)) ≡ Some p.mid =
      ap (fold m rules first) (changes-append r.gone p.one) ∙ fold-append m rules first r.mid (changes_of r.gone) (changes_of p.one) r.reaches ∙ p.reaches in
      record {
        event = q.one;
        later = q.two;
        before = p.mid;
        named = own.named;
        ends = record { earlier = r.gone ++ p.one; mid = q.mid; steps_are = are; valid = v; reaches = front; event_applies = q.reaches; later_apply = q.ends; own = own.own };
        apart = record {
          event_splices = are-splices q.one p.mid q.mid before_valid q.reaches (subst AreSpliceMaps me t.event_splices);
          later_splice = are-splices q.two q.mid last behind_valid q.ends (subst AreSpliceMaps ml t.later_splice);
          apart = subst (λ z. LieApart z (step_maps (changes_of q.two))) me (subst (LieApart (item_maps t.event)) ml t.apart);
        };
      }

  pub told-apart : (live names : List Name) (items : List (Item Step)) (first last : Doc) (steps : List (TimelineStep Step)) → Valid (schema_of rules) first
      → fold (meaning_by schema_of) rules first (changes_of steps) ≡ Some last → Remembers (meaning_by schema_of) rules live first steps items → TellsApart names items → IsApartIn names steps
  told-apart live names items first last steps v reach remembers t =
      let e = told-ends live names items first last steps t v reach remembers in
      record { earlier = e.ends.earlier; event = e.event; later = e.later; steps_are = e.ends.steps_are; named = e.named; own = e.ends.own; some = t.some; apart = e.apart }

  -- an undo over a history's items leaves the later steps where the items tell that they lie apart
  pub leaves-told : (client : ℕ) (names : List Name) (items : List (Item Step)) (last : Doc) (serial : ℕ) (w : Undone Doc Step)
      → IsOfWhole (meaning_by schema_of) rules client names items last serial w → LeavesWhereTold schema_of rules names items last w
  leaves-told client names items last serial w whole t full first steps v reach remembers tidy alive =
      let e = told-ends names names items first last steps t v reach remembers in
      record {
        event = e.event;
        later = e.later;
        before = e.before;
        named = e.named;
        ends = e.ends;
        apart = e.apart;
        left = leaves-all schema_of rules client names items last serial w whole first steps e.event e.later e.before remembers tidy alive e.named e.ends e.apart
            (full ∙ ap length e.named ∙ length-names e.event);
      }
    where
      length-names : (ks : List (TimelineStep Step)) → length (names_of ks) ≡ length ks
      length-names [] = refl
      length-names (k ∷ ks) = ap suc (length-names ks)

-- ---- the names of the items differ where those of the timeline do

module _ {C : Type 0} where
  not-named : (live : List Name) (o : Option Name) (is js : List (Item C)) → StandFor live is js → NotNamed o js → NotNamed o is
  not-named live None is js h d = tt
  not-named live (Some n) [] [] h d = tt
  not-named live (Some n) [] (j ∷ js) h d = absurd h
  not-named live (Some n) (i ∷ is) [] h d = absurd h
  not-named live (Some n) (i ∷ is) (j ∷ js) h d = (ap (λ o. one_step (Some n) o) h.0.name_is ∙ d.0, not-named live (Some n) is js h.1 d.1)

  stand-differ : (live : List Name) (is js : List (Item C)) → StandFor live is js → NamesDiffer js → NamesDiffer is
  stand-differ live [] [] h d = tt
  stand-differ live [] (j ∷ js) h d = absurd h
  stand-differ live (i ∷ is) [] h d = absurd h
  stand-differ live (i ∷ is) (j ∷ js) h d = (subst (λ o. NotNamed o is) (sym h.0.name_is) (not-named live j.name is js h.1 d.0), stand-differ live is js h.1 d.1)

  differ-back : (xs ys : List (Item C)) → NamesDiffer (xs ++ ys) → NamesDiffer ys
  differ-back [] ys d = d
  differ-back (x ∷ xs) ys d = differ-back xs ys d.1

module _ {Rules Doc Reason C : Type 0} (m : Meaning Rules Doc Reason C) (rules : Rules) where
  pub names-differ : (live : List Name) (first : Doc) (steps : List (TimelineStep C)) (items : List (Item C)) → Remembers m rules live first steps items
      → NamesDiffer (items_from m rules first steps) → NamesDiffer items
  names-differ live first steps items r d =
      let whole : items_from m rules first steps ≡ items_from m rules first r.gone ++ items_from m rules r.mid r.kept =
      ap (λ ss. items_from m rules first ss) r.steps_are ∙ items-append m rules first r.mid r.gone r.kept r.reaches in
      stand-differ live items (items_from m rules r.mid r.kept) r.stand (differ-back (items_from m rules first r.gone) (items_from m rules r.mid r.kept) (subst NamesDiffer whole d))
