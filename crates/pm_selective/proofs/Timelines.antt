-- Where an event lies apart in a timeline, the items that are kept of the timeline tell so.
use Rattle.std.specs.Prelude.{◌≡◌, ◌<◌, ℕ, true, false, List, [], ◌∷◌, ◌++◌, length, Option, Some, refl}
use Rattle.std.specs.List.{AllByRecursion as Each}
use Rattle.std.proofs.Common.{arith, ap, sym, subst, ◌∙◌}
use Rattle.std.proofs.lemmas.Bool.{true≢false}
use Rattle.pm_change.specs.declared.name.Name.{Name}
use Rattle.pm_change.specs.Changes.{fold}
use Rattle.pm_change.proofs.Folds.{fold-cons, fold-good}
use Rattle.pm_tokens.specs.Tokens.{Doc}
use Rattle.pm_tokens.specs.Schemas.{Schema}
use Rattle.pm_tokens.specs.Faults.{Valid}
use Rattle.pm_meaning.specs.Steps.{Step}
use Rattle.pm_meaning.specs.Meanings.{meaning_by}
use Rattle.pm_meaning.proofs.ChangeLaws.{laws_by}
use Rattle.pm_history.specs.declared.item.Item.{Item}
use Rattle.pm_history.specs.Items.{one_step}
use Rattle.pm_history.specs.Timelines.{Step as TimelineStep, changes_of, items_from}
use Rattle.pm_history.specs.Remembers.{Lacks, StandFor, Remembers}
use Rattle.pm_history.proofs.Folding.{fold-split, changes-append, some-same, items-append, own-at}
use Rattle.pm_history.proofs.Restores.{same-self}
use Rattle.pm_selective.specs.Apart.{LieApart}
use Rattle.pm_selective.specs.Carried.{AreSplices, step_maps}
use Rattle.pm_selective.specs.Histories.{names_of, IsApartIn}
use Rattle.pm_selective.specs.Told.{AreSpliceMaps, item_maps, AreNamed, TellsApart}
use Rattle.pm_selective.proofs.Steps.{AreOrdered}
use Rattle.pm_selective.proofs.Undone.{all-applied}
use Rattle.pm_selective.proofs.Histories.{fold-same}
use Rattle.pm_selective.proofs.Told.{splice-map, items-first, same-maps}

-- items that stand for others, which are parted
record Split (live : List Name) (is js ls : List (Item Step)) : Type 0 where
  one : List (Item Step)
  two : List (Item Step)
  are : is ≡ one ++ two
  stand_one : StandFor live one js
  stand_two : StandFor live two ls

stand-split : (live : List Name) (is js ls : List (Item Step)) → StandFor live is (js ++ ls) → Split live is js ls
stand-split live is [] ls h = record { one = []; two = is; are = refl; stand_one = tt; stand_two = h }
stand-split live [] (j ∷ js) ls h = absurd h
stand-split live (i ∷ is) (j ∷ js) ls h =
    let r = stand-split live is js ls h.1 in
    record { one = i ∷ r.one; two = r.two; are = ap (λ xs. i ∷ xs) r.are; stand_one = (h.0, r.stand_one); stand_two = r.stand_two }

splice-maps : (cs : List Step) → AreOrdered cs → AreSpliceMaps (step_maps cs)
splice-maps [] h = tt
splice-maps (c ∷ cs) h = (splice-map c h.0, splice-maps cs h.1)

-- a stretch of a timeline before which others stand
record Behind (gone kept earlier rest : List (TimelineStep Step)) : Type 0 where
  front : List (TimelineStep Step)
  kept_are : kept ≡ front ++ rest
  earlier_are : earlier ≡ gone ++ front

module _ {Rules : Type 0} (schema_of : Rules → Schema) (rules : Rules) where
  -- an own step stands after those of which none has its name
  behind : (doc mid : Doc) (gone kept earlier rest : List (TimelineStep Step)) (k : TimelineStep Step) → k.own ≡ true
      → fold (meaning_by schema_of) rules doc (changes_of gone) ≡ Some mid → Lacks (items_from (meaning_by schema_of) rules doc gone) k.name
      → gone ++ kept ≡ earlier ++ (k ∷ rest) → Behind gone kept earlier (k ∷ rest)
  behind doc mid [] kept earlier rest k own e l is = record { front = earlier; kept_are = is; earlier_are = refl }
  behind doc mid (g ∷ gone) kept [] rest k own e l is =
      let m = meaning_by schema_of in
      let same : g ≡ k = cc in
      let is_own : g.own ≡ true = ap (λ (s : TimelineStep Step). s.own) same ∙ own in
      let named : one_step (Some k.name) (Some g.name) ≡ false = ap (λ (i : Item Step). one_step (Some k.name) i.name) (sym (own-at m rules doc g is_own)) ∙ l.0 in
      let found : one_step (Some k.name) (Some g.name) ≡ true = ap (λ (s : TimelineStep Step). one_step (Some k.name) (Some s.name)) same ∙ same-self k.name in
      absurd (true≢false (sym found ∙ named))
  behind doc mid (g ∷ gone) kept (x ∷ earlier) rest k own e l is =
      let m = meaning_by schema_of in
      let f = fold-cons m rules doc mid g.change (changes_of gone) e in
      let lacks = subst (λ xs. Lacks xs k.name) (items-first schema_of rules doc f.0 g gone f.1) l in
      let tails : gone ++ kept ≡ earlier ++ (k ∷ rest) = cc in
      let heads : x ≡ g = cc in
      let i = behind f.0 mid gone kept earlier rest k own f.2 lacks.1 tails in
      record { front = i.front; kept_are = i.kept_are; earlier_are = ap (λ y. y ∷ earlier) heads ∙ ap (λ ys. g ∷ ys) i.earlier_are }

  -- the items of own steps have their names
  named-items : (live : List Name) (is : List (Item Step)) (d end : Doc) (ks : List (TimelineStep Step)) → fold (meaning_by schema_of) rules d (changes_of ks) ≡ Some end
      → StandFor live is (items_from (meaning_by schema_of) rules d ks) → Each (λ s. s.own ≡ true) ks → AreNamed (names_of ks) is
  named-items live [] d end [] e h own = tt
  named-items live (i ∷ is) d end [] e h own = absurd h
  named-items live [] d end (k ∷ ks) e h own = absurd h
  named-items live (i ∷ is) d end (k ∷ ks) e h own =
      let m = meaning_by schema_of in
      let f = fold-cons m rules d end k.change (changes_of ks) e in
      let g = subst (StandFor live (i ∷ is)) (items-first schema_of rules d f.0 k ks f.1) h in
      (g.0.name_is ∙ ap (λ (j : Item Step). j.name) (own-at m rules d k own.0), named-items live is f.0 end ks f.2 g.1 own.1)

  module _ (names : List Name) (items : List (Item Step)) (first last : Doc) (steps : List (TimelineStep Step)) (v : Valid (schema_of rules) first)
      (reach : fold (meaning_by schema_of) rules first (changes_of steps) ≡ Some last) (r : Remembers (meaning_by schema_of) rules names first steps items) where
    from-front : (earlier event later front : List (TimelineStep Step)) → r.kept ≡ front ++ (event ++ later) → names ≡ names_of event → Each (λ s. s.own ≡ true) event
        → 0 < length names → AreSplices (changes_of event) → AreSplices (changes_of later) → LieApart (step_maps (changes_of event)) (step_maps (changes_of later)) → TellsApart names items
    from-front earlier event later front are named own some event_splices later_splice apart =
        let m = meaning_by schema_of in
        let s = schema_of rules in
        let split = fold-split m rules first last (changes_of r.gone) (changes_of r.kept) (ap (fold m rules first) (sym (changes-append r.gone r.kept) ∙ ap changes_of (sym r.steps_are)) ∙ reach) in
        let same_mid : split.0 ≡ r.mid = some-same split.0 r.mid (sym split.1 ∙ r.reaches) in
        let end : fold m rules r.mid (changes_of r.kept) ≡ Some last = subst (λ z. fold m rules z (changes_of r.kept) ≡ Some last) same_mid split.2 in
        let a = fold-split m rules r.mid last (changes_of front) (changes_of (event ++ later)) (ap (fold m rules r.mid) (sym (changes-append front (event ++ later)) ∙ ap changes_of (sym are)) ∙ end) in
        let b = fold-split m rules a.0 last (changes_of event) (changes_of later) (ap (fold m rules a.0) (sym (changes-append event later)) ∙ a.2) in
        let whole : items_from m rules r.mid r.kept ≡ items_from m rules r.mid front ++ (items_from m rules a.0 event ++ items_from m rules b.0 later) =
        ap (items_from m rules r.mid) are ∙ items-append m rules r.mid a.0 front (event ++ later) a.1
        ∙ ap (λ xs. items_from m rules r.mid front ++ xs) (items-append m rules a.0 b.0 event later b.1) in
        let p = stand-split names items (items_from m rules r.mid front) (items_from m rules a.0 event ++ items_from m rules b.0 later) (subst (StandFor names items) whole r.stand) in
        let q = stand-split names p.two (items_from m rules a.0 event) (items_from m rules b.0 later) p.stand_two in
        let me = same-maps schema_of rules names q.one a.0 b.0 event b.1 q.stand_one in
        let ml = same-maps schema_of rules names q.two b.0 last later b.2 q.stand_two in
        let mid_valid : Valid s r.mid = fold-good m rules (laws_by schema_of) first r.mid (changes_of r.gone) v r.reaches in
        let before_valid : Valid s a.0 = fold-good m rules (laws_by schema_of) r.mid a.0 (changes_of front) mid_valid a.1 in
        let behind_valid : Valid s b.0 = fold-good m rules (laws_by schema_of) a.0 b.0 (changes_of event) before_valid b.1 in
        let ae = all-applied s (changes_of event) a.0 b.0 event_splices before_valid (sym (fold-same schema_of rules (changes_of event) a.0) ∙ b.1) in
        let al = all-applied s (changes_of later) b.0 last later_splice behind_valid (sym (fold-same schema_of rules (changes_of later) b.0) ∙ b.2) in
        record {
          front = p.one;
          event = q.one;
          later = q.two;
          items_are = p.are ∙ ap (λ xs. p.one ++ xs) q.are;
          some = some;
          named = subst (λ ns. AreNamed ns q.one) (sym named) (named-items names q.one a.0 b.0 event b.1 q.stand_one own);
          event_splices = subst AreSpliceMaps (sym me) (splice-maps (changes_of event) ae.ordered);
          later_splice = subst AreSpliceMaps (sym ml) (splice-maps (changes_of later) al.ordered);
          apart = subst (λ z. LieApart z (item_maps q.two)) (sym me) (subst (LieApart (step_maps (changes_of event))) (sym ml) apart);
        }

    -- where an event lies apart in the timeline, the items tell so
    pub apart-told : IsApartIn names steps → TellsApart names items
    apart-told t = from t.event t.named t.own t.steps_are t.apart.event_splices t.apart.apart
      where
        from : (event : List (TimelineStep Step)) → names ≡ names_of event → Each (λ s. s.own ≡ true) event → steps ≡ t.earlier ++ (event ++ t.later)
            → AreSplices (changes_of event) → LieApart (step_maps (changes_of event)) (step_maps (changes_of t.later)) → TellsApart names items
        from [] named own are splices apart = let none : length names ≡ 0 = ap length named in absurd (omega (arith, none, t.some))
        from (k ∷ ks) named own are splices apart =
            let lacks = subst (Each (Lacks (items_from (meaning_by schema_of) rules first r.gone))) named r.lacks in
            let b = behind first r.mid r.gone r.kept t.earlier (ks ++ t.later) k own.0 r.reaches lacks.0 (sym r.steps_are ∙ are) in
            from-front t.earlier (k ∷ ks) t.later b.front b.kept_are named own t.some splices t.apart.later_splice apart
