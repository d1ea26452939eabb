-- The steps that a history makes to undo an event are those carried round the later steps.
use Rattle.std.specs.Prelude.{◌≡◌, ◌==◌, ℕ, ◌+◌, ◌≤◌, ◌<◌, Bool, true, false, if◌then◌else◌, List, [], ◌∷◌, ◌++◌, length, Option, Some, None, Result, Ok, Err, refl}
use Rattle.std.specs.List.{AllByRecursion as Each}
use Rattle.std.proofs.Common.{arith, ap, sym, subst, ◌∙◌, ⊎_elim, append_assoc, append-nil, length-append}
use Rattle.std.proofs.lemmas.Bool.{eq-eqb, eqb-true, and_parts, and_from, true≢false, cases_Bool}
use Rattle.pm_map.specs.declared.step_map.Span.{Span}
use Rattle.pm_map.specs.Moves.{inverted_ranges}
use Rattle.pm_map.specs.Stills.{AreApart}
use Rattle.pm_change.specs.declared.name.Name.{Name}
use Rattle.pm_change.specs.Changes.{fold, then_some}
use Rattle.pm_change.proofs.Folds.{fold-cons, fold-append, fold-good}
use Rattle.pm_tokens.specs.Tokens.{Doc}
use Rattle.pm_tokens.specs.Schemas.{Schema}
use Rattle.pm_tokens.specs.Faults.{Valid}
use Rattle.pm_meaning.specs.Steps.{Step, Replace, ReplaceAround, AddMark, RemoveMark, AddNodeMark, RemoveNodeMark, Attr, DocAttr}
use Rattle.pm_meaning.specs.Meanings.{meaning_by, meaning}
use Rattle.pm_meaning.specs.Maps.{step_map, carry}
use Rattle.pm_meaning.specs.Inverses.{inverse}
use Rattle.pm_meaning.specs.Outcomes.{outcome}
use Rattle.pm_meaning.specs.declared.reason.Reason.{Reason}
use Rattle.pm_meaning.proofs.StepLaws.{good}
use Rattle.pm_meaning.proofs.ChangeLaws.{laws_by}
use Rattle.pm_history.specs.Restores.{IsOfWhole}
use Rattle.pm_history.specs.declared.item.Item.{Item}
use Rattle.pm_history.specs.declared.undoing.Undone.{Undone}
use Rattle.pm_history.specs.Items.{same_name, one_step, foreign_item}
use Rattle.pm_history.specs.Pairs.{paired}
use Rattle.pm_history.specs.Timelines.{Step as TimelineStep, changes_of, item_at, next_items, items_from}
use Rattle.pm_history.specs.Tidy.{NoRangeUndoes, NotNamed, NamesDiffer, Differ, IsTidy}
use Rattle.pm_history.specs.Undos.{find, none_made, then_made, own_item, where_applies, tried, put, undo_steps, undo_found, undo_event}
use Rattle.pm_history.proofs.Folding.{own-at, items-append}
use Rattle.pm_history.proofs.Restores.{same-self}
use Rattle.pm_history.proofs.Since.{none-back}
use Rattle.pm_selective.specs.Shifts.{shift_all, beside, IsCorner, IsGrid, AreAllApart}
use Rattle.pm_selective.specs.Apart.{AreApartFrom}
use Rattle.pm_selective.specs.Carried.{IsSplice, AreSplices, step_maps, left_tokens}
use Rattle.pm_selective.specs.Undone.{then_steps, inverses_onto, inverses}
use Rattle.pm_selective.specs.Histories.{names_of, EndsWith, IsApartEvent, LeavesAll}
use Rattle.pm_selective.proofs.Aparts.{ranges-are, ranges_back, grid-of, turned}
use Rattle.pm_selective.proofs.Flips.{twice}
use Rattle.pm_selective.proofs.Steps.{apart-step, moved_step, moved_steps, same, carries}
use Rattle.pm_selective.proofs.Undone.{applied, all-applied, Back, undone-by, backwards, both-ways, apart-maps, undo-leaves}
use Rattle.pm_selective.proofs.ItemRows.{ItemsSlide, maps_of_items, items-slide, slide-leads, items-round}

-- ---- rows and the maps that they carried so far

-- the row after these maps
abbrev rows_behind : List (List Span) → List (List Span) → List (List Span)
rows_behind [] gs = gs
rows_behind (b ∷ bs) gs = rows_behind bs (beside b gs)

record LastCorner (bs : List (List Span)) (b : List Span) (gs : List (List Span)) : Type 0 where
  front : IsGrid bs gs
  apart : AreApart b 0
  corner : IsCorner b (rows_behind bs gs)

last-corner : (bs : List (List Span)) (b : List Span) (gs : List (List Span)) → IsGrid (bs ++ b ∷ []) gs → LastCorner bs b gs
last-corner [] b gs h = record { front = tt; apart = h.0; corner = h.1 }
last-corner (c ∷ bs) b gs h = let i = last-corner bs b (beside c gs) h.2 in record { front = (h.0, h.1, i.front); apart = i.apart; corner = i.corner }

rows-last : (bs : List (List Span)) (b : List Span) (gs : List (List Span)) → rows_behind (bs ++ b ∷ []) gs ≡ beside b (rows_behind bs gs)
rows-last [] b gs = refl
rows-last (c ∷ bs) b gs = rows-last bs b (beside c gs)

moved-last : (cs : List Step) (c : Step) (gs : List (List Span)) → moved_steps gs (cs ++ c ∷ []) ≡ moved_steps gs cs ++ moved_step (shift_all (rows_behind (step_maps cs) gs)) c ∷ []
moved-last [] c gs = refl
moved-last (d ∷ cs) c gs = ap (λ xs. moved_step (shift_all gs) d ∷ xs) (moved-last cs c (beside (step_map d) gs))

maps-append : (xs ys : List Step) → step_maps (xs ++ ys) ≡ step_maps xs ++ step_maps ys
maps-append [] ys = refl
maps-append (x ∷ xs) ys = ap (λ zs. step_map x ∷ zs) (maps-append xs ys)

-- a replace or a replaceAround has a range
has-range : (c : Step) → IsSplice c → 0 < length (step_map c)
has-range (Replace from to sl st) h = omega arith
has-range (ReplaceAround from to gf gt sl insert st) h = omega arith
has-range (AddMark from to mark) h = absurd h
has-range (RemoveMark from to mark) h = absurd h
has-range (AddNodeMark p mark) h = absurd h
has-range (RemoveNodeMark p mark) h = absurd h
has-range (Attr p name value) h = absurd h
has-range (DocAttr name value) h = absurd h

-- ---- stored inverses

inverses-front : (s : Schema) (es : List Step) (d end : Doc) (bs : List Step) → fold meaning s d es ≡ Some end → inverses_onto s d es bs ≡ inverses s d es ++ bs
inverses-front s [] d end bs e = refl
inverses-front s (c ∷ es) d end bs e =
    let f = fold-cons meaning s d end c es e in
    let at = λ (xs : List Step). ap (λ o. then_steps o (λ next. inverses_onto s next es (inverse s c d ++ xs))) f.1 in
    at bs ∙ inverses-front s es f.0 end (inverse s c d ++ bs) f.2
    ∙ sym (append_assoc (inverses s f.0 es) (inverse s c d) bs)
    ∙ ap (λ xs. xs ++ bs) (ap (λ xs. inverses s f.0 es ++ xs) (sym (append-nil (inverse s c d))) ∙ sym (inverses-front s es f.0 end (inverse s c d ++ []) f.2) ∙ sym (at []))

-- ---- names

same-turned : (a b : Name) → same_name a b ≡ true → same_name b a ≡ true
same-turned a b h =
    let p = and_parts (a.client == b.client) (a.serial == b.serial) h in
    and_from _ _ (eq-eqb b.client a.client (sym (eqb-true a.client b.client p.0))) (eq-eqb b.serial a.serial (sym (eqb-true a.serial b.serial p.1)))

module _ {C : Type 0} where
  at-end : (P : Item C → Type 0) (xs : List (Item C)) (i : Item C) (rest : List (Item C)) → Each P (xs ++ i ∷ rest) → P i
  at-end P [] i rest h = h.0
  at-end P (x ∷ xs) i rest h = at-end P xs i rest h.1

  found-at : (n : Name) (front : List (Item C)) (i : Item C) (later : List (Item C)) → i.name ≡ Some n → same_name n n ≡ true → NamesDiffer (front ++ i ∷ later)
      → find n (front ++ i ∷ later) ≡ Some (i, later)
  found-at n [] i later e s h = ap (λ o. if one_step (Some n) o then Some (i, later) else find n later) e ∙ ap (λ t. if t then Some (i, later) else find n later) s
  found-at n (x ∷ xs) i later e s h =
      ap (λ t. if t then Some (x, xs ++ i ∷ later) else find n (xs ++ i ∷ later)) (other x.name h.0) ∙ found-at n xs i later e s h.1
    where
      other : (o : Option Name) → NotNamed o (xs ++ i ∷ later) → one_step (Some n) o ≡ false
      other None h = refl
      other (Some k) h =
          let f : same_name k n ≡ false = ap (λ o. one_step (Some k) o) (sym e) ∙ at-end (λ j. one_step (Some k) j.name ≡ false) xs i later h in
          ⊎_elim (λ (t : same_name n k ≡ true). absurd (true≢false (sym (same-turned n k t) ∙ f))) (λ (t : same_name n k ≡ false). t) (cases_Bool (same_name n k))

  none-append : (n : Option Name) (xs ys : List (Item C)) → NoRangeUndoes n xs → NoRangeUndoes n ys → NoRangeUndoes n (xs ++ ys)
  none-append n [] ys h k = k
  none-append n (x ∷ xs) ys h k = (h.0, none-append n xs ys h.1 k)

module _ {Rules : Type 0} (schema_of : Rules → Schema) (rules : Rules) where
  pub fold-same : (cs : List Step) (d : Doc) → fold (meaning_by schema_of) rules d cs ≡ fold meaning (schema_of rules) d cs
  fold-same [] d = refl
  fold-same (c ∷ cs) d = from (outcome (schema_of rules) c d) (fold-same cs)
    where
      from : (r : Result Doc Reason) → ((z : Doc) → fold (meaning_by schema_of) rules z cs ≡ fold meaning (schema_of rules) z cs)
          → then_some (meaning_by schema_of) rules r (λ d. fold (meaning_by schema_of) rules d cs) ≡ then_some meaning (schema_of rules) r (λ d. fold meaning (schema_of rules) d cs)
      from (Ok z) same = same z
      from (Err r) same = refl

  -- the maps of a timeline's items are those of its steps
  item-map : (d : Doc) (s : TimelineStep Step) → (item_at (meaning_by schema_of) rules d s).map ≡ step_map s.change
  item-map d s = from s.own
    where
      from : (t : Bool) → (if◌then◌else◌ {A = Item Step} t (record { name = Some s.name; map = step_map s.change; inverse = inverse (schema_of rules) s.change d; undoes = s.undoes }) (foreign_item (step_map s.change))).map ≡ step_map s.change
      from true = refl
      from false = refl

  items-maps : (ss : List (TimelineStep Step)) (d end : Doc) → fold (meaning_by schema_of) rules d (changes_of ss) ≡ Some end
      → maps_of_items (items_from (meaning_by schema_of) rules d ss) ≡ step_maps (changes_of ss)
  items-maps [] d end e = refl
  items-maps (s ∷ ss) d end e =
      let f = fold-cons (meaning_by schema_of) rules d end s.change (changes_of ss) e in
      ap (λ x. x ∷ maps_of_items (next_items (meaning_by schema_of) rules (outcome (schema_of rules) s.change d) (λ z. items_from (meaning_by schema_of) rules z ss))) (item-map d s)
      ∙ ap (λ r. step_map s.change ∷ maps_of_items (next_items (meaning_by schema_of) rules r (λ z. items_from (meaning_by schema_of) rules z ss))) f.1
      ∙ ap (λ xs. step_map s.change ∷ xs) (items-maps ss f.0 end f.2)

module _ {Rules : Type 0} (schema_of : Rules → Schema) (rules : Rules) (client : ℕ) where
  -- steps made to undo one step undo no other
  steps-other : (n k : Name) (bs : List Step) (later : List (Item Step)) (doc : Doc) (serial : ℕ) → same_name n k ≡ false
      → NoRangeUndoes (Some n) (undo_steps (meaning_by schema_of) rules client k bs later doc serial).items
  steps-other n k [] later doc serial e = tt
  steps-other n k (b ∷ bs) later doc serial e = from (tried (meaning_by schema_of) rules client (carry b (paired later)) doc) (λ l d s. steps-other n k bs l d s e)
    where
      from : (o : Option (Step × Doc)) → ((l : List (Item Step)) (d : Doc) (s : ℕ) → NoRangeUndoes (Some n) (undo_steps (meaning_by schema_of) rules client k bs l d s).items)
          → NoRangeUndoes (Some n) (put (meaning_by schema_of) rules client o k later doc serial (λ l d s. undo_steps (meaning_by schema_of) rules client k bs l d s)).items
      from None go = go later doc serial
      from (Some p) go = (λ t. absurd (true≢false (sym t ∙ e)), go _ _ _)

  event-other : (n : Name) (ns : List Name) (items : List (Item Step)) (doc : Doc) (serial : ℕ) → Each (λ k. same_name n k ≡ false) ns
      → NoRangeUndoes (Some n) (undo_event (meaning_by schema_of) rules client ns items doc serial).items
  event-other n [] items doc serial h = tt
  event-other n (k ∷ ns) items doc serial h =
      let w = undo_event (meaning_by schema_of) rules client ns items doc serial in
      none-append (Some n) w.items _ (event-other n ns items doc serial h.1) (from (find k items) w.items w.doc w.serial)
    where
      from : (o : Option (Item Step × List (Item Step))) (more : List (Item Step)) (d : Doc) (s : ℕ) → NoRangeUndoes (Some n) (undo_found (meaning_by schema_of) rules client k o more d s).items
      from None more d s = tt
      from (Some p) more d s = steps-other n k p.0.inverse (p.1 ++ more) d s h.0

  -- one step is made at most
  put-count : (o : Option (Step × Doc)) (n : Name) (later : List (Item Step)) (doc : Doc) (serial : ℕ)
      → length (put (meaning_by schema_of) rules client o n later doc serial (λ l d s. none_made d s)).made ≤ 1
  put-count None n later doc serial = omega arith
  put-count (Some p) n later doc serial = omega arith

  put-some : (o : Option (Step × Doc)) (n : Name) (later : List (Item Step)) (doc : Doc) (serial : ℕ)
      → length (put (meaning_by schema_of) rules client o n later doc serial (λ l d s. none_made d s)).made ≡ 1 → (p : Step × Doc) × (o ≡ Some p)
  put-some None n later doc serial h = absurd (omega (arith, h))
  put-some (Some p) n later doc serial h = (p, refl)

  applies-where : (r : Result Doc Reason) (c : Step) (p : Step × Doc) → where_applies (meaning_by schema_of) rules client r c ≡ Some p → (r ≡ Ok p.1) × (p.0 ≡ c)
  applies-where (Ok d) c p e = let k : (c, d) ≡ p = cc in (ap (λ z. Ok z.1) k, sym (ap (λ z. z.0) k))
  applies-where (Err r) c p e = absurd (cc)

  -- The steps made to undo the last steps of an event, where none was left out.
  record Goes (event later : List (TimelineStep Step)) (doc last : Doc) (w : Undone Doc Step) : Type 0 where
    made_is : w.made ≡ moved_steps (step_maps (changes_of later)) (inverses (schema_of rules) doc (changes_of event))
    folds : fold (meaning_by schema_of) rules last w.made ≡ Some w.doc
    slides : ItemsSlide (items_from (meaning_by schema_of) rules doc (event ++ later) ++ w.items)
        (rows_behind (step_maps (inverses (schema_of rules) doc (changes_of event))) (step_maps (changes_of later)))

  record Counts (event later : List (TimelineStep Step)) (doc last : Doc) (w : Undone Doc Step) : Type 0 where
    most : length w.made ≤ length event
    all : length w.made ≡ length event → Goes event later doc last w

  -- the items of the whole timeline
  module _ (items : List (Item Step)) (later : List (TimelineStep Step)) (last : Doc) (serial : ℕ) (names_differ : NamesDiffer items) where
    abbrev undo : List (TimelineStep Step) → Undone Doc Step
    undo event = undo_event (meaning_by schema_of) rules client (names_of event) items last serial

    -- one step of the event, before those whose undo was made
    module _ (e : TimelineStep Step) (event : List (TimelineStep Step)) (doc next mid : Doc) (front : List (Item Step)) (v : Valid (schema_of rules) doc) (own : e.own ≡ true)
        (h : outcome (schema_of rules) e.change doc ≡ Ok next) (splice : IsSplice e.change) (folds : fold (meaning_by schema_of) rules next (changes_of event) ≡ Some mid)
        (items_are : items ≡ front ++ items_from (meaning_by schema_of) rules doc (e ∷ (event ++ later)))
        (fresh : Each (λ k. same_name e.name k ≡ false) (names_of event)) (live : NoRangeUndoes (Some e.name) (items_from (meaning_by schema_of) rules doc (e ∷ (event ++ later))))
        (grid : IsGrid (step_maps (inverses (schema_of rules) doc (changes_of (e ∷ event)))) (step_maps (changes_of later)))
        (i : Counts event later next last (undo event)) where
      abbrev s : Schema
      s = schema_of rules

      abbrev w : Undone Doc Step
      w = undo event

      back : Back s e.change doc next
      back = undone-by s e.change doc next splice v h

      abbrev b : Step
      b = back.step

      abbrev bs : List Step
      bs = inverses s next (changes_of event)

      abbrev gs : List (List Span)
      gs = step_maps (changes_of later)

      abbrev row : List (List Span)
      row = rows_behind (step_maps bs) gs

      all_bs : inverses s doc (changes_of (e ∷ event)) ≡ bs ++ b ∷ []
      all_bs =
          ap (λ o. then_steps o (λ z. inverses_onto s z (changes_of event) (inverse s e.change doc ++ []))) h
          ∙ ap (λ xs. inverses_onto s next (changes_of event) (xs ++ [])) back.is
          ∙ inverses-front s (changes_of event) next mid (b ∷ []) (sym (fold-same schema_of rules (changes_of event) next) ∙ folds)

      corner : LastCorner (step_maps bs) (step_map b) gs
      corner = last-corner (step_maps bs) (step_map b) gs (subst (λ z. IsGrid z gs) (ap step_maps all_bs ∙ maps-append bs (b ∷ [])) grid)

      abbrev item : Item Step
      item = record { name = Some e.name; map = step_map e.change; inverse = inverse s e.change doc; undoes = e.undoes }

      abbrev behind : List (Item Step)
      behind = items_from (meaning_by schema_of) rules next (event ++ later)

      items_is : items_from (meaning_by schema_of) rules doc (e ∷ (event ++ later)) ≡ item ∷ behind
      items_is =
          ap (λ r. item_at (meaning_by schema_of) rules doc e ∷ next_items (meaning_by schema_of) rules r (λ z. items_from (meaning_by schema_of) rules z (event ++ later))) h
          ∙ ap (λ j. j ∷ behind) (own-at (meaning_by schema_of) rules doc e own)

      at : items ≡ front ++ item ∷ behind
      at = items_are ∙ ap (λ xs. front ++ xs) items_is

      found : find e.name items ≡ Some (item, behind)
      found = subst (λ xs. find e.name xs ≡ Some (item, behind)) (sym at) (found-at e.name front item behind refl (same-self e.name) (subst NamesDiffer at names_differ))

      abbrev more : List (Item Step)
      more = behind ++ w.items

      abbrev attempt : Option (Step × Doc)
      attempt = tried (meaning_by schema_of) rules client (carry b (paired more)) w.doc

      abbrev made : Option (Step × Doc) → Undone Doc Step
      made o = put (meaning_by schema_of) rules client o e.name more w.doc w.serial (λ l d n. none_made d n)

      this : undo_found (meaning_by schema_of) rules client e.name (find e.name items) w.items w.doc w.serial ≡ made attempt
      this =
          ap (λ o. undo_found (meaning_by schema_of) rules client e.name o w.items w.doc w.serial) found
          ∙ ap (λ xs. undo_steps (meaning_by schema_of) rules client e.name xs more w.doc w.serial) back.is

      undo_is : undo (e ∷ event) ≡ then_made w (made attempt)
      undo_is = ap (then_made w) this

      size : length (undo (e ∷ event)).made ≡ length w.made + length (made attempt).made
      size = ap (λ z. length z.made) undo_is ∙ length-append w.made (made attempt).made

      abbrev u : Step
      u = moved_step (shift_all row) b

      -- the step is made
      one : (goes : Goes event later next last w) (p : Step × Doc) → attempt ≡ Some p → Goes (e ∷ event) later doc last (undo (e ∷ event))
      one goes p some =
          let ordered = (applied s b next doc back.splices (good s e.change doc next v h) back.applies).ordered in
          let go = carries (paired more) row b (slide-leads more row goes.slides) ordered corner.corner in
          let q = applies-where (outcome s u w.doc) u p (ap (λ o. tried (meaning_by schema_of) rules client o w.doc) (sym go) ∙ some) in
          let i = own_item (meaning_by schema_of) rules client w.doc u w.serial (Some e.name) in
          let made_is : attempt ≡ Some (u, p.1) = ap (λ o. tried (meaning_by schema_of) rules client o w.doc) go ∙ ap (λ r. where_applies (meaning_by schema_of) rules client r u) q.0 in
          let whole : undo (e ∷ event) ≡ then_made w (record { doc = p.1; serial = w.serial + 1; made = u ∷ []; items = i ∷ [] }) = undo_is ∙ ap (λ o. then_made w (made o)) made_is in
          let k = same row b ordered corner.corner in
          let map_is : step_map e.change ≡ inverted_ranges (step_map b) =
          sym (twice (step_map e.change) (apart-step e.change (applied s e.change doc next splice v h).ordered)) ∙ ap inverted_ranges (sym back.map_is) in
          let round = items-round item i more row (step_map b) corner.apart (has-range b back.splices) corner.corner goes.slides map_is k.map_is
          (none-append (Some e.name) behind w.items (subst (NoRangeUndoes (Some e.name)) items_is live).1 (event-other e.name (names_of event) items last serial fresh)) (same-self e.name) in
          subst (Goes (e ∷ event) later doc last) (sym whole) (record {
            made_is = ap (λ xs. xs ++ u ∷ []) goes.made_is ∙ sym (moved-last bs b gs) ∙ ap (moved_steps gs) (sym all_bs);
            folds = fold-append (meaning_by schema_of) rules last w.doc w.made (u ∷ []) goes.folds ∙ ap (λ r. then_some (meaning_by schema_of) rules r (λ z. Some z)) q.0;
            slides = subst (λ xs. ItemsSlide (xs ++ (w.items ++ i ∷ [])) (rows_behind (step_maps (inverses s doc (changes_of (e ∷ event)))) gs)) (sym items_is)
                (subst (λ xs. ItemsSlide (item ∷ xs) (rows_behind (step_maps (inverses s doc (changes_of (e ∷ event)))) gs)) (append_assoc behind w.items (i ∷ []))
                (subst (ItemsSlide (item ∷ (more ++ i ∷ []))) (sym (ap (λ xs. rows_behind xs gs) (ap step_maps all_bs ∙ maps-append bs (b ∷ [])) ∙ rows-last (step_maps bs) (step_map b) gs)) round));
          })

      counts : Counts (e ∷ event) later doc last (undo (e ∷ event))
      counts =
          let c = put-count attempt e.name more w.doc w.serial in
          record {
            most = omega (arith, size, c, i.most);
            all = λ full.
                let p = put-some attempt e.name more w.doc w.serial (omega (arith, full, size, c, i.most)) in
                one (i.all (omega (arith, full, size, c, i.most))) p.0 p.1;
          }

    abbrev Live : Doc → List (TimelineStep Step) → List Name → Type 0
    Live doc ss ns = Each (λ n. NoRangeUndoes (Some n) (items_from (meaning_by schema_of) rules doc ss)) ns

    -- the last steps of the event, from this document on
    all-counts : (event : List (TimelineStep Step)) (doc mid : Doc) (front : List (Item Step)) → Valid (schema_of rules) doc → Each (λ s. s.own ≡ true) event
        → AreSplices (changes_of event) → fold (meaning_by schema_of) rules doc (changes_of event) ≡ Some mid
        → AreAllApart (step_maps (changes_of later)) → fold (meaning_by schema_of) rules mid (changes_of later) ≡ Some last
        → items ≡ front ++ items_from (meaning_by schema_of) rules doc (event ++ later) → Differ (names_of event) → Live doc (event ++ later) (names_of event)
        → IsGrid (step_maps (inverses (schema_of rules) doc (changes_of event))) (step_maps (changes_of later)) → Counts event later doc last (undo event)
    all-counts [] doc mid front v own splices folds apart reach are differ live grid =
        let e : doc ≡ mid = cc in
        let is = items_from (meaning_by schema_of) rules doc later in
        let maps = items-maps schema_of rules later doc last (subst (λ z. fold (meaning_by schema_of) rules z (changes_of later) ≡ Some last) (sym e) reach) in
        record {
          most = omega arith;
          all = λ _. record {
            made_is = refl;
            folds = refl;
            slides = subst (λ xs. ItemsSlide xs (step_maps (changes_of later))) (sym (append-nil is))
                (subst (ItemsSlide is) maps (items-slide is (subst AreAllApart (sym maps) apart)));
          };
        }
    all-counts (e ∷ event) doc mid front v own splices folds apart reach are differ live grid =
        let f = fold-cons (meaning_by schema_of) rules doc mid e.change (changes_of event) folds in
        let s = schema_of rules in
        let is = items_from (meaning_by schema_of) rules f.0 (event ++ later) in
        let item = item_at (meaning_by schema_of) rules doc e in
        let are_front : items_from (meaning_by schema_of) rules doc (e ∷ (event ++ later)) ≡ item ∷ is =
        ap (λ r. item ∷ next_items (meaning_by schema_of) rules r (λ z. items_from (meaning_by schema_of) rules z (event ++ later))) f.1 in
        let live_next : Live f.0 (event ++ later) (names_of event) = each-rest item is (names_of event) (subst (λ xs. Each (λ n. NoRangeUndoes (Some n) xs) (names_of event)) are_front live.1) in
        let b = undone-by s e.change doc f.0 splices.0 v f.1 in
        let all_bs : inverses s doc (changes_of (e ∷ event)) ≡ inverses s f.0 (changes_of event) ++ b.step ∷ [] =
        ap (λ o. then_steps o (λ z. inverses_onto s z (changes_of event) (inverse s e.change doc ++ []))) f.1
        ∙ ap (λ xs. inverses_onto s f.0 (changes_of event) (xs ++ [])) b.is
        ∙ inverses-front s (changes_of event) f.0 mid (b.step ∷ []) (sym (fold-same schema_of rules (changes_of event) f.0) ∙ f.2) in
        let c = last-corner (step_maps (inverses s f.0 (changes_of event))) (step_map b.step) (step_maps (changes_of later))
        (subst (λ z. IsGrid z (step_maps (changes_of later))) (ap step_maps all_bs ∙ maps-append (inverses s f.0 (changes_of event)) (b.step ∷ [])) grid) in
        let i = all-counts event f.0 mid (front ++ item ∷ []) (good s e.change doc f.0 v f.1) own.1 splices.1 f.2 apart reach
        (are ∙ ap (λ xs. front ++ xs) are_front ∙ sym (append_assoc front (item ∷ []) is)) differ.1 live_next c.front in
        counts e event doc f.0 mid front v own.0 f.1 splices.0 f.2 are differ.0 live.0 grid i
      where
        each-rest : (j : Item Step) (xs : List (Item Step)) (ns : List Name) → Each (λ n. NoRangeUndoes (Some n) (j ∷ xs)) ns → Each (λ n. NoRangeUndoes (Some n) xs) ns
        each-rest j xs [] h = tt
        each-rest j xs (n ∷ ns) h = (h.0.1, each-rest j xs ns h.1)

  each-behind : (front xs : List (Item Step)) (ns : List Name) → Each (λ n. NoRangeUndoes (Some n) (front ++ xs)) ns → Each (λ n. NoRangeUndoes (Some n) xs) ns
  each-behind front xs [] h = tt
  each-behind front xs (n ∷ ns) h = (none-back (Some n) front xs h.0, each-behind front xs ns h.1)

  -- over the items of the whole timeline
  over-whole : (first : Doc) (steps event later : List (TimelineStep Step)) (before last : Doc) (serial : ℕ)
      → IsTidy (items_from (meaning_by schema_of) rules first steps) (names_of event) → Each (λ n. NoRangeUndoes (Some n) (items_from (meaning_by schema_of) rules first steps)) (names_of event)
      → EndsWith schema_of rules event later first steps before last → IsApartEvent event later
      → length (undo_event (meaning_by schema_of) rules client (names_of event) (items_from (meaning_by schema_of) rules first steps) last serial).made ≡ length event
      → left_tokens (changes_of event) (changes_of later) before.tokens
      ≡ Some (undo_event (meaning_by schema_of) rules client (names_of event) (items_from (meaning_by schema_of) rules first steps) last serial).doc.tokens
  over-whole first steps event later before last serial tidy alive h a full =
      let s = schema_of rules in
      let mid = h.mid in
      let es = changes_of event in
      let ls = changes_of later in
      let items = items_from (meaning_by schema_of) rules first steps in
      let front = items_from (meaning_by schema_of) rules first h.earlier in
      let are : items ≡ front ++ items_from (meaning_by schema_of) rules before (event ++ later) =
      ap (items_from (meaning_by schema_of) rules first) h.steps_are ∙ items-append (meaning_by schema_of) rules first before h.earlier (event ++ later) h.reaches in
      let v : Valid s before = fold-good (meaning_by schema_of) rules (laws_by schema_of) first before (changes_of h.earlier) h.valid h.reaches in
      let fe : fold meaning s before es ≡ Some mid = sym (fold-same schema_of rules es before) ∙ h.event_applies in
      let fl : fold meaning s mid ls ≡ Some last = sym (fold-same schema_of rules ls mid) ∙ h.later_apply in
      let ae = all-applied s es before mid a.event_splices v fe in
      let al = all-applied s ls mid last a.later_splice ae.valid fl in
      let bs = inverses s before es in
      let b = backwards s es before mid a.event_splices v fe in
      let ma = apart-maps es ae.ordered in
      let g : IsGrid (step_maps ls) (step_maps bs) =
      grid-of (step_maps ls) (step_maps bs) (apart-maps bs b.ordered) (apart-maps ls al.ordered)
      (subst (λ z. AreApartFrom z (step_maps ls)) (ranges-are (step_maps es) ma ∙ ap ranges_back (sym b.maps_are)) a.apart) in
      let w = both-ways bs ls mid.tokens b.ordered al.ordered b.within al.within g in
      let live = each-behind front (items_from (meaning_by schema_of) rules before (event ++ later)) (names_of event)
      (subst (λ xs. Each (λ n. NoRangeUndoes (Some n) xs) (names_of event)) are alive) in
      let c = all-counts items later last serial tidy.names_differ event before mid front v h.own a.event_splices h.event_applies (apart-maps ls al.ordered) h.later_apply are tidy.differ live
      (turned (step_maps bs) (step_maps ls) (apart-maps bs b.ordered) g) in
      let u = undo_event (meaning_by schema_of) rules client (names_of event) items last serial in
      let goes = c.all full in
      undo-leaves s es ls u.made before mid last u.doc (record {
        valid = v;
        event_applies = fe;
        later_apply = fl;
        undo_is = w.bs_go ∙ ap (λ xs. Some xs) (sym goes.made_is);
        undo_applies = sym (fold-same schema_of rules u.made last) ∙ goes.folds;
      }) a.event_splices a.later_splice a.apart

  -- What is, of every timeline that the items remember, the undo over the whole timeline, leaves the later steps that lie apart
  -- from the event.
  pub leaves-all : (names : List Name) (items : List (Item Step)) (last : Doc) (serial : ℕ) (w : Undone Doc Step) → IsOfWhole (meaning_by schema_of) rules client names items last serial w
      → LeavesAll schema_of rules names items last w
  leaves-all names items last serial w whole first steps event later before remembers tidy alive named h a full =
      let is = items_from (meaning_by schema_of) rules first steps in
      let e : w ≡ undo_event (meaning_by schema_of) rules client (names_of event) is last serial =
      whole first steps remembers ∙ ap (λ ns. undo_event (meaning_by schema_of) rules client ns is last serial) named in
      over-whole first steps event later before last serial (subst (IsTidy is) named tidy) (subst (λ ns. Each (λ n. NoRangeUndoes (Some n) is) ns) named alive) h a (sym (ap (λ z. length z.made) e) ∙ full)
      ∙ ap (λ z. Some z.doc.tokens) (sym e)
