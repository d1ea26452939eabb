-- Lemmas: a history goes on standing for its timeline when the pending steps are rebased.
use Rattle.std.specs.Prelude.{◌≡◌, ℕ, zero, suc, ◌+◌, ◌-◌, ◌≤◌, ◌&&◌, ◌||◌, not, Bool, true, false, if◌then◌else◌, List, [], ◌∷◌, ◌++◌, length, take, drop, map, Some, Ok, refl}
use Rattle.std.specs.List.{AllByRecursion as Each}
use Rattle.std.proofs.Common.{sym, ap, subst, ◌∙◌, inl, append_assoc, length-append, arith}
use Rattle.std.proofs.lemmas.Bool.{true≢false}
use Rattle.std.proofs.lemmas.List.{take_at, drop_at}
use Rattle.pm_change.specs.declared.name.Name.{Name}
use Rattle.pm_map.specs.declared.step_map.Span.{Span}
use Rattle.pm_map.specs.Fits.{new_size_of}
use Rattle.pm_change.specs.Changes.{Meaning, fold}
use Rattle.pm_change.proofs.Folds.{fold-cons, fold-append}
use Rattle.pm_history.specs.declared.item.Item.{Item}
use Rattle.pm_history.specs.declared.branches.Branches.{Branches}
use Rattle.pm_history.specs.Items.{one_step, foreign_item}
use Rattle.pm_history.specs.Histories.{holds, is_dropped, still_named, foreign_items, last_items, rebased}
use Rattle.pm_history.specs.Timelines.{Step, changes_of, item_at, next_items, items_from}
use Rattle.pm_history.specs.Tidy.{NoneUndoes, IsTidy}
use Rattle.pm_history.specs.Remembers.{live_names, Lacks, StandFor, Remembers}
use Rattle.pm_history.specs.Standing.{HasDrawn, IsHistoryOf}
use Rattle.pm_history.proofs.Folding.{changes-append, items-append, own-at}
use Rattle.pm_history.proofs.Grows.{stands-fewer, kept-fold}
use Rattle.pm_history.proofs.Thins.{ComesFrom, nothing, lost, foreign, held, comes-same, tidy-from, live-from, drawn-from, still-each, rebased-names}

module _ {C : Type 0} where
  still-map : (P Q : Name → Type 0) (gone kept : List (Item C)) (ns : List Name) → ((n : Name) → is_dropped gone kept n ≡ false → P n → Q n) → Each P ns → Each Q (still_named gone kept ns)
  still-map P Q gone kept [] f h = tt
  still-map P Q gone kept (n ∷ ns) f h = from (is_dropped gone kept n) refl (still-map P Q gone kept ns f h.1)
    where
      from : (t : Bool) → is_dropped gone kept n ≡ t → Each Q (still_named gone kept ns) → Each Q (if t then still_named gone kept ns else n ∷ still_named gone kept ns)
      from true e k = k
      from false e k = (f n e h.0, k)

  pub stand-length : (live : List Name) (is js : List (Item C)) → StandFor live is js → length is ≡ length js
  stand-length live [] [] h = refl
  stand-length live [] (j ∷ js) h = absurd h
  stand-length live (i ∷ is) [] h = absurd h
  stand-length live (i ∷ is) (j ∷ js) h = ap suc (stand-length live is js h.1)

  stand-take : (live : List Name) (k : ℕ) (is js : List (Item C)) → StandFor live is js → StandFor live (take k is) (take k js)
  stand-take live zero is js h = tt
  stand-take live (suc k) [] [] h = tt
  stand-take live (suc k) [] (j ∷ js) h = absurd h
  stand-take live (suc k) (i ∷ is) [] h = absurd h
  stand-take live (suc k) (i ∷ is) (j ∷ js) h = (h.0, stand-take live k is js h.1)

  stand-drop : (live : List Name) (k : ℕ) (is js : List (Item C)) → StandFor live is js → StandFor live (drop k is) (drop k js)
  stand-drop live zero is js h = h
  stand-drop live (suc k) [] [] h = tt
  stand-drop live (suc k) [] (j ∷ js) h = absurd h
  stand-drop live (suc k) (i ∷ is) [] h = absurd h
  stand-drop live (suc k) (i ∷ is) (j ∷ js) h = stand-drop live k is js h.1

  pub stand-both : (live : List Name) (is js xs ys : List (Item C)) → StandFor live is js → StandFor live xs ys → StandFor live (is ++ xs) (js ++ ys)
  stand-both live [] [] xs ys h k = k
  stand-both live [] (j ∷ js) xs ys h k = absurd h
  stand-both live (i ∷ is) [] xs ys h k = absurd h
  stand-both live (i ∷ is) (j ∷ js) xs ys h k = (h.0, stand-both live is js xs ys h.1 k)

  pub stand-same : (live : List Name) (is : List (Item C)) → StandFor live is is
  stand-same live [] = tt
  stand-same live (i ∷ is) = (record { name_is = refl; map_is = refl; undoes_is = refl; inverse_is = inl refl }, stand-same live is)

  stand-holds : (live : List Name) (n : Name) (is js : List (Item C)) → StandFor live is js → holds n is ≡ holds n js
  stand-holds live n [] [] h = refl
  stand-holds live n [] (j ∷ js) h = absurd h
  stand-holds live n (i ∷ is) [] h = absurd h
  stand-holds live n (i ∷ is) (j ∷ js) h =
      ap (λ o. one_step (Some n) o || holds n is) h.0.name_is ∙ ap (λ t. one_step (Some n) j.name || t) (stand-holds live n is js h.1)

  pub holds-both : (n : Name) (xs ys : List (Item C)) → holds n (xs ++ ys) ≡ (holds n xs || holds n ys)
  holds-both n [] ys = refl
  holds-both n (x ∷ xs) ys = ap (λ t. one_step (Some n) x.name || t) (holds-both n xs ys) ∙ or-assoc (one_step (Some n) x.name) (holds n xs) (holds n ys)
    where
      or-assoc : (a b c : Bool) → (a || (b || c)) ≡ ((a || b) || c)
      or-assoc true b c = refl
      or-assoc false b c = refl

  comes-foreign : (xs ys : List (Item C)) (maps : List (List Span)) → ComesFrom xs ys → ComesFrom xs (foreign_items maps ++ ys)
  comes-foreign xs ys [] c = c
  comes-foreign xs ys (map ∷ maps) c = foreign (foreign_item map) xs (foreign_items maps ++ ys) refl refl (comes-foreign xs ys maps c)

split-kept : {X : Type 0} (gone kept A G : List X) → gone ++ kept ≡ A ++ G → length G ≤ length kept → (front : List X) × (kept ≡ front ++ G) × (A ≡ gone ++ front)
split-kept [] kept A G e l = (A, e, refl)
split-kept (x ∷ gone) kept [] G e l =
    let n : length (x ∷ (gone ++ kept)) ≡ length G = ap length e in
    let k = length-append gone kept in
    absurd (omega (arith, n, k, l))
split-kept (x ∷ gone) kept (a ∷ A) G e l =
    let t : gone ++ kept ≡ A ++ G = cc in
    let h : x ≡ a = cc in
    let s = split-kept gone kept A G t l in
    (s.0, s.1, ap (λ y. y ∷ A) (sym h) ∙ ap (λ ys. x ∷ ys) s.2)

pub no-range : (xs ys : List Span) → map new_size_of xs ≡ map new_size_of ys → ys ≡ [] → xs ≡ []
no-range [] ys e z = refl
no-range (x ∷ xs) [] e z = absurd (cc)
no-range (x ∷ xs) (y ∷ ys) e z = absurd (cc)

module _ {Rules Doc Reason C : Type 0} (m : Meaning Rules Doc Reason C) where
  -- The second step is the first one rebased: it has that one's name and tie, and as a carried change its ranges put in as
  -- much.
  pub record Rebases (g k : Step C) : Type 0 where
    pub name_is : k.name ≡ g.name
    pub was_own : g.own ≡ true
    pub own : k.own ≡ true
    pub undoes_is : k.undoes ≡ g.undoes
    pub sizes_are : map new_size_of (m.step_map k.change) ≡ map new_size_of (m.step_map g.change)

  -- The second steps are the first ones, of which some were dropped and the others rebased.
  pub data KeptOf : List (Step C) → List (Step C) → Type 0 where
    none : KeptOf [] []
    dropped : (g : Step C) (gs ks : List (Step C)) → KeptOf gs ks → KeptOf (g ∷ gs) ks
    kept : (g k : Step C) (gs ks : List (Step C)) → Rebases g k → KeptOf gs ks → KeptOf (g ∷ gs) (k ∷ ks)

  abbrev pub maps_of : List (Step C) → List (List Span)
  maps_of [] = []
  maps_of (s ∷ ss) = m.step_map s.change ∷ maps_of ss

module _ {Rules Doc Reason C : Type 0} (m : Meaning Rules Doc Reason C) (rules : Rules) where
  pub items-cons : (doc next : Doc) (s : Step C) (ss : List (Step C)) → m.outcome rules s.change doc ≡ Ok next → items_from m rules doc (s ∷ ss) ≡ item_at m rules doc s ∷ items_from m rules next ss
  items-cons doc next s ss e = ap (λ r. item_at m rules doc s ∷ next_items m rules r (λ d. items_from m rules d ss)) e

  pub items-length : (doc end : Doc) (ss : List (Step C)) → fold m rules doc (changes_of ss) ≡ Some end → length (items_from m rules doc ss) ≡ length ss
  items-length doc end [] e = refl
  items-length doc end (s ∷ ss) e =
      let f = fold-cons m rules doc end s.change (changes_of ss) e in
      ap length (items-cons doc f.0 s ss f.1) ∙ ap suc (items-length f.0 end ss f.2)

  foreign-are : (doc end : Doc) (ss : List (Step C)) → Each (λ s. s.own ≡ false) ss → fold m rules doc (changes_of ss) ≡ Some end → items_from m rules doc ss ≡ foreign_items (maps_of m ss)
  foreign-are doc end [] h e = refl
  foreign-are doc end (s ∷ ss) h e =
      let f = fold-cons m rules doc end s.change (changes_of ss) e in
      items-cons doc f.0 s ss f.1 ∙ ap (λ i. i ∷ items_from m rules f.0 ss) (foreign-at doc s h.0) ∙ ap (λ is. foreign_item (m.step_map s.change) ∷ is) (foreign-are f.0 end ss h.1 f.2)
    where
      foreign-at : (doc : Doc) (s : Step C) → s.own ≡ false → item_at m rules doc s ≡ foreign_item (m.step_map s.change)
      foreign-at doc s e = rw e refl

  pub comes-steps : (doc end mid last : Doc) (gs ks : List (Step C)) → KeptOf m gs ks → fold m rules doc (changes_of gs) ≡ Some end → fold m rules mid (changes_of ks) ≡ Some last
      → ComesFrom (items_from m rules doc gs) (items_from m rules mid ks)
  comes-steps doc end mid last gs ks none e f = nothing
  comes-steps doc end mid last gs ks (dropped g gs' ks' c) e f =
      let x = fold-cons m rules doc end g.change (changes_of gs') e in
      subst (λ is. ComesFrom is (items_from m rules mid ks')) (sym (items-cons doc x.0 g gs' x.1))
      (lost (item_at m rules doc g) (items_from m rules x.0 gs') (items_from m rules mid ks') (comes-steps x.0 end mid last gs' ks' c x.2 f))
  comes-steps doc end mid last gs ks (kept g k gs' ks' r c) e f =
      let x = fold-cons m rules doc end g.change (changes_of gs') e in
      let y = fold-cons m rules mid last k.change (changes_of ks') f in
      let a = own-at m rules doc g r.was_own in
      let b = own-at m rules mid k r.own in
      let i = item_at m rules doc g in
      let j = item_at m rules mid k in
      let named : j.name ≡ i.name = ap (λ (z : Item C). z.name) b ∙ ap (λ z. Some z) r.name_is ∙ sym (ap (λ (z : Item C). z.name) a) in
      let tied : j.undoes ≡ i.undoes = ap (λ (z : Item C). z.undoes) b ∙ r.undoes_is ∙ sym (ap (λ (z : Item C). z.undoes) a) in
      let ranged : i.map ≡ [] → j.map ≡ [] = λ z. ap (λ (y : Item C). y.map) b ∙ no-range (m.step_map k.change) (m.step_map g.change) r.sizes_are (sym (ap (λ (y : Item C). y.map) a) ∙ z) in
      subst (λ is. ComesFrom is (items_from m rules mid (k ∷ ks'))) (sym (items-cons doc x.0 g gs' x.1))
      (subst (λ js. ComesFrom (i ∷ items_from m rules x.0 gs') js) (sym (items-cons mid y.0 k ks' y.1))
      (held i j (items_from m rules x.0 gs') (items_from m rules y.0 ks') named tied ranged (comes-steps x.0 end y.0 last gs' ks' c x.2 y.2)))

  -- Where the last steps G of a timeline begin, among its items.
  pub record Seam (live : List Name) (mid base : Doc) (gone kept A G : List (Step C)) (items : List (Item C)) : Type 0 where
    pub front : List (Step C)
    pub kept_is : kept ≡ front ++ G
    pub before_is : A ≡ gone ++ front
    pub reaches : fold m rules mid (changes_of front) ≡ Some base
    pub first_stand : StandFor live (take (length items - length G) items) (items_from m rules mid front)
    pub last_stand : StandFor live (last_items (length G) items) (items_from m rules base G)

  -- no item of theirs has been dropped
  pub seam : (client drawn : ℕ) (first base end : Doc) (A G : List (Step C)) (h : Branches C) (k : IsHistoryOf m rules client drawn first (A ++ G) h)
      → fold m rules first (changes_of A) ≡ Some base → fold m rules base (changes_of G) ≡ Some end → length G ≤ length h.items
      → Seam (live_names h) k.remembers.mid base k.remembers.gone k.remembers.kept A G h.items
  seam client drawn first base end A G h k eA eG l =
      let R = k.remembers in
      let live = live_names h in
      let IG = items_from m rules base G in
      let at : ℕ = length h.items - length G in
      let eAll : fold m rules first (changes_of (A ++ G)) ≡ Some end = ap (fold m rules first) (changes-append A G) ∙ fold-append m rules first base (changes_of A) (changes_of G) eA ∙ eG in
      let eKept = kept-fold m rules live first end (A ++ G) h.items R eAll in
      let all : length h.items ≡ length R.kept = stand-length live h.items (items_from m rules R.mid R.kept) R.stand ∙ items-length R.mid end R.kept eKept in
      let split = split-kept R.gone R.kept A G (sym R.steps_are) (omega (arith, all, l)) in
      let front = split.0 in
      let eFront : fold m rules R.mid (changes_of front) ≡ Some base =
      sym (ap (λ ss. fold m rules first (changes_of ss)) split.2 ∙ ap (fold m rules first) (changes-append R.gone front)
      ∙ fold-append m rules first R.mid (changes_of R.gone) (changes_of front) R.reaches) ∙ eA in
      let I1 = items_from m rules R.mid front in
      let whole : items_from m rules R.mid R.kept ≡ I1 ++ IG = ap (λ ss. items_from m rules R.mid ss) split.1 ∙ items-append m rules R.mid base front G eFront in
      let stands : StandFor live h.items (I1 ++ IG) = subst (StandFor live h.items) whole R.stand in
      let n1 : length I1 ≡ length front = items-length R.mid base front eFront in
      let n2 : length R.kept ≡ length front + length G = ap length split.1 ∙ length-append front G in
      let n : length I1 ≡ at = omega (arith, n1, n2, all) in
      record {
        front = front;
        kept_is = split.1;
        before_is = split.2;
        reaches = eFront;
        first_stand = subst (StandFor live (take at h.items)) (take_at I1 IG at n) (stand-take live at h.items (I1 ++ IG) stands);
        last_stand = subst (StandFor live (last_items (length G) h.items)) (drop_at I1 IG at n) (stand-drop live at h.items (I1 ++ IG) stands);
      }

  -- The last steps are rebased over foreign ones. No item of theirs has been dropped.
  pub history-rebased : (client drawn : ℕ) (first base end mid doc : Doc) (A G F K : List (Step C)) (h : Branches C) → IsHistoryOf m rules client drawn first (A ++ G) h
      → fold m rules first (changes_of A) ≡ Some base → fold m rules base (changes_of G) ≡ Some end → Each (λ s. s.own ≡ false) F → fold m rules base (changes_of F) ≡ Some mid
      → fold m rules mid (changes_of K) ≡ Some doc → KeptOf m G K → length G ≤ length h.items
      → IsHistoryOf m rules client drawn first (A ++ (F ++ K)) (rebased h (length G) (maps_of m F) (items_from m rules mid K))
  history-rebased client drawn first base end mid doc A G F K h k eA eG hF eF eK c l =
      let R = k.remembers in
      let live = live_names h in
      let IA = items_from m rules first A in
      let IG = items_from m rules base G in
      let IF : List (Item C) = foreign_items (maps_of m F) in
      let IK = items_from m rules mid K in
      let at : ℕ = length h.items - length G in
      let gone = last_items (length G) h.items in
      let left = still_named gone IK live in
      let old : items_from m rules first (A ++ G) ≡ IA ++ IG = items-append m rules first base A G eA in
      let tail : items_from m rules base (F ++ K) ≡ IF ++ IK = items-append m rules base mid F K eF ∙ ap (λ is. is ++ IK) (foreign-are base mid F hF eF) in
      let new : items_from m rules first (A ++ (F ++ K)) ≡ IA ++ (IF ++ IK) = items-append m rules first base A (F ++ K) eA ∙ ap (λ is. IA ++ is) tail in
      let from : ComesFrom (IA ++ IG) (IA ++ (IF ++ IK)) = comes-same IA IG (IF ++ IK) (comes-foreign IG IK (maps_of m F) (comes-steps base end mid doc G K c eG eK)) in
      let names : live_names (rebased h (length G) (maps_of m F) IK) ≡ left = rebased-names h (length G) (maps_of m F) IK in
      let z = seam client drawn first base end A G h k eA eG l in
      let front = z.front in
      let I1 = items_from m rules R.mid front in
      record {
        remembers = subst (λ ns. Remembers m rules ns first (A ++ (F ++ K)) (take at h.items ++ (IF ++ IK))) (sym names) (record {
          gone = R.gone;
          kept = front ++ (F ++ K);
          mid = R.mid;
          steps_are = ap (λ ss. ss ++ (F ++ K)) z.before_is ∙ append_assoc R.gone front (F ++ K);
          reaches = R.reaches;
          stand = subst (StandFor left (take at h.items ++ (IF ++ IK))) (sym (items-append m rules R.mid base front (F ++ K) z.reaches ∙ ap (λ is. I1 ++ is) tail))
              (stand-both left (take at h.items) I1 (IF ++ IK) (IF ++ IK) (stands-fewer live left (take at h.items) I1 (λ P x. still-each P gone IK live x) z.first_stand) (stand-same left (IF ++ IK)));
          lacks = still-each (Lacks (items_from m rules first R.gone)) gone IK live R.lacks;
        });
        tidy = subst (λ ns. IsTidy (items_from m rules first (A ++ (F ++ K))) ns) (sym names) (subst (λ is. IsTidy is left) (sym new)
            (tidy-from (IA ++ IG) (IA ++ (IF ++ IK)) gone IK live from (subst (λ is. IsTidy is live) old k.tidy)));
        live = subst (λ ns. Each (λ n. NoneUndoes n (items_from m rules first (A ++ (F ++ K)))) ns) (sym names) (subst (λ is. Each (λ n. NoneUndoes n is) left) (sym new)
            (live-from (IA ++ IG) (IA ++ (IF ++ IK)) gone IK live from (subst (λ is. Each (λ n. NoneUndoes n is) live) old k.live)));
        stand = subst (λ ns. Each (λ x. holds x (items_from m rules first (A ++ (F ++ K))) ≡ true) ns) (sym names) (subst (λ is. Each (λ x. holds x is ≡ true) left) (sym new)
            (still-map (λ x. holds x (IA ++ IG) ≡ true) (λ x. holds x (IA ++ (IF ++ IK)) ≡ true) gone IK live
            (λ x d p. (holds-both x IA (IF ++ IK) ∙ ap (λ t. holds x IA || t) (holds-both x IF IK))
            ∙ keeps (holds x IA) (holds x IG) (holds x IF) (holds x IK) (sym (holds-both x IA IG) ∙ p) (ap (λ t. t && not (holds x IK)) (sym (stand-holds live x gone IG z.last_stand)) ∙ d))
            (subst (λ is. Each (λ x. holds x is ≡ true) live) old k.stand)));
        drawn_are = subst (λ is. Each (HasDrawn client drawn) is) (sym new) (drawn-from client drawn (IA ++ IG) (IA ++ (IF ++ IK)) from (subst (λ is. Each (HasDrawn client drawn) is) old k.drawn_are));
      }
    where
      keeps : (a g f k : Bool) → (a || g) ≡ true → (g && not k) ≡ false → (a || (f || k)) ≡ true
      keeps true g f k h d = refl
      keeps false true true k h d = refl
      keeps false true false true h d = refl
      keeps false true false false h d = absurd (true≢false d)
      keeps false false f k h d = absurd (true≢false (sym h))
