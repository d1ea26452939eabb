-- Lemmas: a history from which items were dropped goes on standing for its timeline when the pending steps are rebased.
use Rattle.std.specs.Prelude.{◌≡◌, ℕ, ◌≤◌, true, false, List, [], ◌∷◌, ◌++◌, length, Some, refl}
use Rattle.std.specs.List.{AllByRecursion as Each}
use Rattle.std.proofs.Common.{sym, ap, subst, ◌∙◌, length-append, arith}
use Rattle.pm_change.specs.declared.name.Name.{Name}
use Rattle.pm_change.specs.Changes.{Meaning, fold}
use Rattle.pm_change.proofs.Folds.{fold-append}
use Rattle.pm_history.specs.declared.item.Item.{Item}
use Rattle.pm_history.specs.declared.branches.Branches.{Branches}
use Rattle.pm_history.specs.Histories.{last_items, rebased}
use Rattle.pm_history.specs.Timelines.{Step, changes_of, items_from}
use Rattle.pm_history.specs.Tidy.{NamesDiffer}
use Rattle.pm_history.specs.Tied.{all_tied}
use Rattle.pm_history.specs.Remembers.{live_names, Lacks, StandFor, Remembers}
use Rattle.pm_history.specs.Standing.{IsHistoryOf}
use Rattle.pm_history.specs.Trims.{trimmed}
use Rattle.pm_history.proofs.Folding.{changes-append, items-append}
use Rattle.pm_history.proofs.Rebased.{KeptOf, maps_of, items-length, stand-length, stand-both, stand-same, comes-steps, seam, history-rebased}
use Rattle.pm_history.proofs.Thins.{ComesFrom, nothing, lost, foreign, held, differ-from}
use Rattle.pm_history.proofs.TiedLaws.{TiedBy, differ-after, history-ties}
use Rattle.pm_history.proofs.Trimmings.{history-trimmed}
use Rattle.pm_history.proofs.Whole.{rebased-fewer}

lacks-none : (C : Type 0) (ns : List Name) → Each (Lacks {C = C} []) ns
lacks-none C [] = tt
lacks-none C (n ∷ ns) = (tt, lacks-none C ns)

module _ {C : Type 0} where
  -- items that stand for others have their names and ties
  stand-comes : (live : List Name) (is js : List (Item C)) → StandFor live is js → ComesFrom js is
  stand-comes live [] [] h = nothing
  stand-comes live [] (j ∷ js) h = absurd h
  stand-comes live (i ∷ is) [] h = absurd h
  stand-comes live (i ∷ is) (j ∷ js) h = held j i js is h.0.name_is h.0.undoes_is (λ e. h.0.map_is ∙ e) (stand-comes live is js h.1)

  -- so what comes from those comes from these
  comes-stand : (live : List Name) (js ks : List (Item C)) → ComesFrom js ks → (is : List (Item C)) → StandFor live is js → ComesFrom is ks
  comes-stand live js ks nothing [] h = nothing
  comes-stand live js ks nothing (i ∷ is) h = absurd h
  comes-stand live js ks (lost j js' ks' c) [] h = absurd h
  comes-stand live js ks (lost j js' ks' c) (i ∷ is) h = lost i is ks' (comes-stand live js' ks' c is h.1)
  comes-stand live js ks (foreign k js' ks' n u c) is h = foreign k is ks' n u (comes-stand live js' ks' c is h)
  comes-stand live js ks (held j k js' ks' n u r c) [] h = absurd h
  comes-stand live js ks (held j k js' ks' n u r c) (i ∷ is) h =
      held i k is ks' (n ∙ sym h.0.name_is) (u ∙ sym h.0.undoes_is) (λ e. r (sym h.0.map_is ∙ e)) (comes-stand live js' ks' c is h.1)

module _ {Rules Doc Reason C : Type 0} (m : Meaning Rules Doc Reason C) (rules : Rules) where
  -- all items of the timeline: those that were dropped, and those that are left
  abbrev pub all_items : (first : Doc) (steps : List (Step C)) (live : List Name) (items : List (Item C)) → Remembers m rules live first steps items → List (Item C)
  all_items first steps live items R = items_from m rules first R.gone ++ items

  abbrev pub all_of : (client drawn : ℕ) (first : Doc) (steps : List (Step C)) (h : Branches C) → IsHistoryOf m rules client drawn first steps h → Branches C
  all_of client drawn first steps h k = record h { items = all_items first steps (live_names h) h.items k.remembers }

  -- the history with all items stands for the timeline
  history-all : (client drawn : ℕ) (first : Doc) (steps : List (Step C)) (h : Branches C) (k : IsHistoryOf m rules client drawn first steps h)
      → IsHistoryOf m rules client drawn first steps (all_of client drawn first steps h k)
  history-all client drawn first steps h k =
      let R = k.remembers in
      let live = live_names h in
      let front = items_from m rules first R.gone in
      let whole : items_from m rules first steps ≡ front ++ items_from m rules R.mid R.kept =
      ap (λ ss. items_from m rules first ss) R.steps_are ∙ items-append m rules first R.mid R.gone R.kept R.reaches in
      record {
        remembers = record {
          gone = [];
          kept = steps;
          mid = first;
          steps_are = refl;
          reaches = refl;
          stand = subst (StandFor live (front ++ h.items)) (sym whole) (stand-both live front front h.items (items_from m rules R.mid R.kept) (stand-same live front) R.stand);
          lacks = lacks-none C live;
        };
        tidy = k.tidy;
        live = k.live;
        stand = k.stand;
        drawn_are = k.drawn_are;
      }

  -- there is one for each step
  all-length : (client drawn : ℕ) (first end : Doc) (steps : List (Step C)) (h : Branches C) (k : IsHistoryOf m rules client drawn first steps h) → fold m rules first (changes_of steps) ≡ Some end
      → length (all_items first steps (live_names h) h.items k.remembers) ≡ length steps
  unfolding history-all
  all-length client drawn first end steps h k e =
      let all = history-all client drawn first steps h k in
      stand-length (live_names h) (all_items first steps (live_names h) h.items k.remembers) (items_from m rules first steps) all.remembers.stand ∙ items-length m rules first end steps e

  -- the names of the items that are left differ, as those of the timeline's do
  pub kept-differ : (live : List Name) (first : Doc) (steps : List (Step C)) (items : List (Item C)) → Remembers m rules live first steps items
      → NamesDiffer (items_from m rules first steps) → NamesDiffer items
  kept-differ live first steps items R d =
      let kept = items_from m rules R.mid R.kept in
      let whole : items_from m rules first steps ≡ items_from m rules first R.gone ++ kept =
      ap (λ ss. items_from m rules first ss) R.steps_are ∙ items-append m rules first R.mid R.gone R.kept R.reaches in
      differ-from kept items (stand-comes live items kept R.stand) (differ-after m rules (items_from m rules first R.gone) kept (subst NamesDiffer whole d))

  pub both-fold : (first base end : Doc) (A G : List (Step C)) → fold m rules first (changes_of A) ≡ Some base → fold m rules base (changes_of G) ≡ Some end → fold m rules first (changes_of (A ++ G)) ≡ Some end
  both-fold first base end A G eA eG = ap (fold m rules first) (changes-append A G) ∙ fold-append m rules first base (changes_of A) (changes_of G) eA ∙ eG

  all-enough : (client drawn : ℕ) (first base end : Doc) (A G : List (Step C)) (h : Branches C) (k : IsHistoryOf m rules client drawn first (A ++ G) h)
      → fold m rules first (changes_of A) ≡ Some base → fold m rules base (changes_of G) ≡ Some end
      → length G ≤ length (all_items first (A ++ G) (live_names h) h.items k.remembers)
  all-enough client drawn first base end A G h k eA eG =
      let n = all-length client drawn first end (A ++ G) h k (both-fold first base end A G eA eG) in
      omega (arith, n, length-append A G)

  -- the last of all items say what the last steps undo
  pub all-ties : (client drawn : ℕ) (first base end : Doc) (A G : List (Step C)) (h : Branches C) (k : IsHistoryOf m rules client drawn first (A ++ G) h)
      → fold m rules first (changes_of A) ≡ Some base → fold m rules base (changes_of G) ≡ Some end → Each (λ g. g.own ≡ true) G
      → TiedBy (last_items (length G) (all_items first (A ++ G) (live_names h) h.items k.remembers)) G
  all-ties client drawn first base end A G h k eA eG own =
      history-ties m rules client drawn first base end A G (all_of client drawn first (A ++ G) h k) (history-all client drawn first (A ++ G) h k) eA eG
      (all-enough client drawn first base end A G h k eA eG) own

  -- The last steps are rebased over foreign ones, whether their items were dropped or not, and the history is trimmed.
  pub history-carried : (client drawn : ℕ) (first base end mid doc : Doc) (A G F K : List (Step C)) (h : Branches C) (k : IsHistoryOf m rules client drawn first (A ++ G) h)
      → fold m rules first (changes_of A) ≡ Some base → fold m rules base (changes_of G) ≡ Some end → Each (λ s. s.own ≡ false) F → fold m rules base (changes_of F) ≡ Some mid
      → fold m rules mid (changes_of K) ≡ Some doc → KeptOf m G K → (xs : List (Item C))
      → all_tied (last_items (length G) (all_items first (A ++ G) (live_names h) h.items k.remembers)) xs ≡ items_from m rules mid K
      → IsHistoryOf m rules client drawn first (A ++ (F ++ K)) (trimmed (rebased h (length G) (maps_of m F) (all_tied (last_items (length G) h.items) xs)))
  history-carried client drawn first base end mid doc A G F K h k eA eG hF eF eK c xs are =
      let R = k.remembers in
      let live = live_names h in
      let front = items_from m rules first R.gone in
      let all = front ++ h.items in
      let h2 : Branches C = record h { items = all } in
      let k2 = history-all client drawn first (A ++ G) h k in
      let enough = all-enough client drawn first base end A G h k eA eG in
      let IK = items_from m rules mid K in
      let z = seam m rules client drawn first base end A G h2 k2 eA eG enough in
      let whole = last_items (length G) all in
      let IG = items_from m rules base G in
      let differ : NamesDiffer whole = differ-from IG whole (stand-comes live whole IG z.last_stand)
      (differ-after m rules (items_from m rules first A) IG (subst NamesDiffer (items-append m rules first base A G eA) k.tidy.names_differ)) in
      let comes : ComesFrom whole IK = comes-stand live IG IK (comes-steps m rules base end mid doc G K c eG eK) whole z.last_stand in
      let after = history-rebased m rules client drawn first base end mid doc A G F K h2 k2 eA eG hF eF eK c enough in
      let e : fold m rules first (changes_of (A ++ (F ++ K))) ≡ Some doc = both-fold first base doc A (F ++ K) eA (both-fold base mid doc F K eF eK) in
      let done = history-trimmed m rules client drawn first doc (A ++ (F ++ K)) (rebased h2 (length G) (maps_of m F) IK) e after in
      subst (IsHistoryOf m rules client drawn first (A ++ (F ++ K)))
      (rebased-fewer h front (length G) (maps_of m F) xs R.lacks differ (subst (ComesFrom whole) (sym are) comes))
      (subst (λ is. IsHistoryOf m rules client drawn first (A ++ (F ++ K)) (trimmed (rebased h2 (length G) (maps_of m F) is))) (sym are) done)
