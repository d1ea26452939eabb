-- Lemmas: a history that has let items go is rebased as one that has them all, once both are trimmed.
use Rattle.std.specs.Prelude.{◌≡◌, ℕ, zero, suc, ◌-◌, ◌≤◌, ◌⊎◌, ◌&&◌, ◌||◌, not, true, false, if◌then◌else◌, nat_lt, List, [], ◌∷◌, ◌++◌, length, take, drop, map, Option, Some, None, refl}
use Rattle.std.specs.List.{AllByRecursion as Each}
use Rattle.std.proofs.Common.{sym, ap, subst, ◌∙◌, inl, inr, arith, length-append, append_assoc}
use Rattle.std.proofs.lemmas.Bool.{ltb-true, ltb-false}
use Rattle.std.proofs.lemmas.List.{drop_all, map-append}
use Rattle.pm_change.specs.declared.name.Name.{Name}
use Rattle.pm_map.specs.declared.step_map.Span.{Span}
use Rattle.pm_history.specs.declared.item.Item.{Item}
use Rattle.pm_history.specs.declared.branch.Event.{Event}
use Rattle.pm_history.specs.declared.branches.Branches.{Branches}
use Rattle.pm_history.specs.Items.{one_step}
use Rattle.pm_history.specs.Histories.{event_of, holds, is_dropped, still_named, without_dropped, foreign_items, last_items, rebased}
use Rattle.pm_history.specs.Remembers.{names_of, live_names, Lacks}
use Rattle.pm_history.specs.Starts.{is_named, start_of}
use Rattle.pm_history.specs.Tidy.{NotNamed, NamesDiffer}
use Rattle.pm_history.specs.Tied.{undoes_of, tied_as, all_tied}
use Rattle.pm_history.specs.Trims.{from_first_live, thinned, trimmed_items, trimmed}
use Rattle.pm_history.proofs.Grows.{each-front, each-back}
use Rattle.pm_history.proofs.Rebased.{holds-both}
use Rattle.pm_history.proofs.Thins.{ComesFrom, nothing, lost, foreign, held, lacks-from, still-each, rebased-names}
use Rattle.pm_history.proofs.Ties.{each-map}
use Rattle.pm_history.proofs.Trimmings.{named_none}
use Rattle.pm_history.proofs.Turned.{same-flip, each-both}

le-or : (a b : ℕ) → (a ≤ b) ⊎ (b ≤ a)
le-or a b = elim (nat_lt a b) as (λ t. nat_lt a b ≡ t → (a ≤ b) ⊎ (b ≤ a)) [ true ↦ λ e. inl (omega (arith, ltb-true a b e)) | false ↦ λ e. inr (omega (arith, ltb-false a b e)) ] refl

module _ {A : Type 0} where
  drop-both : (k : ℕ) (xs ys : List A) → drop k (xs ++ ys) ≡ drop k xs ++ drop (k - length xs) ys
  drop-both zero xs ys = ap (λ n. xs ++ drop n ys) (none (length xs))
    where
      none : (n : ℕ) → 0 ≡ 0 - n
      none n = omega arith
  drop-both (suc k) [] ys = ap (λ n. drop n ys) (all (suc k))
    where
      all : (n : ℕ) → n ≡ n - 0
      all n = omega arith
  drop-both (suc k) (x ∷ xs) ys = drop-both k xs ys ∙ ap (λ n. drop k xs ++ drop n ys) (both k (length xs))
    where
      both : (k n : ℕ) → k - n ≡ suc k - suc n
      both k n = omega arith

  take-both : (k : ℕ) (xs ys : List A) → take k (xs ++ ys) ≡ take k xs ++ take (k - length xs) ys
  take-both zero xs ys = ap (λ n. take n ys) (none (length xs))
    where
      none : (n : ℕ) → 0 ≡ 0 - n
      none n = omega arith
  take-both (suc k) [] ys = ap (λ n. take n ys) (all (suc k))
    where
      all : (n : ℕ) → n ≡ n - 0
      all n = omega arith
  take-both (suc k) (x ∷ xs) ys = ap (λ zs. x ∷ zs) (take-both k xs ys ∙ ap (λ n. take k xs ++ take n ys) (both k (length xs)))
    where
      both : (k n : ℕ) → k - n ≡ suc k - suc n
      both k n = omega arith

  each-take : (P : A → Type 0) (k : ℕ) (xs : List A) → Each P xs → Each P (take k xs)
  each-take P zero xs h = tt
  each-take P (suc k) [] h = tt
  each-take P (suc k) (x ∷ xs) h = (h.0, each-take P k xs h.1)

  each-drop : (P : A → Type 0) (k : ℕ) (xs : List A) → Each P xs → Each P (drop k xs)
  each-drop P zero xs h = h
  each-drop P (suc k) [] h = h
  each-drop P (suc k) (x ∷ xs) h = each-drop P k xs h.1

each-not : (live : List Name) (o : Option Name) → Each (λ n. one_step (Some n) o ≡ false) live → is_named live o ≡ false
each-not [] o h = refl
each-not (n ∷ ns) o h = ap (λ t. t || is_named ns o) h.0 ∙ each-not ns o h.1

foreign-dead : (C : Type 0) (live : List Name) (maps : List (List Span)) → Each (λ (i : Item C). is_named live i.name ≡ false) (foreign_items maps)
foreign-dead C live [] = tt
foreign-dead C live (m ∷ ms) = (named_none live, foreign-dead C live ms)

module _ {C : Type 0} where
  -- an item whose name is not among these
  abbrev IsDead : List Name → Item C → Type 0
  IsDead live i = is_named live i.name ≡ false

  -- none of these names is one of these items
  lacks-named : (live : List Name) (is : List (Item C)) → Each (Lacks is) live → Each (IsDead live) is
  lacks-named live [] h = tt
  lacks-named live (i ∷ is) h = (
    each-not live i.name (each-map (Lacks (i ∷ is)) (λ n. one_step (Some n) i.name ≡ false) live (λ n k. k.0) h),
    lacks-named live is (each-map (Lacks (i ∷ is)) (Lacks is) live (λ n k. k.1) h),
  )

  holds-not : (n : Name) (is : List (Item C)) → Lacks is n → holds n is ≡ false
  holds-not n [] h = refl
  holds-not n (i ∷ is) h = ap (λ t. t || holds n is) h.0 ∙ holds-not n is h.1

  -- dead items at the front do not matter to a trimming
  first-past : (live : List Name) (ps is : List (Item C)) → Each (IsDead live) ps → from_first_live live (ps ++ is) ≡ from_first_live live is
  first-past live [] is h = refl
  first-past live (p ∷ ps) is h =
      ap (λ t. drop (if◌then◌else◌ {A = ℕ} t 0 (suc (start_of live (ps ++ is)))) (p ∷ (ps ++ is))) h.0 ∙ first-past live ps is h.1

  trim-past : (live : List Name) (ps is : List (Item C)) → Each (IsDead live) ps → trimmed_items live (ps ++ is) ≡ trimmed_items live is
  trim-past live ps is h = ap (map (thinned live)) (first-past live ps is h)

  -- items that were tied anew keep their names
  tied-holds : (old : List (Item C)) (n : Name) (is : List (Item C)) → holds n (all_tied old is) ≡ holds n is
  tied-holds old n [] = refl
  tied-holds old n (i ∷ is) = ap (λ t. one_step (Some n) i.name || t) (tied-holds old n is)

  tied-dead : (live : List Name) (old is : List (Item C)) → Each (IsDead live) is → Each (IsDead live) (all_tied old is)
  tied-dead live old [] h = tt
  tied-dead live old (i ∷ is) h = (h.0, tied-dead live old is h.1)

  tied-twice : (old more is : List (Item C)) → all_tied old (all_tied more is) ≡ all_tied old is
  tied-twice old more [] = refl
  tied-twice old more (i ∷ is) = ap (λ js. tied_as old i ∷ js) (tied-twice old more is)

  -- what stands after the items of other names says what a step undoes
  undoes-past : (n : Name) (ps is : List (Item C)) → Lacks ps n → undoes_of (Some n) (ps ++ is) ≡ undoes_of (Some n) is
  undoes-past n [] is h = refl
  undoes-past n (p ∷ ps) is h = ap (λ t. if t then p.undoes else undoes_of (Some n) (ps ++ is)) h.0 ∙ undoes-past n ps is h.1

  undoes-none : (is : List (Item C)) → undoes_of None is ≡ None
  undoes-none [] = refl
  undoes-none (i ∷ is) = undoes-none is

  -- What comes from items in two parts falls into two parts.
  record Parts (xs ys zs : List (Item C)) : Type 0 where
    front : List (Item C)
    back : List (Item C)
    parts : zs ≡ front ++ back
    first_comes : ComesFrom xs front
    last_comes : ComesFrom ys back

  comes-parts : (all zs : List (Item C)) → ComesFrom all zs → (xs ys : List (Item C)) → all ≡ xs ++ ys → Parts xs ys zs
  comes-parts all zs nothing [] ys e =
      record { front = []; back = []; parts = refl; first_comes = nothing; last_comes = subst (λ l. ComesFrom l []) e nothing }
  comes-parts all zs nothing (x ∷ xs) ys e = absurd (cc)
  comes-parts all zs (lost a ws zs' c) [] ys e =
      record { front = []; back = zs'; parts = refl; first_comes = nothing; last_comes = subst (λ l. ComesFrom l zs') e (lost a ws zs' c) }
  comes-parts all zs (lost a ws zs' c) (x ∷ xs) ys e =
      let t : ws ≡ xs ++ ys = cc in
      let p = comes-parts ws zs' c xs ys t in
      record { front = p.front; back = p.back; parts = p.parts; first_comes = lost x xs p.front p.first_comes; last_comes = p.last_comes }
  comes-parts all zs (foreign z ws zs' n u c) [] ys e =
      record { front = []; back = z ∷ zs'; parts = refl; first_comes = nothing; last_comes = subst (λ l. ComesFrom l (z ∷ zs')) e (foreign z ws zs' n u c) }
  comes-parts all zs (foreign z ws zs' n u c) (x ∷ xs) ys e =
      let p = comes-parts ws zs' c (x ∷ xs) ys e in
      record { front = z ∷ p.front; back = p.back; parts = ap (λ is. z ∷ is) p.parts; first_comes = foreign z (x ∷ xs) p.front n u p.first_comes; last_comes = p.last_comes }
  comes-parts all zs (held a z ws zs' n u r c) [] ys e =
      record { front = []; back = z ∷ zs'; parts = refl; first_comes = nothing; last_comes = subst (λ l. ComesFrom l (z ∷ zs')) e (held a z ws zs' n u r c) }
  comes-parts all zs (held a z ws zs' n u r c) (x ∷ xs) ys e =
      let h : a ≡ x = cc in
      let t : ws ≡ xs ++ ys = cc in
      let p = comes-parts ws zs' c xs ys t in
      record {
        front = z ∷ p.front;
        back = p.back;
        parts = ap (λ is. z ∷ is) p.parts;
        first_comes = held x z xs p.front (n ∙ ap (λ (i : Item C). i.name) h) (u ∙ ap (λ (i : Item C). i.undoes) h) (λ m. r (ap (λ (i : Item C). i.map) h ∙ m)) p.first_comes;
        last_comes = p.last_comes;
      }

  -- where names differ, none of the last items has a name of the first ones
  named-each : (o : Option Name) (ds ys : List (Item C)) → NotNamed o (ds ++ ys) → Each (λ (y : Item C). (n : Name) → y.name ≡ Some n → one_step (Some n) o ≡ false) ys
  named-each o ds [] h = tt
  named-each None ds (y ∷ ys) h = ((λ n e. refl), named-each None ds ys tt)
  named-each (Some d) [] (y ∷ ys) h = ((λ n e. same-flip d n (sym (ap (one_step (Some d)) e) ∙ h.0)), named-each (Some d) [] ys h.1)
  named-each (Some d) (x ∷ ds) (y ∷ ys) h = named-each (Some d) ds (y ∷ ys) h.1

  abbrev IsApart : List (Item C) → Item C → Type 0
  IsApart ds y = (n : Name) → y.name ≡ Some n → Lacks ds n

  differ-apart : (ds ys : List (Item C)) → NamesDiffer (ds ++ ys) → Each (IsApart ds) ys
  differ-apart [] [] h = tt
  differ-apart [] (y ∷ ys) h = ((λ n e. tt), differ-apart [] ys h.1)
  differ-apart (d ∷ ds) ys h =
      each-map (λ (y : Item C). ((n : Name) → y.name ≡ Some n → one_step (Some n) d.name ≡ false) × IsApart ds y) (IsApart (d ∷ ds)) ys (λ y p n e. (p.0 n e, p.1 n e))
      (each-both (λ (y : Item C). (n : Name) → y.name ≡ Some n → one_step (Some n) d.name ≡ false) (IsApart ds) ys (named-each d.name ds ys h.0) (differ-apart ds ys h.1))

  comes-apart : (ds ys zs : List (Item C)) → ComesFrom ys zs → Each (IsApart ds) ys → Each (IsApart ds) zs
  comes-apart ds ys zs nothing h = tt
  comes-apart ds ys zs (lost x ys' zs' c) h = comes-apart ds ys' zs' c h.1
  comes-apart ds ys zs (foreign z ys' zs' e f c) h = ((λ n k. absurd (no n (sym e ∙ k))), comes-apart ds ys' zs' c h)
    where
      no : (n : Name) → None ≡ Some n → ⊥
      no n k = absurd (cc)
  comes-apart ds ys zs (held x z ys' zs' e f r c) h = ((λ n k. h.0 n (sym e ∙ k)), comes-apart ds ys' zs' c h.1)

  -- so what they undo is said after
  tied-past : (ds old zs : List (Item C)) → Each (IsApart ds) zs → all_tied (ds ++ old) zs ≡ all_tied old zs
  tied-past ds old [] h = refl
  tied-past ds old (z ∷ zs) h = ap (λ o. record z { undoes = o } ∷ all_tied (ds ++ old) zs) (from z.name refl) ∙ ap (λ xs. tied_as old z ∷ xs) (tied-past ds old zs h.1)
    where
      from : (o : Option Name) → z.name ≡ o → undoes_of z.name (ds ++ old) ≡ undoes_of z.name old
      from None e = ap (λ x. undoes_of x (ds ++ old)) e ∙ undoes-none (ds ++ old) ∙ sym (ap (λ x. undoes_of x old) e ∙ undoes-none old)
      from (Some n) e = ap (λ x. undoes_of x (ds ++ old)) e ∙ undoes-past n ds old (h.0 n e) ∙ sym (ap (λ x. undoes_of x old) e)

  tied-last : (old xs ys : List (Item C)) → all_tied old (xs ++ ys) ≡ xs ++ ys → all_tied old ys ≡ ys
  tied-last old [] ys h = h
  tied-last old (x ∷ xs) ys h = let t : all_tied old (xs ++ ys) ≡ xs ++ ys = cc in tied-last old xs ys t

  -- a live step is dropped from all items exactly where it is dropped from those that are left
  dropped-fewer : (ds old ws bs : List (Item C)) (n : Name) → Lacks ds n → holds n ws ≡ holds n bs → is_dropped (ds ++ old) ws n ≡ is_dropped old bs n
  dropped-fewer ds old ws bs n l e =
      ap (λ t. t && not (holds n ws)) (holds-both n ds old ∙ ap (λ t. t || holds n old) (holds-not n ds l)) ∙ ap (λ t. holds n old && not t) e

  named-fewer : (ds old ws bs : List (Item C)) (ns : List Name) → ((n : Name) → holds n ws ≡ holds n bs) → Each (Lacks ds) ns → still_named (ds ++ old) ws ns ≡ still_named old bs ns
  named-fewer ds old ws bs [] same h = refl
  named-fewer ds old ws bs (n ∷ ns) same h =
      ap (λ t. if t then still_named (ds ++ old) ws ns else n ∷ still_named (ds ++ old) ws ns) (dropped-fewer ds old ws bs n h.0 (same n))
      ∙ ap (λ ks. if is_dropped old bs n then ks else n ∷ ks) (named-fewer ds old ws bs ns same h.1)

  events-fewer : (ds old ws bs : List (Item C)) (es : List Event) → ((n : Name) → holds n ws ≡ holds n bs) → Each (Lacks ds) (names_of es)
      → without_dropped (ds ++ old) ws es ≡ without_dropped old bs es
  events-fewer ds old ws bs [] same h = refl
  events-fewer ds old ws bs (e ∷ es) same h =
      ap (λ ns. event_of e.number ns ∷ without_dropped (ds ++ old) ws es) (named-fewer ds old ws bs e.names same (each-front (Lacks ds) e.names (names_of es) h))
      ∙ ap (λ fs. event_of e.number (still_named old bs e.names) ∷ fs) (events-fewer ds old ws bs es same (each-back (Lacks ds) e.names (names_of es) h))

  -- Where fewer items are left than were to go, none of the first steps that come back is live.
  items-past : (live : List Name) (ds old fs xs : List (Item C)) → Each (IsDead live) fs → Each (Lacks ds) live → NamesDiffer (ds ++ old) → ComesFrom (ds ++ old) (all_tied (ds ++ old) xs)
      → trimmed_items live (fs ++ all_tied (ds ++ old) xs) ≡ trimmed_items live (fs ++ all_tied old xs)
  items-past live ds old fs xs dead l differ comes =
      let all = ds ++ old in
      let p = comes-parts all (all_tied all xs) comes ds old refl in
      let first : Each (IsDead live) p.front = lacks-named live p.front (each-map (Lacks ds) (Lacks p.front) live (λ n k. lacks-from n ds p.front p.first_comes k) l) in
      let whole : all_tied all (p.front ++ p.back) ≡ p.front ++ p.back = ap (all_tied all) (sym p.parts) ∙ tied-twice all all xs ∙ p.parts in
      let last : all_tied old p.back ≡ p.back =
      sym (tied-past ds old p.back (comes-apart ds old p.back p.last_comes (differ-apart ds old differ))) ∙ tied-last all p.front p.back whole in
      let other : all_tied old xs ≡ all_tied old p.front ++ all_tied old p.back =
      sym (tied-twice old all xs) ∙ ap (all_tied old) p.parts ∙ map-append (tied_as old) p.front p.back in
      trim-past live fs (all_tied all xs) dead ∙ ap (trimmed_items live) p.parts ∙ trim-past live p.front p.back first
      ∙ sym (trim-past live fs (all_tied old xs) dead ∙ ap (trimmed_items live) other ∙ trim-past live (all_tied old p.front) (all_tied old p.back) (tied-dead live old p.front first)
      ∙ ap (trimmed_items live) last)

  rest-fewer : (live : List Name) (front items : List (Item C)) (count : ℕ) (xs fs : List (Item C)) → Each (IsDead live) fs → Each (Lacks (drop (length (front ++ items) - count) front)) live
      → NamesDiffer (last_items count (front ++ items)) → ComesFrom (last_items count (front ++ items)) (all_tied (last_items count (front ++ items)) xs)
      → (count ≤ length items) ⊎ (length items ≤ count)
      → trimmed_items live (take (length items - count) items ++ (fs ++ all_tied (last_items count (front ++ items)) xs))
      ≡ trimmed_items live (take (length items - count) items ++ (fs ++ all_tied (last_items count items) xs))
  rest-fewer live front items count xs fs dead away differ comes (inl e) =
      let k : ℕ = length (front ++ items) - count in
      let n = length-append front items in
      let kj : k - length front ≡ length items - count = omega (arith, n) in
      let none : drop k front ≡ [] = drop_all k front (omega (arith, n, e)) in
      let same : last_items count (front ++ items) ≡ last_items count items =
      drop-both k front items ∙ ap (λ i. drop k front ++ drop i items) kj ∙ ap (λ ds. ds ++ last_items count items) none in
      ap (λ w. trimmed_items live (take (length items - count) items ++ (fs ++ all_tied w xs))) same
  rest-fewer live front items count xs fs dead away differ comes (inr e) =
      let k : ℕ = length (front ++ items) - count in
      let ds = drop k front in
      let old = last_items count items in
      let n = length-append front items in
      let kj : k - length front ≡ length items - count = omega (arith, n) in
      let split : last_items count (front ++ items) ≡ ds ++ old = drop-both k front items ∙ ap (λ i. ds ++ drop i items) kj in
      let zero_left : length items - count ≡ 0 = omega (arith, e) in
      ap (λ w. trimmed_items live (take (length items - count) items ++ (fs ++ all_tied w xs))) split
      ∙ ap (λ i. trimmed_items live (take i items ++ (fs ++ all_tied (ds ++ old) xs))) zero_left
      ∙ items-past live ds old fs xs dead away (subst NamesDiffer split differ) (subst (λ w. ComesFrom w (all_tied w xs)) split comes)
      ∙ sym (ap (λ i. trimmed_items live (take i items ++ (fs ++ all_tied old xs))) zero_left)

  -- A history that has let these items go, none of which is live, is rebased and trimmed as one that has them.
  pub rebased-fewer : (h : Branches C) (front : List (Item C)) (count : ℕ) (maps : List (List Span)) (xs : List (Item C)) → Each (Lacks front) (live_names h)
      → NamesDiffer (last_items count (front ++ h.items)) → ComesFrom (last_items count (front ++ h.items)) (all_tied (last_items count (front ++ h.items)) xs)
      → trimmed (rebased (record h { items = front ++ h.items }) count maps (all_tied (last_items count (front ++ h.items)) xs))
      ≡ trimmed (rebased h count maps (all_tied (last_items count h.items) xs))
  rebased-fewer h front count maps xs l differ comes =
      let all = front ++ h.items in
      let k : ℕ = length all - count in
      let j : ℕ = length h.items - count in
      let ds = drop k front in
      let old = last_items count h.items in
      let whole = last_items count all in
      let fs : List (Item C) = foreign_items maps in
      let n = length-append front h.items in
      let kj : k - length front ≡ j = omega (arith, n) in
      let split : whole ≡ ds ++ old = drop-both k front h.items ∙ ap (λ i. ds ++ drop i h.items) kj in
      let ws = all_tied whole xs in
      let bs = all_tied old xs in
      let same : (n : Name) → holds n ws ≡ holds n bs = λ n. tied-holds whole n xs ∙ sym (tied-holds old n xs) in
      let lacks : Each (Lacks ds) (live_names h) = each-map (Lacks front) (Lacks ds) (live_names h) (λ n e. each-drop (λ (i : Item C). one_step (Some n) i.name ≡ false) k front e) l in
      let undo : without_dropped whole ws h.undo ≡ without_dropped old bs h.undo =
      ap (λ w. without_dropped w ws h.undo) split ∙ events-fewer ds old ws bs h.undo same (each-front (Lacks ds) (names_of h.undo) (names_of h.redo) lacks) in
      let redo : without_dropped whole ws h.redo ≡ without_dropped old bs h.redo =
      ap (λ w. without_dropped w ws h.redo) split ∙ events-fewer ds old ws bs h.redo same (each-back (Lacks ds) (names_of h.undo) (names_of h.redo) lacks) in
      let live = live_names (rebased h count maps bs) in
      let left : live ≡ still_named old bs (live_names h) = rebased-names h count maps bs in
      let gone : Each (IsDead live) (take k front) =
      lacks-named live (take k front) (subst (Each (Lacks (take k front))) (sym left) (still-each (Lacks (take k front)) old bs (live_names h)
      (each-map (Lacks front) (Lacks (take k front)) (live_names h) (λ n e. each-take (λ (i : Item C). one_step (Some n) i.name ≡ false) k front e) l))) in
      let away : Each (Lacks ds) live = subst (Each (Lacks ds)) (sym left) (still-each (Lacks ds) old bs (live_names h) lacks) in
      let begun : trimmed_items live (take k all ++ (fs ++ ws)) ≡ trimmed_items live (take j h.items ++ (fs ++ ws)) =
      ap (λ is. trimmed_items live (is ++ (fs ++ ws))) (take-both k front h.items ∙ ap (λ i. take k front ++ take i h.items) kj)
      ∙ ap (trimmed_items live) (append_assoc (take k front) (take j h.items) (fs ++ ws)) ∙ trim-past live (take k front) (take j h.items ++ (fs ++ ws)) gone in
      let rest : trimmed_items live (take j h.items ++ (fs ++ ws)) ≡ trimmed_items live (take j h.items ++ (fs ++ bs)) =
      rest-fewer live front h.items count xs (foreign_items maps) (foreign-dead C live maps) away differ comes (le-or count (length h.items)) in
      ap (λ es. record { items = trimmed_items (names_of es ++ names_of (without_dropped whole ws h.redo)) (take k all ++ (fs ++ ws)); undo = es; redo = without_dropped whole ws h.redo; is_open = h.is_open }) undo
      ∙ ap (λ es. record { items = trimmed_items (names_of (without_dropped old bs h.undo) ++ names_of es) (take k all ++ (fs ++ ws)); undo = without_dropped old bs h.undo; redo = es; is_open = h.is_open }) redo
      ∙ ap (λ is. record { items = is; undo = without_dropped old bs h.undo; redo = without_dropped old bs h.redo; is_open = h.is_open }) (begun ∙ rest)
