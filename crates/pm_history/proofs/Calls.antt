-- Lemmas: a history goes on standing for its timeline over all steps of one edit.
use Rattle.std.specs.Prelude.{◌≡◌, ℕ, suc, ◌+◌, Bool, true, false, List, [], ◌∷◌, ◌++◌, length, Option, Some, None, refl}
use Rattle.std.proofs.Common.{sym, ap, subst, ◌∙◌, append_assoc, append-nil, arith}
use Rattle.pm_change.specs.declared.name.Name.{Name}
use Rattle.pm_change.specs.Changes.{Meaning, fold}
use Rattle.pm_change.proofs.Folds.{fold-cons, fold-append}
use Rattle.pm_history.specs.declared.item.Item.{Item}
use Rattle.pm_history.specs.declared.branch.Event.{Event}
use Rattle.pm_history.specs.declared.branches.MadeBy.TheVariants.{Edit}
use Rattle.pm_history.specs.declared.branches.Branches.{Branches}
use Rattle.pm_history.specs.Histories.{event_of, extended, put_event, add_name, opens, names_in, recorded_where, noted_all, noted_own}
use Rattle.pm_history.specs.Timelines.{Step, changes_of, item_at, next_items, items_from}
use Rattle.pm_history.specs.Standing.{IsHistoryOf}
use Rattle.pm_history.proofs.Folding.{changes-append, own-at}
use Rattle.pm_history.proofs.Edited.{IsFresh, history-edited}

-- own steps of an edit: they undo none, and have serials one after another from this one on
abbrev pub AreEdits : {C : Type 0} → ℕ → ℕ → List (Step C) → Type 0
AreEdits client serial [] = Unit {0}
AreEdits client serial (s ∷ ss) = (s.name ≡ record { client = client; serial = serial }) × (s.own ≡ true) × (s.undoes ≡ None) × AreEdits client (serial + 1) ss

extended-last : (es : List Event) (e : Event) (ns : List Name) → extended (es ++ e ∷ []) ns ≡ es ++ event_of e.number (e.names ++ ns) ∷ []
extended-last [] e ns = refl
extended-last (f ∷ []) e ns = refl
extended-last (f ∷ g ∷ es) e ns = ap (λ xs. f ∷ xs) (extended-last (g ∷ es) e ns)

put-last : (k : Option ℕ) (es : List Event) (e : Event) (ns : List Name) → put_event false k (es ++ e ∷ []) ns ≡ es ++ event_of e.number (e.names ++ ns) ∷ []
put-last k [] e ns = refl
put-last k (f ∷ es) e ns = extended-last (f ∷ es) e ns

extended-twice : (e : Event) (es : List Event) (xs ys : List Name) → extended (extended (e ∷ es) xs) ys ≡ extended (e ∷ es) (xs ++ ys)
extended-twice e [] xs ys = ap (λ ns. event_of e.number ns ∷ []) (append_assoc e.names xs ys)
extended-twice e (f ∷ []) xs ys = ap (λ fs. e ∷ fs) (extended-twice f [] xs ys)
extended-twice e (f ∷ g ∷ es) xs ys = ap (λ fs. e ∷ fs) (extended-twice f (g ∷ es) xs ys)

put-extended : (k : Option ℕ) (e : Event) (es : List Event) (xs ys : List Name) → put_event false k (extended (e ∷ es) xs) ys ≡ extended (extended (e ∷ es) xs) ys
put-extended k e [] xs ys = refl
put-extended k e (f ∷ es) xs ys = refl

-- a step and then others of the same call
put-twice : (b : Bool) (k : Option ℕ) (es : List Event) (n : Name) (ns : List Name) → put_event false k (put_event b k es (n ∷ [])) ns ≡ put_event b k es (n ∷ ns)
put-twice true k es n ns = put-last k es (event_of k (n ∷ [])) ns
put-twice false k [] n ns = refl
put-twice false k (e ∷ es) n ns = put-extended k e es (n ∷ []) ns ∙ extended-twice e es (n ∷ []) ns

module _ {C : Type 0} where
  recorded-twice : (h : Branches C) (event : Option ℕ) (begins : Bool) (k : Name) (o : Option Name) (ns : List Name) (xs ys zs : List (Item C)) → o ≡ Some k → ys ≡ zs
      → record (recorded_where (record (recorded_where h (add_name o []) (Edit event begins)) { items = xs }) ns (Edit event false)) { items = ys }
      ≡ record (recorded_where h (add_name o ns) (Edit event begins)) { items = zs }
  recorded-twice h event begins k None ns xs ys zs e f = absurd (cc)
  recorded-twice h event begins k (Some n) [] xs ys zs e f =
      ap (λ is. record { items = is; undo = put_event (opens h event begins) event h.undo (n ∷ []); redo = []; is_open = true }) f
  recorded-twice h event begins k (Some n) (j ∷ js) xs ys zs e f =
      ap (λ is. record { items = is; undo = put_event false event (put_event (opens h event begins) event h.undo (n ∷ [])) (j ∷ js); redo = []; is_open = true }) f
      ∙ ap (λ es. record { items = zs; undo = es; redo = []; is_open = true }) (put-twice (opens h event begins) event h.undo n (j ∷ js))

  -- the steps of a call are noted one by one
  noted-twice : (h : Branches C) (event : Option ℕ) (begins : Bool) (k : Name) (i : Item C) (is : List (Item C)) → i.name ≡ Some k
      → noted_all (noted_own h i (Edit event begins)) is (Edit event false) ≡ noted_all h (i ∷ is) (Edit event begins)
  noted-twice h event begins k i is e =
      recorded-twice h event begins k i.name (names_in is) (h.items ++ i ∷ []) ((h.items ++ i ∷ []) ++ is) (h.items ++ i ∷ is) e (append_assoc h.items (i ∷ []) is)

module _ {Rules Doc Reason C : Type 0} (m : Meaning Rules Doc Reason C) (rules : Rules) where
  -- own steps of one edit more, with new names
  pub history-call : (client drawn : ℕ) (first doc end : Doc) (steps ss : List (Step C)) (h : Branches C) (event : Option ℕ) (begins : Bool)
      → IsHistoryOf m rules client drawn first steps h → fold m rules first (changes_of steps) ≡ Some doc → fold m rules doc (changes_of ss) ≡ Some end → AreEdits client (drawn + 1) ss
      → IsHistoryOf m rules client (drawn + length ss) first (steps ++ ss) (noted_all h (items_from m rules doc ss) (Edit event begins))
  history-call client drawn first doc end steps [] h event begins k e f a =
      let z : drawn ≡ drawn + 0 = omega arith in
      subst (λ d. IsHistoryOf m rules client d first (steps ++ []) (record h { items = h.items ++ [] })) z
      (subst (λ ss. IsHistoryOf m rules client drawn first ss (record h { items = h.items ++ [] })) (sym (append-nil steps))
      (subst (λ is. IsHistoryOf m rules client drawn first steps (record h { items = is })) (sym (append-nil h.items)) k))
  history-call client drawn first doc end steps (s ∷ ss) h event begins k e f a =
      let x = fold-cons m rules doc end s.change (changes_of ss) f in
      let i : Item C = record { name = Some s.name; map = m.step_map s.change; inverse = m.inverse rules s.change doc; undoes = None } in
      let serial : s.name.serial ≡ drawn + 1 = ap (λ (n : Name). n.serial) a.0 in
      let fresh : IsFresh client drawn s.name = (ap (λ (n : Name). n.client) a.0, omega (arith, serial)) in
      let one = history-edited m rules client drawn first doc steps h s event begins k e a.1 a.2 fresh in
      let next : IsHistoryOf m rules client (drawn + 1) first (steps ++ s ∷ []) (noted_own h i (Edit event begins)) =
      subst (λ d. IsHistoryOf m rules client d first (steps ++ s ∷ []) (noted_own h i (Edit event begins))) serial one in
      let reach : fold m rules first (changes_of (steps ++ s ∷ [])) ≡ Some x.0 =
      ap (fold m rules first) (changes-append steps (s ∷ [])) ∙ fold-append m rules first doc (changes_of steps) (s.change ∷ []) e ∙ rw x.1 refl in
      let go = history-call client (drawn + 1) first x.0 end (steps ++ s ∷ []) ss (noted_own h i (Edit event begins)) event false next reach x.2 a.3 in
      let count : drawn + 1 + length ss ≡ drawn + suc (length ss) = omega arith in
      let item : items_from m rules doc (s ∷ ss) ≡ i ∷ items_from m rules x.0 ss =
      ap (λ r. item_at m rules doc s ∷ next_items m rules r (λ d. items_from m rules d ss)) x.1
      ∙ ap (λ j. j ∷ items_from m rules x.0 ss) (own-at m rules doc s a.1 ∙ ap (λ o. record { name = Some s.name; map = m.step_map s.change; inverse = m.inverse rules s.change doc; undoes = o }) a.2) in
      subst (λ d. IsHistoryOf m rules client d first (steps ++ s ∷ ss) (noted_all h (items_from m rules doc (s ∷ ss)) (Edit event begins))) count
      (subst (λ is. IsHistoryOf m rules client (drawn + 1 + length ss) first (steps ++ s ∷ ss) (noted_all h is (Edit event begins))) (sym item)
      (subst (λ g. IsHistoryOf m rules client (drawn + 1 + length ss) first (steps ++ s ∷ ss) g) (noted-twice h event begins s.name i (items_from m rules x.0 ss) refl)
      (subst (λ ts. IsHistoryOf m rules client (drawn + 1 + length ss) first ts (noted_all (noted_own h i (Edit event begins)) (items_from m rules x.0 ss) (Edit event false))) (append_assoc steps (s ∷ []) ss) go)))
