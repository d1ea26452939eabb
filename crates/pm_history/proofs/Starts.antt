-- What stands before an event does not matter to its undo.
use Rattle.std.specs.List.{AllByRecursion as Each}
use Rattle.std.specs.Prelude.{Result, Ok, Err, IfOk}
use Rattle.std.proofs.Common.{◌≡◌, ℕ, zero, suc, ◌+◌, ◌<◌, ◌||◌, Bool, true, false, if◌then◌else◌, List, [], ◌∷◌, ◌++◌, length, drop, take, Option, Some, refl, ap, sym, ◌∙◌, subst, arith, get_or}
use Rattle.std.proofs.Math.Seq.{drop-cons}
use Rattle.std.proofs.lemmas.Bool.{true≢false}
use Rattle.pm_change.specs.declared.name.Name.{Name}
use Rattle.pm_change.specs.Changes.{Meaning, Laws}
use Rattle.pm_history.specs.declared.item.Item.{Item}
use Rattle.pm_history.specs.declared.undoing.Undone.{Undone}
use Rattle.pm_history.specs.Items.{one_step}
use Rattle.pm_history.specs.Remembers.{Lacks}
use Rattle.pm_history.specs.Shows.{Shows, ShowsTo}
use Rattle.pm_history.specs.Starts.{is_named, start_of}
use Rattle.pm_history.specs.Undos.{find, then_made, undo_found, undo_event}
use Rattle.pm_history.proofs.Agrees.{event-past}
use Rattle.pm_history.proofs.Steps.{named-shows}

or-parts : (a b : Bool) → (a || b) ≡ false → (a ≡ false) × (b ≡ false)
or-parts true b h = absurd (true≢false h)
or-parts false b h = (refl, h)

-- what follows on success
pub if-ok-then : {A E : Type 0} (r : Result A E) (P Q : A → Type 0) → ((a : A) → P a → Q a) → IfOk r P → IfOk r Q
if-ok-then (Ok a) P Q f h = f a h
if-ok-then (Err e) P Q f h = tt

-- a name that is not this one
pub named-next : (ns : List Name) (k : ℕ) (o : Option Name) (d : Name) → k < length ns → one_step (Some (get_or ns k d)) o ≡ false → is_named (drop k ns) o ≡ is_named (drop (k + 1) ns) o
named-next ns k o d l e =
    ap (λ xs. is_named xs o) (drop-cons ns k d l) ∙ ap (λ t. t || is_named (drop (suc k) ns) o) e ∙ ap (λ j. is_named (drop j ns) o) (one-more k)
  where
    one-more : (k : ℕ) → suc k ≡ k + 1
    one-more k = omega arith

lacks-none : (C : Type 0) (ns : List Name) → Each (Lacks {C = C} []) ns
lacks-none C [] = tt
lacks-none C (n ∷ ns) = (tt, lacks-none C ns)

module _ {C : Type 0} where
  lacks-more : (i : Item C) (is : List (Item C)) (ns : List Name) → is_named ns i.name ≡ false → Each (Lacks is) ns → Each (Lacks (i ∷ is)) ns
  lacks-more i is [] e h = tt
  lacks-more i is (n ∷ ns) e h =
      let p = or-parts (one_step (Some n) i.name) (is_named ns i.name) e in
      ((p.0, h.0), lacks-more i is ns p.1 h.1)

  lacks-before : (ns : List Name) (is : List (Item C)) → Each (Lacks (take (start_of ns is) is)) ns
  lacks-before ns [] = lacks-none C ns
  lacks-before ns (i ∷ is) = from (is_named ns i.name) refl (lacks-before ns is)
    where
      from : (t : Bool) → is_named ns i.name ≡ t → Each (Lacks (take (start_of ns is) is)) ns → Each (Lacks (take (if t then 0 else suc (start_of ns is)) (i ∷ is))) ns
      from true e h = lacks-none C ns
      from false e h = lacks-more i (take (start_of ns is) is) ns e h

  halves : (k : ℕ) (is : List (Item C)) → take k is ++ drop k is ≡ is
  halves zero is = refl
  halves (suc k) [] = refl
  halves (suc k) (i ∷ is) = ap (λ xs. i ∷ xs) (halves k is)

module _ {Rules Doc Reason C : Type 0} (m : Meaning Rules Doc Reason C) (rules : Rules) where
  shows-behind : Laws m → (k : ℕ) (doc end : Doc) (is : List (Item C)) → m.is_good rules doc → Shows m rules doc is end → ShowsTo m rules (drop k is) end
  shows-behind laws zero doc end is good h = (doc, good, h)
  shows-behind laws (suc k) doc end [] good h = (doc, good, h)
  shows-behind laws (suc k) doc end (i ∷ is) good h = shows-behind laws k h.1 end is (laws.good rules h.0 doc h.1 good h.2) h.5

  -- the items from a place on stand for steps that lead to the same document
  pub shows-from : Laws m → (k : ℕ) (items from : List (Item C)) (doc : Doc) → from ≡ drop k items → ShowsTo m rules items doc → ShowsTo m rules from doc
  shows-from laws k items from doc e h = subst (λ is. ShowsTo m rules is doc) (sym e) (shows-behind laws k h.0 doc items h.1 h.2)

module _ {Rules Doc Reason C : Type 0} (m : Meaning Rules Doc Reason C) (rules : Rules) (client : ℕ) where
  -- an undo over the items from the first of the event's steps on
  pub event-from : (ns : List Name) (items from : List (Item C)) (k : ℕ) (doc : Doc) (serial : ℕ) → k ≡ start_of ns items → from ≡ drop k items
      → undo_event m rules client ns from doc serial ≡ undo_event m rules client ns items doc serial
  event-from ns items from k doc serial s e =
      ap (λ is. undo_event m rules client ns is doc serial) (e ∙ ap (λ j. drop j items) s)
      ∙ sym (event-past m rules client ns (take (start_of ns items) items) (drop (start_of ns items) items) doc serial (lacks-before ns items))
      ∙ ap (λ is. undo_event m rules client ns is doc serial) (halves (start_of ns items) items)

  event-shows : (ns : List Name) (items : List (Item C)) (doc : Doc) (serial : ℕ) → ShowsTo m rules items doc
      → ShowsTo m rules (items ++ (undo_event m rules client ns items doc serial).items) (undo_event m rules client ns items doc serial).doc
  event-shows [] items doc serial h = subst (λ is. ShowsTo m rules is doc) (sym (nil items)) h
    where
      nil : (xs : List (Item C)) → xs ++ [] ≡ xs
      nil [] = refl
      nil (x ∷ xs) = ap (λ ys. x ∷ ys) (nil xs)
  event-shows (n ∷ ns) items doc serial h =
      let w = undo_event m rules client ns items doc serial in
      named-shows m rules client n items w (then_made w (undo_found m rules client n (find n items) w.items w.doc w.serial)) (event-shows ns items doc serial h) refl

  pub made-shows : (ns : List Name) (items : List (Item C)) (doc : Doc) (serial : ℕ) (w : Undone Doc C) → ShowsTo m rules items doc → w ≡ undo_event m rules client ns items doc serial
      → ShowsTo m rules (items ++ w.items) w.doc
  made-shows ns items doc serial w h e = subst (λ (x : Undone Doc C). ShowsTo m rules (items ++ x.items) x.doc) (sym e) (event-shows ns items doc serial h)
