-- Lemmas: a table of names.
use Rattle.std.specs.Prelude.{◌≡◌, ℕ, ◌%◌, ◌<◌, ◌==◌, nat_eq, Bool, true, false, if◌then◌else◌, List, [], ◌∷◌, length, get_or, replicate, set, Option, Some, None, refl}
use Rattle.std.specs.HashMap.{get}
use Rattle.std.proofs.Common.{sym, ap, subst, ◌∙◌, arith}
use Rattle.std.proofs.Math.Nat.{mod-lt}
use Rattle.std.proofs.lemmas.Bool.{eqb-true, eqb-false, eq-eqb, true≢false}
use Rattle.std.proofs.lemmas.List.{get_or-replicate, get_or-set_other, length-replicate, length-set}
use Rattle.std.proofs.lemmas.Grind.{get_or-set_at}
use Rattle.pm_change.specs.declared.name.Name.{Name}
use Rattle.pm_history.specs.declared.live.Live.{Live}
use Rattle.pm_history.specs.Live.{IsTableOfNames, client_at, client_of, has_room, there}

-- what a name tells of its own serial, and of another
client-own : (n : Name) (s : ℕ) (o : Option ℕ) → (n.serial == s) ≡ true → client_at (Some n) s o ≡ Some n.client
client-own n s o e = ap (λ t. if◌then◌else◌ {A = Option ℕ} t (Some n.client) o) e

client-other : (n : Name) (s : ℕ) (o : Option ℕ) → (n.serial == s) ≡ false → client_at (Some n) s o ≡ o
client-other n s o e = ap (λ t. if◌then◌else◌ {A = Option ℕ} t (Some n.client) o) e

-- where there was room for a serial, nothing was told of another
room-other : (o : Option Name) (s q : ℕ) (c : Option ℕ) → has_room o s ≡ true → (s == q) ≡ false → client_at o q c ≡ c
room-other None s q c h e = refl
room-other (Some m) s q c h e = client-other m q c (ap (λ (x : ℕ). x == q) (eqb-true m.serial s h) ∙ e)

-- where there was none, nothing is told of the serial
no-room : (o : Option Name) (s : ℕ) (c : Option ℕ) → has_room o s ≡ false → client_at o s c ≡ c
no-room None s c h = absurd (true≢false h)
no-room (Some m) s c h = client-other m s c h

first-of : (n : Name) (ns : List Name) (s : ℕ) (t : Bool) → (n.serial == s) ≡ t → client_of s (n ∷ ns) ≡ if◌then◌else◌ {A = Option ℕ} t (Some n.client) (client_of s ns)
first-of n ns s t e = ap (λ b. if◌then◌else◌ {A = Option ℕ} b (Some n.client) (client_of s ns)) e

pub near-put : (old new : Live) (n : Name) (ns : List Name) → IsTableOfNames old ns → has_room (there old n.serial) n.serial ≡ true
    → new.near.items ≡ set old.near.items (n.serial % length old.near.items) (Some n) → new.far ≡ old.far → IsTableOfNames new (n ∷ ns)
near-put old new n ns h room near far =
    let same : length new.near.items ≡ length old.near.items = ap length near ∙ length-set old.near.items (n.serial % length old.near.items) (Some n) in
    record {
      some = subst (λ (k : ℕ). 0 < k) (sym same) h.some;
      clients_are = λ s. ap (λ (k : ℕ). client_at (get_or new.near.items (s % k) None) s (get nat_eq new.far s)) same
          ∙ ap (λ xs. client_at (get_or xs (s % length old.near.items) None) s (get nat_eq new.far s)) near
          ∙ ap (λ f. client_at (get_or (set old.near.items (n.serial % length old.near.items) (Some n)) (s % length old.near.items) None) s (get nat_eq f s)) far
          ∙ each s (n.serial == s) refl;
    }
  where
    after : ℕ → Option ℕ
    after s = client_at (get_or (set old.near.items (n.serial % length old.near.items) (Some n)) (s % length old.near.items) None) s (get nat_eq old.far s)

    each : (s : ℕ) (t : Bool) → (n.serial == s) ≡ t
        → client_at (get_or (set old.near.items (n.serial % length old.near.items) (Some n)) (s % length old.near.items) None) s (get nat_eq old.far s) ≡ client_of s (n ∷ ns)
    each s true e =
        let size = length old.near.items in
        let at : s % size ≡ n.serial % size = ap (λ (k : ℕ). k % size) (sym (eqb-true n.serial s e)) in
        ap (λ o. client_at o s (get nat_eq old.far s)) (get_or-set_at old.near.items (n.serial % size) (s % size) (Some n) None at (mod-lt n.serial h.some))
        ∙ client-own n s (get nat_eq old.far s) e ∙ sym (first-of n ns s true e)
    each s false e = place s e (n.serial % length old.near.items == s % length old.near.items) refl ∙ sym (first-of n ns s false e)
      where
        place : (s : ℕ) → (n.serial == s) ≡ false → (t : Bool) → (n.serial % length old.near.items == s % length old.near.items) ≡ t
            → client_at (get_or (set old.near.items (n.serial % length old.near.items) (Some n)) (s % length old.near.items) None) s (get nat_eq old.far s) ≡ client_of s ns
        place s e true f =
            let size = length old.near.items in
            let at : n.serial % size ≡ s % size = eqb-true (n.serial % size) (s % size) f in
            let empty : client_at (there old n.serial) s (get nat_eq old.far s) ≡ get nat_eq old.far s = room-other (there old n.serial) n.serial s (get nat_eq old.far s) room e in
            ap (λ o. client_at o s (get nat_eq old.far s)) (get_or-set_at old.near.items (n.serial % size) (s % size) (Some n) None (sym at) (mod-lt n.serial h.some))
            ∙ client-other n s (get nat_eq old.far s) e
            ∙ sym (sym (ap (λ (k : ℕ). client_at (get_or old.near.items k None) s (get nat_eq old.far s)) at) ∙ empty)
            ∙ h.clients_are s
        place s e false f =
            let size = length old.near.items in
            ap (λ o. client_at o s (get nat_eq old.far s))
            (get_or-set_other old.near.items (n.serial % size) (s % size) (Some n) None (λ same. eqb-false (n.serial % size) (s % size) f (sym same)))
            ∙ h.clients_are s

pub far-put : (old new : Live) (n : Name) (ns : List Name) → IsTableOfNames old ns → has_room (there old n.serial) n.serial ≡ false → new.near.items ≡ old.near.items
    → ((s : ℕ) → get nat_eq new.far s ≡ (if n.serial == s then Some n.client else get nat_eq old.far s)) → IsTableOfNames new (n ∷ ns)
far-put old new n ns h room near far =
    let same : length new.near.items ≡ length old.near.items = ap length near in
    record {
      some = subst (λ (k : ℕ). 0 < k) (sym same) h.some;
      clients_are = λ s. ap (λ xs. client_at (get_or xs (s % length xs) None) s (get nat_eq new.far s)) near
          ∙ ap (λ o. client_at (there old s) s o) (far s) ∙ each s (n.serial == s) refl;
    }
  where
    each : (s : ℕ) (t : Bool) → (n.serial == s) ≡ t
        → client_at (there old s) s (if◌then◌else◌ {A = Option ℕ} (n.serial == s) (Some n.client) (get nat_eq old.far s)) ≡ client_of s (n ∷ ns)
    each s true e =
        let none : has_room (there old s) s ≡ false = subst (λ (k : ℕ). has_room (there old k) k ≡ false) (eqb-true n.serial s e) room in
        no-room (there old s) s (if◌then◌else◌ {A = Option ℕ} (n.serial == s) (Some n.client) (get nat_eq old.far s)) none
        ∙ ap (λ b. if◌then◌else◌ {A = Option ℕ} b (Some n.client) (get nat_eq old.far s)) e ∙ sym (first-of n ns s true e)
    each s false e =
        ap (λ b. client_at (there old s) s (if◌then◌else◌ {A = Option ℕ} b (Some n.client) (get nat_eq old.far s))) e ∙ h.clients_are s ∙ sym (first-of n ns s false e)

-- the table of no name
pub near-none : (t : Live) (size : ℕ) (ns : List Name) → 0 < size → ns ≡ [] → t.near.items ≡ replicate size None → ((s : ℕ) → get nat_eq t.far s ≡ None) → IsTableOfNames t ns
near-none t size [] l e near far =
    let long : length t.near.items ≡ size = ap length near ∙ length-replicate {A = Option Name} size None in
    record {
      some = subst (λ (k : ℕ). 0 < k) (sym long) l;
      clients_are = λ s. ap (λ xs. client_at (get_or xs (s % length xs) None) s (get nat_eq t.far s)) near
          ∙ ap (λ o. client_at o s (get nat_eq t.far s)) (get_or-replicate size (s % length (replicate {A = Option Name} size None)) None None
          (subst (λ (k : ℕ). s % k < size) (sym (length-replicate {A = Option Name} size None)) (mod-lt s l)))
          ∙ far s;
    }
near-none t size (n ∷ ns) l e near far = absurd (cc)
