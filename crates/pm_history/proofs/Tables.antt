-- A table of items finds mirrors.
use Rattle.std.proofs.Common.{◌≡◌, ℕ, zero, suc, ◌+◌, ◌-◌, ◌%◌, ◌<◌, ◌≤◌, ◌==◌, ◌&&◌, Bool, true, false, if◌then◌else◌, List, [], ◌∷◌, ◌++◌, length, drop, get_or, nat_lt, Option, Some, None, refl, ap, sym, ◌∙◌, arith, subst, append_assoc, length-append, replicate, set, ⊎_elim}
use Rattle.std.proofs.lemmas.Bool.{eqb-true, eqb-false, eq-eqb, ne_eqb, true≢false, lt-ltb, le-ltb, cases_lt}
use Rattle.std.specs.List.{AllByRecursion as Each}
use Rattle.std.proofs.Math.Nat.{mod-lt}
use Rattle.std.proofs.lemmas.List.{get_or_append_left, get_or-replicate, get_or-set_other, length-replicate, length-set}
use Rattle.std.proofs.lemmas.Grind.{get_or-set_at}
use Rattle.std.proofs.Math.Seq.{get_or-append_seam}
use Rattle.pm_change.specs.declared.name.Name.{Name}
use Rattle.pm_map.specs.declared.step_map.Span.{Span}
use Rattle.pm_map.specs.Mirrors.{may_mirror}
use Rattle.pm_history.specs.declared.item.Item.{Item}
use Rattle.pm_history.specs.Items.{one_step}
use Rattle.pm_history.specs.Pairs.{later_in, one_more}
use Rattle.pm_history.specs.Undoers.{leaves, nearest, nearest_for, chain, IsTableOf}
use Rattle.pm_history.specs.declared.undoers.Undoers.{Undoers}

abbrev past : ℕ → Option ℕ → Option ℕ
past k None = None
past k (Some j) = Some (k + j)

past-zero : (o : Option ℕ) → o ≡ past 0 o
past-zero None = refl
past-zero (Some j) = ap Some (zero-add j)
  where
    zero-add : (j : ℕ) → j ≡ 0 + j
    zero-add j = omega arith

past-one : (o : Option ℕ) → one_more o ≡ past 1 o
past-one None = refl
past-one (Some j) = ap Some (step j)
  where
    step : (j : ℕ) → suc j ≡ 1 + j
    step j = omega arith

past-past : (a b c : ℕ) (o : Option ℕ) → c ≡ a + b → past a (past b o) ≡ past c o
past-past a b c None e = refl
past-past a b c (Some j) e = ap Some (step j)
  where
    step : (j : ℕ) → a + (b + j) ≡ c + j
    step j = omega (arith, e)

and-not : (a b : Bool) → b ≡ false → (a && b) ≡ false
and-not true b e = e
and-not false b e = refl

not-named : (size : ℕ) (name : Name) (o : Option Name) → leaves size (name.serial % size) o ≡ false → one_step (Some name) o ≡ false
not-named size name None h = refl
not-named size name (Some b) h =
    and-not (name.client == b.client) (name.serial == b.serial)
    (ne_eqb name.serial b.serial (λ e. true≢false (sym (eq-eqb (b.serial % size) (name.serial % size) (ap (λ (s : ℕ). s % size) (sym e))) ∙ h)))

and-first : (a b : Bool) → a ≡ false → (a && b) ≡ false
and-first true b e = absurd (true≢false e)
and-first false b e = refl

-- how many items a search can still pass
abbrev pub left_of : Option ℕ → ℕ
left_of None = 0
left_of (Some left) = suc left

pub lt-more : (a b : ℕ) → nat_lt (a + 1) (suc b) ≡ nat_lt a b
lt-more a b = ⊎_elim
    (λ (h : a < b). lt-ltb (a + 1) (suc b) (omega (arith, h)) ∙ sym (lt-ltb a b h))
    (λ (h : b ≤ a). le-ltb (a + 1) (suc b) (omega (arith, h)) ∙ sym (le-ltb a b h))
    (cases_lt a b)

drop-none : {C : Type 0} (is : List (Item C)) (n : Option Name) (rs : List Span) (lo : ℕ) → is ≡ [] → later_in n rs (drop lo is) ≡ None
drop-none [] n rs zero e = refl
drop-none [] n rs (suc lo) e = refl
drop-none (i ∷ is) n rs lo e = absurd (cc)

module _ {C : Type 0} where
  -- A search from the item at place `lo` on for the mirror of a step goes over all items whose serials leave the remainder r.
  -- It has come to this one, with `left` items after it.
  pub record Stands (n : Option Name) (size r lo : ℕ) (rs : List Span) (all : List (Item C)) (left : ℕ) : Type 0 where
    pub front : List (Item C)
    pub item : Item C
    pub rest : List (Item C)
    pub all_is : all ≡ front ++ item ∷ rest
    pub left_is : length rest ≡ left
    pub undoes : leaves size r item.undoes ≡ true
    pub same : later_in n rs (drop lo all) ≡ past (length front - lo) (later_in n rs (drop (lo - length front) (item ∷ rest)))

  -- how far a search has come
  abbrev pub Reaches : Option Name → ℕ → ℕ → ℕ → List Span → List (Item C) → Option ℕ → Type 0
  Reaches n size r lo rs all None = later_in n rs (drop lo all) ≡ None
  Reaches n size r lo rs all (Some left) = Stands n size r lo rs all left

  later-past : (name : Name) (rs : List Span) (i : Item C) (is : List (Item C)) → (one_step (Some name) i.undoes && may_mirror rs i.map) ≡ false
      → later_in (Some name) rs (i ∷ is) ≡ past 1 (later_in (Some name) rs is)
  later-past name rs i is h = ap (λ t. if t then Some 0 else one_more (later_in (Some name) rs is)) h ∙ past-one (later_in (Some name) rs is)

  -- an item before which, or at which, the search is not to look
  past-first : (n : Option Name) (size r : ℕ) (rs : List Span) (i : Item C) (is : List (Item C)) (o : Option ℕ) → later_in n rs (i ∷ is) ≡ past 1 (later_in n rs is)
      → Reaches n size r 0 rs is o → Reaches n size r 0 rs (i ∷ is) o
  past-first n size r rs i is None e h = e ∙ ap (past 1) h
  past-first n size r rs i is (Some left) e h = record {
    front = i ∷ h.front;
    item = h.item;
    rest = h.rest;
    all_is = ap (λ xs. i ∷ xs) h.all_is;
    left_is = h.left_is;
    undoes = h.undoes;
    same = e ∙ ap (past 1) h.same ∙ past-past 1 (length h.front - 0) (suc (length h.front) - 0) (later_in n rs (drop (0 - length h.front) (h.item ∷ h.rest))) (one (length h.front))
        ∙ ap (λ k. past (suc (length h.front) - 0) (later_in n rs (drop k (h.item ∷ h.rest)))) (none (length h.front));
  }
    where
      one : (k : ℕ) → suc k - 0 ≡ 1 + (k - 0)
      one k = omega arith

      none : (k : ℕ) → 0 - k ≡ 0 - suc k
      none k = omega arith

  past-lower : (n : Option Name) (size r lo : ℕ) (rs : List Span) (i : Item C) (is : List (Item C)) (o : Option ℕ) → Reaches n size r lo rs is o → Reaches n size r (suc lo) rs (i ∷ is) o
  past-lower n size r lo rs i is None h = h
  past-lower n size r lo rs i is (Some left) h = record {
    front = i ∷ h.front;
    item = h.item;
    rest = h.rest;
    all_is = ap (λ xs. i ∷ xs) h.all_is;
    left_is = h.left_is;
    undoes = h.undoes;
    same = h.same ∙ ap (λ k. past k (later_in n rs (drop (lo - length h.front) (h.item ∷ h.rest)))) (less (length h.front) lo)
        ∙ ap (λ k. past (suc (length h.front) - suc lo) (later_in n rs (drop k (h.item ∷ h.rest)))) (less lo (length h.front));
  }
    where
      less : (a b : ℕ) → a - b ≡ suc a - suc b
      less a b = omega arith

  at-front : (n : Option Name) (size r lo : ℕ) (rs : List Span) (i : Item C) (is : List (Item C)) → leaves size r i.undoes ≡ true → Stands n size r lo rs (i ∷ is) (length is)
  at-front n size r lo rs i is e = record {
    front = [];
    item = i;
    rest = is;
    all_is = refl;
    left_is = refl;
    undoes = e;
    same = past-zero (later_in n rs (drop lo (i ∷ is))) ∙ ap (λ k. past k (later_in n rs (drop lo (i ∷ is)))) (none lo)
        ∙ ap (λ k. past (0 - lo) (later_in n rs (drop k (i ∷ is)))) (whole lo);
  }
    where
      none : (k : ℕ) → 0 ≡ 0 - k
      none k = omega arith

      whole : (k : ℕ) → k ≡ k - 0
      whole k = omega arith

  pub reaches-first : (name : Name) (size lo : ℕ) (rs : List Span) (is : List (Item C)) → Reaches (Some name) size (name.serial % size) lo rs is (nearest size (name.serial % size) is)
  reaches-first name size lo rs [] = drop-none [] (Some name) rs lo refl
  reaches-first name size zero rs (i ∷ is) = from (leaves size (name.serial % size) i.undoes) refl (reaches-first name size 0 rs is)
    where
      from : (t : Bool) → leaves size (name.serial % size) i.undoes ≡ t → Reaches (Some name) size (name.serial % size) 0 rs is (nearest size (name.serial % size) is)
          → Reaches (Some name) size (name.serial % size) 0 rs (i ∷ is) (if t then Some (length is) else nearest size (name.serial % size) is)
      from true e h = at-front (Some name) size (name.serial % size) 0 rs i is e
      from false e h =
          past-first (Some name) size (name.serial % size) rs i is (nearest size (name.serial % size) is)
          (later-past name rs i is (and-first (one_step (Some name) i.undoes) (may_mirror rs i.map) (not-named size name i.undoes e))) h
  reaches-first name size (suc lo) rs (i ∷ is) = from (leaves size (name.serial % size) i.undoes) refl (reaches-first name size lo rs is)
    where
      from : (t : Bool) → leaves size (name.serial % size) i.undoes ≡ t → Reaches (Some name) size (name.serial % size) lo rs is (nearest size (name.serial % size) is)
          → Reaches (Some name) size (name.serial % size) (suc lo) rs (i ∷ is) (if t then Some (length is) else nearest size (name.serial % size) is)
      from true e h = at-front (Some name) size (name.serial % size) (suc lo) rs i is e
      from false e h = past-lower (Some name) size (name.serial % size) lo rs i is (nearest size (name.serial % size) is) h

  behind-item : (n : Option Name) (size r lo : ℕ) (rs : List Span) (all : List (Item C)) (left : ℕ) (h : Stands n size r lo rs all left) (o : Option ℕ)
      → later_in n rs (drop (lo - length h.front) (h.item ∷ h.rest)) ≡ past (1 - (lo - length h.front)) (later_in n rs (drop (lo - suc (length h.front)) h.rest))
      → Reaches n size r (lo - suc (length h.front)) rs h.rest o → Reaches n size r lo rs all o
  behind-item n size r lo rs all left h None e k = h.same ∙ ap (past (length h.front - lo)) (e ∙ ap (past (1 - (lo - length h.front))) k)
  behind-item n size r lo rs all left h (Some q) e k =
      let f = length h.front in
      let g = length k.front in
      let x = length (h.front ++ h.item ∷ k.front) in
      let long : x ≡ f + suc g = length-append h.front (h.item ∷ k.front) in
      let y = λ (j : ℕ). later_in n rs (drop j (k.item ∷ k.rest)) in
      let at = lo - suc f in
      record {
        front = h.front ++ h.item ∷ k.front;
        item = k.item;
        rest = k.rest;
        all_is = h.all_is ∙ ap (λ xs. h.front ++ h.item ∷ xs) k.all_is ∙ sym (append_assoc h.front (h.item ∷ k.front) (k.item ∷ k.rest));
        left_is = k.left_is;
        undoes = k.undoes;
        same = h.same ∙ ap (past (f - lo)) (e ∙ ap (past (1 - (lo - f))) k.same ∙ past-past (1 - (lo - f)) (g - at) ((1 - (lo - f)) + (g - at)) (y (at - g)) refl)
            ∙ past-past (f - lo) ((1 - (lo - f)) + (g - at)) (x - lo) (y (at - g)) (count f g x long) ∙ ap (λ j. past (x - lo) (y j)) (lower f g x long);
      }
    where
      count : (f g x : ℕ) → x ≡ f + suc g → x - lo ≡ (f - lo) + ((1 - (lo - f)) + (g - (lo - suc f)))
      count f g x e = omega (arith, e)

      lower : (f g x : ℕ) → x ≡ f + suc g → (lo - suc f) - g ≡ lo - x
      lower f g x e = omega (arith, e)

  pub chain-length : (size : ℕ) (is : List (Item C)) → length (chain size is) ≡ length is
  chain-length size [] = refl
  chain-length size (i ∷ is) =
      let a : length (chain size is ++ nearest_for size i.undoes is ∷ []) ≡ length (chain size is) + 1 = length-append (chain size is) (nearest_for size i.undoes is ∷ []) in
      omega (arith, a, chain-length size is)

  chain-at : (size : ℕ) (front : List (Item C)) (item : Item C) (rest : List (Item C)) (d : Option ℕ) → get_or (chain size (front ++ item ∷ rest)) (length rest) d ≡ nearest_for size item.undoes rest
  chain-at size [] item rest d =
      ap (λ k. get_or (chain size rest ++ nearest_for size item.undoes rest ∷ []) k d) (sym (chain-length size rest)) ∙ get_or-append_seam (chain size rest) (nearest_for size item.undoes rest) [] d
  chain-at size (x ∷ xs) item rest d =
      let all = xs ++ item ∷ rest in
      let long : length all ≡ length xs + suc (length rest) = length-append xs (item ∷ rest) in
      get_or_append_left (chain size all) (nearest_for size x.undoes all ∷ []) d (length rest) (omega (arith, chain-length size all, long)) ∙ chain-at size xs item rest d

  same-remainder : (size : ℕ) (o : Option Name) (r : ℕ) (is : List (Item C)) → leaves size r o ≡ true → nearest_for size o is ≡ nearest size r is
  same-remainder size None r is h = absurd (true≢false (sym h))
  same-remainder size (Some n) r is h = ap (λ k. nearest size k is) (eqb-true (n.serial % size) r h)

  nearest-below : (size r : ℕ) (is : List (Item C)) → left_of (nearest size r is) ≤ length is
  nearest-below size r [] = omega arith
  nearest-below size r (i ∷ is) = from (leaves size r i.undoes) (nearest-below size r is)
    where
      from : (t : Bool) → left_of (nearest size r is) ≤ length is → left_of (if t then Some (length is) else nearest size r is) ≤ suc (length is)
      from true h = omega arith
      from false h = omega (arith, h)

  next-is : (name : Name) (size lo : ℕ) (rs : List Span) (all : List (Item C)) (left : ℕ) (h : Stands (Some name) size (name.serial % size) lo rs all left) (next : List (Option ℕ)) (d : Option ℕ)
      → next ≡ chain size all → nearest size (name.serial % size) h.rest ≡ get_or next left d
  next-is name size lo rs all left h next d n =
      sym (ap (λ xs. get_or xs left d) n ∙ ap (λ xs. get_or (chain size xs) left d) h.all_is ∙ ap (λ k. get_or (chain size (h.front ++ h.item ∷ h.rest)) k d) (sym h.left_is)
      ∙ chain-at size h.front h.item h.rest d ∙ same-remainder size h.item.undoes (name.serial % size) h.rest h.undoes)

  -- each step of a search leaves fewer items
  pub next-less : (name : Name) (size lo : ℕ) (rs : List Span) (all : List (Item C)) (left : ℕ) (h : Stands (Some name) size (name.serial % size) lo rs all left) (next : List (Option ℕ)) (d : Option ℕ)
      → next ≡ chain size all → left_of (get_or next left d) < suc left
  next-less name size lo rs all left h next d n =
      let b = nearest-below size (name.serial % size) h.rest in
      subst (λ o. left_of o < suc left) (next-is name size lo rs all left h next d n) (omega (arith, b, h.left_is))

  -- where the item is not the mirror, or stands before place `lo`, the search goes on
  past-item : (name : Name) (lo : ℕ) (rs : List Span) (item : Item C) (rest : List (Item C)) (place : ℕ) → (nat_lt lo (suc place) && (one_step (Some name) item.undoes && may_mirror rs item.map)) ≡ false
      → later_in (Some name) rs (drop (lo - place) (item ∷ rest)) ≡ past (1 - (lo - place)) (later_in (Some name) rs (drop (lo - suc place) rest))
  past-item name lo rs item rest place e = ⊎_elim
      (λ (l : lo < suc place).
      let z : lo - place ≡ 0 = omega (arith, l) in
      let y : lo - suc place ≡ 0 = omega (arith, l) in
      let miss : (one_step (Some name) item.undoes && may_mirror rs item.map) ≡ false = rw (lt-ltb lo (suc place) l) at e in
      rw (z, y) (later-past name rs item rest miss))
      (λ (l : suc place ≤ lo).
      let z : lo - place ≡ suc (lo - suc place) = omega (arith, l) in
      let y : 1 - suc (lo - suc place) ≡ 0 = omega arith in
      rw (z, y) (past-zero (later_in (Some name) rs (drop (lo - suc place) rest))))
      (cases_lt lo (suc place))

  pub front-long : (n : Option Name) (size r lo : ℕ) (rs : List Span) (all : List (Item C)) (left : ℕ) (h : Stands n size r lo rs all left) → (length all - 1) - left ≡ length h.front
  front-long n size r lo rs all left h =
      let long : length all ≡ length h.front + suc (length h.rest) = ap length h.all_is ∙ length-append h.front (h.item ∷ h.rest) in
      omega (arith, long, h.left_is)

  pub reaches-next : (name : Name) (size lo : ℕ) (rs : List Span) (all : List (Item C)) (left place : ℕ) (h : Stands (Some name) size (name.serial % size) lo rs all left) (next : List (Option ℕ))
      (d : Option ℕ) → next ≡ chain size all → place ≡ (length all - 1) - left
      → (nat_lt lo (suc place) && (one_step (Some name) h.item.undoes && may_mirror rs h.item.map)) ≡ false → Reaches (Some name) size (name.serial % size) lo rs all (get_or next left d)
  reaches-next name size lo rs all left place h next d n p e =
      let at : place ≡ length h.front = p ∙ front-long (Some name) size (name.serial % size) lo rs all left h in
      subst (Reaches (Some name) size (name.serial % size) lo rs all) (next-is name size lo rs all left h next d n)
      (behind-item (Some name) size (name.serial % size) lo rs all left h (nearest size (name.serial % size) h.rest)
      (past-item name lo rs h.item h.rest (length h.front) (subst (λ (k : ℕ). (nat_lt lo (suc k) && (one_step (Some name) h.item.undoes && may_mirror rs h.item.map)) ≡ false) at e))
      (reaches-first name size (lo - suc (length h.front)) rs h.rest))

  pub left-below : (n : Option Name) (size r lo : ℕ) (rs : List Span) (all : List (Item C)) (left : ℕ) → Stands n size r lo rs all left → left < length all
  left-below n size r lo rs all left h =
      let long : length all ≡ length h.front + suc (length h.rest) = ap length h.all_is ∙ length-append h.front (h.item ∷ h.rest) in
      omega (arith, long, h.left_is)

  -- the item at its place
  pub item-there : (n : Option Name) (size r lo : ℕ) (rs : List Span) (all : List (Item C)) (left place : ℕ) (h : Stands n size r lo rs all left) → place ≡ (length all - 1) - left
      → h.item ≡ get_or all place h.item
  item-there n size r lo rs all left place h p =
      sym (get_or-append_seam h.front h.item h.rest h.item) ∙ ap (λ k. get_or (h.front ++ h.item ∷ h.rest) k h.item) (sym (p ∙ front-long n size r lo rs all left h))
      ∙ ap (λ xs. get_or xs place h.item) (sym h.all_is)

  -- where it is the mirror, that is found
  pub mirror-there : (name : Name) (size lo : ℕ) (rs : List Span) (all : List (Item C)) (left place : ℕ) (h : Stands (Some name) size (name.serial % size) lo rs all left) → place ≡ (length all - 1) - left
      → lo ≤ place → (one_step (Some name) h.item.undoes && may_mirror rs h.item.map) ≡ true → Some (place - lo) ≡ later_in (Some name) rs (drop lo all)
  mirror-there name size lo rs all left place h p l e =
      let at : place ≡ length h.front = p ∙ front-long (Some name) size (name.serial % size) lo rs all left h in
      let none : lo - length h.front ≡ 0 = omega (arith, at, l) in
      let hit : later_in (Some name) rs (h.item ∷ h.rest) ≡ Some 0 = ap (λ t. if t then Some 0 else one_more (later_in (Some name) rs h.rest)) e in
      ap Some (plus place (length h.front) at) ∙ sym (h.same ∙ ap (λ k. past (length h.front - lo) (later_in (Some name) rs (drop k (h.item ∷ h.rest)))) none ∙ ap (past (length h.front - lo)) hit)
    where
      plus : (a b : ℕ) → a ≡ b → a - lo ≡ (b - lo) + 0
      plus a b e = omega (arith, e)

-- a step without a name has no mirror
pub later-none : {C : Type 0} (rs : List Span) (is : List (Item C)) → later_in None rs is ≡ None
later-none rs [] = refl
later-none rs (i ∷ is) = ap one_more (later-none rs is)

-- nor has any where no item undoes a step
pub later-untold : {C : Type 0} (n : Option Name) (rs : List Span) (is : List (Item C)) → Each (λ i. i.undoes ≡ None) is → later_in n rs is ≡ None
later-untold n rs [] h = refl
later-untold n rs (i ∷ is) h =
    ap (λ t. if t then Some 0 else one_more (later_in n rs is)) (and-first (one_step n i.undoes) (may_mirror rs i.map) (ap (one_step n) h.0 ∙ nobody n)) ∙ ap one_more (later-untold n rs is h.1)
  where
    nobody : (n : Option Name) → one_step n None ≡ false
    nobody None = refl
    nobody (Some a) = refl

-- A table with an item more at the front.
pub table-put : {C : Type 0} (i : Item C) (is : List (Item C)) (old new : Undoers) (n : Name) → IsTableOf old is → i.undoes ≡ Some n
    → new.nearest.items ≡ set old.nearest.items (n.serial % length old.nearest.items) (Some (length is))
    → new.next.items ≡ old.next.items ++ get_or old.nearest.items (n.serial % length old.nearest.items) None ∷ [] → IsTableOf new (i ∷ is)
table-put i is old new n h u a b =
    let size = length old.nearest.items in
    let r = n.serial % size in
    let same : length new.nearest.items ≡ size = ap length a ∙ length-set old.nearest.items r (Some (length is)) in
    let below : r < size = mod-lt n.serial h.some in
    record {
      some = subst (λ (k : ℕ). 0 < k) (sym same) h.some;
      nearest_are = λ q l. ap (λ xs. get_or xs q None) a ∙ at q (subst (λ (k : ℕ). q < k) same l) ∙ ap (λ k. nearest k q (i ∷ is)) (sym same);
      next_are = b ∙ ap (λ xs. xs ++ get_or old.nearest.items r None ∷ []) h.next_are ∙ ap (λ x. chain size is ++ x ∷ []) (h.nearest_are r below ∙ ap (λ o. nearest_for size o is) (sym u))
          ∙ ap (λ k. chain k (i ∷ is)) (sym same);
    }
  where
    at : (q : ℕ) → q < length old.nearest.items → get_or (set old.nearest.items (n.serial % length old.nearest.items) (Some (length is))) q None ≡ nearest (length old.nearest.items) q (i ∷ is)
    at q l =
        let size = length old.nearest.items in
        let r = n.serial % size in
        let is_at : (leaves size q i.undoes) ≡ (r == q) = ap (leaves size q) u in
        from (r == q) refl ∙ sym (ap (λ t. if t then Some (length is) else nearest size q is) is_at)
      where
        from : (t : Bool) → (n.serial % length old.nearest.items == q) ≡ t
            → get_or (set old.nearest.items (n.serial % length old.nearest.items) (Some (length is))) q None ≡ (if t then Some (length is) else nearest (length old.nearest.items) q is)
        from true e =
            let same = eqb-true (n.serial % length old.nearest.items) q e in
            get_or-set_at old.nearest.items (n.serial % length old.nearest.items) q (Some (length is)) None (sym same) (mod-lt n.serial h.some)
        from false e =
            get_or-set_other old.nearest.items (n.serial % length old.nearest.items) q (Some (length is)) None (λ same. eqb-false (n.serial % length old.nearest.items) q e (sym same)) ∙ h.nearest_are q l

-- The table of no item.
pub table-none : {C : Type 0} (is : List (Item C)) (u : Undoers) (size : ℕ) → 0 < size → u.nearest.items ≡ replicate size None → u.next.items ≡ [] → is ≡ [] → IsTableOf u is
table-none [] u size h a b e =
    let long : length u.nearest.items ≡ size = ap length a ∙ length-replicate {A = Option ℕ} size None in
    record {
      some = subst (λ (k : ℕ). 0 < k) (sym long) h;
      nearest_are = λ r l. ap (λ xs. get_or xs r None) a ∙ get_or-replicate size r None None (subst (λ (k : ℕ). r < k) long l);
      next_are = b;
    }
table-none (i ∷ is) u size h a b e = absurd (cc)

pub table-past : {C : Type 0} (i : Item C) (is : List (Item C)) (old new : Undoers) → IsTableOf old is → i.undoes ≡ None → new.nearest.items ≡ old.nearest.items
    → new.next.items ≡ old.next.items ++ None ∷ [] → IsTableOf new (i ∷ is)
table-past i is old new h u a b =
    let size = length old.nearest.items in
    let same : length new.nearest.items ≡ size = ap length a in
    record {
      some = subst (λ (k : ℕ). 0 < k) (sym same) h.some;
      nearest_are = λ q l. ap (λ xs. get_or xs q None) a ∙ h.nearest_are q (subst (λ (k : ℕ). q < k) same l)
          ∙ sym (ap (λ o. if leaves size q o then Some (length is) else nearest size q is) u) ∙ ap (λ k. nearest k q (i ∷ is)) (sym same);
      next_are = b ∙ ap (λ xs. xs ++ None ∷ []) h.next_are ∙ ap (λ o. chain size is ++ nearest_for size o is ∷ []) (sym u) ∙ ap (λ k. chain k (i ∷ is)) (sym same);
    }
