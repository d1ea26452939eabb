-- Nodes in shared chunks: what follows from their values and sizes.
use Rattle.std.specs.Prelude.{◌≡◌, ℕ, ◌+◌, ◌-◌, ◌≤◌, ◌<◌, ◌^◌, true, false, Some, List, [], ◌∷◌, ◌++◌, length, take, drop, set, get_or}
use Rattle.std.specs.declared.sync.Arc.{Arc}
use Rattle.std.specs.declared.alloc.Global.{Global}
use Rattle.std.specs.Arc.{arc_value}
use Rattle.std.proofs.Common.{zero, suc, refl, ap, sym, ◌∙◌, subst, arith, append_assoc, length-append}
use Rattle.pm_tokens.specs.Tokens.{Token}
use Rattle.pm_tokens.specs.Scan.{Balanced, none, part}
use Rattle.pm_sized.specs.declared.chunks.Chunks.{Chunks}
use Rattle.pm_sized.specs.Pairs.{pairs_of, total_of, IsLaid, Stands as StandsAmong}
use Rattle.pm_sized.specs.Parts.{items_in, values_in, all_but_last}
use Rattle.pm_sized.proofs.PairLaws.{total_of-append}
use Rattle.pm_sized.proofs.PartLaws.{values-append, values-take, values-part, length-values, total-values, part-none, length-part}
use Rattle.pm_node.specs.declared.node.Node.{Node}
use Rattle.pm_node.specs.Trees.{node_tokens, list_tokens, Meets, Apart, Joined, IsNormal, WholeBody, EachWhole, Form}
use Rattle.pm_node.specs.Among.{Stands}
use Rattle.pm_node.specs.Chunks.{nodes_of, EachSized, IsBorrowed, IsKept, Follows, Begun}
use Rattle.std.proofs.lemmas.List.{append-nil, take_all, drop_more, get_or_default}
use Rattle.pm_node.proofs.TreeLaws.{list_tokens-append, list_tokens-push, form-push, form-last, set_last, tokens-last, last_of, each-append}
use Rattle.pm_node.proofs.RunLaws.{part-at, part-one, run-room, normal-run, each-run, whole-nodes}
use Rattle.pm_tokens.proofs.BalanceLaws.{balanced-append}
use Rattle.pm_node.proofs.WalkLaws.{front, front-more, normal-rest}

-- items, one after another
pub items-append : {T : Type 0} (ps qs : List (T × ℕ)) → items_in (ps ++ qs) ≡ items_in ps ++ items_in qs
items-append [] qs = refl
items-append (p ∷ ps) qs = ap (λ z. p.0 ∷ z) (items-append ps qs)

pub length-items : {T : Type 0} (ps : List (T × ℕ)) → length (items_in ps) ≡ length ps
length-items [] = refl
length-items (p ∷ ps) = omega (arith, length-items ps)

pub items-take : {T : Type 0} (n : ℕ) (ps : List (T × ℕ)) → items_in (take n ps) ≡ take n (items_in ps)
items-take zero ps = refl
items-take (suc n) [] = refl
items-take (suc n) (p ∷ ps) = ap (λ z. p.0 ∷ z) (items-take n ps)

pub items-drop : {T : Type 0} (n : ℕ) (ps : List (T × ℕ)) → items_in (drop n ps) ≡ drop n (items_in ps)
items-drop zero ps = refl
items-drop (suc n) [] = refl
items-drop (suc n) (p ∷ ps) = items-drop n ps

pub items-part : {T : Type 0} (f t : ℕ) (ps : List (T × ℕ)) → items_in (part f t ps) ≡ part f t (items_in ps)
items-part f t ps = items-take (t - f) (drop f ps) ∙ ap (λ z. take (t - f) z) (items-drop f ps)

pub item-of : {T : Type 0} (ps : List (T × ℕ)) (i : ℕ) (x : T) → (get_or {A = T × ℕ} ps i (x, 0)).0 ≡ get_or (items_in ps) i x
item-of [] i x = refl
item-of (p ∷ ps) zero x = refl
item-of (p ∷ ps) (suc i) x = item-of ps i x

-- the sum of the measures is the number of the tokens
pub total-sized : {Z : Type 0} (ps : List (Arc Node Z × ℕ)) → EachSized ps → total_of ps ≡ length (list_tokens (items_in ps))
total-sized [] h = refl
total-sized (p ∷ ps) h = omega (arith, h.0, total-sized ps h.1, length-append (node_tokens (arc_value p.0)) (list_tokens (items_in ps)))

pub sized-take : {Z : Type 0} (n : ℕ) (ps : List (Arc Node Z × ℕ)) → EachSized ps → EachSized (take n ps)
sized-take zero ps h = tt
sized-take (suc n) [] h = tt
sized-take (suc n) (p ∷ ps) h = (h.0, sized-take n ps h.1)

pub sized-drop : {Z : Type 0} (n : ℕ) (ps : List (Arc Node Z × ℕ)) → EachSized ps → EachSized (drop n ps)
sized-drop zero ps h = h
sized-drop (suc n) [] h = tt
sized-drop (suc n) (p ∷ ps) h = sized-drop n ps h.1

pub sized-append : {Z : Type 0} (ps qs : List (Arc Node Z × ℕ)) → EachSized ps → EachSized qs → EachSized (ps ++ qs)
sized-append [] qs h k = k
sized-append (p ∷ ps) qs h k = (h.0, sized-append ps qs h.1 k)

-- the sum of the first measures is the number of the first tokens
pub total-front : {Z : Type 0} (n : ℕ) (ps : List (Arc Node Z × ℕ)) → EachSized ps → total_of (take n ps) ≡ length (list_tokens (take n (items_in ps)))
total-front n ps h = total-sized (take n ps) (sized-take n ps h) ∙ ap (λ z. length (list_tokens z)) (items-take n ps)

-- Nodes with the same values: their tokens, their sizes, and their form.
module _ {Z : Type 0} where
  pub tokens-along : (ps qs : List (Arc Node Z × ℕ)) → values_in ps ≡ values_in qs → list_tokens (items_in ps) ≡ list_tokens (items_in qs)
  tokens-along [] [] e = refl
  tokens-along [] (q ∷ qs) e = absurd (omega (arith, ap length e))
  tokens-along (p ∷ ps) [] e = absurd (omega (arith, ap length e))
  tokens-along (p ∷ ps) (q ∷ qs) e =
      let k : ◌≡◌ {A = Node × ℕ} (arc_value p.0, p.1) (arc_value q.0, q.1) = cc in
      let r : values_in ps ≡ values_in qs = cc in
      ap (λ z. node_tokens z.0 ++ list_tokens (items_in ps)) k ∙ ap (λ z. node_tokens (arc_value q.0) ++ z) (tokens-along ps qs r)

  pub sized-along : (ps qs : List (Arc Node Z × ℕ)) → values_in ps ≡ values_in qs → EachSized qs → EachSized ps
  sized-along [] qs e h = tt
  sized-along (p ∷ ps) [] e h = absurd (omega (arith, ap length e))
  sized-along (p ∷ ps) (q ∷ qs) e h =
      let k : ◌≡◌ {A = Node × ℕ} (arc_value p.0, p.1) (arc_value q.0, q.1) = cc in
      let r : values_in ps ≡ values_in qs = cc in
      let P : Node × ℕ → Type 0 = λ z. z.1 ≡ length (node_tokens z.0) in
      (subst P (sym k) h.0, sized-along ps qs r h.1)

  apart-along : (n m : Node) (ps qs : List (Arc Node Z × ℕ)) → n ≡ m → values_in ps ≡ values_in qs → Apart m (items_in qs) → Apart n (items_in ps)
  apart-along n m [] qs e f h = tt
  apart-along n m (p ∷ ps) [] e f h = absurd (omega (arith, ap length f))
  apart-along n m (p ∷ ps) (q ∷ qs) e f h =
      let k : ◌≡◌ {A = Node × ℕ} (arc_value p.0, p.1) (arc_value q.0, q.1) = cc in
      let P : Node → Type 0 = λ z. ¬ Meets z (arc_value p.0) in
      let Q : Node × ℕ → Type 0 = λ z. ¬ Meets m z.0 in
      subst P (sym e) (subst Q (sym k) h)

  pub normal-along : (ps qs : List (Arc Node Z × ℕ)) → values_in ps ≡ values_in qs → IsNormal (items_in qs) → IsNormal (items_in ps)
  normal-along [] qs e h = tt
  normal-along (p ∷ ps) [] e h = absurd (omega (arith, ap length e))
  normal-along (p ∷ ps) (q ∷ qs) e h =
      let k : ◌≡◌ {A = Node × ℕ} (arc_value p.0, p.1) (arc_value q.0, q.1) = cc in
      let r : values_in ps ≡ values_in qs = cc in
      let P : Node × ℕ → Type 0 = λ z. 0 < length (node_tokens z.0) in
      (subst P (sym k) h.0, apart-along (arc_value p.0) (arc_value q.0) ps qs (ap (λ z. z.0) k) r h.1, normal-along ps qs r h.2)

  pub each-along : (ps qs : List (Arc Node Z × ℕ)) → values_in ps ≡ values_in qs → EachWhole (items_in qs) → EachWhole (items_in ps)
  each-along [] qs e h = tt
  each-along (p ∷ ps) [] e h = absurd (omega (arith, ap length e))
  each-along (p ∷ ps) (q ∷ qs) e h =
      let k : ◌≡◌ {A = Node × ℕ} (arc_value p.0, p.1) (arc_value q.0, q.1) = cc in
      let r : values_in ps ≡ values_in qs = cc in
      let P : Node × ℕ → Type 0 = λ z. WholeBody z.0.body in
      (subst P (sym k) h.0, each-along ps qs r h.1)

  pub form-along : (size : ℕ) (ps qs : List (Arc Node Z × ℕ)) → values_in ps ≡ values_in qs → Form size (items_in qs) → Form size (items_in ps)
  form-along size ps qs e f =
      let t = tokens-along ps qs e in
      record {
        counted = f.counted ∙ ap length (sym t);
        bounded = f.bounded;
        whole = subst Balanced (sym t) f.whole;
        normal = normal-along ps qs e f.normal;
        each = each-along ps qs e f.each;
      }

-- a place among pairs is a place among nodes
pub stands-sized : {Z : Type 0} (ps : List (Arc Node Z × ℕ)) (pos index start : ℕ) → EachSized ps → pos ≤ total_of ps → StandsAmong ps pos index start → Stands (items_in ps) pos index (pos - start)
stands-sized ps pos index start h l s = record {
  within = omega (arith, s.within, length-items ps);
  offset = omega (arith, s.start_is, s.reached, total-front index ps h);
  at_end = λ e. omega (arith, l, s.start_is, ap total_of (take_all index ps (omega (arith, e, length-items ps))));
  inside = λ x lt is.
      omega (
        arith,
        s.next (omega (arith, lt, length-items ps)),
        s.start_is,
        s.reached,
        total-front (index + 1) ps h,
        total-front index ps h,
        ap length (front-more (items_in ps) index x lt is),
        length-append (front (items_in ps) index) (node_tokens (arc_value x)),
      );
}

pub kept-none : (t : Chunks (Arc Node Global)) → IsLaid t → pairs_of t ≡ [] → IsKept t
kept-none t l e =
    let empty : Form {Z = Global} 0 [] = record { counted = refl; bounded = omega arith; whole = none; normal = tt; each = tt } in
    record {
      laid = l;
      sized = subst EachSized (sym e) tt;
      form = subst (λ z. Form (total_of z) (items_in z)) (sym e) empty;
    }

-- one node more, which the last one does not meet
pub kept-push : (s t : Chunks (Arc Node Global)) (y : Arc Node Global) (n : ℕ) → IsKept s → IsLaid t → values_in (pairs_of t) ≡ values_in (pairs_of s) ++ (arc_value y, n) ∷ [] → n ≡ length (node_tokens (arc_value y)) → 0 < n → length (list_tokens (nodes_of s)) + n < 2 ^ 32 → Balanced (node_tokens (arc_value y)) → WholeBody (arc_value y).body → Follows (nodes_of s) (arc_value y) false → IsKept t
kept-push s t y n k l e size some room b w apart =
    let qs = pairs_of s ++ (y, n) ∷ [] in
    let same : values_in (pairs_of t) ≡ values_in qs = e ∙ sym (values-append (pairs_of s) ((y, n) ∷ [])) in
    let total : total_of (pairs_of t) ≡ total_of (pairs_of s) + n = omega (arith, total-values (pairs_of t), ap total_of same, total-values qs, total_of-append (pairs_of s) ((y, n) ∷ [])) in
    let form : Form (total_of (pairs_of s) + n) (nodes_of s ++ y ∷ []) = form-push (total_of (pairs_of s)) (nodes_of s) y n k.form size some (omega (arith, k.form.counted, room)) b w (λ x front is. apart front x is) in
    let form-q : Form (total_of (pairs_of t)) (items_in qs) = subst (λ z. Form (total_of (pairs_of t)) z) (sym (items-append (pairs_of s) ((y, n) ∷ []))) (subst (λ z. Form z (nodes_of s ++ y ∷ [])) (sym total) form) in
    record {
      laid = l;
      sized = sized-along (pairs_of t) qs same (sized-append (pairs_of s) ((y, n) ∷ []) k.sized (size, tt));
      form = form-along (total_of (pairs_of t)) (pairs_of t) qs same form-q;
    }

pub tokens-push : (s t : Chunks (Arc Node Global)) (y : Arc Node Global) (n : ℕ) → values_in (pairs_of t) ≡ values_in (pairs_of s) ++ (arc_value y, n) ∷ [] → list_tokens (nodes_of t) ≡ list_tokens (nodes_of s) ++ node_tokens (arc_value y)
tokens-push s t y n e =
    let qs = pairs_of s ++ (y, n) ∷ [] in
    tokens-along (pairs_of t) qs (e ∙ sym (values-append (pairs_of s) ((y, n) ∷ []))) ∙ (ap list_tokens (items-append (pairs_of s) ((y, n) ∷ [])) ∙ list_tokens-push (nodes_of s) y)

-- another last node, which is joined of the one that was there and of z
module _ (s t : Chunks (Arc Node Global)) (x y : Arc Node Global) (z : Node) (i m n : ℕ) (k : IsKept s) (l : IsLaid t) (e : values_in (pairs_of t) ≡ all_but_last (values_in (pairs_of s)) ++ (arc_value y, m) ∷ []) (at : i + 1 ≡ length (nodes_of s)) (is : x ≡ get_or (nodes_of s) i x) (j : Joined (arc_value x) z (Some (arc_value y))) (size : m ≡ length (node_tokens (arc_value y))) (n-is : n ≡ length (node_tokens z)) (some : 0 < n) (room : length (list_tokens (nodes_of s)) + n < 2 ^ 32) (b : Balanced (node_tokens z)) where
  last-same : values_in (pairs_of t) ≡ values_in (all_but_last (pairs_of s) ++ (y, m) ∷ [])
  last-same =
      let ps = pairs_of s in
      let c : length (values_in ps) - 1 ≡ length ps - 1 = omega (arith, length-values ps) in
      e ∙ (ap (λ w. take w (values_in ps) ++ (arc_value y, m) ∷ []) c ∙ (ap (λ w. w ++ (arc_value y, m) ∷ []) (sym (values-take (length ps - 1) ps)) ∙ sym (values-append (all_but_last ps) ((y, m) ∷ []))))

  last-items : items_in (all_but_last (pairs_of s) ++ (y, m) ∷ []) ≡ set (nodes_of s) i y
  last-items =
      let ps = pairs_of s in
      let c : length ps - 1 ≡ i = omega (arith, at, length-items ps) in
      items-append (all_but_last ps) ((y, m) ∷ []) ∙ (ap (λ w. w ++ y ∷ []) (items-take (length ps - 1) ps ∙ ap (λ w. take w (nodes_of s)) c) ∙ sym (set_last (nodes_of s) i y at))

  pub last-tokens : list_tokens (nodes_of t) ≡ list_tokens (nodes_of s) ++ node_tokens z
  last-tokens =
      tokens-along (pairs_of t) (all_but_last (pairs_of s) ++ (y, m) ∷ []) last-same ∙ (ap list_tokens last-items ∙ tokens-last (nodes_of s) i x y (node_tokens z) at is j.0)

  pub kept-last : IsKept t
  kept-last =
      let ps = pairs_of s in
      let qs = all_but_last ps ++ (y, m) ∷ [] in
      let sized = sized-along (pairs_of t) qs last-same (sized-append (all_but_last ps) ((y, m) ∷ []) (sized-take (length ps - 1) ps k.sized) (size, tt)) in
      let total : total_of (pairs_of t) ≡ total_of (pairs_of s) + n =
      omega (arith, total-sized (pairs_of t) sized, ap length last-tokens, length-append (list_tokens (nodes_of s)) (node_tokens z), k.form.counted, n-is) in
      let form : Form (total_of (pairs_of s) + n) (set (nodes_of s) i y) = form-last (total_of (pairs_of s)) (nodes_of s) i x y z n k.form at is j n-is some (omega (arith, k.form.counted, room)) b in
      record {
        laid = l;
        sized = sized;
        form = form-along (total_of (pairs_of t)) (pairs_of t) qs last-same (subst (λ w. Form (total_of (pairs_of t)) w) (sym last-items) (subst (λ w. Form w (set (nodes_of s) i y)) (sym total) form));
      }

-- a run of nodes after others, whose last one does not meet the first of them
pub normal-join : {Z : Type 0} (xs ys : List (Arc Node Z)) → IsNormal xs → IsNormal ys → ((front rest : List (Arc Node Z)) (x y : Arc Node Z) → xs ≡ front ++ (x ∷ []) → ys ≡ y ∷ rest → ¬ Meets (arc_value x) (arc_value y)) → IsNormal (xs ++ ys)
normal-join [] ys n m h = m
normal-join (x ∷ []) [] n m h = n
normal-join (x ∷ []) (y ∷ ys) n m h = (n.0, h [] ys x y refl refl, m)
normal-join (x ∷ (w ∷ xs)) ys n m h = (n.0, n.1, normal-join (w ∷ xs) ys n.2 m (λ front rest v y e f. h (x ∷ front) rest v y (ap (λ z. x ∷ z) e) f))

pub kept-run : (s t src : Chunks (Arc Node Global)) (i u : ℕ) → IsKept s → IsLaid t → IsBorrowed src → IsNormal (nodes_of src) → EachWhole (nodes_of src) → values_in (pairs_of t) ≡ values_in (pairs_of s) ++ part i u (values_in (pairs_of src)) → length (list_tokens (nodes_of s)) + length (list_tokens (part i u (nodes_of src))) < 2 ^ 32 → ((front rest : List (Arc Node Global)) (x y : Arc Node Global) → nodes_of s ≡ front ++ (x ∷ []) → part i u (nodes_of src) ≡ y ∷ rest → ¬ Meets (arc_value x) (arc_value y)) → IsKept t
kept-run s t src i u k l b normal each e room apart =
    let ps = pairs_of s in
    let rs = part i u (pairs_of src) in
    let qs = ps ++ rs in
    let ns = part i u (nodes_of src) in
    let same : values_in (pairs_of t) ≡ values_in qs = e ∙ (ap (λ z. values_in ps ++ z) (sym (values-part i u (pairs_of src))) ∙ sym (values-append ps rs)) in
    let items : items_in qs ≡ nodes_of s ++ ns = items-append ps rs ∙ ap (λ z. nodes_of s ++ z) (items-part i u (pairs_of src)) in
    let sized = sized-along (pairs_of t) qs same (sized-append ps rs k.sized (sized-take (u - i) (drop i (pairs_of src)) (sized-drop i (pairs_of src) b.sized))) in
    let tokens : list_tokens (items_in qs) ≡ list_tokens (nodes_of s) ++ list_tokens ns = ap list_tokens items ∙ list_tokens-append (nodes_of s) ns in
    let counted : total_of (pairs_of t) ≡ length (list_tokens (items_in qs)) = total-sized (pairs_of t) sized ∙ ap length (tokens-along (pairs_of t) qs same) in
    let each-ns = each-run i u (nodes_of src) each in
    let form : Form (total_of (pairs_of t)) (items_in qs) = record {
      counted = counted;
      bounded = omega (arith, counted, ap length tokens, length-append (list_tokens (nodes_of s)) (list_tokens ns), room);
      whole = subst Balanced (sym tokens) (balanced-append k.form.whole (whole-nodes ns each-ns));
      normal = subst IsNormal (sym items) (normal-join (nodes_of s) ns k.form.normal (normal-run i u (nodes_of src) normal) apart);
      each = subst EachWhole (sym items) (each-append (nodes_of s) ns k.form.each each-ns);
    } in
    record { laid = l; sized = sized; form = form-along (total_of (pairs_of t)) (pairs_of t) qs same form }

-- the same values
pub kept-values : (s t : Chunks (Arc Node Global)) → IsKept s → IsLaid t → values_in (pairs_of t) ≡ values_in (pairs_of s) → IsKept t
kept-values s t k l e =
    let total : total_of (pairs_of t) ≡ total_of (pairs_of s) = sym (total-values (pairs_of t)) ∙ (ap total_of e ∙ total-values (pairs_of s)) in
    record {
      laid = l;
      sized = sized-along (pairs_of t) (pairs_of s) e k.sized;
      form = form-along (total_of (pairs_of t)) (pairs_of t) (pairs_of s) e (subst (λ z. Form z (nodes_of s)) (sym total) k.form);
    }

-- the last of the nodes has the last of the values
last-value : {Z : Type 0} (ps : List (Arc Node Z × ℕ)) (front : List (Arc Node Z)) (x : Arc Node Z) (vs : List (Node × ℕ)) (n : Node) (m : ℕ) → values_in ps ≡ vs ++ (n, m) ∷ [] → items_in ps ≡ front ++ (x ∷ []) → arc_value x ≡ n
last-value [] front x vs n m e f = absurd (omega (arith, ap length f, length-append front (x ∷ [])))
last-value (p ∷ ps) [] x [] n m e f =
    let k : p.0 ≡ x = cc in
    let j : ◌≡◌ {A = Node × ℕ} (arc_value p.0, p.1) (n, m) = cc in
    sym (ap arc_value k) ∙ ap (λ z. z.0) j
last-value (p ∷ ps) [] x (v ∷ vs) n m e f = absurd (omega (arith, ap length e, ap length f, length-append vs ((n, m) ∷ []), length-items ps, length-values ps))
last-value (p ∷ ps) (a ∷ front) x [] n m e f = absurd (omega (arith, ap length e, ap length f, length-append front (x ∷ []), length-items ps, length-values ps))
last-value (p ∷ ps) (a ∷ front) x (v ∷ vs) n m e f =
    let k : values_in ps ≡ vs ++ (n, m) ∷ [] = cc in
    let j : items_in ps ≡ front ++ (x ∷ []) = cc in
    last-value ps front x vs n m k j

-- what the joined text meets, the second of the two meets
pub follows-joined : (t : Chunks (Arc Node Global)) (vs : List (Node × ℕ)) (n z a : Node) (m : ℕ) → values_in (pairs_of t) ≡ vs ++ (n, m) ∷ [] → Joined a z (Some n) → Follows (nodes_of t) z true
follows-joined t vs n z a m e j = λ front x is y meets.
    let r = subst (λ v. Meets v y) (last-value (pairs_of t) front x vs n m e is) meets in
    (j.2.1, r.1, sym j.2.2 ∙ r.2)

pub follows-apart : {Z : Type 0} (xs : List (Arc Node Z)) (y : Arc Node Z) (z : Node) (i : ℕ) → i + 1 ≡ length xs → y ≡ get_or xs i y → ¬ Meets (arc_value y) z → Follows xs z false
follows-apart xs y z i e r h = λ front x is. subst (λ v. ¬ Meets (arc_value v) z) (last_of xs front x y i e r is) h

pub follows-none : {Z : Type 0} (xs : List (Arc Node Z)) (z : Node) → length xs ≡ 0 → Follows xs z false
follows-none xs z h = λ front x is. absurd (omega (arith, h, ap length is, length-append front (x ∷ [])))

-- a joined text has room in the place of the last node
pub last-room : (s : Chunks (Arc Node Global)) (x : Arc Node Global) (n z : Node) (i m : ℕ) → IsKept s → i + 1 ≡ length (nodes_of s) → x ≡ get_or (nodes_of s) i x → Joined (arc_value x) z (Some n) → m ≡ length (node_tokens n) → length (list_tokens (nodes_of s)) + length (node_tokens z) < 2 ^ 32 → total_of (all_but_last (values_in (pairs_of s))) + m < 2 ^ 32
last-room s x n z i m k at is j size room =
    let ps = pairs_of s in
    let xs = nodes_of s in
    let c : length (values_in ps) - 1 ≡ i = omega (arith, at, length-values ps, length-items ps) in
    let a : total_of (all_but_last (values_in ps)) ≡ length (list_tokens (take i xs)) =
    ap (λ w. total_of (take w (values_in ps))) c ∙ (ap total_of (sym (values-take i ps)) ∙ (total-values (take i ps) ∙ total-front i ps k.sized)) in
    omega (
      arith,
      a,
      size,
      room,
      ap length j.0,
      length-append (node_tokens (arc_value x)) (node_tokens z),
      ap length (front-more xs i x (omega (arith, at)) is),
      length-append (front xs i) (node_tokens (arc_value x)),
      ap (λ v. length (list_tokens v)) (take_all (i + 1) xs (omega (arith, at))),
    )

-- where a child was joined, or there was none to join with
part-first : {Z : Type 0} (xs : List (Arc Node Z)) (i t : ℕ) (y : Arc Node Z) (rest : List (Arc Node Z)) → i < t → t ≤ length xs → part i t xs ≡ y ∷ rest → y ≡ get_or xs i y
part-first xs i t y rest h k e =
    let more = drop_more xs i y (omega (arith, h, k)) in
    let n : t - i ≡ suc (t - (i + 1)) = omega (arith, h) in
    let w : part i t xs ≡ get_or xs i y ∷ take (t - (i + 1)) (drop (i + 1) xs) = ap (λ z. take z (drop i xs)) n ∙ ap (take (suc (t - (i + 1)))) more in
    let u : y ∷ rest ≡ get_or xs i y ∷ take (t - (i + 1)) (drop (i + 1) xs) = sym e ∙ w in
    cc

part-empty : {Z : Type 0} (xs : List (Arc Node Z)) (i : ℕ) (y : Arc Node Z) (rest : List (Arc Node Z)) → part i i xs ≡ y ∷ rest → ⊥
part-empty xs i y rest e =
    let n : i - i ≡ 0 = omega arith in
    let u : [] ≡ y ∷ rest = sym (ap (λ z. take z (drop i xs)) n) ∙ e in
    omega (arith, ap length u)

-- a child in normal form does not meet the next one
neighbours : {Z : Type 0} (xs : List (Arc Node Z)) (from to : ℕ) (c y : Arc Node Z) (rest : List (Arc Node Z)) → IsNormal xs → from < to → to ≤ length xs → c ≡ get_or xs from c → part (from + 1) to xs ≡ y ∷ rest → ¬ Meets (arc_value c) (arc_value y)
neighbours xs from to c y rest normal h k is e =
    let n : from + 1 < to = omega (arith, h, ap length e, length-part (from + 1) to xs (omega (arith, h)) k) in
    let y-is = part-first xs (from + 1) to y rest n k e in
    let tail : drop (from + 1) xs ≡ y ∷ drop ((from + 1) + 1) xs = drop_more xs (from + 1) y (omega (arith, n, k)) ∙ ap (λ z. z ∷ drop ((from + 1) + 1) xs) (sym y-is) in
    let all : drop from xs ≡ c ∷ drop (from + 1) xs = drop_more xs from c (omega (arith, h, k)) ∙ ap (λ z. z ∷ drop (from + 1) xs) (sym is) in
    let g = subst IsNormal all (normal-rest xs from normal) in
    subst (Apart (arc_value c)) tail g.1

pub begun-none : {Z : Type 0} (xs ys : List (Arc Node Z)) (from : ℕ) → Begun (list_tokens ys) xs from from from ys
begun-none xs ys from = record {
  order = omega arith;
  within = omega arith;
  tokens = sym (ap (λ z. list_tokens ys ++ list_tokens z) (part-none from xs) ∙ append-nil (list_tokens ys));
  apart = λ front rest x y e f. absurd (part-empty xs from y rest f);
}

pub begun-apart : {Z : Type 0} (before : List Token) (xs ys : List (Arc Node Z)) (from to : ℕ) (c : Arc Node Z) (z : Node) → z ≡ arc_value c → from < to → to ≤ length xs → c ≡ get_or xs from c → list_tokens ys ≡ before → Follows ys z false → Begun before xs from to from ys
begun-apart before xs ys from to c z zc h k is e follows = record {
  order = omega arith;
  within = omega arith;
  tokens = e ∙ sym (ap (λ w. before ++ list_tokens w) (part-none from xs) ∙ append-nil before);
  apart = λ front rest x y f g.
      let y-is : y ≡ c = part-first xs from to y rest h k g ∙ (get_or_default xs from y c (omega (arith, h, k)) ∙ sym is) in
      subst (λ w. ¬ Meets (arc_value x) w) (zc ∙ sym (ap arc_value y-is)) (follows front x f);
}

pub begun-joined : {Z : Type 0} (before : List Token) (xs ys : List (Arc Node Z)) (from to : ℕ) (c : Arc Node Z) (z : Node) → z ≡ arc_value c → from < to → to ≤ length xs → IsNormal xs → c ≡ get_or xs from c → list_tokens ys ≡ before ++ node_tokens z → Follows ys z true → Begun before xs from to (from + 1) ys
begun-joined before xs ys from to c z zc h k normal is e follows = record {
  order = omega arith;
  within = omega (arith, h);
  tokens = e ∙ ap (λ w. before ++ w) (ap node_tokens zc ∙ sym (ap list_tokens (part-one from xs c (omega (arith, h, k)) is) ∙ append-nil (node_tokens (arc_value c))));
  apart = λ front rest x y f g meets. neighbours xs from to c y rest normal h k is g (subst (λ w. Meets w (arc_value y)) zc (follows front x f (arc_value y) meets));
}

-- children i..until after the nodes, where those begin with the children from..i
pub tokens-run : (s t src : Chunks (Arc Node Global)) (i u : ℕ) → values_in (pairs_of t) ≡ values_in (pairs_of s) ++ part i u (values_in (pairs_of src)) → list_tokens (nodes_of t) ≡ list_tokens (nodes_of s) ++ list_tokens (part i u (nodes_of src))
tokens-run s t src i u e =
    let ps = pairs_of s in
    let rs = part i u (pairs_of src) in
    let same : values_in (pairs_of t) ≡ values_in (ps ++ rs) = e ∙ (ap (λ z. values_in ps ++ z) (sym (values-part i u (pairs_of src))) ∙ sym (values-append ps rs)) in
    tokens-along (pairs_of t) (ps ++ rs) same
    ∙ (ap list_tokens (items-append ps rs ∙ ap (λ z. nodes_of s ++ z) (items-part i u (pairs_of src))) ∙ list_tokens-append (nodes_of s) (part i u (nodes_of src)))

module _ (s t src : Chunks (Arc Node Global)) (before : List Token) (xs : List (Arc Node Global)) (from to i u : ℕ) (is : nodes_of src ≡ xs) (b : Begun before xs from to i (nodes_of s)) (iu : i ≤ u) (ut : u ≤ to) (e : values_in (pairs_of t) ≡ values_in (pairs_of s) ++ part i u (values_in (pairs_of src))) where
  more-tokens : list_tokens (part from u xs) ≡ list_tokens (part from i xs) ++ list_tokens (part i u xs)
  more-tokens = ap list_tokens (part-at from i u xs b.order iu) ∙ list_tokens-append (part from i xs) (part i u xs)

  pub tokens-until : list_tokens (nodes_of t) ≡ before ++ list_tokens (part from u xs)
  tokens-until =
      tokens-run s t src i u e
      ∙ (ap (λ z. list_tokens (nodes_of s) ++ list_tokens (part i u z)) is
      ∙ (ap (λ z. z ++ list_tokens (part i u xs)) b.tokens
      ∙ (append_assoc before (list_tokens (part from i xs)) (list_tokens (part i u xs)) ∙ ap (λ z. before ++ z) (sym more-tokens))))

  pub kept-until : IsKept s → IsLaid t → IsBorrowed src → IsNormal xs → EachWhole xs → length before + length (list_tokens (part from to xs)) < 2 ^ 32 → IsKept t
  kept-until k l o normal each room =
      kept-run s t src i u k l o (subst IsNormal (sym is) normal) (subst EachWhole (sym is) each) e
      (omega (
        arith,
        room,
        ap length b.tokens,
        length-append before (list_tokens (part from i xs)),
        ap length more-tokens,
        length-append (list_tokens (part from i xs)) (list_tokens (part i u xs)),
        ap (λ z. length (list_tokens (part i u z))) is,
        run-room xs from u to (omega (arith, b.order, iu)) ut,
      ))
      (λ front rest x y f g.
      let h : part i u xs ≡ y ∷ rest = ap (λ z. part i u z) (sym is) ∙ g in
      b.apart front (rest ++ part u to xs) x y f (part-at i u to xs iu ut ∙ ap (λ z. z ++ part u to xs) h))

-- the children that are still to be put have room
pub total-run : (s src : Chunks (Arc Node Global)) (before : List Token) (xs : List (Arc Node Global)) (from to i : ℕ) → IsKept s → IsBorrowed src → nodes_of src ≡ xs → Begun before xs from to i (nodes_of s) → length before + length (list_tokens (part from to xs)) < 2 ^ 32 → total_of (values_in (pairs_of s)) + total_of (part i to (values_in (pairs_of src))) < 2 ^ 32
total-run s src before xs from to i k o is b room =
    let rs = part i to (pairs_of src) in
    let sized : EachSized rs = sized-take (to - i) (drop i (pairs_of src)) (sized-drop i (pairs_of src) o.sized) in
    let more : list_tokens (part from to xs) ≡ list_tokens (part from i xs) ++ list_tokens (part i to xs) = ap list_tokens (part-at from i to xs b.order b.within) ∙ list_tokens-append (part from i xs) (part i to xs) in
    omega (
      arith,
      room,
      total-values (pairs_of s),
      total-sized (pairs_of s) k.sized,
      ap length b.tokens,
      length-append before (list_tokens (part from i xs)),
      ap length more,
      length-append (list_tokens (part from i xs)) (list_tokens (part i to xs)),
      ap total_of (sym (values-part i to (pairs_of src))),
      total-values rs,
      total-sized rs sized,
      ap (λ z. length (list_tokens z)) (items-part i to (pairs_of src)),
      ap (λ z. length (list_tokens (part i to z))) is,
    )
