-- What the levels of a place tell: one for each node around the position.
use Rattle.std.specs.Prelude.{◌≡◌, ℕ, zero, suc, ◌+◌, ◌-◌, ◌≤◌, ◌<◌, Bool, false, ◌&&◌, nat_le, cond, None, List, [], ◌∷◌, ◌++◌, length, take, drop, map, get_or, slice_index}
use Rattle.std.specs.List.{list_any, filter}
use Rattle.std.proofs.Common.{◌==◌, refl, ap, sym, ◌∙◌, subst, arith, append_assoc, length-append, length-drop, inl, inr}
use Rattle.std.proofs.lemmas.Bool.{le-leb, lt-leb, cases_lt}
use Rattle.std.proofs.lemmas.List.{append-nil, get_or-map, length-map, nil_from_length, take_all, drop_all, at_drop_more}
use Rattle.std.proofs.lemmas.Grind.{get_or_after_one}
use Rattle.std.proofs.Math.Seq.{drop-append_seam, drop-append-add}
use Rattle.pm_tokens.specs.Tokens.{Token, Open, Close, Leaf, CodeUnit, Doc}
use Rattle.pm_tokens.specs.Scan.{depth_at, open_at, shared_depth, Balanced, none, leaf, unit, node}
use Rattle.pm_tokens.specs.Kids.{children}
use Rattle.pm_node.specs.declared.node.Node.{Node}
use Rattle.pm_node.specs.declared.node.Body.TheVariants.{Children}
use Rattle.pm_node.specs.Trees.{node_tokens}
use Rattle.pm_node.specs.Documents.{doc_of, content_tokens}
use Rattle.pm_node.proofs.TreeLaws.{node_tokens_at}
use Rattle.pm_resolve.specs.declared.level.Level.{Level}
use Rattle.pm_resolve.specs.Places.{up_to_close, first_node, opens_at, node_around, start_at, end_at, index_at, whole_tokens, ended, beside, marks_beside, marks_at}
use Rattle.pm_resolve.specs.Levels.{content_of, holds, IsLevel, Enters, Nested, lowest, deeper, Path}
use Rattle.pm_resolve.proofs.OpenLaws.{opens-depth, places-depth, opens-in, shared-in, shared-before, shared-behind}
use Rattle.pm_tokens.proofs.PairLaws.{and-right}

-- ---- up to a close

close-behind : (d : ℕ) {xs : List Token} → Balanced xs → (ys : List Token) → up_to_close d (xs ++ ys) ≡ xs ++ up_to_close d ys
close-behind d none ys = refl
close-behind d (leaf k a m b) ys = leaf-first d k a m _ ∙ ap (λ z. Leaf k a m ∷ z) (close-behind d b ys)
  where
    leaf-first : (d k : ℕ) (a : _) (m : _) (ts : List Token) → up_to_close d (Leaf k a m ∷ ts) ≡ Leaf k a m ∷ up_to_close d ts
    leaf-first zero k a m ts = refl
    leaf-first (suc d) k a m ts = refl
close-behind d (unit u m b) ys = ap (λ z. CodeUnit u m ∷ z) (close-behind d b ys)
close-behind d (node k a m {inner = inner} {ts = ts} i b) ys =
    ap (λ z. Open k a m ∷ z)
    (ap (up_to_close (suc d)) (append_assoc inner (Close ∷ ts) ys)
    ∙ (close-behind (suc d) i (Close ∷ (ts ++ ys)) ∙ (ap (λ z. inner ++ (Close ∷ z)) (close-behind d b ys) ∙ sym (append_assoc inner (Close ∷ ts) (up_to_close d ys)))))

-- ---- one step down

module _ {pos at inside : ℕ} {n m : Node} (e : Enters pos at n inside m) where
  inner-is : content_of m ≡ e.inner
  inner-is = ap (content_tokens m.marks) e.body

  node-is : node_tokens m ≡ Open m.kind m.attrs m.marks ∷ (e.inner ++ (Close ∷ []))
  node-is = node_tokens_at m (Children e.inner) e.body

  content-is : content_of n ≡ e.front ++ (Open m.kind m.attrs m.marks ∷ (e.inner ++ (Close ∷ e.rest)))
  content-is = e.tokens ∙ (ap (λ z. e.front ++ (z ++ e.rest)) node-is ∙ ap (λ z. e.front ++ (Open m.kind m.attrs m.marks ∷ z)) (append_assoc e.inner (Close ∷ []) e.rest))

  place-is : pos - at ≡ length e.front + suc (pos - inside)
  place-is = omega (arith, e.start, e.started)

  opens-down : opens_at (content_of n) (pos - at) ≡ length e.front ∷ map (λ o. suc (length e.front) + o) (opens_at (content_of m) (pos - inside))
  opens-down =
      ap (λ z. opens_at z (pos - at)) content-is
      ∙ (opens-in e.front e.inner e.rest m.kind m.attrs m.marks e.front_whole e.inner_whole (pos - at) (pos - inside) place-is e.within
      ∙ ap (λ z. length e.front ∷ map (λ o. suc (length e.front) + o) (opens_at z (pos - inside))) (sym inner-is))

  pub depth-down : depth_at (content_of n) (pos - at) ≡ suc (depth_at (content_of m) (pos - inside))
  depth-down =
      let x = opens_at (content_of m) (pos - inside) in
      omega (arith, opens-depth (content_of n) (pos - at), opens-depth (content_of m) (pos - inside), ap length opens-down, length-map x (λ o. suc (length e.front) + o))

  size-down : length (content_of n) ≡ length e.front + (length e.inner + (2 + length e.rest))
  size-down = omega (arith, ap length content-is, length-append e.front (Open m.kind m.attrs m.marks ∷ (e.inner ++ (Close ∷ e.rest))), length-append e.inner (Close ∷ e.rest))

  -- the place of an open in the child's content
  pub open-down : (d : ℕ) → d < depth_at (content_of m) (pos - inside) → slice_index (opens_at (content_of n) (pos - at)) (suc d) ≡ suc (length e.front) + slice_index (opens_at (content_of m) (pos - inside)) d
  open-down d h =
      ap (λ z. slice_index z (suc d)) opens-down ∙ get_or-map (λ o. suc (length e.front) + o) (opens_at (content_of m) (pos - inside)) d 0 0 (omega (arith, h, opens-depth (content_of m) (pos - inside)))

  pub open-here : slice_index (opens_at (content_of n) (pos - at)) 0 ≡ length e.front
  open-here = ap (λ z. slice_index z 0) opens-down

  -- the child, and what is after it, from its open on
  from-here : (post : List Token) → drop (length e.front) (content_of n ++ post) ≡ Open m.kind m.attrs m.marks ∷ (e.inner ++ (Close ∷ (e.rest ++ post)))
  from-here post =
      let y = Open m.kind m.attrs m.marks ∷ (e.inner ++ (Close ∷ e.rest)) in
      ap (λ z. drop (length e.front) (z ++ post)) content-is ∙ (ap (drop (length e.front)) (append_assoc e.front y post) ∙ (drop-append_seam e.front (y ++ post) ∙ ap (λ z. Open m.kind m.attrs m.marks ∷ z) (append_assoc e.inner (Close ∷ e.rest) post)))

  pub from-inside : (o : ℕ) (post : List Token) → drop (suc (length e.front) + o) (content_of n ++ post) ≡ drop o (content_of m ++ (Close ∷ (e.rest ++ post)))
  from-inside o post =
      let y = Open m.kind m.attrs m.marks ∷ (e.inner ++ (Close ∷ e.rest)) in
      let p : suc (length e.front) + o ≡ length e.front + suc o = omega arith in
      ap (λ q. drop q (content_of n ++ post)) p
      ∙ (ap (λ z. drop (length e.front + suc o) (z ++ post)) content-is
      ∙ (ap (drop (length e.front + suc o)) (append_assoc e.front y post)
      ∙ (drop-append-add e.front (y ++ post) (suc o)
      ∙ (ap (drop o) (append_assoc e.inner (Close ∷ e.rest) post) ∙ ap (λ z. drop o (z ++ (Close ∷ (e.rest ++ post)))) (sym inner-is)))))

  pub child-first : (top : Doc) (post : List Token) → first_node top (drop (length e.front) (content_of n ++ post)) ≡ doc_of m
  child-first top post =
      ap (first_node top) (from-here post)
      ∙ ap (λ z. record { kind = m.kind; attrs = m.attrs; marks = m.marks; tokens = z }) (close-behind 0 e.inner_whole (Close ∷ (e.rest ++ post)) ∙ (append-nil e.inner ∙ sym inner-is))

  child-whole : node_tokens m ≡ whole_tokens (doc_of m)
  child-whole = node-is ∙ ap (λ z. Open m.kind m.attrs m.marks ∷ (z ++ (Close ∷ []))) (sym inner-is)

-- ---- the levels

pub nested-length : {pos at : ℕ} {n : Node} {ls : List Level} → Nested pos at n ls → length ls ≡ suc (depth_at (content_of n) (pos - at))
nested-length (lowest at n l i h) = omega (arith, h)
nested-length (deeper at n l inside m ls i e r) = omega (arith, nested-length r, depth-down e)

nested-first : {pos at : ℕ} {n : Node} {ls : List Level} → Nested pos at n ls → (l₀ : Level) → (get_or ls 0 l₀).node.now ≡ n
nested-first (lowest at n l i h) l₀ = i.node
nested-first (deeper at n l inside m ls i e r) l₀ = i.node

pub nested-start : {pos at : ℕ} {n : Node} {ls : List Level} → Nested pos at n ls → (d : ℕ) (l₀ : Level) → d < length ls → (get_or ls d l₀).start ≡ at + start_at (doc_of n) (pos - at) d
nested-start (lowest at n l i h) zero l₀ lt = omega (arith, i.start)
nested-start (lowest at n l i h) (suc d) l₀ lt = absurd (omega (arith, lt))
nested-start (deeper at n l inside m ls i e r) zero l₀ lt = omega (arith, i.start)
nested-start (deeper at n l inside m ls i e r) (suc zero) l₀ lt = omega (arith, nested-start r 0 l₀ (omega (arith, lt)), e.start, open-here e)
nested-start (deeper at n l inside m ls i e r) (suc (suc d)) l₀ lt =
    omega (arith, nested-start r (suc d) l₀ (omega (arith, lt)), e.start, open-down e d (omega (arith, lt, nested-length r)))

nested-node : {pos at : ℕ} {n : Node} {ls : List Level} → Nested pos at n ls → (top : Doc) (post : List Token) (d : ℕ) (l₀ : Level) → suc d < length ls
    → first_node top (drop (slice_index (opens_at (content_of n) (pos - at)) d) (content_of n ++ post)) ≡ doc_of (get_or ls (suc d) l₀).node.now
nested-node (lowest at n l i h) top post d l₀ lt = absurd (omega (arith, lt))
nested-node {pos = pos} (deeper at n l inside m ls i e r) top post zero l₀ lt =
    ap (λ o. first_node top (drop o (content_of n ++ post))) (open-here e) ∙ (child-first e top post ∙ ap doc_of (sym (nested-first r l₀)))
nested-node {pos = pos} (deeper at n l inside m ls i e r) top post (suc d) l₀ lt =
    let o = slice_index (opens_at (content_of m) (pos - inside)) d in
    ap (λ o. first_node top (drop o (content_of n ++ post))) (open-down e d (omega (arith, lt, nested-length r)))
    ∙ (ap (first_node top) (from-inside e o post) ∙ nested-node r top (Close ∷ (e.rest ++ post)) d l₀ (omega (arith, lt)))

nested-whole : {pos at : ℕ} {n : Node} {ls : List Level} → Nested pos at n ls → (d : ℕ) (l₀ : Level) → suc d < length ls → node_tokens (get_or ls (suc d) l₀).node.now ≡ whole_tokens (doc_of (get_or ls (suc d) l₀).node.now)
nested-whole (lowest at n l i h) d l₀ lt = absurd (omega (arith, lt))
nested-whole (deeper at n l inside m ls i e r) zero l₀ lt = subst (λ v. node_tokens v ≡ whole_tokens (doc_of v)) (sym (nested-first r l₀)) (child-whole e)
nested-whole (deeper at n l inside m ls i e r) (suc d) l₀ lt = nested-whole r d l₀ (omega (arith, lt))

level-index : {pos at : ℕ} {n : Node} {l : Level} → IsLevel pos at n l → l.index ≡ ended (content_of l.node.now) (pos - l.start)
level-index {pos = pos} {at = at} {n = n} {l = l} i = i.index ∙ (ap (λ v. ended (content_of v) (pos - at)) (sym i.node) ∙ ap (λ s. ended (content_of l.node.now) (pos - s)) (sym i.start))

nested-index : {pos at : ℕ} {n : Node} {ls : List Level} → Nested pos at n ls → (d : ℕ) (l₀ : Level) → d < length ls → (get_or ls d l₀).index ≡ ended (content_of (get_or ls d l₀).node.now) (pos - (get_or ls d l₀).start)
nested-index (lowest at n l i h) zero l₀ lt = level-index i
nested-index (lowest at n l i h) (suc d) l₀ lt = absurd (omega (arith, lt))
nested-index (deeper at n l inside m ls i e r) zero l₀ lt = level-index i
nested-index (deeper at n l inside m ls i e r) (suc d) l₀ lt = nested-index r d l₀ (omega (arith, lt))

-- each content ends within that of the first
nested-end : {pos at : ℕ} {n : Node} {ls : List Level} → Nested pos at n ls → (d : ℕ) (l₀ : Level) → d < length ls → (get_or ls d l₀).start + length (content_of (get_or ls d l₀).node.now) ≤ at + length (content_of n)
nested-end (lowest at n l i h) zero l₀ lt = omega (arith, i.start, ap (λ v. length (content_of v)) i.node)
nested-end (lowest at n l i h) (suc d) l₀ lt = absurd (omega (arith, lt))
nested-end (deeper at n l inside m ls i e r) zero l₀ lt = omega (arith, i.start, ap (λ v. length (content_of v)) i.node)
nested-end (deeper at n l inside m ls i e r) (suc d) l₀ lt = omega (arith, nested-end r d l₀ (omega (arith, lt)), size-down e, e.start, ap length (inner-is e))

-- each content starts at or before the position
nested-within : {pos at : ℕ} {n : Node} {ls : List Level} → Nested pos at n ls → at ≤ pos → pos - at ≤ length (content_of n) → (d : ℕ) (l₀ : Level) → d < length ls
    → ((get_or ls d l₀).start ≤ pos) × (pos - (get_or ls d l₀).start ≤ length (content_of (get_or ls d l₀).node.now))
nested-within (lowest at n l i h) a b zero l₀ lt = (omega (arith, i.start), omega (arith, i.start, ap (λ v. length (content_of v)) i.node))
nested-within (lowest at n l i h) a b (suc d) l₀ lt = absurd (omega (arith, lt))
nested-within (deeper at n l inside m ls i e r) a b zero l₀ lt = (omega (arith, i.start), omega (arith, i.start, ap (λ v. length (content_of v)) i.node))
nested-within (deeper at n l inside m ls i e r) a b (suc d) l₀ lt = nested-within r e.started (omega (arith, e.within, ap length (inner-is e))) d l₀ (omega (arith, lt))

-- ---- the levels that another position stands in

-- how many of the levels, from the first on, a position stands in
abbrev pub held : ℕ → List Level → ℕ
held q [] = 0
held q (l ∷ ls) = cond (holds q l) (suc (held q ls)) 0

held-in : (q : ℕ) (l : Level) (ls : List Level) → l.start ≤ q → q ≤ l.start + length (content_of l.node.now) → held q (l ∷ ls) ≡ suc (held q ls)
held-in q l ls a b = rw (le-leb l.start q a, le-leb q (l.start + length (content_of l.node.now)) b) refl

held-before : (q : ℕ) (l : Level) (ls : List Level) → q < l.start → held q (l ∷ ls) ≡ 0
held-before q l ls a = rw (lt-leb l.start q a) refl

held-behind : (q : ℕ) (l : Level) (ls : List Level) → l.start + length (content_of l.node.now) < q → held q (l ∷ ls) ≡ 0
held-behind q l ls a = ap (λ b. cond (nat_le l.start q && b) (suc (held q ls)) 0) (lt-leb q (l.start + length (content_of l.node.now)) a) ∙ ap (λ b. cond b (suc (held q ls)) 0) (and-right (nat_le l.start q))

-- the levels after the first, and one of them
pub behind-first : (ls : List Level) → take (length ls - 1) (drop 1 ls) ≡ drop 1 ls
behind-first ls = take_all (length ls - 1) (drop 1 ls) (omega (arith, length-drop 1 ls))

pub inner-at : (ls : List Level) (i : ℕ) (l : Level) → get_or (drop 1 ls) i l ≡ get_or ls (i + 1) l
inner-at ls i l = get_or_after_one ls i l ∙ ap (λ k. get_or ls k l) (let e : 1 + i ≡ i + 1 = omega arith in e)

pub held-stop : (q : ℕ) (ls : List Level) (i : ℕ) (l : Level) → i < length ls → l ≡ get_or ls i l → holds q l ≡ false → held q (drop i ls) ≡ 0
held-stop q ls i l h e f = at_drop_more (held q) ls i l h ∙ (ap (λ v. held q (v ∷ drop (i + 1) ls)) (sym e) ∙ ap (λ b. cond b (suc (held q (drop (i + 1) ls))) 0) f)

pub held-rest : (q : ℕ) (ls : List Level) (i : ℕ) → length ls ≤ i → held q (drop i ls) ≡ 0
held-rest q ls i h = ap (held q) (drop_all i ls h)

shared-none : (ts : List Token) (p q : ℕ) → depth_at ts p ≡ 0 → shared_depth ts p q ≡ 0
shared-none ts p q h = ap (λ z. length (filter (λ o. list_any (λ n. o == n) (open_at ts q)) z)) (nil_from_length (open_at ts p) (places-depth ts p ∙ h))

-- where a position stands beside the first level of a node in another
held-first : {pos inside : ℕ} {m : Node} {ls : List Level} → Nested pos inside m ls → (q : ℕ) →
    ((inside ≤ q → q ≤ inside + length (content_of m) → held q ls ≡ suc (held q (drop 1 ls))) × (q < inside → held q ls ≡ 0)) × (inside + length (content_of m) < q → held q ls ≡ 0)
held-first (lowest at n l i h) q = (
  (λ a b. held-in q l [] (omega (arith, a, i.start)) (omega (arith, b, i.start, ap (λ v. length (content_of v)) i.node)), λ a. held-before q l [] (omega (arith, a, i.start))),
  λ a. held-behind q l [] (omega (arith, a, i.start, ap (λ v. length (content_of v)) i.node)),
)
held-first (deeper at n l inside m ls i e r) q = (
  (λ a b. held-in q l ls (omega (arith, a, i.start)) (omega (arith, b, i.start, ap (λ v. length (content_of v)) i.node)), λ a. held-before q l ls (omega (arith, a, i.start))),
  λ a. held-behind q l ls (omega (arith, a, i.start, ap (λ v. length (content_of v)) i.node)),
)

pub nested-shared : {pos at : ℕ} {n : Node} {ls : List Level} → Nested pos at n ls → (q : ℕ) → at ≤ q → q - at ≤ length (content_of n) → shared_depth (content_of n) (pos - at) (q - at) ≡ held q (drop 1 ls)
nested-shared (lowest at n l i h) q a b = shared-none (content_of n) _ (q - at) h
nested-shared {pos = pos} (deeper at n l inside m ls i e r) q a b =
    let f = held-first r q in
    let size = ap length (inner-is e) in
    let all = ap (λ z. shared_depth z (pos - at) (q - at)) (content-is e) in
    elim (cases_lt q inside) [
      | inl lt ↦ all ∙ (shared-before e.front e.inner e.rest m.kind m.attrs m.marks e.front_whole e.inner_whole (pos - at) (pos - inside) (q - at) (place-is e) e.within (omega (arith, lt, e.start)) ∙ sym (f.0.1 lt))
      | inr ge ↦ elim (cases_lt (inside + length (content_of m)) q) [
        | inl past ↦ all ∙ (shared-behind e.front e.inner e.rest m.kind m.attrs m.marks e.front_whole e.inner_whole (pos - at) (pos - inside) (q - at) (place-is e) e.within (omega (arith, past, e.start, size)) ∙ sym (f.1 past))
        | inr le ↦ all ∙ (shared-in e.front e.inner e.rest m.kind m.attrs m.marks e.front_whole e.inner_whole (pos - at) (pos - inside) (q - at) (q - inside) (place-is e) e.within (omega (arith, ge, e.start)) (omega (arith, le, size))
            ∙ (ap suc (ap (λ z. shared_depth z (pos - inside) (q - inside)) (sym (inner-is e)) ∙ nested-shared r q ge (omega (arith, le))) ∙ sym (f.0.0 ge le)))
      ]
    ]

-- ---- a place

module _ {d : Doc} {pos : ℕ} {ls : List Level} (p : Path d pos ls) where
  from-top : pos - 0 ≡ pos
  from-top = omega arith

  pub path-length : length ls ≡ suc (depth_at d.tokens pos)
  path-length = nested-length p.nested ∙ (ap (λ q. suc (depth_at (content_of p.top) q)) from-top ∙ ap (λ v. suc (depth_at v.tokens pos)) p.is)

  pub path-start : (i : ℕ) (l₀ : Level) → i < length ls → (get_or ls i l₀).start ≡ start_at d pos i
  path-start i l₀ lt =
      let s : (get_or ls i l₀).start ≡ start_at (doc_of p.top) (pos - 0) i = omega (arith, nested-start p.nested i l₀ lt) in
      s ∙ (ap (λ q. start_at (doc_of p.top) q i) from-top ∙ ap (λ v. start_at v pos i) p.is)

  pub path-node : (i : ℕ) (l₀ : Level) → i < length ls → doc_of (get_or ls i l₀).node.now ≡ node_around d pos i
  path-node zero l₀ lt = ap doc_of (nested-first p.nested l₀) ∙ p.is
  path-node (suc i) l₀ lt =
      sym (nested-node p.nested d [] i l₀ lt)
      ∙ (ap (λ z. first_node d (drop (slice_index (opens_at (content_of p.top) (pos - 0)) i) z)) (append-nil (content_of p.top))
      ∙ (ap (λ q. first_node d (drop (slice_index (opens_at (content_of p.top) q) i) (content_of p.top))) from-top
      ∙ ap (λ v. first_node d (drop (slice_index (opens_at v.tokens pos) i) v.tokens)) p.is))

  pub path-whole : (i : ℕ) (l₀ : Level) → i < length ls → 0 < i → node_tokens (get_or ls i l₀).node.now ≡ whole_tokens (node_around d pos i)
  path-whole zero l₀ lt h = absurd (omega (arith, h))
  path-whole (suc i) l₀ lt h = nested-whole p.nested i l₀ lt ∙ ap whole_tokens (path-node (suc i) l₀ lt)

  pub path-index : (i : ℕ) (l₀ : Level) → i < length ls → (get_or ls i l₀).index ≡ index_at d pos i
  path-index i l₀ lt =
      let l = get_or ls i l₀ in
      nested-index p.nested i l₀ lt ∙ (ap (λ v. ended v.tokens (pos - l.start)) (path-node i l₀ lt) ∙ ap (λ s. ended (node_around d pos i).tokens (pos - s)) (path-start i l₀ lt))

  pub path-end : (i : ℕ) (l₀ : Level) → i < length ls → (get_or ls i l₀).start + length (content_of (get_or ls i l₀).node.now) ≡ end_at d pos i
  path-end i l₀ lt = let s = path-start i l₀ lt in omega (arith, s, ap (λ v. length v.tokens) (path-node i l₀ lt))

  pub path-bound : (i : ℕ) (l₀ : Level) → i < length ls → (get_or ls i l₀).start + length (content_of (get_or ls i l₀).node.now) ≤ length d.tokens
  path-bound i l₀ lt = omega (arith, nested-end p.nested i l₀ lt, ap (λ v. length v.tokens) p.is)

  pub path-within : (i : ℕ) (l₀ : Level) → i < length ls → ((get_or ls i l₀).start ≤ pos) × (pos - (get_or ls i l₀).start ≤ length (content_of (get_or ls i l₀).node.now))
  path-within i l₀ lt = nested-within p.nested (omega arith) (omega (arith, p.within, ap (λ v. length v.tokens) p.is)) i l₀ lt

  -- the innermost one
  pub path-last : (inclusive : ℕ → Bool) (i : ℕ) (l₀ : Level) → i + 1 ≡ length ls → marks_beside inclusive (beside None (pos - (get_or ls i l₀).start) (children (content_of (get_or ls i l₀).node.now))) ≡ marks_at inclusive d pos
  path-last inclusive i l₀ e =
      let l = get_or ls i l₀ in
      let lt : i < length ls = omega (arith, e) in
      let deep : i ≡ depth_at d.tokens pos = omega (arith, e, path-length) in
      ap (λ v. marks_beside inclusive (beside None (pos - l.start) (children v.tokens))) (path-node i l₀ lt)
      ∙ (ap (λ s. marks_beside inclusive (beside None (pos - s) (children (node_around d pos i).tokens))) (path-start i l₀ lt)
      ∙ ap (λ k. marks_beside inclusive (beside None (pos - start_at d pos k) (children (node_around d pos k).tokens))) deep)

  pub path-shared : (q : ℕ) → q ≤ length d.tokens → shared_depth d.tokens pos q ≡ held q (drop 1 ls)
  path-shared q h =
      let z : q - 0 ≡ q = omega arith in
      sym (ap (λ x. shared_depth (content_of p.top) x (q - 0)) from-top ∙ (ap (shared_depth (content_of p.top) pos) z ∙ ap (λ v. shared_depth v.tokens pos q) p.is)) ∙ nested-shared p.nested q (omega arith) (omega (arith, h, ap (λ v. length v.tokens) p.is))
