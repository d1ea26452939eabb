-- The steps of the searches for a place.
use Rattle.std.specs.Prelude.{◌≡◌, ℕ, zero, suc, ◌+◌, ◌-◌, ◌≤◌, ◌<◌, List, [], ◌∷◌, ◌++◌, length, take, drop, get_or, slice_index}
use Rattle.std.specs.declared.sync.Arc.{Arc}
use Rattle.std.proofs.Common.{refl, ap, sym, ◌∙◌, subst, inl, inr, arith}
use Rattle.std.proofs.lemmas.Bool.{cases_lt}
use Rattle.std.proofs.lemmas.List.{append-nil, take_all, take_more}
use Rattle.pm_tokens.specs.Tokens.{Token, Close, Doc}
use Rattle.pm_tokens.specs.Scan.{depth_at}
use Rattle.pm_tokens.specs.Kids.{children}
use Rattle.pm_sized.specs.Bound.{find_bound}
use Rattle.pm_node.specs.declared.node.Node.{Node}
use Rattle.pm_node.specs.Trees.{list_tokens, IsNormal, EachWhole}
use Rattle.pm_node.specs.Documents.{doc_of}
use Rattle.pm_node.proofs.KindLaws.{children-list, length-child_tokens}
use Rattle.pm_resolve.specs.Places.{first_node, opens_at, node_around, search_bound}
use Rattle.pm_resolve.specs.Levels.{content_of, nodes_bound, Enters, ComesTo, here, down, SearchesFew}
use Rattle.pm_resolve.proofs.LevelLaws.{depth-down, open-here, open-down, from-inside, child-first}

bound-append : (ns ms : List Node) → nodes_bound (ns ++ ms) ≡ nodes_bound ns + nodes_bound ms
bound-append [] ms = omega arith
bound-append (n ∷ ns) ms = omega (arith, bound-append ns ms)

-- deeper, the sum is no less
bound-grows : (d : Doc) (p k j : ℕ) → k ≤ j → search_bound d p k ≤ search_bound d p j
bound-grows d p k zero h = let e : k ≡ 0 = omega (arith, h) in omega (arith, ap (search_bound d p) e)
bound-grows d p k (suc j) h = elim (cases_lt j k) [
  | inl lt ↦ let e : k ≡ suc j = omega (arith, lt, h) in omega (arith, ap (search_bound d p) e)
  | inr le ↦ omega (arith, bound-grows d p k j le)
]

-- ---- the nodes that a walk comes to are those around the position

came-depth : {pos at : ℕ} {n : Node} {ns : List Node} → ComesTo pos at n ns → length ns ≤ suc (depth_at (content_of n) (pos - at))
came-depth (here at n) = omega arith
came-depth (down at n inside m ms e r) = omega (arith, came-depth r, depth-down e)

came-some : {pos at : ℕ} {n : Node} {ns : List Node} → ComesTo pos at n ns → 0 < length ns
came-some (here at n) = omega arith
came-some (down at n inside m ms e r) = omega arith

came-first : {pos at : ℕ} {n : Node} {ns : List Node} → ComesTo pos at n ns → (n₀ : Node) → get_or ns 0 n₀ ≡ n
came-first (here at n) n₀ = refl
came-first (down at n inside m ms e r) n₀ = refl

came-node : {pos at : ℕ} {n : Node} {ns : List Node} → ComesTo pos at n ns → (top : Doc) (post : List Token) (d : ℕ) (n₀ : Node) → suc d < length ns
    → first_node top (drop (slice_index (opens_at (content_of n) (pos - at)) d) (content_of n ++ post)) ≡ doc_of (get_or ns (suc d) n₀)
came-node (here at n) top post d n₀ lt = absurd (omega (arith, lt))
came-node (down at n inside m ms e r) top post zero n₀ lt =
    ap (λ o. first_node top (drop o (content_of n ++ post))) (open-here e) ∙ (child-first e top post ∙ ap doc_of (sym (came-first r n₀)))
came-node {pos = pos} (down at n inside m ms e r) top post (suc d) n₀ lt =
    let o = slice_index (opens_at (content_of m) (pos - inside)) d in
    ap (λ o. first_node top (drop o (content_of n ++ post))) (open-down e d (omega (arith, lt, came-depth r)))
    ∙ (ap (first_node top) (from-inside e o post) ∙ came-node r top (Close ∷ (e.rest ++ post)) d n₀ (omega (arith, lt)))

module _ {pos : ℕ} {n : Node} {ns : List Node} (c : ComesTo pos 0 n ns) where
  from-top : pos - 0 ≡ pos
  from-top = omega arith

  came-around : (i : ℕ) (n₀ : Node) → i < length ns → doc_of (get_or ns i n₀) ≡ node_around (doc_of n) pos i
  came-around zero n₀ lt = ap doc_of (came-first c n₀)
  came-around (suc i) n₀ lt =
      sym (came-node c (doc_of n) [] i n₀ lt)
      ∙ (ap (λ z. first_node (doc_of n) (drop (slice_index (opens_at (content_of n) (pos - 0)) i) z)) (append-nil (content_of n))
      ∙ ap (λ q. first_node (doc_of n) (drop (slice_index (opens_at (content_of n) q) i) (content_of n))) from-top)

  -- those down to depth i
  came-bound : (i : ℕ) → i < length ns → nodes_bound (take (i + 1) ns) ≡ search_bound (doc_of n) pos i
  came-bound zero lt =
      let one = ap (λ v. find_bound (length (children v.tokens))) (came-around 0 n lt) in
      omega (arith, ap nodes_bound (take_more ns 0 n lt), one)
  came-bound (suc i) lt =
      let one = ap (λ v. find_bound (length (children v.tokens))) (came-around (suc i) n lt) in
      let e : i + 1 ≡ suc i = omega arith in
      let x = get_or ns (suc i) n in
      omega (arith, ap nodes_bound (take_more ns (suc i) n lt), bound-append (take (suc i) ns) (x ∷ []), one, came-bound i (omega (arith, lt)), ap (λ k. nodes_bound (take k ns)) e)

  pub came-most : nodes_bound ns ≤ search_bound (doc_of n) pos (depth_at (content_of n) pos)
  came-most =
      let i : ℕ = length ns - 1 in
      let some = came-some c in
      let all : nodes_bound (take (i + 1) ns) ≡ nodes_bound ns = ap nodes_bound (take_all (i + 1) ns (omega (arith, some))) in
      let deep : i ≤ depth_at (content_of n) pos = omega (arith, some, came-depth c, ap (depth_at (content_of n)) from-top) in
      omega (arith, all, came-bound i (omega (arith, some)), bound-grows (doc_of n) pos i (depth_at (content_of n) pos) deep)

-- ---- the searches of a walk

-- the steps of a search among the children of a node
search-few : {Z : Type 0} (n : Node) (xs : List (Arc Node Z)) (before after : ℕ) → content_of n ≡ list_tokens xs → IsNormal xs → EachWhole xs
    → after ≤ before + find_bound (length xs) → after ≤ before + find_bound (length (children (content_of n)))
search-few n xs before after is normal each h =
    let count : length (children (content_of n)) ≡ length xs = ap (λ t. length (children t)) is ∙ (ap length (children-list xs normal each) ∙ length-child_tokens xs) in
    omega (arith, h, ap find_bound count)

pub few-here : {Z : Type 0} (pos at : ℕ) (n : Node) (xs : List (Arc Node Z)) (before after : ℕ) → content_of n ≡ list_tokens xs → IsNormal xs → EachWhole xs
    → after ≤ before + find_bound (length xs) → SearchesFew pos at n before after
few-here pos at n xs before after is normal each h =
    (n ∷ [], here at n, omega (arith, search-few n xs before after is normal each h))

pub few-down : {Z : Type 0} (pos at inside : ℕ) (n m : Node) (xs : List (Arc Node Z)) (before mid after : ℕ) → content_of n ≡ list_tokens xs → IsNormal xs → EachWhole xs
    → mid ≤ before + find_bound (length xs) → Enters pos at n inside m → SearchesFew pos inside m mid after → SearchesFew pos at n before after
few-down pos at inside n m xs before mid after is normal each h e r =
    (n ∷ r.0, down at n inside m r.0 e r.1, omega (arith, search-few n xs before mid is normal each h, r.2))

-- the searches of a walk from the top node of a document
pub few-most : (d : Doc) (pos : ℕ) (top : Node) (before after : ℕ) → doc_of top ≡ d → SearchesFew pos 0 top before after
    → after ≤ before + search_bound d pos (depth_at d.tokens pos)
few-most d pos top before after is h =
    subst (λ (v : Doc). after ≤ before + search_bound v pos (depth_at v.tokens pos)) is (omega (arith, h.2, came-most h.1))
