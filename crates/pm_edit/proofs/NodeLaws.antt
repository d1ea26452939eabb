-- The node that begins at a position, told by the innermost node around the next position.
use Rattle.std.specs.Prelude.{◌≡◌, ℕ, ◌+◌, ◌-◌, ◌≤◌, ◌<◌, Option, Some, None, List, [], ◌∷◌, ◌++◌, length, take, drop, reverse, slice_index}
use Rattle.std.specs.List.{AllByRecursion}
use Rattle.std.proofs.Common.{zero, suc, refl, ap, sym, ◌∙◌, arith, length-append, length-take, length-drop, get_or}
use Rattle.std.proofs.lemmas.List.{reverse-append, length-reverse, get_or-append_right}
use Rattle.std.proofs.Math.Seq.{take-add}
use Rattle.pm_tokens.specs.Tokens.{Token, Open, Close, Leaf, CodeUnit, Doc}
use Rattle.pm_tokens.specs.Scan.{tail_of, depth_at, open_places, open_at}
use Rattle.pm_resolve.specs.Places.{up_to_close, first_node, opens_at, node_around, start_at}
use Rattle.pm_edit.specs.Nodes.{opened_node, node_at, behind}
use Rattle.pm_tokens.proofs.DepthLaws.{places-append}
use Rattle.pm_resolve.proofs.OpenLaws.{places-depth, below-tail, places-below}

-- ---- the places of the opens around a position

abbrev AllBelow : ℕ → List ℕ → Type 0
AllBelow n ps = AllByRecursion (λ p. p < n) ps

-- ---- one token further

-- the place of the innermost open is the last in the list of all
last-place : (x : ℕ) (s : List ℕ) → slice_index (reverse (x ∷ s)) (length s) ≡ x
last-place x s =
    let l = length-reverse s in
    ap (λ (z : List ℕ). slice_index z (length s)) (reverse-append (x ∷ []) s)
    ∙ (get_or-append_right (reverse s) (x ∷ []) (length s) (length s) 0 l (omega arith) ∙ ap (λ n. get_or (x ∷ []) n 0) (let e : length s - length s ≡ 0 = omega arith in e))

module _ (d : Doc) (p : ℕ) (inside : p < length d.tokens) where
  abbrev ts : List Token
  ts = d.tokens

  abbrev next : ℕ
  next = p + 1

  -- the places at the next position are those at this one after its token
  module _ (t : Token) (rest : List Token) (e : drop p ts ≡ t ∷ rest) where
    taken : take next ts ≡ take p ts ++ (t ∷ [])
    taken = take-add p 1 ts ∙ ap (λ z. take p ts ++ take 1 z) e

    places : open_at ts next ≡ open_places p (open_at ts p) (t ∷ [])
    places =
        let l : 0 + length (take p ts) ≡ p = omega (arith, length-take p ts, inside) in
        ap (open_places 0 []) taken ∙ (places-append 0 [] (take p ts) (t ∷ []) ∙ ap (λ n. open_places n (open_at ts p) (t ∷ [])) l)

  -- where the next position's innermost node starts there, its open is this token
  start-is : (x : ℕ) (s : List ℕ) → open_at ts next ≡ x ∷ s → (start_at d next (depth_at ts next) ≡ suc x) × (node_around d next (depth_at ts next) ≡ first_node d (drop x ts))
  start-is x s q =
      let n : depth_at ts next ≡ suc (length s) = sym (places-depth ts next) ∙ ap length q in
      let at : slice_index (opens_at ts next) (length s) ≡ x = ap (λ (z : List ℕ). slice_index (reverse z) (length s)) q ∙ last-place x s in
      (ap (start_at d next) n ∙ ap suc at, ap (node_around d next) n ∙ ap (λ (i : ℕ). first_node d (drop i ts)) at)

  start-none : open_at ts next ≡ [] → start_at d next (depth_at ts next) ≡ 0
  start-none q = ap (start_at d next) (sym (places-depth ts next) ∙ ap length q)

  one-on : suc p ≡ next
  one-on = omega arith

  -- a list of places below p does not begin with p
  not-there : (s : List ℕ) → open_at ts next ≡ s → AllBelow p s → start_at d next (depth_at ts next) ≡ next → ⊥
  not-there [] q h f = omega (arith, f, start-none q)
  not-there (x ∷ s) q h f = omega (arith, f, (start-is x s q).0, h.0)

  below : AllBelow p (open_at ts p)
  below = places-below p 0 [] (take p ts) (omega (arith, length-take p ts, inside)) tt

  -- what is found at this token
  pub record AtNode (k : Option Doc) : Type 0 where
    pub found : start_at d next (depth_at ts next) ≡ next → k ≡ Some (node_around d next (depth_at ts next))
    pub none : (start_at d next (depth_at ts next) ≡ next → ⊥) → k ≡ None

  at-token : (ys : List Token) → drop p ts ≡ ys → AtNode (opened_node ys)
  at-token [] e = absurd (omega (arith, inside, ap length e, length-drop p ts))
  at-token (Open k a m ∷ rest) e =
      let s = start-is p (open_at ts p) (places (Open k a m) rest e) in
      record {
        found = λ _. sym (ap Some (s.1 ∙ ap (first_node d) e));
        none = λ f. absurd (f (s.0 ∙ one-on));
      }
  at-token (Close ∷ rest) e =
      let no = not-there (tail_of (open_at ts p)) (places Close rest e) (below-tail p (open_at ts p) below) in
      record { found = λ f. absurd (no f); none = λ _. refl }
  at-token (Leaf k a m ∷ rest) e =
      let no = not-there (open_at ts p) (places (Leaf k a m) rest e) below in
      record { found = λ f. absurd (no f); none = λ _. refl }
  at-token (CodeUnit u m ∷ rest) e =
      let no = not-there (open_at ts p) (places (CodeUnit u m) rest e) below in
      record { found = λ f. absurd (no f); none = λ _. refl }

  pub at-node : AtNode (node_at d p)
  at-node = at-token (drop p ts) refl

-- ---- where a node ends

up-to-length : (n : ℕ) (ts : List Token) → length (up_to_close n ts) ≤ length ts
up-to-length n [] = omega arith
up-to-length n (Open k a m ∷ ts) = omega (arith, up-to-length (suc n) ts)
up-to-length zero (Close ∷ ts) = omega arith
up-to-length (suc n) (Close ∷ ts) = omega (arith, up-to-length n ts)
up-to-length n (Leaf k a m ∷ ts) = omega (arith, up-to-length n ts)
up-to-length n (CodeUnit u m ∷ ts) = omega (arith, up-to-length n ts)

opened-within : (ts : List Token) (n : Doc) → opened_node ts ≡ Some n → length n.tokens + 1 ≤ length ts
opened-within [] n e = absurd (cc)
opened-within (Open k a m ∷ ts) n e =
    let q : length (up_to_close 0 ts) ≡ length n.tokens = ap (λ (o : Option Doc). size o) e in
    omega (arith, q, up-to-length 0 ts)
  where
    size : Option Doc → ℕ
    size None = 0
    size (Some x) = length x.tokens
opened-within (Close ∷ ts) n e = absurd (cc)
opened-within (Leaf k a m ∷ ts) n e = absurd (cc)
opened-within (CodeUnit u m ∷ ts) n e = absurd (cc)

-- its content is within the document
pub node-within : (d : Doc) (p : ℕ) (n : Doc) → node_at d p ≡ Some n → p + 1 + length n.tokens ≤ length d.tokens
node-within d p n e = omega (arith, opened-within (drop p d.tokens) n e, length-drop p d.tokens)

pub behind-is : (p : ℕ) (n : Doc) → p + 1 + length n.tokens + 1 ≡ behind p n
behind-is p n = omega (arith, length-append n.tokens (Close ∷ []))

-- no node begins at the end
pub at-end : (d : Doc) (p : ℕ) → p ≡ length d.tokens → node_at d p ≡ None
at-end d p e = ap opened_node (none (drop p d.tokens) (omega (arith, e, length-drop p d.tokens)))
  where
    none : (ts : List Token) → length ts ≡ 0 → ts ≡ []
    none [] q = refl
    none (t ∷ ts) q = absurd (omega (arith, q))

-- ---- told by a place: a document x and a position q that are these

module _ (d x : Doc) (p q depth start : ℕ) (inside : p < length d.tokens) (same : x ≡ d) (next : q ≡ p + 1) (deep : depth ≡ depth_at x.tokens q) (starts : start ≡ start_at x q depth) where
  abbrev innermost : ℕ
  innermost = depth_at d.tokens (p + 1)

  start-as : start ≡ start_at d (p + 1) innermost
  start-as = starts ∙ (ap (start_at x q) deep ∙ (ap (λ (y : Doc). start_at y q (depth_at y.tokens q)) same ∙ ap (λ i. start_at d i (depth_at d.tokens i)) next))

  node-as : node_around x q depth ≡ node_around d (p + 1) innermost
  node-as = ap (node_around x q) deep ∙ (ap (λ (y : Doc). node_around y q (depth_at y.tokens q)) same ∙ ap (λ i. node_around d i (depth_at d.tokens i)) next)

  pub found-none : (start ≡ p + 1 → ⊥) → node_at d p ≡ None
  found-none h = (at-node d p inside).none (λ e. h (start-as ∙ e))

  module _ (begins : start ≡ p + 1) (node : Doc) (is : node ≡ node_around x q depth) where
    pub found-some : node_at d p ≡ Some node
    found-some = (at-node d p inside).found (sym start-as ∙ begins) ∙ ap Some (sym (is ∙ node-as))

    module _ (end : ℕ) (ends : end ≡ start_at x q depth + length (node_around x q depth).tokens) where
      size : end ≡ p + 1 + length node.tokens
      size = ends ∙ (ap (λ i. i + length (node_around x q depth).tokens) (sym starts ∙ begins) ∙ ap (λ (n : Doc). p + 1 + length n.tokens) (sym is))

      pub found-end : end + 1 ≡ behind p node
      found-end = ap (λ i. i + 1) size ∙ behind-is p node

      -- the close of the node is in the document
      pub found-within : end ≤ length d.tokens
      found-within = omega (arith, size, node-within d p node found-some)
