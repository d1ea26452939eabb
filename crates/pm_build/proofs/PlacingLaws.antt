-- Nodes in the place of others: in a text, in a node, and among nodes.
use Rattle.std.specs.Prelude.{◌≡◌, min, ℕ, ◌+◌, ◌-◌, ◌≤◌, ◌<◌, List, [], ◌∷◌, ◌++◌, length, take, drop, get_or}
use Rattle.std.specs.declared.sync.Arc.{Arc}
use Rattle.std.specs.Arc.{arc_value}
use Rattle.std.proofs.Common.{ap, sym, ◌∙◌, subst, arith, append_assoc, length-append}
use Rattle.std.proofs.lemmas.List.{take_rest}
use Rattle.pm_tokens.specs.Tokens.{Attrs, Marks, Token, Open, Close}
use Rattle.pm_tokens.specs.Scan.{part}
use Rattle.pm_tokens.specs.Kids.{text_tokens}
use Rattle.pm_tokens.proofs.KidLaws.{balanced-text}
use Rattle.pm_tokens.proofs.PartLaws.{split-at}
use Rattle.pm_tokens.proofs.SpliceLaws.{take-part, drop-end}
use Rattle.pm_node.specs.Among.{Stands}
use Rattle.pm_node.specs.declared.node.Node.{Node}
use Rattle.pm_node.specs.declared.node.Body.TheVariants.{Text, Children}
use Rattle.pm_node.specs.Trees.{node_tokens, body_tokens, list_tokens}
use Rattle.pm_node.proofs.TreeLaws.{node_tokens_at, length-text_tokens, text_tokens-append}
use Rattle.pm_node.proofs.WalkLaws.{front, rest, list-split}
use Rattle.pm_build.specs.Placing.{Placed}

shuffle : (a f g r b : List Token) → a ++ ((f ++ (g ++ r)) ++ b) ≡ (a ++ f) ++ (g ++ (r ++ b))
shuffle a f g r b = ap (λ z. a ++ z) (append_assoc f (g ++ r) b ∙ ap (λ z. f ++ z) (append_assoc g r b)) ∙ sym (append_assoc a f (g ++ (r ++ b)))

-- with tokens before and after
placed-among : (a b n m new : List Token) (r s from to : ℕ) → Placed n r s new m → length a + r ≡ from → length a + s ≡ to → Placed (a ++ (n ++ b)) from to new (a ++ (m ++ b))
placed-among a b n m new r s from to p e f = record {
  front = a ++ p.front;
  gone = p.gone;
  rest = p.rest ++ b;
  was = ap (λ z. a ++ (z ++ b)) p.was ∙ shuffle a p.front p.gone p.rest b;
  is = ap (λ z. a ++ (z ++ b)) p.is ∙ shuffle a p.front new p.rest b;
  whole = p.whole;
  at_from = omega (arith, length-append a p.front, p.at_from, e);
  at_to = omega (arith, p.at_to, e, f);
}

-- how many tokens there are then
placed-length : (before after new : List Token) (from to : ℕ) → Placed before from to new after → length after + to ≡ length before + (from + length new)
placed-length before after new from to p =
    omega (arith, ap length p.was, ap length p.is, p.at_from, p.at_to, length-append p.front (p.gone ++ p.rest), length-append p.gone p.rest, length-append p.front (new ++ p.rest), length-append new p.rest)

-- the tokens that went were there
placed-within : (before after new : List Token) (from to : ℕ) → Placed before from to new after → to ≤ length before
placed-within before after new from to p =
    omega (arith, ap length p.was, p.at_from, p.at_to, length-append p.front (p.gone ++ p.rest), length-append p.gone p.rest)

-- in a text, of which a front with the new letters was made
placed-text : (m : Marks) (us begun : List ℕ) (new : List Token) (from to : ℕ) → from ≤ to → to ≤ length us → text_tokens m begun ≡ text_tokens m (take from us) ++ new → Placed (text_tokens m us) from to new (text_tokens m (begun ++ drop to us))
placed-text m us begun new from to o w e =
    let s = split-at us from to o w in
    record {
      front = text_tokens m (take from us);
      gone = text_tokens m (part from to us);
      rest = text_tokens m (drop to us);
      was = ap (text_tokens m) s.is ∙ (text_tokens-append m (take from us) (part from to us ++ drop to us) ∙ ap (λ z. text_tokens m (take from us) ++ z) (text_tokens-append m (part from to us) (drop to us)));
      is = text_tokens-append m begun (drop to us) ∙ (ap (λ z. z ++ text_tokens m (drop to us)) e ∙ append_assoc (text_tokens m (take from us)) new (text_tokens m (drop to us)));
      whole = balanced-text m (part from to us);
      at_from = omega (arith, length-text_tokens m (take from us), s.at_from);
      at_to = omega (arith, length-text_tokens m (part from to us), s.at_to);
    }

-- in the text of a node
pub placed-letters : (n made : Node) (us front begun rest units : List ℕ) (new : List Token) (from to : ℕ) → from ≤ to → to ≤ length us → front ≡ take (from - 0) us → text_tokens n.marks begun ≡ text_tokens n.marks front ++ new
    → rest ≡ take (length us - to) (drop to us) → units ≡ begun ++ rest → node_tokens made ≡ body_tokens n.kind n.attrs n.marks (Text units) → Placed (text_tokens n.marks us) from to new (node_tokens made)
placed-letters n made us front begun rest units new from to o w f b r u t =
    let m = n.marks in
    let cut : front ≡ take from us = f ∙ ap (λ k. take k us) {x = from - 0} {y = from} (omega arith) in
    let is : units ≡ begun ++ drop to us = u ∙ ap (λ z. begun ++ z) (r ∙ take_rest us to) in
    subst (λ z. Placed (text_tokens m us) from to new z) (sym (t ∙ ap (text_tokens m) is)) (placed-text m us begun new from to o w (b ∙ ap (λ z. text_tokens m z ++ new) cut))

-- in the content of a node
placed-inside : (k : ℕ) (a : Attrs) (m : Marks) (inner content new : List Token) (from to : ℕ) → Placed inner (from - 1) (to - 1) new content → 1 ≤ from → from ≤ to → Placed (Open k a m ∷ (inner ++ (Close ∷ []))) from to new (Open k a m ∷ (content ++ (Close ∷ [])))
placed-inside k a m inner content new from to p h o = placed-among (Open k a m ∷ []) (Close ∷ []) inner content new (from - 1) (to - 1) from to p (omega (arith, h)) (omega (arith, h, o))

pub placed-content : (n made : Node) (inner content new : List Token) (from to : ℕ) → n.body ≡ Children inner → node_tokens made ≡ body_tokens n.kind n.attrs n.marks (Children content) → Placed inner (from - 1) (to - 1) new content → 1 ≤ from → from ≤ to
    → Placed (node_tokens n) from to new (node_tokens made)
placed-content n made inner content new from to is e p h o =
    subst (λ z. Placed z from to new (node_tokens made)) (sym (node_tokens_at n (Children inner) is))
    (subst (λ z. Placed (body_tokens n.kind n.attrs n.marks (Children inner)) from to new z) (sym e) (placed-inside n.kind n.attrs n.marks inner content new from to p h o))

-- a position in a node is found by the token before it
pub found-before : {Z : Type 0} (xs : List (Arc Node Z)) (from before i rest one : ℕ) → before ≡ from - 1 → one ≡ min from 1 → Stands xs before i rest → length (front xs i) + (rest + one) ≡ from
found-before xs from before i rest one b o s = omega (arith, b, o, s.offset)

-- in one of the nodes
module _ {Z : Type 0} (xs : List (Arc Node Z)) (from to i r : ℕ) (x : Arc Node Z) (h : i < length xs) (e : x ≡ get_or xs i x) (off : length (front xs i) + r ≡ from) (o : from ≤ to) where
  rest-part : list_tokens (part (i + 1) (length xs) xs) ≡ rest xs (i + 1)
  rest-part = ap list_tokens (sym (drop-end (i + 1) xs))

  front-part : list_tokens (part 0 i xs) ≡ front xs i
  front-part = ap list_tokens (sym (take-part i xs))

  placed-child : (n : Node) (new : List Token) → Placed (node_tokens (arc_value x)) r (r + (to - from)) new (node_tokens n)
      → Placed (list_tokens xs) from to new (list_tokens (part 0 i xs) ++ (node_tokens n ++ list_tokens (part (i + 1) (length xs) xs)))
  placed-child n new p =
      let q = placed-among (front xs i) (rest xs (i + 1)) (node_tokens (arc_value x)) (node_tokens n) new r (r + (to - from)) from to p off (omega (arith, off, o)) in
      let was = sym (list-split xs i x h e) in
      let is : front xs i ++ (node_tokens n ++ rest xs (i + 1)) ≡ list_tokens (part 0 i xs) ++ (node_tokens n ++ list_tokens (part (i + 1) (length xs) xs)) =
      ap (λ z. z ++ (node_tokens n ++ rest xs (i + 1))) (sym front-part) ∙ ap (λ z. list_tokens (part 0 i xs) ++ (node_tokens n ++ z)) (sym rest-part) in
      subst (λ z. Placed z from to new (list_tokens (part 0 i xs) ++ (node_tokens n ++ list_tokens (part (i + 1) (length xs) xs)))) was
      (subst (λ z. Placed (front xs i ++ (node_tokens (arc_value x) ++ rest xs (i + 1))) from to new z) is q)

  -- there is room for the node with the new ones, and for all nodes with it
  split-lengths : length (list_tokens xs) ≡ length (front xs i) + (length (node_tokens (arc_value x)) + length (rest xs (i + 1)))
  split-lengths = ap length (list-split xs i x h e) ∙ (length-append (front xs i) (node_tokens (arc_value x) ++ rest xs (i + 1)) ∙ ap (λ z. length (front xs i) + z) (length-append (node_tokens (arc_value x)) (rest xs (i + 1))))

  pub room-inside : (k most : ℕ) → from + k + (length (list_tokens xs) - to) < most → to ≤ length (list_tokens xs) → r + k + (length (node_tokens (arc_value x)) - (r + (to - from))) < most
  room-inside k most room w = omega (arith, room, w, o, split-lengths, off)

  pub room-around : (old n : Node) (new : List Token) (most : ℕ) → old ≡ arc_value x → Placed (node_tokens old) r (r + (to - from)) new (node_tokens n) → from + length new + (length (list_tokens xs) - to) < most → to ≤ length (list_tokens xs)
      → length (list_tokens (part 0 i xs)) + length (node_tokens n) + length (list_tokens (part (i + 1) (length xs) xs)) < most
  room-around old n new most d p room w =
      let same = ap (λ z. length (node_tokens z)) d in
      omega (arith, room, w, o, split-lengths, off, same, ap length front-part, ap length rest-part, placed-length (node_tokens old) (node_tokens n) new r (r + (to - from)) p, placed-within (node_tokens old) (node_tokens n) new r (r + (to - from)) p)

  -- so the new ones are in the place of those of the content
  pub placed-fragment : (content made new : List Token) (old n : Node) → list_tokens xs ≡ content → old ≡ arc_value x → Placed (node_tokens old) r (r + (to - from)) new (node_tokens n)
      → made ≡ list_tokens (part 0 i xs) ++ (node_tokens n ++ list_tokens (part (i + 1) (length xs) xs)) → Placed content from to new made
  placed-fragment content made new old n t d p m =
      let q = placed-child n new (subst (λ z. Placed (node_tokens z) r (r + (to - from)) new (node_tokens n)) d p) in
      subst (λ z. Placed z from to new made) t (subst (λ z. Placed (list_tokens xs) from to new z) (sym m) q)
