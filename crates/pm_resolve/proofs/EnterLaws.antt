-- The levels that a walk down to a position puts: at the innermost node, and at one that has another around the position.
use Rattle.std.specs.Prelude.{◌≡◌, ℕ, ◌+◌, ◌-◌, ◌≤◌, ◌<◌, List, [], ◌∷◌, ◌++◌, length, take, drop, get_or}
use Rattle.std.specs.declared.sync.Arc.{Arc}
use Rattle.std.specs.Arc.{arc_value}
use Rattle.std.proofs.Common.{ap, sym, ◌∙◌, arith, append_assoc, length-append}
use Rattle.std.proofs.lemmas.List.{take-append-drop}
use Rattle.pm_tokens.specs.Tokens.{Token, Close}
use Rattle.pm_tokens.specs.Scan.{depth_at, Balanced}
use Rattle.pm_node.specs.declared.node.Node.{Node}
use Rattle.pm_node.specs.declared.node.Body.TheVariants.{Children}
use Rattle.pm_node.specs.Trees.{list_tokens, IsNormal, EachWhole}
use Rattle.pm_node.specs.Among.{Stands}
use Rattle.pm_node.proofs.TreeLaws.{node_tokens_at, list_tokens-append}
use Rattle.pm_node.proofs.WalkLaws.{front, list-split}
use Rattle.pm_resolve.specs.declared.level.Level.{Level}
use Rattle.pm_resolve.specs.Places.{ended}
use Rattle.pm_resolve.specs.Levels.{content_of, IsLevel, Enters, lowest, deeper, Entered}
use Rattle.pm_resolve.proofs.AmongLaws.{ended-stands, front-whole, depth-between, depth-flat}

pub entered-lowest : {pos at : ℕ} {n : Node} {l : Level} {old new : List Level} → new ≡ old ++ (l ∷ []) → IsLevel pos at n l → depth_at (content_of n) (pos - at) ≡ 0 → Entered pos at n old new
entered-lowest {at = at} {n = n} {l = l} e i h = record { more = l ∷ []; items = e; nested = lowest at n l i h }

pub entered-deeper : {pos at inside : ℕ} {n m : Node} {l : Level} {old mid new : List Level} → mid ≡ old ++ (l ∷ []) → IsLevel pos at n l → Enters pos at n inside m → Entered pos inside m mid new → Entered pos at n old new
entered-deeper {at = at} {inside = inside} {n = n} {m = m} {l = l} {old = old} e i down r = record {
  more = l ∷ r.more;
  items = r.items ∙ (ap (λ z. z ++ r.more) e ∙ append_assoc old (l ∷ []) r.more);
  nested = deeper at n l inside m r.more i down r.nested;
}

-- a node whose content is a list of children
module _ {Z : Type 0} (n : Node) (xs : List (Arc Node Z)) (pos at i r : ℕ) (is : content_of n ≡ list_tokens xs) (normal : IsNormal xs) (each : EachWhole xs) (s : Stands xs (pos - at) i r) where
  pub level-is : (l : Level) → l.node.now ≡ n → l.start ≡ at → l.index ≡ i → IsLevel pos at n l
  level-is l a b c = record { node = a; start = b; index = c ∙ (sym (ended-stands xs (pos - at) i r normal each s) ∙ ap (λ z. ended z (pos - at)) (sym is)) }

  pub between-depth : r ≡ 0 → depth_at (content_of n) (pos - at) ≡ 0
  between-depth z =
      let split : list_tokens xs ≡ front xs i ++ list_tokens (drop i xs) = ap list_tokens (sym (take-append-drop i xs)) ∙ list_tokens-append (take i xs) (drop i xs) in
      ap (λ t. depth_at t (pos - at)) (is ∙ split) ∙ depth-between (front xs i) (list_tokens (drop i xs)) (pos - at) (front-whole xs i each) (omega (arith, s.offset, z))

  module _ (x : Arc Node Z) (lt : i < length xs) (at_i : x ≡ get_or xs i x) where
    pub flat-depth : ((ts : List Token) → (arc_value x).body ≡ Children ts → ⊥) → depth_at (content_of n) (pos - at) ≡ 0
    flat-depth f =
        ap (λ t. depth_at t (pos - at)) (is ∙ list-split xs i x lt at_i)
        ∙ depth-flat (front xs i) (list_tokens (drop (i + 1) xs)) (arc_value x) (pos - at) r (front-whole xs i each) (sym s.offset) (let k = s.inside x lt at_i in omega (arith, k)) f

    pub enters-child : (inner : List Token) (inside : ℕ) → (arc_value x).body ≡ Children inner → Balanced inner → at ≤ pos → 0 < r → inside ≡ (pos - r) + 1 → Enters pos at n inside (arc_value x)
    enters-child inner inside b whole started some e =
        let k = s.inside x lt at_i in
        let size = ap length (node_tokens_at (arc_value x) (Children inner) b) in
        record {
          front = front xs i;
          inner = inner;
          rest = list_tokens (drop (i + 1) xs);
          tokens = is ∙ list-split xs i x lt at_i;
          body = b;
          start = omega (arith, e, s.offset, some, started);
          started = omega (arith, e, s.offset, some);
          within = omega (arith, e, k, size, some, s.offset, length-append inner (Close ∷ []));
          front_whole = front-whole xs i each;
          inner_whole = whole;
        }
