-- The nodes around two positions, and the innermost of those around one.
use Rattle.std.specs.Prelude.{◌≡◌, ℕ, ◌-◌, ◌≤◌, ◌==◌, None, List, [], length, take}
use Rattle.std.proofs.Common.{ap, ◌∙◌, arith}
use Rattle.std.proofs.lemmas.Bool.{eqb-true, and_parts}
use Rattle.pm_tokens.specs.Tokens.{Doc}
use Rattle.pm_tokens.specs.Scan.{unclosed, unmet, depth_at, shared_depth}
use Rattle.pm_tokens.specs.Kids.{kids}
use Rattle.pm_tokens.specs.Schemas as documents
use Rattle.pm_tokens.specs.Faults.{Valid}
use Rattle.pm_tokens.proofs.DepthLaws.{cut-sides}
use Rattle.pm_resolve.specs.Places.{node_around, start_at}
use Rattle.pm_fit.specs.Wrappings.{parent_at, before_in}

-- two positions share no more nodes than are around each
pub shared-least : (s : documents.Schema) (d : Doc) (from to : ℕ) → Valid s d → from ≤ to → to ≤ length d.tokens → (shared_depth d.tokens from to ≤ depth_at d.tokens from) × (shared_depth d.tokens from to ≤ depth_at d.tokens to)
shared-least s d from to v h i =
    let met : unmet 0 d.tokens ≡ 0 = eqb-true (unmet 0 d.tokens) 0 (and_parts (unmet 0 d.tokens == 0) (length (unclosed [] d.tokens) == 0) v.whole).0 in
    let sides = cut-sides d.tokens from to met h i in
    (omega (arith, sides.0), omega (arith, sides.1))

-- the place x, p stands at the position `from` of the document d, with n nodes around it
module _ (x d : Doc) (p from n : ℕ) (e : x ≡ d) (f : p ≡ from) (m : n ≡ depth_at x.tokens p) where
  pub depth-is : n ≡ depth_at d.tokens from
  depth-is = m ∙ (ap (λ (z : Doc). depth_at z.tokens p) e ∙ ap (depth_at d.tokens) f)

  pub parent-is : (node : Doc) → node ≡ node_around x p n → node ≡ parent_at d from
  parent-is node h =
      h ∙ (ap (node_around x p) m ∙ (ap (λ (z : Doc). node_around z p (depth_at z.tokens p)) e ∙ ap (λ (q : ℕ). node_around d q (depth_at d.tokens q)) f))

  start-is : start_at x p n ≡ start_at d from (depth_at d.tokens from)
  start-is = ap (start_at x p) m ∙ (ap (λ (z : Doc). start_at z p (depth_at z.tokens p)) e ∙ ap (λ (q : ℕ). start_at d q (depth_at d.tokens q)) f)

  pub before-is : (text start pos : ℕ) (node : Doc) (types : List ℕ) → node ≡ node_around x p n → start ≡ start_at x p n → pos ≡ from - start → types ≡ kids text 0 None (take pos node.tokens) → types ≡ before_in text d from
  before-is text start pos node types h s q t =
      t ∙ (ap (λ (z : Doc). kids text 0 None (take pos z.tokens)) (parent-is node h)
      ∙ ap (λ (i : ℕ). kids text 0 None (take i (parent_at d from).tokens)) (q ∙ ap (λ i. from - i) (s ∙ start-is)))

-- the nodes that two positions share, of the same document and position
pub shared-as : (x d : Doc) (p from to least : ℕ) → x ≡ d → p ≡ from → least ≡ shared_depth x.tokens p to → least ≡ shared_depth d.tokens from to
shared-as x d p from to least e f h = h ∙ (ap (λ (z : Doc). shared_depth z.tokens p to) e ∙ ap (λ (q : ℕ). shared_depth d.tokens q to) f)
