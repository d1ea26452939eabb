-- Nodes without content, each in the one before, and nodes around a content.
use Rattle.std.specs.Prelude.{◌≡◌, ℕ, ◌+◌, ◌-◌, ◌*◌, ◌≤◌, ◌<◌, List, [], ◌∷◌, ◌++◌, length, take, drop, get_or}
use Rattle.std.proofs.Common.{zero, suc, refl, ap, sym, ◌∙◌, arith, length-append}
use Rattle.std.proofs.lemmas.List.{take_all}
use Rattle.pm_tokens.specs.Tokens.{Token, Open, Close, Doc}
use Rattle.pm_tokens.specs.Scan.{depth_at}
use Rattle.pm_resolve.specs.Places.{node_around}
use Rattle.pm_schema.specs.declared.spec.SchemaSpec.{SchemaSpec}
use Rattle.pm_node.specs.Filled.{around}
use Rattle.pm_fit.specs.Candidates.{hollow}
use Rattle.pm_fit.specs.Wrappings.{in_nodes}

pub length-hollow : (d : Doc) (p j count : ℕ) → length (hollow d p j count) ≡ 2 * count
length-hollow d p j zero = refl
length-hollow d p j (suc count) = omega (arith, length-append (hollow d p (suc j) count) (Close ∷ []), length-hollow d p (suc j) count)

-- the next node around the others
pub hollow-more : (d : Doc) (p j n : ℕ) (head : Doc) → j < n → head ≡ node_around d p (j + 1)
    → hollow d p j (n - j) ≡ Open head.kind head.attrs head.marks ∷ (hollow d p (j + 1) (n - (j + 1)) ++ (Close ∷ []))
hollow-more d p j n head h e =
    let next : j + 1 ≡ suc j = omega arith in
    let more : n - j ≡ suc (n - (j + 1)) = omega (arith, h) in
    ap (hollow d p j) more
    ∙ (ap (λ i. Open (node_around d p i).kind (node_around d p i).attrs (node_around d p i).marks ∷ (hollow d p i (n - (j + 1)) ++ (Close ∷ []))) (sym next)
    ∙ ap (λ (x : Doc). Open x.kind x.attrs x.marks ∷ (hollow d p (j + 1) (n - (j + 1)) ++ (Close ∷ []))) (sym e))

-- of the same document and position
pub hollow-as : (x y : Doc) (p q j : ℕ) → x ≡ y → p ≡ q → hollow x p j (depth_at x.tokens p - j) ≡ hollow y q j (depth_at y.tokens q - j)
hollow-as x y p q j e f = ap (λ (z : Doc). hollow z p j (depth_at z.tokens p - j)) e ∙ ap (λ i. hollow y i j (depth_at y.tokens i - j)) f

pub depth-as : (x y : Doc) (p q : ℕ) → x ≡ y → p ≡ q → depth_at x.tokens p ≡ depth_at y.tokens q
depth-as x y p q e f = ap (λ (z : Doc). depth_at z.tokens p) e ∙ ap (depth_at y.tokens) f

module _ (s : SchemaSpec) where
  pub length-in_nodes : (ks : List ℕ) (ts : List Token) → length (in_nodes s ks ts) ≡ 2 * length ks + length ts
  length-in_nodes [] ts = omega arith
  length-in_nodes (k ∷ ks) ts = omega (arith, length-append (in_nodes s ks ts) (Close ∷ []), length-in_nodes ks ts)

  pub in_nodes-none : (ks : List ℕ) (ts : List Token) → length ks ≡ 0 → ts ≡ in_nodes s ks ts
  in_nodes-none [] ts e = refl
  in_nodes-none (k ∷ ks) ts e = absurd (omega (arith, e))

  -- the first node around the others
  pub in_nodes-more : (ks : List ℕ) (ts : List Token) → (length ks ≡ 0 → ⊥) → around s (get_or ks 0 0) (in_nodes s (take (length ks - 1) (drop 1 ks)) ts) ≡ in_nodes s ks ts
  in_nodes-more [] ts h = absurd (h refl)
  in_nodes-more (k ∷ ks) ts h =
      let n = length (k ∷ ks) - 1 in
      let most : length ks ≤ n = omega arith in
      ap (λ z. around s k (in_nodes s z ts)) (take_all n ks most)
