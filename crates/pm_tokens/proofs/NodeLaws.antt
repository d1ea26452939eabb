-- What validity says of each node: its children, as the relation of children gives them, are of types that its type accepts.
use Rattle.std.specs.Prelude.{◌≡◌, ℕ, true, ◌&&◌, not, ◌==◌, None, List, [], ◌∷◌, ◌++◌, length}
use Rattle.std.proofs.Common.{ap, sym, ◌∙◌, subst, arith}
use Rattle.pm_tokens.specs.Tokens.{Attrs, Marks, Token, Open, Close, Doc}
use Rattle.pm_tokens.specs.Schemas.{Schema}
use Rattle.pm_tokens.specs.Scan.{unclosed, unmet, Balanced}
use Rattle.pm_tokens.specs.Kids.{Forest, kids}
use Rattle.pm_tokens.specs.Faults.{StandsIn, Valid}
use Rattle.pm_tokens.proofs.ScanLaws.{unclosed-append, unmet-append, Whole, whole-of}
use Rattle.pm_tokens.proofs.BalanceLaws.{whole-balanced, held}
use Rattle.pm_tokens.proofs.KidLaws.{kids-stop}
use Rattle.pm_tokens.proofs.ForestLaws.{balanced-forest}
use Rattle.std.proofs.lemmas.Bool.{and_parts}

-- an open of a whole list has its close, and whole nodes up to it
pub node-content : (ts before : List Token) (k : ℕ) (a : Attrs) (m : Marks) (behind : List Token) → Whole ts → StandsIn ts before (Open k a m) behind
    → (inner : List Token) × ((rest : List Token) × ((behind ≡ inner ++ (Close ∷ rest)) × Balanced inner))
node-content ts before k a m behind w e =
    let s = unclosed [] before in
    let all : unmet 0 (before ++ (Open k a m ∷ behind)) ≡ 0 = ap (unmet 0) (sym e) ∙ w.met in
    let met : unmet (length (k ∷ s)) behind ≡ 0 = omega (arith, all, unmet-append [] before (Open k a m ∷ behind)) in
    let ended : unclosed (k ∷ s) behind ≡ [] = sym (unclosed-append [] before (Open k a m ∷ behind)) ∙ (ap (unclosed []) (sym e) ∙ w.ended) in
    let h = held (k ∷ s) behind met ended in
    (h.0, (h.1, (h.2, h.3)))

-- a node of a valid document: the types of its children, by the relation, are accepted
pub record NodeFits (s : Schema) (k : ℕ) (behind : List Token) : Type 0 where
  pub inner : List Token
  pub rest : List Token
  pub splits : behind ≡ inner ++ (Close ∷ rest)
  pub types : List ℕ
  pub forest : Forest s.text inner types
  pub accepted : s.accepts k types ≡ true

pub valid-node : (s : Schema) (d : Doc) → Valid s d → (before : List Token) (k : ℕ) (a : Attrs) (m : Marks) (behind : List Token) → StandsIn d.tokens before (Open k a m) behind → NodeFits s k behind
valid-node s d v before k a m behind e =
    let c = node-content d.tokens before k a m behind (whole-of d.tokens v.whole) e in
    let fits = and_parts (not (k == s.text) && not (s.is_leaf k)) (s.accepts k (kids s.text 0 None behind)) (v.content before (Open k a m) behind e) in
    let types : kids s.text 0 None behind ≡ kids s.text 0 None c.0 = ap (kids s.text 0 None) c.1.1.0 ∙ kids-stop s.text None c.1.1.1 c.1.0 in
    record {
      inner = c.0;
      rest = c.1.0;
      splits = c.1.1.0;
      types = kids s.text 0 None c.0;
      forest = balanced-forest s.text c.1.1.1;
      accepted = subst (λ z. s.accepts k z ≡ true) types fits.1;
    }

-- and of the top node
pub valid-children : (s : Schema) (d : Doc) → Valid s d → (ks : List ℕ) × (Forest s.text d.tokens ks × (s.accepts d.kind ks ≡ true))
valid-children s d v = (kids s.text 0 None d.tokens, (balanced-forest s.text (whole-balanced d.tokens (whole-of d.tokens v.whole)), v.top_content))
