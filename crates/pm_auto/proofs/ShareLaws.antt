-- Two lists of edges with one type.
use Rattle.std.proofs.Common.{◌≡◌, ℕ, ◌<◌, ◌≤◌, length, drop, get_or, List, [], ◌∷◌, Bool, true, false, ◌||◌, eqb, refl, ap, sym, ◌∙◌, subst}
use Rattle.std.proofs.lemmas.Bool.{eqb-true, eq-eqb}
use Rattle.pm_auto.specs.declared.auto.Edge.{Edge}
use Rattle.pm_auto.specs.States.{has, edge_kinds}
use Rattle.std.proofs.Math.Seq.{drop-cons}
use Rattle.pm_auto.proofs.SetLaws.{drop-past}
use Rattle.pm_auto.proofs.AcceptLaws.{or-cases, or-right}

-- one of the edges has a type of the others
abbrev pub shares : List Edge → List Edge → Bool
shares b [] = false
shares b (e ∷ es) = has e.kind (edge_kinds b) || shares b es

pub shares-some : (b a : List Edge) → shares b a ≡ true → (k : ℕ) × (has k (edge_kinds a) ≡ true) × (has k (edge_kinds b) ≡ true)
shares-some b [] h = absurd (cc)
shares-some b (e ∷ es) h = at (has e.kind (edge_kinds b)) refl (shares-some b es)
  where
    at : (c : Bool) → has e.kind (edge_kinds b) ≡ c → (shares b es ≡ true → (k : ℕ) × (has k (edge_kinds es) ≡ true) × (has k (edge_kinds b) ≡ true)) → (k : ℕ) × (has k (edge_kinds (e ∷ es)) ≡ true) × (has k (edge_kinds b) ≡ true)
    at true q i = (e.kind, ap (λ z. z || has e.kind (edge_kinds es)) (eq-eqb e.kind e.kind refl), q)
    at false q i = let r = i (or-cases (has e.kind (edge_kinds b)) (shares b es) h q) in (r.0, ap (λ z. eqb e.kind r.0 || z) r.1 ∙ or-right (eqb e.kind r.0), r.2)

pub some-shares : (b a : List Edge) (k : ℕ) → has k (edge_kinds a) ≡ true → has k (edge_kinds b) ≡ true → shares b a ≡ true
some-shares b [] k h i = absurd (cc)
some-shares b (e ∷ es) k h i = at (eqb e.kind k) refl (some-shares b es k)
  where
    at : (c : Bool) → eqb e.kind k ≡ c → (has k (edge_kinds es) ≡ true → has k (edge_kinds b) ≡ true → shares b es ≡ true) → has e.kind (edge_kinds b) || shares b es ≡ true
    at true q go = let z : has e.kind (edge_kinds b) ≡ true = subst (λ (n : ℕ). has n (edge_kinds b) ≡ true) (sym (eqb-true e.kind k q)) i in rw z refl
    at false q go = ap (λ z. has e.kind (edge_kinds b) || z) (go (or-cases (eqb e.kind k) (has k (edge_kinds es)) h q) i) ∙ or-right (has e.kind (edge_kinds b))

pub shares-now : (b a : List Edge) (i : ℕ) (d : Edge) → i < length a → has (get_or a i d).kind (edge_kinds b) ≡ true → shares b (drop i a) ≡ true
shares-now b a i d l h = ap (shares b) (drop-cons a i d l) ∙ rw h refl

pub shares-end : (b a : List Edge) (i : ℕ) → length a ≤ i → shares b (drop i a) ≡ false
shares-end b a i l = ap (shares b) (drop-past a i l)
