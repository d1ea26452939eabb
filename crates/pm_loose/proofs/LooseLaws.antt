-- A list and the same list with each run of texts shortened lead to the same end.
use Rattle.std.specs.Prelude.{codes, unwrap_or}
use Rattle.std.proofs.Common.{◌≡◌, ℕ, zero, suc, ◌<◌, ◌≤◌, length, get_or, inl, inr, ◌⊎◌, List, [], ◌∷◌, Bool, true, false, cond, ◌==◌, Option, Some, None, refl, ap, sym, ◌∙◌, arith}
use Rattle.std.proofs.lemmas.Bool.{eqb-true}
use Rattle.pm_auto.specs.declared.expr.Expr.{Expr, Empty}
use Rattle.pm_auto.specs.declared.auto.Auto.{Auto}
use Rattle.pm_auto.proofs.Orders.{le_or_lt}
use Rattle.pm_auto.specs.Walks.{target, edges_at, via, accepted}
use Rattle.pm_auto.specs.Runs.{fits}
use Rattle.pm_schema.specs.declared.spec.NodeSpec.{NodeSpec}
use Rattle.pm_schema.specs.declared.spec.SchemaSpec.{SchemaSpec}
use Rattle.pm_schema.specs.Names.{place_of}
use Rattle.pm_schema.specs.Types.{names_of_nodes, no_node, node_at}
use Rattle.pm_schema.specs.Contents.{Runs}
use Rattle.pm_schema.specs.Documents.{documents_of}
use Rattle.pm_tokens.specs.Loose.{shortened, IsLoose}
use Rattle.pm_loose.specs.Repeats.{RepeatsTexts}

module _ (text : ℕ) (a : Auto) (r : RepeatsTexts text a) where
  abbrev on : List ℕ → ℕ → Bool
  on w t = accepted a.sets a.edges t w

  -- a text leads to the state itself
  abbrev Stays : ℕ → Bool → Type 0
  Stays s in_run = in_run ≡ true → target text (edges_at a.edges s) ≡ Some s

  shorter : (w : List ℕ) (in_run : Bool) (s : ℕ) → s ≤ r.last → Stays s in_run → on w s ≡ on (shortened text in_run w) s
  shorter [] in_run s l h = refl
  shorter (k ∷ w) in_run s l h = at (k == text) in_run refl h (shorter w)
    where
      further : (o : Option ℕ) (u v : List ℕ) → target k (edges_at a.edges s) ≡ o → ((t : ℕ) → target k (edges_at a.edges s) ≡ Some t → on u t ≡ on v t) → on (k ∷ u) s ≡ on (k ∷ v) s
      further None u v e i = ap (via (on u)) e ∙ sym (ap (via (on v)) e)
      further (Some t) u v e i = ap (via (on u)) e ∙ (i t e ∙ sym (ap (via (on v)) e))

      at : (b in_run : Bool) → (k == text) ≡ b → Stays s in_run → ((in_run : Bool) (s : ℕ) → s ≤ r.last → Stays s in_run → on w s ≡ on (shortened text in_run w) s)
          → on (k ∷ w) s ≡ on (shortened text in_run (k ∷ w)) s
      at true true q h i =
          let same : k ≡ text = eqb-true k text q in
          let stays : target k (edges_at a.edges s) ≡ Some s = ap (λ z. target z (edges_at a.edges s)) same ∙ h refl in
          rw q (ap (via (on w)) stays ∙ i true s l h)
      at true false q h i =
          let same : k ≡ text = eqb-true k text q in
          rw q (further (target k (edges_at a.edges s)) w (shortened text true w) refl (λ t e.
          i true t (r.closed s l k t e) (λ _. r.repeat s l t (ap (λ z. target z (edges_at a.edges s)) (sym same) ∙ e))))
      at false in_run q h i =
          rw q (further (target k (edges_at a.edges s)) w (shortened text false w) refl (λ t e. i false t (r.closed s l k t e) (λ f. absurd (cc))))

  pub shorter-fits : (e : Expr) → Runs e a → (w : List ℕ) → fits e w ≡ fits e (shortened text false w)
  shorter-fits e h w = sym (h.accepts w) ∙ (shorter w false 0 (omega arith) (λ f. absurd (cc)) ∙ h.accepts (shortened text false w))

-- a list of no content fits where it is empty
module _ (text : ℕ) where
  empty-only : (k : ℕ) (w : List ℕ) → fits Empty (k ∷ w) ≡ false
  empty-only k [] = refl
  empty-only k (j ∷ w) = empty-only j w

  beyond : (w : List ℕ) → fits Empty w ≡ fits Empty (shortened text false w)
  beyond [] = refl
  beyond (k ∷ w) = at (k == text)
    where
      at : (b : Bool) → fits Empty (k ∷ w) ≡ fits Empty (cond b (k ∷ shortened text true w) (k ∷ shortened text false w))
      at true = empty-only k w ∙ sym (empty-only k (shortened text true w))
      at false = empty-only k w ∙ sym (empty-only k (shortened text false w))

-- a type accepts a list where it accepts the shortened one
abbrev pub ByShortened : SchemaSpec → ℕ → ℕ → Type 0
ByShortened s text k = (w : List ℕ) → fits (node_at s k).content w ≡ fits (node_at s k).content (shortened text false w)

node-beyond : (ns : List NodeSpec) (k : ℕ) → length ns ≤ k → get_or ns k no_node ≡ no_node
node-beyond [] k h = refl
node-beyond (n ∷ ns) zero h = absurd (omega (arith, h))
node-beyond (n ∷ ns) (suc k) h = node-beyond ns k (omega (arith, h))

pub text-is : (s : SchemaSpec) (text : ℕ) → place_of (codes "text") (names_of_nodes s) ≡ Some text → (documents_of s).text ≡ text
unfolding documents_of
text-is s text named = ap (λ o. unwrap_or o 0) named

pub each-loose : (s : SchemaSpec) (text : ℕ) → place_of (codes "text") (names_of_nodes s) ≡ Some text → ((k : ℕ) → k < length s.nodes → ByShortened s text k) → IsLoose (documents_of s)
unfolding documents_of
each-loose s text named each k xs ys same = of k xs ∙ (ap (fits (node_at s k).content) alike ∙ sym (of k ys))
  where
    is : unwrap_or (place_of (codes "text") (names_of_nodes s)) 0 ≡ text
    is = ap (λ o. unwrap_or o 0) named

    alike : shortened text false xs ≡ shortened text false ys
    alike = ap (λ z. shortened z false xs) (sym is) ∙ (same ∙ ap (λ z. shortened z false ys) is)

    of : (k : ℕ) → ByShortened s text k
    of k = at (le_or_lt (length s.nodes) k)
      where
        at : (length s.nodes ≤ k) ⊎ (k < length s.nodes) → ByShortened s text k
        at (inl h) = λ w. rw (node-beyond s.nodes k h) (beyond text w)
        at (inr h) = each k h
