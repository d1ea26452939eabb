use Rattle.std.proofs.Common.{◌≡◌, ℕ, suc, ◌<◌, length, List, [], ◌∷◌, Bool, true, false, cond, eqb, Some, get_or, refl, ap, ◌∙◌, subst, arith}
use Rattle.std.proofs.lemmas.Bool.{eqb-true}
use Rattle.pm_auto.specs.declared.auto.Edge.{Edge}
use Rattle.pm_auto.specs.Walks.{target, edges_at}
use Rattle.pm_loose.proofs.loose.last_found.Goals as goal

-- an edge of the type
record Placed (k : ℕ) (es : List Edge) : Type 0 where
  place : ℕ
  within : place < length es
  kind : (e : Edge) → (get_or es place e).kind ≡ k

placed : (k t : ℕ) (es : List Edge) → target k es ≡ Some t → Placed k es
placed k t [] h = absurd (cc)
placed k t (e ∷ es) h = at (eqb e.kind k) refl (placed k t es)
  where
    later : Placed k es → Placed k (e ∷ es)
    later p = record { place = suc p.place; within = omega (arith, p.within); kind = p.kind }

    at : (b : Bool) → eqb e.kind k ≡ b → (target k es ≡ Some t → Placed k es) → Placed k (e ∷ es)
    at true q i = record { place = 0; within = omega arith; kind = λ _. eqb-true e.kind k q }
    at false q i = later (i (subst (λ (b : Bool). cond b (Some e.to) (target k es) ≡ Some t) q h))

pub returns-clause-leads : goal.returns-clause-leads
returns-clause-leads c = λ k t h.
    let es : List Edge = edges_at c.args.auto.now.edges c.args.state in
    let p = placed k t es h in
    let none : Edge = record { kind = 0; to = 0 } in
    let items : c.edges-edge-items.result.now ≡ es = c.edges-edge-items.ensures in
    let kind : (get_or c.edges-edge-items.result.now p.place none).kind ≡ k = ap (λ (xs : List Edge). (get_or xs p.place none).kind) items ∙ p.kind none in
    let l : p.place < c.loop-edge.edge-index = omega (arith, p.within, ap length items, c.loop-edge-test.false) in
    c.loop-edge.invariant.leads p.place none t l (ap (λ z. target z es) kind ∙ h)
