-- What follows for expressions that say the same.
use Rattle.std.proofs.Common.{◌≡◌, ◌⊎◌, ℕ, suc, ◌+◌, ◌<◌, ◌≤◌, ◌++◌, List, [], ◌∷◌, Bool, true, false, length, get_or, refl, ap, ◌∙◌, sym, subst, inl, inr, arith, length-append}
use Rattle.pm_auto.specs.declared.expr.Expr.{Expr, Empty, One, Choice', Seq', Plus', Star', Opt', Range', Row_of-Expr, end_of-Expr, more_of-Expr}
use Rattle.pm_auto.specs.Tree as tree
use Rattle.pm_auto.specs.Tree.{Tree, Trees, tree, trees}
use Rattle.pm_auto.specs.Core.{Core}
use Rattle.pm_auto.specs.Trim.{trim}
use Rattle.pm_auto.specs.Types.{types, types_of_all, one_is, Is_mixed}
use Rattle.pm_auto.specs.Table.{width, rows}
use Rattle.pm_auto.specs.States.{start_of, Too_many}
use Rattle.pm_auto.specs.Automata.{Is_automaton}
use Rattle.pm_auto.specs.declared.auto.Auto.{Auto}
use Rattle.pm_auto.specs.declared.error.AutoError.TheVariants.{TooWide}
use Rattle.pm_auto.specs.Built.{Is_fault}
use Rattle.pm_schema.specs.declared.spec.NodeSpec.{NodeSpec}
use Rattle.pm_schema.specs.declared.spec.SchemaSpec.{SchemaSpec}
use Rattle.pm_schema.specs.Types.{node_at}
use Rattle.pm_schema.specs.Generated.{nth, IsAutoOf, AutosOf}
use Rattle.pm_schema.specs.Refusals.{inline_table, HasAutomaton}
use Rattle.pm_schema.specs.Shared.{HasNoFault}
use Rattle.pm_auto.proofs.TreeLaws.{same-expand}
use Rattle.pm_schema.proofs.Orders.{le_or_lt}
use Rattle.pm_schema.proofs.Tables.{nth-is, autos-more}

-- the types of what an expression says
abbrev mutual
  kinds_in : Tree → List ℕ
  kinds_in tree.empty = []
  kinds_in (tree.one t) = t ∷ []
  kinds_in (tree.choice es) = kinds_in_all es
  kinds_in (tree.seq es) = kinds_in_all es
  kinds_in (tree.plus e) = kinds_in e
  kinds_in (tree.star e) = kinds_in e
  kinds_in (tree.opt e) = kinds_in e
  kinds_in (tree.range e n m) = kinds_in e

  kinds_in_all : Trees → List ℕ
  kinds_in_all tree.none = []
  kinds_in_all (tree.more e es) = kinds_in e ++ kinds_in_all es

mutual
  types-tree : (e : Expr) → types e ≡ kinds_in (tree e)
  types-tree Empty = refl
  types-tree (One t) = refl
  types-tree (Choice' n es) = types-trees _ es
  types-tree (Seq' n es) = types-trees _ es
  types-tree (Plus' p e) = types-tree e
  types-tree (Star' p e) = types-tree e
  types-tree (Opt' p e) = types-tree e
  types-tree (Range' p e n m) = types-tree e

  types-trees : (n : _) (es : Row_of-Expr n) → types_of_all es ≡ kinds_in_all (trees es)
  types-trees n end_of-Expr = refl
  types-trees n (more_of-Expr e es) = ap (λ c. c ++ types_of_all es) (types-tree e) ∙ ap (λ cs. kinds_in (tree e) ++ cs) (types-trees _ es)

pub same-types : (d e : Expr) → tree d ≡ tree e → types d ≡ types e
same-types d e h = types-tree d ∙ ap kinds_in h ∙ sym (types-tree e)

-- one automaton is that of both
pub same-auto : (d e : Expr) (a : Auto) → tree d ≡ tree e → IsAutoOf d a → IsAutoOf e a
same-auto d e a h auto = subst (λ (c : Core). Is_automaton (rows 0 (trim c)) (start_of (trim c)) a) (same-expand d e h) auto

-- what refuses one of them an automaton refuses it to the other
mixed-other : (d e : Expr) (inline : List Bool) → tree d ≡ tree e → Is_mixed d inline → Is_mixed e inline
mixed-other d e inline h m = subst (λ (ts : List ℕ). (one_is inline true ts ≡ true) × (one_is inline false ts ≡ true)) (same-types d e h) m

wide-other : (d e : Expr) (inline : List Bool) → tree d ≡ tree e → Is_fault d inline TooWide → Is_fault e inline TooWide
wide-other d e inline h f =
    (λ m. f.0 (mixed-other e d inline (sym h) m), subst (λ (c : Core). (4096 < width c) ⊎ Too_many (rows 0 (trim c)) (start_of (trim c))) (same-expand d e h) f.1)

pub same-none : (d e : Expr) (inline : List Bool) → tree d ≡ tree e → HasNoFault d inline → HasNoFault e inline
same-none d e inline h n = record {
  pure = λ m. n.pure (mixed-other e d inline (sym h) m);
  narrow = λ f. n.narrow (wide-other e d inline (sym h) f);
}

-- one more automaton
pub one-more-auto : (s : SchemaSpec) (as' new : List Auto) (i : ℕ) (n : NodeSpec) (a : Auto) (inline : List Bool) → length as' ≡ i → i < length s.nodes → n ≡ get_or s.nodes i n → inline ≡ inline_table s
    → new ≡ as' ++ a ∷ [] → AutosOf s.nodes as' → ((j : ℕ) → j < i → HasAutomaton s j) → IsAutoOf n.content a → HasNoFault n.content inline
    → (length new ≡ i + 1) × AutosOf s.nodes new × ((j : ℕ) → j < i + 1 → HasAutomaton s j)
one-more-auto s as' new i n a inline li l en ei e all have auto none =
    let len : length (as' ++ a ∷ []) ≡ suc (length as') = rw length-append (omega arith) in
    let m : length new ≡ i + 1 = ap length e ∙ omega (arith, len, li) in
    let q : n ≡ node_at s i = nth-is s.nodes i n l en in
    let c : HasNoFault (node_at s i).content (inline_table s) = subst (λ (t : List Bool). HasNoFault (node_at s i).content t) ei (subst (λ (x : NodeSpec). HasNoFault x.content inline) q none) in
    let b : IsAutoOf (node_at s i).content a = subst (λ (x : NodeSpec). IsAutoOf x.content a) q auto in
    let d : IsAutoOf (nth s.nodes (length as')).content a = subst (λ (j : ℕ). IsAutoOf (nth s.nodes j).content a) (sym li) b in
    (m, subst (AutosOf s.nodes) (sym e) (autos-more s.nodes as' a d all), λ j k. at c j (le_or_lt i j) k)
  where
    at : HasNoFault (node_at s i).content (inline_table s) → (j : ℕ) → (i ≤ j) ⊎ (j < i) → j < i + 1 → HasAutomaton s j
    at c j (inl x) k = let z : i ≡ j = omega (arith, x, k) in subst (HasAutomaton s) z (record { pure = c.pure; narrow = c.narrow })
    at c j (inr x) k = have j x
