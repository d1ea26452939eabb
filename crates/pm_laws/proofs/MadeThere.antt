-- The generatable types are there, where each content has an automaton; and without dead ends they are the types that can be made.
use Rattle.std.proofs.Common.{◌≡◌, ◌<◌, ◌≤◌, ◌⊎◌, ◌↔◌, ◌+◌, ℕ, zero, suc, List, [], ◌∷◌, length, map, set, replicate, Bool, true, false, get_or, inl, inr, refl, ap, sym, ◌∙◌, subst, arith}
use Rattle.pm_auto.specs.declared.expr.Expr.{Expr}
use Rattle.pm_auto.specs.declared.sets.PlaceSet.{PlaceSet}
use Rattle.pm_auto.specs.declared.auto.Auto.{Auto}
use Rattle.pm_auto.specs.Trim.{trimmed}
use Rattle.pm_auto.specs.Table.{rows}
use Rattle.pm_auto.specs.States.{kinds, once}
use Rattle.pm_auto.specs.Finish.{Finishes}
use Rattle.pm_auto.proofs.AcceptLaws.{accepted-fits, edges-of-at}
use Rattle.pm_schema.specs.declared.spec.NodeSpec.{NodeSpec}
use Rattle.pm_schema.specs.Contents.{starts, Runs}
use Rattle.pm_schema.specs.Made.{can_be_made}
use Rattle.pm_schema.specs.Generated.{nth, IsMade, CanBeFilled, filled, HasFilled, IsGeneratable, IsAutoOf, HasNoDeadEnd, falses}
use Rattle.pm_schema.proofs.Rounds.{Round, made-is, round-adds, round-passes, generated}
use Rattle.pm_laws.proofs.EndsThere.{ends-there}

-- an automaton of a content runs it
pub auto-runs : (e : Expr) (a : Auto) (h : IsAutoOf e a) → Runs e a
unfolding starts
auto-runs e a h =
    let es = edges-of-at (rows 0 (trimmed e)) a.sets a.sets a.edges 0 (omega (arith, h.full, h.some)) h.edges in
    record {
      accepts = accepted-fits e a h;
      first = es.types ∙ ap (λ (s : PlaceSet). once [] (kinds (rows 0 (trimmed e)) s.places)) h.begins;
    }

-- each type of a list of types has an automaton of its content
abbrev pub HaveAutos : List NodeSpec → Type 0
HaveAutos nodes = (k : ℕ) → k < length nodes → (a : Auto) × IsAutoOf (nth nodes k).content a

none-has : (n k : ℕ) → get_or (replicate n false) k false ≡ false
none-has zero k = refl
none-has (suc n) zero = refl
none-has (suc n) (suc k) = none-has n k

long-none : (n : ℕ) → length (replicate n false) ≡ n
long-none zero = refl
long-none (suc n) = ap suc (long-none n)

module _ (nodes : List NodeSpec) (have : HaveAutos nodes) where
  made-or : (table : List Bool) (k : ℕ) → k < length nodes → IsMade (nth nodes k) table ⊎ (IsMade (nth nodes k) table → ⊥)
  made-or table k l = at (can_be_made (nth nodes k)) refl
    where
      by : can_be_made (nth nodes k) ≡ true → (b : Bool) → (b ≡ true) ↔ Finishes table (have k l).0 0 → IsMade (nth nodes k) table ⊎ (IsMade (nth nodes k) table → ⊥)
      by e true f = inl ((made-is (nth nodes k) (have k l).0 table true (auto-runs (nth nodes k).content (have k l).0 (have k l).1) e f).0 refl)
      by e false f = inr (λ m. let z : false ≡ true = (made-is (nth nodes k) (have k l).0 table false (auto-runs (nth nodes k).content (have k l).0 (have k l).1) e f).1 m in absurd (cc))

      at : (c : Bool) → can_be_made (nth nodes k) ≡ c → IsMade (nth nodes k) table ⊎ (IsMade (nth nodes k) table → ⊥)
      at false e = inr (λ m. let z : true ≡ false = sym m.can ∙ e in absurd (cc))
      at true e = let t = ends-there table (have k l).0 in by e (get_or t.0 0 false) (t.1 0 (have k l).0.some)

  -- what a round of the first n types comes to
  record RoundOf (old : List Bool) (n : ℕ) : Type 0 where
    table : List Bool
    more : Bool
    round : Round nodes old table more n

  next-round : (old : List Bool) (n : ℕ) → n < length nodes → RoundOf old n → RoundOf old (n + 1)
  next-round old n l r = at (get_or r.table n false) refl (made-or r.table n l)
    where
      at : (b : Bool) → get_or r.table n false ≡ b → IsMade (nth nodes n) r.table ⊎ (IsMade (nth nodes n) r.table → ⊥) → RoundOf old (n + 1)
      at true e d = record { table = r.table; more = r.more; round = round-passes nodes old r.table r.more n (λ m. e) r.round }
      at false e (inl m) = record { table = set r.table n true; more = true; round = round-adds nodes old r.table r.more n l e m r.round }
      at false e (inr none) = record { table = r.table; more = r.more; round = round-passes nodes old r.table r.more n (λ m. absurd (none m)) r.round }

  a-round : (old : List Bool) (n : ℕ) → n ≤ length nodes → length old ≡ length nodes → RoundOf old n
  a-round old zero l full = record { table = old; more = false; round = record { full = full; filling = λ h. h; fewer = λ t. absurd (cc); same = λ t. refl; closed = λ t j i. absurd (omega (arith, i)) } }
  a-round old (suc n) l full = let z : n + 1 ≡ suc n = omega arith in subst (RoundOf old) z (next-round old n (omega (arith, l)) (a-round old n (omega (arith, l)) full))

  abbrev Generatable : Type 0
  Generatable = (table : List Bool) × IsGeneratable nodes table

  -- rounds until one adds nothing
  rounds : (fuel : ℕ) (old : List Bool) → length old ≡ length nodes → HasFilled nodes old → falses old ≤ fuel → Generatable
  rounds zero old full h l = at (a-round old (length nodes) (omega arith) full)
    where
      by : (table : List Bool) (more : Bool) → Round nodes old table more (length nodes) → Generatable
      by table false r = (table, generated nodes table r.full (r.closed refl) (r.filling h))
      by table true r = let f : falses table < falses old = r.fewer refl in absurd (omega (arith, l, f))

      at : RoundOf old (length nodes) → Generatable
      at r = by r.table r.more r.round
  rounds (suc fuel) old full h l = at (a-round old (length nodes) (omega arith) full) (rounds fuel)
    where
      by : (table : List Bool) (more : Bool) → Round nodes old table more (length nodes)
          → ((next : List Bool) → length next ≡ length nodes → HasFilled nodes next → falses next ≤ fuel → Generatable) → Generatable
      by table false r go = (table, generated nodes table r.full (r.closed refl) (r.filling h))
      by table true r go = let f : falses table < falses old = r.fewer refl in go table r.full (r.filling h) (omega (arith, l, f))

      at : RoundOf old (length nodes) → ((next : List Bool) → length next ≡ length nodes → HasFilled nodes next → falses next ≤ fuel → Generatable) → Generatable
      at r go = by r.table r.more r.round go

  pub table-there : Generatable
  table-there =
      rounds (falses (replicate (length nodes) false)) (replicate (length nodes) false) (long-none (length nodes))
      (λ k h. let z : true ≡ false = sym h ∙ none-has (length nodes) k in absurd (cc)) (omega arith)

-- ---- without dead ends

filled-can : (nodes : List NodeSpec) (k : ℕ) → CanBeFilled nodes k → can_be_made (nth nodes k) ≡ true
filled-can nodes _ (filled k kinds l c f a) = c

-- a table that agrees with a test of each type
by-tests : (ns : List NodeSpec) (table : List Bool) → length table ≡ length ns → ((k : ℕ) → k < length ns → can_be_made (nth ns k) ≡ get_or table k false) → table ≡ map can_be_made ns
by-tests [] [] l h = refl
by-tests [] (b ∷ table) l h = absurd (omega (arith, l))
by-tests (n ∷ ns) [] l h = absurd (omega (arith, l))
by-tests (n ∷ ns) (b ∷ table) l h =
    let e : can_be_made n ≡ b = h 0 (omega arith) in
    let rest : table ≡ map can_be_made ns = by-tests ns table (omega (arith, l)) (λ i j. h (suc i) (omega (arith, j))) in
    λ i. sym e i ∷ rest i

pub table-is : (nodes : List NodeSpec) (table : List Bool) → IsGeneratable nodes table → ((k : ℕ) → k < length nodes → HasNoDeadEnd table (nth nodes k).content) → table ≡ map can_be_made nodes
table-is nodes table g live = by-tests nodes table g.full (λ k l. at k l (can_be_made (nth nodes k)) (get_or table k false) refl refl)
  where
    at : (k : ℕ) → k < length nodes → (b t : Bool) → can_be_made (nth nodes k) ≡ b → get_or table k false ≡ t → can_be_made (nth nodes k) ≡ get_or table k false
    at k l true true e f = e ∙ sym f
    at k l false false e f = e ∙ sym f
    at k l true false e f =
        let n = live k l in
        let s : Finishes table n.auto 0 = n.live 0 n.auto.some in
        let r = auto-runs (nth nodes k).content n.auto n.of_content in
        e ∙ sym (g.closed k l (record { can = e; list = s.list; of_table = s.makeable; fit = sym (r.accepts s.list) ∙ s.ends }))
    at k l false true e f = filled-can nodes k (g.filled k f) ∙ sym f
