-- Rounds over the types that add those that can be made.
use Rattle.std.proofs.Common.{◌≡◌, ◌<◌, ◌≤◌, ◌⊎◌, ◌↔◌, ℕ, zero, suc, ◌+◌, Bool, true, false, ◌&&◌, List, [], ◌∷◌, length, get_or, set, replicate, refl, ap, ◌∙◌, sym, subst, inl, inr, arith}
use Rattle.pm_schema.proofs.Orders.{le_or_lt}
use Rattle.pm_auto.specs.Finish.{all_can, Finishes}
use Rattle.pm_auto.specs.declared.auto.Auto.{Auto}
use Rattle.pm_schema.specs.declared.spec.NodeSpec.{NodeSpec}
use Rattle.pm_schema.specs.Contents.{Runs}
use Rattle.pm_schema.specs.Made.{can_be_made}
use Rattle.pm_schema.specs.Generated.{nth, Has, IsMade, IsClosed, CanBeFilled, filled, AreFilled, no_type, and_type, HasFilled, IsGeneratable, falses}

-- the table after the first k types of a round
pub record Round (nodes : List NodeSpec) (old table : List Bool) (more : Bool) (k : ℕ) : Type 0 where
  pub full : length table ≡ length nodes
  pub filling : HasFilled nodes old → HasFilled nodes table
  pub fewer : more ≡ true → falses table < falses old
  pub same : more ≡ false → table ≡ old
  pub closed : more ≡ false → (j : ℕ) → j < k → IsMade (nth nodes j) table → Has table j

-- the automaton of a content tells whether the type is made
pub made-is : (n : NodeSpec) (a : Auto) (table : List Bool) (b : Bool) → Runs n.content a → can_be_made n ≡ true → (b ≡ true) ↔ Finishes table a 0 → (b ≡ true) ↔ IsMade n table
made-is n a table b r c f = (
  (λ e. let g : Finishes table a 0 = f.0 e in record { can = c; list = g.list; of_table = g.makeable; fit = sym (r.accepts g.list) ∙ g.ends }),
  (λ m. f.1 record { list = m.list; makeable = m.of_table; ends = r.accepts m.list ∙ m.fit }),
)

pub falses-set : (bs : List Bool) (i : ℕ) → i < length bs → get_or bs i false ≡ false → falses (set bs i true) < falses bs
falses-set [] i l e = absurd (omega arith)
falses-set (true ∷ bs) zero l e = absurd (cc)
falses-set (false ∷ bs) zero l e = omega arith
falses-set (true ∷ bs) (suc i) l e = falses-set bs i (omega arith) e
falses-set (false ∷ bs) (suc i) l e = let z : falses (set bs i true) < falses bs = falses-set bs i (omega arith) e in omega (arith, z)

has-set : (bs : List Bool) (i j : ℕ) → Has (set bs i true) j → (i ≡ j) ⊎ Has bs j
has-set [] i j h = inr h
has-set (b ∷ bs) zero zero h = inl refl
has-set (b ∷ bs) zero (suc j) h = inr h
has-set (b ∷ bs) (suc i) zero h = inr h
has-set (b ∷ bs) (suc i) (suc j) h = next (has-set bs i j h)
  where
    next : (i ≡ j) ⊎ Has bs j → (suc i ≡ suc j) ⊎ Has bs j
    next (inl e) = inl (ap suc e)
    next (inr h) = inr h

both : (b c : Bool) → b && c ≡ true → (b ≡ true) × (c ≡ true)
both true c h = (refl, h)
both false c h = absurd (cc)

-- a list of types of a table is one of a table around it
pub all_can-more : (table other : List Bool) → ((k : ℕ) → Has table k → Has other k) → (w : List ℕ) → all_can table w ≡ true → all_can other w ≡ true
all_can-more table other f [] h = refl
all_can-more table other f (k ∷ w) h =
    let b : (get_or table k false ≡ true) × (all_can table w ≡ true) = both (get_or table k false) (all_can table w) h in
    rw (f k b.0, all_can-more table other f w b.1) refl

-- each type of a list of types of the table can be filled
all-filled : (nodes : List NodeSpec) (table : List Bool) → HasFilled nodes table → (w : List ℕ) → all_can table w ≡ true → AreFilled nodes w
all-filled nodes table f [] h = no_type
all-filled nodes table f (k ∷ w) h =
    let b : (get_or table k false ≡ true) × (all_can table w ≡ true) = both (get_or table k false) (all_can table w) h in
    and_type k w (f k b.0) (all-filled nodes table f w b.1)

-- a type that is made of types that can be filled can be filled
pub filled-more : (nodes : List NodeSpec) (table : List Bool) (i : ℕ) → i < length nodes → IsMade (nth nodes i) table → HasFilled nodes table → HasFilled nodes (set table i true)
filled-more nodes table i l m f j h = at (has-set table i j h)
  where
    at : (i ≡ j) ⊎ Has table j → CanBeFilled nodes j
    at (inl e) = subst (CanBeFilled nodes) e (filled i m.list l m.can m.fit (all-filled nodes table f m.list m.of_table))
    at (inr x) = f j x

-- a type that can be filled is in each closed table
mutual
  pub filled-has : (nodes : List NodeSpec) (table : List Bool) → IsClosed nodes table → (k : ℕ) → CanBeFilled nodes k → Has table k
  filled-has nodes table closed _ (filled k kinds l c f a) = closed k l (record { can = c; list = kinds; of_table = filled-all nodes table closed kinds a; fit = f })

  filled-all : (nodes : List NodeSpec) (table : List Bool) → IsClosed nodes table → (ks : List ℕ) → AreFilled nodes ks → all_can table ks ≡ true
  filled-all nodes table closed _ no_type = refl
  filled-all nodes table closed _ (and_type k ks c a) = rw (filled-has nodes table closed k c, filled-all nodes table closed ks a) refl

-- the generatable types
pub generated : (nodes : List NodeSpec) (table : List Bool) → length table ≡ length nodes → IsClosed nodes table → HasFilled nodes table → IsGeneratable nodes table
generated nodes table full closed f = record {
  full = full;
  closed = closed;
  least = λ other c k h. filled-has nodes other c k (f k h);
  filled = f;
}

length-set : (bs : List Bool) (i : ℕ) → length (set bs i true) ≡ length bs
length-set [] i = refl
length-set (b ∷ bs) zero = refl
length-set (b ∷ bs) (suc i) = ap suc (length-set bs i)

-- a type that is made goes into the table
pub round-adds : (nodes : List NodeSpec) (old table : List Bool) (more : Bool) (k : ℕ) → k < length nodes → get_or table k false ≡ false → IsMade (nth nodes k) table → Round nodes old table more k
    → Round nodes old (set table k true) true (k + 1)
round-adds nodes old table more k l e m r =
    let f : falses (set table k true) < falses table = falses-set table k (omega (arith, r.full)) e in
    record {
      full = length-set table k ∙ r.full;
      filling = λ x. filled-more nodes table k l m (r.filling x);
      fewer = λ t. at more refl f;
      same = λ t. absurd (cc);
      closed = λ t j i n. absurd (cc);
    }
  where
    at : (b : Bool) → more ≡ b → falses (set table k true) < falses table → falses (set table k true) < falses old
    at true q f = let g : falses table < falses old = r.fewer q in omega (arith, f, g)
    at false q f = subst (λ (t : List Bool). falses (set table k true) < falses t) (r.same q) f

-- one that is in the table already, or isn't made, changes nothing
pub round-passes : (nodes : List NodeSpec) (old table : List Bool) (more : Bool) (k : ℕ) → (IsMade (nth nodes k) table → Has table k) → Round nodes old table more k → Round nodes old table more (k + 1)
round-passes nodes old table more k p r =
    record {
      full = r.full;
      filling = r.filling;
      fewer = r.fewer;
      same = r.same;
      closed = λ t j i m. at t j (le_or_lt k j) i m;
    }
  where
    at : more ≡ false → (j : ℕ) → (k ≤ j) ⊎ (j < k) → j < k + 1 → IsMade (nth nodes j) table → Has table j
    at t j (inl a) i m = let z : k ≡ j = omega (arith, a, i) in subst (Has table) z (p (subst (λ (n : ℕ). IsMade (nth nodes n) table) (sym z) m))
    at t j (inr a) i m = r.closed t j a m
