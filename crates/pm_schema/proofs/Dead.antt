-- Automata of all types, and dead ends.
use Rattle.std.proofs.Common.{◌≡◌, ℕ, ◌<◌, List, Bool, true, length, get_or, sym, subst, arith}
use Rattle.std.specs.Prelude.{Option, Some, None, is_some, MatchOption}
use Rattle.pm_auto.specs.declared.auto.Auto.{Auto}
use Rattle.pm_auto.specs.Finish.{Finishes}
use Rattle.pm_schema.specs.declared.spec.SchemaSpec.{SchemaSpec}
use Rattle.pm_schema.specs.Generated.{nth, IsAutoOf, AutosOf, Finishing, DeadState, IsGeneratable, FirstDeadEnd}

pub dead-at : (table : List Bool) (a : Auto) (o : Option ℕ) → is_some o ≡ true → MatchOption o (Unit {0}) (λ s. s < length a.sets) → MatchOption o (Finishing table a) (λ s. Finishes table a s → ⊥) → DeadState table a
dead-at table a None h i d = absurd (cc)
dead-at table a (Some s) h i d = record { state = s; inside = i; stuck = d }

-- the first type with a dead end
pub dead-first : (s : SchemaSpec) (autos : List Auto) (table : List Bool) (k : ℕ) (a : Auto) → k < length autos → length autos ≡ length s.nodes → AutosOf s.nodes autos → IsGeneratable s.nodes table → a ≡ get_or autos k a
    → ((j : ℕ) (d : Auto) → j < k → Finishing table (get_or autos j d)) → DeadState table a → FirstDeadEnd s.nodes k
dead-first s autos table k a l full autos-of g e before d =
    record {
      table = table;
      generatable = g;
      inside = omega (arith, l, full);
      dead = record { auto = a; of_content = subst (λ (b : Auto). IsAutoOf (nth s.nodes k).content b) (sym e) (autos-of k a l); dead = d };
      before = λ j m. record { auto = get_or autos j a; of_content = autos-of j a (omega (arith, l, m)); live = before j a m };
    }
