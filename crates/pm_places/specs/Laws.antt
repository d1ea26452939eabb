-- The states and edges of an automaton by place words.
use Rattle.std.specs.Prelude.{◌≡◌, ℕ, ◌<◌, List, ◌∷◌, ◌++◌, length, Some, IsSome, Contains, ◌↔◌}
use Rattle.pm_auto.specs.declared.expr.Expr.{Expr}
use Rattle.pm_auto.specs.declared.auto.Auto.{Auto}
use Rattle.pm_auto.specs.Lang.{In}
use Rattle.pm_auto.specs.Trim.{trimmed}
use Rattle.pm_auto.specs.Table.{rows}
use Rattle.pm_auto.specs.States.{start_of, set_at, edge_kinds}
use Rattle.pm_auto.specs.Automata.{Is_automaton}
use Rattle.pm_auto.specs.Walks.{edges_at}
use Rattle.pm_schema.specs.declared.schema.Schema.{Schema}
use Rattle.pm_schema.specs.Contents.{starts}
use Rattle.pm_schema.specs.Types.{node_at}
use Rattle.pm_schema.specs.Built.{IsBuilt}
use Rattle.pm_places.specs.Nexts.{IsBegun, led_to, IsStateAfter, AreTypesNext, AreAlike}

-- the automaton is that of the expression
abbrev pub IsAutomatonOf : Expr → Auto → Type 0
IsAutomatonOf e a = Is_automaton (rows 0 (trimmed e)) (start_of (trimmed e)) a

-- A list leads from the start to a state exactly where it is empty or some place word begins with places that spell it.
abbrev pub LeadsWhereBegun : Expr → Auto → Type 0
LeadsWhereBegun e a = IsAutomatonOf e a → (w : List ℕ) → IsSome (led_to a.edges 0 w) ↔ IsBegun e w

-- The state that a list leads to has the places that may come next, and says whether the list is in the language.
abbrev pub LeadsToState : Expr → Auto → Type 0
LeadsToState e a = IsAutomatonOf e a → (w : List ℕ) (s : ℕ) → led_to a.edges 0 w ≡ Some s → IsStateAfter e w (set_at a.sets s)

-- The edges of that state are the types of these places, in the order of the least place of each.
abbrev pub HasEdgesNext : Expr → Auto → Type 0
HasEdgesNext e a = IsAutomatonOf e a → (w : List ℕ) (s : ℕ) → led_to a.edges 0 w ≡ Some s → AreTypesNext e w (edge_kinds (edges_at a.edges s))

-- Each state is one that some list leads to.
abbrev pub ReachesEachState : Expr → Auto → Type 0
ReachesEachState e a = IsAutomatonOf e a → (s : ℕ) → s < length a.sets → (w : List ℕ) × (led_to a.edges 0 w ≡ Some s)

-- Lists after which the same places may come next, both in the language or both not, lead to one state.
abbrev pub LeadsAlikeTogether : Expr → Auto → Type 0
LeadsAlikeTogether e a = IsAutomatonOf e a → (v w : List ℕ) (s t : ℕ) → led_to a.edges 0 v ≡ Some s → led_to a.edges 0 w ≡ Some t
    → AreAlike e v w → s ≡ t

-- The types of the edges of that state are exactly those with which the list goes on to some list in the language. The edges
-- of the start are thus the types with which a list in the language begins.
abbrev pub EdgesGoOn : Expr → Auto → Type 0
EdgesGoOn e a = IsAutomatonOf e a → (w : List ℕ) (s : ℕ) → led_to a.edges 0 w ≡ Some s
    → (k : ℕ) → Contains (edge_kinds (edges_at a.edges s)) k ↔ ((rest : List ℕ) × In e (w ++ k ∷ rest))

-- In a schema that was built, the types that may stand first in a node of this type are exactly those with which a list in the
-- language of its content begins.
abbrev pub StartsBegin : Schema → ℕ → Type 0
StartsBegin s kind = IsBuilt s
    → (k : ℕ) → Contains (starts (node_at s.spec kind).content) k ↔ ((rest : List ℕ) × In (node_at s.spec kind).content (k ∷ rest))
