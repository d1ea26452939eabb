-- The types that can be made with all that stands in them, and the types with a dead end.
use Rattle.std.specs.Prelude.{◌≡◌, ◌<◌, ℕ, Bool, true, false, List, [], ◌∷◌, suc, length, slice_index_or}
use Rattle.pm_auto.specs.declared.expr.Expr.{Expr}
use Rattle.pm_auto.specs.declared.auto.Auto.{Auto}
use Rattle.pm_auto.specs.Trim.{trimmed}
use Rattle.pm_auto.specs.Table.{rows}
use Rattle.pm_auto.specs.Runs.{fits}
use Rattle.pm_auto.specs.States.{start_of}
use Rattle.pm_auto.specs.Automata.{Is_automaton}
use Rattle.pm_auto.specs.Finish.{all_can, Finishes}
use Rattle.pm_schema.specs.declared.spec.NodeSpec.{NodeSpec}
use Rattle.pm_schema.specs.Types.{no_node}
use Rattle.pm_schema.specs.Made.{can_be_made}

-- the type of a place
abbrev pub nth : List NodeSpec → ℕ → NodeSpec
nth nodes k = slice_index_or nodes k no_node

-- the table has the type
abbrev pub Has : List Bool → ℕ → Type 0
Has table k = slice_index_or table k false ≡ true

mutual
  -- A node of the type can be made by filling alone: the type isn't that of texts, has no attribute without default, and a
  -- list of such types fits its content.
  pub data CanBeFilled (nodes : List NodeSpec) : ℕ → Type 0 where
    filled : (k : ℕ) (kinds : List ℕ) → k < length nodes → can_be_made (nth nodes k) ≡ true → fits (nth nodes k).content kinds ≡ true
        → AreFilled nodes kinds → CanBeFilled nodes k

  -- the same of each type of a list
  pub data AreFilled (nodes : List NodeSpec) : List ℕ → Type 0 where
    no_type : AreFilled nodes []
    and_type : (k : ℕ) (ks : List ℕ) → CanBeFilled nodes k → AreFilled nodes ks → AreFilled nodes (k ∷ ks)

-- each type of the table can be filled
abbrev pub HasFilled : List NodeSpec → List Bool → Type 0
HasFilled nodes table = (k : ℕ) → Has table k → CanBeFilled nodes k

-- A type is made from the types of a table where it isn't the type of texts, has no attribute without default, and a list of
-- types of the table fits its content.
pub record IsMade (n : NodeSpec) (table : List Bool) : Type 0 where
  pub can : can_be_made n ≡ true
  pub list : List ℕ
  pub of_table : all_can table list ≡ true
  pub fit : fits n.content list ≡ true

-- each type that is made from types of the table is in the table
abbrev pub IsClosed : List NodeSpec → List Bool → Type 0
IsClosed nodes table = (k : ℕ) → k < length nodes → IsMade (nth nodes k) table → Has table k

-- the table stands within each closed one
abbrev pub IsLeast : List NodeSpec → List Bool → Type 0
IsLeast nodes table = (other : List Bool) → IsClosed nodes other → (k : ℕ) → Has table k → Has other k

-- The generatable types: the least table that has each type which is made from its types. Of each of them a node can be made
-- by filling alone.
pub record IsGeneratable (nodes : List NodeSpec) (table : List Bool) : Type 0 where
  pub full : length table ≡ length nodes
  pub closed : IsClosed nodes table
  pub least : IsLeast nodes table
  pub filled : HasFilled nodes table

-- an automaton of the expression: its states are those that can be reached, each once
abbrev pub IsAutoOf : Expr → Auto → Type 0
IsAutoOf e a = Is_automaton (rows 0 (trimmed e)) (start_of (trimmed e)) a

-- each automaton is one of its type's content
abbrev pub AutosOf : List NodeSpec → List Auto → Type 0
AutosOf nodes autos = (k : ℕ) (d : Auto) → k < length autos → IsAutoOf (nth nodes k).content (slice_index_or autos k d)

-- from each state of the automaton a valid end can be reached through types of the table
abbrev pub Finishing : List Bool → Auto → Type 0
Finishing table a = (s : ℕ) → s < length a.sets → Finishes table a s

-- that holds of each of them
abbrev pub AllFinishing : List Bool → List Auto → Type 0
AllFinishing table autos = (k : ℕ) (d : Auto) → k < length autos → Finishing table (slice_index_or autos k d)

-- the same as a fact with at most one proof: it is absurd that a state is stuck
abbrev pub NeverStuck : List Bool → List Auto → Type 0
NeverStuck table autos = (k : ℕ) (d : Auto) (s : ℕ) → k < length autos → s < length (slice_index_or autos k d).sets → (Finishes table (slice_index_or autos k d) s → ⊥) → ⊥

pub never_stuck-prop : (table : List Bool) (autos : List Auto) → IsProp (NeverStuck table autos)
never_stuck-prop table autos = hlevel

-- the types that a round has left out
abbrev pub falses : List Bool → ℕ
falses [] = 0
falses (true ∷ bs) = falses bs
falses (false ∷ bs) = suc (falses bs)

-- a state of the automaton from which no valid end can be reached through types of the table
pub record DeadState (table : List Bool) (a : Auto) : Type 0 where
  pub state : ℕ
  pub inside : state < length a.sets
  pub stuck : Finishes table a state → ⊥

-- the type has a dead end: a state of the automaton of its content
pub record HasDeadEnd (table : List Bool) (e : Expr) : Type 0 where
  pub auto : Auto
  pub of_content : IsAutoOf e auto
  pub dead : DeadState table auto

-- the type has none
pub record HasNoDeadEnd (table : List Bool) (e : Expr) : Type 0 where
  pub auto : Auto
  pub of_content : IsAutoOf e auto
  pub live : Finishing table auto

-- the first type with a dead end
pub record FirstDeadEnd (nodes : List NodeSpec) (k : ℕ) : Type 0 where
  pub table : List Bool
  pub generatable : IsGeneratable nodes table
  pub inside : k < length nodes
  pub dead : HasDeadEnd table (nth nodes k).content
  pub before : (j : ℕ) → j < k → HasNoDeadEnd table (nth nodes j).content
