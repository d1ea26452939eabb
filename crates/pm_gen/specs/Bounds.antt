-- How large a generated session may be.
use Rattle.std.specs.Prelude.{ℕ, ◌*◌, ◌≤◌}
use Rattle.pm_gen.specs.declared.bounds.TheConstants.{MAX_CLIENTS, MAX_OP_LINES}

-- at least one client, and no more clients and op lines than a session may have
pub record InBounds (clients rounds : ℕ) : Type 0 where
  pub some : 1 ≤ clients
  pub few : clients ≤ MAX_CLIENTS
  pub short : rounds ≤ MAX_OP_LINES
  pub small : clients * rounds ≤ MAX_OP_LINES
