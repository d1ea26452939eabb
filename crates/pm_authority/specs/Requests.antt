-- Which requests are a client's own.
use Rattle.std.specs.Prelude.{◌≡◌, ℕ, All}
use Rattle.pm_authority.specs.declared.message.Message.{Message}
use Rattle.pm_authority.specs.declared.message.Message.TheVariants.{Submit, Ask}
use Rattle.pm_authority.specs.declared.machine.Request.{Request}

module _ {C : Type 0} where
  -- each step of a submission is named by this client
  abbrev pub NamedBy : ℕ → Message C → Type 0
  NamedBy n (Submit version steps) = All (λ s. s.name.client ≡ n) steps
  NamedBy n (Ask version) = Unit {0}

  -- the request tells this client's number, and its steps are named by this client
  abbrev pub IsOwn : ℕ → Request C → Type 0
  IsOwn n q = (q.client ≡ n) × NamedBy n q.message
