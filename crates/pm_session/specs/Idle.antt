-- Members that have done nothing yet.
use Rattle.std.specs.Prelude.{◌≡◌, ℕ, [], slice_get, Some}
use Rattle.pm_session.specs.declared.member.Member.{Member}
use Rattle.pm_session.specs.declared.member.Member.TheVariants.{Editor, Raw}
use Rattle.pm_session.specs.Events.{State}

module _ {Rules Doc Reason C : Type 0} where
  -- the member has drawn no serial and composed no message
  abbrev pub IsIdle : Member C Rules Doc Reason → Type 0
  IsIdle (Editor c) = (c.serials ≡ 0) × (c.messages ≡ [])
  IsIdle (Raw name serial) = serial ≡ 0

  -- so it is with the member at this place, which is there
  abbrev pub IsIdleAt : State C Rules Doc Reason → ℕ → Type 0
  IsIdleAt s i = (x : Member C Rules Doc Reason) × (slice_get s.members i ≡ Some x) × IsIdle x
