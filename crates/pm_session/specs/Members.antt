-- Members of a session.
use Rattle.std.specs.Prelude.{ℕ, Bool, true, false, List, map}
use Rattle.pm_session.specs.declared.member.Member.{Member}
use Rattle.pm_session.specs.declared.member.Member.TheVariants.{Editor, Raw}

module _ {Rules Doc Reason C : Type 0} where
  -- the name of a member
  abbrev pub name_of : Member C Rules Doc Reason → ℕ
  name_of (Editor c) = c.name
  name_of (Raw name serial) = name

  -- whether a member is a raw client
  abbrev pub is_raw : Member C Rules Doc Reason → Bool
  is_raw (Editor c) = false
  is_raw (Raw name serial) = true

  -- of each member in order, whether it is a raw client
  abbrev pub kinds_of : List (Member C Rules Doc Reason) → List Bool
  kinds_of members = map is_raw members
