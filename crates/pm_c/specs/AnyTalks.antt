-- A talk of any kind: that of an authority, of a client, or of a house. What a line is answered, and what the talk is then, is as its
-- kind has it.
use Rattle.std.specs.Prelude.{ℕ, Bool, true, List}
use Rattle.pm_talk.specs.Talk as authority
use Rattle.pm_editor.specs.Talk as client
use Rattle.pm_house.specs.Houses as houses
use Rattle.pm_house.specs.Replies as house
use Rattle.pm_c.specs.declared.any_talk.AnyTalk.{AnyTalk}
use Rattle.pm_c.specs.declared.any_talk.AnyTalk.TheVariants.{Authority, Client, House}

-- what a line is answered, whether further lines are, and what the talk is then
abbrev pub Replies : AnyTalk → List ℕ → List ℕ → Bool → AnyTalk → Type 0
Replies (Authority talk) line text more (Authority next) = authority.Replies talk line text more next
Replies (Authority talk) line text more (Client next) = ⊥
Replies (Authority talk) line text more (House next) = ⊥
Replies (Client talk) line text more (Authority next) = ⊥
Replies (Client talk) line text more (Client next) = client.Replies talk line text more next
Replies (Client talk) line text more (House next) = ⊥
Replies (House talk) line text more (Authority next) = ⊥
Replies (House talk) line text more (Client next) = ⊥
Replies (House talk) line text more (House next) = house.Serving talk line text more next

-- what is said where no further line comes
abbrev pub last_text : AnyTalk → List ℕ
last_text (Authority talk) = authority.last_text talk
last_text (Client talk) = client.last_text talk
last_text (House talk) = house.last_text talk

-- The lines that open it came. A house has none, and is open from the first.
abbrev pub is_open : AnyTalk → Bool
is_open (Authority talk) = authority.is_open talk
is_open (Client talk) = client.is_open talk
is_open (House talk) = true

-- what each line needs of a talk, and leaves so
abbrev pub IsGood : AnyTalk → Type 0
IsGood (Authority talk) = authority.IsGood talk
IsGood (Client talk) = client.IsGood talk
IsGood (House talk) = houses.IsGood talk
