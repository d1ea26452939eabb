-- The sizes of a talk, for private clauses.
use Rattle.std.specs.Prelude.{◌≡◌, Bool, true, not, ◌&&◌, ◌==◌, length, Option, None, Some}
use Rattle.pm_talk.specs.declared.live.Live.{Live}
use Rattle.pm_talk.specs.declared.talk.Talk.{Talk}
use Rattle.pm_talk.specs.declared.talk.Talk.TheVariants.{AwaitsSchema, AwaitsDocument, Open}
use Rattle.pm_kept.specs.declared.sizes.Sizes.{Sizes}

-- how many steps the log has, and how many IDs there are
abbrev pub HasSizes : Option Sizes → Talk → Type 0
HasSizes sizes AwaitsSchema = sizes ≡ None
HasSizes sizes (AwaitsDocument s) = sizes ≡ None
HasSizes sizes (Open live) = sizes ≡ Some record { steps = length live.authority.log; ids = length live.ids }

-- the log is as long as before, and there are as many IDs
abbrev pub is_same_size : Live → Live → Bool
is_same_size live next = (length next.authority.log == length live.authority.log) && (length next.ids == length live.ids)

-- A line between them that is not the last changed the talk: it was line 1 or 2, or made the log longer, or added an ID.
abbrev pub changes : Talk → Talk → Bool
changes AwaitsSchema next = true
changes (AwaitsDocument s) next = true
changes (Open live) AwaitsSchema = true
changes (Open live) (AwaitsDocument s) = true
changes (Open live) (Open next) = not (is_same_size live next)
