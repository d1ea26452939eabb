-- The number by which a report tells a code.
use Rattle.std.specs.Prelude.{ℕ}
use Rattle.pm_head.specs.declared.code.Code.{Code}
use Rattle.pm_head.specs.declared.code.Code.TheVariants as code

abbrev pub number_of : Code → ℕ
number_of code.InputTooLong = 1
number_of code.MissingLine = 2
number_of code.LineTooLong = 3
number_of code.TooManyLines = 4
number_of code.NotJson = 5
number_of code.WrongShape = 6
number_of code.UnknownName = 7
number_of code.BadExpression = 8
number_of code.MixedOrWide = 9
number_of code.NoSchema = 10
number_of code.DeadEnd = 11
number_of code.BadAttribute = 12
number_of code.EmptyText = 13
number_of code.NotASet = 14
number_of code.OpenOrLarge = 15
number_of code.InvalidDocument = 16
number_of code.NoSuchMessage = 17
number_of code.OpNotAllowed = 18
number_of code.BadClients = 19
number_of code.BadRooms = 23
number_of code.NoSuchRoom = 24
number_of code.WrongEnter = 25
