-- The texts of answers: each a line of compact JSON, whose keys stand in byte order.
use Rattle.std.specs.Prelude.{ℕ, List, ◌++◌, codes, decimal, Option, Some, None}
use Rattle.pm_meaning.specs.declared.reason.Reason.{Reason}
use Rattle.pm_meaning.specs.declared.reason.Reason.TheVariants as reason
use Rattle.pm_head.specs.declared.code.Code.{Code}
use Rattle.pm_head.specs.Numbers.{number_of}

-- a line for which there was no memory
abbrev pub no_memory : List ℕ
no_memory = codes "{\"fault\":\"memory\"}\n"

-- a line with a fault
abbrev pub fault_text : Code → List ℕ
fault_text code = codes "{\"fault\":" ++ (decimal (number_of code) ++ codes "}\n")

-- a fault of line 1 or 2
abbrev pub opening_fault_text : Code → ℕ → List ℕ
opening_fault_text code n = codes "{\"fault\":" ++ (decimal (number_of code) ++ (codes ",\"line\":" ++ (decimal n ++ codes "}\n")))

-- how many tokens the first document's content has
abbrev pub opened_text : ℕ → List ℕ
opened_text size = codes "{\"size\":" ++ (decimal size ++ codes ",\"version\":0}\n")

-- so many steps stand in the log from this place on
abbrev pub accepted_text : ℕ → ℕ → List ℕ
accepted_text from count =
    codes "{\"accepted\":{\"count\":" ++ (decimal count ++ (codes ",\"from\":" ++ (decimal from ++ codes "}}\n")))

-- the version is not the log's length, which is this
abbrev pub version_text : ℕ → List ℕ
version_text n = codes "{\"version\":" ++ (decimal n ++ codes "}\n")

-- the number by which a report tells a reason
abbrev pub reason_number : Reason → ℕ
reason_number reason.Range = 1
reason_number reason.Structure = 2
reason_number reason.Gap = 3
reason_number reason.Depth = 4
reason_number reason.Pair = 5
reason_number reason.Join = 6
reason_number reason.Large = 7
reason_number reason.Deep = 8
reason_number (reason.Content at) = 9
reason_number reason.NoNode = 10
reason_number reason.NoAttribute = 11
reason_number reason.BadValue = 12
reason_number reason.NotInSchema = 13

-- where the fault is, where the reason is a fault of content
abbrev pub fault_place : Reason → Option ℕ
fault_place reason.Range = None
fault_place reason.Structure = None
fault_place reason.Gap = None
fault_place reason.Depth = None
fault_place reason.Pair = None
fault_place reason.Join = None
fault_place reason.Large = None
fault_place reason.Deep = None
fault_place (reason.Content at) = Some at
fault_place reason.NoNode = None
fault_place reason.NoAttribute = None
fault_place reason.BadValue = None
fault_place reason.NotInSchema = None

-- the step with this index, counted from 0, does not apply, for the reason with this number
abbrev pub index_words : ℕ → ℕ → List ℕ
index_words index number = codes "\"index\":" ++ (decimal index ++ (codes ",\"reason\":" ++ (decimal number ++ codes "}}\n")))

abbrev pub refused_words : Option ℕ → ℕ → ℕ → List ℕ
refused_words None index number = codes "{\"refused\":{" ++ index_words index number
refused_words (Some at) index number = codes "{\"refused\":{\"at\":" ++ (decimal at ++ (codes "," ++ index_words index number))

abbrev pub refused_text : ℕ → Reason → List ℕ
refused_text index reason = refused_words (fault_place reason) index (reason_number reason)
