-- The texts of answers: each a line of compact JSON, whose keys stand in byte order.
use Rattle.std.specs.Prelude.{ℕ, List, ◌++◌, codes, decimal, Option, Some, None, length, map, Bool, true, false, [], ◌∷◌}
use Rattle.serde_json.specs.Written.{comma_if, compact_text}
use Rattle.pm_change.specs.declared.no_step.NoStep.{NoStep}
use Rattle.pm_change.specs.declared.no_step.NoStep.TheVariants.{Range, NotThere, NoFit}
use Rattle.pm_meaning.specs.Steps.{Step}
use Rattle.pm_meaning.specs.declared.reason.Reason.{Reason}
use Rattle.pm_schema.specs.declared.spec.SchemaSpec.{SchemaSpec}
use Rattle.pm_stepjson.specs.Writing.{step_written}
use Rattle.pm_talk.specs.Texts.{reason_number, fault_place}

-- lines 1 to 3: how many tokens the document's content has, and the version
abbrev pub entered_text : ℕ → ℕ → List ℕ
entered_text size version = codes "{\"size\":" ++ (decimal size ++ (codes ",\"version\":" ++ (decimal version ++ codes "}\n")))

-- no step was made, for this reason
abbrev pub none_text : NoStep → List ℕ
none_text Range = codes "{\"none\":\"range\"}\n"
none_text NotThere = codes "{\"none\":\"place\"}\n"
none_text NoFit = codes "{\"none\":\"fit\"}\n"

-- there is no event to undo or to redo
abbrev pub no_event_text : List ℕ
no_event_text = codes "{\"none\":\"event\"}\n"

-- the step of an edit does not apply, for the reason with this number
abbrev pub unmade_words : Option ℕ → ℕ → List ℕ
unmade_words None number = codes "{\"refused\":{\"reason\":" ++ (decimal number ++ codes "}}\n")
unmade_words (Some at) number =
    codes "{\"refused\":{\"at\":" ++ (decimal at ++ (codes ",\"reason\":" ++ (decimal number ++ codes "}}\n")))

abbrev pub unmade_text : Reason → List ℕ
unmade_text reason = unmade_words (fault_place reason) (reason_number reason)

-- a cursor was set: its place among the cursors, and its position
abbrev pub cursor_text : ℕ → ℕ → List ℕ
cursor_text place at = codes "{\"cursor\":" ++ (decimal place ++ (codes ",\"pos\":" ++ (decimal at ++ codes "}\n")))

-- the message that asks for what is past the version
abbrev pub ask_text : ℕ → List ℕ
ask_text version = codes "{\"message\":{\"op\":\"since\",\"version\":" ++ (decimal version ++ codes "}}\n")

-- the answer that was taken holds nothing past the version
abbrev pub stale_text : ℕ → List ℕ
stale_text version = codes "{\"stale\":" ++ (decimal version ++ codes "}\n")

-- the answer that was taken does not follow the version
abbrev pub gap_text : ℕ → List ℕ
gap_text version = codes "{\"gap\":" ++ (decimal version ++ codes "}\n")

-- so many steps stay pending
abbrev pub kept_text : ℕ → List ℕ
kept_text pending = codes "{\"kept\":" ++ (decimal pending ++ codes "}\n")

-- so many pending steps are confirmed, and the version after them is this
abbrev pub confirmed_text : ℕ → ℕ → List ℕ
confirmed_text count version =
    codes "{\"confirmed\":" ++ (decimal count ++ (codes ",\"version\":" ++ (decimal version ++ codes "}\n")))

-- ---- lists

-- numbers, up to the end of their list
abbrev pub number_items : Bool → List ℕ → List ℕ
number_items later [] = codes "]"
number_items later (n ∷ ns) = comma_if later ++ (decimal n ++ number_items true ns)

abbrev pub numbers_text : List ℕ → List ℕ
numbers_text ns = codes "[" ++ number_items false ns

-- pairs of numbers, up to the end of their list
abbrev pub pair_items : Bool → List (ℕ × ℕ) → List ℕ
pair_items later [] = codes "]"
pair_items later (p ∷ ps) =
    comma_if later ++ ((codes "[" ++ (decimal p.0 ++ (codes "," ++ (decimal p.1 ++ codes "]")))) ++ pair_items true ps)

abbrev pub pairs_text : List (ℕ × ℕ) → List ℕ
pairs_text ps = codes "[" ++ pair_items false ps

module _ (s : SchemaSpec) where
  -- steps, up to the end of their list
  abbrev pub change_items : Bool → List Step → List ℕ
  change_items later [] = codes "]"
  change_items later (c ∷ cs) = comma_if later ++ (compact_text (step_written s c) ++ change_items true cs)

  abbrev pub changes_text : List Step → List ℕ
  changes_text cs = codes "[" ++ change_items false cs

  -- the steps of an edit were made: how many, the first one's serial, and the steps
  abbrev pub made_text : ℕ → List Step → List ℕ
  made_text serial cs =
      codes "{\"made\":" ++ (decimal (length cs) ++ (codes ",\"serial\":" ++ (decimal serial
      ++ (codes ",\"steps\":" ++ (changes_text cs ++ codes "}\n")))))

  -- the steps of an edit would be made
  abbrev pub can_text : List Step → List ℕ
  can_text cs = codes "{\"made\":" ++ (decimal (length cs) ++ (codes ",\"steps\":" ++ (changes_text cs ++ codes "}\n")))

  -- an event was undone or redone: by how many steps, their serials, and the steps
  abbrev pub turned_text : List ℕ → List Step → List ℕ
  turned_text serials cs =
      codes "{\"made\":" ++ (decimal (length cs) ++ (codes ",\"serials\":" ++ (numbers_text serials
      ++ (codes ",\"steps\":" ++ (changes_text cs ++ codes "}\n")))))

  -- the message that submits these steps at this version, by the client with this ID
  abbrev pub submission_text : List ℕ → List Step → ℕ → List ℕ
  submission_text id cs version =
      codes "{\"message\":{\"clientID\":" ++ (id ++ (codes ",\"op\":\"submit\",\"steps\":" ++ (changes_text cs
      ++ (codes ",\"version\":" ++ (decimal version ++ codes "}}\n")))))
