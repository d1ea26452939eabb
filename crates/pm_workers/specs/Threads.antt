-- A session whose clients run on threads of their own: its order, and what it comes to.
use Rattle.std.specs.Prelude.{ℕ, zero, suc, ◌+◌, Bool, true, false, List, [], ◌∷◌, ◌++◌, map, take, drop, cond, ◌==◌, Option, None, Some, get_or, slice_get, slice_set}
use Rattle.pm_change.specs.Changes.{Meaning}
use Rattle.pm_authority.specs.declared.authority.Authority.{Authority}
use Rattle.pm_authority.specs.declared.machine.Request.{Request}
use Rattle.pm_authority.specs.declared.message.Answer.{Answer}
use Rattle.pm_authority.specs.Presents.{presented}
use Rattle.pm_desk.specs.declared.history.Past.{Past}
use Rattle.pm_session.specs.declared.line.Line.{Line}
use Rattle.pm_session.specs.declared.line.Act.{Act}
use Rattle.pm_session.specs.declared.line.Act.TheVariants.{Edit, Undo, Redo, UndoEvent, Cursor, Submit, Ask, Present, Take, Push, Pull, Forge, Enter}
use Rattle.pm_workers.specs.Merges.{ClientLine, merged}

module _ {Rules Doc Reason C : Type 0} (m : Meaning Rules Doc Reason C) where
  -- an authority as a machine: what it is after a request
  abbrev pub after_request : Rules → Authority C Rules Doc Reason → Request C → Authority C Rules Doc Reason
  after_request rules a q = (presented m rules a q.message).1

  -- and what it replies to a request
  abbrev pub reply_to : Rules → Authority C Rules Doc Reason → Request C → Answer C Rules Doc Reason
  reply_to rules a q = (presented m rules a q.message).0

abbrev pub with_some : {A : Type 0} → Option A → List A → List A
with_some None items = items
with_some (Some item) items = item ∷ items

-- the items at these places, in this order
abbrev pub in_order : {A : Type 0} → List A → List ℕ → List A
in_order items [] = []
in_order items (k ∷ order) = with_some (slice_get items k) (in_order items order)

-- One item for each of these clients: the next of that client's. `left` has for each client its items that are not dealt yet.
abbrev pub dealt : {A : Type 0} → List ℕ → List (List A) → List A
dealt [] left = []
dealt (client ∷ clients) left =
    let own = get_or left client [] in
    take 1 own ++ dealt clients (slice_set left client (drop 1 own))

-- whether an act presents a message
abbrev pub presents : {Op C : Type 0} → Act Op C → Bool
presents (Present j) = true
presents (Push lost) = true
presents (Pull lost) = true
presents (Forge version steps) = true
presents (Edit op event) = false
presents Undo = false
presents Redo = false
presents (UndoEvent n) = false
presents (Cursor p side) = false
presents Submit = false
presents Ask = false
presents (Take n) = false
presents Enter = false

module _ {Op C : Type 0} where
  -- The lines of client i: the place of each, the first line at place k, and whether it presents a message.
  abbrev pub lines_of : ℕ → ℕ → List (Line Op C) → List ClientLine
  lines_of i k [] = []
  lines_of i k (line ∷ lines) =
      cond (line.client == i) ((k, presents line.act) ∷ lines_of i (k + 1) lines) (lines_of i (k + 1) lines)

  -- the lines of n clients, client by client, from client i on
  abbrev pub by_client : ℕ → ℕ → List (Line Op C) → List (List ClientLine)
  by_client i zero lines = []
  by_client i (suc n) lines = lines_of i 0 lines ∷ by_client (i + 1) n lines

  -- the order that a history of calls makes of the lines of n clients: their places
  abbrev pub order_of : {Q : Type 0} → ℕ → List (Line Op C) → List (Past Q) → List ℕ
  order_of n lines history = merged (map (λ past. past.seat) history) (by_client 0 n lines)

  -- the clients of the lines that present a message, in the order of the lines
  abbrev pub callers : List (Line Op C) → List ℕ
  callers [] = []
  callers (line ∷ lines) = cond (presents line.act) (line.client ∷ callers lines) (callers lines)

  -- the lines of client i, in order
  abbrev pub own_lines : ℕ → List (Line Op C) → List (Line Op C)
  own_lines i [] = []
  own_lines i (line ∷ lines) = cond (line.client == i) (line ∷ own_lines i lines) (own_lines i lines)

  -- of the outcomes of lines, one for each, those of client i's lines
  abbrev pub own_outcomes : {A : Type 0} → ℕ → List (Line Op C) → List A → List A
  own_outcomes i [] outcomes = []
  own_outcomes i (line ∷ lines) [] = []
  own_outcomes i (line ∷ lines) (o ∷ outcomes) = cond (line.client == i) (o ∷ own_outcomes i lines outcomes) (own_outcomes i lines outcomes)
