-- What a turn's line says, apart from the type of code, and that its numbers and letters are small.
use Rattle.std.proofs.Common.{◌≡◌, ℕ, ◌<◌, ◌≤◌, Bool, true, false, nat_le, if◌then◌else◌, List, [], ◌∷◌, codes, refl, arith}
use Rattle.pm_gen.specs.declared.turns.Turn.{Turn}
use Rattle.pm_gen.specs.declared.turns.Turn.TheVariants as turn
use Rattle.pm_gen.specs.Draws.{next, draw}
use Rattle.pm_gen.specs.Lines.{text_line, delete_line, split_line, mark_line, mark_name, push_line, bare_line, turn_line}
use Rattle.pm_gen.specs.Turns.{typing, deleting, splitting, marking, losing, chosen, turn_at}

pub data Kind : Type 0 where
  Text : (at letter : ℕ) → Kind
  Delete : (from to : ℕ) → Kind
  Split : (at : ℕ) → Kind
  AddMark : (from to : ℕ) (strong : Bool) → Kind
  Undo : Kind
  Redo : Kind
  Push : (lost : Bool) → Kind
  Pull : Kind

abbrev pub kind_line : ℕ → Kind → List ℕ
kind_line client (Text at letter) = text_line client at (letter ∷ [])
kind_line client (Delete from to) = delete_line client from to
kind_line client (Split at) = split_line client at
kind_line client (AddMark from to strong) = mark_line client from to (mark_name strong)
kind_line client Undo = bare_line client (codes "undo")
kind_line client Redo = bare_line client (codes "redo")
kind_line client (Push lost) = push_line client lost
kind_line client Pull = bare_line client (codes "pull")

abbrev pub kind_of : Turn → Kind
kind_of (turn.Text at letter) = Text at letter
kind_of (turn.Delete from to) = Delete from to
kind_of (turn.Split at) = Split at
kind_of (turn.AddMark from to strong) = AddMark from to strong
kind_of turn.Undo = Undo
kind_of turn.Redo = Redo
kind_of (turn.Push lost) = Push lost
kind_of turn.Pull = Pull

pub line-of-kind : (client : ℕ) (t : Turn) → turn_line client t ≡ kind_line client (kind_of t)
line-of-kind client (turn.Text at letter) = refl
line-of-kind client (turn.Delete from to) = refl
line-of-kind client (turn.Split at) = refl
line-of-kind client (turn.AddMark from to strong) = refl
line-of-kind client turn.Undo = refl
line-of-kind client turn.Redo = refl
line-of-kind client (turn.Push lost) = refl
line-of-kind client turn.Pull = refl

-- positions are below 64, and a letter is one from a to z
abbrev pub IsSmall : Kind → Type 0
IsSmall (Text at letter) = (at < 64) × (97 ≤ letter) × (letter < 123)
IsSmall (Delete from to) = (from < 64) × (to < 64)
IsSmall (Split at) = at < 64
IsSmall (AddMark from to strong) = (from < 64) × (to < 64)
IsSmall Undo = Unit {0}
IsSmall Redo = Unit {0}
IsSmall (Push lost) = Unit {0}
IsSmall Pull = Unit {0}

draw-below : (n x : ℕ) → 0 < n → draw n x < n
unfolding draw
draw-below n x h = omega arith

typing-small : (x : ℕ) → IsSmall (kind_of (typing x))
typing-small x =
    let a : draw 30 x < 30 = draw-below 30 x (omega arith) in
    let b : draw 26 (next x) < 26 = draw-below 26 (next x) (omega arith) in
    (omega arith, omega arith, omega arith)

deleting-small : (x : ℕ) → IsSmall (kind_of (deleting x))
deleting-small x =
    let a : draw 30 x < 30 = draw-below 30 x (omega arith) in
    let b : draw 3 (next x) < 3 = draw-below 3 (next x) (omega arith) in
    (omega arith, omega arith)

splitting-small : (x : ℕ) → IsSmall (kind_of (splitting x))
splitting-small x = let a : draw 30 x < 30 = draw-below 30 x (omega arith) in omega arith

marking-small : (x : ℕ) → IsSmall (kind_of (marking x))
marking-small x =
    let a : draw 30 x < 30 = draw-below 30 x (omega arith) in
    let b : draw 5 (next x) < 5 = draw-below 5 (next x) (omega arith) in
    (omega arith, omega arith)

either : (b : Bool) (t u : Turn) → IsSmall (kind_of t) → IsSmall (kind_of u) → IsSmall (kind_of (if b then t else u))
either true t u a b = a
either false t u a b = b

chosen-small : (k y : ℕ) → IsSmall (kind_of (chosen k y))
unfolding chosen
chosen-small k y =
    either (nat_le k 5) (typing y) _ (typing-small y)
    (either (nat_le k 7) (deleting y) _ (deleting-small y)
    (either (nat_le k 8) (splitting y) _ (splitting-small y)
    (either (nat_le k 9) (marking y) _ (marking-small y)
    (either (nat_le k 10) turn.Undo _ tt
    (either (nat_le k 11) turn.Redo _ tt
    (either (nat_le k 13) (turn.Push false) _ tt
    (either (nat_le k 14) turn.Pull (losing y) tt tt)))))))

pub turn-small : (x : ℕ) → IsSmall (kind_of (turn_at x))
turn-small x = chosen-small (draw 16 x) (next x)
