-- Steps that change marks; and that the steps of the runs are such.
use Rattle.std.specs.Prelude.{◌≡◌, ℕ, ◌+◌, Bool, true, false, not, cond, ◌==◌, List, [], ◌∷◌, ◌++◌, map, length, Option, Some, None}
use Rattle.std.specs.List.{list_all}
use Rattle.std.proofs.lemmas.Bool.{and_from}
use Rattle.std.proofs.lemmas.List.Folds.{list_all-append}
use Rattle.std.proofs.Common.{refl, ◌∙◌}
use Rattle.pm_attrs.specs.Attrs.{same_attrs}
use Rattle.pm_marks.specs.declared.mark.Mark.{Mark}
use Rattle.pm_marks.specs.Sets.{same_marks, has}
use Rattle.pm_tokens.specs.Tokens.{Attrs, Marks, Token, marks_of}
use Rattle.pm_tokens.specs.Schemas.{Schema}
use Rattle.pm_meaning.specs.Steps.{Step, Replace, ReplaceAround, AddMark, RemoveMark, AddNodeMark, RemoveNodeMark, Attr, DocAttr}
use Rattle.pm_meaning.specs.Marked.{takes_marks}
use Rattle.pm_meaning.specs.Inverses.{first_lost, added_back, add_node_back}
use Rattle.pm_meaning.specs.Runs.{Run, range_steps, node_steps, close_run, continues, next_run, due, run_steps}

abbrev pub is_marking : Step → Bool
is_marking (Replace from to sl structure) = false
is_marking (ReplaceAround from to gf gt sl insert structure) = false
is_marking (AddMark from to m) = true
is_marking (RemoveMark from to m) = true
is_marking (AddNodeMark p m) = true
is_marking (RemoveNodeMark p m) = true
is_marking (Attr p name value) = false
is_marking (DocAttr name value) = false

abbrev pub are_marking : List Step → Bool
are_marking cs = list_all is_marking cs

both : (xs ys : List Step) → are_marking xs ≡ true → are_marking ys ≡ true → are_marking (xs ++ ys) ≡ true
both xs ys h i = list_all-append is_marking xs ys ∙ and_from (are_marking xs) (are_marking ys) h i

mapped : (f : Mark Attrs → Step) (ms : Marks) → ((m : Mark Attrs) → is_marking (f m) ≡ true) → are_marking (map f ms) ≡ true
mapped f [] h = refl
mapped f (m ∷ ms) h = and_from (is_marking (f m)) (are_marking (map f ms)) (h m) (mapped f ms h)

ranges-marking : (from to : ℕ) (old new : Marks) → are_marking (range_steps from to old new) ≡ true
ranges-marking from to old new =
    both (map (λ m. RemoveMark from to m) new) (map (λ m. AddMark from to m) old)
    (mapped (λ m. RemoveMark from to m) new (λ m. refl)) (mapped (λ m. AddMark from to m) old (λ m. refl))

pub nodes-marking : (p : ℕ) (old new : Marks) → are_marking (node_steps p old new) ≡ true
nodes-marking p old new =
    both (map (λ m. RemoveNodeMark p m) new) (map (λ m. AddNodeMark p m) old)
    (mapped (λ m. RemoveNodeMark p m) new (λ m. refl)) (mapped (λ m. AddNodeMark p m) old (λ m. refl))

closes-marking : (run : Option Run) (at : ℕ) → are_marking (close_run run at) ≡ true
closes-marking None at = refl
closes-marking (Some run) at = ranges-marking run.start at run.old run.new

due-marking : (c b o : Bool) (run : Option Run) (at : ℕ) (old new : Marks) → are_marking (due c b o run at old new) ≡ true
due-marking false b o run at old new = closes-marking run at
due-marking true false o run at old new = both (close_run run at) (node_steps at old new) (closes-marking run at) (nodes-marking at old new)
due-marking true true false run at old new = closes-marking run at
due-marking true true true run at old new = refl

pub runs-marking : (s : Schema) (at : ℕ) (run : Option Run) (ts ns : List Token) → are_marking (run_steps s at run ts ns) ≡ true
runs-marking s at run [] ns = closes-marking run at
runs-marking s at run (t ∷ ts) [] = closes-marking run at
runs-marking s at run (t ∷ ts) (n ∷ ns) =
    let c = not (same_marks same_attrs (marks_of t) (marks_of n)) in
    let o = continues run (marks_of t) (marks_of n) in
    let next = next_run c (takes_marks s t) o run at (marks_of t) (marks_of n) in
    both (due c (takes_marks s t) o run at (marks_of t) (marks_of n)) (run_steps s (at + 1) next ts ns)
    (due-marking c (takes_marks s t) o run at (marks_of t) (marks_of n)) (runs-marking s (at + 1) next ts ns)

-- the one step that may take a node mark step back
pub add-back-marking : (p : ℕ) (m : Mark Attrs) (old new : Marks) → is_marking (add_node_back p m old new) ≡ true
add-back-marking p m old new = at (length new == length old) (first_lost old new)
  where
    at : (b : Bool) (l : Option (Mark Attrs)) → is_marking (cond b (added_back p m l) (RemoveNodeMark p m)) ≡ true
    at true None = refl
    at true (Some x) = refl
    at false l = refl

pub remove-back-marking : (p : ℕ) (m : Mark Attrs) (old : Marks) → is_marking (cond (has same_attrs old m) (AddNodeMark p m) (RemoveNodeMark p m)) ≡ true
remove-back-marking p m old = at (has same_attrs old m)
  where
    at : (b : Bool) → is_marking (cond b (AddNodeMark p m) (RemoveNodeMark p m)) ≡ true
    at true = refl
    at false = refl
