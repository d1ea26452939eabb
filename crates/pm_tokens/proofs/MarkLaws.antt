-- Equal attributes and equal marks, and which lists of marks are sets.
use Rattle.std.specs.Prelude.{◌≡◌, Bool, true, false, List, [], ◌∷◌, ◌++◌}
use Rattle.std.specs.List.{AllByRecursion}
use Rattle.std.proofs.Common.{refl, sym, subst}
use Rattle.pm_marks.specs.Sets.{same_mark, same_marks, removed, added, all_added, IsSet}
use Rattle.pm_marks.specs.Together.{StandsBefore}
use Rattle.pm_marks.specs.declared.mark.Mark.{Mark}
use Rattle.pm_marks.proofs.Places.{Ordered}
use Rattle.pm_marks.proofs.Laws.{same-equal, same-itself, same_marks-equal, same_marks-itself, set-ordered, ordered-set, set-removed}
use Rattle.pm_tokens.specs.Tokens.{Attrs, Marks}
use Rattle.pm_tokens.specs.Schemas.{Schema}
use Rattle.pm_attrs.specs.Attrs.{same_attrs}
use Rattle.pm_attrs.specs.Lawful.{same_attrs-decides}
use Rattle.pm_tokens.specs.Marks.{is_set}

pub attrs-equal : (vs ws : Attrs) → same_attrs vs ws ≡ true → vs ≡ ws
attrs-equal vs ws h = (same_attrs-decides vs ws).0 h

pub attrs-itself : (vs : Attrs) → same_attrs vs vs ≡ true
attrs-itself vs = (same_attrs-decides vs vs).1 refl

pub mark-equal : (m n : Mark Attrs) → same_mark same_attrs m n ≡ true → m ≡ n
mark-equal m n h = same-equal same_attrs same_attrs-decides m n h

pub mark-itself : (m : Mark Attrs) → same_mark same_attrs m m ≡ true
mark-itself m = same-itself same_attrs same_attrs-decides m

pub marks-equal : (ms ns : Marks) → same_marks same_attrs ms ns ≡ true → ms ≡ ns
marks-equal ms ns h = same_marks-equal same_attrs same_attrs-decides ms ns h

pub marks-itself : (ms : Marks) → same_marks same_attrs ms ms ≡ true
marks-itself ms = same_marks-itself same_attrs same_attrs-decides ms

-- marks that differ
pub marks-differ : (ms ns : Marks) → (ms ≡ ns → ⊥) → same_marks same_attrs ms ns ≡ false
marks-differ ms ns h = from (same_marks same_attrs ms ns) refl
  where
    from : (b : Bool) → same_marks same_attrs ms ns ≡ b → b ≡ false
    from true e = absurd (h (marks-equal ms ns e))
    from false e = refl

-- the test of a set
pub set-is : (s : Schema) (ms : Marks) → is_set s ms ≡ true → IsSet same_attrs s.excludes ms
set-is s ms h = marks-equal (all_added same_attrs s.excludes [] ms) ms h

pub is-set : (s : Schema) (ms : Marks) → IsSet same_attrs s.excludes ms → is_set s ms ≡ true
is-set s ms h = subst (λ z. same_marks same_attrs z ms ≡ true) (sym h) (marks-itself ms)

all-front : (P : Mark Attrs → Type 0) (xs ys : Marks) → AllByRecursion P (xs ++ ys) → AllByRecursion P xs
all-front P [] ys h = tt
all-front P (x ∷ xs) ys h = (h.0, all-front P xs ys h.1)

ordered-front : (table : List (List Bool)) (xs ys : Marks) → Ordered table (xs ++ ys) → Ordered table xs
ordered-front table [] ys h = tt
ordered-front table (x ∷ xs) ys h = (all-front (StandsBefore table x) xs ys h.0, ordered-front table xs ys h.1)

-- the first marks of a set are a set
pub set-front : (s : Schema) (xs ys : Marks) → is_set s (xs ++ ys) ≡ true → is_set s xs ≡ true
set-front s xs ys h =
    is-set s xs (ordered-set same_attrs same_attrs-decides s.excludes xs (ordered-front s.excludes xs ys (set-ordered same_attrs same_attrs-decides s.excludes (xs ++ ys) (set-is s (xs ++ ys) h))))

-- a set with a mark taken out or added is a set
pub set-without : (s : Schema) (m : Mark Attrs) (ms : Marks) → is_set s ms ≡ true → is_set s (removed same_attrs ms m) ≡ true
set-without s m ms h = is-set s (removed same_attrs ms m) (set-removed same_attrs same_attrs-decides s.excludes ms m (set-is s ms h))
