-- Marks that a token may bear under a parent: a set of marks that are allowed and have their attributes.
use Rattle.std.specs.Prelude.{◌≡◌, ℕ, Bool, true, false, ◌&&◌, not, cond, [], ◌∷◌, ◌++◌}
use Rattle.std.proofs.Common.{refl}
use Rattle.pm_attrs.specs.Attrs.{same_attrs}
use Rattle.pm_marks.specs.declared.mark.Mark.{Mark}
use Rattle.pm_marks.specs.Sets.{same_mark}
use Rattle.pm_tokens.specs.Tokens.{Attrs, Marks, Token, Open, Close, Leaf, CodeUnit, marks_of}
use Rattle.pm_tokens.specs.Schemas.{Schema, node_attrs, mark_attrs}
use Rattle.pm_tokens.specs.Marks.{is_set, are_allowed, have_attrs}
use Rattle.pm_tokens.specs.Faults.{attrs_fit, marks_fit}
use Rattle.pm_tokens.proofs.MarkLaws.{set-front, set-without}
use Rattle.pm_meaning.specs.Marked.{remove}
use Rattle.pm_meaning.proofs.TokenMarks.{set_marks}
use Rattle.std.proofs.lemmas.Bool.{and_parts, and_from}

abbrev pub are_suited : Schema → ℕ → Marks → Bool
are_suited s parent [] = true
are_suited s parent (m ∷ ms) = s.allows parent m.kind && mark_attrs s m.kind m.attrs && are_suited s parent ms

abbrev pub marks_suit : Schema → ℕ → Marks → Bool
marks_suit s parent ms = is_set s ms && are_suited s parent ms

suited : (s : Schema) (parent : ℕ) (ms : Marks) → are_allowed s parent ms ≡ true → have_attrs s ms ≡ true → are_suited s parent ms ≡ true
suited s parent [] h k = refl
suited s parent (m ∷ ms) h k =
    let a = and_parts (s.allows parent m.kind) (are_allowed s parent ms) h in
    let b = and_parts (mark_attrs s m.kind m.attrs) (have_attrs s ms) k in
    and_from (s.allows parent m.kind && mark_attrs s m.kind m.attrs) (are_suited s parent ms) (and_from (s.allows parent m.kind) (mark_attrs s m.kind m.attrs) a.0 b.0) (suited s parent ms a.1 b.1)

suited-parts : (s : Schema) (parent : ℕ) (ms : Marks) → are_suited s parent ms ≡ true → (are_allowed s parent ms ≡ true) × (have_attrs s ms ≡ true)
suited-parts s parent [] h = (refl, refl)
suited-parts s parent (m ∷ ms) h =
    let a = and_parts (s.allows parent m.kind && mark_attrs s m.kind m.attrs) (are_suited s parent ms) h in
    let b = and_parts (s.allows parent m.kind) (mark_attrs s m.kind m.attrs) a.0 in
    let i = suited-parts s parent ms a.1 in
    (and_from (s.allows parent m.kind) (are_allowed s parent ms) b.0 i.0, and_from (mark_attrs s m.kind m.attrs) (have_attrs s ms) b.1 i.1)

-- marks that suit are known
pub suit-known : (s : Schema) (parent : ℕ) (ms : Marks) → marks_suit s parent ms ≡ true → have_attrs s ms ≡ true
suit-known s parent ms h = (suited-parts s parent ms (and_parts (is_set s ms) (are_suited s parent ms) h).1).1

-- the later marks are known where all are
pub known-behind : (s : Schema) (xs ys : Marks) → have_attrs s (xs ++ ys) ≡ true → have_attrs s ys ≡ true
known-behind s [] ys h = h
known-behind s (x ∷ xs) ys h = known-behind s xs ys (and_parts (mark_attrs s x.kind x.attrs) (have_attrs s (xs ++ ys)) h).1

attrs-marks : (s : Schema) (t : Token) → attrs_fit s t ≡ true → have_attrs s (marks_of t) ≡ true
attrs-marks s (Open k a m) h = (and_parts (node_attrs s k a) (have_attrs s m) h).1
attrs-marks s Close h = refl
attrs-marks s (Leaf k a m) h = (and_parts (node_attrs s k a) (have_attrs s m) h).1
attrs-marks s (CodeUnit u m) h = h

-- the marks of a token without a fault suit
pub fit-suit : (s : Schema) (parent : ℕ) (t : Token) → attrs_fit s t ≡ true → marks_fit s parent t ≡ true → marks_suit s parent (marks_of t) ≡ true
fit-suit s parent t h k =
    let b = and_parts (is_set s (marks_of t)) (are_allowed s parent (marks_of t)) k in
    and_from (is_set s (marks_of t)) (are_suited s parent (marks_of t)) b.0 (suited s parent (marks_of t) b.1 (attrs-marks s t h))

-- a token stays without these faults with other marks that suit
pub suit-attrs : (s : Schema) (parent : ℕ) (ms : Marks) (t : Token) → attrs_fit s t ≡ true → marks_suit s parent (marks_of (set_marks ms t)) ≡ true → attrs_fit s (set_marks ms t) ≡ true
suit-attrs s parent ms (Open k a m) h w =
    let b = and_parts (node_attrs s k a) (have_attrs s m) h in
    and_from (node_attrs s k a) (have_attrs s ms) b.0 (suited-parts s parent ms (and_parts (is_set s ms) (are_suited s parent ms) w).1).1
suit-attrs s parent ms Close h w = refl
suit-attrs s parent ms (Leaf k a m) h w =
    let b = and_parts (node_attrs s k a) (have_attrs s m) h in
    and_from (node_attrs s k a) (have_attrs s ms) b.0 (suited-parts s parent ms (and_parts (is_set s ms) (are_suited s parent ms) w).1).1
suit-attrs s parent ms (CodeUnit u m) h w = (suited-parts s parent ms (and_parts (is_set s ms) (are_suited s parent ms) w).1).1

pub suit-marks : (s : Schema) (parent : ℕ) (t : Token) → marks_suit s parent (marks_of t) ≡ true → marks_fit s parent t ≡ true
suit-marks s parent t w =
    let b = and_parts (is_set s (marks_of t)) (are_suited s parent (marks_of t)) w in
    and_from (is_set s (marks_of t)) (are_allowed s parent (marks_of t)) b.0 (suited-parts s parent (marks_of t) b.1).0

suited-removed : (s : Schema) (parent : ℕ) (m : Mark Attrs) (ms : Marks) → are_suited s parent ms ≡ true → are_suited s parent (remove m ms) ≡ true
suited-removed s parent m [] h = refl
suited-removed s parent m (x ∷ ms) h =
    let b = and_parts (s.allows parent x.kind && mark_attrs s x.kind x.attrs) (are_suited s parent ms) h in
    at (not (same_mark same_attrs x m)) b.0 (suited-removed s parent m ms b.1)
  where
    at : (b : Bool) → (s.allows parent x.kind && mark_attrs s x.kind x.attrs) ≡ true → are_suited s parent (remove m ms) ≡ true → are_suited s parent (cond b (x ∷ remove m ms) (remove m ms)) ≡ true
    at true p q = and_from (s.allows parent x.kind && mark_attrs s x.kind x.attrs) (are_suited s parent (remove m ms)) p q
    at false p q = q

suited-front : (s : Schema) (parent : ℕ) (xs ys : Marks) → are_suited s parent (xs ++ ys) ≡ true → are_suited s parent xs ≡ true
suited-front s parent [] ys h = refl
suited-front s parent (x ∷ xs) ys h =
    let b = and_parts (s.allows parent x.kind && mark_attrs s x.kind x.attrs) (are_suited s parent (xs ++ ys)) h in
    and_from (s.allows parent x.kind && mark_attrs s x.kind x.attrs) (are_suited s parent xs) b.0 (suited-front s parent xs ys b.1)

-- marks that suit still suit when one is removed, and so do the first of them
pub fit-removed : (s : Schema) (parent : ℕ) (m : Mark Attrs) (ms : Marks) → marks_suit s parent ms ≡ true → marks_suit s parent (remove m ms) ≡ true
fit-removed s parent m ms h =
    let b = and_parts (is_set s ms) (are_suited s parent ms) h in
    and_from (is_set s (remove m ms)) (are_suited s parent (remove m ms)) (set-without s m ms b.0) (suited-removed s parent m ms b.1)

pub fit-front : (s : Schema) (parent : ℕ) (xs ys : Marks) → marks_suit s parent (xs ++ ys) ≡ true → marks_suit s parent xs ≡ true
fit-front s parent xs ys h =
    let b = and_parts (is_set s (xs ++ ys)) (are_suited s parent (xs ++ ys)) h in
    and_from (is_set s xs) (are_suited s parent xs) (set-front s xs ys b.0) (suited-front s parent xs ys b.1)
