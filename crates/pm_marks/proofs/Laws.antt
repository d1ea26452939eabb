-- What adding a mark keeps, and which lists are sets.
use Rattle.std.proofs.Common.{ap₂, ◌≡◌, ◌≢◌, ◌↔◌, ℕ, suc, zero, ◌<◌, ◌==◌, Bool, true, false, not, ◌&&◌, cond, List, [], ◌∷◌, ◌++◌, length, refl, ap, sym, subst, arith, ◌∙◌, append_assoc, get_or, ◌⊎◌, inl, inr, nat_lt}
use Rattle.std.specs.Prelude.{Result, Ok, Err, IfOk}
use Rattle.std.specs.List.{AllByRecursion, AllPairs}
use Rattle.std.proofs.lemmas.List.{append-nil}
use Rattle.std.proofs.lemmas.Bool.Decides.{nat_tests}
use Rattle.pm_marks.specs.Rules.{excludes}
use Rattle.pm_marks.specs.Sets.{same_mark, same_marks, has, removed, kept, keeps_out, placed, added, all_added, IsSet}
use Rattle.pm_marks.specs.Together.{StandsBefore}
use Rattle.pm_marks.specs.declared.mark.Mark.{Mark}
use Rattle.pm_marks.proofs.Places.{either, either_by, all_more, placed-cons, Ordered, Apart, ordered_filter, ordered_placed, placed_last}
use Rattle.std.proofs.lemmas.Bool.{and_parts, or_right, or_parts}

abbrev pub IsEquality : {A : Type 0} → (A → A → Bool) → Type 0
IsEquality {A} equal = (x y : A) → (equal x y ≡ true) ↔ (x ≡ y)

-- what follows from a fact on an Ok value
pub if_ok-then : {X E : Type 0} (P Q : X → Type 0) (r : Result X E) → ((x : X) → P x → Q x) → IfOk r P → IfOk r Q
if_ok-then P Q (Ok x) go h = go x h
if_ok-then P Q (Err e) go h = h

and_left : (a b : Bool) → (a && b) ≡ false → b ≡ true → a ≡ false
and_left true b h e = absurd (cc)
and_left false b h e = refl

not_true : (b : Bool) → not b ≡ true → b ≡ false
not_true true h = absurd (cc)
not_true false h = refl

bool_cases : (b : Bool) → (b ≡ true) ⊎ (b ≡ false)
bool_cases true = inl refl
bool_cases false = inr refl

module _ {A : Type 0} (equal : A → A → Bool) (law : IsEquality equal) where
  -- ---- equality of marks

  pub same-equal : (m n : Mark A) → same_mark equal m n ≡ true → m ≡ n
  same-equal m n h =
      let parts = and_parts (m.kind == n.kind) (equal m.attrs n.attrs) h in
      let kinds : m.kind ≡ n.kind = grind (arith, nat_tests) in
      let attrs = (law m.attrs n.attrs).0 parts.1 in
      ap₂ (λ k a. record { kind = k; attrs = a }) kinds attrs

  pub same-itself : (m : Mark A) → same_mark equal m m ≡ true
  same-itself m = let one : (m.kind == m.kind) ≡ true = grind (arith, nat_tests) in rw (one, (law m.attrs m.attrs).1 refl) refl

  pub same-decides : (m n : Mark A) → (same_mark equal m n ≡ true) ↔ (m ≡ n)
  same-decides m n = (same-equal m n, λ e. subst (λ x. same_mark equal m x ≡ true) e (same-itself m))

  -- ---- the same marks in the same order

  pub same_marks-itself : (ms : List (Mark A)) → same_marks equal ms ms ≡ true
  same_marks-itself [] = refl
  same_marks-itself (m ∷ ms) = rw (same-itself m, same_marks-itself ms) refl

  pub same_marks-equal : (ms ns : List (Mark A)) → same_marks equal ms ns ≡ true → ms ≡ ns
  same_marks-equal [] [] h = refl
  same_marks-equal [] (n ∷ ns) h = absurd (cc)
  same_marks-equal (m ∷ ms) [] h = absurd (cc)
  same_marks-equal (m ∷ ms) (n ∷ ns) h =
      let parts = and_parts (same_mark equal m n) (same_marks equal ms ns) h in
      ap₂ (λ x xs. x ∷ xs) (same-equal m n parts.0) (same_marks-equal ms ns parts.1)

  pub same_marks-decides : (ms ns : List (Mark A)) → (same_marks equal ms ns ≡ true) ↔ (ms ≡ ns)
  same_marks-decides ms ns = (same_marks-equal ms ns, λ e. subst (λ xs. same_marks equal ms xs ≡ true) e (same_marks-itself ms))

  pub same_marks-differ : (ms ns : List (Mark A)) → ((length ms ≡ length ns) → ⊥) → false ≡ same_marks equal ms ns
  same_marks-differ ms ns h = elim (bool_cases (same_marks equal ms ns)) [ inl e ↦ absurd (h (ap length (same_marks-equal ms ns e))) | inr e ↦ sym e ]

  -- ---- adding once more

  has-placed : (ms : List (Mark A)) (m : Mark A) → has equal (placed ms m) m ≡ true
  has-placed [] m = rw (same-itself m) refl
  has-placed (x ∷ xs) m =
      subst (λ ys. has equal ys m ≡ true) (sym (placed-cons x m xs))
      (either (λ ys. has equal ys m ≡ true) (nat_lt m.kind x.kind) (m ∷ x ∷ xs) (x ∷ placed xs m) (rw (same-itself m) refl) (or_right _ _ (has-placed xs m)))

  same-apart : (m n : Mark A) → m ≢ n → same_mark equal m n ≡ false
  same-apart m n h = elim (bool_cases (same_mark equal m n)) [ inl e ↦ absurd (h (same-equal m n e)) | inr e ↦ e ]

  module _ (table : List (List Bool)) where
    added-there : (set : List (Mark A)) (m : Mark A) → has equal set m ≡ true → added equal table set m ≡ set
    unfolding added
    added-there set m h = ap (λ b. cond b set (cond (keeps_out table set m) set (placed (kept table set m) m))) h

    added-out : (set : List (Mark A)) (m : Mark A) → has equal set m ≡ false → keeps_out table set m ≡ true → added equal table set m ≡ set
    unfolding added
    added-out set m h out =
        ap (λ b. cond b set (cond (keeps_out table set m) set (placed (kept table set m) m))) h ∙ ap (λ b. cond b set (placed (kept table set m) m)) out

    added-new : (set : List (Mark A)) (m : Mark A) → has equal set m ≡ false → keeps_out table set m ≡ false → added equal table set m ≡ placed (kept table set m) m
    unfolding added
    added-new set m h out =
        ap (λ b. cond b set (cond (keeps_out table set m) set (placed (kept table set m) m))) h ∙ ap (λ b. cond b set (placed (kept table set m) m)) out

    -- the set stays, or the mark is new and goes to its rank
    pub record IsNew (set : List (Mark A)) (m : Mark A) : Type 0 where
      pub new : has equal set m ≡ false
      pub free : keeps_out table set m ≡ false
      pub is : added equal table set m ≡ placed (kept table set m) m

    added-cases : (set : List (Mark A)) (m : Mark A) → (added equal table set m ≡ set) ⊎ IsNew set m
    added-cases set m =
        elim (bool_cases (has equal set m)) [
          | inl there ↦ inl (added-there set m there)
          | inr new ↦ elim (bool_cases (keeps_out table set m)) [
            | inl out ↦ inl (added-out set m new out)
            | inr free ↦ inr (record { new = new; free = free; is = added-new set m new free })
          ]
        ]

    -- adding a mark again changes nothing
    pub added-twice : (set : List (Mark A)) (m : Mark A) → added equal table (added equal table set m) m ≡ added equal table set m
    added-twice set m =
        elim (added-cases set m) [
          | inl same ↦ ap (λ s. added equal table s m) same
          | inr fresh ↦ added-there (added equal table set m) m (subst (λ s. has equal s m ≡ true) (sym fresh.is) (has-placed (kept table set m) m))
        ]

    -- ---- sets are the lists whose marks stand together

    apart-kept : (set : List (Mark A)) (m : Mark A) → has equal set m ≡ false → keeps_out table set m ≡ false → AllByRecursion (λ y. Apart table y m) (kept table set m)
    apart-kept [] m new free = tt
    apart-kept (x ∷ xs) m new free =
        let differs = or_parts (same_mark equal x m) (has equal xs m) new in
        let lets = or_parts (excludes table x.kind m.kind && not (excludes table m.kind x.kind)) (keeps_out table xs m) free in
        let rest = apart-kept xs m differs.1 lets.1 in
        let first : not (excludes table m.kind x.kind) ≡ true → AllByRecursion (λ y. Apart table y m) (x ∷ kept table xs m) = λ e. (
          record {
            differ = λ same. let yes : same_mark equal x m ≡ true = (same-decides x m).1 same in absurd (cc);
            lets_second = and_left _ _ lets.0 e;
            lets_first = not_true _ e;
          },
          rest,
        ) in
        either_by (AllByRecursion (λ y. Apart table y m)) (not (excludes table m.kind x.kind)) (x ∷ kept table xs m) (kept table xs m) first (λ e. rest)

    ordered-added : (set : List (Mark A)) (m : Mark A) → Ordered table set → Ordered table (added equal table set m)
    ordered-added set m h =
        elim (added-cases set m) [
          | inl same ↦ subst (Ordered table) (sym same) h
          | inr fresh ↦ subst (Ordered table) (sym fresh.is)
              (ordered_placed table (kept table set m) m (ordered_filter table (λ x. not (excludes table m.kind x.kind)) set h) (apart-kept set m fresh.new fresh.free))
        ]

    ordered-all : (set ms : List (Mark A)) → Ordered table set → Ordered table (all_added equal table set ms)
    ordered-all set [] h = h
    ordered-all set (m ∷ ms) h = ordered-all (added equal table set m) ms (ordered-added set m h)

    -- the marks of a set stand together
    pub set-ordered : (ms : List (Mark A)) → IsSet equal table ms → Ordered table ms
    set-ordered ms h = subst (Ordered table) h (ordered-all [] ms tt)

    abbrev AllBefore : List (Mark A) → Mark A → Type 0
    AllBefore set m = AllByRecursion (λ y. StandsBefore table y m) set

    before-new : (set : List (Mark A)) (m : Mark A) → AllBefore set m → has equal set m ≡ false
    before-new [] m h = refl
    before-new (x ∷ xs) m h = rw (same-apart x m h.0.differ) (before-new xs m h.1)

    before-free : (set : List (Mark A)) (m : Mark A) → AllBefore set m → keeps_out table set m ≡ false
    before-free [] m h = refl
    before-free (x ∷ xs) m h = rw h.0.lets_second (before-free xs m h.1)

    before-kept : (set : List (Mark A)) (m : Mark A) → AllBefore set m → kept table set m ≡ set
    before-kept [] m h = refl
    before-kept (x ∷ xs) m h = rw h.0.lets_first (ap (λ ys. x ∷ ys) (before-kept xs m h.1))

    -- a mark that all of the set stand before goes last
    added_last : (set : List (Mark A)) (m : Mark A) → AllBefore set m → added equal table set m ≡ set ++ m ∷ []
    added_last set m h =
        added-new set m (before-new set m h) (before-free set m h) ∙ ap (λ s. placed s m) (before-kept set m h) ∙ placed_last table set m h

    one_more : (done : List (Mark A)) (m : Mark A) (ms : List (Mark A)) → AllByRecursion (AllBefore done) ms → AllByRecursion (StandsBefore table m) ms → AllByRecursion (AllBefore (done ++ m ∷ [])) ms
    one_more done m [] h first = tt
    one_more done m (n ∷ ns) h first = (all_more (λ y. StandsBefore table y n) done m h.0 first.0, one_more done m ns h.1 first.1)

    all_last : (done ms : List (Mark A)) → AllByRecursion (AllBefore done) ms → Ordered table ms → all_added equal table done ms ≡ done ++ ms
    all_last done [] h o = sym (append-nil done)
    all_last done (m ∷ ms) h o =
        ap (λ s. all_added equal table s ms) (added_last done m h.0)
        ∙ all_last (done ++ m ∷ []) ms (one_more done m ms h.1 o.0) o.1
        ∙ append_assoc done (m ∷ []) ms

    none_before : (ms : List (Mark A)) → AllByRecursion (AllBefore []) ms
    none_before [] = tt
    none_before (m ∷ ms) = (tt, none_before ms)

    -- marks that stand together are a set
    pub ordered-set : (ms : List (Mark A)) → Ordered table ms → IsSet equal table ms
    ordered-set ms h = all_last [] ms (none_before ms) h

    pub set-added : (set : List (Mark A)) (m : Mark A) → IsSet equal table set → IsSet equal table (added equal table set m)
    set-added set m h = ordered-set (added equal table set m) (ordered-added set m (set-ordered set h))

    pub set-removed : (set : List (Mark A)) (m : Mark A) → IsSet equal table set → IsSet equal table (removed equal set m)
    set-removed set m h = ordered-set (removed equal set m) (ordered_filter table (λ x. not (same_mark equal x m)) set (set-ordered set h))

all_at : {X : Type 0} (P : X → Type 0) (xs : List X) (i : ℕ) (d : X) → AllByRecursion P xs → i < length xs → P (get_or xs i d)
all_at P [] i d h within = absurd (omega arith)
all_at P (x ∷ xs) zero d h within = h.0
all_at P (x ∷ xs) (suc i) d h within = all_at P xs i d h.1 (omega arith)

-- marks that stand together, by places
pub ordered-pairs : {A : Type 0} (table : List (List Bool)) (ms : List (Mark A)) → Ordered table ms → AllPairs (StandsBefore table) ms
ordered-pairs table [] h i j d low within = absurd (omega arith)
ordered-pairs table (m ∷ ms) h zero zero d low within = absurd (omega arith)
ordered-pairs table (m ∷ ms) h (suc i) zero d low within = absurd (omega arith)
ordered-pairs table (m ∷ ms) h zero (suc j) d low within = all_at (StandsBefore table m) ms j d h.0 (omega arith)
ordered-pairs table (m ∷ ms) h (suc i) (suc j) d low within = ordered-pairs table ms h.1 i j d (omega arith) (omega arith)
