-- Names that differ are found at their places.
use Rattle.std.proofs.Common.{◌≡◌, ◌<◌, ℕ, zero, suc, ◌+◌, Bool, true, false, not, ◌||◌, ◌++◌, List, [], ◌∷◌, length, get_or, cond, refl, ap, ◌∙◌, sym, subst, arith, append_assoc}
use Rattle.std.specs.Prelude.{nat_lt, nat_eq, Some, None}
use Rattle.std.specs.List.{list_any, prefix_len}
use Rattle.std.specs.Str.{bytes_eq}
use Rattle.std.proofs.lemmas.Bool.{eq-eqb}
use Rattle.std.proofs.lemmas.Bool.Decides.{nat_tests}
use Rattle.std.proofs.lemmas.List.{append-nil}
use Rattle.std.proofs.lemmas.List.Folds.{list_any-append}
use Rattle.pm_schema.specs.declared.spec.NodeSpec.{NodeSpec}
use Rattle.pm_schema.specs.declared.spec.MarkSpec.{MarkSpec}
use Rattle.pm_schema.specs.declared.spec.SchemaSpec.{SchemaSpec}
use Rattle.pm_schema.specs.Names.{place_of}
use Rattle.pm_schema.specs.Types.{no_node, no_mark, node_at, mark_at, node_names, mark_names, names_of_nodes, names_of_marks}
use Rattle.pm_schema.specs.Refusals.{repeats, has_double_name}

neither : (a b : Bool) → a || b ≡ false → (a ≡ false) × (b ≡ false)
neither true b h = absurd (cc)
neither false b h = (refl, h)

same-bytes : (n : List ℕ) → bytes_eq n n ≡ true
same-bytes [] = refl
same-bytes (b ∷ n) = let e : nat_eq b b ≡ true = eq-eqb b b refl in rw (e, same-bytes n) refl

-- a name is not among those seen before
seen-at : (ns seen : List (List ℕ)) (k : ℕ) → k < length ns → repeats seen ns ≡ false → list_any (bytes_eq (get_or ns k [])) seen ≡ false
seen-at [] seen k l h = absurd (omega arith)
seen-at (n ∷ ns) seen zero l h = (neither (list_any (bytes_eq n) seen) (repeats (seen ++ n ∷ []) ns) h).0
seen-at (n ∷ ns) seen (suc k) l h =
    let i : list_any (bytes_eq (get_or ns k [])) (seen ++ n ∷ []) ≡ false = seen-at ns (seen ++ n ∷ []) k (omega arith) (neither (list_any (bytes_eq n) seen) (repeats (seen ++ n ∷ []) ns) h).1 in
    (neither (list_any (bytes_eq (get_or ns k [])) seen) (list_any (bytes_eq (get_or ns k [])) (n ∷ [])) (sym (list_any-append (bytes_eq (get_or ns k [])) seen (n ∷ [])) ∙ i)).0

-- so the first that equals it is itself
first-at : (ns seen : List (List ℕ)) (k : ℕ) → k < length ns → repeats seen ns ≡ false → prefix_len (λ m. not (bytes_eq (get_or ns k []) m)) ns ≡ k
first-at [] seen k l h = absurd (omega arith)
first-at (n ∷ ns) seen zero l h = rw (same-bytes n) refl
first-at (n ∷ ns) seen (suc k) l h =
    let r : repeats (seen ++ n ∷ []) ns ≡ false = (neither (list_any (bytes_eq n) seen) (repeats (seen ++ n ∷ []) ns) h).1 in
    let i : list_any (bytes_eq (get_or ns k [])) (seen ++ n ∷ []) ≡ false = seen-at ns (seen ++ n ∷ []) k (omega arith) r in
    let j : list_any (bytes_eq (get_or ns k [])) (n ∷ []) ≡ false = (neither (list_any (bytes_eq (get_or ns k [])) seen) (list_any (bytes_eq (get_or ns k [])) (n ∷ [])) (sym (list_any-append (bytes_eq (get_or ns k [])) seen (n ∷ [])) ∙ i)).1 in
    let e : bytes_eq (get_or ns k []) n ≡ false = (neither (bytes_eq (get_or ns k []) n) false j).0 in
    let z : 1 + k ≡ suc k = omega arith in
    rw (e, first-at ns (seen ++ n ∷ []) k (omega arith) r) z

some-place : (p n k : ℕ) → p ≡ k → k < n → cond (nat_lt p n) (Some p) None ≡ Some k
some-place p n k e l = let t : nat_lt k n ≡ true = grind (arith, nat_tests) in rw (e, t) refl

found-at : (ns seen : List (List ℕ)) (k : ℕ) → k < length ns → repeats seen ns ≡ false → place_of (get_or ns k []) ns ≡ Some k
found-at ns seen k l h = some-place (prefix_len (λ m. not (bytes_eq (get_or ns k []) m)) ns) (length ns) k (first-at ns seen k l h) l

-- names that differ in two lists together differ in each
apart : (xs seen ys : List (List ℕ)) → repeats seen (xs ++ ys) ≡ false → (repeats seen xs ≡ false) × (repeats (seen ++ xs) ys ≡ false)
apart [] seen ys h = (refl, subst (λ (s : List (List ℕ)). repeats s ys ≡ false) (sym (append-nil seen)) h)
apart (n ∷ xs) seen ys h =
    let i : (list_any (bytes_eq n) seen ≡ false) × (repeats (seen ++ n ∷ []) (xs ++ ys) ≡ false) = neither (list_any (bytes_eq n) seen) (repeats (seen ++ n ∷ []) (xs ++ ys)) h in
    let r : (repeats (seen ++ n ∷ []) xs ≡ false) × (repeats ((seen ++ n ∷ []) ++ xs) ys ≡ false) = apart xs (seen ++ n ∷ []) ys i.1 in
    (rw (i.0, r.0) refl, subst (λ (s : List (List ℕ)). repeats s ys ≡ false) (append_assoc seen (n ∷ []) xs) r.1)

node-name-at : (ns : List NodeSpec) (k : ℕ) → k < length ns → (k < length (node_names ns)) × (get_or (node_names ns) k [] ≡ (get_or ns k no_node).name)
node-name-at [] k l = absurd (omega arith)
node-name-at (n ∷ ns) zero l = (omega arith, refl)
node-name-at (n ∷ ns) (suc k) l = let r : (k < length (node_names ns)) × (get_or (node_names ns) k [] ≡ (get_or ns k no_node).name) = node-name-at ns k (omega arith) in (omega (arith, r.0), r.1)

mark-name-at : (ms : List MarkSpec) (k : ℕ) → k < length ms → (k < length (mark_names ms)) × (get_or (mark_names ms) k [] ≡ (get_or ms k no_mark).name)
mark-name-at [] k l = absurd (omega arith)
mark-name-at (m ∷ ms) zero l = (omega arith, refl)
mark-name-at (m ∷ ms) (suc k) l = let r : (k < length (mark_names ms)) × (get_or (mark_names ms) k [] ≡ (get_or ms k no_mark).name) = mark-name-at ms k (omega arith) in (omega (arith, r.0), r.1)

pub node-found : (s : SchemaSpec) (k : ℕ) → k < length s.nodes → has_double_name s ≡ false → place_of (node_at s k).name (names_of_nodes s) ≡ Some k
node-found s k l h =
    let n : (k < length (names_of_nodes s)) × (get_or (names_of_nodes s) k [] ≡ (node_at s k).name) = node-name-at s.nodes k l in
    ap (λ (name : List ℕ). place_of name (names_of_nodes s)) (sym n.1) ∙ found-at (names_of_nodes s) [] k n.0 (apart (names_of_nodes s) [] (names_of_marks s) h).0

pub mark-found : (s : SchemaSpec) (m : ℕ) → m < length s.marks → has_double_name s ≡ false → place_of (mark_at s m).name (names_of_marks s) ≡ Some m
mark-found s m l h =
    let n : (m < length (names_of_marks s)) × (get_or (names_of_marks s) m [] ≡ (mark_at s m).name) = mark-name-at s.marks m l in
    ap (λ (name : List ℕ). place_of name (names_of_marks s)) (sym n.1) ∙ found-at (names_of_marks s) (names_of_nodes s) m n.0 (apart (names_of_nodes s) [] (names_of_marks s) h).1
