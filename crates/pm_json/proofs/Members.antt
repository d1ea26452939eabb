-- The members of a map, as pairs of a key and a value.
use Rattle.std.proofs.Common.{◌≡◌, ℕ, List, [], ◌∷◌, map, Bor, Ordering, Less, Equal, Greater, nat_cmp, string_bytes, refl, ap, subst, sym, ◌∙◌}
use Rattle.std.specs.BTreeMap.{insert_entry}
use Rattle.std.specs.Cmp.Lexicographic.{slice_cmp}
use Rattle.std.specs.List.{AllByRecursion}
use Rattle.std.specs.List.Sorted.{IsStrictlySortedBy}
use Rattle.std.specs.Map.{keys_of}
use Rattle.std.specs.Ordering.{match_ordering}
use Rattle.json.specs.Value.{value_view}
use Rattle.serde_json.specs.Data.{Data, member, put}
use Rattle.serde_json.specs.View.{view, members_view}
use Rattle.serde_json.specs.declared.value.Value.{Value as Json}
use Rattle.pm_value.specs.Kept.{InOrder}
use Rattle.pm_value.proofs.Names.{Entry, keys}
use Rattle.pm_json.specs.Members.{members_of, data_of}
use Rattle.pm_json.specs.declared.tree.TreeRef.{TreeRef}

abbrev pub Pair : Type 0
Pair = List ℕ × Data

abbrev pub pair_of : Entry → Pair
pair_of e = (string_bytes e.0, view e.1)

abbrev pub pair_of_ref : Bor (List ℕ) × Bor Json → Pair
pair_of_ref m = (m.0.now, view m.1.now)

pub pairs-members : (es : List Entry) → members_of (map pair_of es) ≡ members_view es
pairs-members [] = refl
pairs-members (e ∷ es) = ap (member (string_bytes e.0) (view e.1)) (pairs-members es)

names-ref : (refs : List (Bor (List ℕ) × Bor Json)) → map (λ m. m.0.now) refs ≡ map (λ p. p.0) (map pair_of_ref refs)
names-ref [] = refl
names-ref (m ∷ refs) = ap (λ l. m.0.now ∷ l) (names-ref refs)

names-entries : (es : List Entry) → map (λ p. p.0) (map pair_of es) ≡ keys es
names-entries [] = refl
names-entries (e ∷ es) = ap (λ l. string_bytes e.0 ∷ l) (names-entries es)

-- the names of the references are the map's keys
pub names-same : (refs : List (Bor (List ℕ) × Bor Json)) (es : List Entry) → map pair_of_ref refs ≡ map pair_of es → InOrder (keys es) → InOrder (map (λ m. m.0.now) refs)
names-same refs es same order = subst InOrder (sym (names-ref refs ∙ ap (map (λ p. p.0)) same ∙ names-entries es)) order

-- ---- members of a tree

abbrev pub TreeEntry : Type 0
TreeEntry = Bor (List ℕ) × TreeRef

abbrev pub pair_of_tree : TreeEntry → Pair
pair_of_tree e = (e.0.now, data_of (value_view e.1.tree.now))

abbrev pub by_text : Bor (List ℕ) → Bor (List ℕ) → Ordering
by_text x y = slice_cmp nat_cmp x.now y.now

members-match : (o : Ordering) (a b c : List TreeEntry) → members_of (map pair_of_tree (match_ordering o a b c)) ≡ match_ordering o (members_of (map pair_of_tree a)) (members_of (map pair_of_tree b)) (members_of (map pair_of_tree c))
members-match Less a b c = refl
members-match Equal a b c = refl
members-match Greater a b c = refl

-- an entry that goes to its place in the order is put among the members
pub tree-insert : (es : List TreeEntry) (k : Bor (List ℕ)) (r : TreeRef) → members_of (map pair_of_tree (insert_entry by_text es k r)) ≡ put k.now (data_of (value_view r.tree.now)) (members_of (map pair_of_tree es))
tree-insert [] k r = refl
tree-insert (e ∷ es) k r = members-match (by_text k e.0) _ _ _ ∙ rw (tree-insert es k r)

below : (k : Bor (List ℕ)) (es : List TreeEntry) → AllByRecursion (λ y. by_text k y ≡ Less) (keys_of es) → AllByRecursion (λ y. slice_cmp nat_cmp k.now y ≡ Less) (map (λ e. e.0.now) es)
below k [] h = tt
below k (e ∷ es) h = (h.0, below k es h.1)

-- the keys of such a map stand in byte order
pub tree-sorted : (es : List TreeEntry) → IsStrictlySortedBy by_text (keys_of es) → InOrder (map (λ e. e.0.now) es)
unfolding IsStrictlySortedBy
tree-sorted [] h = tt
tree-sorted (e ∷ es) h = (below e.0 es h.0, tree-sorted es h.1)

names-tree : (es : List TreeEntry) → map (λ e. e.0.now) es ≡ map (λ p. p.0) (map pair_of_tree es)
names-tree [] = refl
names-tree (e ∷ es) = ap (λ l. e.0.now ∷ l) (names-tree es)

pub tree-names : (refs es : List TreeEntry) → map pair_of_tree refs ≡ map pair_of_tree es → InOrder (map (λ e. e.0.now) es) → InOrder (map (λ e. e.0.now) refs)
tree-names refs es same order = subst InOrder (sym (names-tree refs ∙ ap (map (λ p. p.0)) same ∙ sym (names-tree es))) order
