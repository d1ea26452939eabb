-- Parts of items in chunks, and items that are shared.
use Rattle.std.specs.Prelude.{◌≡◌, ℕ, ◌+◌, ◌-◌, ◌≤◌, ◌<◌, Option, Some, None, List, [], ◌∷◌, ◌++◌, length, take, drop, get_or}
use Rattle.std.specs.declared.sync.Arc.{Arc}
use Rattle.std.specs.declared.alloc.Global.{Global}
use Rattle.std.specs.declared.boxed.Box.{Box}
use Rattle.std.specs.Arc.{arc_value}
use Rattle.pm_sized.specs.declared.chunk.Chunk.{Chunk}
use Rattle.pm_sized.specs.declared.many.Many.{Many}
use Rattle.pm_sized.specs.declared.groups.Groups.{Groups}
use Rattle.pm_sized.specs.declared.chunks.Chunks.{Chunks}
use Rattle.pm_sized.specs.declared.chunks.Chunks.TheVariants.{Few as AsFew, Many as AsMany, Groups as AsGroups}
use Rattle.pm_sized.specs.Pairs.{chunk_pairs, many_pairs, group_pairs, pairs_of, IsChunk, IsMany, IsGrouped}

-- those from number `from` on and before number `to`
abbrev pub part : {A : Type 0} → ℕ → ℕ → List A → List A
part from to xs = take (to - from) (drop from xs)

abbrev pub all_but_last : {A : Type 0} → List A → List A
all_but_last xs = take (length xs - 1) xs

-- the items without their measures
abbrev pub items_in : {T : Type 0} → List (T × ℕ) → List T
items_in [] = []
items_in (p ∷ ps) = p.0 ∷ items_in ps

-- Items that are shared, each as the value that is shared, with its measure.
abbrev pub values_in : {T Z : Type 0} → List (Arc T Z × ℕ) → List (T × ℕ)
values_in [] = []
values_in (p ∷ ps) = (arc_value p.0, p.1) ∷ values_in ps

abbrev pub chunk_values : {T : Type 0} → Chunk (Arc T Global) → List (T × ℕ)
chunk_values c = values_in (chunk_pairs c)

abbrev pub many_values : {T : Type 0} → Many (Arc T Global) → List (T × ℕ)
many_values c = values_in (many_pairs c)

abbrev pub group_values : {T : Type 0} → Groups (Arc T Global) → List (T × ℕ)
group_values g = values_in (group_pairs g)

abbrev pub values_of : {T : Type 0} → Chunks (Arc T Global) → List (T × ℕ)
values_of c = values_in (pairs_of c)

-- items that lie in no chunk are fewer than so many
abbrev pub IsBelow : {T : Type 0} → ℕ → Chunks T → Type 0
IsBelow least (AsFew f) = length f.items.items < least
IsBelow least (AsMany m) = Unit {0}
IsBelow least (AsGroups b) = Unit {0}

-- the same values in chunks, or fewer items than so many, or items that lie in chunks
abbrev pub Widened : {T : Type 0} → ℕ → Chunks (Arc T Global) → Option (Many (Arc T Global)) → Type 0
Widened least c None = IsBelow least c
Widened least c (Some m) = IsMany m × (many_values m ≡ values_of c)

-- the same values in groups, or items that stay as they are
abbrev pub Deepened : {T : Type 0} → Chunks (Arc T Global) → Option (Box (Groups (Arc T Global)) Global) → Type 0
Deepened c None = Unit {0}
Deepened c (Some b) = IsGrouped b.value × (group_values b.value ≡ values_of c)

-- a chunk that stayed as it was
pub record Unchanged {T : Type 0} (old new : Chunk T) : Type 0 where
  pub items : new.items.items ≡ old.items.items
  pub starts : new.starts.items ≡ old.starts.items
  pub size : new.size ≡ old.size

-- a chunk of the values from number i on, which end at `to` or before
pub record IsRun {T : Type 0} (all : List (T × ℕ)) (i to : ℕ) (c : Chunk (Arc T Global)) : Type 0 where
  pub chunk : IsChunk c
  pub within : i + length c.items.items ≤ to
  pub values : chunk_values c ≡ part i (i + length c.items.items) all

-- there is a last chunk, and it has fewer than 32 items
abbrev pub HasShortLast : {T : Type 0} → List (Arc (Chunk T) Global) → Type 0
HasShortLast cs = (0 < length cs) × ((c : Arc (Chunk _) Global) → c ≡ get_or cs (length cs - 1) c → length (arc_value c).items.items < 32)

-- With n items more there is at most one chunk more, and none where the last one had fewer than 32 and n is at most 32.
pub record Lengthened {T : Type 0} (cs ds : List (Arc (Chunk T) Global)) (n : ℕ) : Type 0 where
  pub by_one : length ds ≤ length cs + 1
  pub kept : HasShortLast cs → n ≤ 32 → length ds ≤ length cs

-- n of the values from i on, and none from `to` on, were put after those that were there
pub record Appended {T : Type 0} (before all : List (T × ℕ)) (i to n : ℕ) (after : List (T × ℕ)) : Type 0 where
  pub some : 0 < n
  pub within : i + n ≤ to
  pub values : after ≡ before ++ part i (i + n) all

-- the item is after the others, or came back, and nothing changed
abbrev pub HasGrown : {T : Type 0} → List (T × ℕ) → T → ℕ → Option T → List (T × ℕ) → Type 0
HasGrown before item measure None after = after ≡ before ++ (item, measure) ∷ []
HasGrown before item measure (Some back) after = (back ≡ item) × (after ≡ before)

-- where the item came back, a last chunk of fewer than 32 items still has fewer
abbrev pub StaysShort : {T : Type 0} → Option T → List (Arc (Chunk T) Global) → List (Arc (Chunk T) Global) → Type 0
StaysShort None cs ds = Unit {0}
StaysShort (Some back) cs ds = HasShortLast cs → HasShortLast ds

-- the values from..until of the values from..to were put after those that were there
pub record HasFirst {T : Type 0} (before all : List (T × ℕ)) (from to : ℕ) (after : List (T × ℕ)) : Type 0 where
  pub until : ℕ
  pub from_on : from ≤ until
  pub within : until ≤ to
  pub values : after ≡ before ++ part from until all
