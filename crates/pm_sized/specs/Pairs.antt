-- How items lie in chunks, and what contracts see of them: pairs of an item and its measure.
use Rattle.std.specs.Prelude.{◌≡◌, ℕ, ◌+◌, ◌-◌, ◌≤◌, ◌<◌, ◌^◌, List, [], ◌∷◌, ◌++◌, length, get_or, take}
use Rattle.std.specs.declared.sync.Arc.{Arc}
use Rattle.std.specs.declared.alloc.Global.{Global}
use Rattle.std.specs.Arc.{arc_value}
use Rattle.pm_sized.specs.declared.chunk.Chunk.{Chunk}
use Rattle.pm_sized.specs.declared.few.Few.{Few}
use Rattle.pm_sized.specs.declared.many.Many.{Many}
use Rattle.pm_sized.specs.declared.groups.Groups.{Groups}
use Rattle.pm_sized.specs.declared.chunks.Chunks.{Chunks}
use Rattle.pm_sized.specs.declared.chunks.Chunks.TheVariants.{Few as AsFew, Many as AsMany, Groups as AsGroups}

-- the measures of items that begin at these starts, where the last one ends at `end`
abbrev pub measures : List ℕ → ℕ → List ℕ
measures [] end = []
measures (s ∷ ss) end = (get_or ss 0 end - s) ∷ measures ss end

-- each item with its measure
abbrev pub paired : {T : Type 0} → List T → List ℕ → List (T × ℕ)
paired [] ms = []
paired (x ∷ xs) [] = []
paired (x ∷ xs) (m ∷ ms) = (x, m) ∷ paired xs ms

abbrev pub chunk_pairs : {T : Type 0} → Chunk T → List (T × ℕ)
chunk_pairs c = paired c.items.items (measures c.starts.items c.size)

-- the pairs of the chunks, one after another
abbrev pub all_pairs : {T : Type 0} → List (Arc (Chunk T) Global) → List (T × ℕ)
all_pairs [] = []
all_pairs (c ∷ cs) = chunk_pairs (arc_value c) ++ all_pairs cs

abbrev pub many_pairs : {T : Type 0} → Many T → List (T × ℕ)
many_pairs c = all_pairs c.chunks.items

-- the sum of the measures
abbrev pub total_of : {T : Type 0} → List (T × ℕ) → ℕ
total_of [] = 0
total_of (p ∷ ps) = p.1 + total_of ps

-- each measure is at least 1
abbrev pub EachCounts : {T : Type 0} → List (T × ℕ) → Type 0
EachCounts [] = Unit {0}
EachCounts (p ∷ ps) = (1 ≤ p.1) × EachCounts ps

-- each start is before the next one, and the last is before the end
abbrev pub Rises : List ℕ → ℕ → Type 0
Rises [] end = Unit {0}
Rises (s ∷ ss) end = (s < get_or ss 0 end) × Rises ss end

-- the items have these starts, of which the first is 0, and the last item ends at `end`
pub record IsCounted {T : Type 0} (xs : List T) (ss : List ℕ) (end : ℕ) : Type 0 where
  pub same : length ss ≡ length xs
  pub from : get_or ss 0 end ≡ 0
  pub rises : Rises ss end

-- a chunk with one more item after the others
pub record Grown {T : Type 0} (old : Chunk T) (item : T) (measure : ℕ) (new : Chunk T) : Type 0 where
  pub pairs : chunk_pairs new ≡ chunk_pairs old ++ (item, measure) ∷ []
  pub counted : IsCounted new.items.items new.starts.items new.size
  pub more : length new.items.items ≡ length old.items.items + 1
  pub size : new.size ≡ old.size + measure

-- a chunk has 1 to 63 items, with their starts
pub record IsChunk {T : Type 0} (c : Chunk T) : Type 0 where
  pub counted : IsCounted c.items.items c.starts.items c.size
  pub some : 0 < length c.items.items
  pub most : length c.items.items ≤ 63

-- each chunk has 32 items or more
abbrev pub AreFull : {T : Type 0} → List (Arc (Chunk T) Global) → Type 0
AreFull [] = Unit {0}
AreFull (c ∷ cs) = (32 ≤ length (arc_value c).items.items) × AreFull cs

-- each is a chunk, and each but the last has 32 items or more
abbrev pub AreChunks : {T : Type 0} → List (Arc (Chunk T) Global) → Type 0
AreChunks [] = Unit {0}
AreChunks (c ∷ cs) = IsChunk (arc_value c) × (0 < length cs → 32 ≤ length (arc_value c).items.items) × AreChunks cs

-- The chunks lie as they should: beside each stand the sum of the measures and the number of the items before it.
pub record IsMany {T : Type 0} (c : Many T) : Type 0 where
  pub chunks : AreChunks c.chunks.items
  pub starts_count : length c.starts.items ≡ length c.chunks.items
  pub firsts_count : length c.firsts.items ≡ length c.chunks.items
  pub starts : (k : ℕ) → k < length c.chunks.items → get_or c.starts.items k 0 ≡ total_of (all_pairs (take k c.chunks.items))
  pub firsts : (k : ℕ) → k < length c.chunks.items → get_or c.firsts.items k 0 ≡ length (all_pairs (take k c.chunks.items))
  pub total : c.total ≡ total_of (many_pairs c)
  pub len : c.len ≡ length (many_pairs c)
  pub bound : c.total < 2 ^ 32
  pub few : c.len < 2 ^ 32

-- Few items, each with its measure: there are at most six.
pub record IsFew {T : Type 0} (f : Few T) : Type 0 where
  pub counts : EachCounts f.items.items
  pub most : length f.items.items ≤ 6
  pub total : f.total ≡ total_of f.items.items
  pub bound : f.total < 2 ^ 32

-- what is shared
abbrev pub arc_values : {A : Type 0} → List (Arc A Global) → List A
arc_values [] = []
arc_values (x ∷ xs) = arc_value x ∷ arc_values xs

-- the pairs of lists of chunks, one after another
abbrev pub each_pairs : {T : Type 0} → List (Many T) → List (T × ℕ)
each_pairs [] = []
each_pairs (m ∷ ms) = many_pairs m ++ each_pairs ms

abbrev pub parts_of : {T : Type 0} → Groups T → List (Many T)
parts_of g = arc_values g.parts.items

-- the pairs of the parts, and then those of the rest
abbrev pub group_pairs : {T : Type 0} → Groups T → List (T × ℕ)
group_pairs g = each_pairs (parts_of g) ++ many_pairs g.rest

-- part number `at`, or the rest
abbrev pub part_of : {T : Type 0} → Groups T → ℕ → Many T
part_of g at = get_or (parts_of g) at g.rest

-- a part has 64 chunks, each of 32 items or more
pub record IsPart {T : Type 0} (m : Many T) : Type 0 where
  pub laid : IsMany m
  pub full : AreFull m.chunks.items
  pub count : length m.chunks.items ≡ 64

abbrev pub AreParts : {T : Type 0} → List (Many T) → Type 0
AreParts [] = Unit {0}
AreParts (m ∷ ms) = IsPart m × AreParts ms

-- The parts lie as they should, and after them the rest, in at most 64 chunks: beside each part and beside the rest stand the
-- sum of the measures and the number of the items before it.
pub record IsGrouped {T : Type 0} (g : Groups T) : Type 0 where
  pub parts : AreParts (parts_of g)
  pub starts_count : length g.starts.items ≡ length (parts_of g) + 1
  pub firsts_count : length g.firsts.items ≡ length (parts_of g) + 1
  pub starts : (k : ℕ) → k ≤ length (parts_of g) → get_or g.starts.items k 0 ≡ total_of (each_pairs (take k (parts_of g)))
  pub firsts : (k : ℕ) → k ≤ length (parts_of g) → get_or g.firsts.items k 0 ≡ length (each_pairs (take k (parts_of g)))
  pub rest : IsMany g.rest
  pub most : length g.rest.chunks.items ≤ 64
  pub bound : total_of (group_pairs g) < 2 ^ 32

-- Items in order, each with its measure, however they lie.
abbrev pub pairs_of : {T : Type 0} → Chunks T → List (T × ℕ)
pairs_of (AsFew f) = f.items.items
pairs_of (AsMany m) = many_pairs m
pairs_of (AsGroups b) = group_pairs b.value

-- The items lie as they should.
abbrev pub IsLaid : {T : Type 0} → Chunks T → Type 0
IsLaid (AsFew f) = IsFew f
IsLaid (AsMany m) = IsMany m
IsLaid (AsGroups b) = IsGrouped b.value

-- So many items end at or before the position, and their measures sum up to `start`.
pub record Stands {T : Type 0} (ps : List (T × ℕ)) (pos index start : ℕ) : Type 0 where
  pub within : index ≤ length ps
  pub start_is : start ≡ total_of (take index ps)
  pub reached : start ≤ pos
  pub next : index < length ps → pos < total_of (take (index + 1) ps)

-- the pairs of chunks that are being made, and then those of the growing chunk
abbrev pub built_pairs : {T : Type 0} → Many T → Chunk T → List (T × ℕ)
built_pairs made tail = many_pairs made ++ chunk_pairs tail

-- The chunks that were made have 32 items or more, and the growing one at most so many.
pub record IsBuilt {T : Type 0} (made : Many T) (tail : Chunk T) : Type 0 where
  pub laid : IsMany made
  pub full : AreFull made.chunks.items
  pub counted : IsCounted tail.items.items tail.starts.items tail.size
  pub most : length tail.items.items ≤ 32
