-- Values that are put after others, in groups and a part at a time.
use Rattle.std.specs.Prelude.{◌≡◌, ℕ, ◌+◌, ◌-◌, ◌≤◌, ◌<◌, ◌^◌, Bool, true, false, if◌then◌else◌, Result, Ok, Err, OnOk, OnErr, List, [], ◌∷◌, ◌++◌, length, take, drop}
use Rattle.std.specs.declared.sync.Arc.{Arc}
use Rattle.std.specs.declared.alloc.Global.{Global}
use Rattle.std.proofs.Common.{ap, sym, ◌∙◌, arith, append_assoc, inl, inr}
use Rattle.std.proofs.lemmas.Bool.{cases_lt}
use Rattle.std.proofs.lemmas.List.{append-nil, take-take}
use Rattle.pm_sized.specs.declared.chunk.Chunk.{Chunk}
use Rattle.pm_sized.specs.declared.many.Many.{Many}
use Rattle.pm_sized.specs.declared.groups.Groups.{Groups}
use Rattle.pm_sized.specs.Pairs.{chunk_pairs, many_pairs, each_pairs, parts_of, group_pairs, total_of, IsChunk, IsMany, IsGrouped}
use Rattle.pm_sized.specs.Parts.{part, all_but_last, values_in, chunk_values, many_values, group_values, HasShortLast, Lengthened, IsRun, HasFirst}
use Rattle.pm_sized.proofs.PairLaws.{total_of-append}
use Rattle.pm_sized.proofs.FindLaws.{chunk-size, chunk-count}
use Rattle.pm_sized.proofs.PartLaws.{part-at, part-none, part-front, part-all, values-append, length-values, total-values, total-part}
use Rattle.pm_sized.proofs.GrowLaws.{but-last-append}

-- what holds where a part was shared, and where it was not
pub when-shared : {A : Type 0} (b : Bool) (x y z : A) → z ≡ (if b then x else y) → b ≡ true → z ≡ x
when-shared b x y z h e = h ∙ ap (λ w. if w then x else y) e

pub not-shared : {A : Type 0} (b : Bool) (x y z : A) → z ≡ (if b then x else y) → b ≡ false → z ≡ y
not-shared b x y z h e = h ∙ ap (λ w. if w then x else y) e

-- nothing was put after
pub first-none : {T : Type 0} (old all new : List (T × ℕ)) (f t : ℕ) → f ≤ t → new ≡ old → HasFirst old all f t new
first-none old all new f t h e = record {
  until = f;
  from_on = omega arith;
  within = h;
  values = e ∙ (sym (append-nil old) ∙ ap (λ z. old ++ z) (sym (part-none f all)));
}

-- the first of a part
pub part-part : {A : Type 0} (f u t : ℕ) (xs : List A) → f + u ≤ t → part 0 u (part f t xs) ≡ part f (f + u) xs
part-part f u t xs h =
    let n : u ≡ (f + u) - f = omega arith in
    part-front u (part f t xs) ∙ (take-take u (t - f) (drop f xs) (omega (arith, h)) ∙ ap (λ z. take z (drop f xs)) n)

-- the first values of a run
pub first-run : {T : Type 0} (old all new : List (T × ℕ)) (i to : ℕ) (c : Chunk (Arc T Global)) → IsRun all i to c → HasFirst old (chunk_values c) 0 (length (chunk_values c)) new → HasFirst old all i to new
first-run old all new i to c r h =
    let u = h.until in
    let n : length (chunk_values c) ≡ length c.items.items = length-values (chunk_pairs c) ∙ sym (chunk-count c r.chunk.counted) in
    record {
      until = i + u;
      from_on = omega arith;
      within = omega (arith, h.within, n, r.within);
      values = h.values ∙ (ap (λ z. old ++ part 0 u z) r.values ∙ ap (λ z. old ++ z) (part-part i u (i + length c.items.items) all (omega (arith, h.within, n))));
    }

-- some values were put after, and then the first of the others
pub first-further : {T : Type 0} (old now all new : List (T × ℕ)) (f i t : ℕ) → now ≡ old ++ part f i all → f ≤ i → HasFirst now all i t new → HasFirst old all f t new
first-further old now all new f i t e h k = record {
  until = k.until;
  from_on = omega (arith, h, k.from_on);
  within = k.within;
  values = k.values ∙ (ap (λ z. z ++ part i k.until all) e ∙ (append_assoc old (part f i all) (part i k.until all) ∙ ap (λ z. old ++ z) (sym (part-at f i k.until all h k.from_on))));
}

-- there are still no more chunks than a part has
pub most-kept : {T : Type 0} (cs ds : List (Arc (Chunk T) Global)) (n : ℕ) → length cs ≤ 64 → (64 ≤ length cs → HasShortLast cs) → (64 ≤ length cs → n ≤ 32) → Lengthened cs ds n → length ds ≤ 64
most-kept cs ds n most short few l = elim (cases_lt (length cs) 64) [
  | inl b ↦ omega (arith, b, l.by_one)
  | inr b ↦ omega (arith, most, l.kept (short b) (few b))
]

-- no more values than were put after
total-put : {T X E : Type 0} (r : Result X E) (old more new : List (T × ℕ)) → OnOk r (new ≡ old ++ more) → OnErr r (new ≡ old) → total_of new ≤ total_of old + total_of more
total-put (Ok x) old more new h k = omega (arith, ap total_of h, total_of-append old more)
total-put (Err e) old more new h k = omega (arith, ap total_of k)

-- another rest
with-rest : {T : Type 0} (g : Groups T) (n : Many T) → IsGrouped g → IsMany n → length n.chunks.items ≤ 64 → total_of (each_pairs (parts_of g)) + total_of (many_pairs n) < 2 ^ 32 → IsGrouped (record { parts = g.parts; starts = g.starts; firsts = g.firsts; rest = n })
with-rest g n h k most room = record {
  parts = h.parts;
  starts_count = h.starts_count;
  firsts_count = h.firsts_count;
  starts = h.starts;
  firsts = h.firsts;
  rest = k;
  most = most;
  bound = omega (arith, total_of-append (each_pairs (parts_of g)) (many_pairs n), room);
}

-- another rest, where the values were so many before
module _ {T : Type 0} (g : Groups (Arc T Global)) (before : List (T × ℕ)) (same : group_values g ≡ before) where
  values-groups : before ≡ values_in (each_pairs (parts_of g)) ++ many_values g.rest
  values-groups = sym same ∙ values-append (each_pairs (parts_of g)) (many_pairs g.rest)

  pub total-groups : total_of before ≡ total_of (each_pairs (parts_of g)) + total_of (many_values g.rest)
  total-groups =
      let E = each_pairs (parts_of g) in
      omega (arith, ap total_of values-groups, total_of-append (values_in E) (many_values g.rest), total-values E)

  pub last-groups : 0 < length (many_values g.rest) → all_but_last before ≡ values_in (each_pairs (parts_of g)) ++ all_but_last (many_values g.rest)
  last-groups some = ap all_but_last values-groups ∙ but-last-append (values_in (each_pairs (parts_of g))) (many_values g.rest) some

  pub total-last : 0 < length (many_values g.rest) → total_of (all_but_last before) ≡ total_of (each_pairs (parts_of g)) + total_of (all_but_last (many_values g.rest))
  total-last some =
      let E = each_pairs (parts_of g) in
      omega (arith, ap total_of (last-groups some), total_of-append (values_in E) (all_but_last (many_values g.rest)), total-values E)

  module _ (n : Many (Arc T Global)) where
    values-with : group_values (record { parts = g.parts; starts = g.starts; firsts = g.firsts; rest = n }) ≡ values_in (each_pairs (parts_of g)) ++ many_values n
    values-with = values-append (each_pairs (parts_of g)) (many_pairs n)

    pub values-kept : many_values n ≡ many_values g.rest → group_values (record { parts = g.parts; starts = g.starts; firsts = g.firsts; rest = n }) ≡ before
    values-kept e = values-with ∙ (ap (λ z. values_in (each_pairs (parts_of g)) ++ z) e ∙ sym values-groups)

    -- values were put after those of the rest
    pub values-put : (more : List (T × ℕ)) → many_values n ≡ many_values g.rest ++ more → group_values (record { parts = g.parts; starts = g.starts; firsts = g.firsts; rest = n }) ≡ before ++ more
    values-put more e =
        let E = values_in (each_pairs (parts_of g)) in
        values-with ∙ (ap (λ z. E ++ z) e ∙ (sym (append_assoc E (many_values g.rest) more) ∙ ap (λ z. z ++ more) (sym values-groups)))

    pub laid-put : {X F : Type 0} (r : Result X F) (more : List (T × ℕ)) (c : ℕ) → IsGrouped g → IsMany n → (64 ≤ length g.rest.chunks.items → HasShortLast g.rest.chunks.items) → (64 ≤ length g.rest.chunks.items → c ≤ 32) → Lengthened g.rest.chunks.items n.chunks.items c → OnOk r (many_values n ≡ many_values g.rest ++ more) → OnErr r (many_values n ≡ many_values g.rest) → total_of before + total_of more < 2 ^ 32 → IsGrouped (record { parts = g.parts; starts = g.starts; firsts = g.firsts; rest = n })
    laid-put r more c h k short few l ok err room =
        with-rest g n h k (most-kept g.rest.chunks.items n.chunks.items c h.most short few l)
        (omega (arith, room, total-groups, total-put r (many_values g.rest) more (many_values n) ok err, total-values (many_pairs n)))

    -- another value in the place of the last one
    pub values-set : (p : T × ℕ) → 0 < length (many_values g.rest) → many_values n ≡ all_but_last (many_values g.rest) ++ p ∷ [] → group_values (record { parts = g.parts; starts = g.starts; firsts = g.firsts; rest = n }) ≡ all_but_last before ++ p ∷ []
    values-set p some e =
        let E = values_in (each_pairs (parts_of g)) in
        values-with ∙ (ap (λ z. E ++ z) e ∙ (sym (append_assoc E (all_but_last (many_values g.rest)) (p ∷ [])) ∙ ap (λ z. z ++ p ∷ []) (sym (last-groups some))))

    total-set : {X F : Type 0} (r : Result X F) (p : T × ℕ) → IsGrouped g → 0 < length (many_values g.rest) → OnOk r (many_values n ≡ all_but_last (many_values g.rest) ++ p ∷ []) → OnErr r (many_values n ≡ many_values g.rest) → total_of (all_but_last before) + p.1 < 2 ^ 32 → total_of (each_pairs (parts_of g)) + total_of (many_pairs n) < 2 ^ 32
    total-set (Ok x) p h some ok err room =
        omega (arith, room, total-last some, ap total_of ok, total_of-append (all_but_last (many_values g.rest)) (p ∷ []), total-values (many_pairs n))
    total-set (Err x) p h some ok err room =
        omega (arith, h.bound, total-values (group_pairs g), ap total_of same, total-groups, ap total_of err, total-values (many_pairs n))

    pub laid-set : {X F : Type 0} (r : Result X F) (p : T × ℕ) → IsGrouped g → IsMany n → 0 < length (many_values g.rest) → length n.chunks.items ≡ length g.rest.chunks.items → OnOk r (many_values n ≡ all_but_last (many_values g.rest) ++ p ∷ []) → OnErr r (many_values n ≡ many_values g.rest) → total_of (all_but_last before) + p.1 < 2 ^ 32 → IsGrouped (record { parts = g.parts; starts = g.starts; firsts = g.firsts; rest = n })
    laid-set r p h k some count ok err room = with-rest g n h k (omega (arith, h.most, count)) (total-set r p h some ok err room)

-- a chunk that is put in two parts
module _ {T : Type 0} (before : List (T × ℕ)) (v first second : Chunk (Arc T Global)) (count : ℕ) (k : IsChunk v) (count-is : count ≡ length v.items.items) (many : 32 ≤ count) (e : chunk_values first ≡ part 0 32 (chunk_values v)) where
  count-values : length (chunk_values v) ≡ count
  count-values = omega (arith, count-is, length-values (chunk_pairs v), chunk-count v k.counted)

  pub room-first : total_of before + total_of (chunk_values v) < 2 ^ 32 → total_of before + total_of (chunk_values first) < 2 ^ 32
  room-first room = omega (arith, room, ap total_of e, total-part 0 32 (chunk_values v))

  -- the first part is there, and the other one is not
  pub only-first : (now new : List (T × ℕ)) → now ≡ before ++ chunk_values first → new ≡ now → HasFirst before (chunk_values v) 0 (length (chunk_values v)) new
  only-first now new f g = record { until = 32; from_on = omega arith; within = omega (arith, many, count-values); values = g ∙ (f ∙ ap (λ z. before ++ z) e) }

  module _ (now : List (T × ℕ)) (f : now ≡ before ++ chunk_values first) (s : chunk_values second ≡ part 32 count (chunk_values v)) where
    two : chunk_values v ≡ chunk_values first ++ chunk_values second
    two =
        let V = chunk_values v in
        sym (part-all count V (omega (arith, count-values))) ∙ (part-at 0 32 count V (omega arith) many ∙ (ap (λ z. z ++ part 32 count V) (sym e) ∙ ap (λ z. chunk_values first ++ z) (sym s)))

    pub room-second : total_of before + total_of (chunk_values v) < 2 ^ 32 → total_of now + total_of (chunk_values second) < 2 ^ 32
    room-second room =
        omega (arith, room, ap total_of f, total_of-append before (chunk_values first), ap total_of two, total_of-append (chunk_values first) (chunk_values second))

    pub both : (new : List (T × ℕ)) → new ≡ now ++ chunk_values second → new ≡ before ++ chunk_values v
    both new g =
        let A = chunk_values first in
        let B = chunk_values second in
        g ∙ (ap (λ z. z ++ B) f ∙ (append_assoc before A B ∙ ap (λ z. before ++ z) (sym two)))
