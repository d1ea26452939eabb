-- A part of groups, or the rest after them, and what of it is put after other values.
use Rattle.std.specs.Prelude.{◌≡◌, ℕ, ◌+◌, ◌-◌, ◌≤◌, ◌<◌, ◌^◌, List, ◌++◌, length, take, get_or, min}
use Rattle.std.specs.declared.sync.Arc.{Arc}
use Rattle.std.specs.declared.alloc.Global.{Global}
use Rattle.std.proofs.Common.{refl, ap, sym, ◌∙◌, subst, arith}
use Rattle.std.proofs.lemmas.Grind.{get_or_default_zero}
use Rattle.pm_sized.specs.declared.many.Many.{Many}
use Rattle.pm_sized.specs.declared.groups.Groups.{Groups}
use Rattle.pm_sized.specs.Pairs.{many_pairs, each_pairs, parts_of, part_of, group_pairs, total_of, IsMany, IsGrouped}
use Rattle.pm_sized.specs.Parts.{part, values_in, many_values, group_values, Appended, HasFirst}
use Rattle.pm_sized.proofs.PartLaws.{part-all, part-middle, values-append, length-values}
use Rattle.pm_sized.proofs.AppendLaws.{total-shorter}
use Rattle.pm_sized.proofs.GroupLaws.{Inside, inside}

-- The values from..end of m, a part of g or the rest, are those of g from i on in it, and none from `to` on.
pub record Taken {T : Type 0} (g : Groups (Arc T Global)) (at i to from end : ℕ) (m : Many (Arc T Global)) : Type 0 where
  pub is : m ≡ part_of g at
  pub laid : IsGrouped g
  pub at_most : at ≤ length (parts_of g)
  pub low : get_or g.firsts.items at 0 + from ≡ i
  pub next : at + 1 < length g.firsts.items → i < get_or g.firsts.items (at + 1) 0
  pub some : i < to
  pub within : to ≤ length (group_values g)
  pub end_is : end ≡ min m.len (from + (to - i))

pub taken : {T : Type 0} (g : Groups (Arc T Global)) (at i to first end : ℕ) (m : Many (Arc T Global)) (fs : List ℕ) → fs ≡ g.firsts.items → at < length fs → get_or fs at 0 ≤ i → (at + 1 < length fs → i < get_or fs (at + 1) 0) → first ≡ get_or g.firsts.items at first → m ≡ part_of g at → IsGrouped g → i < to → to ≤ length (group_values g) → end ≡ min m.len ((i - first) + (to - i)) → Taken g at i to (i - first) end m
taken g at i to first end m fs f l low next first-is is h some within end-is =
    let b : at < length g.firsts.items = omega (arith, l, ap length f) in
    let start : first ≡ get_or g.firsts.items at 0 = first-is ∙ get_or_default_zero g.firsts.items at first b in
    record {
      is = is;
      laid = h;
      at_most = omega (arith, b, h.firsts_count);
      low = omega (arith, start, low, ap (λ z. get_or z at 0) f);
      next = λ n. omega (arith, next (omega (arith, n, ap length f)), ap (λ z. get_or z (at + 1) 0) f);
      some = some;
      within = within;
      end_is = end-is;
    }

-- what of a part is put after other values
module _ {T : Type 0} (g : Groups (Arc T Global)) (at i to from end : ℕ) (m : Many (Arc T Global)) (t : Taken g at i to from end m) where
  a : Inside g at (part_of g at)
  a = inside g at t.laid t.at_most

  pub seen-laid : IsMany m
  seen-laid = let P : Many (Arc T Global) → Type 0 = IsMany in subst P (sym t.is) a.laid

  count : m.len ≡ length (many_values m)
  count = omega (arith, seen-laid.len, length-values (many_pairs m))

  at-is : i ≡ length (values_in (each_pairs (take at (parts_of g)))) + from
  at-is = omega (arith, t.low, t.laid.firsts at t.at_most, length-values (each_pairs (take at (parts_of g))))

  below : from < length (many_values m)
  below =
      omega (
        arith,
        a.last i (omega (arith, t.some, t.within, length-values (group_pairs g))) t.next,
        at-is,
        length-values (each_pairs (take at (parts_of g))),
        length-values (many_pairs m),
        ap (λ z. length (many_pairs z)) t.is,
      )

  pub some-seen : from < end
  some-seen = omega (arith, below, count, t.end_is, t.some)

  pub end-within : end ≤ length (many_values m)
  end-within = omega (arith, count, t.end_is)

  end-before : i + (end - from) ≤ to
  end-before = omega (arith, t.end_is, t.some)

  -- a part of its values is one of all
  part-seen : (e : ℕ) → from ≤ e → e ≤ length (many_values m) → part from e (many_values m) ≡ part i (i + (e - from)) (group_values g)
  part-seen e o l =
      let A = each_pairs (take at (parts_of g)) in
      let B = many_pairs (part_of g at) in
      let VA = values_in A in
      let VB = values_in B in
      let VC = values_in a.behind in
      let all : group_values g ≡ VA ++ (VB ++ VC) = ap (λ z. values_in z) a.split ∙ (values-append A (B ++ a.behind) ∙ ap (λ z. VA ++ z) (values-append B a.behind)) in
      let high : i + (e - from) ≡ length VA + e = omega (arith, at-is, o) in
      sym (
      ap (λ z. part i (i + (e - from)) z) all ∙ (ap (λ z. part z (i + (e - from)) (VA ++ (VB ++ VC))) at-is ∙ (ap (λ z. part (length VA + from) z (VA ++ (VB ++ VC))) high
      ∙ (part-middle VA VB VC from e o (omega (arith, l, ap (λ z. length (many_values z)) t.is)) ∙ ap (λ z. part from e (many_values z)) (sym t.is))))
      )

  pub room-seen : (now : ℕ) → now + total_of (part i to (group_values g)) < 2 ^ 32 → now + total_of (part from end (many_values m)) < 2 ^ 32
  room-seen now room =
      omega (arith, room, ap total_of (part-seen end (omega (arith, some-seen)) end-within), total-shorter i (i + (end - from)) to (group_values g) (omega arith) end-before)

  pub appended-seen : (old now new : List (T × ℕ)) (n : ℕ) → now ≡ old → Appended now (many_values m) from end n new → Appended old (group_values g) i to n new
  appended-seen old now new n e x =
      let d : (from + n) - from ≡ n = omega arith in
      record {
        some = x.some;
        within = omega (arith, x.within, end-before, some-seen);
        values = x.values ∙ (ap (λ z. z ++ part from (from + n) (many_values m)) e
            ∙ ap (λ z. old ++ z) (part-seen (from + n) (omega arith) (omega (arith, x.within, end-within)) ∙ ap (λ z. part i (i + z) (group_values g)) d));
      }

  pub first-seen : (old now new : List (T × ℕ)) → now ≡ old → HasFirst now (many_values m) from end new → HasFirst old (group_values g) i to new
  first-seen old now new e x = record {
    until = i + (x.until - from);
    from_on = omega arith;
    within = omega (arith, x.within, end-before, some-seen);
    values = x.values ∙ (ap (λ z. z ++ part from x.until (many_values m)) e ∙ ap (λ z. old ++ z) (part-seen x.until x.from_on (omega (arith, x.within, end-within))));
  }

  -- all of it
  module _ (x : Many (Arc T Global)) (x-is : x ≡ part_of g at) (first : from ≡ 0) (last : end ≡ m.len) where
    whole : many_values x ≡ part from end (many_values m)
    whole =
        ap (λ z. many_values z) (x-is ∙ sym t.is) ∙ (sym (part-all end (many_values m) (omega (arith, last, count))) ∙ ap (λ z. part z end (many_values m)) (sym first))

    pub room-whole : (now : ℕ) → now + total_of (part i to (group_values g)) < 2 ^ 32 → now + total_of (many_values x) < 2 ^ 32
    room-whole now room = omega (arith, room-seen now room, ap total_of whole)

    pub appended-whole : (old new : List (T × ℕ)) → new ≡ old ++ many_values x → Appended old (group_values g) i to end new
    appended-whole old new e =
        let n : end ≡ from + end = omega (arith, first) in
        appended-seen old old new end refl (record {
          some = omega (arith, some-seen);
          within = omega (arith, first);
          values = e ∙ ap (λ z. old ++ z) (whole ∙ ap (λ z. part from z (many_values m)) n);
        })
