-- Runs of items that are put after others.
use Rattle.std.specs.Prelude.{◌≡◌, ℕ, ◌+◌, ◌-◌, ◌≤◌, List, ◌++◌, length, take, drop}
use Rattle.std.specs.declared.sync.Arc.{Arc}
use Rattle.std.specs.declared.alloc.Global.{Global}
use Rattle.std.specs.Arc.{arc_value}
use Rattle.std.proofs.Common.{ap, sym, ◌∙◌, arith, append_assoc}
use Rattle.pm_sized.specs.declared.chunk.Chunk.{Chunk}
use Rattle.pm_sized.specs.declared.many.Many.{Many}
use Rattle.pm_sized.specs.Pairs.{chunk_pairs, all_pairs, total_of, IsChunk}
use Rattle.pm_sized.specs.Parts.{part, values_in, chunk_values, many_values, IsRun, Appended}
use Rattle.pm_sized.proofs.PairLaws.{total_of-append}
use Rattle.pm_sized.proofs.FindLaws.{Around}
use Rattle.pm_sized.proofs.PartLaws.{part-at, part-middle, length-values, values-append}

-- a shorter part has no greater sum
pub total-shorter : {T : Type 0} (f m t : ℕ) (ps : List (T × ℕ)) → f ≤ m → m ≤ t → total_of (part f m ps) ≤ total_of (part f t ps)
total-shorter f m t ps h k = omega (arith, ap total_of (part-at f m t ps h k), total_of-append (part f m ps) (part m t ps))

-- what is left to be put after
pub total-left : {T : Type 0} (now old ps : List (T × ℕ)) (f i t : ℕ) → now ≡ old ++ part f i ps → f ≤ i → i ≤ t → total_of now + total_of (part i t ps) ≡ total_of old + total_of (part f t ps)
total-left now old ps f i t e h k =
    omega (arith, ap total_of e, total_of-append old (part f i ps), ap total_of (part-at f i t ps h k), total_of-append (part f i ps) (part i t ps))

pub values-more : {T : Type 0} (new now old ps : List (T × ℕ)) (f i t n : ℕ) → now ≡ old ++ part f i ps → Appended now ps i t n new → f ≤ i → new ≡ old ++ part f (i + n) ps
values-more new now old ps f i t n e a h =
    a.values ∙ (ap (λ z. z ++ part i (i + n) ps) e ∙ (append_assoc old (part f i ps) (part i (i + n) ps) ∙ ap (λ z. old ++ z) (sym (part-at f i (i + n) ps h (omega arith)))))

-- a part of a chunk is a run of all
pub run-of : {T : Type 0} (s : Many (Arc T Global)) (at : ℕ) (c : Arc (Chunk (Arc T Global)) Global) (i from end to : ℕ) (y : Chunk (Arc T Global)) → Around s at c → i ≡ length (all_pairs (take at s.chunks.items)) + from → from ≤ end → end ≤ length (arc_value c).items.items → i + (end - from) ≤ to → IsChunk y → length y.items.items ≡ end - from → chunk_values y ≡ part from end (chunk_values (arc_value c)) → IsRun (many_values s) i to y
run-of s at c i from end to y a at-is o l w k n v =
    let A = all_pairs (take at s.chunks.items) in
    let B = chunk_pairs (arc_value c) in
    let C = all_pairs (drop (at + 1) s.chunks.items) in
    let VA = values_in A in
    let VB = values_in B in
    let VC = values_in C in
    let all : many_values s ≡ VA ++ (VB ++ VC) = ap values_in a.split ∙ (values-append A (B ++ C) ∙ ap (λ z. VA ++ z) (values-append B C)) in
    let low : i ≡ length VA + from = omega (arith, at-is, length-values A) in
    let high : i + length y.items.items ≡ length VA + end = omega (arith, low, n, o) in
    let in-chunk : part i (i + length y.items.items) (many_values s) ≡ part from end VB =
    ap (λ z. part i (i + length y.items.items) z) all ∙ (ap (λ z. part z (i + length y.items.items) (VA ++ (VB ++ VC))) low
    ∙ (ap (λ z. part (length VA + from) z (VA ++ (VB ++ VC))) high ∙ part-middle VA VB VC from end o (omega (arith, l, length-values B, a.count)))) in
    record { chunk = k; within = omega (arith, w, n); values = v ∙ sym in-chunk }
