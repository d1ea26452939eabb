use Rattle.std.proofs.Common.{◌≡◌, ◌++◌, ap, ◌∙◌, arith}
use Rattle.pm_sized.specs.Pairs.{total_of}
use Rattle.pm_sized.specs.Parts.{part, values_in, chunk_values}
use Rattle.pm_sized.proofs.FindLaws.{chunk-size, chunk-count}
use Rattle.pm_sized.proofs.PartLaws.{part-all, part-front, length-values, total-values}
use Rattle.pm_sized.specs.Pairs.{chunk_pairs}
use Rattle.pm_sized.proofs.runs.extended.Goals as goal
use Rattle.pm_sized.proofs.runs.extended.Goals.{In_ok-append_run}

-- the first chunk's items were copied
first : (g : _) (c : In_ok-append_run g) → chunk_values c.append_run.new.self ≡ chunk_values c.args.chunk.now
first g c =
    let v = c.args.chunk.now in
    c.in_ok-append_run.ensures.values ∙ (ap (λ z. values_in z ++ part 0 c.len-2.result (chunk_values v)) c.in_ok-made.ensures.pairs
    ∙ part-all c.len-2.result (chunk_values v) (omega (arith, length-values (chunk_pairs v), chunk-count v c.requires.chunk.counted, c.len-2.ensures, v.items.ok.0)))

pub append_run-requires-2-clause-room : goal.append_run-requires-2-clause-room
append_run-requires-2-clause-room g c =
    let v = c.args.chunk.now in
    let now = c.append_run.new.self in
    let same = first g ((goal.at.append_run-requires-2-clause-room g c).In_ok-append_run) in
    omega (arith, c.requires.room, chunk-size now c.in_ok-append_run.ensures.counted, chunk-size v c.requires.chunk.counted, total-values (chunk_pairs now), total-values (chunk_pairs v), ap total_of same)

pub returns-clause-values : goal.returns-clause-values
returns-clause-values g c =
    let same = first g ((goal.at.returns-clause-values g c).In_ok-append_run) in
    let more = chunk_values c.args.more.now in
    ap chunk_values c.in_ok-new.ensures.ok ∙ (c.in_ok-append_run-2.ensures.values ∙ (ap (λ z. z ++ part 0 c.args.count more) same ∙ ap (λ z. chunk_values c.args.chunk.now ++ z) (part-front c.args.count more)))
