use Rattle.std.proofs.Common.{◌≡◌, ◌-◌, ap, ◌∙◌, length, arith}
use Rattle.std.specs.Arc.{arc_value}
use Rattle.pm_sized.specs.Pairs.{all_pairs, total_of}
use Rattle.pm_sized.specs.Parts.{all_but_last}
use Rattle.pm_sized.proofs.PartLaws.{few-within}
use Rattle.pm_sized.proofs.LastLaws.{front-of, full-all, chunk-in, chunks-take, length-pushed, total-pushed}
use Rattle.pm_sized.proofs.grow.Many+Arc+T+Global.replace_by_two.Goals as goal

pub replace_last-last-requires-clause-few : goal.replace_last-last-requires-clause-few
replace_last-last-requires-clause-few g c =
    let cs = c.args.self.now.chunks.items in
    omega (arith, c.requires.room, few-within (all_but_last cs) (arc_value c.args.full) (chunks-take cs (length cs - 1) c.requires.laid.chunks) c.requires.full.counted)

pub push_chunk-requires-clause-full : goal.push_chunk-requires-clause-full
push_chunk-requires-clause-full g c =
    let r = c.replace_last-last.ensures in
    full-all (all_but_last c.args.self.now.chunks.items) c.replace_last-last.new.self.chunks.items c.args.full r.chunks r.laid.chunks c.requires.enough

pub push_chunk-requires-clause-few : goal.push_chunk-requires-clause-few
push_chunk-requires-clause-few g c =
    let r = c.replace_last-last.ensures in
    let ds = c.replace_last-last.new.self.chunks.items in
    omega (arith, c.requires.room, few-within ds (arc_value c.args.rest) r.laid.chunks c.requires.rest.counted, total-pushed (all_but_last c.args.self.now.chunks.items) ds c.args.full r.chunks)

pub push_chunk-requires-clause-room : goal.push_chunk-requires-clause-room
push_chunk-requires-clause-room g c =
    omega (arith, c.requires.room, total-pushed (all_but_last c.args.self.now.chunks.items) c.replace_last-last.new.self.chunks.items c.args.full c.replace_last-last.ensures.chunks)

pub replace_last-requires-clause-chunk : goal.replace_last-requires-clause-chunk
replace_last-requires-clause-chunk g c =
    chunk-in (all_but_last c.args.self.now.chunks.items) c.args.self.now.chunks.items c.replace_last-last.result c.replace_last-last.ensures.was c.requires.laid.chunks

pub replace_last-requires-clause-few : goal.replace_last-requires-clause-few
replace_last-requires-clause-few g c =
    let cs = c.args.self.now.chunks.items in
    let front = all_but_last cs in
    let same : all_but_last c.push_chunk.new.self.chunks.items ≡ front = ap all_but_last (c.in-Err.ensures.err ∙ c.replace_last-last.ensures.chunks) ∙ front-of front c.args.full in
    omega (arith, ap (λ z. length (all_pairs z)) same, length-pushed front cs c.replace_last-last.result c.replace_last-last.ensures.was, c.requires.laid.len, c.requires.laid.few)

pub replace_last-requires-clause-room : goal.replace_last-requires-clause-room
replace_last-requires-clause-room g c =
    let cs = c.args.self.now.chunks.items in
    let front = all_but_last cs in
    let same : all_but_last c.push_chunk.new.self.chunks.items ≡ front = ap all_but_last (c.in-Err.ensures.err ∙ c.replace_last-last.ensures.chunks) ∙ front-of front c.args.full in
    omega (arith, ap (λ z. total_of (all_pairs z)) same, total-pushed front cs c.replace_last-last.result c.replace_last-last.ensures.was, c.requires.laid.total, c.requires.laid.bound)
