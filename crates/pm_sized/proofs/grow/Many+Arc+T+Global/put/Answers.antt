use Rattle.std.proofs.Common.{length, arith}
use Rattle.std.specs.Arc.{arc_value}
use Rattle.pm_sized.specs.Pairs.{chunk_pairs, many_pairs}
use Rattle.pm_sized.proofs.PartLaws.{few-within, total-values}
use Rattle.pm_sized.proofs.LastLaws.{values-pushed}
use Rattle.pm_sized.proofs.SharingLaws.{lengthened-push}
use Rattle.pm_sized.proofs.grow.Many+Arc+T+Global.put.Goals as goal

pub push_chunk-requires-clause-few : goal.push_chunk-requires-clause-few
push_chunk-requires-clause-few g c =
    let s = c.args.self.now in
    let v = arc_value c.args.chunk in
    omega (arith, c.requires.room, total-values (many_pairs s), total-values (chunk_pairs v), few-within s.chunks.items v c.requires.laid.chunks c.requires.chunk.counted)

pub push_chunk-requires-clause-room : goal.push_chunk-requires-clause-room
push_chunk-requires-clause-room g c =
    omega (arith, c.requires.room, total-values (many_pairs c.args.self.now), total-values (chunk_pairs (arc_value c.args.chunk)))

pub returns-clause-ok : goal.returns-clause-ok
returns-clause-ok g c = values-pushed c.args.self.now.chunks.items c.push_chunk.new.self.chunks.items c.args.chunk c.in_ok-push_chunk.ensures.chunks

pub returns-clause-chunks : goal.returns-clause-chunks
returns-clause-chunks g c =
    let v = arc_value c.args.chunk in
    lengthened-push c.args.self.now.chunks.items c.push_chunk.new.self.chunks.items c.args.chunk (length v.items.items) c.in_ok-push_chunk.ensures.chunks (c.ends_short.ensures.no c.if-ends_short.false)
