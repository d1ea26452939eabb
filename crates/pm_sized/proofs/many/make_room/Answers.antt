use Rattle.std.proofs.Common.{◌≡◌, ◌≤◌, ap, ◌∙◌, arith, length}
use Rattle.std.specs.Arc.{arc_value}
use Rattle.pm_sized.specs.Pairs.{chunk_pairs, many_pairs, total_of}
use Rattle.pm_sized.proofs.PairLaws.{total_of-append, full-push, counted-along, full-along, pairs-moved}
use Rattle.pm_sized.proofs.many.make_room.Goals as goal

pub push_chunk-requires-clause-room : goal.push_chunk-requires-clause-room
push_chunk-requires-clause-room g c =
    let same : arc_value c.in_ok-new.field-0 ≡ c.args.tail.now = c.in_ok-new.ensures.ok ∙ c.replace-full.ensures.value in
    omega (arith, c.requires.room, total_of-append (many_pairs c.args.made.now) (chunk_pairs c.args.tail.now), ap (λ z. total_of (chunk_pairs z)) same)

pub returns-clause-built : goal.returns-clause-built
returns-clause-built g c =
    let b = c.requires.built in
    let same : arc_value c.in_ok-new.field-0 ≡ c.args.tail.now = c.in_ok-new.ensures.ok ∙ c.replace-full.ensures.value in
    let after : c.replace-full.new.dest ≡ c.new.result = c.replace-full.ensures.after in
    let count : 32 ≤ length (arc_value c.in_ok-new.field-0).items.items = omega (arith, c.if-len-lt-CHUNK.false, c.len.ensures, c.args.tail.now.items.ok.0, ap (λ z. length z.items.items) same) in
    record {
      laid = c.in_ok-push_chunk.ensures.laid;
      full = full-along _ _ c.in_ok-push_chunk.ensures.chunks (full-push c.args.made.now.chunks.items c.in_ok-new.field-0 b.full count);
      counted = counted-along c.new.result c.replace-full.new.dest after c.new.ensures.counted;
      most = omega (arith, c.new.ensures.none, ap (λ z. length z.items.items) after);
    }

pub returns-clause-pairs : goal.returns-clause-pairs
returns-clause-pairs g c =
    let cs = c.args.made.now.chunks.items in
    let ch = c.in_ok-new.field-0 in
    let same : arc_value ch ≡ c.args.tail.now = c.in_ok-new.ensures.ok ∙ c.replace-full.ensures.value in
    let after : c.replace-full.new.dest ≡ c.new.result = c.replace-full.ensures.after in
    pairs-moved c.push_chunk.new.self.chunks.items cs ch c.replace-full.new.dest c.args.tail.now c.in_ok-push_chunk.ensures.chunks (ap chunk_pairs after ∙ c.new.ensures.pairs) same
