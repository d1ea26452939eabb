use Rattle.std.proofs.Common.{◌+◌, ◌<◌, ◌^◌, ◌++◌, length, arith, ap, ◌∙◌}
use Rattle.pm_tokens.specs.Scan.{part}
use Rattle.pm_sized.specs.Pairs.{pairs_of}
use Rattle.pm_sized.proofs.PartLaws.{length-values}
use Rattle.pm_node.specs.Trees.{list_tokens}
use Rattle.pm_node.specs.Chunks.{nodes_of}
use Rattle.pm_node.proofs.ChunkLaws.{length-items, total-run, tokens-until, kept-until}
use Rattle.pm_node.proofs.node.Fragment.append.Goals as goal

pub append-requires-clause-within : goal.append-requires-clause-within
append-requires-clause-within c = omega (arith, c.requires.within, ap length c.source.view_is, length-items (pairs_of c.source.inside.nodes.now), length-values (pairs_of c.source.inside.nodes.now))

pub append-requires-clause-room : goal.append-requires-clause-room
append-requires-clause-room c =
    let src = c.source.inside.nodes.now in
    let xs = c.args.source.now in
    let k = c.in_ok-i.ensures in
    let s = c.join_first.new.nodes in
    let old = list_tokens (nodes_of c.self.inside.nodes) in
    let room : length old + length (list_tokens (part c.args.from c.args.to xs)) < 2 ^ 32 = omega (arith, c.requires.room, ap length c.self.view_is) in
    total-run s src old xs c.args.from c.args.to c.in_ok-i.i k.kept c.source.invariant c.source.view_is k.ok room

pub returns : goal.returns
returns c =
    let src = c.source.inside.nodes.now in
    let xs = c.args.source.now in
    let k = c.in_ok-i.ensures in
    let s = c.join_first.new.nodes in
    let old = list_tokens (nodes_of c.self.inside.nodes) in
    let room : length old + length (list_tokens (part c.args.from c.args.to xs)) < 2 ^ 32 = omega (arith, c.requires.room, ap length c.self.view_is) in
    tokens-until s c.append.new.self src old xs c.args.from c.args.to c.in_ok-i.i c.args.to c.source.view_is k.ok k.ok.within (omega arith) c.in_ok-append.ensures.ok ∙ ap (λ z. z ++ list_tokens (part c.args.from c.args.to xs)) c.self.view_is

pub invariant_of-self-in_err-append : goal.invariant_of-self-in_err-append
invariant_of-self-in_err-append c =
    let src = c.source.inside.nodes.now in
    let xs = c.args.source.now in
    let k = c.in_ok-i.ensures in
    let s = c.join_first.new.nodes in
    let old = list_tokens (nodes_of c.self.inside.nodes) in
    let room : length old + length (list_tokens (part c.args.from c.args.to xs)) < 2 ^ 32 = omega (arith, c.requires.room, ap length c.self.view_is) in
    let h = c.in_err-append.ensures.err in
    kept-until s c.append.new.self src old xs c.args.from c.args.to c.in_ok-i.i h.until c.source.view_is k.ok h.from_on h.within h.values k.kept c.in_err-append.ensures.laid c.source.invariant c.requires.normal c.requires.each room

pub invariant_of-self-2 : goal.invariant_of-self-2
invariant_of-self-2 c =
    let src = c.source.inside.nodes.now in
    let xs = c.args.source.now in
    let k = c.in_ok-i.ensures in
    let s = c.join_first.new.nodes in
    let old = list_tokens (nodes_of c.self.inside.nodes) in
    let room : length old + length (list_tokens (part c.args.from c.args.to xs)) < 2 ^ 32 = omega (arith, c.requires.room, ap length c.self.view_is) in
    kept-until s c.append.new.self src old xs c.args.from c.args.to c.in_ok-i.i c.args.to c.source.view_is k.ok k.ok.within (omega arith) c.in_ok-append.ensures.ok k.kept c.in_ok-append.ensures.laid c.source.invariant c.requires.normal c.requires.each room
