use Rattle.std.proofs.Common.{◌≡◌, ◌+◌, ◌-◌, ap, sym, ◌∙◌, length, take, subst, arith}
use Rattle.std.specs.Arc.{arc_value}
use Rattle.pm_sized.specs.Pairs.{many_pairs, arc_values, IsMany}
use Rattle.pm_sized.proofs.SharingLaws.{some-parts, last-part, reopened-pairs, reopened-some, reopened-laid}
use Rattle.pm_sized.proofs.CopyLaws.{length-shared}
use Rattle.pm_sized.proofs.grouping.Groups+Arc+T+Global.reopen.Goals as goal

pub copy-requires : goal.copy-requires
copy-requires g c =
    let s = c.args.self.now in
    let h = c.requires.laid in
    let x = c.index.result.now in
    let n = c.len.result - 1 in
    let at : n + 1 ≡ length s.parts.items = omega (arith, c.len.ensures, s.parts.ok.0, some-parts s h c.requires.some c.if-self-gt0.false) in
    record { laid = subst IsMany (sym c.deref.ensures) (last-part s n x h at c.index.ensures).laid }

pub returns-clause-laid : goal.returns-clause-laid
returns-clause-laid g c =
    let s = c.args.self.now in
    let h = c.requires.laid in
    let x = c.index.result.now in
    let n = c.len.result - 1 in
    let at : n + 1 ≡ length s.parts.items = omega (arith, c.len.ensures, s.parts.ok.0, some-parts s h c.requires.some c.if-self-gt0.false) in
    let parts : c.pop.new.self.items ≡ take n s.parts.items = c.pop.ensures.rest ∙ ap (λ z. take (z - 1) s.parts.items) (sym c.len.ensures) in
    let pairs : many_pairs c.in_ok-rest.rest ≡ many_pairs (arc_value x) = c.in_ok-rest.ensures.pairs ∙ ap many_pairs c.deref.ensures in
    let chunks : arc_values c.in_ok-rest.rest.chunks.items ≡ arc_values (arc_value x).chunks.items = c.in_ok-rest.ensures.chunks ∙ ap (λ z. arc_values z.chunks.items) c.deref.ensures in
    let starts : n + 1 ≡ c.args.self.now.starts.len - 1 = omega (arith, at, s.starts.ok.0, h.starts_count, length-shared s.parts.items) in
    let firsts : n + 1 ≡ c.args.self.now.firsts.len - 1 = omega (arith, at, s.firsts.ok.0, h.firsts_count, length-shared s.parts.items) in
    reopened-laid s n x h at c.index.ensures c.pop.new.self c.in_ok-rest.rest c.if-self-gt0.false parts pairs c.in_ok-rest.ensures.laid chunks
    c.pop-2.new.self c.pop-3.new.self (c.pop-2.ensures.rest ∙ ap (λ z. take z s.starts.items) (sym starts)) (c.pop-3.ensures.rest ∙ ap (λ z. take z s.firsts.items) (sym firsts))

pub returns-clause-same : goal.returns-clause-same
returns-clause-same g c =
    let s = c.args.self.now in
    let h = c.requires.laid in
    let x = c.index.result.now in
    let n = c.len.result - 1 in
    let at : n + 1 ≡ length s.parts.items = omega (arith, c.len.ensures, s.parts.ok.0, some-parts s h c.requires.some c.if-self-gt0.false) in
    let parts : c.pop.new.self.items ≡ take n s.parts.items = c.pop.ensures.rest ∙ ap (λ z. take (z - 1) s.parts.items) (sym c.len.ensures) in
    let pairs : many_pairs c.in_ok-rest.rest ≡ many_pairs (arc_value x) = c.in_ok-rest.ensures.pairs ∙ ap many_pairs c.deref.ensures in
    reopened-pairs s n x h at c.index.ensures c.pop.new.self c.in_ok-rest.rest c.if-self-gt0.false parts pairs

pub returns-clause-some : goal.returns-clause-some
returns-clause-some g c =
    let s = c.args.self.now in
    let h = c.requires.laid in
    let x = c.index.result.now in
    let n = c.len.result - 1 in
    let at : n + 1 ≡ length s.parts.items = omega (arith, c.len.ensures, s.parts.ok.0, some-parts s h c.requires.some c.if-self-gt0.false) in
    let parts : c.pop.new.self.items ≡ take n s.parts.items = c.pop.ensures.rest ∙ ap (λ z. take (z - 1) s.parts.items) (sym c.len.ensures) in
    let pairs : many_pairs c.in_ok-rest.rest ≡ many_pairs (arc_value x) = c.in_ok-rest.ensures.pairs ∙ ap many_pairs c.deref.ensures in
    let chunks : arc_values c.in_ok-rest.rest.chunks.items ≡ arc_values (arc_value x).chunks.items = c.in_ok-rest.ensures.chunks ∙ ap (λ z. arc_values z.chunks.items) c.deref.ensures in
    reopened-some s n x h at c.index.ensures c.pop.new.self c.in_ok-rest.rest c.if-self-gt0.false parts pairs c.in_ok-rest.ensures.laid chunks
