use Rattle.std.proofs.Common.{◌+◌, ◌≤◌, [], ◌∷◌, arith, sym, ◌∙◌, refl}
use Rattle.std.proofs.lemmas.Result.{on_ok_weaker}
use Rattle.pm_tokens.specs.Tokens.{Open}
use Rattle.pm_schema.specs.Documents.{documents_of}
use Rattle.pm_apply.specs.declared.marking.Reach.TheVariants.{Inline}
use Rattle.pm_apply.proofs.MarkedNodes.{sort-is}
use Rattle.pm_apply.proofs.TakenWalk.{took-past, took-open, on-both}
use Rattle.pm_apply.proofs.runs.Runs.take_open.Goals as goal

pub returns-then-from-gt0 : goal.returns-then-from-gt0
returns-then-from-gt0 c =
    let s = documents_of c.args.walk.now.schema.now.spec in
    let n = c.args.node.now in
    let ts = Open n.kind n.attrs n.marks ∷ [] in
    let h : c.args.from ≤ c.args.from + 1 = omega arith in
    on_ok_weaker c.pass.result
    (λ e. took-past s c.args.walk.now.marking.now c.args.walk.now.parent c.args.at c.args.from (c.args.from + 1) h ts c.args.self.now c.pass.new.self (omega (arith, c.if-from-gt0.true)) (e s ts refl))
    c.pass.ensures

pub returns : goal.returns
returns c =
    let s = documents_of c.args.walk.now.schema.now.spec in
    let n = c.args.node.now in
    let sort = sort-is s c.args.walk.now.marking.now Inline c.of-sort.result c.args.walk.now.parent (Open n.kind n.attrs n.marks) n.marks c.of-sort.ensures.takes c.of-sort.ensures.inline c.of-sort.ensures.node in
    on-both c.token.result
    (λ x y. took-open s c.args.walk.now.marking.now c.args.walk.now.parent c.args.at c.args.from n c.in_ok-new.new c.of-sort.result.takes c.args.self.now c.token.new.self
    (omega (arith, c.if-from-gt0.false)) (sym (c.in_ok-new.ensures ∙ sort)) c.of-sort.ensures.takes x y)
    c.token.ensures.steps c.token.ensures.run
