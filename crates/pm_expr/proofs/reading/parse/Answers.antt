use Rattle.std.proofs.Common.{◌≡◌, length, Result, Err, refl, sym, ◌∙◌, ap, subst}
use Rattle.pm_auto.specs.Tree.{Tree, tree}
use Rattle.pm_expr.specs.Tokens.{tokens}
use Rattle.pm_expr.specs.Reading.{Is}
use Rattle.pm_expr.specs.Levels.{no_levels, counted, depth_flaw}
use Rattle.pm_expr.specs.Reader.{State, start, outcome, finished, step, unless_fault, ◌>>=◌}
use Rattle.pm_expr.specs.Views.{left_of, levels_in, state_of, token_of}
use Rattle.pm_expr.specs.declared.error.ExprError.{ExprError as Fault}
use Rattle.pm_expr.proofs.ReadingLaws.{outcome-is, outcome-only, steps-is, count-fault, handed-is}
use Rattle.pm_expr.proofs.reading.parse.Goals as goal

-- the outcome of the text
abbrev outcome_of : goal.Joined-reader → Result Tree Fault
outcome_of c = outcome c.args.names.now (length c.args.text.now) (tokens c.args.text.now) no_levels start

-- what is said of the tokens after the one that was taken
abbrev onward_of : goal.Joined-reader → State → Result Tree Fault
onward_of c z =
    let t = token_of c.in-Some.token in
    let l = levels_in c.loop-token.levels in
    unless_fault (depth_flaw l t) (outcome c.args.names.now (length c.args.text.now) (left_of c.take.new.self) (counted l t) z)

fault-is : (c : goal.Joined-reader) → Is tree c.from_residual.result (outcome_of c)
fault-is c =
    let onward = onward_of c in
    let read = step c.args.names.now (state_of c.loop-token.reader) (token_of c.in-Some.token) in
    let e : read >>= onward ≡ outcome_of c =
    sym (ap (λ z. outcome c.args.names.now (length c.args.text.now) z (levels_in c.loop-token.levels) (state_of c.loop-token.reader)) c.in-Some.ensures.token) ∙ c.loop-token.invariant.same in
    let f = c.in_err-read.field-0.0 in
    handed-is tree c.from_residual.result f (outcome_of c) c.from_residual.ensures.1
    (subst (λ z. Is tree (Err f) z) e (steps-is (Unit {0}) tree f (state_of c.read.new.self) read onward c.in_err-read.ensures))

pub returns-in_err-read-clause-told : goal.returns-in_err-read-clause-told
returns-in_err-read-clause-told c = (outcome_of c, outcome-is c.args.names.now c.args.text.now (length c.args.text.now) refl, fault-is c)

pub returns-in_err-read-clause-only : goal.returns-in_err-read-clause-only
returns-in_err-read-clause-only c r h = subst (λ z. Is tree c.from_residual.result z) (outcome-only c.args.names.now c.args.text.now r h) (fault-is c)

pub returns-in_err-read-clause-computed : goal.returns-in_err-read-clause-computed
returns-in_err-read-clause-computed c = fault-is c

pub returns-in_err-count-clause-told : goal.returns-in_err-count-clause-told
returns-in_err-count-clause-told c =
    let names = c.args.names.now in
    let text = c.args.text.now in
    let f = c.in_err-count.field-0.0 in
    let whole : Result Tree Fault = outcome names (length text) (tokens text) no_levels start in
    let l = levels_in c.loop-token.levels in
    let s = state_of c.loop-token.reader in (
      whole,
      outcome-is names text (length text) refl,
      handed-is tree c.from_residual-in_err-count.result f whole c.from_residual-in_err-count.ensures.1
          (count-fault (Unit {0}) tree names (length text) (left_of c.take.new.self) (token_of c.in-Some.token) l (levels_in c.count.new.self) s (state_of c.read.new.self) f whole c.in_ok-read.ensures
          (sym (ap (λ z. outcome names (length text) z l s) c.in-Some.ensures.token) ∙ c.loop-token.invariant.same) c.in_err-count.ensures),
    )

pub returns-in_err-count-clause-only : goal.returns-in_err-count-clause-only
returns-in_err-count-clause-only c r h =
    let told = returns-in_err-count-clause-told c in
    subst (λ z. Is tree c.from_residual-in_err-count.result z) (sym (outcome-only c.args.names.now c.args.text.now told.0 told.1) ∙ outcome-only c.args.names.now c.args.text.now r h) told.2

pub returns-clause-told : goal.returns-clause-told
returns-clause-told c =
    let text = c.args.text.now in
    let m = c.in_default in
    let e : finished (length text) (state_of c.loop-token.reader) ≡ outcome c.args.names.now (length text) (tokens text) no_levels start =
    sym (ap (λ z. outcome c.args.names.now (length text) z (levels_in c.loop-token.levels) (state_of c.loop-token.reader)) m.ensures.token) ∙ c.loop-token.invariant.same in (
      outcome c.args.names.now (length text) (tokens text) no_levels start,
      outcome-is c.args.names.now text (length text) refl,
      subst (λ z. Is tree c.finish.result z) e c.finish.ensures,
    )

pub returns-clause-only : goal.returns-clause-only
returns-clause-only c r h =
    let text = c.args.text.now in
    let m = c.in_default in
    let e : finished (length text) (state_of c.loop-token.reader) ≡ outcome c.args.names.now (length text) (tokens text) no_levels start =
    sym (ap (λ z. outcome c.args.names.now (length text) z (levels_in c.loop-token.levels) (state_of c.loop-token.reader)) m.ensures.token) ∙ c.loop-token.invariant.same in
    subst (λ z. Is tree c.finish.result z) (e ∙ outcome-only c.args.names.now text r h) c.finish.ensures

pub returns-clause-computed : goal.returns-clause-computed
returns-clause-computed c =
    subst (λ z. Is tree c.finish.result z)
    (sym (ap (λ z. outcome c.args.names.now (length c.args.text.now) z (levels_in c.loop-token.levels) (state_of c.loop-token.reader)) c.in_default.ensures.token) ∙ c.loop-token.invariant.same)
    c.finish.ensures
