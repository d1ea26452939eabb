use Rattle.std.proofs.Common.{◌-◌, ◌<◌, length, arith}
use Rattle.pm_client.proofs.Handed.{hand-reaches}
use Rattle.pm_client.proofs.Plannings.{found, meets-found}
use Rattle.pm_client.proofs.client.Client.plan.Goals as goal

pub plan_for-requires-clause-meets : goal.plan_for-requires-clause-meets
plan_for-requires-clause-meets g c =
    let client = c.args.self.now in
    let answer = c.index-as_slice-i.result in
    let within : c.args.i - 1 < length client.answers = omega arith in
    let is = found client c.args.i c.as_slice.result.now answer c.as_slice.ensures c.index-as_slice-i.is within in
    meets-found g.C.Change.means c.args.rules.now client c.args.i answer c.requires.stands is

pub plan_for-requires-clause-reaches : goal.plan_for-requires-clause-reaches
plan_for-requires-clause-reaches g c =
    let client = c.args.self.now in
    let answer = c.index-as_slice-i.result in
    let within : c.args.i - 1 < length client.answers = omega arith in
    let is = found client c.args.i c.as_slice.result.now answer c.as_slice.ensures c.index-as_slice-i.is within in
    hand-reaches g.C.Change.means c.args.rules.now client c.args.i answer c.args.end is c.requires.leads

pub returns-clause-plan : goal.returns-clause-plan
returns-clause-plan g c =
    let client = c.args.self.now in
    let answer = c.index-as_slice-i.result in
    let within : c.args.i - 1 < length client.answers = omega arith in
    let is = found client c.args.i c.as_slice.result.now answer c.as_slice.ensures c.index-as_slice-i.is within in
    rw is c.plan_for.ensures.plan
