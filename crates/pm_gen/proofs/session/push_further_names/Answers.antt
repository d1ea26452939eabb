use Rattle.std.proofs.Common.{◌≡◌, ◌+◌, ◌-◌, suc, ◌++◌, string_bytes, arith}
use Rattle.pm_gen.specs.Session.{further_name, further_names}
use Rattle.pm_gen.proofs.Steps.{names-next, onto}
use Rattle.pm_gen.proofs.session.push_further_names.Goals as goal

pub loop-client-preserved : goal.loop-client-preserved
loop-client-preserved c =
    let client = c.loop-client.client in
    let left = c.args.clients - (client + 1) in
    let one : c.args.clients - client ≡ suc left = omega arith in
    let put : string_bytes c.push_str.new.self ≡ string_bytes c.loop-client.text ++ further_name (client + 1) = cc (c.in_ok-push_str.ensures.bytes, c.as_str.ensures.value, c.in_ok-further_name.ensures) in
    onto (string_bytes c.loop-client.text) (further_name (client + 1)) (string_bytes c.push_str.new.self) (further_names (client + 1 + 1) left) _ _ put (names-next (client + 1) (c.args.clients - client) left one) c.loop-client.invariant
