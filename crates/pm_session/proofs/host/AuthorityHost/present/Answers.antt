use Rattle.std.proofs.Common.{rules, refl, sym, append-nil}
use Rattle.pm_session.proofs.host.AuthorityHost.present.Goals as goal

pub returns-clause-answered : goal.returns-clause-answered
returns-clause-answered g c =
    let a = c.args.self.now in
    record {
      others = _;
      foreign = tt;
      authority = a;
      first_is = refl;
      log_is = sym (append-nil a.log);
      kept = c.requires.served.0;
      answer_is = search rules;
      new_is = search rules;
    }
