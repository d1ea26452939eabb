use Rattle.std.proofs.Common.{◌∙◌, ◌≡◌, ◌++◌, ◌∷◌, sym, ap}
use Rattle.pm_serve.proofs.Cuts.{rest_of}
use Rattle.pm_serve.proofs.unread.Unread.pass_on.Goals as goal

pub returns-in-Some : goal.returns-in-Some
returns-in-Some c =
    let piece = c.self.inside.piece.items in
    let same : c.deref.result.now ≡ piece = c.deref.ensures.value in
    let p = rw same at c.in-Some.ensures in
    record {
      front = p.front;
      split = sym c.self.view_is ∙ p.split ∙ ap (λ r. p.front ++ 10 ∷ r) (rest_of piece c.self.inside.at c.self.inside.end c.in-Some.n p.within);
      one = p.one;
      kept = p.kept;
    }
